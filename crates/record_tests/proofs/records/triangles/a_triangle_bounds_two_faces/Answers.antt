use Rattle.std.proofs.Common.{refl}
use Rattle.slab_laws.specs.Tables.{row_at}
use Rattle.record_tests.proofs.records.triangles.a_triangle_bounds_two_faces.Goals as goal

pub boundary-requires : goal.boundary-requires
unfolding row_at
boundary-requires g c = refl

pub boundary-requires-2 : goal.boundary-requires-2
unfolding row_at
boundary-requires-2 g c = refl

pub curves-requires : goal.curves-requires
unfolding row_at
curves-requires g c = refl
