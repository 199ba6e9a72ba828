-- The faces named for points stay where vertices come.
use Rattle.slab_laws.specs.View.{twin_in}
use Rattle.arr_notes.specs.Step.{split_edge}
use Rattle.arr_notes.specs.ViewChanges.{with_vertex}
use Rattle.arr_notes.specs.declared.change.Change.TheVariants.{AddVertex, RemoveVertex, SplitEdge, MergeEdge, AddEdge, RemoveEdge, AddCurve, RemoveCurve, SetPin, ClearPin, Clear}
use Rattle.face_steps.specs.ChangeLaws.{FacesStayNamed}
use Rattle.face_steps.proofs.Choices.{tables_are_sound}
use Rattle.face_steps.proofs.MergesApart.{records_apart}
use Rattle.face_steps.proofs.StepHalves.{split_leaves}
use Rattle.face_steps.proofs.StepVertices.{vertex_leaves}

pub faces_stay_named : FacesStayNamed
faces_stay_named v h f (AddVertex u p face) s k g r m a q positive there = vertex_leaves v (with_vertex v u p) u p (records_apart.vertex_added v u p s.graph k g.plane) f face r ((tables_are_sound v f s.graph).1 s) a q positive there
faces_stay_named v h f (SplitEdge d u p n m) s k g r y a q positive there = split_leaves v (split_edge v d u p n m) d (twin_in v d) n m u p (records_apart.split v d u p n m s.graph k) f ((tables_are_sound v f s.graph).1 s) a q positive there
faces_stay_named v h f (RemoveVertex u) s k g r m b q positive there = absurd m
faces_stay_named v h f (MergeEdge u d n) s k g r m b q positive there = absurd m
faces_stay_named v h f (AddEdge d m u w at_u at_w l c n) s k g r y b q positive there = absurd y
faces_stay_named v h f (RemoveEdge d m n) s k g r y b q positive there = absurd y
faces_stay_named v h f (AddCurve d c) s k g r m b q positive there = absurd m
faces_stay_named v h f (RemoveCurve d c) s k g r m b q positive there = absurd m
faces_stay_named v h f (SetPin u) s k g r m b q positive there = absurd m
faces_stay_named v h f (ClearPin u) s k g r m b q positive there = absurd m
faces_stay_named v h f (Clear a) s k g r m b q positive there = absurd m
