use Rattle.std.proofs.Common.{Some}
use Rattle.sound_views.proofs.NamesMet.{vertex_has}
use Rattle.subdivision_rows.specs.OverlayInMemory.{graph_of}
use Rattle.layer_tests.proofs.layers.overlays.is_pin.Goals as goal

pub pinned-requires : goal.pinned-requires
pinned-requires c = vertex_has (graph_of c.args.both.now) (Some c.args.before) c.in-Some.vertex c.in-Some.ensures.ascend c.in-Some.ensures.after
