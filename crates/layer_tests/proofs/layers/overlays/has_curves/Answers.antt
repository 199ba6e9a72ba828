use Rattle.std.proofs.Common.{Some}
use Rattle.sound_views.proofs.NamesMet.{dart_has}
use Rattle.subdivision_rows.specs.OverlayInMemory.{graph_of}
use Rattle.layer_tests.proofs.layers.overlays.has_curves.Goals as goal

pub red_curves-requires : goal.red_curves-requires
red_curves-requires c = dart_has (graph_of c.args.both.now) (Some c.args.before) c.in-Some.dart c.in-Some.ensures.ascend c.in-Some.ensures.after

pub blue_curves-requires : goal.blue_curves-requires
blue_curves-requires c = dart_has (graph_of c.args.both.now) (Some c.args.before) c.in-Some.dart c.in-Some.ensures.ascend c.in-Some.ensures.after
