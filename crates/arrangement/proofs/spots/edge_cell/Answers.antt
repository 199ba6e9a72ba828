use Rattle.std.proofs.Common.{sym, subst}
use Rattle.slab_laws.specs.View.{HasVertex}
use Rattle.sound_views.proofs.ForwardDarts.{target_has}
use Rattle.arrangement.proofs.spots.edge_cell.Goals as goal

pub point-lower-requires : goal.point-lower-requires
point-lower-requires c = subst (HasVertex c.args.records.now.graph) (sym c.source.ensures) (c.requires.sound.linked.source c.args.dart c.requires.dart)

pub point-upper-requires : goal.point-upper-requires
point-upper-requires c = subst (HasVertex c.args.records.now.graph) (sym c.target.ensures) (target_has c.args.records.now.graph c.requires.sound c.args.dart c.requires.dart)
