use Rattle.std.proofs.Common.{sym, subst}
use Rattle.counted_looks.specs.Looks.{IsLookable}
use Rattle.slab_laws.specs.View.{HasVertex}
use Rattle.sound_views.proofs.ForwardDarts.{target_has}
use Rattle.zone_walk.proofs.records_sight.RecordsSight.see.Goals as goal

pub point-source-requires : goal.point-source-requires
point-source-requires g c = subst (HasVertex c.args.self.now.graph) (sym c.source.ensures) (c.requires.sound.linked.source c.in-Edge.dart (subst (IsLookable c.args.self.now.graph) c.in-Edge.is c.requires.at))

pub point-target-requires : goal.point-target-requires
point-target-requires g c = subst (HasVertex c.args.self.now.graph) (sym c.target.ensures) (target_has c.args.self.now.graph c.requires.sound c.in-Edge.dart (subst (IsLookable c.args.self.now.graph) c.in-Edge.is c.requires.at))
