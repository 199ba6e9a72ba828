use Rattle.std.proofs.Common.{ap, subst, sym, ◌∙◌}
use Rattle.slab_laws.specs.View.{HasVertex, point_in, twin_in}
use Rattle.told_steps.proofs.ends.ends.Goals as goal

pub point-requires : goal.point-requires
point-requires c = subst (HasVertex c.args.records.now.graph) (sym c.source-source.ensures) (c.requires.sound.linked.source c.args.d c.requires.dart)

pub point-requires-2 : goal.point-requires-2
point-requires-2 c = let v = c.args.records.now.graph in subst (HasVertex v) (sym c.target-target.ensures) (c.requires.sound.linked.source (twin_in v c.args.d) (c.requires.sound.twinned.has c.args.d c.requires.dart))

pub returns-clause-low : goal.returns-clause-low
returns-clause-low c = c.point.ensures ∙ ap (point_in c.args.records.now.graph) c.source-source.ensures

pub returns-clause-high : goal.returns-clause-high
returns-clause-high c = c.point-2.ensures ∙ ap (point_in c.args.records.now.graph) c.target-target.ensures
