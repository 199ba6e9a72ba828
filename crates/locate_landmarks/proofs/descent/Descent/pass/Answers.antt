use Rattle.std.proofs.Common.{sym, subst}
use Rattle.std.specs.Prelude.{Some}
use Rattle.plane_graphs.proofs.Lines.{point_is_proper}
use Rattle.locate_landmarks.specs.Lowest.{IsAbove, IsLowered}
use Rattle.locate_landmarks.specs.declared.above.EdgeAbove.{EdgeAbove}
use Rattle.locate_landmarks.proofs.Lowered.{is_lower}
use Rattle.locate_landmarks.proofs.descent.Descent.pass.Goals as goal

pub returns-in-Some-clause-lowest : goal.returns-in-Some-clause-lowest
returns-in-Some-clause-lowest c =
    subst (λ (e : EdgeAbove). IsAbove c.args.glance.now.graph c.args.point.now (Some e)) (sym c.lower.ensures)
    (is_lower c.args.glance.now.graph c.args.point.now c.requires.map.sound.graph (point_is_proper c.args.point.now c.laws.ensures) c.args.self.now.downward c.if-not-self.false c.args.self.now.lowest c.in-Some.edge c.requires.lowest c.in-Some.ensures).0

pub returns-in-Some-clause-lowered : goal.returns-in-Some-clause-lowered
returns-in-Some-clause-lowered c =
    subst (λ (e : EdgeAbove). IsLowered c.args.glance.now.graph c.args.point.now c.args.self.now.downward c.args.self.now.lowest (Some e)) (sym c.lower.ensures)
    (is_lower c.args.glance.now.graph c.args.point.now c.requires.map.sound.graph (point_is_proper c.args.point.now c.laws.ensures) c.args.self.now.downward c.if-not-self.false c.args.self.now.lowest c.in-Some.edge c.requires.lowest c.in-Some.ensures).1
