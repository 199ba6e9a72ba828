use Rattle.std.proofs.Common.{subst}
use Rattle.locate_trapezoid.specs.Counted.{IsTest}
use Rattle.locate_trapezoid.proofs.Puts.{lower_has, upper_has}
use Rattle.locate_trapezoid.proofs.seed.hash_place.Goals as goal

pub point-requires-in-Edge : goal.point-requires-in-Edge
point-requires-in-Edge c =
    let v = c.args.records.now.graph in
    lower_has v c.requires.sound c.in-Edge.dart (subst (IsTest v) c.in-Edge.is c.requires.test) c.source.result c.source.ensures

pub point-requires-in-Edge-2 : goal.point-requires-in-Edge-2
point-requires-in-Edge-2 c =
    let v = c.args.records.now.graph in
    upper_has v c.requires.sound c.in-Edge.dart (subst (IsTest v) c.in-Edge.is c.requires.test) c.target.result c.target.ensures
