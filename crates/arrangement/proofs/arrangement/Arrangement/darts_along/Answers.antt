use Rattle.dart_walks.specs.DartWalks.{AreAlong}
use Rattle.dart_walks.proofs.Listed.{listed_told}
use Rattle.arrangement.specs.Arranged.{arranged}
use Rattle.arrangement.proofs.arrangement.Arrangement.darts_along.Goals as goal

pub returns : goal.returns
returns g c =
    let a = arranged (goal.Observer-dyn g) c.args.self.now in
    record { along = listed_told c.list.result (λ v. v.items) (AreAlong a.graph a.faces c.args.dart) c.along.result c.along.ensures.along c.list.ensures }
