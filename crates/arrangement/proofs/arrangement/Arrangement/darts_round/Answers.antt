use Rattle.dart_walks.specs.DartWalks.{AreRound}
use Rattle.dart_walks.proofs.Listed.{listed_told}
use Rattle.arrangement.specs.Arranged.{arranged}
use Rattle.arrangement.proofs.arrangement.Arrangement.darts_round.Goals as goal

pub returns : goal.returns
returns g c =
    let a = arranged (goal.Observer-dyn g) c.args.self.now in
    record { round = listed_told c.list.result (λ v. v.items) (AreRound a.graph c.args.vertex) c.round.result c.round.ensures.round c.list.ensures }
