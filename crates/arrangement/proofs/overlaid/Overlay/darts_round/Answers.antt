use Rattle.dart_walks.specs.DartWalks.{AreRound}
use Rattle.dart_walks.proofs.Listed.{listed_told}
use Rattle.subdivision_rows.specs.OverlayInMemory.{graph_of}
use Rattle.arrangement.proofs.overlaid.Overlay.darts_round.Goals as goal

pub returns : goal.returns
returns c = record { round = listed_told c.list.result (λ v. v.items) (AreRound (graph_of c.args.self.now) c.args.vertex) c.round.result c.round.ensures.round c.list.ensures }
