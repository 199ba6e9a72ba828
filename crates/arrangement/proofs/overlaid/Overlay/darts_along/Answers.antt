use Rattle.dart_walks.specs.DartWalks.{AreAlong}
use Rattle.dart_walks.proofs.Listed.{listed_told}
use Rattle.subdivision_rows.specs.OverlayInMemory.{graph_of, faces_in}
use Rattle.arrangement.proofs.overlaid.Overlay.darts_along.Goals as goal

pub returns : goal.returns
returns c = record { along = listed_told c.list.result (λ v. v.items) (AreAlong (graph_of c.args.self.now) (faces_in c.args.self.now) c.args.dart) c.along.result c.along.ensures.along c.list.ensures }
