use Rattle.std.proofs.Common.{subst}
use Rattle.box_tree.specs.Entries.{AreKnown}
use Rattle.curve_pieces.specs.PieceRows.{entries_of}
use Rattle.curve_history.proofs.Histories.{sees}
use Rattle.curve_history.proofs.history.History.visit.Goals as goal

pub visit-requires-clause-known : goal.visit-requires-clause-known
visit-requires-clause-known g c = subst (λ rs. AreKnown (g.V.Visitor.knows c.args.visitor.now) c.args.area.now (entries_of rs)) (sees c.self.inside c.args.self.now c.self.view_is).rows c.requires.known
