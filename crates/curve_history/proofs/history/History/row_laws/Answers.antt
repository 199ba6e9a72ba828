use Rattle.std.proofs.Common.{sym, ◌∙◌, subst}
use Rattle.std.specs.Prelude.{negsuc}
use Rattle.box_tree.specs.Entries.{AllAbove}
use Rattle.curve_pieces.specs.PieceRows.{entries_of}
use Rattle.curve_history.proofs.Histories.{sees}
use Rattle.curve_history.proofs.history.History.row_laws.Goals as goal

pub returns-clause-low : goal.returns-clause-low
returns-clause-low c =
    let s = sees c.self.inside c.args.self.now c.self.view_is in
    λ indexed. subst (λ rs. AllAbove (negsuc 2147483647) (entries_of rs)) (sym s.rows) (c.box_laws.ensures (sym s.indexed ∙ indexed))
