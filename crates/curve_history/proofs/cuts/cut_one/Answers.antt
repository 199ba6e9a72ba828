use Rattle.std.proofs.Common.{sym, ap, ap₂, ◌+◌, cond, ℕ, ◌∙◌, arith}
use Rattle.edit_steps.specs.Steps.{cut_piece}
use Rattle.slab_laws.specs.Pieces.{piece_of}
use Rattle.curve_history.proofs.Cutting.{are_parts, is_whole, parts_count}
use Rattle.curve_history.proofs.Replaced.{mapped_parts, only_piece, put_as, same_as}
use Rattle.curve_history.proofs.cuts.cut_one.Goals as goal

pub put_parts-requires-clause-below : goal.put_parts-requires-clause-below
put_parts-requires-clause-below c = λ k m. ap (λ j. j.curve) (only_piece c.args.pieces.now.rows c.laws.ensures.once c.args.name k c.piece.result.now m c.piece.ensures)

pub put_parts-requires-clause-room : goal.put_parts-requires-clause-room
put_parts-requires-clause-room c = λ s u.
    let r = c.requires.room c.piece.result.now c.piece.ensures in
    let n = sym (ap₂ (λ a b. cond {A = ℕ} a 1 0 + cond {A = ℕ} b 1 0) s u) ∙ parts_count (piece_of c.piece.result.now) _ _ _ c.holds_both.ensures c.if-holds_both.true _ c.comes_before-begins.ensures _ c.comes_before-ends.ensures in
    omega (arith, r, n)

pub returns-then-holds_both-clause-rows : goal.returns-then-holds_both-clause-rows
returns-then-holds_both-clause-rows c = put_as (cut_piece c.args.p.now c.args.q.now) c.args.pieces.now c.put_parts.new.pieces c.args.name c.piece.result.now _ c.laws.ensures.once c.piece.ensures c.put_parts.ensures.rows (mapped_parts _ _ _ _ ∙ sym (are_parts (piece_of c.piece.result.now) _ _ _ c.holds_both.ensures c.if-holds_both.true _ c.comes_before-begins.ensures _ c.comes_before-ends.ensures))

pub returns-else-holds_both-clause-rows : goal.returns-else-holds_both-clause-rows
returns-else-holds_both-clause-rows c = same_as (cut_piece c.args.p.now c.args.q.now) c.args.pieces.now c.args.name c.piece.result.now c.laws.ensures.once c.piece.ensures (is_whole (piece_of c.piece.result.now) _ _ _ c.holds_both.ensures c.if-holds_both.false)
