use Rattle.std.proofs.Common.{◌≡◌, ℕ, List, ◌∷◌, refl, sym, ap, ◌∙◌}
use Rattle.planar_run.proofs.MadeLines.{all_ended, none_found, then_ends, then_finds}
use Rattle.planar_run.proofs.engine.Engine.answer_made.Goals as goal

pub returns-in-None-clause-last : goal.returns-in-None-clause-last
returns-in-None-clause-last g c = all_ended _ _ _ _ _ c.lines.invariant.ends (c.in-None.ensures.over refl).0

pub returns-then-not-answer_whole-clause-last : goal.returns-then-not-answer_whole-clause-last
returns-then-not-answer_whole-clause-last g c =
    let next : c.lines.maker ≡ c.split_at.result.0.now ∷ c.next_line.new.self = c.in-Some.ensures.next ∙ ap (λ (l : List ℕ). l ∷ c.next_line.new.self) (sym c.split_at.ensures.front) in
    none_found _ _ _ _ c.lines.self.reply _ _ _ _ next c.answer_whole.ensures.replied c.lines.invariant.finds (c.answer_whole.ensures.none c.if-not-answer_whole.true)

pub lines-preserved : goal.lines-preserved
lines-preserved g c =
    let next : c.lines.maker ≡ c.split_at.result.0.now ∷ c.next_line.new.self = c.in-Some.ensures.next ∙ ap (λ (l : List ℕ). l ∷ c.next_line.new.self) (sym c.split_at.ensures.front) in
    let some = c.answer_whole.ensures.found c.if-not-answer_whole.false in record {
      ends = then_ends _ _ _ _ c.lines.self.reply _ _ _ _ next c.answer_whole.ensures.replied some c.lines.invariant.ends;
      finds = then_finds _ _ _ _ c.lines.self.reply _ _ _ _ next c.answer_whole.ensures.replied some c.lines.invariant.finds;
      kept = c.answer_whole.ensures.kept;
    }
