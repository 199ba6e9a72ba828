use Rattle.std.proofs.Common.{◌<◌, [], ◌∷◌, ap, sym, ◌∙◌, arith}
use Rattle.script_maker.specs.Remaining.{lines_from, remaining}
use Rattle.script_maker.proofs.Lines.{lines_from-zero, lines_from-next}
use Rattle.script_maker.proofs.maker.Maker.next_line.Goals as goal

pub returns-then-self-eq0-clause-next : goal.returns-then-self-eq0-clause-next
returns-then-self-eq0-clause-next c =
    let m = c.self.inside in
    sym c.self.view_is ∙ ap (λ s. remaining s m.left m.given m.state) c.in-Segments.is
    ∙ ap (λ n. lines_from n m.given m.state) c.if-self-eq0.true ∙ lines_from-zero m.given m.state
    ∙ ap (λ line. line ∷ []) (sym c.put_text.ensures.put)

pub returns-else-self-eq0-clause-next : goal.returns-else-self-eq0-clause-next
returns-else-self-eq0-clause-next c =
    let m = c.self.inside in
    let some : 0 < m.left = omega arith in
    sym c.self.view_is ∙ ap (λ s. remaining s m.left m.given m.state) c.in-Segments.is
    ∙ lines_from-next m.left m.given m.state some ∙ cc
