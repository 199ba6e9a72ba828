use Rattle.present_graphs.proofs.Ties.{told_same, second_decides, first_decides}
use Rattle.present_graphs.proofs.edges.joins.Goals as goal

pub returns-then-eq : goal.returns-then-eq
returns-then-eq c =
    let m = c.args.mark.now in
    let s = c.args.span.now in
    second_decides c.eq.result c.eq-then-eq.result _ _ c.if-eq.true (told_same m.low s.lower c.lower.result c.eq.result c.lower.ensures.value c.eq.ensures) (told_same m.high s.upper c.upper.result c.eq-then-eq.result c.upper.ensures c.eq-then-eq.ensures)

pub returns-else-eq : goal.returns-else-eq
returns-else-eq c = first_decides c.eq.result _ _ c.if-eq.false (told_same c.args.mark.now.low c.args.span.now.lower c.lower.result c.eq.result c.lower.ensures.value c.eq.ensures)
