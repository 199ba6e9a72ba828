use Rattle.std.proofs.Common.{Some, arith, ap, ◌∙◌}
use Rattle.subdivision_rows.proofs.Numbers.{first_there, none_there, next_there, last_there}
use Rattle.subdivision_rows.proofs.records.number_after.Goals.{in-None, in-Some, in-Some-2}
use Rattle.subdivision_rows.proofs.records.number_after.Goals as goal

pub returns-then-next-count : goal.returns-then-next-count
returns-then-next-count c =
    elim c.match-number.branch [
      | in-None w ↦ first_there c.args.count c.match-number.next c.args.number w.in-None.is w.next-is c.if-next-count.true
      | in-Some w ↦ (let e = w.next-is in let t = c.if-next-count.true in ap Some e ∙ next_there c.args.count _ c.args.number w.in-Some.is (omega arith))
      | in-Some-2 w ↦ absurd (let e = w.next-is in let t = c.if-next-count.true in omega arith)
    ]

pub returns-else-next-count : goal.returns-else-next-count
returns-else-next-count c =
    elim c.match-number.branch [
      | in-None w ↦ none_there c.args.count c.match-number.next c.args.number w.in-None.is w.next-is c.if-next-count.false
      | in-Some w ↦ (let e = w.next-is in let t = c.if-next-count.false in last_there c.args.count _ c.args.number w.in-Some.is (omega arith))
      | in-Some-2 w ↦ (let e = w.next-is in let t = w.if-n-count.false in last_there c.args.count _ c.args.number w.in-Some.is (omega arith))
    ]
