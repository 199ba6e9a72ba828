use Rattle.std.proofs.Common.{◌+◌, Bool, sym, subst}
use Rattle.plain_slabs.proofs.LabelTables.{IsPassed, one_differs, one_agrees, differs, agrees}
use Rattle.plain_slabs.proofs.numbers.pass_forwards.Goals as goal
use Rattle.plain_slabs.proofs.numbers.pass_forwards.Goals.{then-meet, else-meet}

pub loop-link-preserved : goal.loop-link-preserved
loop-link-preserved c =
    let before = c.args.table.now in
    let links = c.args.links.now in
    let i = c.loop-link.link-index in
    let now = c.loop-link.table in
    let new = c.meet.new.table in
    elim c.if-meet.branch [
      | then-meet w ↦ subst (λ (b : Bool). IsPassed before links (i + 1) new b) (sym w.changed-is) (one_differs before links i _ now new c.loop-link-test.true c.requires c.meet.ensures.table c.loop-link.changed c.loop-link.invariant (differs _ _ c.meet.result w.if-meet.true c.meet.ensures.changed))
      | else-meet w ↦ subst (λ (b : Bool). IsPassed before links (i + 1) new b) (sym w.changed-is) (one_agrees before links i _ now new c.loop-link-test.true c.requires c.meet.ensures.table c.loop-link.changed c.loop-link.invariant (agrees _ _ c.meet.result w.if-meet.false c.meet.ensures.changed))
    ]
