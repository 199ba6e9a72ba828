use Rattle.std.proofs.Common.{ap, sym, ◌∙◌}
use Rattle.std.specs.Ordering.{is_lt}
use Rattle.exact_plane.specs.Direction.{next_cmp}
use Rattle.rotation_order.proofs.Quarters.{turn_order}
use Rattle.rotation_order.proofs.clockwise.is_before.Goals as goal

pub returns : goal.returns
returns c =
    c.is_lt.ensures ∙ ap is_lt c.next_order.ensures ∙ (λ i. is_lt (next_cmp (c.requires i) c.args.a c.args.b)) ∙ sym (turn_order c.args.a c.args.b)
