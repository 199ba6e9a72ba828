use Rattle.std.proofs.Common.{◌≡◌, ◌-◌, length, ap, ◌∙◌, arith}
use Rattle.std.specs.Ordering.{is_le}
use Rattle.std.proofs.lemmas.List.{length-drop}
use Rattle.std.proofs.lemmas.List.Sums.{prefix_len-le-length}
use Rattle.exact_plane.specs.PointOrder.{point_cmp}
use Rattle.sweep_events.specs.declared.places.Start.{Start}
use Rattle.sweep_events.proofs.places.count_begun.Goals as goal

pub overflow_add-result : goal.overflow_add-result
overflow_add-result c =
    let rest : length c.split_at.result.1.now ≡ length c.args.starts.now - c.args.begun = ap length c.split_at.ensures.back ∙ length-drop c.args.begun c.args.starts.now in
    let some = prefix_len-le-length (λ (s : Start). is_le (point_cmp s.lower c.args.point.now)) c.split_at.result.1.now in
    omega (arith, rest, some, c.count_starting.ensures, c.requires)
