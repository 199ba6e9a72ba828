use Rattle.std.proofs.Common.{◌≡◌, ◌-◌, length, ap, ◌∙◌, arith}
use Rattle.std.proofs.lemmas.List.{length-drop}
use Rattle.std.proofs.lemmas.List.Sums.{prefix_len-le-length}
use Rattle.sweep_events.specs.Places.{is_upto}
use Rattle.sweep_events.proofs.StatusCuts.{upto_after}
use Rattle.sweep_events.proofs.places.count_upto.Goals as goal

pub overflow_add-result : goal.overflow_add-result
overflow_add-result c =
    let rest : length c.split_at.result.1.now ≡ length c.args.status.now - c.args.below = ap length c.split_at.ensures.back ∙ length-drop c.args.below c.args.status.now in
    let some = prefix_len-le-length (is_upto c.args.pieces.now c.args.point.now) c.split_at.result.1.now in
    omega (arith, rest, some, c.count_through.ensures, c.requires.known)

pub returns-clause-bound : goal.returns-clause-bound
returns-clause-bound c =
    let rest : length c.split_at.result.1.now ≡ length c.args.status.now - c.args.below = ap length c.split_at.ensures.back ∙ length-drop c.args.below c.args.status.now in
    let some = prefix_len-le-length (is_upto c.args.pieces.now c.args.point.now) c.split_at.result.1.now in
    omega (arith, rest, some, c.count_through.ensures, c.requires.known)

pub returns-clause-cut : goal.returns-clause-cut
returns-clause-cut c =
    upto_after c.args.pieces.now c.args.point.now c.args.status.now c.requires.spans c.requires.places c.requires.waits c.args.below c.count_through.result c.requires.below c.split_at.result.1.now c.split_at.ensures.back c.count_through.ensures
