use Rattle.std.proofs.Common.{ℕ, List, ◌≡◌, ◌≤◌, length, map, take, drop, true, false, sym, ap, ◌∙◌, subst}
use Rattle.std.specs.List.Sorted.{IsPartitionPoint}
use Rattle.std.proofs.lemmas.List.{take_all}
use Rattle.std.proofs.lemmas.List.Sums.{prefix_len-le-length}
use Rattle.exact_plane.specs.Span.{Span}
use Rattle.sweep_events.specs.declared.places.Start.{Start}
use Rattle.sweep_events.specs.Places.{IsPlacesOf}
use Rattle.sweep_status.proofs.Parts.{first_parted}
use Rattle.sweep_events.proofs.StartsAtPoint.{upto, parted_read, starting}
use Rattle.sweep_events.proofs.places.starts_at.Goals as goal

pub split_at-requires : goal.split_at-requires
split_at-requires c = c.requires.0

pub split_at-requires-2 : goal.split_at-requires-2
split_at-requires-2 c = subst (λ n. n ≤ length c.split_at.result.1.now) (sym c.count_starting.ensures) (prefix_len-le-length _ c.split_at.result.1.now)

pub returns : goal.returns
returns c =
    let q = c.args.point.now in
    let xs = c.args.starts.now in
    let from = c.args.begun in
    let rest = c.split_at.result.1.now in
    let count = c.count_starting.result in
    let back : rest ≡ drop from xs = c.split_at.ensures.back in
    let here : c.split_at-2.result.0.now ≡ take count (drop from xs) = c.split_at-2.ensures.front ∙ ap (λ (zs : List Start). take count zs) back in
    λ ps ok.
    let first = c.requires.1 in
    let second = first_parted (upto q) rest count c.count_starting.ensures (parted_read ps xs ok q from rest back) in
    subst (λ (is : List ℕ). IsPlacesOf ps (λ (s : Span). s.lower ≡ q) is) (sym (c.loop-start.invariant ∙ ap (λ (zs : List Start). map (λ (s : Start). s.place) zs) (take_all c.loop-start.start-index c.split_at-2.result.0.now c.loop-start-test.false ∙ here)))
    (starting ps xs ok q from count first (subst (λ (zs : List Start). IsPartitionPoint (λ (s : Start). upto q s ≡ true) (λ (s : Start). upto q s ≡ false) zs count) back second))
