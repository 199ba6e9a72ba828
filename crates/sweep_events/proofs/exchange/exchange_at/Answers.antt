use Rattle.std.proofs.Common.{ℕ, List, ◌≡◌, ◌-◌, not, filter, map, take, drop, length, nat_cmp, arith, sym, ap, ◌∙◌, subst}
use Rattle.std.specs.Prelude.{◌⊎◌, ◌↔◌}
use Rattle.std.specs.List.{splice}
use Rattle.plane_graphs.specs.Ascending.{ascending, Member, IsAscending}
use Rattle.sweep_events.specs.declared.places.PlacedLine.{PlacedLine}
use Rattle.sweep_events.specs.Places.{ArePlaces}
use Rattle.sweep_events.specs.Runs.{ends_there}
use Rattle.sweep_events.specs.Sweep.{IsEventAt}
use Rattle.sweep_events.proofs.ExchangeParts.{in_turn, passes_places, passes_ascend, starts_places, starts_apart, exchange_is, event_is}
use Rattle.sweep_events.proofs.StatusCuts.{parted_below}
use Rattle.sweep_events.proofs.exchange.exchange_at.Goals as goal

pub count_below-low-requires : goal.count_below-low-requires
count_below-low-requires c = parted_below c.args.pieces.now c.args.point.now c.args.status.now c.requires.spans (λ i m. ((c.requires.waits.met i).0 m).0) c.requires.waits.ascends

pub count_upto-high-requires-clause-places : goal.count_upto-high-requires-clause-places
count_upto-high-requires-clause-places c = λ i m. ((c.requires.waits.met i).0 m).0

pub count_upto-high-requires-clause-known : goal.count_upto-high-requires-clause-known
count_upto-high-requires-clause-known c = c.count_below-low.ensures.bound

pub count_upto-high-requires-clause-below : goal.count_upto-high-requires-clause-below
count_upto-high-requires-clause-below c = c.count_below-low.ensures.cut

pub overflow_sub-high : goal.overflow_sub-high
overflow_sub-high c =
    let ps = c.args.pieces.now in
    let q = c.args.point.now in
    let xs = c.args.status.now in
    let lo = c.count_below-low.result in
    let hi = c.count_upto-high.result in
    let a = c.count_below-low.ensures in
    let b = c.count_upto-high.ensures in
    in_turn ps q xs c.requires.spans c.requires.waits lo hi a.bound b.bound a.cut b.cut

pub sort_by_slope-requires-clause-passes : goal.sort_by_slope-requires-clause-passes
sort_by_slope-requires-clause-passes c =
    let ps = c.args.pieces.now in
    let q = c.args.point.now in
    let xs = c.args.status.now in
    let lo = c.count_below-low.result in
    let hi = c.count_upto-high.result in
    let a = c.count_below-low.ensures in
    let b = c.count_upto-high.ensures in
    let run : c.split_at-2.result.0.now ≡ take (hi - lo) (drop lo xs) = c.split_at-2.ensures.front ∙ ap (take (hi - lo)) c.split_at.ensures.back in
    let others : c.in_ok-ends.passes ≡ filter (λ i. not (ends_there ps q i)) (ascending nat_cmp (take (hi - lo) (drop lo xs))) = c.in_ok-ends.ensures.others ∙ ap (λ (r : List ℕ). filter (λ i. not (ends_there ps q i)) (ascending nat_cmp r)) run in
    subst (λ (zs : List ℕ). ArePlaces ps zs) (sym (c.as_slice.ensures ∙ others)) (passes_places ps q xs c.requires.spans c.requires.waits lo hi a.bound b.bound a.cut b.cut)

pub sort_by_slope-requires-clause-starts : goal.sort_by_slope-requires-clause-starts
sort_by_slope-requires-clause-starts c =
    let ps = c.args.pieces.now in
    let q = c.args.point.now in
    let xs = c.args.status.now in
    let lo = c.count_below-low.result in
    let hi = c.count_upto-high.result in
    let a = c.count_below-low.ensures in
    let b = c.count_upto-high.ensures in
    let starting = c.in_ok-begun.ensures ps c.requires.starts in
    subst (λ (zs : List ℕ). ArePlaces ps zs) (sym c.as_slice-2.ensures) (starts_places ps q xs c.requires.spans c.requires.waits lo hi a.bound b.bound a.cut b.cut c.in_ok-begun.begun starting)

pub sort_by_slope-requires-clause-passes_ascend : goal.sort_by_slope-requires-clause-passes_ascend
sort_by_slope-requires-clause-passes_ascend c =
    let ps = c.args.pieces.now in
    let q = c.args.point.now in
    let xs = c.args.status.now in
    let lo = c.count_below-low.result in
    let hi = c.count_upto-high.result in
    let a = c.count_below-low.ensures in
    let b = c.count_upto-high.ensures in
    let run : c.split_at-2.result.0.now ≡ take (hi - lo) (drop lo xs) = c.split_at-2.ensures.front ∙ ap (take (hi - lo)) c.split_at.ensures.back in
    let others : c.in_ok-ends.passes ≡ filter (λ i. not (ends_there ps q i)) (ascending nat_cmp (take (hi - lo) (drop lo xs))) = c.in_ok-ends.ensures.others ∙ ap (λ (r : List ℕ). filter (λ i. not (ends_there ps q i)) (ascending nat_cmp r)) run in
    subst (λ (zs : List ℕ). IsAscending nat_cmp zs) (sym (c.as_slice.ensures ∙ others)) (passes_ascend ps q xs c.requires.spans c.requires.waits lo hi a.bound b.bound a.cut b.cut)

pub sort_by_slope-requires-clause-starts_ascend : goal.sort_by_slope-requires-clause-starts_ascend
sort_by_slope-requires-clause-starts_ascend c =
    subst (λ (zs : List ℕ). IsAscending nat_cmp zs) (sym c.as_slice-2.ensures) (c.in_ok-begun.ensures c.args.pieces.now c.requires.starts).ascends

pub sort_by_slope-requires-clause-apart : goal.sort_by_slope-requires-clause-apart
sort_by_slope-requires-clause-apart c =
    let ps = c.args.pieces.now in
    let q = c.args.point.now in
    let xs = c.args.status.now in
    let lo = c.count_below-low.result in
    let hi = c.count_upto-high.result in
    let a = c.count_below-low.ensures in
    let b = c.count_upto-high.ensures in
    let run : c.split_at-2.result.0.now ≡ take (hi - lo) (drop lo xs) = c.split_at-2.ensures.front ∙ ap (take (hi - lo)) c.split_at.ensures.back in
    let others : c.in_ok-ends.passes ≡ filter (λ i. not (ends_there ps q i)) (ascending nat_cmp (take (hi - lo) (drop lo xs))) = c.in_ok-ends.ensures.others ∙ ap (λ (r : List ℕ). filter (λ i. not (ends_there ps q i)) (ascending nat_cmp r)) run in
    let starting = c.in_ok-begun.ensures ps c.requires.starts in
    λ i m n. starts_apart ps q xs c.requires.spans c.requires.waits lo hi a.bound b.bound a.cut b.cut c.in_ok-begun.begun starting i (subst (λ (zs : List ℕ). Member i zs) (c.as_slice.ensures ∙ others) m) (subst (λ (zs : List ℕ). Member i zs) c.as_slice-2.ensures n)

pub returns-clause-in_turn : goal.returns-clause-in_turn
returns-clause-in_turn c =
    let ps = c.args.pieces.now in
    let q = c.args.point.now in
    let xs = c.args.status.now in
    let lo = c.count_below-low.result in
    let hi = c.count_upto-high.result in
    let a = c.count_below-low.ensures in
    let b = c.count_upto-high.ensures in
    in_turn ps q xs c.requires.spans c.requires.waits lo hi a.bound b.bound a.cut b.cut

pub returns-clause-exchange : goal.returns-clause-exchange
returns-clause-exchange c =
    let ps = c.args.pieces.now in
    let q = c.args.point.now in
    let xs = c.args.status.now in
    let lo = c.count_below-low.result in
    let hi = c.count_upto-high.result in
    let a = c.count_below-low.ensures in
    let b = c.count_upto-high.ensures in
    let run : c.split_at-2.result.0.now ≡ take (hi - lo) (drop lo xs) = c.split_at-2.ensures.front ∙ ap (take (hi - lo)) c.split_at.ensures.back in
    let others : c.in_ok-ends.passes ≡ filter (λ i. not (ends_there ps q i)) (ascending nat_cmp (take (hi - lo) (drop lo xs))) = c.in_ok-ends.ensures.others ∙ ap (λ (r : List ℕ). filter (λ i. not (ends_there ps q i)) (ascending nat_cmp r)) run in
    let starting = c.in_ok-begun.ensures ps c.requires.starts in
    let vs = c.sort_by_slope.new.lines.items in
    let run' = c.fill_places.new.places.items in
    let mid = map (λ (s : PlacedLine). s.place) vs in
    let run_is : run' ≡ mid = c.in_ok-fill_places.ensures ∙ ap (map (λ (s : PlacedLine). s.place)) c.deref.ensures.value in
    let count : c.len.result ≡ length run' = omega (arith, c.len.ensures, c.fill_places.new.places.ok.0) in
    exchange_is ps q xs c.requires.spans c.requires.waits lo hi a.bound b.bound a.cut b.cut c.in_ok-begun.begun starting mid _ c.len.result
    (subst (λ (zs : List ℕ). (i : ℕ) → Member i (map (λ (s : PlacedLine). s.place) vs) ↔ (Member i zs ⊎ Member i c.in_ok-begun.begun)) (c.as_slice.ensures ∙ others)
    (subst (λ (ys : List ℕ). (i : ℕ) → Member i (map (λ (s : PlacedLine). s.place) vs) ↔ (Member i c.as_slice.result.now ⊎ Member i ys)) c.as_slice-2.ensures c.in_ok-sort_by_slope.ensures.places))
    c.in_ok-sort_by_slope.ensures.sloped
    (ap (λ (ms : List ℕ). splice xs lo hi ms) run_is)
    (count ∙ ap (λ (ms : List ℕ). length ms) run_is)

pub returns-clause-event : goal.returns-clause-event
returns-clause-event c =
    let ps = c.args.pieces.now in
    let q = c.args.point.now in
    let xs = c.args.status.now in
    let lo = c.count_below-low.result in
    let hi = c.count_upto-high.result in
    let a = c.count_below-low.ensures in
    let b = c.count_upto-high.ensures in
    let run : c.split_at-2.result.0.now ≡ take (hi - lo) (drop lo xs) = c.split_at-2.ensures.front ∙ ap (take (hi - lo)) c.split_at.ensures.back in
    let others : c.in_ok-ends.passes ≡ filter (λ i. not (ends_there ps q i)) (ascending nat_cmp (take (hi - lo) (drop lo xs))) = c.in_ok-ends.ensures.others ∙ ap (λ (r : List ℕ). filter (λ i. not (ends_there ps q i)) (ascending nat_cmp r)) run in
    let starting = c.in_ok-begun.ensures ps c.requires.starts in
    let here : c.in_ok-ends.ends ≡ filter (ends_there ps q) (ascending nat_cmp (take (hi - lo) (drop lo xs))) = c.in_ok-ends.ensures.ends ∙ ap (λ (r : List ℕ). filter (ends_there ps q) (ascending nat_cmp r)) run in
    subst (λ (zs : List ℕ). IsEventAt ps q zs c.in_ok-begun.begun c.in_ok-ends.passes) (sym here)
    (subst (λ (ys : List ℕ). IsEventAt ps q (filter (ends_there ps q) (ascending nat_cmp (take (hi - lo) (drop lo xs)))) c.in_ok-begun.begun ys) (sym others) (event_is ps q xs c.requires.spans c.requires.waits lo hi a.bound b.bound a.cut b.cut c.in_ok-begun.begun starting))
