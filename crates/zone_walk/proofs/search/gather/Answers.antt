use Rattle.std.proofs.Common.{List, sym, subst, inl, inr, ⊎_elim}
use Rattle.exact_plane.specs.Point.{Point}
use Rattle.plane_graphs.specs.Ascending.{Member}
use Rattle.dcel_records.specs.declared.spot.Spot.{Spot}
use Rattle.zone_walk.specs.declared.plan.Meeting.{Meeting}
use Rattle.zone_walk.proofs.Gathering.{all_from}
use Rattle.zone_walk.proofs.search.gather.Goals as goal

abbrev meeting : Point → Spot → Meeting
meeting p at = record { point = p; spot = at }

pub returns : goal.returns
returns g c =
    let told = rw c.in-Some.is at c.in_ok-meetings.ensures in
    let e = c.take_all.ensures in
    λ v k knows h.
    all_from v k c.args.search.now c.take_all.new.search h c.in-Some.meetings.items (told v knows) e.same e.gathered e.kept
    (λ m i later. e.taken c.if-search.false m (subst (λ (xs : List Meeting). Member m xs) (sym c.as_slice.ensures.value) i) later)
    (λ p at i. ⊎_elim (λ j. inl j) (λ w. inr (subst (λ (xs : List Meeting). Member (meeting p at) xs) c.as_slice.ensures.value w.0, w.1)) (e.only p at i))
