-- Meeting points on edges that a source tells at once, and that a search keeps.
use Rattle.std.proofs.Common.{◌≡◌, ℕ, ◌+◌, ◌<◌, ◌≤◌, true, false, Contains, List, length, drop, get_or, add-one, refl, sym, ap, ◌∙◌, subst, inl, inr, ◌⊎◌, ⊎_elim}
use Rattle.std.proofs.Math.Seq.{drop-cons}
use Rattle.std.proofs.lemmas.List.{drop_all}
use Rattle.std.specs.Map.{keys_of}
use Rattle.exact_plane.specs.Point.{Point}
use Rattle.exact_plane.specs.Segment.{Segment}
use Rattle.plane_graphs.specs.Ascending.{Member}
use Rattle.plane_graphs.specs.Line.{precedes}
use Rattle.plane_graphs.proofs.Lists.{of_map}
use Rattle.plane_graphs.proofs.Order.{lt_in}
use Rattle.plane_graphs.proofs.Sorting.{member_at}
use Rattle.slab_laws.specs.View.{View, HasDart}
use Rattle.slab_laws.specs.declared.names.DartId.{DartId}
use Rattle.counted_looks.specs.declared.boundary_part.BoundaryPart.TheVariants.{Dart}
use Rattle.dcel_records.specs.declared.spot.Spot.{Spot}
use Rattle.zone_walk.specs.FoundPoints.{entries_in}
use Rattle.zone_walk.specs.Searches.{AreKept, IsOneSearch, IsPartTaken, IsSearchFrom}
use Rattle.zone_walk.specs.Sources.{AreAllOnEdges}
use Rattle.zone_walk.specs.Zone.{meeting_points}
use Rattle.zone_walk.specs.declared.plan.Meeting.{Meeting}
use Rattle.zone_walk.specs.declared.search.Search.{Search}
use Rattle.zone_walk.proofs.Searched.{after_lower, goes_on, kept_on, one_on}

-- ---- a search takes the meetings before the place i
pub record IsTaking (o l : Search) (ms : List Meeting) (i : ℕ) : Type 0 where
  pub one : IsOneSearch o l
  pub gathered : l.gathered ≡ o.gathered
  pub kept : AreKept (entries_in o.found) (entries_in l.found)
  pub taken : l.failed ≡ false → (m : Meeting) → Member m ms → precedes o.here m.point ≡ true → Member m.point (keys_of (entries_in l.found)) ⊎ Member m (drop i ms)
  pub only : (p : Point) (at : Spot) → Member (p, at) (entries_in l.found) → Member (p, at) (entries_in o.found) ⊎ (Member (record { point = p; spot = at }) ms × (precedes o.here p ≡ true))

module _ (o : Search) (ms : List Meeting) where
  pub first_taking : IsTaking o o ms 0
  first_taking = record {
    one = record { segment = refl; here = refl; visited = refl; whole = refl; bounds = refl; failed = λ e. e };
    gathered = refl;
    kept = λ p m. m;
    taken = λ f m i e. inr i;
    only = λ p at m. inl m;
  }

  module _ (l : Search) (i : ℕ) (a : IsTaking o l ms i) (x : Meeting) (h : i < length ms) (is : x ≡ get_or ms i x) (n : Search) (same : IsOneSearch l n) (gathered : n.gathered ≡ l.gathered) (kept : AreKept (entries_in l.found) (entries_in n.found))
      (taken : n.failed ≡ false → precedes l.here x.point ≡ true → Member x.point (keys_of (entries_in n.found)))
      (only : (p : Point) (at : Spot) → Member (p, at) (entries_in n.found) → Member (p, at) (entries_in l.found) ⊎ ((p ≡ x.point) × (at ≡ x.spot) × (precedes l.here p ≡ true))) where
    here_in : Member x ms
    here_in = subst (λ (y : Meeting). Member y ms) (sym is) (member_at ms i x h)

    rest : (m : Meeting) → Member m (drop i ms) → (m ≡ x) ⊎ Member m (drop (i + 1) ms)
    rest m k = ⊎_elim (λ q. inl (q ∙ sym is)) (λ q. inr (subst (λ (j : ℕ). Member m (drop j ms)) (sym (add-one i)) q)) (subst (Member m) (drop-cons ms i x h) k)

    pub next_taking : IsTaking o n ms (i + 1)
    next_taking = record {
      one = one_on o l n a.one same;
      gathered = gathered ∙ a.gathered;
      kept = kept_on (entries_in o.found) (entries_in l.found) (entries_in n.found) a.kept kept;
      taken = λ f m k e. ⊎_elim
          (λ j. inl (kept m.point j))
          (λ j. ⊎_elim (λ q. inl (subst (λ (y : Meeting). Member y.point (keys_of (entries_in n.found))) (sym q) (taken f (ap (λ (z : Point). precedes z x.point) a.one.here ∙ ap (λ (y : Meeting). precedes o.here y.point) (sym q) ∙ e)))) (λ q. inr q) (rest m j))
          (a.taken (same.failed f) m k e);
      only = λ p at k. ⊎_elim
          (λ j. a.only p at j)
          (λ w. inr (subst (λ (y : Meeting). Member y ms) (λ j. record { point = sym w.0 j; spot = sym w.1 j }) here_in, ap (λ (z : Point). precedes z p) (sym a.one.here) ∙ w.2))
          (only p at k);
    }

  pub all_taking : (l : Search) (i : ℕ) → IsTaking o l ms i → length ms ≤ i → l.failed ≡ false → (m : Meeting) → Member m ms → precedes o.here m.point ≡ true → Member m.point (keys_of (entries_in l.found))
  all_taking l i a h f m k e = ⊎_elim (λ j. j) (λ j. absurd (subst (Member m) (drop_all i ms h) j)) (a.taken f m k e)

-- ---- then all later meeting points on edges are found
-- the search, which has them all
abbrev pub with_all : Search → Search
with_all l = record { alloc = l.alloc; segment = l.segment; whole = l.whole; bounds = l.bounds; here = l.here; found = l.found; visited = l.visited; gathered = true; failed = l.failed }

module _ (v : View) (k o l : Search) (h : IsSearchFrom v k o) (ms : List Meeting) (told : AreAllOnEdges v o.segment ms) (one : IsOneSearch o l) (gathered : l.gathered ≡ o.gathered) (kept : AreKept (entries_in o.found) (entries_in l.found))
    (taken : (m : Meeting) → Member m ms → precedes o.here m.point ≡ true → Member m.point (keys_of (entries_in l.found)))
    (only : (p : Point) (at : Spot) → Member (p, at) (entries_in l.found) → Member (p, at) (entries_in o.found) ⊎ (Member (record { point = p; spot = at }) ms × (precedes o.here p ≡ true))) where
  from : IsSearchFrom v k l
  from =
      goes_on v (λ p. Contains (meeting_points v o.segment) p) k o l h one gathered kept (λ p m. m)
      (λ p at m. ⊎_elim (λ j. inl j) (λ w. inr (told.meets (record { point = p; spot = at }) w.0, told.there (record { point = p; spot = at }) w.0, w.1)) (only p at m))

  part : (d : DartId) → HasDart v d → IsPartTaken v o.segment o.here (entries_in l.found) (Dart d)
  part d has p on m later =
      ⊎_elim
      (λ j. let r = of_map (λ (x : Meeting). x.point) p ms j in inl (subst (λ (z : Point). Member z (keys_of (entries_in l.found))) (sym r.2) (taken r.0 r.1 (ap (precedes o.here) (sym r.2) ∙ later))))
      (λ e. inr e)
      (told.all d has p on m (lt_in (after_lower v k o h d has p later)))

  pub all_from : IsSearchFrom v k (with_all l)
  all_from = record {
    one = record { segment = from.one.segment; here = from.one.here; visited = from.one.visited; whole = from.one.whole; bounds = from.one.bounds; failed = from.one.failed };
    sound = from.sound;
    ends = from.ends;
    whole = from.whole;
    spanned = from.spanned;
    boxed = from.boxed;
    stands = from.stands;
    found = from.found;
    kept = from.kept;
    gathered = λ e d has.
        subst (λ (z : Segment). IsPartTaken v z l.here (entries_in l.found) (Dart d)) (sym one.segment)
        (subst (λ (z : Point). IsPartTaken v o.segment z (entries_in l.found) (Dart d)) (sym one.here) (part d has));
  }
