-- The looks that the walk has taken where it stands.
use Rattle.std.proofs.Common.{◌≡◌, ℕ, ◌+◌, ◌≤◌, arith, sym, subst, List, ◌∷◌}
use Rattle.std.specs.List.{sum_by}
use Rattle.std.proofs.lemmas.List.Sums.{sum_by-cons}
use Rattle.exact_plane.specs.Point.{Point}
use Rattle.exact_plane.specs.Segment.{Segment}
use Rattle.slab_laws.specs.declared.names.FaceId.{FaceId}
use Rattle.slab_laws.specs.View.{View, Faces}
use Rattle.counted_looks.specs.Boundaries.{boundary_size}
use Rattle.dcel_records.specs.declared.spot.Spot.TheVariants.{Face}
use Rattle.zone_walk.specs.Walk.{stop_looks}
use Rattle.zone_walk.specs.Zone.{meeting_points, later_points, IsNextMeeting, IsSpotBetween, CoversVisits}

module _ (v : View) (f : Faces) (g : Segment) where
  abbrev all_stops : List Point → ℕ
  all_stops ps = sum_by (stop_looks v g) ps

  -- what the looks from here on may take is within what all may take
  pub record IsCounted (start now : ℕ) (here : Point) : Type 0 where
    pub counted : (n : ℕ) → CoversVisits v f g (meeting_points v g) n → (k : ℕ) × CoversVisits v f g (here ∷ later_points v g here) k × (now + (k + all_stops (here ∷ later_points v g here)) ≤ start + (n + all_stops (meeting_points v g)))

  pub begins : (start : ℕ) (p : Point) → p ∷ later_points v g p ≡ meeting_points v g → IsCounted start start p
  begins start p e = record {
    counted = λ n h. (
      n,
      subst (λ (ps : List Point). CoversVisits v f g ps n) (sym e) h,
      subst (λ (ps : List Point). start + (n + all_stops ps) ≤ start + (n + all_stops (meeting_points v g))) (sym e) (omega arith),
    );
  }

  module _ (start now then : ℕ) (p q : Point) (h : IsCounted start now p) (next : later_points v g p ≡ q ∷ later_points v g q) (one : (r : Point) → IsNextMeeting v g p r → r ≡ q)
      (looks : (n : ℕ) → ((r : Point) (a : FaceId) → IsNextMeeting v g p r → IsSpotBetween v f g p r (Face a) → boundary_size v f a ≤ n) → then ≤ now + (stop_looks v g p + n)) where
    pub goes_on : IsCounted start then q
    goes_on = record {
      counted = λ n x.
          let w = h.counted n x in
          let covers = subst (λ (ps : List Point). CoversVisits v f g (p ∷ ps) w.0) next w.1 in
          let most = subst (λ (ps : List Point). now + (w.0 + all_stops (p ∷ ps)) ≤ start + (n + all_stops (meeting_points v g))) next w.2 in
          let sum = sum_by-cons (stop_looks v g) p (q ∷ later_points v g q) in
          let here = looks covers.0 (λ r a m s. covers.2 a (subst (λ (z : Point). IsSpotBetween v f g p z (Face a)) (one r m) s)) in
          let fits = covers.4 in
          (covers.1, covers.3, omega arith);
    }

  pub in_all : (start now : ℕ) (p : Point) → IsCounted start now p → (n : ℕ) → CoversVisits v f g (meeting_points v g) n → now ≤ start + (n + all_stops (meeting_points v g))
  in_all start now p h n x = let w = h.counted n x in let b = w.2 in omega arith
