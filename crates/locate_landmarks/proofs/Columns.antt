-- What a point sees below it, a point above it on the same vertical sees too.
use Rattle.std.proofs.Common.{◌≡◌, ℕ, zero, suc, ◌+◌, ◌<◌, ◌/◌, ◌%◌, ℤ, ◌<ℤ◌, true, false, arith, refl, sym, ◌∙◌, subst}
use Rattle.std.specs.Prelude.{Option, Some, None}
use Rattle.std.proofs.lemmas.Int.{ints}
use Rattle.exact_plane.specs.Point.{Point}
use Rattle.exact_plane.specs.Segment.{whole_point}
use Rattle.plane_graphs.specs.Graph.{Edge}
use Rattle.slab_laws.specs.Skeleton.{Skeleton, HasWeight, left_of, lower_than, IsPlaneSkeleton}
use Rattle.slab_laws.specs.Sound.{skeleton_of, edge_in, IsGraphSound}
use Rattle.slab_laws.specs.View.{View}
use Rattle.slab_faces.proofs.Corners.{same_after}
use Rattle.slab_faces.proofs.OverUnder.{under_in, under_out}
use Rattle.slab_faces.proofs.Points.{before_left, before_lower, before_trans}
use Rattle.slab_faces.proofs.Walls.{run_positive, side_rises}
use Rattle.edge_predicates.specs.Levels.{IsSeen}
use Rattle.edge_predicates.proofs.Seen.{reaches, slanted_below}
use Rattle.locate_walk.specs.Looks.{IsBelowOrNone}
use Rattle.locate_walk.specs.declared.found.EdgeBelow.{EdgeBelow}
use Rattle.locate_landmarks.specs.Built.{IsColumnBelow}
use Rattle.locate_landmarks.specs.Grid.{grid_number, landmark_at}

-- p is above q, on its vertical
pub record IsRightAbove (q p : Point) : Type 0 where
  pub not_left : left_of p q ≡ false
  pub not_right : left_of q p ≡ false
  pub above : lower_than q p ≡ true

module _ (g : Skeleton) (q p : Point) (plane : IsPlaneSkeleton g) (Q : HasWeight q) (P : HasWeight p) (u : IsRightAbove q p) where
  pub seen_above : (e : Edge) → IsSeen g q e → IsSeen g p e
  seen_above e s =
      let w = plane.proper_edge e s.in' in
      let long = slanted_below e q w.0 w.1 Q s.spanning s.lies_under in
      let r = reaches e q w.0 w.1 Q s.spanning s.lies_under in
      let side_q = under_out e q s.lies_under in
      let rise = side_rises e q p Q P (run_positive e long) u.not_right u.not_left u.above (omega (arith, ints)) in
      record {
        in' = s.in';
        spanning = record {
          from = before_trans e.low q p w.0 Q P s.spanning.from (before_lower q p u.not_left u.above);
          to = before_left p e.high (same_after e.high p q w.1 P Q u.not_left u.not_right ∙ r);
        };
        lies_under = under_in e p (omega (arith, ints));
      }

-- so it is with the highest edge that was passed
pub below_above : (v : View) (q p : Point) (o : Option EdgeBelow) → IsGraphSound v → HasWeight q → HasWeight p → IsRightAbove q p → IsBelowOrNone v q o → IsBelowOrNone v p o
below_above v q p None s Q P u h = tt
below_above v q p (Some b) s Q P u h = ((h.0.0, seen_above (skeleton_of v) q p s.plane Q P u (edge_in v b.dart) h.0.1), h.1)

-- ---- the landmarks of a column
right_above : (x y z : ℤ) → y <ℤ z → IsRightAbove (whole_point x y) (whole_point x z)
unfolding left_of lower_than
right_above x y z h = record { not_left = sym (omega (arith, ints)); not_right = sym (omega (arith, ints)); above = sym (omega (arith, ints)) }

next_above : (k : ℕ) → ((k + 1) % 7 ≡ 0 → ⊥) → IsRightAbove (landmark_at k) (landmark_at (k + 1))
next_above k h =
    let a : k / 7 ≡ (k + 1) / 7 = omega arith in
    let b : k % 7 < (k + 1) % 7 = omega arith in
    subst (λ (n : ℕ). IsRightAbove (landmark_at k) (whole_point (grid_number n) (grid_number ((k + 1) % 7)))) a
    (right_above (grid_number (k / 7)) (grid_number (k % 7)) (grid_number ((k + 1) % 7)) (omega (arith, ints)))

pub column_below : (v : View) (n : ℕ) (o : Option EdgeBelow) → IsGraphSound v → IsColumnBelow v n o → (n % 7 ≡ 0 → ⊥) → IsBelowOrNone v (landmark_at n) o
column_below v zero o s h r = absurd (r refl)
column_below v (suc k) o s h r =
    let e : k + 1 ≡ suc k = omega arith in
    let r' : (k + 1) % 7 ≡ 0 → ⊥ = λ z. r (subst (λ (m : ℕ). m % 7 ≡ 0) e z) in
    subst (λ (m : ℕ). IsBelowOrNone v (landmark_at m) o) e (below_above v (landmark_at k) (landmark_at (k + 1)) o s (omega (arith, ints)) (omega (arith, ints)) (next_above k r') (h k e r))
