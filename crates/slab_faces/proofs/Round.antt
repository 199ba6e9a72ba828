-- Once round a vertex, clockwise: left bottom, the edges from the left upwards, left top, the vertical edge up, right top,
-- the edges to the right downwards, right bottom, the vertical edge down, left bottom. Where nothing stands between two corners, they are in one face.
use Rattle.std.proofs.Common.{◌≡◌, ℕ, Bool, false, cond, arith, refl, sym, ap, ◌∙◌, inl, inr, subst}
use Rattle.std.specs.Prelude.{pos, not, ◌&&◌}
use Rattle.std.specs.List.{count_by, Contains}
use Rattle.std.proofs.lemmas.Int.{ints, by_lt_z}
use Rattle.std.proofs.lemmas.Bool.{false_from_ne_true, cases_Bool}
use Rattle.exact_plane.specs.Point.{Point}
use Rattle.plane_graphs.specs.Graph.{Edge}
use Rattle.slab_laws.specs.Skeleton.{Skeleton, lower_than, side, over, under, IsPlaneSkeleton}
use Rattle.slab_laws.specs.Meets.{IsOpenAbove, SameFace, across, here, right}
use Rattle.slab_laws.specs.Slabs.{slab_left, slab_right, reaches_left, reaches_right, left_bottom, left_top, right_top, right_bottom}
use Rattle.slab_faces.proofs.OverUnder.{negative_not_under, over_in, positive_not_over, under_in}
use Rattle.slab_faces.proofs.Slabs.{no_order}
use Rattle.slab_faces.proofs.Sums.{each, sum_by-same}
use Rattle.slab_faces.proofs.Along.{IsUpright, covers_parts}
use Rattle.slab_faces.proofs.Turns.{on_own_wall}
use Rattle.slab_faces.proofs.Upright.{not_inside}
use Rattle.slab_faces.proofs.Corners.{IsFan, IsAt, left_fan, right_fan, alike, meets_below}

-- no edge at t from a side: nothing between the corners on that side
empty_side : (g : Skeleton) (t : Point) (i : ℕ) (M : Point) (reach : Edge → Bool) → IsFan g t i M reach → ((f : Edge) → IsAt g t reach f → ⊥) → count_by (λ f. reach f && under f t) g.edges ≡ count_by (λ f. reach f && not (over f t)) g.edges
empty_side g t i M reach n none =
    sum_by-same (λ f. cond (reach f && under f t) 1 0) (λ f. cond (reach f && not (over f t)) 1 0) g.edges (each (λ f. cond {A = ℕ} (reach f && under f t) 1 0 ≡ cond (reach f && not (over f t)) 1 0) g.edges (λ f F.
    alike (reach f) (reach f) (under f t) (not (over f t)) refl (λ h.
    by_lt_z (pos 0) (side f t)
    (λ k. under_in f t k ∙ sym (ap not (positive_not_over f t k)))
    (λ k. by_lt_z (side f t) (pos 0)
    (λ l. negative_not_under f t l ∙ sym (ap not (over_in f t l)))
    (λ l. absurd (none f (record { in' = F; reaches = h; on = omega (arith, ints) })))))))

pub left_empty : (g : Skeleton) (v : Point) → IsPlaneSkeleton g → Contains g.vertices v → ((f : Edge) → IsAt g v (λ e. reaches_left e v) f → ⊥) → SameFace g (left_bottom g v) (left_top g v)
left_empty g v plane in' none =
    let e = empty_side g v (slab_left g v) _ (λ e. reaches_left e v) (left_fan g v plane (on_own_wall g v plane in')) none in
    subst (λ n. SameFace g (left_bottom g v) (record { slab = slab_left g v; place = n })) e (here _)

pub right_empty : (g : Skeleton) (v : Point) → IsPlaneSkeleton g → Contains g.vertices v → ((f : Edge) → IsAt g v (λ e. reaches_right e v) f → ⊥) → SameFace g (right_bottom g v) (right_top g v)
right_empty g v plane in' none =
    let e = empty_side g v (slab_right g v) _ (λ e. reaches_right e v) (right_fan g v plane (on_own_wall g v plane in')) none in
    subst (λ n. SameFace g (right_bottom g v) (record { slab = slab_right g v; place = n })) e (here _)

-- no vertical edge up from v
pub top_open : (g : Skeleton) (v : Point) → IsPlaneSkeleton g → Contains g.vertices v → ((f : Edge) → Contains g.edges f → f.low ≡ v → IsUpright f v → ⊥) → SameFace g (left_top g v) (right_top g v)
top_open g v plane in' none =
    let free : IsOpenAbove g v = record {
      open_at = λ f F. false_from_ne_true _ (λ h.
          let c = covers_parts f v h in
          let u = c.0 in
          let low : lower_than f.low v ≡ false = false_from_ne_true _ (λ x. not_inside g f v plane F in' u x c.1.1) in
          none f F (plane.distinct f.low v (plane.lower_in f F) in' (no_order _ _ u.lower_1 u.lower_2 low) (no_order _ _ u.lower_2 u.lower_1 c.1.0)) u);
    } in
    right _ _ _ (here _) (across v (on_own_wall g v plane in') free)

-- no vertical edge down from v
pub bottom_open : (g : Skeleton) (v : Point) → IsPlaneSkeleton g → Contains g.vertices v → ((f : Edge) → Contains g.edges f → f.high ≡ v → IsUpright f v → ⊥) → SameFace g (left_bottom g v) (right_bottom g v)
bottom_open g v plane in' none =
    meets_below g v plane in' (on_own_wall g v plane in') (λ f F u a b.
    elim (cases_Bool (lower_than v f.high)) [
      | inl h ↦ not_inside g f v plane F in' u a h
      | inr h ↦ none f F (plane.distinct f.high v (plane.upper_in f F) in' (no_order _ _ u.upper_1 u.upper_2 b) (no_order _ _ u.upper_2 u.upper_1 h)) u
    ])

-- ---- two edges that end at one vertex: the one is above the other where its far end is on the left of the other's line
