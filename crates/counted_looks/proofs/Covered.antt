-- What the box of a cycle tells of the ends of each dart on it.
use Rattle.std.proofs.Common.{◌≡◌, true, ◌&&◌, ℤ, ◌<ℤ◌, ◌≤ℤ◌, arith, inl, inr, ◌∙◌, subst}
use Rattle.std.specs.Prelude.{int_lt}
use Rattle.std.proofs.lemmas.Bool.{or_left, or_right}
use Rattle.std.proofs.lemmas.Int.{ints}
use Rattle.integers.proofs.Decisions.{lt_in, lt_out, or_out, both_in}
use Rattle.exact_plane.specs.WholeParts.{whole_parts, are_beyond, excludes, is_left_or_right_of}
use Rattle.exact_plane.specs.declared.whole_parts.BoundingBox.{BoundingBox}
use Rattle.exact_plane.specs.declared.whole_parts.WholeParts.{WholeParts}
use Rattle.slab_laws.specs.declared.names.CycleId.{CycleId}
use Rattle.slab_laws.specs.declared.names.DartId.{DartId}
use Rattle.slab_laws.specs.declared.names.VertexId.{VertexId}
use Rattle.slab_laws.specs.FacesSound.{IsSound}
use Rattle.slab_laws.specs.View.{View, Faces, HasDart, cycle_in, next_in, point_in, source_in, target_in}
use Rattle.boundary_cycles.proofs.NamedWalks.{lead_step}
use Rattle.dcel_records.specs.Areas.{Covers}
use Rattle.exact_plane.specs.Boxes.{are_apart, are_ranges_apart, is_beside}
use Rattle.counted_looks.specs.CycleLooks.{HasEnds}

-- ---- numbers between two others
at_most_less : (x y z : ℤ) → x ≤ℤ y → y <ℤ z → x <ℤ z
at_most_less x y z h k = omega (arith, ints)

less_at_most : (x y z : ℤ) → x <ℤ y → y ≤ℤ z → x <ℤ z
less_at_most x y z h k = omega (arith, ints)

-- where a range is beyond one end of another one, so are two numbers in it
pub beyond_in : (low high s t least greatest : ℤ) → low ≤ℤ s → s ≤ℤ high → low ≤ℤ t → t ≤ℤ high → are_ranges_apart low high least greatest ≡ true → are_beyond s t least greatest ≡ true
beyond_in low high s t least greatest a b c d e = elim (or_out (int_lt high least) (int_lt greatest low) e) [
  | inl h ↦
      let k = lt_out high least h in
      or_left (int_lt s least && int_lt t least) (int_lt greatest s && int_lt greatest t)
      (both_in (int_lt s least) (int_lt t least) (lt_in s least (at_most_less s high least b k)) (lt_in t least (at_most_less t high least d k)))
  | inr h ↦
      let k = lt_out greatest low h in
      or_right (int_lt s least && int_lt t least) (int_lt greatest s && int_lt greatest t)
      (both_in (int_lt greatest s) (int_lt greatest t) (lt_in greatest s (less_at_most greatest low s k a)) (lt_in greatest t (less_at_most greatest low t k c)))
]

-- ---- ends of darts in a box
module _ (v : View) (a : BoundingBox) (d : DartId) (h : HasEnds v a d) where
  abbrev from : WholeParts
  from = whole_parts (point_in v (source_in v d))

  abbrev to : WholeParts
  to = whole_parts (point_in v (target_in v d))

  across : (least greatest : ℤ) → are_ranges_apart a.least.x a.greatest.x least greatest ≡ true → are_beyond from.x to.x least greatest ≡ true
  across least greatest = beyond_in a.least.x a.greatest.x from.x to.x least greatest h.source.left h.source.right h.target.left h.target.right

  along : (least greatest : ℤ) → are_ranges_apart a.least.y a.greatest.y least greatest ≡ true → are_beyond from.y to.y least greatest ≡ true
  along least greatest = beyond_in a.least.y a.greatest.y from.y to.y least greatest h.source.below h.source.above h.target.below h.target.above

  -- a box apart from another one has no end of a dart whose edge might come into that
  pub apart_ends : (k : BoundingBox) → are_apart k a ≡ true → excludes k from to ≡ true
  apart_ends k e = elim (or_out _ _ e) [
    | inl x ↦ or_left _ _ (across k.least.x k.greatest.x x)
    | inr y ↦ or_right _ _ (along k.least.y k.greatest.y y)
  ]

  pub beside_ends : (p : WholeParts) → is_beside p a ≡ true → is_left_or_right_of p from to ≡ true
  beside_ends p e = across p.x p.x e

  pub above_ends : (p : WholeParts) → int_lt p.y a.least.y ≡ true → (p.y <ℤ from.y) × (p.y <ℤ to.y)
  above_ends p e = let k = lt_out p.y a.least.y e in (less_at_most p.y a.least.y from.y k h.source.below, less_at_most p.y a.least.y to.y k h.target.below)

-- ---- the box of a cycle
-- what has the sources of all darts on a cycle has their targets: each is the source of the dart after it
pub ends_covered : (v : View) (f : Faces) → IsSound v f → (c : CycleId) (k : BoundingBox) → ((d : DartId) → HasDart v d → cycle_in f d ≡ c → Covers k (whole_parts (point_in v (source_in v d)))) → (d : DartId) → HasDart v d → cycle_in f d ≡ c → HasEnds v k d
ends_covered v f s c k h d has on =
    let has' = s.graph.linked.has d has in
    let on' : cycle_in f (next_in v d) ≡ c = (s.cycled.orbits (next_in v d) d has' has).1 (lead_step v s.graph d has) ∙ on in
    record { source = h d has on; target = subst (λ (u : VertexId). Covers k (whole_parts (point_in v u))) (s.graph.linked.joins d has) (h (next_in v d) has' on') }
