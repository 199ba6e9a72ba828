-- A dart that whole parts tell to be beside the point, and a cycle that its box tells to be so, or above it.
use Rattle.std.proofs.Common.{◌≡◌, Bool, true, refl, sym, ap, ◌∙◌, inl, inr, subst}
use Rattle.integers.proofs.Decisions.{or_out}
use Rattle.exact_plane.specs.WholeParts.{whole_parts, is_left_or_right_of}
use Rattle.exact_plane.specs.declared.whole_parts.BoundingBox.{BoundingBox}
use Rattle.exact_plane.specs.declared.whole_parts.WholeParts.{WholeParts}
use Rattle.slab_laws.specs.declared.names.DartId.{DartId}
use Rattle.slab_laws.specs.View.{View, HasDart}
use Rattle.exact_plane.specs.Boxes.{is_beside, is_beside_or_above}
use Rattle.counted_looks.specs.CycleLooks.{HasEnds}
use Rattle.counted_looks.specs.Looks.{IsLookOf, looked_at}
use Rattle.counted_looks.specs.declared.boundary_part.BoundaryPart.TheVariants.{Dart}
use Rattle.counted_looks.specs.declared.glance.Looked.{Looked}
use Rattle.counted_looks.proofs.Covered.{beside_ends, above_ends}
use Rattle.dcel_records.specs.declared.spot.Spot.TheVariants.{Edge}
use Rattle.locate_walk.specs.Looks.{HasLooked, MayLook, HasSeen}
use Rattle.locate_walk.specs.declared.highest.Highest.{Highest}
use Rattle.locate_walk.proofs.Beyond.{beside_looked, above_looked}
use Rattle.locate_walk.proofs.Takes.{looked_seen}

-- what was told of a place that was read
pub told_beside : (at p s t : WholeParts) (b : Bool) → at ≡ p → b ≡ is_left_or_right_of at s t → b ≡ true → is_left_or_right_of p s t ≡ true
told_beside at p s t b i e f = ap (λ (a : WholeParts). is_left_or_right_of a s t) (sym i) ∙ sym e ∙ f

module _ (v : View) (k h : Highest) (m : MayLook v k h) (d : DartId) (D : HasDart v d) where
  has : HasDart h.glance.now.graph d
  has = subst (λ (w : View). HasDart w d) (sym m.graph) D

  seen : HasLooked h (Dart d) h → HasSeen v h (Dart d)
  seen l = looked_seen v h h (Dart d) l k m

  -- ---- a dart
  pub dart_beside : (l : Looked) → IsLookOf v (Edge d) l → is_left_or_right_of (whole_parts h.point) (whole_parts l.source) (whole_parts l.target) ≡ true → HasSeen v h (Dart d)
  dart_beside l look e = seen (beside_looked h d l m.map.sound.graph m.proper has (subst (λ (w : View). IsLookOf w (Edge d) l) (sym m.graph) look) e)

  -- ---- one in the box of a cycle
  module _ (area : BoundingBox) (ends : HasEnds v area d) where
    pub beside_seen : is_beside (whole_parts h.point) area ≡ true → HasSeen v h (Dart d)
    beside_seen e = dart_beside (looked_at v d) (refl, refl, refl) (beside_ends v area d ends (whole_parts h.point) e)

    pub beside_or_above_seen : is_beside_or_above (whole_parts h.point) area ≡ true → HasSeen v h (Dart d)
    beside_or_above_seen e = elim (or_out _ _ e) [
      | inl x ↦ beside_seen x
      | inr y ↦
          let over = above_ends v area d ends (whole_parts h.point) y in
          seen (above_looked h d (looked_at v d) m.map.sound.graph m.proper has (subst (λ (w : View). IsLookOf w (Edge d) (looked_at v d)) (sym m.graph) (refl, refl, refl)) over.0 over.1)
    ]
