-- From face to face on the way: what is left of it gets less.
use Rattle.std.specs.Option.{option_map}
use Rattle.std.proofs.Common.{◌≡◌, ◌<◌, Bool, true, refl, sym, ap, ◌∙◌, inl, inr, subst}
use Rattle.std.specs.Prelude.{Option, Some, None}
use Rattle.exact_plane.specs.Point.{Point}
use Rattle.slab_laws.specs.declared.names.DartId.{DartId}
use Rattle.slab_laws.specs.declared.names.FaceId.{FaceId}
use Rattle.slab_laws.specs.Darts.{Dart}
use Rattle.slab_laws.specs.FacesSound.{IsSound}
use Rattle.slab_laws.specs.Sound.{skeleton_of, IsGraphSound}
use Rattle.slab_laws.specs.View.{View, Faces, HasFace, twin_in}
use Rattle.sound_views.proofs.NamedDarts.{twin_dart}
use Rattle.dcel_records.specs.declared.spot.Spot.TheVariants.{Face}
use Rattle.face_changes.proofs.FacesByPairs.{has_name, told_by_pairs}
use Rattle.face_location.specs.Spots.{IsSpotOf}
use Rattle.locate_landmarks.specs.Floors.{IsSeenAbove}
use Rattle.locate_landmarks.specs.Lowest.{IsAbove, IsEntry, IsLowered, floor_in}
use Rattle.locate_landmarks.specs.Walks.{dart_above, face_beside, IsUnder}
use Rattle.locate_landmarks.specs.declared.above.EdgeAbove.{EdgeAbove}

module _ (v : View) (f : Faces) (a b : FaceId) where
  -- the face on the right of the dart is that face again
  pub settled : (o : Option DartId) → b ≡ face_beside v f a o → face_beside v f b o ≡ b
  settled None e = refl
  settled (Some d) e = sym e

  -- ---- down along the vertical
  -- the twin of the dart is along the same edge
  entered : (q : Point) → IsGraphSound v → (p : Option EdgeAbove) → IsAbove v q p → IsEntry v q (option_map (twin_in v) (dart_above p))
  entered q s None k = tt
  entered q s (Some x) k =
      let has = k.0.0 in
      (s.twinned.has x.dart has, subst (IsSeenAbove (skeleton_of v) q) (sym (ap (λ (d : Dart). d.edge) (twin_dart v s x.dart has))) k.1)

  pub under_at : (q : Point) → IsGraphSound v → (p : Option EdgeAbove) (d r : Option DartId) → d ≡ dart_above p → r ≡ option_map (twin_in v) d → b ≡ face_beside v f a d → HasFace f b → IsAbove v q p → IsUnder v f q b p r
  under_at q s p d r i t e has k = record {
    has = has;
    lowest = k;
    under = settled (dart_above p) (e ∙ ap (face_beside v f a) i);
    entry = subst (IsEntry v q) (sym (t ∙ ap (option_map (twin_in v)) i)) (entered q s p k);
  }

  pub under_lowered : (q : Point) (y : Bool) (o p : Option EdgeAbove) (d r : Option DartId) → d ≡ dart_above p → b ≡ face_beside v f a d → (b ≡ a → ⊥) → IsUnder v f q a o r → IsLowered v q y o p → (y ≡ true) × (floor_in v q p < floor_in v q o)
  under_lowered q y o p d r i e other k (inl same) = absurd (other (e ∙ ap (face_beside v f a) (i ∙ ap dart_above same) ∙ k.under))
  under_lowered q y o p d r i e other k (inr l) = l

-- ---- where the walk begins
pub face_has : (v : View) (f : Faces) (p : Point) (a : FaceId) → IsSound v f → IsSpotOf v f p (Face a) → HasFace f a
face_has v f p a s h =
    let i = h.face in
    subst (HasFace f) i.2 (has_name v f s.complete (told_by_pairs v f s).there i.0 i.1)
