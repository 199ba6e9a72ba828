-- The way down along the vertical, as far as it has come.
use Rattle.std.proofs.Common.{◌≡◌, ◌<◌, ◌≤◌, ◌+◌, ℕ, Bool, true, List, [], ◌∷◌, arith, refl, sym, ap, ◌∙◌, subst}
use Rattle.std.specs.Prelude.{Option, Some, None}
use Rattle.exact_plane.specs.Point.{Point}
use Rattle.slab_laws.specs.declared.names.DartId.{DartId}
use Rattle.slab_laws.specs.declared.names.FaceId.{FaceId}
use Rattle.slab_laws.specs.FaceLists.{first_of}
use Rattle.slab_laws.specs.View.{View}
use Rattle.dcel_records.specs.RecordsView.{RecordsView, tables_of}
use Rattle.locate_landmarks.specs.Lowest.{IsAbove, floor_in}
use Rattle.locate_landmarks.specs.Walks.{dart_above, face_beside}
use Rattle.locate_landmarks.specs.Ways.{face_after, size_along, size_of, floor_of, LeadsDown}
use Rattle.locate_landmarks.specs.declared.above.EdgeAbove.{EdgeAbove}

-- below the edges of these darts it has come to the face, which is still to be looked at; the last one is kept
pub record IsDownTo (h : RecordsView) (q : Point) (downward : Bool) (first : FaceId) (start : ℕ) (ds : List DartId) (a : FaceId) (o : Option EdgeAbove) (now : ℕ) : Type 0 where
  pub dart : dart_above o ≡ first_of ds
  pub leads : LeadsDown h q downward first ds
  pub at : a ≡ face_after h first ds
  pub looks : now + size_of h a ≤ start + size_along h first ds

floor_above : (v : View) (q : Point) (o : Option EdgeAbove) → floor_in v q o ≡ floor_of v q (dart_above o)
floor_above v q None = refl
floor_above v q (Some a) = refl

module _ (h : RecordsView) (q : Point) (downward : Bool) (first : FaceId) (start : ℕ) where
  pub down_begin : IsDownTo h q downward first start [] first None start
  down_begin = record { dart = refl; leads = tt; at = refl; looks = omega arith }

  module _ (ds : List DartId) (a : FaceId) (o : Option EdgeAbove) (now : ℕ) (w : IsDownTo h q downward first start ds a o now) where
    -- after a round that found a lower edge, which leads into another face
    pub down_on : (p : Option EdgeAbove) (d : Option DartId) (b : FaceId) (then : ℕ) → IsAbove h.graph q p → downward ≡ true → floor_in h.graph q p < floor_in h.graph q o → d ≡ dart_above p → b ≡ face_beside h.graph (tables_of h) a d → (b ≡ a → ⊥) → then ≤ now + size_of h a
        → (es : List DartId) × IsDownTo h q downward first start es b p then
    down_on None d b then k t lower e i other l = absurd (other (i ∙ ap (face_beside h.graph (tables_of h) a) e))
    down_on (Some x) d b then k t lower e i other l =
        let j : b ≡ face_after h first (x.dart ∷ ds) = i ∙ ap (face_beside h.graph (tables_of h) a) e in
        let m : size_of h b ≡ size_of h (face_after h first (x.dart ∷ ds)) = ap (size_of h) j in
        let n = w.looks in
        let under = subst (λ (y : Option DartId). floor_of h.graph q (Some x.dart) < floor_of h.graph q y) w.dart (subst (λ (y : ℕ). floor_of h.graph q (Some x.dart) < y) (floor_above h.graph q o) lower) in (
          x.dart ∷ ds,
          record {
            dart = refl;
            leads = (w.leads, t, (k.0, k.1), under, λ y. other (j ∙ y ∙ sym w.at));
            at = j;
            looks = omega arith;
          },
        )
