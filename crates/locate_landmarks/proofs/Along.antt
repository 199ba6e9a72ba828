-- The way along the horizontal, as far as it has come.
use Rattle.std.proofs.Common.{◌≡◌, ◌≤◌, ◌+◌, ℕ, List, [], ◌∷◌, arith, refl, sym, ap, ◌∙◌, inl, inr, subst}
use Rattle.std.specs.Prelude.{Option, None}
use Rattle.slab_laws.specs.declared.names.DartId.{DartId}
use Rattle.slab_laws.specs.declared.names.FaceId.{FaceId}
use Rattle.slab_laws.specs.FaceLists.{first_of}
use Rattle.slab_laws.specs.View.{HasFace}
use Rattle.dcel_records.specs.RecordsView.{RecordsView, tables_of}
use Rattle.locate_landmarks.specs.Horizontals.{IsCrossing, IsLater, IsLaterOrSame, dart_of_crossing}
use Rattle.locate_landmarks.specs.Walks.{face_beside}
use Rattle.locate_landmarks.specs.Ways.{face_after, size_along, size_of, LeadsAlong}
use Rattle.locate_landmarks.specs.declared.course.Course.{Course}
use Rattle.locate_landmarks.specs.declared.crossing.Crossing.{Crossing}

-- over these darts it has come to the face, which is still to be looked at; the last one's crossing is kept
pub record IsAlongTo (h : RecordsView) (c : Course) (first : FaceId) (start : ℕ) (ds : List DartId) (a : FaceId) (o : Option Crossing) (now : ℕ) : Type 0 where
  pub has : HasFace (tables_of h) a
  pub last : IsCrossing h.graph c o
  pub dart : dart_of_crossing o ≡ first_of ds
  pub leads : LeadsAlong h c first ds
  pub at : a ≡ face_after h first ds
  pub looks : now + size_of h a ≤ start + size_along h first ds

module _ (h : RecordsView) (c : Course) (first : FaceId) (start : ℕ) where
  pub along_begin : HasFace (tables_of h) first → IsCrossing h.graph c None → IsAlongTo h c first start [] first None start
  along_begin has k = record { has = has; last = k; dart = refl; leads = tt; at = refl; looks = omega arith }

  module _ (ds : List DartId) (a : FaceId) (o : Option Crossing) (now : ℕ) (w : IsAlongTo h c first start ds a o now) where
    -- where the last crossing is that of before, it leads into no other face
    same_face : (xs : List DartId) → dart_of_crossing o ≡ first_of xs → a ≡ face_after h first xs → face_beside h.graph (tables_of h) a (dart_of_crossing o) ≡ a
    same_face [] e i = ap (face_beside h.graph (tables_of h) a) e
    same_face (x ∷ xs) e i = ap (face_beside h.graph (tables_of h) a) e ∙ sym i

    -- after a round that found a later one, which leads into another face
    pub along_on : (p : Option Crossing) (b : FaceId) (then : ℕ) → IsCrossing h.graph c p → IsLaterOrSame h.graph c o p → b ≡ face_beside h.graph (tables_of h) a (dart_of_crossing p) → (b ≡ a → ⊥) → HasFace (tables_of h) b → then ≤ now + size_of h a
        → (es : List DartId) × IsAlongTo h c first start es b p then
    along_on p b then k (inl e) i other has l = absurd (other (i ∙ ap (λ (x : Option Crossing). face_beside h.graph (tables_of h) a (dart_of_crossing x)) e ∙ same_face ds w.dart w.at))
    along_on p b then k (inr y) i other has l =
        let d = y.0.dart in
        let j : b ≡ face_after h first (d ∷ ds) = i ∙ ap (λ (x : Option Crossing). face_beside h.graph (tables_of h) a (dart_of_crossing x)) y.1 in
        let own = subst (IsCrossing h.graph c) y.1 k in
        let m : size_of h b ≡ size_of h (face_after h first (d ∷ ds)) = ap (size_of h) j in
        let n = w.looks in (
          d ∷ ds,
          record {
            has = has;
            last = k;
            dart = ap dart_of_crossing y.1;
            leads = (w.leads, own.0, subst (λ (x : Option DartId). IsLater h.graph c x d) w.dart y.2, λ e. other (j ∙ e ∙ sym w.at));
            at = j;
            looks = omega arith;
          },
        )
