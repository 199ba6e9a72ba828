-- What lies within the fresh half of a cycle, told by the other half.
use Rattle.std.proofs.Common.{◌≡◌, ◌↔◌, Bool, true, false, refl, sym, ap, ◌∙◌, subst, inl, inr}
use Rattle.std.specs.Prelude.{not}
use Rattle.std.proofs.lemmas.Bool.{true≢false}
use Rattle.slab_laws.specs.declared.names.DartId.{DartId}
use Rattle.slab_laws.specs.declared.names.VertexId.{VertexId}
use Rattle.slab_laws.specs.declared.slab_cell.SlabCell.{SlabCell}
use Rattle.slab_laws.specs.Changes.{merged}
use Rattle.slab_laws.specs.Cycles.{left_of_dart}
use Rattle.slab_laws.specs.Darts.{Dart}
use Rattle.slab_laws.specs.Meets.{SameFace}
use Rattle.slab_laws.specs.Rotation.{twin}
use Rattle.slab_laws.specs.Sound.{skeleton_of, dart_in}
use Rattle.slab_laws.specs.View.{View, Faces, cycle_in}
use Rattle.slab_faces.proofs.Turns.{face_trans, face_sym}
use Rattle.face_changes.specs.FacesByPairs.{beside, round}
use Rattle.face_changes.specs.Kinds.{odd_at, is_outer}
use Rattle.face_changes.specs.OneMoreEdge.{LiesIn, PartsCycle}
use Rattle.face_changes.proofs.OneMoreEdge.{faces_with_one_more_edge, sides_of_one_more_edge, cells_with_one_more_edge}
use Rattle.face_steps.specs.StepPremises.{IsBetween}
use Rattle.face_steps.specs.Tabled.{AreTabled}
use Rattle.face_steps.specs.Within.{WithinByEither}
use Rattle.face_steps.proofs.EdgePairs.{turned_round, twins, is_more, real_first, old_lies, vertex_lies}
use Rattle.face_steps.proofs.TwoFaces.{parted}

module _ (v w : View) (f : Faces) (d m : DartId) (p q : VertexId) (a b : DartId) (i : IsBetween v w d m p q a b) (h : AreTabled v f) (cycle : cycle_in f a ≡ cycle_in f b) (out : is_outer (skeleton_of w) (dart_in w d) ≡ true) where
  abbrev X : Dart
  X = dart_in w d

  abbrev Y : Dart
  Y = twin (dart_in w d)

  part : PartsCycle (skeleton_of v) (skeleton_of w) (dart_in w d) (dart_in v a)
  part = parted v w d m p q i.line i.edge a b i.first i.second i.after_first i.after_second ((h.cycled.orbits a b i.first i.second).0 cycle)

  here : LiesIn (skeleton_of v) (skeleton_of w) (dart_in w d).edge (left_of_dart (skeleton_of w) (dart_in w d)) (merged (skeleton_of v) (dart_in w d).edge (left_of_dart (skeleton_of w) (dart_in w d)))
  here = record { real = real_first v w d m p q i.line i.edge; in' = refl }

  here_twin : LiesIn (skeleton_of v) (skeleton_of w) (dart_in w d).edge (left_of_dart (skeleton_of w) (twin (dart_in w d))) (merged (skeleton_of v) (dart_in w d).edge (left_of_dart (skeleton_of w) (twin (dart_in w d))))
  here_twin = record { real = cells_with_one_more_edge.new (skeleton_of v) (skeleton_of w) (twin (dart_in w d)) (is_more v w d m p q i.line i.edge); in' = refl }

  odd_twin : odd_at (skeleton_of w) (dart_in w d) (left_of_dart (skeleton_of w) (twin (dart_in w d))) ≡ false
  odd_twin = go (odd_at (skeleton_of w) X (left_of_dart (skeleton_of w) Y)) refl
    where
      go : (c : Bool) → odd_at (skeleton_of w) X (left_of_dart (skeleton_of w) Y) ≡ c → odd_at (skeleton_of w) X (left_of_dart (skeleton_of w) Y) ≡ false
      go false e = e
      go true e = absurd (true≢false (sym out ∙ sides_of_one_more_edge.two (skeleton_of v) (skeleton_of w) X (is_more v w d m p q i.line i.edge) part.cycles.two ∙ ap not e))

  -- a cell of the old face is on m's side exactly where m's cycle has its parity there
  module _ (c e : SlabCell) (lies : LiesIn (skeleton_of v) (skeleton_of w) (dart_in w d).edge c e) (old : SameFace (skeleton_of v) e (left_of_dart (skeleton_of v) (dart_in v a))) where
    on_twin : (odd_at (skeleton_of w) Y c ≡ is_outer (skeleton_of w) Y) ↔ SameFace (skeleton_of w) c (left_of_dart (skeleton_of w) Y)
    on_twin =
        let l = faces_with_one_more_edge (skeleton_of v) (skeleton_of w) Y c (left_of_dart (skeleton_of w) Y) e _ (is_more v w d m p q i.line i.edge) lies here_twin in
        (λ z. l.1 (face_trans _ _ _ _ old (face_sym _ _ _ (part.near_twin _ here_twin)), z), λ k. (l.0 k).1)

    within : (odd_at (skeleton_of w) X c ≡ true) ↔ (¬ (odd_at (skeleton_of w) Y c ≡ is_outer (skeleton_of w) Y))
    within = (
      λ z k.
          let l = faces_with_one_more_edge (skeleton_of v) (skeleton_of w) X c (left_of_dart (skeleton_of w) Y) e _ (is_more v w d m p q i.line i.edge) lies here_twin in
          true≢false (sym z ∙ (l.0 (on_twin.0 k)).1 ∙ odd_twin),
      λ n. elim (part.sides c e lies old) [
        | inl k ↦
            let l = faces_with_one_more_edge (skeleton_of v) (skeleton_of w) X c (left_of_dart (skeleton_of w) X) e _ (is_more v w d m p q i.line i.edge) lies here in
            (l.0 k).1 ∙ out
        | inr k ↦ absurd (n (on_twin.1 k))
      ],
    )

    within_m : (odd_at (skeleton_of w) X c ≡ true) ↔ (¬ (odd_at (skeleton_of w) (dart_in w m) c ≡ is_outer (skeleton_of w) (dart_in w m)))
    within_m =
        let t = twins v w d m p q i.line i.edge in
        subst (λ z. (odd_at (skeleton_of w) (dart_in w d) c ≡ true) ↔ (¬ (odd_at (skeleton_of w) z c ≡ is_outer (skeleton_of w) z))) (sym t) within

pub within_by_either : WithinByEither
within_by_either = record {
  darts = λ v w f d m p q a b k i h cycle out K e.
      within_m v w f d m p q a b i h cycle out _ _ (old_lies v w d m p q i.line i.edge k K) ((h.told.same (beside k) (beside a) K i.first).0 e);
  vertices = λ v w f d m p q a b u i h cycle out U e.
      within_m v w f d m p q a b i h cycle out _ _ (vertex_lies v w d m p q i.line i.edge u U.0) ((h.told.same (round u) (beside a) U i.first).0 e);
  turned = λ v w d m p q a b i. record { line = i.line; edge = turned_round v w d m p q i.line i.edge; first = i.second; second = i.first; after_first = i.after_second; after_second = i.after_first };
}
