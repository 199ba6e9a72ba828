-- What is taken where a cycle is parted: what lies within the outer half.
use Rattle.std.proofs.Common.{◌≡◌, ◌≢◌, ◌↔◌, Bool, true, false, refl, sym, ap, ◌∙◌, inl, inr}
use Rattle.std.proofs.lemmas.Bool.{true≢false, false≢true}
use Rattle.slab_laws.specs.declared.names.DartId.{DartId}
use Rattle.slab_laws.specs.Cycles.{left_of_dart}
use Rattle.slab_laws.specs.FacesSound.{lead_in}
use Rattle.slab_laws.specs.Sound.{skeleton_of, dart_in}
use Rattle.slab_laws.specs.View.{View, Faces, HasDart, cycle_in}
use Rattle.slab_laws.specs.declared.names.VertexId.{VertexId}
use Rattle.face_changes.specs.FacesByPairs.{Item, beside, cell_at}
use Rattle.face_changes.specs.Kinds.{odd_at, is_outer}
use Rattle.face_changes.specs.RecordsAfterSplits.{IsWithin}
use Rattle.face_changes.proofs.OneMoreEdge.{one_kind_each, faces_with_one_more_edge}
use Rattle.face_steps.specs.StepPremises.{IsBetween}
use Rattle.face_steps.specs.Tabled.{AreTabled}
use Rattle.face_steps.specs.Within.{IsBesideHalf}
use Rattle.face_steps.proofs.EdgePairs.{is_more, old_lies, listed, lead_old}
use Rattle.face_steps.proofs.TwoFaces.{parted}
use Rattle.cycle_writers.specs.declared.moves.Which.{Which}
use Rattle.cycle_writers.specs.declared.moves.Which.TheVariants.{All, Inside}
use Rattle.cycle_writers.specs.Taken.{takes}
use Rattle.cycle_writers.specs.TakenLaws.{IsSideOf}

-- not the false one, so the true one
other_than_false : (a b : Bool) → b ≡ false → (a ≡ true) ↔ (a ≢ b)
other_than_false true b e = (λ h n. true≢false (n ∙ e), λ n. refl)
other_than_false false b e = (λ h. absurd (false≢true h), λ n. absurd (n (sym e)))

-- either half tells what is within the outer one
pub taken_within : (w : View) (x y : DartId) (which : Which) (i : Item) → IsSideOf w x y which → IsWithin w x i ↔ (¬ IsBesideHalf w y i) → (takes w which i ≡ true) ↔ IsWithin w x i
taken_within w x y All i s e = absurd s
taken_within w x y (Inside half extent) i (inl s) e =
    let t : odd_at (skeleton_of w) (dart_in w half) (cell_at w i) ≡ odd_at (skeleton_of w) (dart_in w x) (cell_at w i) = ap (λ (d : DartId). odd_at (skeleton_of w) (dart_in w d) (cell_at w i)) s in
    (λ h. sym t ∙ h, λ h. t ∙ h)
taken_within w x y (Inside half extent) i (inr s) e =
    let t : odd_at (skeleton_of w) (dart_in w half) (cell_at w i) ≡ odd_at (skeleton_of w) (dart_in w y) (cell_at w i) = ap (λ (d : DartId). odd_at (skeleton_of w) (dart_in w d) (cell_at w i)) s.0 in
    let d = other_than_false (odd_at (skeleton_of w) (dart_in w y) (cell_at w i)) (is_outer (skeleton_of w) (dart_in w y)) s.1 in
    (λ h. e.1 (d.0 (sym t ∙ h)), λ h. t ∙ d.1 (e.0 h))

-- the darts of another cycle than the one that is parted lie within it together
pub within_together : (v w : View) (f : Faces) (x y : DartId) (p q : VertexId) (a b k m : DartId) → IsBetween v w x y p q a b → AreTabled v f → cycle_in f a ≡ cycle_in f b → HasDart v k → HasDart v m → cycle_in f k ≡ cycle_in f m → cycle_in f k ≢ cycle_in f a → IsWithin w x (beside k) → IsWithin w x (beside m)
within_together v w f x y p q a b k m i h ab K M km ka o =
    let part = parted v w x y p q i.line i.edge a b i.first i.second i.after_first i.after_second ((h.cycled.orbits a b i.first i.second).0 ab) in
    let one : lead_in w k ≡ lead_in w m =
    lead_old v w x y p q i.line i.edge k K
    ∙ part.cycles.still (dart_in v k) (dart_in v m) (listed v w x y p q i.line i.edge k K) (listed v w x y p q i.line i.edge m M) (λ e. ka ((h.cycled.orbits k a K i.first).1 e)) ((h.cycled.orbits k m K M).0 km)
    ∙ sym (lead_old v w x y p q i.line i.edge m M) in
    let same = one_kind_each.face (skeleton_of w) (dart_in w k) (dart_in w m) i.edge.sound_more.plane one in
    let l = faces_with_one_more_edge (skeleton_of v) (skeleton_of w) (dart_in w x) (left_of_dart (skeleton_of w) (dart_in w k)) (left_of_dart (skeleton_of w) (dart_in w m)) _ _ (is_more v w x y p q i.line i.edge) (old_lies v w x y p q i.line i.edge k K) (old_lies v w x y p q i.line i.edge m M) in
    sym (l.0 same).1 ∙ o
