-- The list of where the landmarks lie, as far as it has come.
use Rattle.std.proofs.Common.{◌≡◌, ℕ, ◌+◌, ◌<◌, List, [], ◌∷◌, ◌++◌, length, get_or, arith, sym, ap, ◌∙◌, subst, inl, inr}
use Rattle.std.proofs.lemmas.Bool.{cases_lt}
use Rattle.std.proofs.lemmas.List.{get_or_append_left}
use Rattle.std.proofs.Common.{length-append}
use Rattle.std.proofs.Math.Seq.{get_or-append_seam}
use Rattle.slab_laws.specs.View.{View, Faces}
use Rattle.dcel_records.specs.declared.spot.Spot.{Spot}
use Rattle.face_location.specs.Spots.{IsSpotOf}
use Rattle.locate_landmarks.specs.Built.{IsBuiltFor}
use Rattle.locate_landmarks.specs.Grid.{landmark_at}

pub record IsFilled (spots : List Spot) (v : View) (f : Faces) (n : ℕ) : Type 0 where
  pub all : length spots ≡ n
  pub there : (k : ℕ) (other : Spot) → k < n → IsSpotOf v f (landmark_at k) (get_or spots k other)

pub filled_on : (v : View) (f : Faces) (spots : List Spot) (n : ℕ) (s : Spot) → IsFilled spots v f n → IsSpotOf v f (landmark_at n) s → IsFilled (spots ++ s ∷ []) v f (n + 1)
filled_on v f spots n s h k = record {
  all = length-append spots (s ∷ []) ∙ ap (λ m. m + 1) h.all;
  there = λ i other l. elim (cases_lt i n) [
    | inl a ↦ let m = h.all in subst (IsSpotOf v f (landmark_at i)) (sym (get_or_append_left spots (s ∷ []) other i (omega arith))) (h.there i other a)
    | inr b ↦
        let e : length spots ≡ i = let m = h.all in omega arith in
        let seam : get_or (spots ++ s ∷ []) i other ≡ s = subst (λ m. get_or (spots ++ s ∷ []) m other ≡ s) e (get_or-append_seam spots s [] other) in
        let same : n ≡ i = sym h.all ∙ e in
        subst (IsSpotOf v f (landmark_at i)) (sym seam) (subst (λ m. IsSpotOf v f (landmark_at m) s) same k)
  ];
}

pub built : (v : View) (f : Faces) (spots : List Spot) (n : ℕ) → n ≡ 49 → IsFilled spots v f n → IsBuiltFor spots v f
built v f spots n e h = let g = subst (IsFilled spots v f) e h in record { all = g.all; there = g.there }
