-- What darts cross, one dart more.
use Rattle.std.proofs.Common.{◌≡◌, ℕ, ◌+◌, ◌<◌, arith, ap, ◌∙◌, subst, inl, inr, List, [], ◌∷◌, ◌++◌, length, get_or}
use Rattle.std.proofs.lemmas.Bool.{cases_lt}
use Rattle.std.proofs.lemmas.List.{get_or_append_left, get_or_push, length-append}
use Rattle.slab_laws.specs.declared.rows.ListedDart.{ListedDart}
use Rattle.slab_laws.specs.View.{dart_id}
use Rattle.subdivision_rows.specs.Listed.{Drawing}
use Rattle.polygon_sets.specs.declared.crossings.Crossing.{Crossing}
use Rattle.polygon_sets.specs.Crossings.{no_crossing, crossing_at}
use Rattle.polygon_sets.specs.CrossedDarts.{crossing_of}
use Rattle.polygon_sets.specs.OddVertices.{row_at}

abbrev pub AreCrossedUpto : Drawing → List ℕ → List ℕ → List ListedDart → ℕ → List Crossing → Type 0
AreCrossedUpto d red blue rows n cs = (length cs ≡ n) × ((k : ℕ) → k < n → crossing_at cs k ≡ crossing_of d red blue (dart_id k) (row_at rows k))

pub one_crossed : (d : Drawing) (red blue : List ℕ) (rows : List ListedDart) (n : ℕ) (old new : List Crossing) (c : Crossing) → c ≡ crossing_of d red blue (dart_id n) (row_at rows n) → new ≡ old ++ c ∷ [] → AreCrossedUpto d red blue rows n old → AreCrossedUpto d red blue rows (n + 1) new
one_crossed d red blue rows n old new c e grown t = (
  ap length grown ∙ length-append old (c ∷ []) ∙ ap (λ k. k + 1) t.0,
  λ k l. elim (cases_lt k n) [
    | inl a ↦ ap (λ xs. get_or xs k no_crossing) grown ∙ get_or_append_left old (c ∷ []) no_crossing k (let x = t.0 in omega arith) ∙ t.1 k a
    | inr a ↦ (let q : n ≡ k = omega arith in subst (λ j. crossing_at new j ≡ crossing_of d red blue (dart_id j) (row_at rows j)) q (ap (λ xs. get_or xs n no_crossing) grown ∙ get_or_push old c no_crossing n t.0 ∙ e))
  ],
)
