-- A table read by its names, one after the other.
use Rattle.std.proofs.Common.{◌≡◌, ◌≢◌, ℕ, ◌<◌, ◌==◌, Bool, true, false, cond, List, [], ◌∷◌, map, Option, Some, None, IsSome, refl, sym, ap, ap₂, ◌∙◌, inl, inr, arith}
use Rattle.std.specs.List.{AllByRecursion}
use Rattle.std.specs.Prelude.{◌≤◌, ◌↔◌}
use Rattle.std.specs.Option.{option_map, option_eq}
use Rattle.std.proofs.lemmas.Bool.{cases_eq, cases_Bool, eqb-true, false≢true}
use Rattle.slab_laws.specs.declared.names.VertexId.{VertexId}
use Rattle.slab_laws.specs.View.{vertex_id}
use Rattle.slab_laws.specs.Tables.{row_at, names, name_after, is_after, NamesAscend}
use Rattle.arr_notes.proofs.After.{next_has}
use Rattle.integers.proofs.Tests.{other_number, same_number}

pub made_have : {A : Type 0} (make : ℕ → A) (P : A → Type 0) (ns : List ℕ) → AllByRecursion (λ n. P (make n)) ns → AllByRecursion P (map make ns)
made_have make P [] a = tt
made_have make P (n ∷ ns) a = (a.0, made_have make P ns a.1)

module _ {X : Type 0} where
  -- ---- names have rows
  further : (b : Bool) (x : X) (o : Option X) → IsSome o → IsSome (cond b (Some x) o)
  further true x o h = refl
  further false x o h = h

  still : (r : ℕ × X) (rs : List (ℕ × X)) (ns : List ℕ) → AllByRecursion (λ n. IsSome (row_at rs n)) ns → AllByRecursion (λ n. IsSome (row_at (r ∷ rs) n)) ns
  unfolding row_at
  still r rs [] a = tt
  still r rs (n ∷ ns) a = (further (r.0 == n) r.1 (row_at rs n) a.0, still r rs ns a.1)

  pub names_have : (rs : List (ℕ × X)) → AllByRecursion (λ n. IsSome (row_at rs n)) (names rs)
  unfolding row_at
  names_have [] = tt
  names_have (r ∷ rs) = (rw (same_number r.0) refl, still r rs (names rs) (names_have rs))

  -- ---- the rows that names find are the table
  module _ (or : ℕ → Option X → X) (back : (n : ℕ) (x : X) → or n (Some x) ≡ x) where
    others : (r : ℕ × X) (rs : List (ℕ × X)) (ns : List ℕ) → AllByRecursion (λ m. r.0 < m) ns → map {B = ℕ × X} (λ n. (n, or n (row_at (r ∷ rs) n))) ns ≡ map {B = ℕ × X} (λ n. (n, or n (row_at rs n))) ns
    unfolding row_at
    others r rs [] a = refl
    others r rs (n ∷ ns) a =
        let ne : r.0 ≢ n = omega (arith, a.0) in
        rw (other_number r.0 n ne) (ap (λ (qs : List (ℕ × X)). (n, or n (row_at rs n)) ∷ qs) (others r rs ns a.1))

    first : (r : ℕ × X) (rs : List (ℕ × X)) → ◌≡◌ {A = ℕ × X} (r.0, or r.0 (row_at (r ∷ rs) r.0)) r
    unfolding row_at
    first r rs = rw (same_number r.0) (ap (λ x. (r.0, x)) (back r.0 r.1))

    pub rows_read : (rs : List (ℕ × X)) → NamesAscend (names rs) → map {B = ℕ × X} (λ n. (n, or n (row_at rs n))) (names rs) ≡ rs
    rows_read [] a = refl
    rows_read (r ∷ rs) a = ap₂ (λ q qs. q ∷ qs) (first r rs) (others r rs (names rs) a.0 ∙ rows_read rs a.1)

  -- ---- the next name that has a row
  -- where no name that comes after has a row, none comes after
  pub none_after : (rs : List (ℕ × X)) (at : Option ℕ) → ((n : ℕ) → is_after at n ≡ true → row_at rs n ≡ None) → name_after (names rs) at ≡ None
  unfolding row_at name_after
  none_after [] at h = refl
  none_after (r ∷ rs) at h = elim (cases_Bool (is_after at r.0)) [
    | inl q ↦ let e = rw (same_number r.0) at (h r.0 q) in absurd (cc)
    | inr q ↦ rw q (none_after rs at (λ n a. later n a))
  ]
    where
      later : (n : ℕ) → is_after at n ≡ true → row_at rs n ≡ None
      later n a = elim (cases_eq r.0 n) [
        | inl e ↦ let t = rw (e, same_number n) at (h n a) in absurd (cc)
        | inr ne ↦ rw (other_number r.0 n ne) at (h n a)
      ]

  -- a name that has a row is one of the names
  above : (i n : ℕ) (rs : List (ℕ × X)) → AllByRecursion (λ m. i < m) (names rs) → IsSome (row_at rs n) → i < n
  unfolding row_at
  above i n [] h k = absurd (false≢true k)
  above i n (r ∷ rs) h k = elim (cases_eq r.0 n) [
    | inl e ↦ omega (arith, h.0)
    | inr ne ↦ let f = rw (other_number r.0 n ne) at k in above i n rs h.1 f
  ]

  -- the least name that comes after and has a row is the next
  pub least_after : (rs : List (ℕ × X)) (at : Option ℕ) (n : ℕ) → NamesAscend (names rs) → is_after at n ≡ true → IsSome (row_at rs n) → ((j : ℕ) → j < n → is_after at j ≡ true → row_at rs j ≡ None) → name_after (names rs) at ≡ Some n
  unfolding row_at name_after
  least_after [] at n up a k h = absurd (false≢true k)
  least_after (r ∷ rs) at n up a k h = elim (cases_eq r.0 n) [
    | inl e ↦ let t : is_after at r.0 ≡ true = ap (is_after at) e ∙ a in rw t (ap Some e)
    | inr ne ↦ let f = rw (other_number r.0 n ne) at k in rw (passed (above r.0 n rs up.0 f)) (least_after rs at n up.1 a f (λ j l b. later j l b))
  ]
    where
      passed : r.0 < n → is_after at r.0 ≡ false
      passed l = elim (cases_Bool (is_after at r.0)) [ inl t ↦ (let q = rw (same_number r.0) at (h r.0 l t) in absurd (cc)) | inr q ↦ q ]

      later : (j : ℕ) → j < n → is_after at j ≡ true → row_at rs j ≡ None
      later j l b = elim (cases_eq r.0 j) [
        | inl e ↦ let t = rw (e, same_number j) at (h j l b) in absurd (cc)
        | inr ne ↦ rw (other_number r.0 j ne) at (h j l b)
      ]

  pub next_has_row : (rs : List (ℕ × X)) (at : Option ℕ) (n : ℕ) → name_after (names rs) at ≡ Some n → IsSome (row_at rs n)
  next_has_row rs at n e = next_has (λ m. IsSome (row_at rs m)) (names rs) at n (names_have rs) e

-- ---- as the code asks whether a name has a row
module _ {X : Type 0} (rs : List (ℕ × X)) (at : Option ℕ) (u : VertexId) (a : NamesAscend (names rs)) (from : (n : ℕ) → (is_after at n ≡ true) ↔ (u.0 ≤ n)) where
  answered : (p : Option ℕ) → option_eq (λ (x y : VertexId). x.0 == y.0) (option_map vertex_id p) (Some u) ≡ true → p ≡ Some u.0
  answered None t = absurd (false≢true t)
  answered (Some n) t = ap Some (eqb-true n u.0 t)

  there : IsSome (row_at rs u.0) → name_after (names rs) at ≡ Some u.0
  there h = least_after rs at u.0 a ((from u.0).1 (omega arith)) h (λ j l t. let m = (from j).0 t in absurd (omega (arith, m, l)))

  pub next_is : (o : Option VertexId) → o ≡ option_map vertex_id (name_after (names rs) at) → (b : Bool) → b ≡ option_eq (λ (x y : VertexId). x.0 == y.0) o (Some u) → (b ≡ true) ↔ IsSome (row_at rs u.0)
  next_is o e b i =
      let k = i ∙ ap (λ z. option_eq (λ (x y : VertexId). x.0 == y.0) z (Some u)) e in (
        λ t. next_has_row rs at u.0 (answered (name_after (names rs) at) (sym k ∙ t)),
        λ h. k ∙ ap (λ p. option_eq (λ (x y : VertexId). x.0 == y.0) (option_map vertex_id p) (Some u)) (there h) ∙ same_number u.0,
      )
