-- The order of writes into a table and into a pair of darts doesn't count where they write other rows.
use Rattle.std.proofs.Common.{◌≡◌, ◌≢◌, ◌⊎◌, inl, inr, ◌==◌, ℕ, false, cond, List, Option, Some, None, option_map, refl, sym, ap, ◌∙◌}
use Rattle.std.proofs.lemmas.Bool.{cases_eq}
use Rattle.slab_laws.specs.declared.names.DartId.{DartId}
use Rattle.slab_laws.specs.Sound.{IsNamed}
use Rattle.slab_laws.specs.Tables.{row_at, names, NamesAscend}
use Rattle.slab_laws.specs.View.{View, DartRecord}
use Rattle.arr_notes.specs.NamedRows.{put, edit}
use Rattle.arr_notes.specs.ViewChanges.{with_pair, with_next, followed_by}
use Rattle.arr_notes.proofs.RowLaws.{row_at-put, row_at-edit, ascend-put, ascend-each, one_table}
use Rattle.arr_notes.proofs.Reading.{dart_number}
use Rattle.integers.proofs.Tests.{other_number, same_number}

-- a row just put and then changed is the changed row put
module _ {X : Type 0} (k : ℕ) (f : X → X) (x : X) (rs : List (ℕ × X)) (a : NamesAscend (names rs)) where
  own : (n : ℕ) → row_at (edit k f (put k x rs)) n ≡ row_at (put k (f x) rs) n
  own n = row_at-edit k f (put k x rs) n ∙ ap (option_map (λ y. cond (n == k) (f y) y)) (row_at-put k x rs n) ∙ by (cases_eq k n) ∙ sym (row_at-put k (f x) rs n)
    where
      unchanged : (o : Option X) → option_map (λ y. cond false (f y) y) o ≡ o
      unchanged None = refl
      unchanged (Some y) = refl

      by : (k ≡ n) ⊎ (k ≢ n) → option_map (λ y. cond (n == k) (f y) y) (cond (k == n) (Some x) (row_at rs n)) ≡ cond (k == n) (Some (f x)) (row_at rs n)
      by (inl q) = rw (q, same_number n) refl
      by (inr ne) = rw (other_number k n ne, other_number n k (λ e. ne (sym e))) (unchanged (row_at rs n))

  pub put_changed : edit k f (put k x rs) ≡ put k (f x) rs
  put_changed = one_table _ _ (ascend-each _ (put k x rs) (ascend-put k x rs a)) (ascend-put k (f x) rs a) own

-- a row changed and another put are in either order
module _ {X : Type 0} (k j : ℕ) (f : X → X) (x : X) (rs : List (ℕ × X)) (ne : k ≢ j) (a : NamesAscend (names rs)) where
  apart : (n : ℕ) → row_at (edit k f (put j x rs)) n ≡ row_at (put j x (edit k f rs)) n
  apart n = row_at-edit k f (put j x rs) n ∙ ap (option_map (λ y. cond (n == k) (f y) y)) (row_at-put j x rs n) ∙ by (cases_eq j n) ∙ ap (cond (j == n) (Some x)) (sym (row_at-edit k f rs n)) ∙ sym (row_at-put j x (edit k f rs) n)
    where
      by : (j ≡ n) ⊎ (j ≢ n) → option_map (λ y. cond (n == k) (f y) y) (cond (j == n) (Some x) (row_at rs n)) ≡ cond (j == n) (Some x) (option_map (λ y. cond (n == k) (f y) y) (row_at rs n))
      by (inl q) = rw (q, same_number n, other_number n k (λ e. ne (sym (q ∙ e)))) refl
      by (inr m) = rw (other_number j n m) refl

  pub put_beside : edit k f (put j x rs) ≡ put j x (edit k f rs)
  put_beside = one_table _ _ (ascend-each _ (put j x rs) (ascend-put j x rs a)) (ascend-put j x (edit k f rs) (ascend-each _ rs a)) apart

-- ---- pairs
module _ (v : View) (d m : DartId) (r s : DartRecord) (ne : d ≢ m) (a : IsNamed v) where
  pub first_follows : (n : DartId) → with_next (with_pair v d m r s) d n ≡ with_pair v d m (followed_by n r) s
  first_follows n =
      let e : edit d.0 (followed_by n) (put m.0 s (put d.0 r v.darts)) ≡ put m.0 s (put d.0 (followed_by n r) v.darts) =
      put_beside d.0 m.0 (followed_by n) s (put d.0 r v.darts) (dart_number d m ne) (ascend-put d.0 r v.darts a.darts)
      ∙ ap (put m.0 s) (put_changed d.0 (followed_by n) r v.darts a.darts) in
      λ i. record { vertices = v.vertices; darts = e i }

  pub second_follows : (n : DartId) → with_next (with_pair v d m r s) m n ≡ with_pair v d m r (followed_by n s)
  second_follows n =
      let e : edit m.0 (followed_by n) (put m.0 s (put d.0 r v.darts)) ≡ put m.0 (followed_by n s) (put d.0 r v.darts) =
      put_changed m.0 (followed_by n) s (put d.0 r v.darts) (ascend-put d.0 r v.darts a.darts) in
      λ i. record { vertices = v.vertices; darts = e i }

  -- a dart beside both
  pub beside_follows : (x n : DartId) → x ≢ d → x ≢ m → with_next (with_pair v d m r s) x n ≡ with_pair (with_next v x n) d m r s
  beside_follows x n xd xm =
      let e : edit x.0 (followed_by n) (put m.0 s (put d.0 r v.darts)) ≡ put m.0 s (put d.0 r (edit x.0 (followed_by n) v.darts)) =
      put_beside x.0 m.0 (followed_by n) s (put d.0 r v.darts) (dart_number x m xm) (ascend-put d.0 r v.darts a.darts)
      ∙ ap (put m.0 s) (put_beside x.0 d.0 (followed_by n) r v.darts (dart_number x d xd) a.darts) in
      λ i. record { vertices = v.vertices; darts = e i }
