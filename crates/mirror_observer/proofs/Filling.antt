-- Maps filled from rows whose names ascend, and who is before whom after a walk over the darts.
use Rattle.std.proofs.Common.{◌≡◌, ◌≢◌, inl, inr, ℕ, ◌<◌, ◌≤◌, ◌+◌, List, [], ◌∷◌, ◌++◌, length, take, drop, get_or, map, cond, true, false, Option, Some, None, is_some, IsSome, ◌⊎◌, nat_cmp, refl, sym, ap, ap₂, ◌∙◌, subst, arith}
use Rattle.std.specs.List.{AllByRecursion}
use Rattle.std.specs.BTreeMap.{insert_entry}
use Rattle.std.proofs.lemmas.List.{take_more, take-append-drop, at_drop_more, at_drop_all}
use Rattle.std.proofs.lemmas.Bool.{cases_Bool, false≢true}
use Rattle.slab_laws.specs.declared.names.DartId.{DartId}
use Rattle.slab_laws.specs.Tables.{row_at, names, NamesAscend}
use Rattle.slab_laws.specs.View.{DartRecord, HasDart, next_in, next_or}
use Rattle.arr_notes.specs.NamedRows.{put, edit}
use Rattle.arr_notes.specs.ViewRows.{dart_row}
use Rattle.arr_notes.specs.declared.view.DartRow.{DartRow}
use Rattle.arr_notes.proofs.Names.{cases_dart}
use Rattle.arr_notes.proofs.Reading.{dart_number, none_there}
use Rattle.integers.proofs.Tests.{nat_lt_no, other_number}
use Rattle.mirror_observer.specs.declared.tables.DartEntry.{DartEntry}
use Rattle.mirror_observer.specs.Tables.{rows, dart_of, darts_of, previous_at, with_previous}
use Rattle.mirror_observer.specs.Standing.{IsBackLinked, IsOneToOne}
use Rattle.mirror_observer.proofs.Entries.{inserted, rows_put}
use Rattle.mirror_observer.proofs.Readers.{has_each, each_has}
use Rattle.mirror_observer.proofs.Around.{to, to_hit, to_miss}
use Rattle.mirror_observer.proofs.Told.{IsTold, told_first, told_preceded}

pub all_last : (P : ℕ → Type 0) (ns : List ℕ) (k : ℕ) → AllByRecursion P (ns ++ k ∷ []) → P k
all_last P [] k h = h.0
all_last P (n ∷ ns) k h = all_last P ns k h.1

module _ {Y : Type 0} where
  pub names_end : (rs : List (ℕ × Y)) (k : ℕ) (y : Y) → names (rs ++ (k, y) ∷ []) ≡ names rs ++ k ∷ []
  names_end [] k y = refl
  names_end (r ∷ rs) k y = ap (λ ns. r.0 ∷ ns) (names_end rs k y)

  -- a name above all goes to the end
  pub put_last : (k : ℕ) (y : Y) (rs : List (ℕ × Y)) → NamesAscend (names rs ++ k ∷ []) → put k y rs ≡ rs ++ (k, y) ∷ []
  unfolding put
  put_last k y [] h = refl
  put_last k y (r ∷ rs) h =
      let l : r.0 < k = all_last (λ m. r.0 < m) (names rs) k h.0 in
      rw (nat_lt_no k r.0 (omega arith), other_number r.0 k (λ e. absurd (omega (arith, e)))) (ap (λ ys. r ∷ ys) (put_last k y rs h.1))

all_front : (P : ℕ → Type 0) (ns ms : List ℕ) → AllByRecursion P (ns ++ ms) → AllByRecursion P ns
all_front P [] ms h = tt
all_front P (n ∷ ns) ms h = (h.0, all_front P ns ms h.1)

pub ascend_front : (ns ms : List ℕ) → NamesAscend (ns ++ ms) → NamesAscend ns
ascend_front [] ms h = tt
ascend_front (n ∷ ns) ms h = (all_front (λ m. n < m) ns ms h.0, ascend_front ns ms h.1)

module _ {R : Type 0} {Y : Type 0} (f : R → ℕ × Y) where
  map_end : (xs : List R) (r : R) → map f (xs ++ r ∷ []) ≡ map f xs ++ f r ∷ []
  map_end [] r = refl
  map_end (x ∷ xs) r = ap (λ ys. f x ∷ ys) (map_end xs r)

  names_both : (xs ys : List R) → names (map f (xs ++ ys)) ≡ names (map f xs) ++ names (map f ys)
  names_both [] ys = refl
  names_both (x ∷ xs) ys = ap (λ ns. (f x).0 ∷ ns) (names_both xs ys)

  ascend_take : (n : ℕ) (xs : List R) → NamesAscend (names (map f xs)) → NamesAscend (names (map f (take n xs)))
  ascend_take n xs h = ascend_front (names (map f (take n xs))) (names (map f (drop n xs))) (subst (λ ns. NamesAscend ns) (names_both (take n xs) (drop n xs)) (subst (λ ys. NamesAscend (names (map f ys))) (sym (take-append-drop n xs)) h))

  -- the next of rows whose names ascend goes to the end of the map
  pub filled_at : {X : Type 0} (g : X → Y) (xs : List R) (i : ℕ) (r z : R) (es fs : List (ℕ × X)) (x : X) → NamesAscend (names (map f xs)) → i < length xs → r ≡ get_or xs i z → rows g es ≡ map f (take i xs) → fs ≡ insert_entry nat_cmp es (f r).0 x → g x ≡ (f r).1 → rows g fs ≡ map f (take (i + 1) xs)
  filled_at g xs i r z es fs x asc l is so e y =
      let more : take (i + 1) xs ≡ take i xs ++ r ∷ [] = take_more xs i z l ∙ ap (λ z. take i xs ++ z ∷ []) (sym is) in
      let both : map f (take (i + 1) xs) ≡ map f (take i xs) ++ f r ∷ [] = ap (map f) more ∙ map_end (take i xs) r in
      let a : NamesAscend (names (map f (take i xs)) ++ (f r).0 ∷ []) = subst (λ ns. NamesAscend ns) (ap names both ∙ names_end (map f (take i xs)) (f r).0 (f r).1) (ascend_take (i + 1) xs asc) in
      ap (rows g) (e ∙ inserted (f r).0 x es) ∙ rows_put g (f r).0 x es ∙ ap₂ (put (f r).0) y so ∙ put_last (f r).0 (f r).1 (map f (take i xs)) a ∙ sym both

  pub filled_more : {X : Type 0} (g : X → Y) (xs : List R) (i : ℕ) (r : R) (es fs : List (ℕ × X)) (x : X) → NamesAscend (names (map f xs)) → i < length xs → r ≡ get_or xs i r → rows g es ≡ map f (take i xs) → fs ≡ insert_entry nat_cmp es (f r).0 x → g x ≡ (f r).1 → rows g fs ≡ map f (take (i + 1) xs)
  filled_more g xs i r es fs x asc l is so e y = filled_at g xs i r r es fs x asc l is so e y

-- ---- who is before whom
module _ (list : List DartRow) where
  -- each dart that isn't among the rows to come is named by the one that follows
  abbrev pub AreNamedBut : ℕ → List (ℕ × DartEntry) → Type 0
  AreNamedBut i ds = (d : DartId) → HasDart (darts_of ds) d → row_at (map dart_row (drop i list)) d.0 ≡ None → previous_at ds (next_in (darts_of ds) d) ≡ d

  pub named_none : (ds : List (ℕ × DartEntry)) → rows dart_of ds ≡ map dart_row list → AreNamedBut 0 ds
  named_none ds e d h n = absurd (none_there _ n (subst (λ rs. IsSome (row_at rs d.0)) e h))

  pub named_all : (ds : List (ℕ × DartEntry)) (i : ℕ) → length list ≤ i → AreNamedBut i ds → IsBackLinked ds
  unfolding row_at
  named_all ds i l n d h = n d h (at_drop_all (λ ys. row_at (map dart_row ys) d.0) list i l)

  row_next : (i : ℕ) (r : DartRow) (d : DartId) → i < length list → r ≡ get_or list i r → r.name ≢ d → row_at (map dart_row (drop (i + 1) list)) d.0 ≡ None → row_at (map dart_row (drop i list)) d.0 ≡ None
  unfolding row_at
  row_next i r d l is ne n =
      at_drop_more (λ ys. row_at (map dart_row ys) d.0) list i r l
      ∙ ap (λ z. row_at (map dart_row (z ∷ drop (i + 1) list)) d.0) (sym is)
      ∙ ap (λ b. cond b (Some (dart_row r).1) (row_at (map dart_row (drop (i + 1) list)) d.0)) (other_number r.name.0 d.0 (dart_number r.name d ne)) ∙ n

  module _ (ds : List (ℕ × DartEntry)) (one : IsOneToOne (rows dart_of ds)) (i : ℕ) (r : DartRow) (l : i < length list) (is : r ≡ get_or list i r) (sofar : AreNamedBut i ds) where
    named_by : AreNamedBut (i + 1) (edit (next_in (darts_of ds) r.name).0 (with_previous r.name) ds)
    named_by d h n =
        let x : DartId = next_in (darts_of ds) r.name in
        let fs : List (ℕ × DartEntry) = edit x.0 (with_previous r.name) ds in
        let h0 : HasDart (darts_of ds) d = has_each _ ds d h in
        let t : IsTold fs (next_in (darts_of ds)) (to x r.name (previous_at ds)) = told_preceded ds _ _ (told_first ds) x r.name in
        let hn : HasDart (darts_of ds) (next_in (darts_of ds) d) = one.has d h0 in
        let hf : HasDart (darts_of fs) (next_in (darts_of ds) d) = each_has _ ds (next_in (darts_of ds) d) hn in
        ap (previous_at fs) (t d h).0 ∙ (t (next_in (darts_of ds) d) hf).1 ∙ elim (cases_dart d r.name) [
          | inl q ↦ to_hit x r.name (previous_at ds) (next_in (darts_of ds) d) (ap (next_in (darts_of ds)) q) ∙ sym q
          | inr ne ↦ to_miss x r.name (previous_at ds) (next_in (darts_of ds) d) (λ s. apart d h0 ne s (cases_Bool (is_some (row_at (rows dart_of ds) r.name.0)))) ∙ sofar d h0 (row_next i r d l is (λ s. ne (sym s)) n)
        ]
      where
        apart : (d : DartId) → HasDart (darts_of ds) d → d ≢ r.name → next_in (darts_of ds) d ≡ next_in (darts_of ds) r.name → (is_some (row_at (rows dart_of ds) r.name.0) ≡ true) ⊎ (is_some (row_at (rows dart_of ds) r.name.0) ≡ false) → ⊥
        apart d h0 ne s (inl b) = ne (one.once d r.name h0 b s)
        apart d h0 ne s (inr b) = absent_next (row_at (rows dart_of ds) r.name.0) refl b
          where
            absent_next : (o : Option DartRecord) → row_at (rows dart_of ds) r.name.0 ≡ o → is_some (row_at (rows dart_of ds) r.name.0) ≡ false → ⊥
            absent_next None e b = false≢true (sym b ∙ subst (λ z. HasDart (darts_of ds) z) (s ∙ ap (next_or r.name) e) (one.has d h0))
            absent_next (Some y) e b = false≢true (sym b ∙ ap is_some e)

    pub named_more : (fs : List (ℕ × DartEntry)) (x : DartId) → x ≡ next_in (darts_of ds) r.name → fs ≡ edit x.0 (with_previous r.name) ds → AreNamedBut (i + 1) fs
    named_more fs x q e = subst (λ gs. AreNamedBut (i + 1) gs) (sym (e ∙ ap (λ z. edit z.0 (with_previous r.name) ds) q)) named_by
