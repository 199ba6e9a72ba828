-- A map's entries as a table by name: what is found, inserted, removed and written; and rows read from them.
use Rattle.std.proofs.Common.{◌≡◌, inl, inr, ℕ, ◌<◌, ◌==◌, Bool, true, false, cond, List, [], ◌∷◌, Option, Some, None, is_some, option_map, refl, sym, ap, ap₂, ◌∙◌, subst, arith, nat_cmp, Ordering, Less}
use Rattle.std.specs.Prelude.{nat_lt}
use Rattle.std.specs.List.{AllByRecursion}
use Rattle.std.specs.List.Sorted.{IsStrictlySortedBy}
use Rattle.std.specs.Ordering.{match_ordering}
use Rattle.std.specs.Map.{lookup, remove_entry, set_value, keys_of}
use Rattle.std.specs.BTreeMap.{insert_entry, is_at}
use Rattle.plane_graphs.specs.Ascending.{Member}
use Rattle.std.proofs.lemmas.Bool.{false≢true, cases_eq, cases_order, eq-eqb, ne_eqb}
use Rattle.std.proofs.lemmas.Bool.Decides.{nat_tests}
use Rattle.slab_laws.specs.Tables.{row_at, names, NamesAscend}
use Rattle.arr_notes.specs.NamedRows.{put, del, each, edit}
use Rattle.arr_notes.proofs.RowLaws.{absent, ascend-each, one_table, edit_hit, edit_miss}
use Rattle.arr_notes.proofs.Reading.{keep}
use Rattle.integers.proofs.Tests.{other_number, same_number, nat_tied, nat_more, nat_less, less_nat, nat_lt_yes, nat_lt_no}
use Rattle.mirror_observer.specs.Tables.{rows}

-- the test by which a map finds a key
pub key_test : (k n : ℕ) → is_at (nat_cmp k) n ≡ (n == k)
key_test k n = grind (arith, nat_tests)

all_above : (n : ℕ) (ns : List ℕ) → AllByRecursion (λ m. nat_cmp n m ≡ Less) ns → AllByRecursion (λ m. n < m) ns
all_above n [] h = tt
all_above n (m ∷ ns) h = (less_nat n m h.0, all_above n ns h.1)

module _ {X : Type 0} where
  pub ordered : (es : List (ℕ × X)) → IsStrictlySortedBy nat_cmp (keys_of es) → NamesAscend (names es)
  unfolding IsStrictlySortedBy
  ordered [] h = tt
  ordered (e ∷ es) h = (all_above e.0 (names es) h.0, ordered es h.1)

  pub found : (es : List (ℕ × X)) (k : ℕ) → lookup (is_at (nat_cmp k)) es ≡ row_at es k
  unfolding row_at
  found [] k = refl
  found (e ∷ es) k = ap₂ (λ b o. cond b (Some e.1) o) (key_test k e.0) (found es k)

  pub untouched : (k : ℕ) (f : X → X) (es : List (ℕ × X)) → row_at es k ≡ None → edit k f es ≡ es
  unfolding row_at each
  untouched k f [] h = refl
  untouched k f (e ∷ es) h = elim (cases_eq e.0 k) [
    | inl q ↦ let t = rw (q, same_number k) at h in absurd (cc)
    | inr ne ↦ let t = rw (other_number e.0 k ne) at h in rw (other_number e.0 k ne) (ap (λ xs. e ∷ xs) (untouched k f es t))
  ]

  -- what is found and written anew
  pub written : (k : ℕ) (f : X → X) (x : X) (es : List (ℕ × X)) → NamesAscend (names es) → row_at es k ≡ Some x → set_value (is_at (nat_cmp k)) es (f x) ≡ edit k f es
  unfolding row_at each
  written k f x [] a h = refl
  written k f x (e ∷ es) a h = elim (cases_eq e.0 k) [
    | inl q ↦
        let t = rw (q, same_number k) at h in
        let u : e.1 ≡ x = cc in
        ap (λ b. cond b ((e.0, f x) ∷ es) (e ∷ set_value (is_at (nat_cmp k)) es (f x))) (key_test k e.0 ∙ eq-eqb e.0 k q)
        ∙ ap₂ (λ y ys. (e.0, f y) ∷ ys) (sym u) (sym (untouched k f es (absent e.0 k es q a.0)))
        ∙ sym (ap (λ b. (e.0, cond b (f e.1) e.1) ∷ edit k f es) (eq-eqb e.0 k q))
    | inr ne ↦
        let t = rw (other_number e.0 k ne) at h in
        ap (λ b. cond b ((e.0, f x) ∷ es) (e ∷ set_value (is_at (nat_cmp k)) es (f x))) (key_test k e.0 ∙ ne_eqb e.0 k ne)
        ∙ ap (λ xs. e ∷ xs) (written k f x es a.1 t)
        ∙ sym (ap (λ b. (e.0, cond b (f e.1) e.1) ∷ edit k f es) (ne_eqb e.0 k ne))
  ]

  pub inserted : (k : ℕ) (x : X) (es : List (ℕ × X)) → insert_entry nat_cmp es k x ≡ put k x es
  unfolding put
  inserted k x [] = refl
  inserted k x (e ∷ es) =
      let P : Ordering → List (ℕ × X) = λ o. match_ordering o ((k, x) ∷ e ∷ es) ((e.0, x) ∷ es) (e ∷ insert_entry nat_cmp es k x) in
      let Q : Bool → Bool → List (ℕ × X) = λ b c. cond b ((k, x) ∷ e ∷ es) (cond c ((k, x) ∷ es) (e ∷ put k x es)) in
      elim (cases_order k e.0) [
        | inl q ↦ ap P (nat_tied k e.0 q) ∙ ap (λ n. (n, x) ∷ es) (sym q) ∙ sym (ap₂ Q (nat_lt_no k e.0 (omega arith)) (eq-eqb e.0 k (sym q)))
        | inr s ↦ elim s [
          | inl l ↦ ap P (nat_less k e.0 l) ∙ sym (ap (λ b. Q b (e.0 == k)) (nat_lt_yes k e.0 l))
          | inr l ↦ ap P (nat_more k e.0 l) ∙ ap (λ xs. e ∷ xs) (inserted k x es) ∙ sym (ap₂ Q (nat_lt_no k e.0 (omega arith)) (ne_eqb e.0 k (λ z. absurd (omega (arith, l, z)))))
        ]
      ]

  pub removed : (k : ℕ) (es : List (ℕ × X)) → remove_entry (is_at (nat_cmp k)) es ≡ del k es
  unfolding del
  removed k [] = refl
  removed k (e ∷ es) = ap₂ (λ b xs. cond b es (e ∷ xs)) (key_test k e.0) (removed k es)

pub name_member : {X : Type 0} (es : List (ℕ × X)) (n : ℕ) → is_some (row_at es n) ≡ true → Member n (names es)
unfolding row_at
name_member [] n h = absurd (false≢true h)
name_member (e ∷ es) n h = elim (cases_eq e.0 n) [
  | inl q ↦ inl (sym q)
  | inr ne ↦ let t = rw (other_number e.0 n ne) at h in inr (name_member es n t)
]

pub read_some : {X : Type 0} {Y : Type 0} (f : X → Y) (o : Option X) → is_some (option_map f o) ≡ is_some o
read_some f None = refl
read_some f (Some x) = refl

-- ---- rows that are read from entries
module _ {X Y : Type 0} (f : X → Y) where
  pub rows_row : (es : List (ℕ × X)) (n : ℕ) → row_at (rows f es) n ≡ option_map f (row_at es n)
  unfolding row_at
  rows_row [] n = refl
  rows_row (e ∷ es) n = elim (cases_eq e.0 n) [
    | inl q ↦ rw (q, same_number n) refl
    | inr ne ↦ rw (other_number e.0 n ne) (rows_row es n)
  ]

  pub names_rows : (es : List (ℕ × X)) → names (rows f es) ≡ names es
  names_rows [] = refl
  names_rows (e ∷ es) = ap (λ ns. e.0 ∷ ns) (names_rows es)

  pub rows_put : (k : ℕ) (x : X) (es : List (ℕ × X)) → rows f (put k x es) ≡ put k (f x) (rows f es)
  unfolding put
  rows_put k x [] = refl
  rows_put k x (e ∷ es) =
      elim (nat_lt k e.0) as (λ b. rows f (cond b ((k, x) ∷ e ∷ es) (cond (e.0 == k) ((k, x) ∷ es) (e ∷ put k x es))) ≡ cond b ((k, f x) ∷ (e.0, f e.1) ∷ rows f es) (cond (e.0 == k) ((k, f x) ∷ rows f es) ((e.0, f e.1) ∷ put k (f x) (rows f es)))) [
        | true ↦ refl
        | false ↦ elim (e.0 == k) as (λ b. rows f (cond b ((k, x) ∷ es) (e ∷ put k x es)) ≡ cond b ((k, f x) ∷ rows f es) ((e.0, f e.1) ∷ put k (f x) (rows f es))) [
          | true ↦ refl
          | false ↦ ap (λ ys. (e.0, f e.1) ∷ ys) (rows_put k x es)
        ]
      ]

  pub rows_del : (k : ℕ) (es : List (ℕ × X)) → rows f (del k es) ≡ del k (rows f es)
  unfolding del
  rows_del k [] = refl
  rows_del k (e ∷ es) = elim (e.0 == k) as (λ b. rows f (cond b es (e ∷ del k es)) ≡ cond b (rows f es) ((e.0, f e.1) ∷ del k (rows f es))) [
    | true ↦ refl
    | false ↦ ap (λ ys. (e.0, f e.1) ∷ ys) (rows_del k es)
  ]

  pub rows_each : (g : ℕ → X → X) (h : ℕ → Y → Y) → ((n : ℕ) (x : X) → f (g n x) ≡ h n (f x)) → (es : List (ℕ × X)) → rows f (each g es) ≡ each h (rows f es)
  unfolding each
  rows_each g h c [] = refl
  rows_each g h c (e ∷ es) = ap₂ (λ y ys. (e.0, y) ∷ ys) (c e.0 e.1) (rows_each g h c es)

  both_ways : (g : X → X) (h : Y → Y) → ((x : X) → f (g x) ≡ h (f x)) → (b : Bool) (x : X) → f (cond b (g x) x) ≡ cond b (h (f x)) (f x)
  both_ways g h c true x = c x
  both_ways g h c false x = refl

  pub rows_edit : (k : ℕ) (g : X → X) (h : Y → Y) → ((x : X) → f (g x) ≡ h (f x)) → (es : List (ℕ × X)) → rows f (edit k g es) ≡ edit k h (rows f es)
  rows_edit k g h c es = rows_each (λ n x. cond (n == k) (g x) x) (λ n y. cond (n == k) (h y) y) (λ n x. both_ways g h c (n == k) x) es

  -- what isn't read may change
  pub rows_silent : (k : ℕ) (g : X → X) → ((x : X) → f (g x) ≡ f x) → (es : List (ℕ × X)) → rows f (edit k g es) ≡ rows f es
  unfolding each
  rows_silent k g c [] = refl
  rows_silent k g c (e ∷ es) = ap₂ (λ y ys. (e.0, y) ∷ ys) (keep f (e.0 == k) e.1 (g e.1) (c e.1)) (rows_silent k g c es)

  pub ascend_rows : (es : List (ℕ × X)) → NamesAscend (names (rows f es)) → NamesAscend (names es)
  ascend_rows es h = subst (λ ns. NamesAscend ns) (names_rows es) h

-- two changes of one row that agree on it
agree : {X : Type 0} (k : ℕ) (g h : X → X) (rs : List (ℕ × X)) → NamesAscend (names rs) → option_map g (row_at rs k) ≡ option_map h (row_at rs k) → edit k g rs ≡ edit k h rs
agree k g h rs a e = one_table _ _ (ascend-each _ rs a) (ascend-each _ rs a) (λ n. elim (cases_eq n k) [
  | inl q ↦ ap (row_at (edit k g rs)) q ∙ edit_hit k g rs ∙ e ∙ sym (edit_hit k h rs) ∙ ap (row_at (edit k h rs)) (sym q)
  | inr ne ↦ edit_miss k g rs n ne ∙ sym (edit_miss k h rs n ne)
])

-- the rows after a value that was found is written anew
pub written_row : {X : Type 0} {Y : Type 0} (f : X → Y) (k : ℕ) (h : Y → Y) (x w : X) (es : List (ℕ × X)) → NamesAscend (names es) → row_at es k ≡ Some x → f w ≡ h (f x) → rows f (set_value (is_at (nat_cmp k)) es w) ≡ edit k h (rows f es)
written_row {X} {Y} f k h x w es a e q =
    ap (rows f) (written k (λ y. w) x es a e) ∙ rows_edit f k (λ y. w) (λ y. f w) (λ y. refl) es
    ∙ agree k (λ y. f w) h (rows f es) (subst (λ ns. NamesAscend ns) (sym (names_rows f es)) a) (by (row_at (rows f es) k) (rows_row f es k ∙ ap (option_map f) e))
  where
    by : (o : Option Y) → o ≡ Some (f x) → option_map (λ y. f w) o ≡ option_map h o
    by o s = ap (option_map (λ y. f w)) s ∙ ap Some q ∙ ap (option_map h) (sym s)
