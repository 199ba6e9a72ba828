-- The rows of cycles and faces that are read by name, one name after the other, are their tables.
use Rattle.std.proofs.Common.{◌≡◌, ◌≢◌, ℕ, ◌<◌, false, List, [], ◌∷◌, ◌++◌, map, flat_map, Option, Some, None, is_some, IsSome, option_map, refl, sym, ap, ◌∙◌, inl, inr}
use Rattle.std.specs.Prelude.{◌↔◌}
use Rattle.std.specs.List.{AllByRecursion}
use Rattle.std.proofs.lemmas.Bool.{cases_Bool, cases_eq, false≢true}
use Rattle.plane_graphs.proofs.Lists.{map_map}
use Rattle.slab_laws.specs.declared.names.CycleId.{CycleId}
use Rattle.slab_laws.specs.declared.names.FaceId.{FaceId}
use Rattle.slab_laws.specs.FacesSound.{IsComplete}
use Rattle.slab_laws.specs.Sound.{IsNamed}
use Rattle.slab_laws.specs.Tables.{row_at, names, NamesAscend}
use Rattle.slab_laws.specs.View.{View, Faces, vertex_id, dart_id, cycle_id, face_id, cycle_or, kind_or, face_or}
use Rattle.arr_notes.specs.ViewRows.{bare_row, cycle_of_row, cycle_row, vertex_named, dart_named, cycle_named}
use Rattle.arr_notes.specs.declared.view.VertexRow.{VertexRow}
use Rattle.arr_notes.proofs.NamedTables.{rows_read}
use Rattle.arr_notes.proofs.RowLaws.{one_table}
use Rattle.integers.proofs.Tests.{other_number, same_number}

pub none_from : {X : Type 0} (o : Option X) → is_some o ≡ false → o ≡ None
none_from None e = refl
none_from (Some x) e = absurd (false≢true (sym e))

module _ {X Y : Type 0} (rs : List (ℕ × X)) (ss : List (ℕ × Y)) (n : ℕ) (less : IsSome (row_at ss n) → IsSome (row_at rs n)) where
  -- a table that has no more names
  lacks : row_at rs n ≡ None → row_at ss n ≡ None
  lacks e = elim (cases_Bool (is_some (row_at ss n))) [ inl t ↦ absurd (false≢true (sym (ap is_some e) ∙ less t)) | inr f ↦ none_from (row_at ss n) f ]

-- ---- each name with what is made of it
module _ {Y : Type 0} (g : ℕ → Y) where
  abbrev made : List ℕ → List (ℕ × Y)
  made ns = map (λ n. (n, g n)) ns

  above_made : (i : ℕ) (ns : List ℕ) → AllByRecursion (λ m. i < m) ns → AllByRecursion (λ m. i < m) (names (made ns))
  above_made i [] a = tt
  above_made i (n ∷ ns) a = (a.0, above_made i ns a.1)

  ascend_made : (ns : List ℕ) → NamesAscend ns → NamesAscend (names (made ns))
  ascend_made [] a = tt
  ascend_made (n ∷ ns) a = (above_made n ns a.0, ascend_made ns a.1)

module _ {X Y : Type 0} (g : ℕ → Y) where
  row_made : (rs : List (ℕ × X)) (n : ℕ) → row_at (made g (names rs)) n ≡ option_map (λ x. g n) (row_at rs n)
  unfolding row_at
  row_made [] n = refl
  row_made (r ∷ rs) n = elim (cases_eq r.0 n) [
    | inl q ↦ rw (q, same_number n) refl
    | inr ne ↦ rw (other_number r.0 n ne) (row_made rs n)
  ]

  -- just the names of the one table have rows in the other
  pub all_found : (rs : List (ℕ × X)) (ss : List (ℕ × Y)) → NamesAscend (names rs) → NamesAscend (names ss) → ((n : ℕ) → IsSome (row_at rs n) ↔ IsSome (row_at ss n))
      → ((n : ℕ) → IsSome (row_at ss n) → row_at ss n ≡ Some (g n)) → made g (names rs) ≡ ss
  all_found rs ss a b both found = one_table (made g (names rs)) ss (ascend_made g (names rs) a) b (λ n. row_made rs n ∙ by n (row_at rs n) refl)
    where
      by : (n : ℕ) (o : Option X) → row_at rs n ≡ o → option_map (λ x. g n) o ≡ row_at ss n
      by n None e = sym (lacks rs ss n (both n).1 e)
      by n (Some x) e = sym (found n ((both n).0 (ap is_some e)))

-- ---- names of which some have rows in a table
module _ {Y : Type 0} (one : ℕ → Option Y → List (ℕ × Y)) (none : (n : ℕ) → one n None ≡ []) (some : (n : ℕ) (y : Y) → one n (Some y) ≡ (n, y) ∷ []) (ss : List (ℕ × Y)) where
  abbrev picked : List ℕ → List (ℕ × Y)
  picked ns = flat_map (λ n. one n (row_at ss n)) ns

  above_one : (i n : ℕ) (o : Option Y) (ts : List (ℕ × Y)) → i < n → AllByRecursion (λ m. i < m) (names ts) → AllByRecursion (λ m. i < m) (names (one n o ++ ts))
  above_one i n None ts l a = rw (none n) a
  above_one i n (Some y) ts l a = rw (some n y) (l, a)

  above_picked : (i : ℕ) (ns : List ℕ) → AllByRecursion (λ m. i < m) ns → AllByRecursion (λ m. i < m) (names (picked ns))
  above_picked i [] a = tt
  above_picked i (n ∷ ns) a = above_one i n (row_at ss n) (picked ns) a.0 (above_picked i ns a.1)

  ascend_one : (n : ℕ) (o : Option Y) (ts : List (ℕ × Y)) → AllByRecursion (λ m. n < m) (names ts) → NamesAscend (names ts) → NamesAscend (names (one n o ++ ts))
  ascend_one n None ts l a = rw (none n) a
  ascend_one n (Some y) ts l a = rw (some n y) (l, a)

  ascend_picked : (ns : List ℕ) → NamesAscend ns → NamesAscend (names (picked ns))
  ascend_picked [] a = tt
  ascend_picked (n ∷ ns) a = ascend_one n (row_at ss n) (picked ns) (above_picked n ns a.0) (ascend_picked ns a.1)

  row_beside : (m n : ℕ) (o : Option Y) (ts : List (ℕ × Y)) → m ≢ n → row_at (one m o ++ ts) n ≡ row_at ts n
  unfolding row_at
  row_beside m n None ts ne = rw (none m) refl
  row_beside m n (Some y) ts ne = rw (some m y, other_number m n ne) refl

  row_own : (n : ℕ) (o : Option Y) (ts : List (ℕ × Y)) → (o ≡ None → row_at ts n ≡ None) → row_at (one n o ++ ts) n ≡ o
  unfolding row_at
  row_own n None ts h = rw (none n) (h refl)
  row_own n (Some y) ts h = rw (some n y, same_number n) refl

  none_picked : (ns : List ℕ) (n : ℕ) → row_at ss n ≡ None → row_at (picked ns) n ≡ None
  unfolding row_at
  none_picked [] n e = refl
  none_picked (m ∷ ns) n e = elim (cases_eq m n) [
    | inl q ↦ ap (λ j. row_at (one j (row_at ss j) ++ picked ns) n) q ∙ row_own n (row_at ss n) (picked ns) (λ o. none_picked ns n e) ∙ e
    | inr ne ↦ row_beside m n (row_at ss m) (picked ns) ne ∙ none_picked ns n e
  ]

  row_picked : {X : Type 0} (rs : List (ℕ × X)) (n : ℕ) → IsSome (row_at rs n) → row_at (picked (names rs)) n ≡ row_at ss n
  unfolding row_at
  row_picked [] n h = absurd (false≢true h)
  row_picked (r ∷ rs) n h = elim (cases_eq r.0 n) [
    | inl q ↦ ap (λ j. row_at (one j (row_at ss j) ++ picked (names rs)) n) q ∙ row_own n (row_at ss n) (picked (names rs)) (λ o. none_picked (names rs) n o)
    | inr ne ↦ let k = rw (other_number r.0 n ne) at h in row_beside r.0 n (row_at ss r.0) (picked (names rs)) ne ∙ row_picked rs n k
  ]

  -- all names that have rows there are names of the other table
  pub some_found : {X : Type 0} (rs : List (ℕ × X)) → NamesAscend (names rs) → NamesAscend (names ss) → ((n : ℕ) → IsSome (row_at ss n) → IsSome (row_at rs n)) → picked (names rs) ≡ ss
  some_found {X} rs a b less = one_table (picked (names rs)) ss (ascend_picked (names rs) a) b (λ n. by n)
    where
      by : (n : ℕ) → row_at (picked (names rs)) n ≡ row_at ss n
      by n = elim (cases_Bool (is_some (row_at rs n))) [
        | inl t ↦ row_picked rs n t
        | inr f ↦ let e = lacks rs ss n (less n) (none_from (row_at rs n) f) in none_picked (names rs) n e ∙ sym e
      ]

-- ---- the four tables
module _ (v : View) (f : Faces) (s : IsNamed v) (c : IsComplete v f) where
  cycle_found : (o : Option CycleId) → IsSome o → o ≡ Some (cycle_or o)
  cycle_found None h = absurd (false≢true h)
  cycle_found (Some x) h = refl

  pub cycles_of_read : map cycle_of_row (map (dart_named v f) (map dart_id (names v.darts))) ≡ f.cycle_of
  cycles_of_read =
      map_map (dart_named v f) cycle_of_row (map dart_id (names v.darts)) ∙ map_map dart_id (λ d. cycle_of_row (dart_named v f d)) (names v.darts)
      ∙ all_found (λ n. cycle_or (row_at f.cycle_of n)) v.darts f.cycle_of s.darts c.cycle_of_ascend (λ n. c.cycle_rows (dart_id n)) (λ n h. cycle_found (row_at f.cycle_of n) h)

  bare_rows : (ns : List ℕ) → flat_map (λ (r : VertexRow). bare_row r.name r.face) (map (vertex_named v f) (map vertex_id ns)) ≡ flat_map (λ n. bare_row (vertex_id n) (row_at f.bare n)) ns
  bare_rows [] = refl
  bare_rows (n ∷ ns) = ap (λ (rs : List (ℕ × FaceId)). bare_row (vertex_id n) (row_at f.bare n) ++ rs) (bare_rows ns)

  pub bare_read : flat_map (λ (r : VertexRow). bare_row r.name r.face) (map (vertex_named v f) (map vertex_id (names v.vertices))) ≡ f.bare
  bare_read =
      bare_rows (names v.vertices)
      ∙ some_found (λ n. bare_row (vertex_id n)) (λ n. refl) (λ n a. refl) f.bare v.vertices s.vertices c.bare_ascend (λ n h. c.bare_vertex (vertex_id n) h)

module _ (f : Faces) where
  pub cycles_read : NamesAscend (names f.cycles) → map cycle_row (map (cycle_named f) (map cycle_id (names f.cycles))) ≡ f.cycles
  cycles_read a =
      map_map (cycle_named f) cycle_row (map cycle_id (names f.cycles)) ∙ map_map cycle_id (λ e. cycle_row (cycle_named f e)) (names f.cycles)
      ∙ rows_read (λ n o. record { kind = kind_or o; face = face_or o }) (λ n x. refl) f.cycles a

pub faces_read : (ns : List ℕ) → map (λ (a : FaceId). a.0) (map face_id ns) ≡ ns
faces_read [] = refl
faces_read (n ∷ ns) = ap (λ ms. n ∷ ms) (faces_read ns)
