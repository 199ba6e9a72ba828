-- The numbers below a count, one after the other.
use Rattle.std.proofs.Common.{◌≡◌, ℕ, zero, suc, ◌+◌, ◌<◌, ◌≤◌, Bool, true, false, cond, arith, refl, sym, ap, ◌∙◌, List, [], ◌∷◌, length, map, Option, Some, None}
use Rattle.std.specs.Prelude.{nat_lt, vec_len}
use Rattle.std.specs.List.{range_with_len}
use Rattle.std.proofs.lemmas.Bool.Decides.{nat_tests}
use Rattle.std.proofs.Math.ListN.{length-map}
use Rattle.slab_laws.specs.Rows.{dart_list, dart_rows, cycle_rows}
use Rattle.slab_laws.specs.Tables.{name_after, names}
use Rattle.subdivision_rows.specs.Listed.{Drawing, skeleton_in, subdivision_in, vertex_record, dart_record, cycle_record, view_of, faces_of}
use Rattle.subdivision_rows.specs.declared.lists.RowLists.{RowLists}
use Rattle.subdivision_rows.specs.RowsInMemory.{drawing_of, AreSoundRows}
use Rattle.slab_laws.specs.Text.{numbered}
use Rattle.integers.proofs.Tests.{nat_lt_yes, nat_lt_no}

-- the number itself where it is below the count
abbrev pub below : ℕ → ℕ → Option ℕ
below n k = cond (nat_lt k n) (Some k) None

pub after_none : (n : ℕ) → name_after (range_with_len 0 n) None ≡ below n 0
unfolding name_after
after_none zero = refl
after_none (suc n) = sym (ap (λ b. cond b (Some 0) None) (nat_lt_yes 0 (suc n) (omega arith)))

none_after : (a n m : ℕ) → a + n ≤ suc m → name_after (range_with_len a n) (Some m) ≡ None
unfolding name_after
none_after a zero m h = refl
none_after a (suc n) m h = rw (nat_lt_no m a (omega arith)) (none_after (a + 1) n m (omega arith))

some_after : (a n m : ℕ) → a ≤ suc m → suc m < a + n → name_after (range_with_len a n) (Some m) ≡ Some (suc m)
unfolding name_after
some_after a zero m h k = absurd (omega arith)
some_after a (suc n) m h k = go (nat_lt m a) refl (λ l. some_after (a + 1) n m (omega arith) (omega arith))
  where
    go : (b : Bool) → nat_lt m a ≡ b → (a ≤ m → name_after (range_with_len (a + 1) n) (Some m) ≡ Some (suc m)) → cond b (Some a) (name_after (range_with_len (a + 1) n) (Some m)) ≡ Some (suc m)
    go true e f = let l : m < a = grind (arith, nat_tests) in ap Some (omega arith)
    go false e f = f (grind (arith, nat_tests))

pub after_some : (n m : ℕ) → name_after (range_with_len 0 n) (Some m) ≡ below n (m + 1)
after_some n m = go (nat_lt (m + 1) n) refl
  where
    go : (b : Bool) → nat_lt (m + 1) n ≡ b → name_after (range_with_len 0 n) (Some m) ≡ cond b (Some (m + 1)) None
    go true e = let l : m + 1 < n = grind (arith, nat_tests) in some_after 0 n m (omega arith) (omega arith) ∙ ap Some (omega arith)
    go false e = let l : n ≤ m + 1 = grind (arith, nat_tests) in none_after 0 n m (omega arith)

yes : (k n : ℕ) → k < n → Some k ≡ below n k
yes k n h = sym (ap (λ b. cond b (Some k) None) (nat_lt_yes k n h))

none : (k n : ℕ) → n ≤ k → None ≡ below n k
none k n h = sym (ap (λ b. cond b (Some k) None) (nat_lt_no k n h))

-- what is answered for a number that is looked at next
pub first_there : (n k : ℕ) (o : Option ℕ) → o ≡ None → k ≡ 0 → k < n → Some k ≡ name_after (range_with_len 0 n) o
first_there n k o e z h = yes k n h ∙ ap (below n) z ∙ sym (after_none n) ∙ ap (name_after (range_with_len 0 n)) (sym e)

pub none_there : (n k : ℕ) (o : Option ℕ) → o ≡ None → k ≡ 0 → n ≤ k → None ≡ name_after (range_with_len 0 n) o
none_there n k o e z h = none k n h ∙ ap (below n) z ∙ sym (after_none n) ∙ ap (name_after (range_with_len 0 n)) (sym e)

pub next_there : (n m : ℕ) (o : Option ℕ) → o ≡ Some m → m + 1 < n → Some (m + 1) ≡ name_after (range_with_len 0 n) o
next_there n m o e h = yes (m + 1) n h ∙ sym (after_some n m) ∙ ap (name_after (range_with_len 0 n)) (sym e)

pub last_there : (n m : ℕ) (o : Option ℕ) → o ≡ Some m → n ≤ m + 1 → None ≡ name_after (range_with_len 0 n) o
last_there n m o e h = none (m + 1) n h ∙ sym (after_some n m) ∙ ap (name_after (range_with_len 0 n)) (sym e)

pub number_names : {X : Type 0} (i : ℕ) (xs : List X) → names (numbered i xs) ≡ range_with_len i (length xs)
unfolding numbered
number_names i [] = refl
number_names i (x ∷ xs) = let e : suc i ≡ i + 1 = omega arith in ap (λ ns. i ∷ ns) (number_names (suc i) xs ∙ ap (λ j. range_with_len j (length xs)) e)

-- ---- the names of records in lists
pub vertex_names : (d : Drawing) → names (view_of d).vertices ≡ range_with_len 0 (length d.graph.points)
unfolding view_of
vertex_names d = number_names 0 (map (vertex_record d) d.graph.points) ∙ ap (range_with_len 0) (simp length-map)

pub dart_names : (d : Drawing) → names (view_of d).darts ≡ range_with_len 0 (length (dart_list (skeleton_in d)))
unfolding view_of
dart_names d = number_names 0 (map (dart_record d) (dart_list (skeleton_in d))) ∙ ap (range_with_len 0) (simp length-map)

pub cycle_names : (d : Drawing) → names (faces_of d).cycles ≡ range_with_len 0 (length (subdivision_in d).cycles)
unfolding faces_of
cycle_names d = number_names 0 (map (cycle_record d) (subdivision_in d).cycles) ∙ ap (range_with_len 0) (simp length-map)

pub face_names : (d : Drawing) → (faces_of d).faces ≡ range_with_len 0 (length (subdivision_in d).faces)
unfolding faces_of
face_names d = refl

-- as many as the list in memory has
module _ (a : RowLists) (d : Drawing) (k : AreSoundRows a) (is : drawing_of a ≡ d) where
  pub points_many : vec_len a.points ≡ length d.graph.points
  points_many = let n = a.points.ok.0 in let m = ap (λ (d : Drawing). length d.graph.points) is in omega arith

  pub darts_many : vec_len a.darts ≡ length (dart_list (skeleton_in d))
  unfolding dart_rows
  darts_many =
      let n = a.darts.ok.0 in
      let e : length a.darts.items ≡ length (dart_list (skeleton_in (drawing_of a))) = ap length k.darts ∙ simp length-map in
      let m = ap (λ (d : Drawing). length (dart_list (skeleton_in d))) is in
      omega arith

  pub cycles_many : vec_len a.kinds ≡ length (subdivision_in d).cycles
  unfolding cycle_rows
  cycles_many =
      let n = a.kinds.ok.0 in
      let e : length a.kinds.items ≡ length (subdivision_in (drawing_of a)).cycles = ap length k.kinds ∙ simp length-map in
      let m = ap (λ (d : Drawing). length (subdivision_in d).cycles) is in
      omega arith

  pub faces_many : a.faces ≡ length (subdivision_in d).faces
  faces_many = k.faces ∙ ap (λ (d : Drawing). length (subdivision_in d).faces) is
