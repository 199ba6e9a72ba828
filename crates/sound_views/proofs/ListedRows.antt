-- Tables whose rows go by number: what stands in a row, and that the names ascend.
use Rattle.std.proofs.Common.{◌≡◌, ℕ, ◌+◌, ◌<◌, Bool, true, false, cond, arith, refl, sym, ap, ◌∙◌, subst, inl, inr, List, [], ◌∷◌, map, zero, suc, Option, Some}
use Rattle.std.specs.Prelude.{IsSome, slice_get, ◌==◌}
use Rattle.std.specs.List.{AllByRecursion}
use Rattle.std.proofs.lemmas.Bool.{false≢true, eq-eqb, eqb-true}
use Rattle.slab_laws.specs.Tables.{row_at, names, NamesAscend}
use Rattle.slab_laws.specs.Text.{numbered}
use Rattle.slab_faces.proofs.Member.{Member}
use Rattle.sound_views.proofs.NameTables.{other_number}

pub is_some_by : {X : Type 0} (o : Option X) (x : X) → o ≡ Some x → IsSome o
is_some_by o x e = subst IsSome (sym e) refl

-- ---- rows by number
module _ {X : Type 0} where
  pub row_of : (xs : List X) (i n k : ℕ) → i + k ≡ n → row_at (numbered i xs) n ≡ slice_get xs k
  unfolding row_at numbered
  row_of [] i n k e = refl
  row_of (x ∷ xs) i n zero e = let q : (i == n) ≡ true = eq-eqb i n (omega arith) in rw q refl
  row_of (x ∷ xs) i n (suc k) e = let q : (i == n) ≡ false = other_number i n (omega arith) in rw q (row_of xs (suc i) n k (omega arith))

  pub numbered_row : (xs : List X) (k : ℕ) → row_at (numbered 0 xs) k ≡ slice_get xs k
  numbered_row xs k = row_of xs 0 k k (omega arith)

  pub row_member : (xs : List X) (i n k : ℕ) (x : X) → i + k ≡ n → slice_get xs k ≡ Some x → Member (numbered i xs) (n, x)
  unfolding numbered
  row_member [] i n k x e h = absurd (cc)
  row_member (y ∷ ys) i n zero x e h = let a : i ≡ n = omega arith in let b : y ≡ x = cc in inl (λ t. (a t, b t))
  row_member (y ∷ ys) i n (suc k) x e h = inr (row_member ys (suc i) n k x (omega arith) h)

  pub member_row : (xs : List X) (i : ℕ) (r : ℕ × X) → Member (numbered i xs) r → (k : ℕ) × (i + k ≡ r.0) × (slice_get xs k ≡ Some r.1)
  unfolding numbered
  member_row [] i r h = absurd h
  member_row (y ∷ ys) i r (inl e) = (0, let a : i ≡ r.0 = ap (λ p. p.0) e in omega arith, ap (λ p. Some p.1) e)
  member_row (y ∷ ys) i r (inr h) = let w = member_row ys (suc i) r h in (suc w.0, omega (arith, w.1), w.2)

  pub slice_get_member : (xs : List X) (k : ℕ) (x : X) → slice_get xs k ≡ Some x → Member xs x
  slice_get_member [] k x h = absurd (cc)
  slice_get_member (y ∷ ys) zero x h = inl (cc)
  slice_get_member (y ∷ ys) (suc k) x h = inr (slice_get_member ys k x h)

  -- ---- the names ascend
  names_above : (xs : List X) (i j : ℕ) → i < j → AllByRecursion (λ m. i < m) (names (numbered j xs))
  unfolding numbered
  names_above [] i j h = tt
  names_above (x ∷ xs) i j h = (h, names_above xs i (suc j) (omega arith))

  pub numbered_ascend : (xs : List X) (i : ℕ) → NamesAscend (names (numbered i xs))
  unfolding numbered
  numbered_ascend [] i = tt
  numbered_ascend (x ∷ xs) i = (names_above xs i (suc i) (omega arith), numbered_ascend xs (suc i))

-- ---- rows by a number of their own
module _ {X Y : Type 0} (name : X → ℕ) (val : X → Y) where
  -- a row comes from an element
  abbrev pub IsFrom : List X → ℕ → Option Y → Type 0
  IsFrom xs n o = (x : X) × Member xs x × (name x ≡ n) × (o ≡ Some (val x))

  pub keyed_out : (xs : List X) (n : ℕ) → IsSome (row_at (map (λ x. (name x, val x)) xs) n) → IsFrom xs n (row_at (map (λ x. (name x, val x)) xs) n)
  unfolding row_at
  keyed_out [] n h = absurd (false≢true h)
  keyed_out (x ∷ xs) n h = step (name x == n) refl h (keyed_out xs n)
    where
      step : (b : Bool) → (name x == n) ≡ b → IsSome (cond b (Some (val x)) (row_at (map (λ x. (name x, val x)) xs) n)) → (IsSome (row_at (map (λ x. (name x, val x)) xs) n) → IsFrom xs n (row_at (map (λ x. (name x, val x)) xs) n)) → IsFrom (x ∷ xs) n (cond b (Some (val x)) (row_at (map (λ x. (name x, val x)) xs) n))
      step true e h f = (x, inl refl, eqb-true (name x) n e, refl)
      step false e h f = let r = f h in (r.0, inr r.1, r.2, r.3)

  pub keyed_in : (xs : List X) (x : X) (n : ℕ) → Member xs x → name x ≡ n → IsSome (row_at (map (λ x. (name x, val x)) xs) n)
  unfolding row_at
  keyed_in [] x n h e = absurd h
  keyed_in (y ∷ ys) x n (inl a) e = let q : (name y == n) ≡ true = eq-eqb (name y) n (ap name a ∙ e) in rw q refl
  keyed_in (y ∷ ys) x n (inr h) e = step (name y == n) (keyed_in ys x n h e)
    where
      step : (b : Bool) → IsSome (row_at (map (λ x. (name x, val x)) ys) n) → IsSome (cond b (Some (val y)) (row_at (map (λ x. (name x, val x)) ys) n))
      step true k = refl
      step false k = k
