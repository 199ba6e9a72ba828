-- Tables: rows by their names, which are numbers.
use Rattle.std.specs.Prelude.{ℕ, ◌<◌, ◌==◌, nat_lt, Bool, true, cond, ⊤, List, [], ◌∷◌, map, Option, Some, None}
use Rattle.std.specs.List.{AllByRecursion}

module _ {X : Type 0} where
  -- the row of a name
  unfoldable pub row_at : List (ℕ × X) → ℕ → Option X
  row_at [] n = None
  row_at (r ∷ rs) n = cond (r.0 == n) (Some r.1) (row_at rs n)

  -- the names that have rows
  abbrev pub names : List (ℕ × X) → List ℕ
  names rs = map (λ r. r.0) rs

-- every name comes after none, and a greater one after a name
abbrev pub is_after : Option ℕ → ℕ → Bool
is_after None n = true
is_after (Some m) n = nat_lt m n

-- the first of the names that comes after; of names that ascend, the next greater one (CGAL manual, iterators over vertices, halfedges and faces)
unfoldable pub name_after : List ℕ → Option ℕ → Option ℕ
name_after [] at = None
name_after (n ∷ ns) at = cond (is_after at n) (Some n) (name_after ns at)

-- each name is less than all that follow it, so each stands once
abbrev pub NamesAscend : List ℕ → Type 0
NamesAscend [] = ⊤
NamesAscend (n ∷ ns) = AllByRecursion (λ m. n < m) ns × NamesAscend ns
