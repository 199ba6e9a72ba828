-- Tests that were taken into another order so far.
use Rattle.std.specs.Prelude.{◌≡◌, ℕ, Bool, true, false, List, length, slice_index_or}
use Rattle.std.specs.List.{Contains}
use Rattle.locate_trapezoid.specs.declared.node.Test.{Test}
use Rattle.locate_trapezoid.specs.Nodes.{no_node}

-- a place is marked as taken (this project)
abbrev pub is_marked : List Bool → ℕ → Bool
is_marked marks j = slice_index_or marks j false

-- the test at a place (this project)
abbrev pub test_at : List Test → ℕ → Test
test_at ts j = slice_index_or ts j no_node.test

-- each place has a mark; what is marked is in the order, and nothing else is than such tests (this project)
pub record IsTaken (ts : List Test) (marks : List Bool) (order : List Test) : Type 0 where
  pub places : length marks ≡ length ts
  pub taken : (j : ℕ) → is_marked marks j ≡ true → Contains order (test_at ts j)
  pub only : (t : Test) → Contains order t → Contains ts t
