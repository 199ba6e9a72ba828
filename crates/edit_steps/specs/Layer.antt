-- A layer: what its edits have made so far, the names of its curves, and the number that the next one gets.
use Rattle.std.specs.Prelude.{◌≡◌, ⊤, ℕ, ◌+◌, ◌<◌, ◌≤◌, not, List, [], ◌∷◌, ◌++◌}
use Rattle.std.specs.List.{filter}
use Rattle.std.specs.Ordering.{nat_cmp}
use Rattle.plane_graphs.specs.Ascending.{Member, IsAscending}
use Rattle.plane_graphs.specs.Piece.{Piece, Present}
use Rattle.plane_graphs.specs.Graph.{same_curve}
use Rattle.plane_graphs.specs.Fit.{IsFit}
use Rattle.edit_steps.specs.Edits.{Edit, Insert, Drop, ClearAll, after, AreSides, IsAccepted}

-- the present, the curves that have a name, ascending, and the next number (this project; curves with history: CGAL manual)
pub record Layer : Type 0 where
  pub present : Present
  pub names : List ℕ
  pub next : ℕ

-- before the first edit, by the first number
abbrev pub empty_layer : ℕ → Layer
empty_layer first = record { present = record { pieces = []; pins = [] }; names = []; next = first }

-- the names after an edit: an insertion gives one, a removal of a curve takes one
abbrev pub names_after : Edit → List ℕ → List ℕ
names_after (Insert c ss) ns = ns ++ (c ∷ [])
names_after (Drop c) ns = filter (λ n. not (same_curve n c)) ns
names_after ClearAll ns = []
names_after other ns = ns

-- the next number after an edit: none is used again
abbrev pub next_after : Edit → ℕ → ℕ
next_after (Insert c ss) n = n + 1
next_after other n = n

-- the layer after an edit
abbrev pub layer_after : Edit → Layer → Layer
layer_after e l = record { present = after e l.present; names = names_after e l.names; next = next_after e l.next }

-- no refusal that speaks of the graph holds; an insertion takes the next number
abbrev pub IsAcceptedBy : Edit → Layer → Type 0
IsAcceptedBy (Insert c ss) l = (c ≡ l.next) × AreSides ss
IsAcceptedBy other l = IsAccepted other l.present

-- no piece stands twice in the list
abbrev pub ArePiecesOnce : List Piece → Type 0
ArePiecesOnce [] = ⊤
ArePiecesOnce (k ∷ ks) = (Member k ks → ⊥) × ArePiecesOnce ks

-- what holds of every layer that edits have made: a fit present whose pieces stand once and whose curves are named, and names from 1 to below the next number
pub record IsLawful (l : Layer) : Type 0 where
  pub fit : IsFit l.present
  pub once : ArePiecesOnce l.present.pieces
  pub named : (k : Piece) → Member k l.present.pieces → Member k.curve l.names
  pub ascend : IsAscending nat_cmp l.names
  pub least : (n : ℕ) → Member n l.names → 1 ≤ n
  pub drawn : (n : ℕ) → Member n l.names → n < l.next
  pub first : 1 ≤ l.next
