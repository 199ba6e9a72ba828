-- The edits of a present, their steps, and when an edit is accepted.
use Rattle.std.specs.Prelude.{◌≡◌, ℕ, suc, ◌≤◌, length, List, [], ◌∷◌, true, false, ◌&&◌}
use Rattle.std.specs.List.{list_any}
use Rattle.exact_plane.specs.Point.{Point}
use Rattle.plane_graphs.specs.Ascending.{Member}
use Rattle.plane_graphs.specs.Line.{IsProper, IsWhole, precedes, same_point}
use Rattle.exact_plane.specs.Segment.{Segment}
use Rattle.plane_graphs.specs.Piece.{Piece, Present, on}
use Rattle.plane_graphs.specs.Graph.{graph, vertices, same_curve, is_at, inside}
use Rattle.edit_steps.specs.Steps.{Step, Clear, with_pieces, path_steps, without_curve, drop_steps, with_cut, cut_steps, with_pin, pin_steps, without_pin, unpin_steps, split_steps, merge_steps}

-- what a caller may ask of a layer (this project; insertion, removal, split and merge: CGAL manual)
--     Insert c ss          the segments ss become the sides of the new curve c
--     Drop c               the curve c goes
--     Cut p q              the edge from p to q goes, from all its curves
--     Pin r, Unpin r       r is a vertex whatever runs through it, or need no longer be one
--     Split p q r          the edge from p to q gets the pin r inside it
--     Merge r              the pin r goes, which alone parts an edge
--     ClearAll             everything goes
pub data Edit : Type 0 where
  Insert : ℕ → List Segment → Edit
  Drop : ℕ → Edit
  Cut : Point → Point → Edit
  Pin : Point → Edit
  Unpin : Point → Edit
  Split : Point → Point → Point → Edit
  Merge : Point → Edit
  ClearAll : Edit

-- a whole segment as a side of a curve
abbrev pub whole_piece : ℕ → ℕ → Segment → Piece
whole_piece c j s = record { curve = c; side = j; segment = s; from = s.lower; to = s.upper }

-- segments as the sides of a curve, the first of them with this number
abbrev pub sides_from : ℕ → ℕ → List Segment → List Piece
sides_from c j [] = []
sides_from c j (s ∷ ss) = whole_piece c j s ∷ sides_from c (suc j) ss

-- a curve of these sides, which are numbered from 1
abbrev pub path_pieces : ℕ → List Segment → List Piece
path_pieces c ss = sides_from c 1 ss

-- the present after the edit
unfoldable pub after : Edit → Present → Present
after (Insert c ss) p = with_pieces p (path_pieces c ss)
after (Drop c) p = without_curve p c
after (Cut a b) p = with_cut p a b
after (Pin r) p = with_pin p r
after (Unpin r) p = without_pin p r
after (Split a b r) p = with_pin p r
after (Merge r) p = without_pin p r
after ClearAll p = record { pieces = []; pins = [] }

-- the steps of the edit, in order
unfoldable pub steps : Edit → Present → List Step
steps (Insert c ss) p = path_steps p (path_pieces c ss)
steps (Drop c) p = drop_steps p c
steps (Cut a b) p = cut_steps p a b
steps (Pin r) p = pin_steps p r
steps (Unpin r) p = unpin_steps p r
steps (Split a b r) p = split_steps a b r
steps (Merge r) p = merge_steps r
steps ClearAll p = Clear ∷ []

-- a segment with whole ends that runs from its lesser one
pub record IsSide (s : Segment) : Type 0 where
  pub lower : IsWhole s.lower
  pub upper : IsWhole s.upper
  pub forward : precedes s.lower s.upper ≡ true

-- one to eight such segments
pub record AreSides (ss : List Segment) : Type 0 where
  pub each : (s : Segment) → Member s ss → IsSide s
  pub some : 1 ≤ length ss
  pub few : length ss ≤ 8

-- a new curve of such sides
pub record IsNew (c : ℕ) (ss : List Segment) (p : Present) : Type 0 where
  pub sides : AreSides ss
  pub fresh : list_any (λ k. same_curve k.curve c) p.pieces ≡ false

-- no refusal that speaks of the graph holds; those of names and limits are the layer's
unfoldable pub IsAccepted : Edit → Present → Type 0
IsAccepted (Insert c ss) p = IsNew c ss p
IsAccepted (Drop c) p = Unit {0}
IsAccepted (Cut a b) p = list_any (is_at a b) (graph p).marks ≡ true
IsAccepted (Pin r) p = IsProper r × (list_any (same_point r) p.pins ≡ false)
IsAccepted (Unpin r) p = list_any (same_point r) p.pins ≡ true
IsAccepted (Split a b r) p = IsProper r × (list_any (λ m. is_at a b m && inside r m) (graph p).marks ≡ true)
IsAccepted (Merge r) p = (list_any (same_point r) p.pins ≡ true) × (list_any (same_point r) (vertices (without_pin p r)) ≡ false) × (list_any (λ k. on k r) p.pieces ≡ true)
IsAccepted ClearAll p = Unit {0}
