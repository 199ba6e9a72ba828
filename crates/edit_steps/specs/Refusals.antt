-- When an edit of a layer is refused: the first reason that holds, and what a call answers by it.
use Rattle.std.specs.Prelude.{◌≡◌, ℕ, ◌+◌, length, nat_le, nat_lt, not, ◌&&◌, Bool, Option, Some, None, if◌then◌else◌, Result, Ok, Err}
use Rattle.std.specs.List.{list_any}
use Rattle.exact_plane.specs.Point.{Point}
use Rattle.plane_graphs.specs.Line.{same_point}
use Rattle.plane_graphs.specs.Piece.{Present, on}
use Rattle.plane_graphs.specs.Graph.{graph, vertices, same_curve, is_at, inside}
use Rattle.edit_steps.specs.Edits.{Edit, Insert, Drop, Cut, Pin, Unpin, Split, Merge, ClearAll}
use Rattle.edit_steps.specs.Layer.{Layer}
use Rattle.edit_steps.specs.Steps.{with_cut, without_pin}

-- how many named curves, pieces and pins a layer may hold, and the last number that a curve may get (this project)
pub record Bounds : Type 0 where
  pub curves : ℕ
  pub pieces : ℕ
  pub pins : ℕ
  pub last : ℕ

-- why an edit isn't done (this project)
--     Full n          one more would pass the limit n
--     Spent           the last number of a curve was drawn
--     Unknown         no curve has the number
--     NoEdge          no edge joins the points
--     NotInside       the point isn't strictly inside the edge
--     Pinned          the point is pinned
--     NotPinned       the point isn't pinned
--     NoVertex        no vertex is at the point
--     NotMergeable    more than its pin makes the point a vertex, or no piece goes through it
pub data Refusal : Type 0 where
  Full : ℕ → Refusal
  Spent : Refusal
  Unknown : Refusal
  NoEdge : Refusal
  NotInside : Refusal
  Pinned : Refusal
  NotPinned : Refusal
  NoVertex : Refusal
  NotMergeable : Refusal

-- why one more curve is refused, first reason first: the names are as many as may be, a piece for each side would be too many, the last number was drawn (this project)
abbrev pub insertion_refusal : ℕ → ℕ → ℕ → ℕ → Layer → Option Refusal
insertion_refusal sides curves pieces last l =
    if nat_le curves (length l.names) then Some (Full curves)
    else (if nat_lt pieces (length l.present.pieces + sides) then Some (Full pieces)
    else (if nat_lt last l.next then Some Spent else None))

-- why a drop is refused: no curve has the number (this project)
abbrev pub drop_refusal : Layer → ℕ → Option Refusal
drop_refusal l c = if list_any (same_curve c) l.names then None else Some Unknown

-- why a cut is refused, first reason first: no edge joins the points; the pieces that are left would pass their limit (this project)
abbrev pub cut_refusal : ℕ → Layer → Point → Point → Option Refusal
cut_refusal pieces l p q =
    if list_any (is_at p q) (graph l.present).marks then (if nat_lt pieces (length (with_cut l.present p q).pieces) then Some (Full pieces) else None)
    else Some NoEdge

-- why a pin is refused, first reason first: the point is pinned; one more pin would pass the limit (this project)
abbrev pub pin_refusal : ℕ → Layer → Point → Option Refusal
pin_refusal pins l r =
    if list_any (same_point r) l.present.pins then Some Pinned
    else (if nat_le pins (length l.present.pins) then Some (Full pins) else None)

-- why an unpin is refused: the point isn't pinned (this project)
abbrev pub unpin_refusal : Layer → Point → Option Refusal
unpin_refusal l r = if list_any (same_point r) l.present.pins then None else Some NotPinned

-- why a split is refused, first reason first: no edge joins the points; the third isn't strictly inside it; one more pin would pass the limit (this project)
abbrev pub split_refusal : ℕ → Layer → Point → Point → Point → Option Refusal
split_refusal pins l p q r =
    if list_any (is_at p q) (graph l.present).marks
    then (if list_any (λ m. is_at p q m && inside r m) (graph l.present).marks
    then (if nat_le pins (length l.present.pins) then Some (Full pins) else None)
    else Some NotInside)
    else Some NoEdge

-- the pin alone makes the point a vertex, and a piece goes through it (CGAL manual, `merge_edge`: two edges that can become one; pins: this project)
abbrev pub is_mergeable : Present → Point → Bool
is_mergeable p r =
    list_any (same_point r) p.pins
    && (not (list_any (same_point r) (vertices (without_pin p r))) && list_any (λ k. on k r) p.pieces)

-- why a merge is refused, first reason first: the point is no vertex; its two edges can't become one (this project)
abbrev pub merge_refusal : Layer → Point → Option Refusal
merge_refusal l r =
    if list_any (same_point r) (vertices l.present) then (if is_mergeable l.present r then None else Some NotMergeable)
    else Some NoVertex

-- why an edit of a layer is refused within these bounds, if it is (this project)
abbrev pub refusal : Bounds → Layer → Edit → Option Refusal
refusal b l (Insert c ss) = insertion_refusal (length ss) b.curves b.pieces b.last l
refusal b l (Drop c) = drop_refusal l c
refusal b l (Cut p q) = cut_refusal b.pieces l p q
refusal b l (Pin r) = pin_refusal b.pins l r
refusal b l (Unpin r) = unpin_refusal l r
refusal b l (Split p q r) = split_refusal b.pins l p q r
refusal b l (Merge r) = merge_refusal l r
refusal b l ClearAll = None

-- a call is refused for just this reason; where there is none it is done, or fails for want of memory, of which `said` answers None (this project)
abbrev pub IsAnswerFor : {T E : Type 0} → (E → Option Refusal) → Option Refusal → Result T E → Type 0
IsAnswerFor said r (Ok x) = r ≡ None
IsAnswerFor said r (Err e) = said e ≡ r
