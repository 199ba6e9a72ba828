-- How a slab of rows, its ends, a map of heads and an index are pieces (this project).
use Rattle.std.specs.Prelude.{◌≡◌, ◌-◌, ◌==◌, ◌≤◌, ℕ, Bool, true, List, [], ◌∷◌, cond, min, length, Option, Some, None, option_map, Contains}
use Rattle.indexmap.specs.IndexMap.{IndexMap, spare}
use Rattle.slab.specs.Slab.{Slab, get, slab_len, ContainsKey}
use Rattle.slab_laws.specs.Tables.{row_at}
use Rattle.slab_laws.specs.declared.present.Piece.{Piece}
use Rattle.chain_laws.specs.Links.{Node, trail, after_at, IsLinked, IsListed, AreListed}
use Rattle.std.specs.List.Sorted.{IsPermutation}
use Rattle.curve_pieces.specs.declared.index.PieceIndex.{PieceIndex}
use Rattle.curve_pieces.specs.declared.row.Row.{Row}
use Rattle.curve_pieces.specs.declared.row.Ends.{Ends}
use Rattle.curve_pieces.specs.PieceRows.{Rowed, entries_of}

-- a row in the order of all pieces, where all have one key, and in the list of its curve
abbrev pub order_node : Row → Node
order_node r = record { key = 0; before = r.order.before; after = r.order.after }

abbrev pub curve_node : Row → Node
curve_node r = record { key = r.piece.curve.0; before = r.curve.before; after = r.curve.after }

abbrev pub order_nodes : Slab Row → ℕ → Option Node
order_nodes s n = option_map order_node (get s n)

abbrev pub curve_nodes : Slab Row → ℕ → Option Node
curve_nodes s n = option_map curve_node (get s n)

abbrev pub piece_in : Slab Row → ℕ → Option Piece
piece_in s n = option_map (λ r. r.piece) (get s n)

-- the names from one on, in the order of all pieces
unfoldable pub order_from : Slab Row → Option ℕ → List ℕ
order_from s first = trail (after_at (order_nodes s)) (slab_len s) first

-- the names that have a piece, with it
abbrev pub with_piece : ℕ → Option Piece → List (ℕ × Piece) → List (ℕ × Piece)
with_piece n None rs = rs
with_piece n (Some k) rs = (n, k) ∷ rs

abbrev pub rows_of : (ℕ → Option Piece) → List ℕ → List (ℕ × Piece)
rows_of piece [] = []
rows_of piece (n ∷ ns) = with_piece n (piece n) (rows_of piece ns)

abbrev pub rows_from : Slab Row → Option ℕ → List (ℕ × Piece)
rows_from s first = rows_of (piece_in s) (order_from s first)

-- the last of a list; where it is empty, the one before it
abbrev pub last_of : Option ℕ → List ℕ → Option ℕ
last_of before [] = before
last_of before (n ∷ ns) = last_of (Some n) ns

-- the row that comes after a place in the order, where nothing stands for the place before all
abbrev pub after_place : Slab Row → Option ℕ → Option ℕ → Option ℕ
after_place s first None = first
after_place s first (Some m) = after_at (order_nodes s) m

-- all rows are in one list, from the first to the last
pub record IsOrder (s : Slab Row) (ends : Ends) : Type 0 where
  pub listed : IsListed (order_nodes s) ends.first 0 (order_from s ends.first)
  pub last : ends.last ≡ last_of None (order_from s ends.first)

-- the heads, where that of a curve is this one
abbrev pub with_head : ℕ → Option ℕ → (ℕ → Option (Option ℕ)) → ℕ → Option (Option ℕ)
with_head curve first head k = cond (k == curve) (Some first) (head k)

-- some heads are those of the lists by curve, where that of a curve is this one
abbrev pub IsHeadOf : Slab Row → ℕ → Option ℕ → Type 0
IsHeadOf s curve first = (head : ℕ → Option (Option ℕ)) × AreListed (with_head curve first head) (curve_nodes s)

-- from one row on the rows follow each other in the order, no more than there are
pub record IsRest (s : Slab Row) (at : Option ℕ) : Type 0 where
  pub names : List ℕ
  pub before : Option ℕ
  pub linked : IsLinked (order_nodes s) before at names
  pub there : (n : ℕ) → Contains names n → ContainsKey s n
  pub few : length names ≤ slab_len s

abbrev pub pieces_seen : {S : Type 0} → Slab Row → Ends → IndexMap ℕ (Option ℕ) S → Bool → Rowed
pieces_seen s ends heads indexed = record {
  rows = rows_from s ends.first;
  spare = min (spare heads) (s.capacity - slab_len s);
  capacity = s.capacity;
  indexed = indexed;
}

pub record AreSoundPieces {S : Type 0} (s : Slab Row) (ends : Ends) (heads : IndexMap ℕ (Option ℕ) S) : Type 0 where
  pub order : IsOrder s ends
  pub curves : AreListed (row_at heads.entries) (curve_nodes s)

-- while it is whole, its entries are those of the rows
abbrev pub IsIndexOf : PieceIndex → List (ℕ × Piece) → Type 0
IsIndexOf i rows = i.whole ≡ true → IsPermutation i.boxes.entries (entries_of rows)

-- sound pieces with their index (this project)
pub record AreIndexedPieces {S : Type 0} (s : Slab Row) (ends : Ends) (heads : IndexMap ℕ (Option ℕ) S) (index : PieceIndex) : Type 0 where
  pub sound : AreSoundPieces s ends heads
  pub boxes : IsIndexOf index (rows_from s ends.first)
