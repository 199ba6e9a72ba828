-- What is known of the looks at the pieces below a point.
use Rattle.std.specs.Prelude.{◌≡◌, ◌==◌, ℕ, pos, negsuc, ◌<ℤ◌, ◌≤ℤ◌, false, cond, Option, Some, None, IfSome, IsSome}
use Rattle.std.specs.Int.{int_max}
use Rattle.std.specs.List.{IsDistinct}
use Rattle.exact_plane.specs.Boxes.{box_between}
use Rattle.exact_plane.specs.Point.{Point, IsPoint}
use Rattle.exact_plane.specs.declared.whole_parts.BoundingBox.{BoundingBox}
use Rattle.plane_graphs.specs.Ascending.{Member}
use Rattle.plane_graphs.specs.Fit.{IsFitPiece}
use Rattle.plane_graphs.specs.Piece.{Piece}
use Rattle.slab_laws.specs.declared.present.Piece.{Piece as PieceInMemory}
use Rattle.slab_laws.specs.Pieces.{piece_of}
use Rattle.slab_laws.specs.Tables.{names}
use Rattle.box_tree.specs.declared.entry.Entry.{Entry}
use Rattle.curve_pieces.specs.PieceRows.{entries_of}
use Rattle.curve_history.specs.Past.{Past}
use Rattle.piece_location.specs.declared.highest.Highest.{Highest}
use Rattle.piece_location.specs.declared.highest.PieceBelow.{PieceBelow}
use Rattle.piece_location.specs.declared.lies.Lie.{Lie}
use Rattle.piece_location.specs.declared.lies.Lie.TheVariants.{Below, Through, Apart}
use Rattle.piece_location.specs.Heights.{line_of, is_higher, IsPieceSeen, IsPieceThrough, IsSpanned}
use Rattle.piece_location.specs.Lies.{IsLie}

-- ---- what is found
-- the second, if the first is none, or is lower
abbrev pub higher_piece : Point → Option PieceBelow → PieceBelow → PieceBelow
higher_piece q None b = b
higher_piece q (Some o) b = cond (is_higher q b.line o.line) b o

-- how the piece of an entry lies is kept
abbrev pub taken : Highest → Entry → Piece → Lie → Highest
taken h e k Below = record h { best = Some (higher_piece h.point h.best (record { name = e.name; line = line_of k })); floor = int_max h.floor e.bounds.least.y }
taken h e k Through = record h { through = Some e.name; floor = pos 2147483647 }
taken h e k Apart = h

-- ---- what is known
-- the rows of pieces all are fit
abbrev pub AreFitRows : Past → Type 0
AreFitRows p = (r : ℕ × PieceInMemory) → Member r p.rows → IsFitPiece (piece_of r.1)

-- the name is of a piece of which P is true
abbrev pub IsPieceNamed : Past → (Piece → Type 0) → ℕ → Type 0
IsPieceNamed p P n = (k : PieceInMemory) × Member (n, k) p.rows × P (piece_of k)

-- it is a piece that the point sees, with its line
abbrev pub IsBelowIn : Past → Point → PieceBelow → Type 0
IsBelowIn p q b = IsPieceNamed p (λ k. IsPieceSeen q k × (b.line ≡ line_of k)) b.name

-- the line of the highest piece so far isn't vertical
abbrev pub IsReady : Highest → Type 0
IsReady h = IfSome h.best (λ b. pos 0 <ℤ b.line.b)

-- no piece is higher than the one found
abbrev pub IsPassedBy : Point → Option PieceBelow → Piece → Type 0
IsPassedBy q None k = IsPieceSeen q k → ⊥
IsPassedBy q (Some b) k = IsPieceSeen q k → is_higher q (line_of k) b.line ≡ false

-- until a piece through the point was met, the piece isn't one, and it isn't higher than the one found
pub record IsCleared (l : Highest) (k : Piece) : Type 0 where
  pub off : IsPieceThrough l.point k → ⊥
  pub passed : IsPassedBy l.point l.best k

-- the box of a piece, by the whole parts of its ends
abbrev pub box_of : Piece → BoundingBox
box_of k = box_between k.from k.to

-- a piece whose box is wholly below the floor doesn't go through the point, and isn't higher than the one found (de Berg and others: the segment directly below a point)
abbrev pub IsFloor : Highest → Type 0
IsFloor l = (m : Piece) → IsFitPiece m → IsSpanned l.point m → negsuc 2147483647 ≤ℤ (box_of m).greatest.y → (box_of m).greatest.y <ℤ l.floor → IsCleared l m

-- the history and the point stay; pieces are fit, and no name stands twice; what was found is there, and nothing below the floor matters
pub record MayVisit (k l : Highest) : Type 0 where
  pub history : l.history.now ≡ k.history.now
  pub point : l.point ≡ k.point
  pub place : IsPoint l.point
  pub fit : AreFitRows l.history.now
  pub once : IsDistinct ◌==◌ (names l.history.now.rows)
  pub through : IfSome l.through (IsPieceNamed l.history.now (IsPieceThrough l.point))
  pub best : IfSome l.best (IsBelowIn l.history.now l.point)
  pub floor : l.through ≡ None → IsFloor l

-- the entry is of a piece
abbrev pub Knows : Highest → Entry → Type 0
Knows k e = Member e (entries_of k.history.now.rows)

abbrev pub HasSeen : Highest → Entry → Type 0
HasSeen l e = l.through ≡ None → IsPieceNamed l.history.now (IsCleared l) e.name

-- once a piece through the point was met, nothing changes; until then, how the piece of the entry lies is kept (this project)
pub record IsLooked (h : Highest) (e : Entry) (l : Highest) : Type 0 where
  pub met : IsSome h.through → l ≡ h
  pub found : h.through ≡ None → (r : PieceInMemory) × Member (e.name, r) h.history.now.rows × (e.bounds ≡ box_of (piece_of r)) × (lie : Lie) × IsLie h.point (piece_of r) lie × (l ≡ taken h e (piece_of r) lie)
  pub rises : h.floor ≤ℤ l.floor
