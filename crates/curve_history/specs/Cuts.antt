-- What a cut leaves of pieces (this project).
use Rattle.std.specs.Prelude.{◌≡◌, ◌≤◌, ◌++◌, ◌∷◌, [], ◌&&◌, not, ℕ, Bool, true, false, cond, List, length, map, take, drop}
use Rattle.std.specs.List.{flat_map, list_any, AllByRecursion}
use Rattle.exact_plane.specs.Point.{Point}
use Rattle.plane_graphs.specs.Line.{precedes}
use Rattle.plane_graphs.specs.Piece.{Piece}
use Rattle.edit_steps.specs.Steps.{cut_piece}
use Rattle.slab_laws.specs.Pieces.{piece_of}
use Rattle.slab_laws.specs.declared.present.Piece.{Piece as PieceInMemory}
use Rattle.curve_pieces.specs.PieceRows.{Rowed}
use Rattle.curve_history.specs.declared.cuts.CutPlan.{CutPlan}

-- something is left of the piece without the part from a to b
abbrev pub leaves_some : Point → Point → Piece → Bool
leaves_some a b k = list_any (λ rest. true) (cut_piece a b k)

-- something is left of each of the pieces
abbrev pub AllLeaveSome : Point → Point → List Piece → Type 0
AllLeaveSome a b ks = AllByRecursion (λ k. 1 ≤ length (cut_piece a b k)) ks

-- each of the pieces stays as it is (this project)
abbrev pub AreWhole : Point → Point → List Piece → Type 0
AreWhole a b ks = AllByRecursion (λ k. cut_piece a b k ≡ k ∷ []) ks

-- the piece neither begins after the first point nor ends before the second one (this project)
abbrev pub spans : Piece → Point → Point → Bool
spans k a b = not (precedes a k.from) && not (precedes k.to b)

-- what is left of pieces without the part from a to b, in their order (CGAL manual, `remove_edge`)
abbrev pub rests_of : Point → Point → List Piece → List Piece
rests_of a b ks = flat_map (cut_piece a b) ks

-- the piece, where something is left of it (this project)
abbrev pub kept_whole : Point → Point → Piece → List Piece
kept_whole a b k = cond (leaves_some a b k) (k ∷ []) []

-- the pieces of rows, as the model has them
abbrev pub modelled : List (ℕ × PieceInMemory) → List Piece
modelled rs = map piece_of (map (λ r. r.1) rs)

-- in place of the piece of a name stands what f gives for it, and all others stay (this project)
abbrev pub IsReplaced : (Piece → List Piece) → Rowed → Rowed → ℕ → Type 0
IsReplaced f old new name = (before after : List (ℕ × PieceInMemory)) (k : PieceInMemory) → old.rows ≡ before ++ (name, k) ∷ after → (rows : List (ℕ × PieceInMemory)) × (new.rows ≡ before ++ (rows ++ after)) × (modelled rows ≡ f (piece_of k))

-- in place of the piece of a name stand these, and all others stay (this project)
abbrev pub ArePut : Rowed → Rowed → ℕ → List PieceInMemory → Type 0
ArePut old new name ks = (before after : List (ℕ × PieceInMemory)) (k : PieceInMemory) → old.rows ≡ before ++ (name, k) ∷ after → (rows : List (ℕ × PieceInMemory)) × (new.rows ≡ before ++ (rows ++ after)) × (map (λ r. r.1) rows ≡ ks)

-- the plan says how many pieces the cut from a to b leaves; the run from `first` up to `end` has all that it changes; and where it says that none goes, each leaves some (this project)
pub record IsPlanOfCut (a b : Point) (ks : List Piece) (plan : CutPlan) : Type 0 where
  pub left : plan.left ≡ length (rests_of a b ks)
  pub run : plan.first ≤ plan.end
  pub within : plan.end ≤ length ks
  pub before : AreWhole a b (take plan.first ks)
  pub behind : AreWhole a b (drop plan.end ks)
  pub stay : plan.some_go ≡ false → AllLeaveSome a b ks

-- the second plan is one for one piece more, behind those of any list as long as `place` that the first is one for (this project)
abbrev pub IsPlanWithNext : Point → Point → CutPlan → ℕ → Piece → CutPlan → Type 0
IsPlanWithNext a b plan place k next =
    (ks : List Piece) → length ks ≡ place → IsPlanOfCut a b ks plan → IsPlanOfCut a b (ks ++ k ∷ []) next
