-- What a caller sees of a history: which curves run along which edges, the named curves, their pieces, and the next number.
use Rattle.std.specs.Prelude.{◌≡◌, ◌==◌, ◌≤◌, ◌+◌, ℕ, Bool, List, [], map, cond, not}
use Rattle.std.specs.List.{filter}
use Rattle.std.specs.Ordering.{nat_cmp}
use Rattle.plane_graphs.specs.Ascending.{ascending, place}
use Rattle.plane_graphs.specs.Graph.{same_curve}
use Rattle.plane_graphs.specs.Piece.{Piece}
use Rattle.slab_laws.specs.declared.names.DartId.{DartId}
use Rattle.slab_laws.specs.declared.present.Piece.{Piece as PieceInMemory}
use Rattle.edit_steps.specs.EditLaws.{curve_of}

-- pairs of an edge, by the name of its dart from the lower to the upper end, and a side of a curve along it, by its number among all sides; the numbers of the named curves, ascending; the pieces, in the order in which they came; the number that the next curve gets; how many more of each fit with no memory; how many pairs, by edge and by curve, and how many pieces fit in all; and the pieces by name, in their order, and whether they have an index over their boxes (CGAL manual, arrangements with history; the index is this project's)
pub record Past : Type 0 where
  pub pairs : List (ℕ × ℕ)
  pub names : List ℕ
  pub pieces : List Piece
  pub next : ℕ
  pub spare_names : ℕ
  pub spare_pieces : ℕ
  pub spare_pairs : ℕ
  pub capacity_by_edge : ℕ
  pub capacity_by_curve : ℕ
  pub capacity_of_pieces : ℕ
  pub rows : List (ℕ × PieceInMemory)
  pub indexed : Bool

-- the sides of curves along the edge of a dart, by their numbers among all sides, ascending; none for other names (this project)
unfoldable pub strands_on : Past → DartId → List ℕ
strands_on p d = ascending nat_cmp (map (λ e. e.1) (filter (λ e. e.0 == d.0) p.pairs))

-- the curves of sides, ascending, each once (this project)
unfoldable pub curves_of : List ℕ → List ℕ
curves_of zs = ascending nat_cmp (map curve_of zs)

-- the curves along the edge of a dart, ascending, each once; none for other names (CGAL manual, originating curves)
unfoldable pub curves_on : Past → DartId → List ℕ
curves_on p d = curves_of (strands_on p d)

-- both have the same names, pieces and next number
pub record SameLayer (old new : Past) : Type 0 where
  pub names : new.names ≡ old.names
  pub pieces : new.pieces ≡ old.pieces
  pub next : new.next ≡ old.next

-- both have the same curves along every edge
abbrev pub SameCurves : Past → Past → Type 0
SameCurves old new = (d : DartId) → curves_on new d ≡ curves_on old d

-- both have the same sides of curves along every edge (this project)
abbrev pub SameStrands : Past → Past → Type 0
SameStrands old new = (d : DartId) → strands_on new d ≡ strands_on old d

-- along the edge of a dart the sides of curves are changed so, and along every other edge they stay (this project)
abbrev pub StrandsChangeOn : Past → Past → DartId → (List ℕ → List ℕ) → Type 0
StrandsChangeOn old new d change = (x : DartId) → strands_on new x ≡ cond (x.0 == d.0) (change (strands_on old x)) (strands_on old x)

-- one more side runs along the edge of a dart, and along every other edge the same ones (this project)
abbrev pub GainsStrand : Past → Past → DartId → ℕ → Type 0
GainsStrand old new d strand = StrandsChangeOn old new d (place nat_cmp strand)

-- the side runs along the edge of a dart no more, and along every other edge the same ones do (this project)
abbrev pub LosesStrand : Past → Past → DartId → ℕ → Type 0
LosesStrand old new d strand = StrandsChangeOn old new d (filter (λ z. not (same_curve z strand)))

-- no side of the curve runs along the edge of a dart any more, and along every other edge the same ones do (this project)
abbrev pub LosesSides : Past → Past → DartId → ℕ → Type 0
LosesSides old new d curve = StrandsChangeOn old new d (filter (λ z. not (same_curve (curve_of z) curve)))

-- no side runs along the edge of a dart any more, and along every other edge the same ones do (this project)
abbrev pub LosesStrands : Past → Past → DartId → Type 0
LosesStrands old new d = StrandsChangeOn old new d (λ zs. [])

-- along the edge of n run the sides that ran along that of d, and along every other edge the same ones (this project)
abbrev pub CopiesStrands : Past → Past → DartId → DartId → Type 0
CopiesStrands old new d n = StrandsChangeOn old new n (λ zs. strands_on old d)

-- along the edge of a dart the curves are changed so, and along every other edge they stay (this project)
abbrev pub AreChangedOn : Past → Past → DartId → (List ℕ → List ℕ) → Type 0
AreChangedOn old new d change = (x : DartId) → curves_on new x ≡ cond (x.0 == d.0) (change (curves_on old x)) (curves_on old x)

-- one more curve runs along the edge of a dart, and along every other edge the same ones (CGAL manual, originating curves)
abbrev pub GainsCurve : Past → Past → DartId → ℕ → Type 0
GainsCurve old new d curve = AreChangedOn old new d (place nat_cmp curve)

-- the curve runs along the edge of a dart no more, and along every other edge the same ones do (CGAL manual, originating curves)
abbrev pub LosesCurve : Past → Past → DartId → ℕ → Type 0
LosesCurve old new d curve = AreChangedOn old new d (filter (λ k. not (same_curve k curve)))

-- no curve runs along the edge of a dart any more, and along every other edge the same ones do (this project)
abbrev pub LosesCurves : Past → Past → DartId → Type 0
LosesCurves old new d = AreChangedOn old new d (λ ks. [])

-- along the edge of n run the curves that ran along that of d, and along every other edge the same ones (CGAL manual, `split_edge`)
abbrev pub CopiesCurves : Past → Past → DartId → DartId → Type 0
CopiesCurves old new d n = AreChangedOn old new n (λ ks. curves_on old d)

-- the second has room for so many names, pieces and pairs more than the first
pub record IsSpare (less more : Past) (names pieces pairs : ℕ) : Type 0 where
  pub of_names : less.spare_names + names ≤ more.spare_names
  pub of_pieces : less.spare_pieces + pieces ≤ more.spare_pieces
  pub of_pairs : less.spare_pairs + pairs ≤ more.spare_pairs

-- the room for names and pieces stays at least, and that for pairs falls by so many at most (this project)
abbrev pub SpendsPairs : Past → Past → ℕ → Type 0
SpendsPairs old new pairs = IsSpare old (record new { spare_pairs = new.spare_pairs + pairs }) 0 0 0

-- without memory there is room for so many names, pieces and pairs more (this project)
abbrev pub HasRoom : Past → ℕ → ℕ → ℕ → Type 0
HasRoom p names pieces pairs = (names ≤ p.spare_names) × (pieces ≤ p.spare_pieces) × (pairs ≤ p.spare_pairs)

-- as many pairs and pieces fit in all: no memory was taken for them, and none was given back (this project)
pub record SameHistoryCapacity (old new : Past) : Type 0 where
  pub by_edge : new.capacity_by_edge ≡ old.capacity_by_edge
  pub by_curve : new.capacity_by_curve ≡ old.capacity_by_curve
  pub of_pieces : new.capacity_of_pieces ≡ old.capacity_of_pieces
