-- The bytes of replies.
use Rattle.std.specs.Prelude.{ℕ, List, [], ◌∷◌, ◌++◌, codes, decimal, length}
use Rattle.std.specs.List.{flat_map}
use Rattle.std.specs.Fmt.{signed_decimal}
use Rattle.exact_plane.specs.Point.{Point}
use Rattle.plane_graphs.specs.Graph.{Edge as GraphEdge}
use Rattle.observer_bus.specs.declared.went.Went.{Went}
use Rattle.slab_laws.specs.declared.cell.Cell.{Cell}
use Rattle.slab_laws.specs.declared.cell.Cell.TheVariants.{Vertex, Edge, Face}
use Rattle.slab_laws.specs.Darts.{Dart, source, target}

abbrev pub line_of : List ℕ → List ℕ
line_of text = text ++ 10 ∷ []

abbrev pub point_text : Point → List ℕ
point_text p = signed_decimal p.x ++ 32 ∷ signed_decimal p.y ++ 32 ∷ signed_decimal p.w

abbrev pub cell_text : Cell → List ℕ
cell_text (Vertex p) = codes "vertex " ++ point_text p
cell_text (Edge p q) = codes "edge " ++ point_text p ++ 32 ∷ point_text q
cell_text (Face k) = codes "face " ++ decimal k

-- numbers, each after a space
abbrev pub spaced : List ℕ → List ℕ
spaced ns = flat_map (λ n. 32 ∷ decimal n) ns

-- a line of a word and two points
abbrev pub ends_line : List ℕ → Point × Point → List ℕ
ends_line word ends = line_of (word ++ (point_text ends.0 ++ 32 ∷ point_text ends.1))

-- the line of an edge: its lower end, then its upper one
abbrev pub edge_line : GraphEdge → List ℕ
edge_line e = line_of (codes "e " ++ (point_text e.low ++ 32 ∷ point_text e.high))

-- a curve's text: its number, then a line for each of its edges, in their order
abbrev pub curve_text : ℕ → List GraphEdge → List ℕ
curve_text c es = line_of (codes "curve " ++ decimal c) ++ (flat_map edge_line es ++ line_of (codes "end"))

-- the text of where points lie: how many there are, then a line for each, in their order
abbrev pub cells_text : List Cell → List ℕ
cells_text cells = line_of (codes "batch " ++ decimal (length cells)) ++ (flat_map (λ c. line_of (cell_text c)) cells ++ line_of (codes "end"))

-- the line of a dart: its source, then its target
abbrev pub border_line : Dart → List ℕ
border_line d = line_of (codes "b " ++ (point_text (source d) ++ 32 ∷ point_text (target d)))

-- a region's text: how many darts are on its border, then a line for each, in their order
abbrev pub region_text : List Dart → List ℕ
region_text ds = line_of (codes "region " ++ decimal (length ds)) ++ (flat_map border_line ds ++ line_of (codes "end"))

-- the same text, of darts by their ends
abbrev pub border_text : List (Point × Point) → List ℕ
border_text darts = line_of (codes "region " ++ decimal (length darts)) ++ (flat_map (ends_line (codes "b ")) darts ++ line_of (codes "end"))

-- a word and a number for each of these names
abbrev pub names_text : List ℕ → List ℕ → List ℕ
names_text word names = flat_map (λ i. word ++ decimal i) names

-- who joined, left and was lost in an edit, each group ascending
abbrev pub went_text : Went → List ℕ
went_text g = names_text (codes " joined ") g.joined ++ (names_text (codes " left ") g.left ++ names_text (codes " lost ") g.lost)
