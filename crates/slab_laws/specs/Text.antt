-- The text of a subdivision.
use Rattle.std.specs.Prelude.{ℕ, suc, ◌+◌, List, [], ◌∷◌, ◌++◌, map, cond, not, filter, flat_map, length, codes, decimal, zip}
use Rattle.std.specs.List.{list_any, position_or_len}
use Rattle.exact_plane.specs.Point.{Point}
use Rattle.exact_plane.specs.PointText.{point_text}
use Rattle.plane_graphs.specs.Graph.{Edge, Graph, graph, edges, curves}
use Rattle.slab_laws.specs.Skeleton.{Skeleton, same_point}
use Rattle.slab_laws.specs.declared.slab_cell.SlabCell.{SlabCell}
use Rattle.plane_graphs.specs.Piece.{Present}
use Rattle.slab_laws.specs.Faces.{same_cell}
use Rattle.slab_laws.specs.Rotation.{rotation}
use Rattle.slab_laws.specs.Darts.{Dart, source, target}
use Rattle.slab_laws.specs.Subdivision.{Cycle, Subdivision, subdivision}

-- what of it is written besides the subdivision: the pins, and the words of each edge's curves
pub record Marks : Type 0 where
  pub pins : List Point
  pub words : List (List (List ℕ))

-- a space, then the bytes
unfoldable pub word : List ℕ → List ℕ
word w = 32 ∷ w

-- a space, then the number in decimal
unfoldable pub number : ℕ → List ℕ
number n = word (decimal n)

-- the number of a vertex, from 1, in the order of points (this project)
unfoldable pub index : Skeleton → Point → ℕ
index g p = position_or_len (same_point p) g.vertices + 1

-- the three numbers of a point
unfoldable pub triple : Point → List ℕ
triple p = word (point_text p)

-- a line, with its end
unfoldable pub ended : List ℕ → List ℕ
ended bytes = bytes ++ 10 ∷ []

-- v, its index, its three numbers, its pin, its neighbours clockwise from the least (this project)
unfoldable pub vertex_line : Skeleton → List Dart → List Point → Point → List ℕ
vertex_line g ds pins p =
    ended (codes "v" ++ (number (index g p) ++ (triple p ++ (cond (list_any (same_point p) pins) (codes " pin") [] ++ (codes " :" ++ flat_map (λ d. number (index g (target d))) (rotation ds p))))))

-- e, the indices of its ends, its curves (this project)
unfoldable pub edge_line : Skeleton → Edge × List (List ℕ) → List ℕ
edge_line g both = ended (codes "e" ++ (number (index g both.0.low) ++ (number (index g both.0.high) ++ (codes " :" ++ flat_map word both.1))))

-- a letter, then the source of each dart (this project)
unfoldable pub cycle_line : Skeleton → List ℕ → Cycle → List ℕ
cycle_line g letter c = ended (letter ++ flat_map (λ d. number (index g (source d))) c.darts)

-- f and its rank, then its outer cycles, its inner cycles, its bare vertices (this project)
unfoldable pub face_lines : Subdivision → (SlabCell → List ℕ) → ℕ × SlabCell → List ℕ
face_lines s more both =
    let k : ℕ = both.0 in
    let f : SlabCell = both.1 in
    let here : List Cycle = filter (λ c. same_cell c.face f) s.cycles in
    ended (codes "f" ++ (number k ++ more f)) ++ (flat_map (cycle_line s.graph (codes "o")) (filter (λ c. c.outer) here) ++ (flat_map (cycle_line s.graph (codes "h")) (filter (λ c. not c.outer) here) ++ flat_map (λ b. ended (codes "p" ++ number (index s.graph b.point))) (filter (λ b. same_cell b.face f) s.bare)))

-- each element with its place, from i on
unfoldable pub numbered : {X : Type 0} → ℕ → List X → List (ℕ × X)
numbered i [] = []
numbered i (x ∷ xs) = (i, x) ∷ numbered (suc i) xs

-- by the first word, and what follows a face's number
unfoldable pub text_by : List ℕ → (SlabCell → List ℕ) → Subdivision → Marks → List ℕ
text_by title more s m =
    let g : Skeleton = s.graph in
    ended (title ++ (number (length g.vertices) ++ (number (length g.edges) ++ number (length s.faces)))) ++ (flat_map (vertex_line g s.darts m.pins) g.vertices ++ (flat_map (edge_line g) (zip g.edges m.words) ++ (flat_map (face_lines s more) (numbered 0 s.faces) ++ ended (codes "end"))))

-- the text of a subdivision (this project)
unfoldable pub text : Subdivision → Marks → List ℕ
text s m = text_by (codes "arrangement") (λ f. []) s m

-- what is written of a graph besides
unfoldable pub marks : Graph → Marks
marks g = record { pins = g.pins; words = map (λ e. map decimal (curves g e.low e.high)) (edges g) }

-- the plane graph whose cells and faces are counted
abbrev pub skeleton : Graph → Skeleton
skeleton g = record { vertices = g.points; edges = edges g }

-- the text of a graph, and of a present
unfoldable pub graph_text : Graph → List ℕ
graph_text g = text (subdivision (skeleton g)) (marks g)

unfoldable pub present_text : Present → List ℕ
present_text p = graph_text (graph p)
