-- The text of an envelope.
use Rattle.std.specs.Prelude.{ℕ, List, [], ◌∷◌, ◌++◌, map, filter, flat_map, ◌||◌, length, codes, Option, Some, None}
use Rattle.std.specs.Ordering.{nat_cmp}
use Rattle.exact_plane.specs.Point.{Point}
use Rattle.plane_graphs.specs.Ascending.{ascending}
use Rattle.plane_graphs.specs.Graph.{Edge, Graph, graph, curves}
use Rattle.plane_graphs.specs.Piece.{Present}
use Rattle.slab_laws.specs.Skeleton.{same_point}
use Rattle.slab_laws.specs.Text.{number, triple, ended, skeleton}
use Rattle.envelope_laws.specs.declared.which.Which.{Which}
use Rattle.envelope_laws.specs.Envelopes.{Outline, outline}

-- the curves of all edges that end at a point, ascending, each once (CGAL manual, originating curves)
unfoldable pub curves_at : Graph → Point → List ℕ
curves_at g p = ascending nat_cmp (map (λ m. m.curve) (filter (λ m. same_point m.low p || same_point m.high p) g.marks))

-- v, the vertex's three numbers, the curves there (this project)
unfoldable pub corner_line : Graph → Point → List ℕ
corner_line g p = ended (codes "v" ++ (triple p ++ (codes " :" ++ flat_map number (curves_at g p))))

-- e, its ends, its curves; or a gap (this project)
unfoldable pub stretch_line : Graph → Option Edge → List ℕ
stretch_line g None = ended (codes "gap")
stretch_line g (Some e) = ended (codes "e" ++ (triple e.low ++ (triple e.high ++ (codes " :" ++ flat_map number (curves g e.low e.high)))))

-- vertices and what is between them, in turn (this project)
unfoldable pub outline_lines : Graph → List Point → List (Option Edge) → List ℕ
outline_lines g [] os = []
outline_lines g (v ∷ vs) [] = corner_line g v ++ outline_lines g vs []
outline_lines g (v ∷ vs) (o ∷ os) = corner_line g v ++ (stretch_line g o ++ outline_lines g vs os)

-- the text of an envelope of a graph: how many vertices it has, these with what is between them, the end (this project)
unfoldable pub outline_text : Which → Graph → List ℕ
outline_text w g =
    let o : Outline = outline w (skeleton g) in
    ended (codes "envelope" ++ number (length o.vertices)) ++ (outline_lines g o.vertices o.between ++ ended (codes "end"))

-- that of a present
unfoldable pub envelope_text : Which → Present → List ℕ
envelope_text w p = outline_text w (graph p)
