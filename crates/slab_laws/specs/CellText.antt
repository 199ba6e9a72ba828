-- What holds a point, in words.
use Rattle.std.specs.Prelude.{ℕ, List, ◌++◌, codes}
use Rattle.std.specs.Fmt.{decimal}
use Rattle.exact_plane.specs.PointText.{point_text}
use Rattle.slab_laws.specs.declared.cell.Cell.{Cell}
use Rattle.slab_laws.specs.declared.cell.Cell.TheVariants.{Vertex, Edge, Face}

-- a word, then the vertex, the two ends of the edge, or the face's number
abbrev pub cell_text : Cell → List ℕ
cell_text (Vertex p) = codes "vertex " ++ point_text p
cell_text (Edge p q) = codes "edge " ++ (point_text p ++ (codes " " ++ point_text q))
cell_text (Face k) = codes "face " ++ decimal k
