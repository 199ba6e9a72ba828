-- Both layers of an overlay as one present in memory, each of whose pieces is a curve of its own.
use Rattle.std.specs.Prelude.{ℕ, suc, List, [], ◌∷◌, ◌++◌}
use Rattle.exact_plane.specs.PointOrder.{point_cmp}
use Rattle.plane_graphs.specs.Ascending.{ascending}
use Rattle.plane_graphs.specs.Piece.{Piece, Present}
use Rattle.slab_laws.specs.Overlay.{renamed}

-- the pieces, under the numbers from n on (this project)
abbrev pub numbered_from : ℕ → List Piece → List Piece
numbered_from n [] = []
numbered_from n (k ∷ ks) = renamed (λ c. n) k ∷ numbered_from (suc n) ks

-- the pieces of both layers, each numbered by its place among all, and the pins of both; vertices and edges don't depend on numbers (this project)
unfoldable pub united : Present → Present → Present
united red blue = record { pieces = numbered_from 0 (red.pieces ++ blue.pieces); pins = ascending point_cmp (red.pins ++ blue.pins) }
