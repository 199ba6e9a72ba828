-- The curves of a layer along each edge of the whole, by the stretches along it.
use Rattle.std.specs.Prelude.{ℕ, ◌-◌, Bool, cond, ◌&&◌, List, [], ◌∷◌, map, take, drop, Option, None}
use Rattle.std.specs.List.{filter_map, prefix_len, slice_get}
use Rattle.std.specs.Option.{option_map}
use Rattle.std.specs.Ordering.{nat_cmp}
use lib.Dec.{leb, eqb}
use Rattle.plane_graphs.specs.Ascending.{ascending}
use Rattle.slab_laws.specs.declared.names.CurveId.{CurveId}
use Rattle.slab_laws.specs.declared.present.Piece.{Piece}
use Rattle.sweep_graphs.specs.declared.edges.EdgeEnds.{EdgeEnds}
use Rattle.sweep_graphs.specs.declared.trace.Stretch.{Stretch}

-- the stretch runs along the edge
abbrev pub is_along : EdgeEnds → Stretch → Bool
is_along e s = eqb s.low e.low && eqb s.high e.high

-- the curve of the stretch's piece, where it is one of the layer's, which stand among all from `first` on
abbrev pub own_curve : List Piece → ℕ → Stretch → Option CurveId
own_curve ks first s = cond (leb first s.piece) (option_map (λ (k : Piece). k.curve) (slice_get ks (s.piece - first))) None

-- the numbers of these curves, ascending (CGAL manual, originating curves)
abbrev pub own_numbers : List Piece → ℕ → List Stretch → List ℕ
own_numbers ks first ss = ascending nat_cmp (map (λ (c : CurveId). c.0) (filter_map (own_curve ks first) ss))

-- of each edge the numbers of the curves, those stretches being taken that stand first and run along it
unfoldable pub own_rows : List Piece → ℕ → List EdgeEnds → List Stretch → List (List ℕ)
own_rows ks first [] ss = []
own_rows ks first (e ∷ es) ss = own_numbers ks first (take (prefix_len (is_along e) ss) ss) ∷ own_rows ks first es (drop (prefix_len (is_along e) ss) ss)
