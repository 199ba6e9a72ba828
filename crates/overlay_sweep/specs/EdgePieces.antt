-- How many pieces of a layer hold each edge of the whole, by the stretches along it.
use Rattle.std.specs.Prelude.{ℕ, ◌-◌, Bool, ◌&&◌, List, [], ◌∷◌, take, drop}
use Rattle.std.specs.List.{count_by, prefix_len}
use lib.Dec.{leb, ltb}
use Rattle.sweep_graphs.specs.declared.edges.EdgeEnds.{EdgeEnds}
use Rattle.sweep_graphs.specs.declared.trace.Stretch.{Stretch}
use Rattle.overlay_sweep.specs.EdgeCurves.{is_along}

-- the stretch is of one of the `count` pieces from `first` on
abbrev pub is_own : ℕ → ℕ → Stretch → Bool
is_own first count s = leb first s.piece && ltb (s.piece - first) count

-- of each edge how many stretches are, those being taken that stand first and run along it
unfoldable pub own_counts : ℕ → ℕ → List EdgeEnds → List Stretch → List ℕ
own_counts first count [] ss = []
own_counts first count (e ∷ es) ss = count_by (is_own first count) (take (prefix_len (is_along e) ss) ss) ∷ own_counts first count es (drop (prefix_len (is_along e) ss) ss)
