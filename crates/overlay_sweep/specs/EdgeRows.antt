-- The rows of darts that go forward along edges, by the places of these and of their ends.
use Rattle.std.specs.Prelude.{ℕ, true, ◌+◌, List, [], ◌∷◌}
use Rattle.slab_laws.specs.declared.rows.ListedDart.{ListedDart}
use Rattle.sweep_graphs.specs.declared.edges.EdgeEnds.{EdgeEnds}

-- the row of the edge at a place
abbrev pub ends_row : ℕ → EdgeEnds → ListedDart
ends_row i e = record { source = e.low; target = e.high; edge = i; forward = true }

-- those of edges that stand from a place on
unfoldable pub ends_rows : ℕ → List EdgeEnds → List ListedDart
ends_rows i [] = []
ends_rows i (e ∷ es) = ends_row i e ∷ ends_rows (i + 1) es
