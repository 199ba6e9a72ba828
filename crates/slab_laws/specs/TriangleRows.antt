-- What a triangle keeps of its darts.
use Rattle.std.specs.Prelude.{ℕ, List, [], ◌∷◌}
use Rattle.slab_laws.specs.declared.triangle.DartRecord.{DartRecord}

abbrev pub row : ℕ → ℕ → ℕ → ℕ → DartRecord
row v t n c = record { source = v; twin = t; next = n; cycle = c }

-- the six darts by name: source, twin, next, cycle
abbrev pub triangle_rows : List DartRecord
triangle_rows = row 0 1 2 0 ∷ row 1 0 5 1 ∷ row 1 3 4 0 ∷ row 2 2 1 1 ∷ row 2 5 0 0 ∷ row 0 4 3 1 ∷ []
