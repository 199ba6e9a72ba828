-- What an overlay in memory keeps of one layer.
use Rattle.std.specs.Prelude.{ℕ, List, map, Vec}
use Rattle.std.specs.Global.{Global}
use Rattle.slab_laws.specs.declared.names.CurveId.{CurveId}
use Rattle.slab_laws.specs.Layers.{LayerRows}
use Rattle.subdivision_rows.specs.declared.layer_table.LayerTable.TheInside.{Inside}

-- the numbers of the curves in each list
abbrev pub numbers_in : List (Vec CurveId Global) → List (List ℕ)
numbers_in vs = map (λ (v : Vec CurveId Global). map (λ (c : CurveId). c.0) v.items) vs

-- the numbers of curves, and the labels, that the lists hold
abbrev pub table_rows : Inside → LayerRows
table_rows t = record { curves = numbers_in t.curves.items; labels = t.labels.items }
