-- How the curves of an edge are found by either of its darts, and where the names after one begin.
use Rattle.std.specs.Prelude.{ℕ, List, Option, Some, None}
use Rattle.std.specs.declared.ops.Bound.{Bound}
use Rattle.std.specs.declared.ops.Bound.TheVariants.{Excluded, Unbounded}
use Rattle.slab_laws.specs.declared.names.DartId.{DartId}
use Rattle.slab_laws.specs.Tables.{row_at}
use Rattle.slab_laws.specs.View.{twin_in}
use Rattle.arr_notes.specs.CurvedView.{CurvedView, curves_or}

-- those of the first, and else of the second
abbrev pub curves_found : Option (List ℕ) → Option (List ℕ) → List ℕ
curves_found None o = curves_or o
curves_found (Some ks) o = ks

-- the curves along the edge of a dart, which its forward dart has
abbrev pub curves_at_edge : CurvedView → DartId → List ℕ
curves_at_edge w d = curves_found (row_at w.curves d.0) (row_at w.curves (twin_in w.graph d).0)

-- where the names after one begin; after none, all
abbrev pub start_after : Option ℕ → Bound ℕ
start_after None = Unbounded
start_after (Some n) = Excluded n
