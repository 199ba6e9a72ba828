-- The curves along an edge, as each of its two darts has them.
use Rattle.std.specs.Prelude.{List, map}
use Rattle.slab_laws.specs.declared.names.CurveId.{CurveId}
use Rattle.slab_laws.specs.declared.names.DartId.{DartId}
use Rattle.slab_laws.specs.View.{curve_id}
use Rattle.arr_notes.specs.CurvedView.{CurvedView}
use Rattle.mirror_observer.specs.Reading.{curves_at_edge}

-- the curves along a dart's edge
abbrev pub curve_list_of : CurvedView → DartId → List CurveId
curve_list_of w d = map curve_id (curves_at_edge w d)
