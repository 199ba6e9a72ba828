-- The curves along a dart's edge.
use Rattle.std.specs.Prelude.{ℕ, List, map, filter, ◌&&◌}
use Rattle.exact_plane.specs.Point.{Point}
use Rattle.plane_graphs.specs.Graph.{Edge, curves}
use Rattle.slab_laws.specs.declared.names.CurveId.{CurveId}
use Rattle.slab_laws.specs.declared.names.DartId.{DartId}
use Rattle.slab_laws.specs.Rows.{dart_at}
use Rattle.slab_laws.specs.Skeleton.{same_point}
use Rattle.slab_laws.specs.View.{curve_id}
use Rattle.present_graphs.specs.declared.marks.Mark.{Mark as MarkInMemory}
use Rattle.subdivision_rows.specs.Listed.{Drawing, skeleton_in}

-- the edge of the dart at a place
abbrev pub edge_at : Drawing → ℕ → Edge
edge_at d k = (dart_at (skeleton_in d) k).edge

-- the curves of its edge, ascending (CGAL manual, originating curves)
abbrev pub curves_at : Drawing → DartId → List CurveId
curves_at d h = map curve_id (curves d.graph (edge_at d h.0).low (edge_at d h.0).high)

-- the curves of the marks from one point to the other, in their order
abbrev pub curves_along : List MarkInMemory → Point → Point → List CurveId
curves_along ms low high = map (λ (m : MarkInMemory). m.curve) (filter (λ (m : MarkInMemory). same_point m.low low && same_point m.high high) ms)
