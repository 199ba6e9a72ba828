-- What the plan of a path's insertion gives to each of its parts.
use Rattle.std.proofs.Common.{◌≡◌, ℕ, List, map, arith}
use Rattle.exact_plane.specs.Path.{ArePathSides}
use Rattle.exact_plane.specs.Point.{Point}
use Rattle.exact_plane.specs.Segment.{Segment, AreEnds}
use Rattle.plane_graphs.specs.Ascending.{Member}
use Rattle.plane_graphs.specs.Fit.{IsFit}
use Rattle.plane_graphs.specs.Graph.{Mark}
use Rattle.edit_steps.specs.Edits.{Insert, after, path_pieces, AreSides}
use Rattle.edit_steps.specs.Steps.{with_pieces}
use Rattle.edit_steps.proofs.Laws.{keeps_fit}
use Rattle.edit_steps.proofs.Layers.{layers_lawful}
use Rattle.arr_notes.specs.MapView.{MapView}
use Rattle.curve_history.specs.Past.{Past, curves_on}
use Rattle.told_steps.specs.RecordLayers.{IsLayer, layer_of}
use Rattle.path_zone.specs.PathZone.{IsPathZone}
use Rattle.path_zone.specs.Plan.{PathPlan}
use Rattle.side_parts.specs.declared.part.Part.{Part}
use Rattle.side_parts.specs.SideParts.{edge_marks, strand_mark}
use Rattle.zone_walk.specs.Zone.{points_of_meetings}
use Rattle.segment_insert.specs.Insertion.{AreMeetings}
use Rattle.segment_insert.specs.Paths.{AreAllParts}
use Rattle.segment_insert.proofs.CurvePlanned.{IsCurve}
use Rattle.segment_insert.proofs.PathTold.{path_told}
use Rattle.segment_insert.proofs.Planned.{is_side}

-- the marks of the parts over points, the sides told apart
abbrev pub side_marks : ℕ → List Part → List Point → List Mark
side_marks c ts ps = map (strand_mark ps c) ts

-- and not
abbrev pub part_marks : ℕ → List Part → List Point → List Mark
part_marks c ts ps = edge_marks ps c ts

pub are_sides : (ss : List Segment) → ArePathSides ss → ((s : Segment) → Member s ss → AreEnds s) → AreSides ss
are_sides ss a ends =
    let some = a.some in
    let few = a.few in
    record { each = λ s m. is_side s (ends s m); some = some; few = omega (arith, few) }

-- records and history that are a layer, and the plan of a path that gets the next number
pub record IsPathPlanned (v : MapView) (past : Past) (ss : List Segment) (plan : PathPlan) (ts : List Part) (c : ℕ) : Type 0 where
  pub layer : IsLayer v.graph past
  pub sides : AreSides ss
  pub zone : IsPathZone v.graph v.faces ss plan
  pub parts : AreAllParts (points_of_meetings plan.vertices) ss ts
  pub number : c ≡ past.next

module _ {v : MapView} {past : Past} {ss : List Segment} {plan : PathPlan} {ts : List Part} {c : ℕ} (planned : IsPathPlanned v past ss plan ts c) where
  fit : IsFit (with_pieces (layer_of v.graph past).present (path_pieces c ss))
  unfolding after
  fit =
      let l = layer_of v.graph past in
      keeps_fit (Insert c ss) l.present planned.layer.lawful.fit (layers_lawful.accepted (Insert c ss) l planned.layer.lawful (planned.number, planned.sides))

  pub path_curve : IsCurve v past ss c plan.vertices (part_marks c ts) (side_marks c ts)
  path_curve = record {
    layer = planned.layer;
    sides = planned.sides;
    number = planned.number;
    told = path_told v.graph (curves_on past) planned.layer.sound planned.layer.curves (layer_of v.graph past).present c ss v.faces plan planned.layer.stands fit planned.zone _ _ (planned.parts.edges c) (planned.parts.strands c);
  }

  pub path_meetings : AreMeetings v.graph v.faces plan.vertices
  path_meetings = record { ascend = planned.zone.ascend; spots = planned.zone.spots }
