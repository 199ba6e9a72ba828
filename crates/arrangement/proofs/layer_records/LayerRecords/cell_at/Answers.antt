use Rattle.std.proofs.Common.{◌≡◌, ◌∙◌, refl, subst}
use Rattle.face_location.specs.Spots.{IsSpotOf}
use Rattle.plane_graphs.proofs.Lines.{point_is_proper}
use Rattle.slab_laws.specs.declared.cell.Cell.TheVariants.{Edge as OnEdge}
use Rattle.slab_laws.specs.View.{point_in, source_in, target_in}
use Rattle.arrangement.specs.LayerRecords.{LayerRecordsView}
use Rattle.arrangement.proofs.Located.{at_vertex, on_edge, in_face, face_there}
use Rattle.arrangement.proofs.layer_records.LayerRecords.cell_at.Goals as goal

pub rank_of-requires : goal.rank_of-requires
rank_of-requires c =
    let l : LayerRecordsView = c.args.self.now in
    let spot = subst (IsSpotOf l.graph l.faces c.args.p.now) c.in-Face.is c.requires in
    face_there l.graph l.faces c.laws.ensures.sound c.args.p.now c.in-Face.face spot.face

pub returns-in-Vertex : goal.returns-in-Vertex
returns-in-Vertex c =
    let l : LayerRecordsView = c.args.self.now in
    let spot = subst (IsSpotOf l.graph l.faces c.args.p.now) c.in-Vertex.is c.requires in
    record { cell = at_vertex l.graph l.past c.laws.ensures.layer c.args.p.now c.in-Vertex.field-0 spot.met.0 spot.met.1; same = refl }

pub returns-in-Edge : goal.returns-in-Edge
returns-in-Edge c =
    let l : LayerRecordsView = c.args.self.now in
    let d = c.in-Edge.dart in
    let spot = subst (IsSpotOf l.graph l.faces c.args.p.now) c.in-Edge.is c.requires in
    let on = spot.met in
    let cell = subst (λ (k : LayerRecordsView). c.edge_cell.result ≡ OnEdge (point_in k.graph (source_in k.graph d)) (point_in k.graph (target_in k.graph d))) c.self.view_is c.edge_cell.ensures in
    record { cell = cell ∙ on_edge l.graph l.past c.laws.ensures.layer c.args.p.now d (point_is_proper c.args.p.now c.laws-2.ensures) (on.0, on.1) on.2; same = refl }

pub returns-in-Face-clause-cell : goal.returns-in-Face-clause-cell
returns-in-Face-clause-cell c =
    let l : LayerRecordsView = c.args.self.now in
    let spot = subst (IsSpotOf l.graph l.faces c.args.p.now) c.in-Face.is c.requires in
    in_face l.graph l.past c.laws.ensures.layer l.faces c.laws.ensures.sound c.args.p.now c.in-Face.face c.rank_of.result (point_is_proper c.args.p.now c.laws-2.ensures) spot.met spot.face c.rank_of.ensures.rank
