use Rattle.std.proofs.Common.{sym, subst, List}
use Rattle.plane_graphs.proofs.Lines.{point_is_proper}
use Rattle.dcel_records.specs.RecordsView.{tables_of}
use Rattle.dcel_records.specs.declared.spot.Spot.{Spot}
use Rattle.dcel_records.specs.declared.spot.Spot.TheVariants.{Face}
use Rattle.face_location.specs.Spots.{IsSpotOf}
use Rattle.locate_trapezoid.specs.declared.node.Node.{Node}
use Rattle.locate_trapezoid.specs.Arrivals.{IsMeeting}
use Rattle.locate_trapezoid.specs.Nodes.{arena, IsDepth, IsLeaf}
use Rattle.locate_trapezoid.specs.Ways.{ComesBy}
use Rattle.locate_trapezoid.proofs.Found.{met_spot, below_seen, over_spot}
use Rattle.locate_trapezoid.proofs.trapezoids.locate_in.Goals as goal

pub face_over-requires-clause-below : goal.face_over-requires-clause-below
face_over-requires-clause-below g c =
    let v = c.args.glance.now.graph in
    let q = c.args.point.now in
    let a = c.in-Open.ensures.arrival in (
      q,
      below_seen v (tables_of c.args.glance.now) c.requires.map.sound c.args.graph.now c.requires.graph q (point_is_proper q c.laws.ensures) c.in-Open.field-0 c.in-Open.below
          (subst (λ (l : List Node). IsLeaf (arena l) c.in-Open.field-0) c.nodes.ensures a.0) (subst (λ (l : List Node). ComesBy v (arena l) q c.in-Open.field-0.slot c.in-Open.below) c.nodes.ensures a.1),
    )

pub returns-in-Met-clause-spot : goal.returns-in-Met-clause-spot
returns-in-Met-clause-spot g c =
    let v = c.args.glance.now.graph in
    let f = tables_of c.args.glance.now in
    let q = c.args.point.now in
    subst (λ (s : Spot). IsSpotOf v f q s) (sym c.spot_of.ensures)
    (met_spot v f c.requires.map.sound c.args.graph.now c.requires.graph q (point_is_proper q c.laws.ensures) c.in-Met.test (subst (λ (l : List Node). IsMeeting v (arena l) q c.in-Met.test) c.nodes.ensures c.in-Met.ensures.arrival))

pub returns-in-Met-clause-looks : goal.returns-in-Met-clause-looks
returns-in-Met-clause-looks g c = c.in-Met.ensures.looks c.args.graph.now.depth (subst (λ (l : List Node). IsDepth (arena l) c.args.graph.now.depth) (sym c.nodes.ensures) c.requires.graph.made.depth)

pub returns-in-Open-clause-spot : goal.returns-in-Open-clause-spot
returns-in-Open-clause-spot g c =
    let v = c.args.glance.now.graph in
    let f = tables_of c.args.glance.now in
    let q = c.args.point.now in
    let a = c.in-Open.ensures.arrival in
    subst (λ x. IsSpotOf v f q (Face x)) (sym c.face_over.ensures.face)
    (over_spot v f c.requires.map.sound c.args.graph.now c.requires.graph q (point_is_proper q c.laws.ensures) c.in-Open.field-0 c.in-Open.below
    (subst (λ (l : List Node). IsLeaf (arena l) c.in-Open.field-0) c.nodes.ensures a.0) (subst (λ (l : List Node). ComesBy v (arena l) q c.in-Open.field-0.slot c.in-Open.below) c.nodes.ensures a.1))

pub returns-in-Open-clause-looks : goal.returns-in-Open-clause-looks
returns-in-Open-clause-looks g c = c.in-Open.ensures.looks c.args.graph.now.depth (subst (λ (l : List Node). IsDepth (arena l) c.args.graph.now.depth) (sym c.nodes.ensures) c.requires.graph.made.depth)
