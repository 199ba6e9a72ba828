use Rattle.plane_graphs.proofs.Lines.{point_is_proper}
use Rattle.dcel_records.specs.Spots.{IsInFace}
use Rattle.face_location.proofs.SeenDarts.{there}
use Rattle.locate_naive.proofs.naive.locate.Goals as goal

pub edge_at_or_below-requires : goal.edge_at_or_below-requires
edge_at_or_below-requires c = c.requires.sound.graph

pub face_over-requires : goal.face_over-requires
face_over-requires c = record { map = c.requires; dart = there c.args.records.now.graph c.args.point.now c.in-Below.highest c.in-Below.ensures.highest.seen }

pub returns-in-Some : goal.returns-in-Some
returns-in-Some c = record { met = c.in-Some.ensures; face = tt }

pub returns-in-Through : goal.returns-in-Through
returns-in-Through c = record { met = c.in-Through.ensures; face = tt }

pub returns-in-Below : goal.returns-in-Below
returns-in-Below c =
    let spot : IsInFace c.args.records.now.graph c.args.point.now = record { no_vertex = c.in_default.ensures; no_edge = c.in-Below.ensures.off } in record {
      met = spot;
      face = c.face_over.ensures.face c.args.point.now (point_is_proper c.args.point.now c.laws.ensures) spot c.in-Below.ensures.highest;
    }
