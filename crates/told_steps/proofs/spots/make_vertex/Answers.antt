use Rattle.std.proofs.Common.{◌≤◌, arith, refl, subst}
use Rattle.curve_history.specs.Past.{curves_on, strands_on}
use Rattle.dcel_records.proofs.Spared.{none_spent}
use Rattle.dcel_records.specs.SoundMaps.{map_of}
use Rattle.dcel_records.specs.Spots.{met_of}
use Rattle.face_location.specs.Spots.{IsSpotOf}
use Rattle.told_steps.specs.VertexMade.{IsPlaneWith, darts_at, pairs_at, vertices_at}
use Rattle.told_steps.proofs.Begun.{none_told}
use Rattle.told_steps.proofs.StrandRuns.{strands_stay}
use Rattle.told_steps.proofs.spots.make_vertex.Goals as goal

pub returns-in-Vertex : goal.returns-in-Vertex
returns-in-Vertex g c =
    let v = c.args.records.now.graph in
    let o = (subst (IsSpotOf v c.args.records.now.faces.tables c.args.p) c.in-Vertex.is c.requires.spot).met in rw c.in-Vertex.is (record {
      told = none_told (map_of c.args.records.now) (curves_on c.args.history.now) _;
      strands = strands_stay v v c.args.history.now c.args.history.now refl (λ d. refl);
      in_step = c.requires.in_step;
      map = c.requires.map;
      vertex = record { has = o.0; at = o.1 };
      made = (refl, refl, λ d. refl);
      layer = record { names = refl; pieces = refl; next = refl };
      spare = record { of_vertices = omega arith; of_darts = omega arith; capacity_of_vertices = refl; capacity_of_darts = refl };
      spare_faces = none_spent c.args.records.now.faces;
      spare_history = record { of_names = omega arith; of_pieces = omega arith; of_pairs = omega arith };
    })

pub split_edge-requires : goal.split_edge-requires
split_edge-requires g c =
    let o = (subst (IsSpotOf c.args.records.now.graph c.args.records.now.faces.tables c.args.p) c.in-Edge.is c.requires.spot).met in record {
      in_step = c.requires.in_step;
      map = c.requires.map;
      fits = record { dart = o.0; forward = o.1; inside_edge = o.2 };
      vertices = subst (λ z. vertices_at (met_of z) ≤ c.args.records.now.spare_vertices) c.in-Edge.is c.requires.vertices;
      darts = subst (λ z. darts_at (met_of z) ≤ c.args.records.now.spare_darts) c.in-Edge.is c.requires.darts;
      pairs = subst (λ z. pairs_at (strands_on c.args.history.now) (met_of z) ≤ c.args.history.now.spare_pairs) c.in-Edge.is c.requires.pairs;
    }

pub returns-in-Edge : goal.returns-in-Edge
returns-in-Edge g c = let e = c.split_edge.ensures in rw c.in-Edge.is (record { told = e.told; strands = e.strands; in_step = e.in_step; map = e.map; vertex = e.vertex; made = e.graph; layer = e.layer; spare = e.spare; spare_faces = e.spare_faces; spare_history = e.spare_history })

pub add_vertex-requires : goal.add_vertex-requires
add_vertex-requires g c =
    let o = subst (IsSpotOf c.args.records.now.graph c.args.records.now.faces.tables c.args.p) c.in-Face.is c.requires.spot in record {
      in_step = c.requires.in_step;
      map = c.requires.map;
      free = o.met.no_vertex;
      plane = subst (λ z. IsPlaneWith c.args.records.now.graph (curves_on c.args.history.now) c.args.p (met_of z)) c.in-Face.is c.requires.plane;
      face = o.face;
      room = subst (λ z. vertices_at (met_of z) ≤ c.args.records.now.spare_vertices) c.in-Face.is c.requires.vertices;
    }

pub returns-in-Face : goal.returns-in-Face
returns-in-Face g c =
    let e = c.add_vertex.ensures in rw c.in-Face.is (record {
      told = e.told;
      strands = e.strands;
      in_step = e.in_step;
      map = e.map;
      vertex = e.vertex;
      made = (e.fresh, e.graph, λ d. refl);
      layer = record { names = refl; pieces = refl; next = refl };
      spare = e.spare;
      spare_faces = e.spare_faces;
      spare_history = record { of_names = omega arith; of_pieces = omega arith; of_pairs = omega arith };
    })
