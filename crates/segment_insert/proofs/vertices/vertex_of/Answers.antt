use Rattle.std.proofs.Common.{[], ◌∷◌, arith, inl, refl}
use Rattle.plane_graphs.specs.Line.{IsProper}
use Rattle.dcel_records.specs.SoundMaps.{map_of}
use Rattle.curve_history.specs.Past.{strands_on}
use Rattle.dcel_records.specs.Spots.{met_of}
use Rattle.told_steps.proofs.SidedRuns.{sided}
use Rattle.segment_insert.proofs.VerticesLoop.{proper_by_met}
use Rattle.segment_insert.proofs.VerticesMade.{darts_there, lies_now, made_there, pairs_now, plane_there, vertices_there}
use Rattle.segment_insert.proofs.vertices.vertex_of.Given as given
use Rattle.segment_insert.proofs.vertices.vertex_of.Goals.{Start}
use Rattle.segment_insert.proofs.vertices.vertex_of.Goals as goal

proper : (g : given.Over) (c : Start g) → IsProper c.args.meeting.point
proper g c = let m = c.args.meeting in proper_by_met c.args.records.now.graph c.args.history.now (m.point ∷ []) m.point (met_of m.spot) c.requires.in_step.sound.graph c.requires.plane (inl refl) c.requires.met

pub make_vertex-requires : goal.make_vertex-requires
make_vertex-requires g c =
    let v = c.args.records.now.graph in
    let p = c.args.history.now in
    let m = c.args.meeting in
    let i = c.requires.in_step in
    let at = met_of c.args.at in
    let k = c.requires.now in
    let o = lies_now v m.point (met_of m.spot) at k in record {
      in_step = i;
      map = c.requires.map;
      spot = record { met = o; face = c.requires.face };
      plane = plane_there (map_of c.args.records.now) p i.sound.graph i.curves m c.requires.plane at o;
      vertices = omega (arith, vertices_there v m at k, c.requires.vertices);
      darts = omega (arith, darts_there v m at k, c.requires.darts);
      pairs = omega (arith, pairs_now v (strands_on p) m.point (met_of m.spot) at i.sound.graph (proper g (goal.at.make_vertex-requires g c).Start) c.requires.met k, c.requires.pairs);
    }

pub returns : goal.returns
returns g c =
    let v = c.args.records.now.graph in
    let p = c.args.history.now in
    let m = c.args.meeting in
    let i = c.requires.in_step in
    let at = met_of c.args.at in
    let k = c.requires.now in
    let e = c.make_vertex.ensures in record {
      told = made_there (map_of c.args.records.now) p i.sound.graph i.curves m (map_of c.make_vertex.new.records) c.make_vertex.new.history i.sound at (lies_now v m.point (met_of m.spot) at k) (proper g (goal.at.returns g c).Start) c.make_vertex.result (sided e.told e.strands) e.vertex;
      in_step = e.in_step;
      map = e.map;
      layer = e.layer;
      vertices = omega (arith, vertices_there v m at k, e.spare.of_vertices);
      darts = omega (arith, darts_there v m at k, e.spare.of_darts);
      spare_faces = e.spare_faces;
      pairs = omega (arith, pairs_now v (strands_on p) m.point (met_of m.spot) at i.sound.graph (proper g (goal.at.returns g c).Start) c.requires.met k, e.spare_history.of_pairs);
    }
