use Rattle.std.proofs.Common.{arith, ◌≡◌, ◌<◌, ◌≤◌, ◌+◌, ◌*◌, ℕ, List, [], ◌∷◌, length, drop, refl, sym, ap, ◌∙◌}
use Rattle.std.proofs.lemmas.List.{get_or_default}
use Rattle.dcel_records.specs.SoundMaps.{map_of}
use Rattle.dcel_records.specs.Spots.{met_of}
use Rattle.dcel_records.proofs.Spared.{none_spent, spare_then}
use Rattle.curve_history.specs.Past.{Past, strands_on}
use Rattle.told_steps.specs.VertexMade.{pairs_at}
use Rattle.zone_walk.specs.Zone.{vertices_needed, splits_needed}
use Rattle.zone_walk.specs.declared.plan.Meeting.{Meeting}
use Rattle.segment_insert.specs.Insertion.{pairs_to_part}
use Rattle.segment_insert.proofs.VerticesLoop.{told_at, vertices_first, darts_first, next_first, at_start, same_length, proper_now, spot_now, face_now, sound_now, onwards, same_pairs_left, all_told, all_named}
use Rattle.segment_insert.proofs.vertices.make_vertices.Goals as goal

-- room that one step takes from what is left
room_left : (start before after all one rest left : ℕ) → left ≡ one + rest → start + left ≤ before + all → before ≤ after + one → start + rest ≤ after + all
room_left start before after all one rest left e f g = omega arith

pub loop-i-init : goal.loop-i-init
loop-i-init g c = record {
  midway = at_start (map_of c.args.records.now) c.args.history.now c.args.meetings.now.items c.requires.in_step c.requires.meetings c.requires.plane;
  map = c.requires.map;
  layer = record { names = refl; pieces = refl; next = refl };
  vertices = omega arith;
  darts = omega arith;
  faces = none_spent c.args.records.now.faces;
  pairs = omega arith;
}

pub spot_now-at-requires-clause-proper : goal.spot_now-at-requires-clause-proper
spot_now-at-requires-clause-proper g c =
    let now = c.loop-i.invariant in
    let m : Meeting = c.index.result.now in
    let l : c.loop-i.i < length c.loop-i.meetings.items = omega (arith, c.loop-i-test.true, c.len-i-end.ensures, same_length now.midway) in
    proper_now now.midway m l c.index.ensures

pub spot_now-at-requires-clause-sound : goal.spot_now-at-requires-clause-sound
spot_now-at-requires-clause-sound g c =
    let now = c.loop-i.invariant in
    now.midway.coming.sound

pub spot_now-at-requires-clause-met : goal.spot_now-at-requires-clause-met
spot_now-at-requires-clause-met g c =
    let now = c.loop-i.invariant in
    let m : Meeting = c.index.result.now in
    let l : c.loop-i.i < length c.loop-i.meetings.items = omega (arith, c.loop-i-test.true, c.len-i-end.ensures, same_length now.midway) in
    (strands_on c.loop-i.history, spot_now now.midway m l c.index.ensures)

pub spot_now-at-requires-clause-face : goal.spot_now-at-requires-clause-face
spot_now-at-requires-clause-face g c =
    let now = c.loop-i.invariant in
    let m : Meeting = c.index.result.now in
    let l : c.loop-i.i < length c.loop-i.meetings.items = omega (arith, c.loop-i-test.true, c.len-i-end.ensures, same_length now.midway) in
    face_now now.midway m l c.index.ensures

pub vertex_of-vertex-requires-clause-in_step : goal.vertex_of-vertex-requires-clause-in_step
vertex_of-vertex-requires-clause-in_step g c =
    let now = c.loop-i.invariant in
    now.midway.in_step

pub vertex_of-vertex-requires-clause-map : goal.vertex_of-vertex-requires-clause-map
vertex_of-vertex-requires-clause-map g c =
    let now = c.loop-i.invariant in
    now.map

pub vertex_of-vertex-requires-clause-met : goal.vertex_of-vertex-requires-clause-met
vertex_of-vertex-requires-clause-met g c =
    let now = c.loop-i.invariant in
    let m : Meeting = c.index.result.now in
    let l : c.loop-i.i < length c.loop-i.meetings.items = omega (arith, c.loop-i-test.true, c.len-i-end.ensures, same_length now.midway) in
    spot_now now.midway m l c.index.ensures

pub vertex_of-vertex-requires-clause-plane : goal.vertex_of-vertex-requires-clause-plane
vertex_of-vertex-requires-clause-plane g c =
    let now = c.loop-i.invariant in
    let m : Meeting = c.index.result.now in
    let l : c.loop-i.i < length c.loop-i.meetings.items = omega (arith, c.loop-i-test.true, c.len-i-end.ensures, same_length now.midway) in
    sound_now now.midway m l c.index.ensures

-- what the next meeting needs is there
pub vertex_of-vertex-requires-clause-vertices : goal.vertex_of-vertex-requires-clause-vertices
vertex_of-vertex-requires-clause-vertices g c =
    let now = c.loop-i.invariant in
    let m : Meeting = c.index.result.now in
    let l : c.loop-i.i < length c.loop-i.meetings.items = omega (arith, c.loop-i-test.true, c.len-i-end.ensures, same_length now.midway) in
    let first : drop c.loop-i.i c.args.meetings.now.items ≡ m ∷ drop (c.loop-i.i + 1) c.args.meetings.now.items = next_first now.midway m l c.index.ensures in
    omega (arith, ap vertices_needed first ∙ vertices_first m (drop (c.loop-i.i + 1) c.args.meetings.now.items), now.vertices, c.requires.vertices)

pub vertex_of-vertex-requires-clause-darts : goal.vertex_of-vertex-requires-clause-darts
vertex_of-vertex-requires-clause-darts g c =
    let now = c.loop-i.invariant in
    let m : Meeting = c.index.result.now in
    let l : c.loop-i.i < length c.loop-i.meetings.items = omega (arith, c.loop-i-test.true, c.len-i-end.ensures, same_length now.midway) in
    let first : drop c.loop-i.i c.args.meetings.now.items ≡ m ∷ drop (c.loop-i.i + 1) c.args.meetings.now.items = next_first now.midway m l c.index.ensures in
    omega (arith, ap (λ (xs : List Meeting). 2 * splits_needed xs) first ∙ darts_first m (drop (c.loop-i.i + 1) c.args.meetings.now.items), now.darts, c.requires.darts)

pub vertex_of-vertex-requires-clause-pairs : goal.vertex_of-vertex-requires-clause-pairs
vertex_of-vertex-requires-clause-pairs g c =
    let now = c.loop-i.invariant in
    let m : Meeting = c.index.result.now in
    let l : c.loop-i.i < length c.loop-i.meetings.items = omega (arith, c.loop-i-test.true, c.len-i-end.ensures, same_length now.midway) in
    let first : drop c.loop-i.i c.args.meetings.now.items ≡ m ∷ drop (c.loop-i.i + 1) c.args.meetings.now.items = next_first now.midway m l c.index.ensures in
    omega (arith, ap (pairs_to_part (strands_on c.loop-i.history)) first, now.pairs, c.requires.pairs)

pub loop-i-preserved : goal.loop-i-preserved
loop-i-preserved g c =
    let now = c.loop-i.invariant in
    let m : Meeting = c.index.result.now in
    let l : c.loop-i.i < length c.loop-i.meetings.items = omega (arith, c.loop-i-test.true, c.len-i-end.ensures, same_length now.midway) in
    let first : drop c.loop-i.i c.args.meetings.now.items ≡ m ∷ drop (c.loop-i.i + 1) c.args.meetings.now.items = next_first now.midway m l c.index.ensures in
    let rest : List Meeting = drop (c.loop-i.i + 1) c.args.meetings.now.items in
    let same : c.index_mut.result.now ≡ c.index.result.now = c.index_mut.ensures.value ∙ get_or_default c.loop-i.meetings.items c.loop-i.i c.index_mut.result.now m l ∙ sym c.index.ensures in
    let e = c.vertex_of-vertex.ensures in
    let k : Past = c.loop-i.history in
    let q : Past = c.vertex_of-vertex.new.history in
    let x = c.vertex_of-vertex.result in
    record {
      midway = onwards now.midway m l c.index.ensures (map_of c.vertex_of-vertex.new.records) q x e.told (told_at c.index_mut.result.now x) (ap (λ (o : Meeting). told_at o x) same) e.in_step;
      map = e.map;
      layer = record { names = e.layer.names ∙ now.layer.names; pieces = e.layer.pieces ∙ now.layer.pieces; next = e.layer.next ∙ now.layer.next };
      vertices = room_left c.args.records.now.spare_vertices c.loop-i.records.spare_vertices c.vertex_of-vertex.new.records.spare_vertices _ (vertices_needed (m ∷ [])) (vertices_needed rest) (vertices_needed (drop c.loop-i.i c.args.meetings.now.items))
          (ap vertices_needed first ∙ vertices_first m rest) now.vertices e.vertices;
      darts = room_left c.args.records.now.spare_darts c.loop-i.records.spare_darts c.vertex_of-vertex.new.records.spare_darts _ (2 * splits_needed (m ∷ [])) (2 * splits_needed rest) (2 * splits_needed (drop c.loop-i.i c.args.meetings.now.items))
          (ap (λ (xs : List Meeting). 2 * splits_needed xs) first ∙ darts_first m rest) now.darts e.darts;
      faces = spare_then now.faces e.spare_faces;
      pairs = room_left c.args.history.now.spare_pairs k.spare_pairs q.spare_pairs _ (pairs_at (strands_on k) (met_of m.spot)) (pairs_to_part (strands_on q) rest) (pairs_to_part (strands_on k) (drop c.loop-i.i c.args.meetings.now.items))
          (ap (pairs_to_part (strands_on k)) first ∙ ap (λ (n : ℕ). pairs_at (strands_on k) (met_of m.spot) + n) (sym (same_pairs_left now.midway m l c.index.ensures (map_of c.vertex_of-vertex.new.records) q x e.told))) now.pairs e.pairs;
    }

pub returns-clause-told : goal.returns-clause-told
returns-clause-told g c =
    let now = c.loop-i.invariant in
    let done : length c.loop-i.meetings.items ≤ c.loop-i.i = omega (arith, c.loop-i-test.false, c.len-i-end.ensures, same_length now.midway) in
    all_told now.midway done

pub returns-clause-named : goal.returns-clause-named
returns-clause-named g c =
    let now = c.loop-i.invariant in
    let done : length c.loop-i.meetings.items ≤ c.loop-i.i = omega (arith, c.loop-i-test.false, c.len-i-end.ensures, same_length now.midway) in
    all_named now.midway done c.requires.meetings.ascend

pub returns-clause-in_step : goal.returns-clause-in_step
returns-clause-in_step g c = c.loop-i.invariant.midway.in_step

pub returns-clause-map : goal.returns-clause-map
returns-clause-map g c = c.loop-i.invariant.map

pub returns-clause-spare_faces : goal.returns-clause-spare_faces
returns-clause-spare_faces g c = c.loop-i.invariant.faces
