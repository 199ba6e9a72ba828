use Rattle.std.proofs.Common.{◌∙◌, ap, sym, length, List, ℕ, [], replicate}
use Rattle.arr_text.proofs.Joined.{said, as_many_rooms}
use Rattle.record_orders.specs.CycleKeys.{ranked_faces}
use Rattle.arr_text.proofs.FaceNames.{ranked_has}
use Rattle.arr_text.proofs.FaceLines.{face_lines_put}
use Rattle.arr_text.proofs.faces.put_faces.Goals as goal

pub put_cycles-requires : goal.put_cycles-requires
put_cycles-requires g c = record {
  stands = c.requires.stands;
  numbers = c.requires.numbers;
  cycles = c.requires.cycles;
  ranks = c.requires.ranks;
  darts = c.requires.darts;
  bodies = as_many_rooms c.in_ok-bodies.bodies c.len.result _ c.in_ok-bodies.ensures c.len.ensures;
}

pub put_cycles-requires-2 : goal.put_cycles-requires-2
put_cycles-requires-2 g c = record {
  stands = c.requires.stands;
  numbers = c.requires.numbers;
  cycles = c.requires.cycles;
  ranks = c.requires.ranks;
  darts = c.requires.darts;
  bodies = c.in_ok-put_cycles.ensures.as_many ∙ as_many_rooms c.in_ok-bodies.bodies c.len.result _ c.in_ok-bodies.ensures c.len.ensures;
}

pub put_isolated-requires : goal.put_isolated-requires
put_isolated-requires g c = record {
  stands = c.requires.stands;
  numbers = c.requires.numbers;
  vertices = c.requires.vertices;
  ranks = c.requires.ranks ∙ ap (ranked_faces (g.R.Faced.faces c.args.records.now)) c.requires.cycles;
  bodies = c.in_ok-put_cycles-2.ensures.as_many ∙ c.in_ok-put_cycles.ensures.as_many ∙ as_many_rooms c.in_ok-bodies.bodies c.len.result _ c.in_ok-bodies.ensures c.len.ensures;
}

pub put_bodies-requires : goal.put_bodies-requires
put_bodies-requires g c =
    let f = g.R.Faced.faces c.args.records.now in record {
      has = ranked_has (g.R.Darts.graph c.args.records.now) f c.requires.stands c.requires.stands.faced.0 c.requires.stands.faced.1 c.as_slice.result.now
          (c.as_slice.ensures ∙ c.requires.ranks ∙ ap (ranked_faces f) c.requires.cycles);
      faces = ap (λ fs. length fs) c.as_slice.ensures ∙ sym (c.in_ok-put_isolated.ensures.as_many ∙ c.in_ok-put_cycles-2.ensures.as_many ∙ c.in_ok-put_cycles.ensures.as_many ∙ as_many_rooms c.in_ok-bodies.bodies c.len.result _ c.in_ok-bodies.ensures c.len.ensures);
    }

pub returns : goal.returns
returns g c =
    let v = g.R.Darts.graph c.args.records.now in
    let f = g.R.Faced.faces c.args.records.now in
    said c.put_bodies.result c.args.out.now.items c.put_bodies.new.out.items _ _ c.put_bodies.ensures
    (face_lines_put v f c.requires.stands c.args.cycles.now c.args.ranks.now c.args.vertices.now c.requires.cycles c.requires.ranks c.requires.vertices (g.W.Words.labels c.args.records.now) c.as_slice.result.now (c.as_slice.ensures)
    c.in_ok-bodies.bodies c.put_cycles.new.bodies c.put_cycles-2.new.bodies c.put_isolated.new.bodies (c.in_ok-bodies.ensures ∙ ap (λ (n : ℕ). replicate n (let e : List ℕ = [] in e)) c.len.ensures)
    c.in_ok-put_cycles.ensures.as_many c.in_ok-put_cycles-2.ensures.as_many c.in_ok-put_isolated.ensures.as_many c.in_ok-put_cycles.ensures.gain c.in_ok-put_cycles-2.ensures.gain c.in_ok-put_isolated.ensures.gain)
