use Rattle.std.proofs.Common.{◌<◌, ◌++◌, ap, ◌∙◌, length, List, ℕ, get_or, [], arith}
use Rattle.std.proofs.lemmas.List.{drop_all}
use Rattle.slab_laws.specs.View.{face_id}
use Rattle.arr_text.specs.Parts.{face_line, labels_at}
use Rattle.arr_text.proofs.FaceBodies.{next_body, no_body}
use Rattle.arr_text.proofs.faces.put_bodies.Goals as goal
use Rattle.plane_graphs.proofs.Lists.{then_appended}

pub put_rank-requires : goal.put_rank-requires
put_rank-requires g c = c.requires.has c.loop-rank.rank (face_id 0) (omega (arith, c.requires.faces))

pub loop-rank-preserved : goal.loop-rank-preserved
loop-rank-preserved g c =
    let i = c.loop-rank.rank in
    let bs = c.args.bodies.now in
    let write = λ (b : ℕ × List ℕ). face_line b.0 (labels_at (g.W.Words.labels c.args.records.now) c.args.faces.now b.0) ++ b.1 in
    let head : List ℕ = face_line i (labels_at (g.W.Words.labels c.args.records.now) c.args.faces.now i) in
    let below : i < length bs = omega (arith, c.loop-rank-test.true, c.len-rank-end.ensures) in
    next_body write c.args.out.now.items c.loop-rank.out.items c.extend_from_slice.new.self.items bs i below c.loop-rank.invariant
    (then_appended c.loop-rank.out.items c.put_rank.new.out.items c.extend_from_slice.new.self.items head (get_or bs i []) c.in_ok-put_rank.ensures
    (c.in_ok-extend_from_slice.ensures.items ∙ ap (λ (t : List ℕ). c.put_rank.new.out.items ++ t) c.text.ensures))

pub returns : goal.returns
returns g c =
    let write = λ (b : ℕ × List ℕ). face_line b.0 (labels_at (g.W.Words.labels c.args.records.now) c.args.faces.now b.0) ++ b.1 in
    no_body write c.args.out.now.items c.loop-rank.out.items c.args.bodies.now c.loop-rank.rank (drop_all c.loop-rank.rank c.args.bodies.now (omega (arith, c.loop-rank-test.false, c.len-rank-end.ensures))) c.loop-rank.invariant
