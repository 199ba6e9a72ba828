use Rattle.std.proofs.Common.{◌≡◌, ◌+◌, ◌∙◌, ◌++◌, Bool, true, false, not, sym, ap, subst, drop, is_some}
use Rattle.std.specs.Prelude.{codes}
use Rattle.std.specs.List.{position_or_len}
use Rattle.slab_laws.specs.declared.names.FaceId.{FaceId}
use Rattle.slab_laws.specs.Sound.{skeleton_of}
use Rattle.slab_laws.specs.Subdivision.{has_dart}
use Rattle.slab_laws.specs.Text.{ended, number, index}
use Rattle.slab_laws.specs.View.{bare_face_in}
use Rattle.record_orders.specs.declared.vertices.VertexKey.{VertexKey}
use Rattle.record_orders.specs.CycleKeys.{same_face}
use Rattle.arr_text.proofs.VertexNumbers.{number_within, written_number}
use Rattle.arr_text.proofs.FaceBodies.{IsGaining, passed, gained}
use Rattle.arr_text.proofs.FaceNames.{bare_place, bare_has, vertex_here, vertex_bare}
use Rattle.arr_text.proofs.faces.put_isolated.Goals.{then-is_none+in_ok-make_isolated_line+in_ok-append, else-is_none}
use Rattle.arr_text.proofs.faces.put_isolated.Goals as goal

-- no dart was found, as the code tests it
other_way : (a b : Bool) → b ≡ not a → not b ≡ a
other_way true b e = ap not e
other_way false b e = ap not e

none_found : (a b : Bool) → b ≡ not a → a ≡ true → b ≡ false
none_found a b e h = e ∙ ap not h

pub out_of-requires : goal.out_of-requires
out_of-requires g c = (vertex_here (g.R.Darts.graph c.args.records.now) c.requires.stands.graph c.args.vertices.now c.loop-vertex.vertex-index c.vertex-item.result c.requires.vertices c.loop-vertex-test.true c.vertex-item.is).0

pub make_isolated_line-requires : goal.make_isolated_line-requires
make_isolated_line-requires g c =
    let v = g.R.Darts.graph c.args.records.now in
    number_within v c.args.numbers.now c.requires.numbers c.vertex-item.result.name (vertex_here v c.requires.stands.graph c.args.vertices.now c.loop-vertex.vertex-index c.vertex-item.result c.requires.vertices c.loop-vertex-test.true c.vertex-item.is).0

pub bare_face-requires : goal.bare_face-requires
bare_face-requires g c =
    let v = g.R.Darts.graph c.args.records.now in
    let at = vertex_here v c.requires.stands.graph c.args.vertices.now c.loop-vertex.vertex-index c.vertex-item.result c.requires.vertices c.loop-vertex-test.true c.vertex-item.is in
    bare_has v (g.R.Faced.faces c.args.records.now) c.requires.stands c.vertex-item.result.name at.0 c.out_of.result c.out_of.ensures.none c.if-is_none.ensures

pub append-requires : goal.append-requires
append-requires g c =
    let v = g.R.Darts.graph c.args.records.now in
    let f = g.R.Faced.faces c.args.records.now in
    let s = c.requires.stands in
    let u = c.vertex-item.result in
    let at = vertex_here v s.graph c.args.vertices.now c.loop-vertex.vertex-index u c.requires.vertices c.loop-vertex-test.true c.vertex-item.is in
    let place : c.rank_of.result ≡ position_or_len (same_face (bare_face_in f u.name)) c.args.ranks.now = c.rank_of.ensures ∙ ap (λ (a : FaceId). position_or_len (same_face a) c.args.ranks.now) c.bare_face.ensures.face in
    bare_place v f s c.args.ranks.now u.name (bare_has v f s u.name at.0 c.out_of.result c.out_of.ensures.none c.if-is_none.ensures) c.requires.ranks c.loop-vertex.bodies c.args.bodies.now c.rank_of.result place c.loop-vertex.invariant.0 c.requires.bodies

pub loop-vertex-preserved : goal.loop-vertex-preserved
loop-vertex-preserved g c =
    let v = g.R.Darts.graph c.args.records.now in
    let f = g.R.Faced.faces c.args.records.now in
    let s = c.requires.stands in
    let u = c.vertex-item.result in
    let bare = λ (k : VertexKey). not (has_dart (skeleton_of v) k.point) in
    let rank = λ (k : VertexKey). position_or_len (same_face (bare_face_in f k.name)) c.args.ranks.now in
    let line = λ (k : VertexKey). ended (codes "p" ++ number (index (skeleton_of v) k.point)) in
    let i = c.loop-vertex.vertex-index in
    let next = c.if-is_none.bodies in
    let at = vertex_here v s.graph c.args.vertices.now i u c.requires.vertices c.loop-vertex-test.true c.vertex-item.is in
    let test : bare u ≡ c.is_none.result = vertex_bare v s.graph u at.0 at.1 c.out_of.result c.out_of.ensures.some c.out_of.ensures.none ∙ other_way c.is_none.result (is_some c.out_of.result) c.is_none.ensures in
    elim c.if-is_none.branch [
      | then-is_none+in_ok-make_isolated_line+in_ok-append w ↦
          let has = bare_has v f s u.name at.0 c.out_of.result c.out_of.ensures.none (none_found c.is_none.result (is_some c.out_of.result) c.is_none.ensures w.if-is_none.true) in
          let place : w.rank_of.result ≡ rank u = w.rank_of.ensures ∙ ap (λ (a : FaceId). position_or_len (same_face a) c.args.ranks.now) w.bare_face.ensures.face in
          gained bare rank line c.args.bodies.now c.loop-vertex.bodies next c.args.vertices.now i u w.rank_of.result w.deref.result.now c.loop-vertex-test.true (sym (ap bare c.vertex-item.is) ∙ test ∙ w.if-is_none.true)
          (bare_place v f s c.args.ranks.now u.name has c.requires.ranks c.loop-vertex.bodies c.args.bodies.now w.rank_of.result place c.loop-vertex.invariant.0 c.requires.bodies)
          (place ∙ ap rank c.vertex-item.is)
          (w.deref.ensures.value ∙ w.in_ok-make_isolated_line.ensures ∙ ap (λ t. ended (codes "p" ++ t)) (written_number v c.args.numbers.now c.requires.numbers u.name at.0 u.point (sym at.1)) ∙ ap line c.vertex-item.is)
          (w.bodies-is ∙ w.in_ok-append.ensures.appends) c.loop-vertex.invariant
      | else-is_none w ↦
          subst (λ bodies. IsGaining bare rank line c.args.bodies.now bodies c.args.vertices.now (drop (i + 1) c.args.vertices.now)) (sym w.bodies-is)
          (passed bare rank line c.args.bodies.now c.loop-vertex.bodies c.args.vertices.now i u c.loop-vertex-test.true (sym (ap bare c.vertex-item.is) ∙ test ∙ w.if-is_none.false) c.loop-vertex.invariant)
    ]
