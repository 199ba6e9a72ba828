use Rattle.std.proofs.Common.{◌≡◌, ◌∙◌, sym, ap, ap₂}
use Rattle.slab_laws.specs.View.{Faces, face_in}
use Rattle.arr_notes.specs.FaceWriters.{off_cycles, without_cycle, without_face, moved_to, recycled}
use Rattle.mirror_observer.specs.FaceTables.{faces_in}
use Rattle.mirror_observer.proofs.CycleGone.{recycled_off}
use Rattle.mirror_observer.proofs.faces.FaceTables.unite.Goals as goal

pub returns : goal.returns
returns c =
    let f : Faces = faces_in c.args.self.now in
    let d = c.args.d in
    let m = c.args.m in
    let kept = c.args.kept in
    let gone = c.args.gone in
    let cs = c.args.moved.now.cycles in
    let vs = c.args.moved.now.vertices in
    let q : faces_in c.drop_both.new.self ≡ recycled gone kept (off_cycles m (off_cycles d f)) =
    c.drop_both.ensures ∙ ap (λ s. off_cycles m (off_cycles d s)) c.recycle.ensures ∙ sym (recycled_off gone kept m (off_cycles d f) ∙ ap (off_cycles m) (recycled_off gone kept d f)) in
    c.drop_face.ensures
    ∙ ap (without_face c.args.gone_face) (c.drop_cycle.ensures
    ∙ ap (without_cycle gone) (c.move_all.ensures ∙ ap₂ (moved_to cs vs) (c.face_at-face.ensures ∙ ap (λ s. face_in s kept) q) q))
