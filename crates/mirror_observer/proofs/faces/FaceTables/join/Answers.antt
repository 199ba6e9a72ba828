use Rattle.std.proofs.Common.{◌∙◌, sym, ap}
use Rattle.slab_laws.specs.View.{Faces}
use Rattle.arr_notes.specs.FaceWriters.{on_cycle, without_cycle}
use Rattle.mirror_observer.specs.FaceTables.{faces_in}
use Rattle.mirror_observer.proofs.CycleGone.{recycled_on}
use Rattle.mirror_observer.proofs.faces.FaceTables.join.Goals as goal

pub returns : goal.returns
returns c =
    let f : Faces = faces_in c.args.self.now in
    let d = c.args.d in
    let m = c.args.m in
    let kept = c.args.kept in
    let gone = c.args.gone in
    c.drop_cycle.ensures
    ∙ ap (without_cycle gone) (c.in_ok-set_both.ensures ∙ ap (λ s. on_cycle m kept (on_cycle d kept s)) c.recycle.ensures
    ∙ sym (recycled_on gone kept m (on_cycle d kept f) ∙ ap (on_cycle m kept) (recycled_on gone kept d f)))
