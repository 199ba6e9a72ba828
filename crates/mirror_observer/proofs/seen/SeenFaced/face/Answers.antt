use Rattle.std.proofs.Common.{◌∙◌, sym, ap, subst}
use Rattle.slab_laws.specs.View.{HasFace, face_in}
use Rattle.arr_notes.specs.CurvedView.{IsSoundView}
use Rattle.mirror_observer.proofs.seen.SeenFaced.face.Goals as goal

pub returns-clause-has : goal.returns-clause-has
returns-clause-has c =
    let s : IsSoundView c.args.self.now = subst (λ w. IsSoundView w) c.self.view_is c.self.invariant.0 in
    subst (λ z. HasFace c.args.self.now.faces z) (sym (c.face.ensures ∙ ap (λ w. face_in w.faces c.args.c) c.self.view_is)) (s.map.complete.face_has c.args.c c.requires)
