use Rattle.std.proofs.Common.{◌∙◌, sym, ap, subst}
use Rattle.slab_laws.specs.View.{HasFace, bare_face_in}
use Rattle.arr_notes.specs.CurvedView.{IsSoundView}
use Rattle.mirror_observer.proofs.seen.SeenFaced.bare_face.Goals as goal

pub returns-clause-has : goal.returns-clause-has
returns-clause-has c =
    let s : IsSoundView c.args.self.now = subst (λ w. IsSoundView w) c.self.view_is c.self.invariant.0 in
    subst (λ z. HasFace c.args.self.now.faces z) (sym (c.bare_face.ensures ∙ ap (λ w. bare_face_in w.faces c.args.v) c.self.view_is)) (s.map.complete.bare_has c.args.v c.requires)
