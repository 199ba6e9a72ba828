use Rattle.std.proofs.Common.{◌∙◌, sym, ap, subst}
use Rattle.slab_laws.specs.View.{HasCycle, cycle_in}
use Rattle.arr_notes.specs.CurvedView.{IsSoundView}
use Rattle.mirror_observer.proofs.seen.SeenFaced.cycle.Goals as goal

pub returns-clause-has : goal.returns-clause-has
returns-clause-has c =
    let s : IsSoundView c.args.self.now = subst (λ w. IsSoundView w) c.self.view_is c.self.invariant.0 in
    subst (λ z. HasCycle c.args.self.now.faces z) (sym (c.cycle.ensures ∙ ap (λ w. cycle_in w.faces c.args.d) c.self.view_is)) (s.map.complete.cycle_has c.args.d c.requires)
