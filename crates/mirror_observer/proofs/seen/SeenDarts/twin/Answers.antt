use Rattle.std.proofs.Common.{◌∙◌, sym, ap, subst}
use Rattle.slab_laws.specs.View.{HasDart, twin_in}
use Rattle.arr_notes.specs.CurvedView.{IsSoundView}
use Rattle.mirror_observer.proofs.seen.SeenDarts.twin.Goals as goal

pub returns-clause-has : goal.returns-clause-has
returns-clause-has c =
    let s : IsSoundView c.args.self.now = subst (λ w. IsSoundView w) c.self.view_is c.self.invariant.0 in
    subst (λ e. HasDart c.args.self.now.graph e) (sym (c.twin.ensures ∙ ap (λ w. twin_in w.graph c.args.d) c.self.view_is)) (s.map.graph.twinned.has c.args.d c.requires)

pub returns-clause-back : goal.returns-clause-back
returns-clause-back c =
    let s : IsSoundView c.args.self.now = subst (λ w. IsSoundView w) c.self.view_is c.self.invariant.0 in
    ap (twin_in c.args.self.now.graph) (c.twin.ensures ∙ ap (λ w. twin_in w.graph c.args.d) c.self.view_is) ∙ s.map.graph.twinned.back c.args.d c.requires

pub returns-clause-other : goal.returns-clause-other
returns-clause-other c =
    let s : IsSoundView c.args.self.now = subst (λ w. IsSoundView w) c.self.view_is c.self.invariant.0 in
    λ q. s.map.graph.twinned.other c.args.d c.requires (sym (c.twin.ensures ∙ ap (λ w. twin_in w.graph c.args.d) c.self.view_is) ∙ q)
