use Rattle.std.proofs.Common.{List, [], ◌∷◌, take, sym, subst, ⊎_elim}
use Rattle.std.proofs.lemmas.List.{take_all}
use Rattle.exact_plane.specs.Span.{IsSpan}
use Rattle.plane_graphs.specs.Ascending.{Member}
use Rattle.plane_graphs.proofs.Lists.{in_either}
use Rattle.plane_graphs.proofs.Loops.{take_next}
use Rattle.overlay_sweep.specs.declared.own.OwnEdge.{OwnEdge}
use Rattle.overlay_sweep.proofs.own.laws_of_own.Goals as goal

pub loop-edge-preserved : goal.loop-edge-preserved
loop-edge-preserved c s m =
    let xs = c.args.edges.now in
    let i = c.loop-edge.edge-index in
    let x = c.edge-item.result in
    ⊎_elim (λ a. c.loop-edge.invariant s a) (λ a. ⊎_elim (λ e. subst (λ (k : OwnEdge). IsSpan k.span) (sym e) c.laws.ensures) (λ z. absurd z) a)
    (in_either s (take i xs) (x ∷ []) (subst (λ (us : List OwnEdge). Member s us) (take_next xs i x c.loop-edge-test.true c.edge-item.is) m))

pub returns : goal.returns
returns c s m = c.loop-edge.invariant s (subst (λ (us : List OwnEdge). Member s us) (sym (take_all c.loop-edge.edge-index c.args.edges.now c.loop-edge-test.false)) m)
