use Rattle.std.proofs.Common.{List, [], ◌∷◌, take, sym, subst, ⊎_elim}
use Rattle.std.proofs.lemmas.List.{take_all}
use Rattle.exact_plane.specs.Span.{Span, IsSpan}
use Rattle.plane_graphs.specs.Ascending.{Member}
use Rattle.plane_graphs.proofs.Lists.{in_either}
use Rattle.plane_graphs.proofs.Loops.{take_next}
use Rattle.overlay_sweep.proofs.rows.laws_of_spans.Goals as goal

pub loop-span-preserved : goal.loop-span-preserved
loop-span-preserved c s m =
    let xs = c.args.spans.now in
    let i = c.loop-span.span-index in
    let x = c.span-item.result in
    ⊎_elim (λ a. c.loop-span.invariant s a) (λ a. ⊎_elim (λ e. subst IsSpan (sym e) c.laws.ensures) (λ z. absurd z) a)
    (in_either s (take i xs) (x ∷ []) (subst (λ (us : List Span). Member s us) (take_next xs i x c.loop-span-test.true c.span-item.is) m))

pub returns : goal.returns
returns c s m = c.loop-span.invariant s (subst (λ (us : List Span). Member s us) (sym (take_all c.loop-span.span-index c.args.spans.now c.loop-span-test.false)) m)
