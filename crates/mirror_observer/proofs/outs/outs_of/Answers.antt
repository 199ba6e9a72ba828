use Rattle.std.proofs.Common.{◌∙◌, sym, subst}
use Rattle.slab_laws.specs.View.{dart_id}
use Rattle.mirror_observer.proofs.DartsOut.{AreOutsBut, outs_none, outs_more, outs_all}
use Rattle.mirror_observer.proofs.outs.outs_of.Goals as goal

pub loop-key-init : goal.loop-key-init
loop-key-init c =
    let ds = c.args.darts.now.entries in
    let os = c.new-outs.result.entries in
    subst (λ ns. AreOutsBut ns ds os) (sym (c.into_iter-key-iterator.ensures.into_iter_gives ∙ c.keys-key-items.ensures.rest)) (outs_none ds os c.new-outs.ensures.empty)

pub loop-key-preserved : goal.loop-key-preserved
loop-key-preserved c = outs_more c.args.darts.now.entries c.loop-key.outs.entries (dart_id c.in-Some.key.now) c.keep_out.new.outs.entries c.next.new.self c.loop-key.key-iterator c.in-Some.ensures.steps c.in_ok-keep_out.ensures c.loop-key.invariant

pub returns : goal.returns
returns c =
    let ds = c.args.darts.now.entries in
    let os = c.loop-key.outs.entries in
    outs_all ds os (subst (λ ns. AreOutsBut ns ds os) c.in-None.ensures.steps.0 c.loop-key.invariant)
