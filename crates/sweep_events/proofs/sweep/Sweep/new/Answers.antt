use Rattle.std.proofs.Common.{List, ◌++◌, refl, sym, ap, ◌∙◌, subst}
use Rattle.exact_plane.specs.Point.{Point}
use Rattle.exact_plane.specs.Span.{Span}
use Rattle.sweep_events.specs.Starts.{AreStarts}
use Rattle.sweep_events.proofs.FirstQueue.{begun_with}
use Rattle.sweep_events.proofs.sweep.Sweep.new.Goals as goal

pub invariant_of-result : goal.invariant_of-result
invariant_of-result c =
    let ps = c.args.pieces.now in
    let rs = c.args.pins.now in
    let a = c.in_ok-extend_from_slice.ensures.items ∙ ap (λ (xs : List Span). xs ++ ps) c.new-kept.ensures.items in
    let b = c.in_ok-extend_from_slice-2.ensures.items ∙ ap (λ (xs : List Point). xs ++ rs) c.new-kept_pins.ensures.items in (
      (subst (λ (xs : List Span). AreStarts xs c.in_ok-starts.starts.items) (sym a) c.in_ok-starts.ensures.starts, refl, refl),
      begun_with ps c.in_ok-starts.starts.items c.in_ok-starts.ensures.starts c.extend_from_slice.new.self.items rs c.extend_from_slice-2.new.self.items c.new.result.items c.new-queue.result.keys c.add_ends.new.queue.keys c.add_pins.new.queue.keys a b c.new.ensures.items c.new-queue.ensures.empty c.in_ok-starts.ensures.spans c.in_ok-add_ends.ensures c.in_ok-add_pins.ensures,
    )
