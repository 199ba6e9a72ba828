use Rattle.std.proofs.Common.{◌≡◌, length, arith}
use Rattle.sweep_events.specs.declared.places.Start.{Start}
use Rattle.sweep_events.proofs.StartList.{pushed, all_pushed, are_starts, one_known}
use Rattle.sweep_events.proofs.places.starts_of.Goals as goal

pub loop-piece-preserved : goal.loop-piece-preserved
loop-piece-preserved c =
    let xs = c.args.pieces.now in
    let i = c.loop-piece.piece-index in
    let x = c.piece-item.result in
    let n : c.len.result ≡ length c.loop-piece.starts.items = omega (arith, c.len.ensures, c.loop-piece.starts.ok.0) in
    let s : Start = record { lower = c.lower.result; place = c.len.result } in
    record {
      items = pushed xs i x c.loop-piece.starts.items c.push.new.self.items s c.loop-piece-test.true c.piece-item.is c.loop-piece.invariant.items c.in_ok-push.ensures.items (λ j. record { lower = c.lower.ensures.value j; place = n j });
      spans = one_known xs i x c.loop-piece-test.true c.piece-item.is c.lower.ensures.span c.loop-piece.invariant.spans;
    }

pub returns-clause-starts : goal.returns-clause-starts
returns-clause-starts c = are_starts c.args.pieces.now c.loop-piece.starts.items c.sort_unstable.new.self.items (all_pushed c.args.pieces.now c.loop-piece.piece-index c.loop-piece.starts.items c.loop-piece-test.false c.loop-piece.invariant.items) c.sort_unstable.ensures.permutation c.sort_unstable.ensures.sorted
