use Rattle.std.proofs.Common.{◌≡◌, false, sym, ◌∙◌}
use Rattle.slab_laws.specs.Sound.{skeleton_of, dart_in}
use Rattle.slab_laws.specs.View.{HasDart}
use Rattle.face_changes.specs.Kinds.{is_outer}
use Rattle.edge_unlink.proofs.TwoParts.{turned, of_first, other_is_inner}
use Rattle.edge_unlink.proofs.breaking.inner_first.Goals.{else-was_outer-via-then-was_outer+else-is_odd_beside, else-was_outer-via-else-was_outer}
use Rattle.edge_unlink.proofs.breaking.inner_first.Goals as goal

pub is_odd_beside-requires-clause-cycle : goal.is_odd_beside-requires-clause-cycle
is_odd_beside-requires-clause-cycle c = of_first (HasDart c.args.records.now.graph) c.shorter_first.result.0 c.shorter_first.result.1 c.args.a c.args.b c.shorter_first.ensures.both c.requires.one c.requires.other

pub is_odd_beside-requires-clause-dart : goal.is_odd_beside-requires-clause-dart
is_odd_beside-requires-clause-dart c = of_first (HasDart c.args.records.now.graph) c.shorter_first.result.0 c.shorter_first.result.1 c.args.a c.args.b c.shorter_first.ensures.both c.requires.one c.requires.other

pub returns-then-is_odd_beside-clause-both : goal.returns-then-is_odd_beside-clause-both
returns-then-is_odd_beside-clause-both c = turned c.shorter_first.result.0 c.shorter_first.result.1 c.args.a c.args.b c.shorter_first.ensures.both

pub returns-then-is_odd_beside-clause-inner : goal.returns-then-is_odd_beside-clause-inner
returns-then-is_odd_beside-clause-inner c =
    let v = c.args.records.now.graph in
    other_is_inner (λ k. is_outer (skeleton_of v) (dart_in v k)) c.shorter_first.result.0 c.shorter_first.result.1 c.args.a c.args.b c.shorter_first.ensures.both (c.requires.of_outer c.if-was_outer.true) (sym c.is_odd_beside.ensures ∙ c.if-is_odd_beside.true)

pub returns-else-was_outer-clause-inner : goal.returns-else-was_outer-clause-inner
returns-else-was_outer-clause-inner c =
    let v = c.args.records.now.graph in
    elim c.else-was_outer.branch [
      | else-was_outer-via-then-was_outer+else-is_odd_beside w ↦ sym w.is_odd_beside.ensures ∙ w.if-is_odd_beside.false
      | else-was_outer-via-else-was_outer w ↦
          let r = c.requires.of_inner w.if-was_outer.false in
          of_first (λ k. is_outer (skeleton_of v) (dart_in v k) ≡ false) c.shorter_first.result.0 c.shorter_first.result.1 c.args.a c.args.b c.shorter_first.ensures.both r.0 r.1
    ]
