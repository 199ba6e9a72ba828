use Rattle.std.proofs.Common.{◌≡◌, ◌-◌, ◌∙◌, ap, sym, arith}
use Rattle.dart_orbits.specs.Around.{source_placed}
use Rattle.dart_orbits.proofs.Neighbours.{begins}
use Rattle.dart_orbits.proofs.nexts.first_from.Goals as goal

pub returns-then-index-eq0 : goal.returns-then-index-eq0
returns-then-index-eq0 c = begins c.args.darts.now c.args.around.now c.requires.sources c.args.index c.requires.index (λ k e s. absurd (omega arith))

pub returns : goal.returns
returns c = begins c.args.darts.now c.args.around.now c.requires.sources c.args.index c.requires.index (λ k e s.
    let q : c.args.index - 1 ≡ k = omega arith in
    c.if-source_at.false (c.source_at.ensures ∙ ap (source_placed c.args.darts.now c.args.around.now) q ∙ s ∙ sym c.source_at-2.ensures))
