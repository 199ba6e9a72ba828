use Rattle.std.proofs.Common.{rules}
use Rattle.exact_plane.specs.Line.{IsLine}
use Rattle.exact_plane.specs.Point.{IsPoint}
use Rattle.exact_plane.specs.Span.{AreOnWay}
use Rattle.exact_plane.proofs.Ways.{way_of_test}
use Rattle.exact_plane.proofs.spans.Span.new.Goals as goal

pub invariant_of-result : goal.invariant_of-result
invariant_of-result c =
    let lower : IsPoint c.args.lower = search rules in
    let upper : IsPoint c.args.upper = search rules in
    let line : IsLine c.args.line = search rules in
    record { lower = lower; upper = upper; line = line; way = way_of_test c.args.lower c.args.upper c.args.line (search rules) }

pub returns-clause-none : goal.returns-clause-none
returns-clause-none c =
    let way : AreOnWay c.args.lower c.args.upper c.args.line = way_of_test c.args.lower c.args.upper c.args.line (search rules) in
    (λ e h. absurd cc, λ none. absurd (none way))
