use Rattle.std.proofs.Common.{rules}
use Rattle.std.specs.Int.{w64}
use Rattle.std.proofs.lemmas.Int.{to_z-of_z}
use Rattle.exact_plane.proofs.Wholes.{are_coordinates-is, same_ends, before_ascends, after_ascends, is_segment, is_segment_back}
use Rattle.exact_plane.proofs.segment.Segment.new.Goals as goal

pub invariant_of-result : goal.invariant_of-result
invariant_of-result c =
    rw (to_z-of_z w64 c.args.x1 c.ranges.x1, to_z-of_z w64 c.args.y1 c.ranges.y1, to_z-of_z w64 c.args.x2 c.ranges.x2, to_z-of_z w64 c.args.y2 c.ranges.y2)
    (is_segment c.args.x1 c.args.y1 c.args.x2 c.args.y2 (search rules) (before_ascends c.args.x1 c.args.y1 c.args.x2 c.args.y2 (search rules)))

pub invariant_of-result-else-comes_first : goal.invariant_of-result-else-comes_first
invariant_of-result-else-comes_first c =
    rw (to_z-of_z w64 c.args.x1 c.ranges.x1, to_z-of_z w64 c.args.y1 c.ranges.y1, to_z-of_z w64 c.args.x2 c.ranges.x2, to_z-of_z w64 c.args.y2 c.ranges.y2)
    (is_segment_back c.args.x1 c.args.y1 c.args.x2 c.args.y2 (search rules) (after_ascends c.args.x1 c.args.y1 c.args.x2 c.args.y2 (search rules) (search rules)))

pub returns-then-comes_first-clause-ascending : goal.returns-then-comes_first-clause-ascending
returns-then-comes_first-clause-ascending c =
    rw (to_z-of_z w64 c.args.x1 c.ranges.x1, to_z-of_z w64 c.args.y1 c.ranges.y1, to_z-of_z w64 c.args.x2 c.ranges.x2, to_z-of_z w64 c.args.y2 c.ranges.y2)
    (before_ascends c.args.x1 c.args.y1 c.args.x2 c.args.y2 (search rules))

pub returns-else-comes_first-clause-ascending : goal.returns-else-comes_first-clause-ascending
returns-else-comes_first-clause-ascending c =
    rw (to_z-of_z w64 c.args.x1 c.ranges.x1, to_z-of_z w64 c.args.y1 c.ranges.y1, to_z-of_z w64 c.args.x2 c.ranges.x2, to_z-of_z w64 c.args.y2 c.ranges.y2)
    (after_ascends c.args.x1 c.args.y1 c.args.x2 c.args.y2 (search rules) (search rules))

pub returns-then-same-clause-equal : goal.returns-then-same-clause-equal
returns-then-same-clause-equal c =
    let e = same_ends c.args.x1 c.args.y1 c.args.x2 c.args.y2 (search rules) in
    let within = are_coordinates-is c.args.x1 c.args.y1 c.args.x2 c.args.y2 (search rules) in
    (λ _. (within, e.0, e.1), λ _. search rules)

pub returns-then-not-all_within : goal.returns-then-not-all_within
returns-then-not-all_within c = search rules

pub returns-then-same-clause-value : goal.returns-then-same-clause-value
returns-then-same-clause-value c = search rules

pub returns-then-same-clause-range : goal.returns-then-same-clause-range
returns-then-same-clause-range c = search rules

pub returns-then-same-clause-ends : goal.returns-then-same-clause-ends
returns-then-same-clause-ends c = search rules

pub returns-then-same-clause-ascending : goal.returns-then-same-clause-ascending
returns-then-same-clause-ascending c = search rules

pub returns-then-same-clause-limit : goal.returns-then-same-clause-limit
returns-then-same-clause-limit c = search rules

pub returns-then-comes_first-clause-value : goal.returns-then-comes_first-clause-value
returns-then-comes_first-clause-value c = search rules

pub returns-then-comes_first-clause-range : goal.returns-then-comes_first-clause-range
returns-then-comes_first-clause-range c = let within = are_coordinates-is c.args.x1 c.args.y1 c.args.x2 c.args.y2 (search rules) in (λ e h. absurd cc, λ none. absurd (none within))

pub returns-then-comes_first-clause-equal : goal.returns-then-comes_first-clause-equal
returns-then-comes_first-clause-equal c = search rules

pub returns-then-comes_first-clause-ends : goal.returns-then-comes_first-clause-ends
returns-then-comes_first-clause-ends c = search rules

pub returns-then-comes_first-clause-limit : goal.returns-then-comes_first-clause-limit
returns-then-comes_first-clause-limit c = search rules

pub returns-else-comes_first-clause-value : goal.returns-else-comes_first-clause-value
returns-else-comes_first-clause-value c = search rules

pub returns-else-comes_first-clause-range : goal.returns-else-comes_first-clause-range
returns-else-comes_first-clause-range c = let within = are_coordinates-is c.args.x1 c.args.y1 c.args.x2 c.args.y2 (search rules) in (λ e h. absurd cc, λ none. absurd (none within))

pub returns-else-comes_first-clause-equal : goal.returns-else-comes_first-clause-equal
returns-else-comes_first-clause-equal c = search rules

pub returns-else-comes_first-clause-ends : goal.returns-else-comes_first-clause-ends
returns-else-comes_first-clause-ends c = search rules

pub returns-else-comes_first-clause-limit : goal.returns-else-comes_first-clause-limit
returns-else-comes_first-clause-limit c = search rules
