use Rattle.std.proofs.Common.{◌≡◌, rules, sym, subst}
use Rattle.exact_plane.specs.Point.{reduced, IsPoint}
use Rattle.exact_plane.proofs.Lowest.{is_in_range, same_place, reduced_point}
use Rattle.exact_plane.proofs.point.Point.new.Goals as goal

is_point : (c : goal.After-lowest) → IsPoint c.lowest.result
is_point c =
    let e : c.lowest.result ≡ reduced c.args.x c.args.y c.args.w = search rules in
    subst IsPoint (sym e) (reduced_point c.args.x c.args.y c.args.w (is_in_range c.args.x c.args.y c.args.w (search rules)))

pub invariant_of-result : goal.invariant_of-result
invariant_of-result c = is_point c

pub returns-clause-same_place : goal.returns-clause-same_place
returns-clause-same_place c =
    let e : c.lowest.result ≡ reduced c.args.x c.args.y c.args.w = search rules in
    same_place c.args.x c.args.y c.args.w (is_in_range c.args.x c.args.y c.args.w (search rules)) c.lowest.result e

pub returns-then-w-eq0 : goal.returns-then-w-eq0
returns-then-w-eq0 c = search rules

pub returns-then-not-is_in_range : goal.returns-then-not-is_in_range
returns-then-not-is_in_range c = search rules

pub returns-clause-value : goal.returns-clause-value
returns-clause-value c = search rules

pub returns-clause-zero_weight : goal.returns-clause-zero_weight
returns-clause-zero_weight c = search rules

pub returns-clause-range : goal.returns-clause-range
returns-clause-range c = search rules

pub returns-clause-in_range : goal.returns-clause-in_range
returns-clause-in_range c = search rules

pub returns-clause-lowest : goal.returns-clause-lowest
returns-clause-lowest c = (is_point c).lowest

pub returns-clause-limits : goal.returns-clause-limits
returns-clause-limits c = search rules
