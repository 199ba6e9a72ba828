use Rattle.std.proofs.Common.{rules, length, refl}
use Rattle.exact_plane.proofs.PathLaws.{count_is, all_in_range, none_in_range, not_count, not_range, equal-from, equal-to, sides_count}
use Rattle.exact_plane.proofs.path.Path.new.Goals as goal

pub returns-then-not-are_in_range-clause-range : goal.returns-then-not-are_in_range-clause-range
returns-then-not-are_in_range-clause-range c =
    let count = count_is (length c.args.points.now) (search rules) in
    let none = none_in_range c.args.points.now (search rules) in
    (λ _. (count, none), λ _. refl)

pub returns-then-not-are_in_range-clause-equal : goal.returns-then-not-are_in_range-clause-equal
returns-then-not-are_in_range-clause-equal c =
    let none = none_in_range c.args.points.now (search rules) in
    (λ e. absurd cc, λ h. absurd (none h.1))

pub returns-clause-count : goal.returns-clause-count
returns-clause-count c =
    let count = count_is (length c.args.points.now) (search rules) in
    (λ e h. not_count c.args.points.now c.along.result c.along.ensures e, λ none. absurd (none count))

pub returns-clause-range : goal.returns-clause-range
returns-clause-range c =
    let all = all_in_range c.args.points.now (search rules) in
    (λ e. absurd (not_range c.args.points.now c.along.result c.along.ensures e), λ h. absurd (h.1 all))

pub returns-clause-equal : goal.returns-clause-equal
returns-clause-equal c =
    let count = count_is (length c.args.points.now) (search rules) in
    let all = all_in_range c.args.points.now (search rules) in
    (λ e. (count, all, equal-from c.args.points.now c.along.result c.along.ensures e), λ h. equal-to c.args.points.now c.along.result c.along.ensures h.2)

pub returns-clause-sides : goal.returns-clause-sides
returns-clause-sides c =
    let count = count_is (length c.args.points.now) (search rules) in
    sides_count c.args.points.now c.along.result c.along.ensures count.some
