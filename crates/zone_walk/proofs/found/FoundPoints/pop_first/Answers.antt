use Rattle.std.proofs.Common.{sym, ◌∙◌}
use Rattle.exact_plane.specs.PointOrderLaws.{same_point}
use Rattle.zone_walk.proofs.FoundPoints.{first_apart, first_both}
use Rattle.zone_walk.proofs.found.FoundPoints.pop_first.Goals as goal

pub returns-in-Less-clause-first : goal.returns-in-Less-clause-first
returns-in-Less-clause-first c =
    let o = c.in-Some-pop_other.other in
    first_apart c.args.self.now.alone c.args.self.now.others.entries c.pop_other-2.new.others.entries o c.in-Some-pop_other.ensures.first c.in-Some-pop_other.ensures.before c.in-Some.alone c.in-Some.is
    (record { is = sym c.cmp.ensures ∙ c.in-Less.is })

pub returns-in-Equal-clause-first : goal.returns-in-Equal-clause-first
returns-in-Equal-clause-first c =
    let o = c.in-Some-pop_other.other in
    first_both c.args.self.now.alone c.args.self.now.others.entries c.pop_other-2.new.others.entries o c.in-Some-pop_other.ensures.first c.in-Some-pop_other.ensures.before c.in-Some.alone c.in-Some.is
    (same_point c.in-Some.alone.point o.point (sym c.cmp.ensures ∙ c.in-Equal.is))
