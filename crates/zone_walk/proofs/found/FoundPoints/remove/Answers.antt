use Rattle.std.proofs.Common.{sym, ◌∙◌}
use Rattle.exact_plane.specs.PointOrderLaws.{one_point}
use Rattle.plane_graphs.proofs.Lists.{clash}
use Rattle.zone_walk.proofs.FoundPoints.{apart_goes, apart_stays, are_equal, gone, none_apart}
use Rattle.zone_walk.proofs.found.FoundPoints.remove.Goals as goal

pub returns-then-eq : goal.returns-then-eq
returns-then-eq c =
    let es = c.args.self.now.others.entries in
    let fs = c.remove.new.self.entries in
    apart_goes c.args.point.now es fs (gone c.args.point.now es fs c.remove.ensures.entries c.remove.ensures.updates.1) c.args.self.now.alone c.in-Some.alone c.in-Some.is (one_point c.in-Some.alone.point c.args.point.now (sym c.eq.ensures ∙ c.if-eq.true))

pub returns-else-eq : goal.returns-else-eq
returns-else-eq c =
    let es = c.args.self.now.others.entries in
    let fs = c.remove.new.self.entries in
    apart_stays c.args.point.now es fs (gone c.args.point.now es fs c.remove.ensures.entries c.remove.ensures.updates.1) c.args.self.now.alone c.in-Some.alone c.in-Some.is
    (λ e. clash (are_equal c.in-Some.alone.point c.args.point.now e) (sym c.eq.ensures ∙ c.if-eq.false))

pub returns-in_default : goal.returns-in_default
returns-in_default c =
    let es = c.args.self.now.others.entries in
    let fs = c.remove.new.self.entries in
    none_apart c.args.point.now es fs (gone c.args.point.now es fs c.remove.ensures.entries c.remove.ensures.updates.1) c.args.self.now.alone c.in_default.is
