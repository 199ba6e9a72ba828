use Rattle.std.proofs.Common.{inr}
use Rattle.curve_history.specs.Past.{strands_on}
use Rattle.curve_history.proofs.Sides.{strands_of_edges}
use Rattle.told_steps.proofs.Passed.{bare_stops, loose_fits, passed}
use Rattle.told_steps.proofs.through.is_mergeable.Goals as goal

pub returns-in_default-clause-not_passed : goal.returns-in_default-clause-not_passed
returns-in_default-clause-not_passed c e = bare_stops c.args.records.now.graph (strands_on c.args.history.now) c.args.w c.requires.sound (strands_of_edges c.args.records.now.graph c.args.history.now c.requires.curves) c.requires.vertex c.in_default.ensures.none

pub returns-in-Some-joinable-clause-passed : goal.returns-in-Some-joinable-clause-passed
returns-in-Some-joinable-clause-passed c e =
    let j = c.in-Some-joinable.ensures in
    passed c.args.records.now.graph (strands_on c.args.history.now) c.args.w c.requires.sound (strands_of_edges c.args.records.now.graph c.args.history.now c.requires.curves) c.in-Some-joinable.field-0.0 c.in-Some-joinable.field-0.1 j.0 j.1 c.requires.vertex

pub returns-in-None-clause-not_passed : goal.returns-in-None-clause-not_passed
returns-in-None-clause-not_passed c e p =
    let r = loose_fits c.args.records.now.graph (strands_on c.args.history.now) c.args.w c.requires.sound (strands_of_edges c.args.records.now.graph c.args.history.now c.requires.curves) c.in-Some.first c.requires.vertex c.in-Some.ensures.some (inr p) in
    c.in-None.ensures r.0 r.1 (r.2, r.3)
