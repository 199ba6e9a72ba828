use Rattle.std.proofs.Common.{arith}
use Rattle.plain_slabs.proofs.TurnCases.{AreRead, quarters_tell, left_tells, right_tells, none_tells}
use Rattle.plain_slabs.proofs.turns.is_earlier.Goals as goal
use Rattle.plain_slabs.proofs.turns.is_earlier.Goals.{After-quarter-others}

read : (c : After-quarter-others) → AreRead c.args.edges.now c.args.dart.now c.args.other.now c.index-edges-dart.result c.index-edges-other.result c.quarter-own.result c.quarter-others.result
read c = record {
  own = c.requires.own;
  others = c.requires.others;
  own_edge = c.index-edges-dart.is;
  others_edge = c.index-edges-other.is;
  own_quarter = c.quarter-own.ensures;
  others_quarter = c.quarter-others.ensures;
}

pub returns-then-own-others : goal.returns-then-own-others
returns-then-own-others c = quarters_tell _ _ _ _ _ _ _ (read (goal.at.returns-then-own-others c).After-quarter-others) c.if-own-others.true

pub returns-in-0 : goal.returns-in-0
returns-in-0 c = left_tells _ _ _ _ _ _ _ (read (goal.at.returns-in-0 c).After-quarter-others) _ c.if-own-others.false c.in-0.is c.is_below.ensures

pub returns-in-2 : goal.returns-in-2
returns-in-2 c = right_tells _ _ _ _ _ _ _ (read (goal.at.returns-in-2 c).After-quarter-others) _ c.if-own-others.false c.in-2.is c.is_below-in-2.ensures

pub returns-in_default : goal.returns-in_default
returns-in_default c = none_tells _ _ _ _ _ _ _ (read (goal.at.returns-in_default c).After-quarter-others) c.if-own-others.false (λ e. omega arith) (λ e. omega arith)
