use Rattle.std.proofs.Common.{rules, subst}
use Rattle.exact_plane.specs.Line.{IsLine}
use Rattle.exact_plane.proofs.Lines.{reduced_is}
use Rattle.exact_plane.proofs.line.lowest.Goals as goal

pub invariant_of-result : goal.invariant_of-result
invariant_of-result c = subst IsLine (search rules) (reduced_is c.args.a c.args.b c.args.c c.requires)

pub returns : goal.returns
returns c = search rules

pub quotient-requires : goal.quotient-requires
quotient-requires c = record { some = search rules; small = search rules }

pub quotient-requires-2 : goal.quotient-requires-2
quotient-requires-2 c = record { some = search rules; small = search rules }

pub quotient-requires-3 : goal.quotient-requires-3
quotient-requires-3 c = record { some = search rules; small = search rules }
