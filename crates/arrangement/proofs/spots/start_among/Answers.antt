use Rattle.std.proofs.Common.{sym, ◌∙◌, arith}
use Rattle.plane_graphs.proofs.Sorting.{any_default}
use Rattle.arrangement.proofs.spots.start_among.Goals as goal
use Rattle.exact_plane.specs.PointOrderLaws.{one_point}

pub returns-then-eq : goal.returns-then-eq
returns-then-eq c = record {
  place = c.sides.place;
  side = c.index-sides-place.result;
  within = c.sides-test.true;
  there = c.index-sides-place.is;
  begins = sym c.lower.ensures.value ∙ one_point c.lower.result c.args.p.now (sym c.eq.ensures ∙ c.if-eq.true);
  start = λ d. any_default c.args.starts.now c.sides.place _ d (omega (arith, c.sides-test.true, c.requires));
}
