use Rattle.arrangement.proofs.OddEnds.{end_closed, end_least}
use Rattle.arrangement.proofs.arrangement.Arrangement.odd_end.Goals as goal

pub least_odd-requires : goal.least_odd-requires
least_odd-requires g c = c.self.invariant.0

pub returns : goal.returns
returns g c = rw (← c.self.view_is) (record {
  end = c.least_odd.ensures;
  least = end_least _ c.least_odd.result c.least_odd.ensures;
  closed = end_closed _ c.least_odd.result c.least_odd.ensures;
})
