use Rattle.dart_walks.proofs.WholeWalks.{round_way_from, round_whole_from, round_have_from}
use Rattle.dart_walks.proofs.round.Round.new.Goals as goal

pub invariant_of-result : goal.invariant_of-result
invariant_of-result g c = round_way_from (g.R.Darts.graph c.args.graph.now) c.requires.sound c.args.vertex c.out_of-at.result c.unwrap_or-first.result c.unwrap_or-first.ensures c.out_of-at.ensures.some

pub returns-clause-round : goal.returns-clause-round
returns-clause-round g c = round_whole_from (g.R.Darts.graph c.args.graph.now) c.requires.sound c.args.vertex c.out_of-at.result c.unwrap_or-first.result c.unwrap_or-first.ensures c.out_of-at.ensures.some c.out_of-at.ensures.none

pub returns-clause-have : goal.returns-clause-have
returns-clause-have g c = round_have_from (g.R.Darts.graph c.args.graph.now) c.requires.sound c.args.vertex c.out_of-at.result c.unwrap_or-first.result c.unwrap_or-first.ensures c.out_of-at.ensures.some c.out_of-at.ensures.none
