use Rattle.std.proofs.Common.{◌∙◌, subst}
use Rattle.face_ranks.specs.declared.order.Ranking.{Ranking}
use Rattle.own_edges.specs.RankTables.{AreRanksFound}
use Rattle.own_edges.proofs.ranks.rank_by.Goals as goal

pub returns-in-Given : goal.returns-in-Given
returns-in-Given c = c.rank_of.ensures ∙ subst (λ (r : Ranking). AreRanksFound r c.args.records.now c.args.found.now) c.in-Given.is c.requires.found c.args.face c.requires.face
