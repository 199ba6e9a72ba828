use Rattle.std.proofs.Common.{◌∙◌, subst}
use Rattle.face_ranks.specs.declared.order.Ranking.{Ranking}
use Rattle.face_ranks.specs.Ranks.{AreRankedAs}
use Rattle.face_ranks.proofs.walks.rank_told.Goals as goal

pub count_rank-requires-clause-listed : goal.count_rank-requires-clause-listed
count_rank-requires-clause-listed c = subst (λ (r : Ranking). AreRankedAs r c.args.records.now) c.in-Listed.is c.requires.known

pub returns-in-Given : goal.returns-in-Given
returns-in-Given c = c.rank_of.ensures ∙ subst (λ (r : Ranking). AreRankedAs r c.args.records.now) c.in-Given.is c.requires.known c.args.face c.requires.face
