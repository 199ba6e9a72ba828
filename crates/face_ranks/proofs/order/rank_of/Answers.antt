use Rattle.face_ranks.proofs.GivenRanks.{same_map}
use Rattle.face_ranks.proofs.order.rank_of.Goals as goal

pub count_rank-requires-clause-map : goal.count_rank-requires-clause-map
count_rank-requires-clause-map c = same_map c.args.records.now c.list_keys.new.records c.list_keys.ensures.graph c.list_keys.ensures.faces c.requires.map
