use Rattle.face_ranks.proofs.GivenRanks.{keys_have_faces, ranks_after}
use Rattle.face_ranks.proofs.order.rank_faces.Goals as goal

pub rank_in_order-requires : goal.rank_in_order-requires
rank_in_order-requires c = keys_have_faces c.args.records.now c.requires.map c.args.records.now.ranks.order c.requires.listed

pub returns-clause-ranks : goal.returns-clause-ranks
returns-clause-ranks c =
    let r = c.rank_in_order.ensures in
    ranks_after c.args.records.now c.requires.map c.args.records.now.ranks.order c.requires.listed c.face_laws.ensures.unbounded c.rank_in_order.new.self r.keys r.ordered r.ranked r.unbounded r.graph r.faces
