use Rattle.std.proofs.Common.{ap, ◌∙◌}
use Rattle.dcel_records.specs.RecordsView.{lists_of, tables_of}
use Rattle.face_ranks.specs.Ranks.{rank_among}
use Rattle.face_ranks.proofs.KeysCounted.{all_counted}
use Rattle.face_ranks.proofs.order.count_rank.Goals as goal

pub returns : goal.returns
returns c =
    let h = c.args.records.now in
    c.rank_among.ensures ∙ ap (λ ks. rank_among ks c.args.face) (c.rank_keys.ensures ∙ c.requires.listed) ∙ all_counted h.graph (tables_of h) (lists_of h) c.requires.map.sound c.requires.map.darts c.args.face c.requires.face
