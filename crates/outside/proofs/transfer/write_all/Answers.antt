use Rattle.std.proofs.Common.{◌++◌, take, ◌∙◌, rules}
use Rattle.outside.proofs.Gains.{Gains-more, none_left, one_part_more}
use Rattle.outside.proofs.transfer.write_all.Goals as goal

pub writes-preserved : goal.writes-preserved
writes-preserved g c =
    let i = c.writes.invariant in
    let w = c.in_ok-count.ensures in (
      i.0 ++ take c.in_ok-count.count c.writes.rest.now,
      one_part_more c.args.bytes.now i.0 c.writes.rest.now c.split_at.result.1.now c.in_ok-count.count i.1 c.split_at.ensures.back,
      Gains-more _ _ _ i.0 (take c.in_ok-count.count c.writes.rest.now) i.2 w.bytes.end,
      w.cause.same ∙ i.3,
      λ none. absurd (let nil = none_left c.args.bytes.now i.0 c.writes.rest.now i.1 none in search rules),
    )
