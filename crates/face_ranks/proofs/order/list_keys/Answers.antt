use Rattle.std.proofs.Common.{sym, ◌∙◌}
use Rattle.face_ranks.proofs.GivenRanks.{same_map, same_keys}
use Rattle.face_ranks.proofs.order.list_keys.Goals as goal

pub push_keys-requires-clause-map : goal.push_keys-requires-clause-map
push_keys-requires-clause-map c = same_map c.args.records.now c.clear_order.new.self c.clear_order.ensures.graph c.clear_order.ensures.faces c.requires

pub returns-clause-listed : goal.returns-clause-listed
returns-clause-listed c = c.push_keys.ensures.order ∙ sym (same_keys c.clear_order.new.self c.push_keys.new.records c.push_keys.ensures.graph c.push_keys.ensures.faces)
