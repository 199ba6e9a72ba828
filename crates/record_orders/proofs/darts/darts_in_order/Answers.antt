use Rattle.std.proofs.Common.{map, ap, ◌∙◌}
use Rattle.record_orders.specs.Keys.{dart_key}
use Rattle.record_orders.proofs.DartKeys.{sorted_darts}
use Rattle.record_orders.proofs.darts.darts_in_order.Goals as goal

pub keys_of-requires-clause-have : goal.keys_of-requires-clause-have
keys_of-requires-clause-have g c = rw c.deref.ensures.value c.in_ok-names.ensures.have

pub returns : goal.returns
returns g c =
    let v = g.R.Darts.graph c.args.records.now in
    sorted_darts v c.requires c.in_ok-keys.keys.items c.sort_unstable.new.self.items (c.in_ok-keys.ensures ∙ ap (map (dart_key v)) (c.deref.ensures.value ∙ c.in_ok-names.ensures.names)) c.sort_unstable.ensures.permutation c.sort_unstable.ensures.sorted
