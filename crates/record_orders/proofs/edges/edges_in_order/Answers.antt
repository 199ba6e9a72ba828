use Rattle.record_orders.proofs.EdgeOrders.{have, keys_are, names_are, edges_ascend}
use Rattle.record_orders.proofs.edges.edges_in_order.Goals as goal

pub keys_of-requires-clause-have : goal.keys_of-requires-clause-have
keys_of-requires-clause-have g c = have (g.R.Darts.graph c.args.records.now) c.args.darts.now c.requires.forward

pub returns-clause-keys : goal.returns-clause-keys
returns-clause-keys g c = keys_are (g.R.Darts.graph c.args.records.now) c.requires.sound c.args.darts.now c.requires.forward c.requires.once c.in_ok-keys.keys.items c.sort_unstable.new.self.items c.in_ok-keys.ensures c.sort_unstable.ensures.permutation c.sort_unstable.ensures.sorted

pub returns-clause-names : goal.returns-clause-names
returns-clause-names g c = names_are (g.R.Darts.graph c.args.records.now) c.requires.sound c.args.darts.now c.requires.forward c.requires.once c.in_ok-keys.keys.items c.sort_unstable.new.self.items c.in_ok-keys.ensures c.sort_unstable.ensures.permutation c.sort_unstable.ensures.sorted

pub returns-clause-ascend : goal.returns-clause-ascend
returns-clause-ascend g c = edges_ascend (g.R.Darts.graph c.args.records.now) c.requires.sound c.args.darts.now c.requires.forward c.requires.once c.in_ok-keys.keys.items c.sort_unstable.new.self.items c.in_ok-keys.ensures c.sort_unstable.ensures.permutation c.sort_unstable.ensures.sorted
