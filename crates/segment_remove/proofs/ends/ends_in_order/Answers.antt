use Rattle.std.proofs.Common.{map, ap, ◌∙◌}
use Rattle.segment_remove.specs.Ends.{AreEnds}
use Rattle.segment_remove.proofs.EndsOf.{ends_are, if_ok}
use Rattle.segment_remove.proofs.ends.ends_in_order.Goals as goal
use Rattle.record_orders.proofs.VertexKeys.{key_ties}

pub returns : goal.returns
returns c =
    let g = c.args.records.now.graph in
    let ks = c.args.edges.now in
    if_ok c.names_of.result _ (λ ws. AreEnds g ks ws.items)
    (λ ws e. ends_are g c.requires.sound ks c.requires.have c.in_ok-keys.keys.items c.sort_unstable.new.self.items c.dedup.new.self.items c.in_ok-keys.ensures _ key_ties c.sort_unstable.ensures.permutation c.sort_unstable.ensures.sorted c.dedup.ensures.filtered ws.items (e ∙ ap (map (λ k. k.name)) c.deref.ensures.value))
    c.names_of.ensures
