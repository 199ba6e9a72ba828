use Rattle.std.proofs.Common.{map, ap, ◌∙◌}
use Rattle.record_orders.specs.Keys.{vertex_key}
use Rattle.record_orders.proofs.VertexKeys.{sorted_vertices}
use Rattle.record_orders.proofs.vertices.vertices_in_order.Goals as goal

pub keys_of-requires : goal.keys_of-requires
keys_of-requires g c = rw c.deref.ensures.value c.in_ok-names.ensures.have

pub returns : goal.returns
returns g c =
    let v = g.R.Darts.graph c.args.records.now in
    sorted_vertices v c.requires c.in_ok-keys.keys.items c.sort_unstable.new.self.items (c.in_ok-keys.ensures ∙ ap (map (vertex_key v)) (c.deref.ensures.value ∙ c.in_ok-names.ensures.names)) c.sort_unstable.ensures.permutation c.sort_unstable.ensures.sorted
