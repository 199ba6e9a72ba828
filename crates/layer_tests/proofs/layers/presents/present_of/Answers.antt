use Rattle.std.proofs.Common.{sym, ap, subst, ◌∙◌}
use Rattle.plane_graphs.specs.Fit.{IsFit}
use Rattle.record_orders.specs.Keys.{vertex_keys}
use Rattle.subdivision_rows.specs.ByName.{points_at, pinned_among}
use Rattle.arrangement.specs.Arranged.{arranged}
use Rattle.arrangement.proofs.PresentsRead.{read}
use Rattle.layer_tests.proofs.layers.presents.present_of.Goals as goal

pub vertices_in_order-requires : goal.vertices_in_order-requires
vertices_in_order-requires g c = rw c.records.ensures.graph c.laws.ensures.sound

pub pins_of-requires-clause-sound : goal.pins_of-requires-clause-sound
pins_of-requires-clause-sound g c = rw c.records-2.ensures.graph c.laws.ensures.sound

pub pins_of-requires-clause-vertices : goal.pins_of-requires-clause-vertices
pins_of-requires-clause-vertices g c = c.deref.ensures.value ∙ c.in_ok-vertices.ensures ∙ ap vertex_keys (c.records.ensures.graph ∙ sym c.records-2.ensures.graph)

pub returns : goal.returns
returns g c =
    let a = arranged (goal.Observer-dyn g) c.args.layer.now in
    let vertices = c.deref.ensures.value ∙ c.in_ok-vertices.ensures ∙ ap vertex_keys c.records.ensures.graph in
    let pins = c.in_ok-pins.ensures ∙ ap (λ u. points_at (pinned_among u c.deref.result.now)) c.records-2.ensures.graph ∙ ap (λ ks. points_at (pinned_among a.graph ks)) vertices in
    subst IsFit (sym (read a.graph a.past c.laws.ensures.layer c.in_ok-pieces.pieces c.in_ok-pins.pins (c.in_ok-pieces.ensures ∙ ap (λ h. h.pieces) c.history.ensures) pins)) c.laws.ensures.layer.lawful.fit
