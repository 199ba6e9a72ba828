use Rattle.std.proofs.Common.{◌≡◌, ◌∙◌, sym, ap, subst, List, Bool, false}
use Rattle.std.specs.List.{Contains}
use Rattle.std.specs.Prelude.{Option, Some, None, IfSome, is_some, not}
use Rattle.std.proofs.lemmas.Bool.{false≢true}
use Rattle.record_orders.specs.declared.vertices.VertexKey.{VertexKey}
use Rattle.record_orders.specs.Keys.{vertex_key, vertex_keys}
use Rattle.slab_laws.specs.declared.names.DartId.{DartId}
use Rattle.slab_laws.specs.View.{IsOutOf}
use Rattle.locate_trapezoid.specs.declared.node.Test.TheVariants.{Vertex}
use Rattle.locate_trapezoid.proofs.Orders.{none_added, one_added, all_added, vertex_of_key, key_of_vertex}
use Rattle.locate_trapezoid.proofs.order.add_isolated.Goals as goal

some_dart : (P : DartId → Type 0) (o : Option DartId) (b : Bool) → is_some o ≡ not b → b ≡ false → IfSome o P → (d : DartId) × P d
some_dart P (Some d) b e f h = (d, h)
some_dart P None b e f h = absurd (false≢true (e ∙ ap not f))

pub keys-init : goal.keys-init
keys-init g c = none_added (g.R.Darts.graph c.args.records.now) c.deref-key-items.result.now (λ k. Vertex k.name) (λ k. (d : DartId) × IsOutOf (g.R.Darts.graph c.args.records.now) k.name d) c.args.tests.now.items c.requires.tests

pub out_of-requires : goal.out_of-requires
out_of-requires g c =
    let v = g.R.Darts.graph c.args.records.now in
    let keys = c.deref-key-items.result.now in
    let is : keys ≡ vertex_keys v = c.deref-key-items.ensures.value ∙ c.in_ok-keys.ensures in
    vertex_of_key v c.requires.sound c.key-item.result (subst (λ (l : List VertexKey). Contains l c.key-item.result) is (c.keys.key-index, c.keys-test.true, sym c.key-item.is))

pub keys-preserved : goal.keys-preserved
keys-preserved g c =
    let v = g.R.Darts.graph c.args.records.now in
    let k = c.key-item.result in
    let keys = c.deref-key-items.result.now in
    let is : keys ≡ vertex_keys v = c.deref-key-items.ensures.value ∙ c.in_ok-keys.ensures in
    let has = vertex_of_key v c.requires.sound k (subst (λ (l : List VertexKey). Contains l k) is (c.keys.key-index, c.keys-test.true, sym c.key-item.is)) in
    one_added v keys (λ k. Vertex k.name) (λ k. (d : DartId) × IsOutOf v k.name d) c.args.tests.now.items c.keys.tests.items c.add.new.tests.items c.keys.key-index k c.is_none-is_isolated.result
    c.keys-test.true c.key-item.is c.in_ok-add.ensures
    (λ h. has)
    (λ h. some_dart (IsOutOf v k.name) c.out_of.result c.is_none-is_isolated.result c.is_none-is_isolated.ensures h c.out_of.ensures.some)
    c.keys.invariant

pub returns-clause-vertices : goal.returns-clause-vertices
returns-clause-vertices g c = λ w has.
    let v = g.R.Darts.graph c.args.records.now in
    let keys = c.deref-key-items.result.now in
    let is : keys ≡ vertex_keys v = c.deref-key-items.ensures.value ∙ c.in_ok-keys.ensures in
    all_added v keys (λ k. Vertex k.name) (λ k. (d : DartId) × IsOutOf v k.name d) c.args.tests.now.items c.keys.tests.items c.keys.key-index (vertex_key v w) c.keys-test.false (subst (λ (l : List VertexKey). Contains l (vertex_key v w)) (sym is) (key_of_vertex v c.requires.sound w has)) c.keys.invariant
