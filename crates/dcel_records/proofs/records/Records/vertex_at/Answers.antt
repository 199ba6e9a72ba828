use Rattle.std.proofs.Common.{ℕ, List, sym, ap, subst, ◌∙◌}
use Rattle.slab_laws.specs.View.{VertexRecord}
use Rattle.dcel_records.specs.Spots.{IsVertexAt}
use Rattle.dcel_records.specs.VertexMaps.{IsMapOf}
use Rattle.dcel_records.proofs.VertexMapped.{mapped_is}
use Rattle.dcel_records.proofs.AtPoint.{all_left, one_passed, found_at, none_at}
use Rattle.dcel_records.proofs.Holding.{graph_seen}
use Rattle.dcel_records.proofs.records.Records.vertex_at.Goals as goal

pub loop-key-init : goal.loop-key-init
loop-key-init c = record {
  can_next = tt;
  is_finite = tt;
  left =
      all_left c.self.inside.vertices c.self.inside.darts _ (graph_seen c.self.inside _ c.self.view_is)
      c.args.point.now _ (c.into_iter-key-iterator.ensures.into_iter_gives ∙ c.iter-key-items.ensures);
}

pub returns-then-self : goal.returns-then-self
returns-then-self c =
    subst (IsVertexAt c.args.self.now.graph c.args.point.now) (sym c.vertex.ensures)
    (mapped_is _ c.args.self.now.graph c.args.point.now c.if-self.true (subst (λ (rs : List (ℕ × VertexRecord)). IsMapOf c.self.inside.at rs) (ap (λ x. x.graph.vertices) c.self.view_is) c.self.invariant.graph.mapped))

pub returns-then-eq : goal.returns-then-eq
returns-then-eq c = found_at c.args.self.now.graph c.args.point.now c.loop-key.key-iterator c.next.new.self c.in-Some.key c.in-Some.vertex.now c.in-Some.ensures.steps c.loop-key.invariant.left c.eq.result c.eq.ensures c.if-eq.true

pub loop-key-preserved : goal.loop-key-preserved
loop-key-preserved c = record {
  can_next = tt;
  is_finite = tt;
  left = one_passed c.args.self.now.graph c.args.point.now c.loop-key.key-iterator c.next.new.self c.in-Some.key c.in-Some.vertex.now c.in-Some.ensures.steps c.loop-key.invariant.left c.eq.result c.eq.ensures c.if-eq.false;
}

pub returns : goal.returns
returns c = none_at c.args.self.now.graph c.args.point.now c.loop-key.key-iterator c.in-None.ensures.steps.0 c.loop-key.invariant.left
