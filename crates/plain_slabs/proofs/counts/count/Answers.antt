use Rattle.std.proofs.Common.{rules, ap, ◌∙◌}
use Rattle.std.specs.Prelude.{not, ◌||◌}
use Rattle.std.specs.List.{count_by, list_any}
use Rattle.slab_laws.specs.Kinds.{is_outer}
use Rattle.slab_laws.specs.Skeleton.{same_point}
use Rattle.plain_slabs.proofs.Counted.{vertices_many, edges_many, inner_many, isolated_many}
use Rattle.plain_slabs.proofs.counts.count.Goals as goal

pub returns-clause-vertices : goal.returns-clause-vertices
returns-clause-vertices c = vertices_many c.lists-lists.result.now c.args.plain.now c.lists-lists.ensures.sound (c.lists-lists.ensures.drawing ∙ c.plain.view_is) c.len.result (search rules)

pub returns-clause-edges : goal.returns-clause-edges
returns-clause-edges c = edges_many c.lists-lists.result.now c.args.plain.now c.lists-lists.ensures.sound (c.lists-lists.ensures.drawing ∙ c.plain.view_is) c.len-2.result (search rules)

pub returns-clause-inner : goal.returns-clause-inner
returns-clause-inner c =
    inner_many c.lists-lists.result.now c.args.plain.now c.lists-lists.ensures.sound (c.lists-lists.ensures.drawing ∙ c.plain.view_is) c.count_inner.result
    (c.count_inner.ensures ∙ ap (count_by (λ c. not (is_outer c))) c.deref.ensures.value)

pub returns-clause-isolated : goal.returns-clause-isolated
returns-clause-isolated c =
    isolated_many c.lists-lists.result.now c.args.plain.now c.lists-lists.ensures.sound (c.lists-lists.ensures.drawing ∙ c.plain.view_is) c.count_isolated.result
    (c.count_isolated.ensures ∙ (λ i. count_by (λ p. not (list_any (λ s. same_point s.lower p || same_point s.upper p) (c.deref-3.ensures.value i))) (c.deref-2.ensures.value i)))
