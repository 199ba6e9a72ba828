use Rattle.std.proofs.Common.{◌∙◌, sym}
use Rattle.std.specs.Prelude.{◌&&◌, int_lt}
use Rattle.std.proofs.lemmas.Bool.{and_parts}
use Rattle.slab_laws.specs.Skeleton.{left_of}
use Rattle.lower_envelope.proofs.Apart.{wholly_over, wholly_under}
use Rattle.lower_envelope.proofs.order.is_lower.Goals as goal

pub returns-then-is_wholly_over : goal.returns-then-is_wholly_over
returns-then-is_wholly_over c =
    sym (wholly_over c.args.other.now c.args.edge.now c.laws-2.ensures c.laws.ensures c.requires.others c.requires.own
    ((λ i. int_lt (sym c.of-others.ensures i).greatest.y (sym c.of-bounds.ensures i).least.y) ∙ sym c.is_wholly_over.ensures ∙ c.if-is_wholly_over.true))

pub returns-then-is_wholly_under : goal.returns-then-is_wholly_under
returns-then-is_wholly_under c =
    let s = c.args.edge.now in
    let o = c.args.other.now in
    let h = (λ i. int_lt (sym c.of-bounds.ensures i).greatest.y (sym c.of-others.ensures i).least.y && (left_of s.lower o.upper && left_of o.lower s.upper)) ∙ sym c.is_wholly_under.ensures ∙ c.if-is_wholly_under.true in
    let a = and_parts _ _ h in
    sym (wholly_under s o c.laws.ensures c.laws-2.ensures c.requires.own c.requires.others a.0 a.1)
