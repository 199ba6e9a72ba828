use Rattle.std.specs.Int.{w128}
use Rattle.std.proofs.Common.{rules, to_z, of_z, ◌≡◌, ◌+ℤ◌, ◌*ℤ◌, ap₂, ◌∙◌}
use Rattle.std.specs.Ordering.{int_cmp}
use Rattle.exact_plane.specs.Point.{IsPoint}
use Rattle.exact_plane.proofs.Heights.{height_cmp-is}
use Rattle.exact_plane.proofs.sides.above_at.Goals as goal

pub returns-clause-value : goal.returns-clause-value
returns-clause-value c =
    let l = c.args.first.now in
    let m = c.args.second.now in
    let p = c.args.point.now in
    let h : IsPoint c.args.point.now = search rules in
    let first : to_z w128 (of_z w128 c.by_other-of_first.result) ≡ (l.a *ℤ p.x +ℤ l.c *ℤ p.w) *ℤ m.b = search rules in
    let second : to_z w128 (of_z w128 c.by_other-of_second.result) ≡ (m.a *ℤ p.x +ℤ m.c *ℤ p.w) *ℤ l.b = search rules in
    c.cmp.ensures ∙ ap₂ int_cmp second first ∙ height_cmp-is l m p h.range.positive

pub returns-clause-limit : goal.returns-clause-limit
returns-clause-limit c = search rules
