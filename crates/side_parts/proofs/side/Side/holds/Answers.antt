use Rattle.std.proofs.Common.{◌≡◌, false, sym, ◌∙◌, subst}
use Rattle.side_parts.specs.SideParts.{holds as holds_point}
use Rattle.side_parts.proofs.Boxed.{outside}
use Rattle.side_parts.proofs.side.Side.holds.Goals as goal

pub returns-then-is_outside : goal.returns-then-is_outside
returns-then-is_outside c =
    let i = c.self.inside in
    subst (λ s. false ≡ holds_point s c.args.point.now) c.self.view_is (sym (outside i.segment c.self.invariant.2 c.args.point.now c.laws.ensures i.bounds c.self.invariant.1 (sym c.is_outside.ensures ∙ c.if-is_outside.true)))
