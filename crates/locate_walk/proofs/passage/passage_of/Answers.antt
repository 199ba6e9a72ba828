use Rattle.std.proofs.Common.{◌≡◌, true, ◌∙◌, sym, ◌&&◌, pos, ◌<ℤ◌}
use Rattle.std.specs.Prelude.{int_lt}
use Rattle.integers.proofs.Decisions.{both, lt_out}
use Rattle.exact_plane.specs.Point.{Point}
use Rattle.exact_plane.specs.WholeParts.{whole_parts}
use Rattle.exact_plane.specs.declared.whole_parts.WholeParts.{WholeParts}
use Rattle.exact_plane.proofs.WholeOrders.{before_by_whole}
use Rattle.plane_graphs.proofs.Lines.{point_is_proper}
use Rattle.locate_walk.specs.Passages.{IsBetween}
use Rattle.locate_walk.proofs.passage.passage_of.Goals as goal

-- what lies between by whole parts lies between
between : (a p b : Point) (f m t : WholeParts) → f ≡ whole_parts a → m ≡ whole_parts p → t ≡ whole_parts b → pos 0 <ℤ a.w → pos 0 <ℤ p.w → pos 0 <ℤ b.w → (int_lt f.x m.x && int_lt m.x t.x) ≡ true → IsBetween a p b
between a p b f m t F M T A P B h =
    let k = both (int_lt (whole_parts a).x (whole_parts p).x) (int_lt (whole_parts p).x (whole_parts b).x) ((λ i. int_lt (sym F i).x (sym M i).x && int_lt (sym M i).x (sym T i).x) ∙ h) in
    (before_by_whole a p A P (lt_out _ _ k.0), before_by_whole p b P B (lt_out _ _ k.1))

pub returns-then-is_between : goal.returns-then-is_between
returns-then-is_between c =
    between c.args.looked.now.source c.args.point.now c.args.looked.now.target c.source_parts-from.result c.whole_parts-at.result c.target_parts-to.result c.source_parts-from.ensures c.whole_parts-at.ensures c.target_parts-to.ensures
    c.requires.weights.0 (point_is_proper c.args.point.now c.laws.ensures).positive c.requires.weights.1 (sym c.is_between.ensures ∙ c.if-is_between.true)

pub returns-then-is_between-2 : goal.returns-then-is_between-2
returns-then-is_between-2 c =
    between c.args.looked.now.target c.args.point.now c.args.looked.now.source c.target_parts-to.result c.whole_parts-at.result c.source_parts-from.result c.target_parts-to.ensures c.whole_parts-at.ensures c.source_parts-from.ensures
    c.requires.weights.1 (point_is_proper c.args.point.now c.laws.ensures).positive c.requires.weights.0 (sym c.is_between-2.ensures ∙ c.if-is_between-2.true)
