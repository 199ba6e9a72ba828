use Rattle.std.proofs.Common.{rules, ◌≡◌, ◌-ℤ◌, ◌*ℤ◌, to_z, of_z, ap, sym, ◌∙◌}
use Rattle.std.specs.Int.{w64, w128}
use Rattle.exact_plane.specs.Plane.{side}
use Rattle.exact_plane.specs.Sign.{sign_of, sign_by}
use Rattle.exact_plane.proofs.Lines.{by_ends}
use Rattle.exact_plane.proofs.sides.orientation.Goals as goal

pub returns : goal.returns
returns c =
    let s = c.segment.inside in
    let t = c.args.point.now in
    let down : to_z w64 (of_z w64 c.difference-down.result) ≡ s.lower_y -ℤ s.upper_y = search rules in
    let across : to_z w64 (of_z w64 c.difference-across.result) ≡ s.upper_x -ℤ s.lower_x = search rules in
    let beyond : to_z w64 (of_z w64 c.offset-offset.result) ≡ s.lower_x *ℤ s.upper_y -ℤ s.upper_x *ℤ s.lower_y = search rules in
    let value : to_z w128 (of_z w128 c.side_value-value.result) ≡ side (to_z w64 (of_z w64 c.difference-down.result)) (to_z w64 (of_z w64 c.difference-across.result)) (to_z w64 (of_z w64 c.offset-offset.result)) t.x t.y t.w = search rules in
    c.as_sign.ensures ∙ ap sign_of (value ∙ (λ i. side (down i) (across i) (beyond i) t.x t.y t.w)) ∙ ap sign_by (sym (by_ends s.lower_x s.lower_y s.upper_x s.upper_y c.segment.invariant c.args.segment.now c.segment.view_is t))

pub difference-across-requires : goal.difference-across-requires
difference-across-requires c = record { first = search rules; second = search rules }

pub difference-down-requires : goal.difference-down-requires
difference-down-requires c = record { first = search rules; second = search rules }

pub side_value-value-requires : goal.side_value-value-requires
side_value-value-requires c = record { a = search rules; b = search rules; c = search rules }
