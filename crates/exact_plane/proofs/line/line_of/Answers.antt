use Rattle.std.proofs.Common.{rules, ◌≡◌, pos, ◌-ℤ◌, ◌*ℤ◌, to_z, of_z, sym, subst}
use Rattle.std.specs.Int.{w64}
use Rattle.std.specs.Ordering.{int_cmp}
use Rattle.exact_plane.specs.Line.{Line, side_of, turn_at, IsOn}
use Rattle.exact_plane.specs.Point.{Point}
use Rattle.exact_plane.specs.Segment.{line_of_segment}
use Rattle.exact_plane.proofs.Lines.{are_line_numbers, lower_on, upper_on, left}
use Rattle.exact_plane.proofs.line.line_of.Goals as goal

pub lowest-requires : goal.lowest-requires
lowest-requires c =
    let s = c.segment.inside in
    let down : to_z w64 (of_z w64 c.difference-down.result) ≡ s.lower_y -ℤ s.upper_y = search rules in
    let across : to_z w64 (of_z w64 c.difference-across.result) ≡ s.upper_x -ℤ s.lower_x = search rules in
    let beyond : to_z w64 (of_z w64 c.offset-offset.result) ≡ s.lower_x *ℤ s.upper_y -ℤ s.upper_x *ℤ s.lower_y = search rules in
    rw (down, across, beyond) (are_line_numbers s.lower_x s.lower_y s.upper_x s.upper_y c.segment.invariant)

pub returns-clause-lower_on : goal.returns-clause-lower_on
returns-clause-lower_on c =
    let s = c.segment.inside in
    let e : c.lowest.result ≡ line_of_segment c.args.segment.now = search rules in
    subst (λ (l : Line). IsOn l c.args.segment.now.lower) (sym e) (lower_on s.lower_x s.lower_y s.upper_x s.upper_y c.segment.invariant c.args.segment.now c.segment.view_is)

pub returns-clause-upper_on : goal.returns-clause-upper_on
returns-clause-upper_on c =
    let s = c.segment.inside in
    let e : c.lowest.result ≡ line_of_segment c.args.segment.now = search rules in
    subst (λ (l : Line). IsOn l c.args.segment.now.upper) (sym e) (upper_on s.lower_x s.lower_y s.upper_x s.upper_y c.segment.invariant c.args.segment.now c.segment.view_is)

pub returns-clause-left : goal.returns-clause-left
returns-clause-left c =
    let s = c.segment.inside in
    let e : c.lowest.result ≡ line_of_segment c.args.segment.now = search rules in
    subst (λ (l : Line). (t : Point) → int_cmp (side_of l t) (pos 0) ≡ int_cmp (turn_at c.args.segment.now.lower c.args.segment.now.upper t) (pos 0)) (sym e) (left s.lower_x s.lower_y s.upper_x s.upper_y c.segment.invariant c.args.segment.now c.segment.view_is)

pub returns-clause-value : goal.returns-clause-value
returns-clause-value c = search rules

pub returns-clause-line : goal.returns-clause-line
returns-clause-line c = search rules
