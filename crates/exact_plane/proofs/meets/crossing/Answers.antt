use Rattle.std.proofs.Common.{rules, ◌≡◌, true, false, to_z, of_z, ap, sym, ◌∙◌, subst}
use Rattle.std.specs.Prelude.{◌&&◌}
use Rattle.std.specs.Int.{w64, w128}
use Rattle.exact_plane.specs.declared.meets.Meet.TheVariants.{At}
use Rattle.exact_plane.specs.MeetOf.{crossing, is_between}
use Rattle.exact_plane.specs.Point.{Point, reduced, in_range, IsPoint}
use Rattle.exact_plane.proofs.Lowest.{is_in_range, reduced_point}
use Rattle.exact_plane.proofs.Meetings.{common_within, common_outside, crossing_found, crossing_missed}
use Rattle.exact_plane.proofs.meets.crossing.Goals as goal

pub returns-then-not-is_in_range : goal.returns-then-not-is_in_range
returns-then-not-is_in_range c =
    let l = c.args.first.now.line in
    let m = c.args.second.now.line in
    let x : to_z w128 (of_z w128 c.cross_abscissa-x.result) ≡ (crossing l m).x = search rules in
    let y : to_z w128 (of_z w128 c.cross_ordinate-y.result) ≡ (crossing l m).y = search rules in
    let w : to_z w64 (of_z w64 c.cross_weight-w.result) ≡ (crossing l m).w = search rules in
    let outside : in_range (to_z w128 (of_z w128 c.cross_abscissa-x.result)) (to_z w128 (of_z w128 c.cross_ordinate-y.result)) (to_z w64 (of_z w64 c.cross_weight-w.result)) ≡ false = search rules in
    crossing_missed c.args.first.now c.args.second.now _ _ _ x y w (common_outside c.args.first.now c.args.second.now (record { x = to_z w128 (of_z w128 c.cross_abscissa-x.result); y = to_z w128 (of_z w128 c.cross_ordinate-y.result); w = to_z w64 (of_z w64 c.cross_weight-w.result) }) outside)

pub of-place-requires : goal.of-place-requires
of-place-requires c =
    let inside : in_range (to_z w128 (of_z w128 c.cross_abscissa-x.result)) (to_z w128 (of_z w128 c.cross_ordinate-y.result)) (to_z w64 (of_z w64 c.cross_weight-w.result)) ≡ true = search rules in
    is_in_range (to_z w128 (of_z w128 c.cross_abscissa-x.result)) (to_z w128 (of_z w128 c.cross_ordinate-y.result)) (to_z w64 (of_z w64 c.cross_weight-w.result)) inside

pub invariant_of-result : goal.invariant_of-result
invariant_of-result c =
    let inside : in_range (to_z w128 (of_z w128 c.cross_abscissa-x.result)) (to_z w128 (of_z w128 c.cross_ordinate-y.result)) (to_z w64 (of_z w64 c.cross_weight-w.result)) ≡ true = search rules in
    let e : c.lowest.result ≡ reduced (to_z w128 (of_z w128 c.cross_abscissa-x.result)) (to_z w128 (of_z w128 c.cross_ordinate-y.result)) (to_z w64 (of_z w64 c.cross_weight-w.result)) = search rules in
    subst IsPoint (sym e) (reduced_point (to_z w128 (of_z w128 c.cross_abscissa-x.result)) (to_z w128 (of_z w128 c.cross_ordinate-y.result)) (to_z w64 (of_z w64 c.cross_weight-w.result)) (is_in_range (to_z w128 (of_z w128 c.cross_abscissa-x.result)) (to_z w128 (of_z w128 c.cross_ordinate-y.result)) (to_z w64 (of_z w64 c.cross_weight-w.result)) inside))

pub returns-then-is_between_both : goal.returns-then-is_between_both
returns-then-is_between_both c =
    let l = c.args.first.now.line in
    let m = c.args.second.now.line in
    let x : to_z w128 (of_z w128 c.cross_abscissa-x.result) ≡ (crossing l m).x = search rules in
    let y : to_z w128 (of_z w128 c.cross_ordinate-y.result) ≡ (crossing l m).y = search rules in
    let w : to_z w64 (of_z w64 c.cross_weight-w.result) ≡ (crossing l m).w = search rules in
    let inside : in_range (to_z w128 (of_z w128 c.cross_abscissa-x.result)) (to_z w128 (of_z w128 c.cross_ordinate-y.result)) (to_z w64 (of_z w64 c.cross_weight-w.result)) ≡ true = search rules in
    let found : (is_between c.args.first.now (record { x = to_z w128 (of_z w128 c.cross_abscissa-x.result); y = to_z w128 (of_z w128 c.cross_ordinate-y.result); w = to_z w64 (of_z w64 c.cross_weight-w.result) }) && is_between c.args.second.now (record { x = to_z w128 (of_z w128 c.cross_abscissa-x.result); y = to_z w128 (of_z w128 c.cross_ordinate-y.result); w = to_z w64 (of_z w64 c.cross_weight-w.result) })) ≡ true = search rules in
    let e : c.lowest.result ≡ reduced (to_z w128 (of_z w128 c.cross_abscissa-x.result)) (to_z w128 (of_z w128 c.cross_ordinate-y.result)) (to_z w64 (of_z w64 c.cross_weight-w.result)) = search rules in
    ap (λ (p : Point). At p) e ∙ crossing_found c.args.first.now c.args.second.now _ _ _ x y w (sym (common_within c.args.first.now c.args.second.now (record { x = to_z w128 (of_z w128 c.cross_abscissa-x.result); y = to_z w128 (of_z w128 c.cross_ordinate-y.result); w = to_z w64 (of_z w64 c.cross_weight-w.result) }) inside) ∙ found)

pub returns-else-is_between_both : goal.returns-else-is_between_both
returns-else-is_between_both c =
    let l = c.args.first.now.line in
    let m = c.args.second.now.line in
    let x : to_z w128 (of_z w128 c.cross_abscissa-x.result) ≡ (crossing l m).x = search rules in
    let y : to_z w128 (of_z w128 c.cross_ordinate-y.result) ≡ (crossing l m).y = search rules in
    let w : to_z w64 (of_z w64 c.cross_weight-w.result) ≡ (crossing l m).w = search rules in
    let inside : in_range (to_z w128 (of_z w128 c.cross_abscissa-x.result)) (to_z w128 (of_z w128 c.cross_ordinate-y.result)) (to_z w64 (of_z w64 c.cross_weight-w.result)) ≡ true = search rules in
    let found : (is_between c.args.first.now (record { x = to_z w128 (of_z w128 c.cross_abscissa-x.result); y = to_z w128 (of_z w128 c.cross_ordinate-y.result); w = to_z w64 (of_z w64 c.cross_weight-w.result) }) && is_between c.args.second.now (record { x = to_z w128 (of_z w128 c.cross_abscissa-x.result); y = to_z w128 (of_z w128 c.cross_ordinate-y.result); w = to_z w64 (of_z w64 c.cross_weight-w.result) })) ≡ false = search rules in
    crossing_missed c.args.first.now c.args.second.now _ _ _ x y w (sym (common_within c.args.first.now c.args.second.now (record { x = to_z w128 (of_z w128 c.cross_abscissa-x.result); y = to_z w128 (of_z w128 c.cross_ordinate-y.result); w = to_z w64 (of_z w64 c.cross_weight-w.result) }) inside) ∙ found)
