use Rattle.std.proofs.Common.{rules, ◌≡◌, ◌∙◌, pos, sym, subst, Ordering, Equal}
use Rattle.std.specs.Prelude.{◌↔◌}
use Rattle.exact_plane.specs.Line.{IsLine}
use Rattle.exact_plane.specs.MeetOf.{weight_of}
use Rattle.exact_plane.specs.Slope.{slope_cmp, IsVerticalLast}
use Rattle.exact_plane.proofs.SlopeLaws.{parallel, fractions, vertical_last, rise_is}
use Rattle.exact_plane.proofs.slopes.slope_order.Goals as goal

pub returns-clause-slopes : goal.returns-clause-slopes
returns-clause-slopes c = λ h k.
    let l = c.args.first.now in
    let m = c.args.second.now in
    let e : c.cmp.result ≡ slope_cmp l m = search rules in
    e ∙ fractions l m

pub returns-clause-vertical_last : goal.returns-clause-vertical_last
returns-clause-vertical_last c =
    let l = c.args.first.now in
    let m = c.args.second.now in
    let hl : IsLine c.args.first.now = search rules in
    let hm : IsLine c.args.second.now = search rules in
    let e : c.cmp.result ≡ slope_cmp l m = search rules in
    subst (λ (o : Ordering). IsVerticalLast l m o) (sym e) (vertical_last l m hl.runs hm.runs)

pub returns-clause-by_rise : goal.returns-clause-by_rise
returns-clause-by_rise c =
    let l = c.args.first.now in
    let m = c.args.second.now in
    let hl : IsLine c.args.first.now = search rules in
    let hm : IsLine c.args.second.now = search rules in
    let e : c.cmp.result ≡ slope_cmp l m = search rules in
    e ∙ sym (rise_is l m hl.runs hm.runs)

pub returns-clause-parallel : goal.returns-clause-parallel
returns-clause-parallel c =
    let l = c.args.first.now in
    let m = c.args.second.now in
    let e : c.cmp.result ≡ slope_cmp l m = search rules in
    subst (λ (o : Ordering). (o ≡ Equal) ↔ (weight_of l m ≡ pos 0)) (sym e) (parallel l m)
