use Rattle.std.proofs.Common.{◌≡◌, ◌+◌, ◌<◌, ℕ, false, List, length, get_or, arith, sym, ap, ◌∙◌, subst}
use Rattle.std.specs.Prelude.{slice_set}
use Rattle.std.proofs.lemmas.Bool.{not-false}
use Rattle.std.proofs.lemmas.List.{length-set}
use Rattle.plane_graphs.proofs.Lists.{not_out}
use Rattle.plane_graphs.proofs.Sorting.{any_default}
use Rattle.region_rings.specs.declared.spokes.Spoke.{Spoke}
use Rattle.region_rings.specs.Spokes.{no_spoke, spoke_in}
use Rattle.region_rings.specs.Nexts.{IsFirstAt, IsLinkFrom}
use Rattle.region_rings.proofs.Rounds.{dart_in, out_kept, one_linked}
use Rattle.region_rings.proofs.Blocked.{not_closed, if_error}
use Rattle.region_rings.proofs.nexts.links_of.Goals as goal
use Rattle.region_rings.proofs.nexts.links_of.Goals.{then-not-spoke+in_ok-next, else-not-spoke}

pub set_number-requires : goal.set_number-requires
set_number-requires c =
    let ss = c.args.spokes.now in
    let n = c.loop-place.place in
    let l = c.loop-place-test.true in
    let is : c.index-spokes-place.result ≡ spoke_in ss n = c.index-spokes-place.is ∙ any_default ss n c.index-spokes-place.result no_spoke l in
    subst (λ (s : Spoke). s.dart < length c.loop-place.nexts.items) (sym is)
    (dart_in c.args.darts.now ss c.requires n l c.loop-place.nexts.items c.loop-place.invariant.counted c.loop-place.invariant.each (ap (λ (s : Spoke). s.is_out) (sym is) ∙ not_out c.index-spokes-place.result.is_out c.if-not-spoke.true))

pub loop-place-preserved : goal.loop-place-preserved
loop-place-preserved c =
    let ds = c.args.darts.now in
    let ss = c.args.spokes.now in
    let n = c.loop-place.place in
    let l = c.loop-place-test.true in
    let now = c.loop-place.nexts.items in
    let new = c.if-not-spoke.nexts.items in
    let inv = c.loop-place.invariant in
    let is : c.index-spokes-place.result ≡ spoke_in ss n = c.index-spokes-place.is ∙ any_default ss n c.index-spokes-place.result no_spoke l in
    let first : (i : ℕ) → n + 1 ≡ i + 1 → IsFirstAt ss i c.first_at-first.result = λ i e. (let q : n ≡ i = omega arith in subst (λ k. IsFirstAt ss k c.first_at-first.result) q c.first_at-first.ensures) in
    elim c.if-not-spoke.branch [
      | then-not-spoke+in_ok-next w ↦
          let e : new ≡ slice_set now (spoke_in ss n).dart w.in_ok-next.next = ap (λ v. v.items) w.nexts-is ∙ w.set_number.ensures ∙ ap (λ (s : Spoke). slice_set now s.dart w.in_ok-next.next) is in
          let o : (spoke_in ss n).is_out ≡ false = ap (λ (s : Spoke). s.is_out) (sym is) ∙ not_out c.index-spokes-place.result.is_out w.if-not-spoke.true in
          record {
            counted = ap length e ∙ length-set now (spoke_in ss n).dart w.in_ok-next.next ∙ inv.counted;
            first = first;
            each = one_linked ds ss c.requires n l now inv.counted inv.each o w.in_ok-next.next w.in_ok-next.ensures.next new e;
          }
      | else-not-spoke w ↦
          let e : new ≡ now = ap (λ v. v.items) w.nexts-is in
          record {
            counted = ap length e ∙ inv.counted;
            first = first;
            each = subst (λ (xs : List ℕ). (i : ℕ) → i < n + 1 → (spoke_in ss i).is_out ≡ false → IsLinkFrom ss i (get_or xs (spoke_in ss i).dart 0)) (sym e)
                (out_kept ds ss c.requires n l now inv.counted inv.each (ap (λ (s : Spoke). s.is_out) (sym is) ∙ not-false c.index-spokes-place.result.is_out w.if-not-spoke.false));
          }
    ]

pub returns-in_err-next-clause-error : goal.returns-in_err-next-clause-error
returns-in_err-next-clause-error c =
    let ss = c.args.spokes.now in
    let n = c.loop-place.place in
    let l = c.loop-place-test.true in
    let is : c.index-spokes-place.result ≡ spoke_in ss n = c.index-spokes-place.is ∙ any_default ss n c.index-spokes-place.result no_spoke l in
    let o : (spoke_in ss n).is_out ≡ false = ap (λ (s : Spoke). s.is_out) (sym is) ∙ not_out c.index-spokes-place.result.is_out c.if-not-spoke.true in
    if_error c.args.darts.now c.from_residual-in_err-next.result (not_closed c.args.darts.now ss c.requires n l o c.in_err-next.ensures.blocked)
