use Rattle.std.proofs.Common.{◌<◌, arith, ap, ◌∙◌, subst, length, map}
use Rattle.std.proofs.lemmas.List.{take_all}
use Rattle.std.specs.Prelude.{filter}
use Rattle.slab_laws.specs.SpansDrawn.{drawn}
use Rattle.slab_laws.specs.Rows.{dart_list, dart_place}
use Rattle.dart_orbits.proofs.LeadsRead.{leads_length, is_on_cycle, not_on_cycle}
use Rattle.dart_orbits.proofs.LeastDarts.{is_least, more_least, no_more, least_listed}
use Rattle.dart_orbits.proofs.cycles.least_darts_among.Goals as goal
use Rattle.dart_orbits.proofs.cycles.least_darts_among.Goals.{then-lead-place+in_ok-push, else-lead-place}

pub loop-place-preserved : goal.loop-place-preserved
loop-place-preserved c =
    let g = drawn c.args.points.now c.args.edges.now in
    let plane = c.requires.plane in
    let i = c.loop-place.place in
    let k : i < length (dart_list g) = subst (λ n. i < n) (ap length c.requires.leads ∙ leads_length g) c.loop-place-test.true in
    elim c.if-lead-place.branch [
      | then-lead-place+in_ok-push w ↦
          let m = more_least g plane i k c.loop-place.cycles.items c.loop-place.invariant (is_on_cycle g plane c.args.leads.now c.requires.leads i i k k w.if-lead-place.true) in
          ap (λ v. v.items) w.cycles-is ∙ w.in_ok-push.ensures.items ∙ m
      | else-lead-place w ↦
          let m = no_more g plane i k c.loop-place.cycles.items c.loop-place.invariant (not_on_cycle g plane c.args.leads.now c.requires.leads i i k k w.if-lead-place.false) in
          ap (λ v. v.items) w.cycles-is ∙ m
    ]

pub returns : goal.returns
returns c =
    let g = drawn c.args.points.now c.args.edges.now in
    let n = ap length c.requires.leads ∙ leads_length g in
    c.loop-place.invariant
    ∙ ap (λ ds. map (dart_place g) (filter (is_least g) ds)) (take_all c.loop-place.place (dart_list g) (omega arith))
    ∙ ap (map (dart_place g)) (least_listed g c.requires.plane)
