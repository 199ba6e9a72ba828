use Rattle.std.proofs.Common.{◌<◌, arith, sym, ap, ◌∙◌, subst, length}
use Rattle.std.specs.Prelude.{◌==◌, ◌%◌}
use Rattle.std.specs.List.{count_by}
use Rattle.std.proofs.lemmas.List.{take_all}
use Rattle.slab_laws.specs.SpansDrawn.{drawn}
use Rattle.slab_laws.specs.Rows.{dart_list, dart_at, no_dart}
use Rattle.dart_orbits.proofs.Listed.{rows_length, row_there}
use Rattle.plain_slabs.proofs.EdgeRows.{row_within, row_edge, row_forward}
use Rattle.dart_orbits.proofs.LeadsRead.{leads_length, is_on_cycle, not_on_cycle}
use Rattle.dart_orbits.proofs.DartCells.{dart_there}
use Rattle.plain_slabs.proofs.Oddness.{counts, counts_by, counts_not, odd_is, one_counts, one_passes}
use Rattle.plain_slabs.proofs.outer.is_outer.Goals as goal
use Rattle.plain_slabs.proofs.outer.is_outer.Goals.{then-leads-place+then-is_above_dart, else-leads-place, else-leads-place-via-then-leads-place+else-is_above_dart, else-leads-place-via-else-leads-place}

pub bounds-edges-dart : goal.bounds-edges-dart
bounds-edges-dart c = row_within c.args.points.now c.args.edges.now c.requires.plane c.args.darts.now c.requires.darts c.args.lead _ c.requires.lead

pub offset_bounds-edges-dart : goal.offset_bounds-edges-dart
offset_bounds-edges-dart c = let b = bounds-edges-dart c in omega arith

pub bounds-leads-place : goal.bounds-leads-place
bounds-leads-place c =
    let k = row_there (drawn c.args.points.now c.args.edges.now) c.args.darts.now c.requires.darts c.loop-place.place c.loop-place-test.true in
    let e = ap length c.requires.leads ∙ leads_length (drawn c.args.points.now c.args.edges.now) in
    subst (λ n. c.loop-place.place < n) (sym e) k

pub bounds-edges-other : goal.bounds-edges-other
bounds-edges-other c = row_within c.args.points.now c.args.edges.now c.requires.plane c.args.darts.now c.requires.darts c.loop-place.place _ c.loop-place-test.true

pub offset_bounds-edges-other : goal.offset_bounds-edges-other
offset_bounds-edges-other c = let b = bounds-edges-other c in omega arith

pub loop-place-preserved : goal.loop-place-preserved
loop-place-preserved c =
    let vs = c.args.points.now in
    let ss = c.args.edges.now in
    let rows = c.args.darts.now in
    let g = drawn vs ss in
    let i = c.loop-place.place in
    let own = dart_at g c.args.lead in
    let other = dart_at g i in
    let plane = c.requires.plane in
    let k = row_there (drawn vs ss) rows c.requires.darts i c.loop-place-test.true in
    let l = row_there (drawn vs ss) rows c.requires.darts c.args.lead c.requires.lead in
    let e = row_edge vs ss plane rows c.requires.darts c.args.lead _ c.requires.lead c.index-edges-dart.result c.index-edges-dart.is in
    elim c.if-leads-place.branch [
      | then-leads-place+then-is_above_dart w ↦
          let f = row_edge vs ss plane rows c.requires.darts i _ c.loop-place-test.true w.index-edges-other.result w.index-edges-other.is in
          let on = is_on_cycle g plane c.args.leads.now c.requires.leads i c.args.lead k l w.if-leads-place.true in
          let told = counts_by g own other _ _ _ w.is_above_dart.result e (row_forward vs ss plane rows c.requires.darts c.args.lead _ c.requires.lead) f on w.is_above_dart.ensures in
          w.is_odd-is ∙ one_counts (counts g own) (dart_list g) i no_dart k (told ∙ w.if-is_above_dart.true) c.loop-place.is_odd c.loop-place.invariant
      | else-leads-place w ↦
          elim w.else-leads-place.branch [
            | else-leads-place-via-then-leads-place+else-is_above_dart w' ↦
                let f = row_edge vs ss plane rows c.requires.darts i _ c.loop-place-test.true w'.index-edges-other.result w'.index-edges-other.is in
                let on = is_on_cycle g plane c.args.leads.now c.requires.leads i c.args.lead k l w'.if-leads-place.true in
                let told = counts_by g own other _ _ _ w'.is_above_dart.result e (row_forward vs ss plane rows c.requires.darts c.args.lead _ c.requires.lead) f on w'.is_above_dart.ensures in
                w.is_odd-is ∙ one_passes (counts g own) (dart_list g) i no_dart k (told ∙ w'.if-is_above_dart.false) c.loop-place.is_odd c.loop-place.invariant
            | else-leads-place-via-else-leads-place w' ↦
                let off = not_on_cycle g plane c.args.leads.now c.requires.leads i c.args.lead k l w'.if-leads-place.false in
                w.is_odd-is ∙ one_passes (counts g own) (dart_list g) i no_dart k (counts_not g own other off) c.loop-place.is_odd c.loop-place.invariant
          ]
    ]

pub returns : goal.returns
returns c =
    let vs = c.args.points.now in
    let ss = c.args.edges.now in
    let g = drawn vs ss in
    let l = row_there (drawn vs ss) c.args.darts.now c.requires.darts c.args.lead c.requires.lead in
    let n = ap length c.requires.darts ∙ rows_length g in
    c.loop-place.invariant
    ∙ ap (λ ds. count_by (counts g (dart_at g c.args.lead)) ds % 2 == 1) (take_all c.loop-place.place (dart_list g) (omega arith))
    ∙ sym (odd_is g c.requires.plane (dart_at g c.args.lead) (dart_there g c.requires.plane c.args.lead l))
