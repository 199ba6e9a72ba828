use Rattle.std.proofs.Common.{◌<◌, ℕ, length, get_or, sym, ap, ◌∙◌, arith}
use Rattle.slab_laws.specs.Rows.{dart_place, lead_list}
use Rattle.slab_laws.specs.SpansDrawn.{drawn}
use Rattle.std.proofs.lemmas.List.{length-map}
use Rattle.overlay_sweep.proofs.CycleRoots.{lead_within}
use Rattle.overlay_sweep.proofs.FaceLabels.{all_faces, outer_face, inner_face}
use Rattle.overlay_sweep.proofs.faces.labels_of_faces.Goals as goal
use Rattle.overlay_sweep.proofs.faces.labels_of_faces.Goals.{then-adds_face+in_ok-push-2, else-adds_face}

pub label_at-label-requires : goal.label_at-label-requires
label_at-label-requires c =
    let g = drawn c.args.points.now c.args.edges.now in
    let o = c.args.orbits.now in
    let n = length-map (lead_list g) (dart_place g) in
    let m = ap length c.requires.orbits.cycles in
    let k = c.requires.roots.counted in
    let i = c.loop-cycle-test.true in
    let w = lead_within g c.requires.plane o c.requires.orbits c.loop-cycle.cycle (omega arith) in
    let e = c.lead_of.ensures in
    let f = c.requires.labels in
    omega arith

pub loop-cycle-preserved : goal.loop-cycle-preserved
loop-cycle-preserved c =
    let g = drawn c.args.points.now c.args.edges.now in
    let o = c.args.orbits.now in
    let n = length-map (lead_list g) (dart_place g) in
    let m = ap length c.requires.orbits.cycles in
    let k = c.requires.roots.counted in
    let i = c.loop-cycle-test.true in
    let listed : c.loop-cycle.cycle < length o.cycles.items = omega arith in
    elim c.if-adds_face.branch [
      | then-adds_face+in_ok-push-2 w ↦
          outer_face g c.args.roots.now c.args.labels.now c.requires.plane o c.requires.orbits c.requires.roots c.loop-cycle.cycle c.loop-cycle.faces.items c.loop-cycle.invariant c.loop-cycle-test.true listed
          c.if-adds_face.faces.items w.label_at-label.result (sym c.adds_face.ensures ∙ w.if-adds_face.true)
          (w.label_at-label.ensures ∙ ap (λ (j : ℕ). get_or c.args.labels.now j 0) w.lead_of.ensures)
          (ap (λ v. v.items) w.faces-is ∙ w.in_ok-push-2.ensures.items)
      | else-adds_face w ↦
          inner_face g c.args.roots.now c.args.labels.now c.requires.plane o c.requires.orbits c.requires.roots c.loop-cycle.cycle c.loop-cycle.faces.items c.loop-cycle.invariant c.loop-cycle-test.true listed
          c.if-adds_face.faces.items (sym c.adds_face.ensures ∙ w.if-adds_face.false) (ap (λ v. v.items) w.faces-is)
    ]

pub returns : goal.returns
returns c = all_faces (drawn c.args.points.now c.args.edges.now) c.args.roots.now c.args.labels.now c.loop-cycle.cycle c.loop-cycle.faces.items c.loop-cycle-test.false c.loop-cycle.invariant
