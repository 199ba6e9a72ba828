use Rattle.std.proofs.Common.{[], ◌∷◌, ◌++◌, ap, ◌∙◌, map, get_or}
use Rattle.std.proofs.lemmas.List.{map_push}
use Rattle.plane_graphs.specs.Graph.{Mark}
use Rattle.plane_graphs.proofs.Loops.{mapped, all_mapped}
use Rattle.plane_graphs.proofs.Sorting.{any_default, member_at}
use Rattle.present_graphs.specs.Marks.{mark_of}
use Rattle.slab_laws.specs.Pieces.{present_of}
use Rattle.sweep_graphs.specs.declared.trace.Stretch.{Stretch}
use Rattle.sweep_graphs.specs.Edges.{mark_along}
use Rattle.overlay_sweep.proofs.rows.marks_of_stretches.Goals as goal

abbrev no_stretch : Stretch
no_stretch = record { low = 0; high = 0; piece = 0 }

pub loop-stretch-init : goal.loop-stretch-init
loop-stretch-init c = ap (map mark_of) c.in_ok-marks.ensures.items

pub mark_of_stretch-requires : goal.mark_of_stretch-requires
mark_of_stretch-requires c = c.requires _ (member_at c.args.stretches.now c.loop-stretch.stretch-index no_stretch c.loop-stretch-test.true)

pub loop-stretch-preserved : goal.loop-stretch-preserved
loop-stretch-preserved c =
    let ss = c.args.stretches.now in
    let i = c.loop-stretch.stretch-index in
    let s = get_or ss i no_stretch in
    let marks = c.loop-stretch.marks.items in
    mapped (mark_along (present_of c.args.present.now) c.args.points.now) ss i s (map mark_of marks) (map mark_of c.push.new.self.items) c.loop-stretch-test.true (any_default ss i no_stretch s c.loop-stretch-test.true) c.loop-stretch.invariant
    (ap (map mark_of) c.in_ok-push.ensures.items ∙ map_push mark_of marks c.mark_of_stretch.result ∙ ap (λ (m : Mark). map mark_of marks ++ m ∷ []) c.mark_of_stretch.ensures)

pub returns : goal.returns
returns c = all_mapped (mark_along (present_of c.args.present.now) c.args.points.now) c.args.stretches.now c.loop-stretch.stretch-index (map mark_of c.loop-stretch.marks.items) c.loop-stretch-test.false c.loop-stretch.invariant
