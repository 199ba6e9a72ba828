use Rattle.std.proofs.Common.{[], ◌∷◌, ◌++◌, ap, ◌∙◌, get_or}
use Rattle.plane_graphs.proofs.Loops.{mapped, all_mapped}
use Rattle.plane_graphs.proofs.Sorting.{any_default}
use Rattle.slab_laws.specs.declared.names.CycleKind.{CycleKind}
use Rattle.slab_laws.specs.Kinds.{kind_by}
use Rattle.face_roots.specs.declared.ranks.Root.TheVariants.{Outer}
use Rattle.overlay_sweep.specs.GraphRows.{kind_of_root}
use Rattle.overlay_sweep.proofs.rows.kinds_of.Goals as goal

pub loop-root-preserved : goal.loop-root-preserved
loop-root-preserved c =
    let rs = c.args.roots.now in
    let i = c.loop-root.root-index in
    let r = get_or rs i Outer in
    mapped kind_of_root rs i r c.loop-root.kinds.items c.push.new.self.items c.loop-root-test.true (any_default rs i Outer r c.loop-root-test.true) c.loop-root.invariant
    (c.in_ok-push.ensures.items ∙ ap (λ (k : CycleKind). c.loop-root.kinds.items ++ k ∷ []) (c.by.ensures ∙ ap kind_by c.is_outer.ensures))

pub returns : goal.returns
returns c = all_mapped kind_of_root c.args.roots.now c.loop-root.root-index c.loop-root.kinds.items c.loop-root-test.false c.loop-root.invariant
