use Rattle.std.proofs.Common.{◌≡◌, ℕ, suc, List, cond, arith, sym, ap, ◌∙◌, length}
use Rattle.std.specs.List.{count_by}
use Rattle.std.proofs.lemmas.List.{take_all}
use Rattle.plane_graphs.proofs.Sorting.{any_default}
use Rattle.face_roots.specs.declared.ranks.Root.{Root}
use Rattle.face_roots.specs.declared.ranks.Root.TheVariants.{Outer, Outside}
use Rattle.face_roots.specs.CycleRanks.{root_at, is_outer_root}
use Rattle.face_roots.proofs.RootRanks.{more_faces}
use Rattle.overlay_sweep.proofs.rows.count_faces.Goals.{then-is_outer, else-is_outer}
use Rattle.overlay_sweep.proofs.rows.count_faces.Goals as goal

pub loop-root-preserved : goal.loop-root-preserved
loop-root-preserved c =
    let rs = c.args.roots.now in
    let i = c.loop-root.root-index in
    let more = more_faces rs i c.loop-root-test.true in
    let so_far = c.loop-root.invariant in
    let test = c.is_outer.ensures ∙ ap is_outer_root (any_default rs i Outer Outside c.loop-root-test.true) in
    elim c.if-is_outer.branch [
      | then-is_outer w ↦ (let one : cond {A = ℕ} (is_outer_root (root_at rs i)) 1 0 ≡ 1 = ap (λ b. cond {A = ℕ} b 1 0) (sym test ∙ w.if-is_outer.true) in let e = w.count-is in omega arith)
      | else-is_outer w ↦ (let none : cond {A = ℕ} (is_outer_root (root_at rs i)) 1 0 ≡ 0 = ap (λ b. cond {A = ℕ} b 1 0) (sym test ∙ w.if-is_outer.false) in let e = w.count-is in omega arith)
    ]

pub returns : goal.returns
returns c =
    let rs = c.args.roots.now in
    c.loop-root.invariant ∙ ap (λ (us : List Root). suc (count_by is_outer_root us)) (take_all c.loop-root.root-index rs c.loop-root-test.false ∙ sym (take_all (length rs) rs (omega arith)))
