use Rattle.std.proofs.Common.{◌≡◌, ℕ, ◌+◌, sym, ◌∙◌, ap, cond, arith}
use Rattle.face_roots.specs.declared.ranks.Root.TheVariants.{Outer}
use Rattle.face_roots.proofs.RootRanks.{read_within, step_ranked}
use Rattle.std.specs.Prelude.{slice_index_or}
use Rattle.face_roots.specs.CycleRanks.{is_outer_root}
use Rattle.face_roots.proofs.ranks.ranks_of.Goals.{then-adds_face, else-adds_face}
use Rattle.face_roots.proofs.ranks.ranks_of.Goals as goal

pub rank_by-rank-requires : goal.rank_by-rank-requires
rank_by-rank-requires c = read_within c.args.roots.now c.loop-root.root-index c.loop-root.count c.loop-root.ranks.items c.deref.result.now Outer c.requires c.loop-root-test.true c.loop-root.invariant c.deref.ensures.value

pub loop-root-preserved : goal.loop-root-preserved
loop-root-preserved c =
    let r = slice_index_or c.args.roots.now c.loop-root.root-index Outer in
    let later : c.if-adds_face.count ≡ c.loop-root.count + cond (is_outer_root r) 1 0 = elim c.if-adds_face.branch [
      | then-adds_face w ↦ (let k : cond {A = ℕ} (is_outer_root r) 1 0 ≡ 1 = ap (λ b. cond {A = ℕ} b 1 0) (sym c.adds_face.ensures ∙ w.if-adds_face.true) in let e = w.count-is in omega arith)
      | else-adds_face w ↦ (let k : cond {A = ℕ} (is_outer_root r) 1 0 ≡ 0 = ap (λ b. cond {A = ℕ} b 1 0) (sym c.adds_face.ensures ∙ w.if-adds_face.false) in let e = w.count-is in omega arith)
    ] in
    step_ranked c.args.roots.now c.loop-root.root-index c.loop-root.count c.if-adds_face.count c.rank_by-rank.result c.loop-root.ranks.items c.deref.result.now c.push.new.self.items Outer c.requires c.loop-root-test.true c.rank_by-rank.ensures c.deref.ensures.value c.in_ok-push.ensures.items later c.loop-root.invariant
