use Rattle.std.proofs.Common.{◌++◌, None, refl, sym, ap, ◌∙◌}
use Rattle.slab_laws.specs.declared.names.FaceId.{FaceId}
use Rattle.slab_laws.specs.View.{face_id}
use Rattle.arr_notes.proofs.After.{all_left, pushed, fewer, ended, left}
use Rattle.arr_notes.proofs.walks.face_names.Goals as goal

pub loop-name-init : goal.loop-name-init
loop-name-init g c = all_left face_id (λ (u : FaceId). u.0) (λ n. refl) (g.R.Faced.faces c.args.records.now).faces ∙ ap (λ xs. xs ++ left face_id (λ (u : FaceId). u.0) (λ n. refl) (g.R.Faced.faces c.args.records.now).faces None) (sym c.new-found.ensures.items)

pub loop-name-smaller : goal.loop-name-smaller
loop-name-smaller g c = fewer face_id (λ (u : FaceId). u.0) (λ n. refl) (g.R.Faced.faces c.args.records.now).faces c.loop-name.last c.in-Some.name c.in-Some.ensures.ascend c.in-Some.ensures.after

pub loop-name-preserved : goal.loop-name-preserved
loop-name-preserved g c = pushed face_id (λ (u : FaceId). u.0) (λ n. refl) (g.R.Faced.faces c.args.records.now).faces c.loop-name.found.items c.push.new.self.items c.loop-name.last c.in-Some.name c.in-Some.ensures.ascend c.in-Some.ensures.after c.loop-name.invariant (c.in_ok-push.ensures.items)

pub returns-clause-names : goal.returns-clause-names
returns-clause-names g c = ended face_id (λ (u : FaceId). u.0) (λ n. refl) (g.R.Faced.faces c.args.records.now).faces c.loop-name.found.items c.loop-name.last (sym c.in_default.is ∙ c.face_after.ensures.after) c.loop-name.invariant
