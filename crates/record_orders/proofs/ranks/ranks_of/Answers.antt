use Rattle.std.proofs.Common.{◌∙◌, sym, ap}
use Rattle.slab_laws.specs.declared.names.CycleKind.TheVariants.{Outer}
use Rattle.slab_laws.specs.View.{dart_id, face_id}
use Rattle.record_orders.specs.declared.cycles.CycleKey.{CycleKey}
use Rattle.record_orders.proofs.BodiesGrown.{ranks_none, ranks_moved, first_some, first_none, face_added, face_passed}
use Rattle.record_orders.proofs.ranks.ranks_of.Goals.{in-Some+in_ok-add_face, in_default, then-is_of+in_ok-add_face-2, else-is_of}
use Rattle.record_orders.proofs.ranks.ranks_of.Goals as goal

pub loop-cycle-init : goal.loop-cycle-init
loop-cycle-init g c = record {
  ranks = elim c.match-face_after.branch [
    | in-Some+in_ok-add_face w ↦ ranks_moved c.match-face_after.ranks.items w.add_face.new.ranks.items c.match-face_after.faces.items w.add_face.new.faces.items (ap (λ r. r.items) w.ranks-is) (ap (λ v. v.items) w.faces-is) w.in_ok-add_face.ensures.ranks
    | in_default w ↦ ranks_none c.match-face_after.ranks.items c.match-face_after.faces.items (ap (λ r. r.items) w.ranks-is ∙ c.new-ranks.ensures.items) (ap (λ v. v.items) w.faces-is ∙ c.new-faces.ensures.items)
  ];
  faces = elim c.match-face_after.branch [
    | in-Some+in_ok-add_face w ↦ first_some (g.R.Faced.faces c.args.records.now) w.in-Some.face c.new-faces.result.items c.match-face_after.faces.items (sym c.face_after.ensures.after ∙ w.in-Some.is) c.new-faces.ensures.items (ap (λ v. v.items) w.faces-is ∙ w.in_ok-add_face.ensures.faces)
    | in_default w ↦ first_none (g.R.Faced.faces c.args.records.now) c.match-face_after.faces.items (sym c.face_after.ensures.after ∙ w.in_default.is) (ap (λ v. v.items) w.faces-is ∙ c.new-faces.ensures.items)
  ];
}

-- what stands for a key where there is none
no_key : CycleKey
no_key = record { lead = dart_id 0; kind = Outer; face = face_id 0 }

pub loop-cycle-preserved : goal.loop-cycle-preserved
unfolding no_key
loop-cycle-preserved g c = record {
  ranks = elim c.if-is_of.branch [
    | then-is_of+in_ok-add_face-2 w ↦ ranks_moved c.if-is_of.ranks.items w.add_face-then-is_of.new.ranks.items c.if-is_of.faces.items w.add_face-then-is_of.new.faces.items (ap (λ r. r.items) w.ranks-is) (ap (λ v. v.items) w.faces-is) w.in_ok-add_face-2.ensures.ranks
    | else-is_of w ↦ ranks_moved c.if-is_of.ranks.items c.loop-cycle.ranks.items c.if-is_of.faces.items c.loop-cycle.faces.items (ap (λ r. r.items) w.ranks-is) (ap (λ v. v.items) w.faces-is) c.loop-cycle.invariant.ranks
  ];
  faces = elim c.if-is_of.branch [
    | then-is_of+in_ok-add_face-2 w ↦ face_added (g.R.Faced.faces c.args.records.now) c.args.cycles.now c.loop-cycle.cycle-index no_key c.loop-cycle-test.true c.loop-cycle.faces.items c.if-is_of.faces.items (sym c.is_of.ensures ∙ w.if-is_of.true) c.loop-cycle.invariant.faces (ap (λ v. v.items) w.faces-is ∙ w.in_ok-add_face-2.ensures.faces)
    | else-is_of w ↦ face_passed (g.R.Faced.faces c.args.records.now) c.args.cycles.now c.loop-cycle.cycle-index no_key c.loop-cycle-test.true c.loop-cycle.faces.items c.if-is_of.faces.items (sym c.is_of.ensures ∙ w.if-is_of.false) c.loop-cycle.invariant.faces (ap (λ v. v.items) w.faces-is)
  ];
}
