use Rattle.std.proofs.Common.{inl, inr, refl, sym, ap, subst, ◌∙◌}
use mathlib.Core.List.{mem-append_right}
use Rattle.arr_notes.specs.CurvedView.{IsSoundView}
use Rattle.arr_notes.specs.Notes.{heard_after}
use Rattle.arr_notes.specs.declared.note.Note.TheVariants.{Snapshot}
use Rattle.observer_bus.proofs.Heard.{not_ok, on_err, stay_lost}
use Rattle.observer_bus.proofs.seat.Seat.welcome.Goals as goal

-- `same`: what the observer's box was before the note, read through `&mut`, is the box that the seat had
pub returns-in_err-snapshot : goal.returns-in_err-snapshot
returns-in_err-snapshot g c = record {
  name = refl;
  join = refl;
  leave = refl;
  tells = refl;
  left = refl;
  back = on_err c.from_residual.result _ (inl refl);
  heard = not_ok c.from_residual.result _ _ c.from_residual.ensures.1;
  held = not_ok c.from_residual.result _ _ c.from_residual.ensures.1;
}

pub heed-answer-requires : goal.heed-answer-requires
heed-answer-requires g c κs = (refl, λ i. (tt, (λ a m. i a (mem-append_right κs.0 m), λ t. subst IsSoundView (sym c.in_ok-snapshot.ensures) c.requires)))

pub invariant_of-self : goal.invariant_of-self
invariant_of-self g c = record { join_counts = c.args.self.now.join_counts; leave_counts = c.args.self.now.leave_counts }

-- what it holds then is left to the search
pub returns-in-Stay-clause-tells : goal.returns-in-Stay-clause-tells
returns-in-Stay-clause-tells g c =
    let same = c.deref_box_mut-1.ensures.value.1 in
    let h = c.heed-answer.ensures in
    h.0 ∙ ap (λ b. (goal.Observer-dyn g b).tells b.1) same

pub returns-in-Stay-clause-left : goal.returns-in-Stay-clause-left
returns-in-Stay-clause-left g c =
    let same = c.deref_box_mut-1.ensures.value.1 in
    let h = c.heed-answer.ensures in
    h.1.1.1.1.0 _ refl ∙ ap (λ b. (goal.Observer-dyn g b).left b.1) same

pub returns-in-Stay-clause-heard : goal.returns-in-Stay-clause-heard
returns-in-Stay-clause-heard g c =
    let same = c.deref_box_mut-1.ensures.value.1 in
    let h = c.heed-answer.ensures in
    h.1.0 (λ l. stay_lost (sym c.in-Stay.is ∙ l)) ∙ ap (λ b. heard_after ((goal.Observer-dyn g b).heard b.1) (Snapshot c.in_ok-snapshot.field-0)) same ∙
    ap (λ w. heard_after ((goal.Observer-dyn g (c.args.self.now.observer.vtable, c.args.self.now.observer.value)).heard c.args.self.now.observer.value) (Snapshot w)) c.in_ok-snapshot.ensures

pub returns-in_default : goal.returns-in_default
returns-in_default g c =
    let same = c.deref_box_mut-1.ensures.value.1 in
    let h = c.heed-answer.ensures in
    let tells = h.0 ∙ ap (λ b. (goal.Observer-dyn g b).tells b.1) same in
    let left = h.1.1.1.1.0 _ refl ∙ ap (λ b. (goal.Observer-dyn g b).left b.1) same in
    record {
      name = refl;
      join = refl;
      leave = refl;
      tells = tells;
      left = left;
      back = inr (record { kind = ap (λ b. b.0) same; tells = tells; left = left });
      heard = tt;
      held = tt;
    }
