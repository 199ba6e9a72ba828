use Rattle.std.proofs.Common.{refl, sym, ap, subst, ◌∙◌, IsTrue}
use mathlib.Core.List.{mem-append_right}
use Rattle.arr_notes.specs.Notes.{heard_after, held_after, left_after, FitsNote}
use Rattle.plane_graphs.proofs.Lists.{not_none}
use Rattle.observer_bus.specs.Rows.{row}
use Rattle.observer_bus.proofs.Heard.{last_lost, last_told, last_untold, leave_lost, leaves_untold, lost_told, lost_untold, none_next, same_one, stay_lost, told_last, told_lost, told_on, told_untold, untold_told}
use Rattle.std.proofs.lemmas.Bool.{false≢true}
use Rattle.observer_bus.proofs.seat.Seat.hear.Goals as goal

-- `same`: what the observer's box was before the note, read through `&mut`, is the box that the seat had
pub returns-then-eq : goal.returns-then-eq
returns-then-eq g c =
    let s = row (goal.Observer-dyn g) c.args.self.now in record {
      fate = leaves_untold s c.requires.seated (sym (same_one s.leave) ∙ sym c.eq.ensures ∙ c.if-eq.true);
      stays = λ t. absurd (false≢true t);
      untold = λ e. refl;
      told = λ e. absurd (untold_told e);
      last = λ e. absurd (last_untold (sym e));
      lost = λ e. absurd (lost_untold (sym e));
    }

pub nearer-self-requires : goal.nearer-self-requires
nearer-self-requires g c = record {
  positive = c.args.self.now.leave_counts;
  later = none_next c.args.self.now.leave (sym (same_one c.args.self.now.leave) ∙ sym c.eq.ensures ∙ c.if-eq.false);
}

pub heed-requires : goal.heed-requires
heed-requires g c κs =
    let same = c.deref_box_mut-1.ensures.value.1 in (
      refl,
      λ i. (
        tt,
        (
          λ a m. i a (mem-append_right κs.0 m),
          λ t. subst (λ b. FitsNote ((goal.Observer-dyn g b).held b.1) c.args.note.now) (sym same) (c.requires.fits c.requires.seated (subst (λ b. IsTrue ((goal.Observer-dyn g b).tells b.1)) same t)),
        ),
      ),
    )

pub invariant_of-self : goal.invariant_of-self
invariant_of-self g c = record { join_counts = c.args.self.now.join_counts; leave_counts = c.nearer-self.ensures.positive }

pub returns-in-Stay : goal.returns-in-Stay
returns-in-Stay g c =
    let s = row (goal.Observer-dyn g) c.args.self.now in
    let n = c.args.note.now in
    let same = c.deref_box_mut-1.ensures.value.1 in
    let h = c.heed.ensures in record {
      fate = told_on s c.requires.seated (sym (same_one s.leave) ∙ sym c.eq.ensures ∙ c.if-eq.false) n c.requires.round _ (ap (λ b. (goal.Observer-dyn g b).left b.1) same) c.heed.result h.1.1.0 c.in-Stay.is;
      stays = λ t. refl;
      untold = λ e. absurd (told_untold e);
      told = λ e. record {
        name = refl;
        join = c.requires.seated;
        leave = c.nearer-self.ensures.value;
        tells = h.0 ∙ ap (λ b. (goal.Observer-dyn g b).tells b.1) same;
        left = h.1.1.1.0 c.in-Stay.is ∙ ap (λ b. left_after ((goal.Observer-dyn g b).left b.1) n) same;
        heard = h.1.0 (λ l. stay_lost (sym c.in-Stay.is ∙ l)) ∙ ap (λ b. heard_after ((goal.Observer-dyn g b).heard b.1) n) same;
        held = λ t. h.1.1.1.1.1 c.in-Stay.is (ap (λ b. (goal.Observer-dyn g b).tells b.1) same ∙ t) ∙ ap (λ b. held_after ((goal.Observer-dyn g b).held b.1) n) same;
      };
      last = λ e. absurd (last_told (sym e));
      lost = λ e. absurd (lost_told (sym e));
    }

pub returns-in-Leave : goal.returns-in-Leave
returns-in-Leave g c =
    let s = row (goal.Observer-dyn g) c.args.self.now in
    let n = c.args.note.now in
    let same = c.deref_box_mut-1.ensures.value.1 in
    let h = c.heed.ensures in record {
      fate = told_last s c.requires.seated (sym (same_one s.leave) ∙ sym c.eq.ensures ∙ c.if-eq.false) c.args.note.now c.requires.round _ (ap (λ b. (goal.Observer-dyn g b).left b.1) c.deref_box_mut-1.ensures.value.1) c.heed.result c.heed.ensures.1.1.0 c.in-Leave.is;
      stays = λ t. absurd (false≢true t);
      untold = λ e. absurd (last_untold e);
      told = λ e. absurd (last_told e);
      last = λ e. record {
        name = refl;
        join = c.requires.seated;
        leave = c.nearer-self.ensures.value;
        tells = h.0 ∙ ap (λ b. (goal.Observer-dyn g b).tells b.1) same;
        heard = h.1.0 (λ l. leave_lost (sym c.in-Leave.is ∙ l)) ∙ ap (λ b. heard_after ((goal.Observer-dyn g b).heard b.1) n) same;
      };
      lost = λ e. absurd (last_lost e);
    }

pub returns-in-NoMemory : goal.returns-in-NoMemory
returns-in-NoMemory g c =
    let s = row (goal.Observer-dyn g) c.args.self.now in
    let same = c.deref_box_mut-1.ensures.value.1 in
    let h = c.heed.ensures in record {
      fate = told_lost s c.requires.seated (sym (same_one s.leave) ∙ sym c.eq.ensures ∙ c.if-eq.false) c.args.note.now c.requires.round _ (ap (λ b. (goal.Observer-dyn g b).left b.1) c.deref_box_mut-1.ensures.value.1) c.heed.result c.heed.ensures.1.1.0 c.in-NoMemory.is;
      stays = λ t. absurd (false≢true t);
      untold = λ e. absurd (lost_untold e);
      told = λ e. absurd (lost_told e);
      last = λ e. absurd (last_lost (sym e));
      lost = λ e. record {
        name = refl;
        join = refl;
        tells = h.0 ∙ ap (λ b. (goal.Observer-dyn g b).tells b.1) same;
        left = λ j. absurd (not_none _ j c.requires.seated);
      };
    }
