-- Records that have just changed are sound, and the change may be told to observers that are in step with what was before.
use Rattle.std.proofs.Common.{◌≡◌, All, map, sym, ◌∙◌, subst}
use Rattle.slab_laws.specs.FacesSound.{IsSound}
use Rattle.slab_laws.specs.Sound.{IsGraphSound}
use Rattle.slab_laws.specs.View.{curve_id}
use Rattle.arr_notes.specs.declared.change.Change.{Change}
use Rattle.arr_notes.specs.declared.note.Note.TheVariants.{After}
use Rattle.arr_notes.specs.Curves.{Curves, AreCurvesOf, step_curves}
use Rattle.arr_notes.specs.CurvedView.{step_view}
use Rattle.arr_notes.specs.MapView.{MapView, step_map}
use Rattle.arr_notes.proofs.Names.{numbers_of}
use Rattle.observer_bus.specs.Rounds.{BusRow}
use Rattle.observer_bus.specs.Seats.{MayHear}
use Rattle.observer_bus.proofs.Hearing.{notes_heard}
use Rattle.sound_changes.proofs.ChangesAreSteps.{changes_are_steps}
use Rattle.sound_changes.proofs.ViewsMade.{changes_make_views, changes_may_be_told}
use Rattle.told_steps.specs.RecordLayers.{IsMade}
use Rattle.edit_steps.specs.Steps.{Step}
use Rattle.told_steps.specs.ToldRuns.{IsJustChanged, seen}

module _ (m : MapView) (h : Curves) (s : IsGraphSound m.graph) (a : AreCurvesOf m.graph h) (e : Step) (x : Change) (o : IsMade m.graph h e x) where
  -- the view after the change is what the change makes of the view before
  pub seen_after : seen (step_map m x) (step_curves h x) ≡ step_view (seen m h) x
  seen_after = changes_make_views m.graph m.faces h (λ d. map curve_id (h d)) (λ d. map curve_id (step_curves h x d)) x s a o.fits o.sound (λ d f. numbers_of (h d)) (λ d f. numbers_of (step_curves h x d))

  pub curves_after : AreCurvesOf (step_map m x).graph (step_curves h x)
  curves_after = (changes_are_steps m.graph h x s a o.fits).curves

module _ {x : Change} {w : MapView} {k : Curves} {b : BusRow} (j : IsJustChanged x w k b) where
  abbrev m : MapView
  m = j.before

  abbrev h : Curves
  h = j.before_curves

  as_by : k ≡ step_curves h x
  as_by = λ i d. j.curves d i

  pub sound_now : IsSound w.graph w.faces
  sound_now = subst (λ (z : MapView). IsSound z.graph z.faces) (sym j.view) j.made.sound

  pub curves_now : AreCurvesOf w.graph k
  curves_now = subst (λ (z : MapView). AreCurvesOf z.graph k) (sym j.view) (subst (AreCurvesOf (step_map m x).graph) (sym as_by) (curves_after m h j.in_step.sound.graph j.in_step.curves _ x j.made.made))

  pub seen_now : seen w k ≡ step_view (seen m h) x
  seen_now = (λ i. seen (j.view i) (as_by i)) ∙ seen_after m h j.in_step.sound.graph j.in_step.curves _ x j.made.made

  pub may_hear : All (MayHear (After x)) b.seats
  may_hear =
      let t = changes_may_be_told m.graph m.faces h (λ d. map curve_id (h d)) x j.in_step.sound.graph j.in_step.curves j.made.made.fits j.made.sound (λ d f. numbers_of (h d)) in
      notes_heard.after (seen m h) x b.seats j.in_step.holds t.0 t.1
