-- What records draw after steps, and steps that go on.
use Rattle.std.proofs.Common.{◌≡◌, [], ◌∷◌, refl, sym, ap, ◌∙◌, subst}
use Rattle.edit_steps.specs.Steps.{apply, run, Step}
use Rattle.slab_laws.specs.declared.names.DartId.{DartId}
use Rattle.slab_laws.specs.View.{View}
use Rattle.slab_laws.specs.Sound.{IsGraphSound}
use Rattle.arr_notes.specs.Curves.{Curves, step_curves}
use Rattle.arr_notes.specs.Step.{step}
use Rattle.arr_notes.specs.declared.change.Change.{Change}
use Rattle.arr_notes.specs.RecordGraph.{drawn_graph}
use Rattle.sound_changes.proofs.ChangesAreSteps.{changes_are_steps}
use Rattle.sound_changes.specs.StepOfChange.{step_of_change, FitsChange}
use Rattle.told_steps.specs.RecordLayers.{IsRunOfSteps}
use Rattle.told_steps.specs.LayerSteps.{IsRun, MadeIsRun, MadeInTurn}

-- what holds of a view and of curves holds of the same view with curves that are the same by name
same_records : (P : View → Curves → Type 0) (v w : View) (h k : Curves) → w ≡ v → ((d : DartId) → k d ≡ h d) → P v h → P w k
same_records P v w h k e f x =
    let curves : k ≡ h = λ i d. f d i in
    subst (λ z. P z k) (sym e) (subst (P v) (sym curves) x)

pub made_is_run : MadeIsRun
unfolding run
made_is_run v h [] w k s a m = same_records (IsRun v h []) v w h k m.0 m.1 (record { graph = refl; sound = s; curves = a })
made_is_run v h (x ∷ xs) w k s a m =
    let c = m.0 in
    let r = changes_are_steps v h c s a m.1.fits in
    let q = made_is_run (step v c) (step_curves h c) xs w k m.1.sound r.curves m.2 in
    record {
      graph = q.graph ∙ ap (run xs) (r.graph ∙ ap (λ z. apply z (drawn_graph v h)) m.1.tells);
      sound = q.sound;
      curves = q.curves;
    }

pub made_in_turn : MadeInTurn
made_in_turn v h [] ts w k x l m n = same_records (λ z g. IsRunOfSteps z g ts x l) w v k h (sym m.0) (λ d. sym (m.1 d)) n
made_in_turn v h (s ∷ ss) ts w k x l m n = (m.0, m.1, made_in_turn (step v m.0) (step_curves h m.0) ss ts w k x l m.2 n)

-- one change that is the step
pub made_by : (v : View) (h : Curves) (s : Step) (c : Change) (w : View) (k : Curves) → FitsChange v h c → step_of_change v c ≡ s → IsGraphSound w → w ≡ step v c → ((d : _) → k d ≡ step_curves h c d) → IsRunOfSteps v h (s ∷ []) w k
made_by v h s c w k f t g e q = (c, record { fits = f; tells = t; sound = subst IsGraphSound e g }, (e, q))
