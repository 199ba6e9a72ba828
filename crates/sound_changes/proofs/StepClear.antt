-- Nothing left.
use Rattle.std.proofs.Common.{[], refl}
use Rattle.plane_graphs.specs.Ascending.{ascending}
use Rattle.slab_laws.specs.declared.names.FaceId.{FaceId}
use Rattle.slab_laws.specs.View.{View}
use Rattle.arr_notes.specs.ViewChanges.{no_rows}
use Rattle.arr_notes.proofs.VertexReads.{nothing_is_there}
use Rattle.edit_steps.specs.Steps.{apply}
use Rattle.arr_notes.specs.declared.change.Change.TheVariants.{Clear}
use Rattle.arr_notes.specs.Curves.{Curves}
use Rattle.arr_notes.specs.RecordGraph.{drawn_graph}
use Rattle.sound_changes.specs.StepLaws.{IsApplied}
use Rattle.sound_changes.proofs.StepCases.{curves_by}

pub all_cleared : (v : View) (h : Curves) (face : FaceId) → IsApplied v h (Clear face)
unfolding drawn_graph apply ascending
all_cleared v h face = record { graph = refl; curves = curves_by no_rows (λ d. []) (λ d o. absurd (nothing_is_there.1 d o)) (λ d o. refl) }
