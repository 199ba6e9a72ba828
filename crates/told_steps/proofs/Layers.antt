-- Records and history after the steps of an edit, and before the first one.
use Rattle.std.proofs.Common.{◌≡◌, [], refl, sym, ap, ◌∙◌, subst}
use Rattle.plane_graphs.specs.Ascending.{ascending}
use Rattle.plane_graphs.specs.Graph.{Graph, graph, vertices, marks}
use Rattle.plane_graphs.specs.Piece.{Present}
use Rattle.plane_graphs.specs.Strands.{strands}
use Rattle.edit_steps.specs.Edits.{Edit, after, steps}
use Rattle.edit_steps.specs.Layer.{IsAcceptedBy, IsLawful, layer_after, empty_layer}
use Rattle.edit_steps.specs.Steps.{run}
use Rattle.edit_steps.proofs.Laws.{make_graph}
use Rattle.edit_steps.proofs.Layers.{layers_lawful}
use Rattle.slab_laws.specs.Sound.{IsGraphSound}
use Rattle.slab_laws.specs.View.{View, HasDart}
use Rattle.arr_notes.specs.ViewChanges.{no_rows}
use Rattle.arr_notes.proofs.VertexReads.{nothing_is_there}
use Rattle.arr_notes.specs.Curves.{Curves}
use Rattle.sound_changes.proofs.VertexAdded.{no_rows_sound}
use Rattle.arr_notes.specs.RecordGraph.{drawn_graph}
use Rattle.sound_changes.proofs.StepCases.{curves_by}
use Rattle.curve_history.specs.Past.{Past, curves_on, strands_on}
use Rattle.told_steps.specs.RecordLayers.{layer_of, IsLayer, IsRunOfSteps}
use Rattle.told_steps.specs.LayerSteps.{IsRun, StepsMakeLayers, NothingIsALayer}
use Rattle.told_steps.specs.StrandRuns.{IsStrandRun, strand_graph, strand_steps}
use Rattle.told_steps.proofs.Runs.{made_is_run}
use Rattle.told_steps.proofs.StrandRuns.{strands_made}

-- ---- after an edit
module _ (e : Edit) (v : View) (p : Past) (w : View) (q : Past) (l : IsLayer v p) (accepted : IsAcceptedBy e (layer_of v p)) (made : IsRunOfSteps v (curves_on p) (steps e (layer_of v p).present) w (curves_on q)) (apart : IsStrandRun v p (strand_steps e (layer_of v p).present) w q) where
  abbrev old : Present
  old = (layer_of v p).present

  abbrev new : Present
  new = after e old

  ran : IsRun v (curves_on p) (steps e old) w (curves_on q)
  ran = made_is_run v (curves_on p) (steps e old) w (curves_on q) l.sound l.curves made

  drawn : drawn_graph w (curves_on q) ≡ graph new
  drawn = ran.graph ∙ ap (run (steps e old)) l.stands ∙ make_graph e old l.lawful.fit (layers_lawful.accepted e (layer_of v p) l.lawful accepted)

  drawn_apart : strand_graph w q ≡ graph (strands new)
  drawn_apart = apart ∙ ap (run (strand_steps e old)) l.strands ∙ strands_made e old l.lawful.fit (layers_lawful.accepted e (layer_of v p) l.lawful accepted)

  pins : (drawn_graph w (curves_on q)).pins ≡ new.pins
  unfolding graph
  pins = ap (λ g. g.pins) drawn

  made_layer : layer_of w q ≡ layer_after e (layer_of v p) → IsLayer w q
  made_layer same = record {
    sound = ran.sound;
    curves = ran.curves;
    lawful = subst IsLawful (sym same) (layers_lawful.stay e (layer_of v p) l.lawful accepted);
    stands = drawn ∙ ap (λ x. graph x.present) (sym same);
    strands = drawn_apart ∙ ap (λ x. graph (strands x.present)) (sym same);
  }

pub steps_make_layers : StepsMakeLayers
steps_make_layers e v p w q l accepted made apart pieces names next =
    let pins = pins e v p w q l accepted made apart in
    let same : layer_of w q ≡ layer_after e (layer_of v p) = λ i. record { present = record { pieces = pieces i; pins = pins i }; names = names i; next = next i } in
    (made_layer e v p w q l accepted made apart same, same)

-- ---- before the first one
abbrev empty_graph : Graph
empty_graph = record { points = []; marks = []; pins = [] }

nothing_drawn : (h : Curves) → drawn_graph no_rows h ≡ empty_graph
unfolding drawn_graph ascending
nothing_drawn h = refl

nothing_present : graph (record { pieces = []; pins = [] }) ≡ empty_graph
unfolding graph vertices marks ascending
nothing_present = refl

pub nothing_is_a_layer : NothingIsALayer
nothing_is_a_layer v p vertices darts none names pieces first =
    let rows : v ≡ no_rows = λ i. record { vertices = vertices i; darts = darts i } in
    let drawn : drawn_graph v (curves_on p) ≡ empty_graph = ap (λ z. drawn_graph z (curves_on p)) rows ∙ nothing_drawn (curves_on p) in
    let apart : strand_graph v p ≡ empty_graph = ap (λ z. drawn_graph z (strands_on p)) rows ∙ nothing_drawn (strands_on p) in
    let empty : layer_of v p ≡ empty_layer p.next = λ i. record { present = record { pieces = pieces i; pins = (drawn i).pins }; names = names i; next = p.next } in
    record {
      sound = subst IsGraphSound (sym rows) no_rows_sound;
      curves = curves_by v (curves_on p) (λ d o. absurd (nothing_is_there.1 d (subst (λ z. HasDart z d) rows o))) (λ d o. none d);
      lawful = subst IsLawful (sym empty) (layers_lawful.empty p.next first);
      stands = drawn ∙ sym (ap (λ x. graph x.present) empty ∙ nothing_present);
      strands = apart ∙ sym (ap (λ x. graph (strands x.present)) empty ∙ nothing_present);
    }
