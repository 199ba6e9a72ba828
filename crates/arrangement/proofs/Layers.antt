-- Layers of records and history: the first one, one that is as before, and the graph that both draw.
use Rattle.std.proofs.Common.{◌≡◌, ◌≢◌, ◌≤◌, ℕ, List, [], ◌∷◌, map, Bool, true, false, cond, refl, sym, ap, ◌∙◌, subst}
use Rattle.std.specs.Prelude.{if◌then◌else◌}
use Rattle.std.specs.List.{filter, flat_map}
use Rattle.exact_plane.specs.PointOrder.{point_cmp}
use Rattle.plane_graphs.specs.Ascending.{ascending}
use Rattle.plane_graphs.specs.Graph.{Mark, graph, mark, mark_cmp}
use Rattle.edit_steps.specs.Layer.{empty_layer}
use Rattle.slab_laws.specs.declared.names.CurveId.{CurveId}
use Rattle.slab_laws.specs.declared.names.DartId.{DartId}
use Rattle.slab_laws.specs.Sound.{points_of, skeleton_of}
use Rattle.slab_laws.specs.Text.{graph_text, present_text, skeleton}
use Rattle.slab_laws.specs.View.{View, dart_id, point_in, source_in, target_in, twin_in, curve_id}
use Rattle.vertical_laws.specs.VerticalText.{vertical_text}
use Rattle.envelope_laws.specs.EnvelopeText.{envelope_text, outline_text}
use Rattle.envelope_laws.specs.declared.which.Which.{Which}
use Rattle.arr_notes.specs.ViewChanges.{no_rows}
use Rattle.arr_notes.specs.Curves.{Curves, is_forward, IsForward}
use Rattle.arr_notes.proofs.Names.{numbers_of as numbers}
use Rattle.arr_notes.specs.RecordGraph.{drawn_graph, marks_along}
use Rattle.sound_views.proofs.GraphDrawn.{graphs_are_drawn}
use Rattle.curve_history.specs.Past.{Past, curves_on, SameLayer, SameCurves}
use Rattle.curve_history.specs.DrawnRecords.{curves_in, forward_of}
use Rattle.curve_history.proofs.Facing.{lists_read}
use Rattle.told_steps.specs.RecordLayers.{IsLayer, layer_of}
use Rattle.told_steps.proofs.Layers.{nothing_is_a_layer}
use Rattle.subdivision_rows.specs.ByName.{numbers_of}
use Rattle.arr_text.specs.Reading.{text_in}
use Rattle.arr_text.proofs.RecordTexts.{records_tell_their_graph}

-- ---- nothing
nothing_pinned : (h : Curves) → (drawn_graph no_rows h).pins ≡ []
unfolding drawn_graph ascending
nothing_pinned h = refl

pub first_layer : (v : View) (p : Past) → v ≡ no_rows → ((d : DartId) → curves_on p d ≡ []) → p.names ≡ [] → p.pieces ≡ [] → 1 ≤ p.next → IsLayer v p
first_layer v p rows none names pieces first = nothing_is_a_layer v p (ap (λ z. z.vertices) rows) (ap (λ z. z.darts) rows) none names pieces first

pub first_is_empty : (v : View) (p : Past) (n : ℕ) → v ≡ no_rows → p.names ≡ [] → p.pieces ≡ [] → p.next ≡ n → layer_of v p ≡ empty_layer n
first_is_empty v p n rows names pieces next =
    let pins : (drawn_graph v (curves_on p)).pins ≡ [] = ap (λ z. (drawn_graph z (curves_on p)).pins) rows ∙ nothing_pinned (curves_on p) in
    λ i. record { present = record { pieces = pieces i; pins = pins i }; names = names i; next = next i }

-- ---- nothing is changed
module _ (v : View) (p : Past) (w : View) (q : Past) where
  pub unchanged : w ≡ v → SameLayer p q → SameCurves p q → layer_of w q ≡ layer_of v p
  unchanged e l c =
      let curves : curves_on q ≡ curves_on p = λ i d. c d i in
      λ i. record { present = record { pieces = l.pieces i; pins = (drawn_graph (e i) (curves i)).pins }; names = l.names i; next = l.next i }

-- ---- the graph that both draw

forward_alike : (b : Bool) (f : ℕ → Mark) (p : Past) (d t : DartId) → cond b (map f (map (λ (c : CurveId). c.0) (map curve_id (curves_on p (if b then d else t))))) [] ≡ cond b (map f (curves_on p d)) []
forward_alike true f p d t = ap (map f) (numbers (curves_on p d))
forward_alike false f p d t = refl

marks_alike : (v : View) (p : Past) (d : DartId) → marks_along v (numbers_of (curves_in v p)) d ≡ marks_along v (curves_on p) d
marks_alike v p d = forward_alike (is_forward v d) (mark (point_in v (source_in v d)) (point_in v (target_in v d))) p d (twin_in v d)

curves_drawn : (v : View) (p : Past) → drawn_graph v (numbers_of (curves_in v p)) ≡ drawn_graph v (curves_on p)
unfolding drawn_graph
curves_drawn v p = λ i. record {
  points = points_of v;
  marks = ascending mark_cmp (flat_map (λ r. marks_alike v p (dart_id r.0) i) v.darts);
  pins = ascending point_cmp (map (λ r. r.1.point) (filter (λ r. r.1.pinned) v.vertices));
}

present_drawn : (v : View) (p : Past) → IsLayer v p → drawn_graph v (numbers_of (curves_in v p)) ≡ graph (layer_of v p).present
present_drawn v p l = curves_drawn v p ∙ l.stands

-- what is drawn is what there was
module _ (v : View) (p : Past) (w : View) (q : Past) (e : w ≡ v) (f : q ≡ p) (l : IsLayer v p) where
  pub drawn_layer : IsLayer w q
  drawn_layer = subst (λ z. IsLayer z q) (sym e) (subst (IsLayer v) (sym f) l)

-- the plane graph that the records draw is that of the present
pub skeleton_told : (v : View) (p : Past) → IsLayer v p → skeleton_of v ≡ skeleton (graph (layer_of v p).present)
skeleton_told v p l = sym (graphs_are_drawn v (curves_on p) l.sound l.curves) ∙ ap skeleton l.stands

-- ---- the texts that both tell
pub told_text : (v : View) (p : Past) → IsLayer v p → text_in v (curves_in v p) ≡ present_text (layer_of v p).present
unfolding present_text
told_text v p l = records_tell_their_graph v (curves_on p) (curves_in v p) l.sound l.curves (lists_read v p) ∙ ap graph_text l.stands

-- that of what is directly above and below each vertex
pub told_vertical : (v : View) (p : Past) → IsLayer v p → vertical_text (skeleton_of v) ≡ vertical_text (skeleton (graph (layer_of v p).present))
told_vertical v p l = ap vertical_text (skeleton_told v p l)

-- that of an envelope
pub told_envelope : (w : Which) (v : View) (p : Past) → IsLayer v p → outline_text w (drawn_graph v (curves_on p)) ≡ envelope_text w (layer_of v p).present
unfolding envelope_text
told_envelope w v p l = ap (outline_text w) l.stands

no_numbers : (ns : List ℕ) → map curve_id ns ≡ [] → ns ≡ []
no_numbers [] e = refl
no_numbers (n ∷ ns) e = cc

pub forward_curves : (v : View) (p : Past) → IsLayer v p → (d : DartId) → IsForward v d → curves_in v p d ≢ []
forward_curves v p l d f e =
    let same : forward_of v d ≡ d = ap (λ b. if b then d else twin_in v d) f.1 in
    l.curves.some d f (no_numbers (curves_on p d) (ap (λ x. map curve_id (curves_on p x)) (sym same) ∙ e))
