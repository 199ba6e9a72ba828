-- One more pin: its steps, and the layer after it.
use Rattle.std.proofs.Common.{◌≡◌, false, List, [], ◌∷◌, ◌++◌, length, refl, sym, ap, ◌∙◌, subst}
use Rattle.std.specs.List.{list_any, filter}
use Rattle.exact_plane.specs.Point.{Point}
use Rattle.plane_graphs.specs.Graph.{graph, vertices}
use Rattle.plane_graphs.specs.Line.{IsProper, same_point}
use Rattle.plane_graphs.specs.Piece.{Present}
use Rattle.edit_steps.specs.Allowed.{AreSound}
use Rattle.edit_steps.specs.Edits.{Pin, IsAccepted, after, steps}
use Rattle.edit_steps.specs.Layer.{Layer, IsAcceptedBy, layer_after}
use Rattle.edit_steps.specs.Steps.{Step, SetPin as SetPinAt, missing_points, pin_steps, vertex_steps}
use Rattle.edit_steps.proofs.Laws.{are_sound}
use Rattle.edit_steps.proofs.Folds.{first_sound}
use Rattle.slab_laws.specs.declared.names.VertexId.{VertexId}
use Rattle.slab_laws.specs.View.{point_in}
use Rattle.arr_notes.specs.Curves.{Curves}
use Rattle.arr_notes.specs.MapView.{MapView}
use Rattle.curve_history.specs.Past.{Past, curves_on, SameLayer}
use Rattle.arr_notes.specs.RecordGraph.{drawn_graph}
use Rattle.observer_bus.specs.Rounds.{BusRow}
use Rattle.sound_views.specs.RecordGraphLaws.{IsVertexAt}
use Rattle.told_steps.specs.RecordLayers.{IsLayer, layer_of}
use Rattle.told_steps.proofs.Layers.{steps_make_layers}
use Rattle.told_steps.proofs.ToldTogether.{told_runs_lawful}
use Rattle.told_steps.specs.SidedRuns.{IsSidedRun}
use Rattle.told_steps.proofs.SidedRuns.{sided_as, sided_then}
use Rattle.pin_points.specs.Pins.{HasBecomeVertex, new_vertex_steps}
use Rattle.pin_points.proofs.Counted.{pins_counted}

-- ---- a vertex at the point is pinned, after other steps
pub pinned_on : (v : MapView) (h : Past) (b : BusRow) (ss : List Step) (x : MapView) (k : Past) (c : BusRow) → IsSidedRun v h b ss x k c → (p : Point) (w : VertexId) → IsVertexAt x.graph p w → (y : MapView) (l : Past) (d : BusRow) → IsSidedRun x k c (SetPinAt (point_in x.graph w) ∷ []) y l d → IsSidedRun v h b (ss ++ (SetPinAt p ∷ [])) y l d
pinned_on v h b ss x k c told p w at y l d set =
    sided_then v h b ss (SetPinAt p ∷ []) x k c told y l d
    (sided_as x k c (SetPinAt (point_in x.graph w) ∷ []) (SetPinAt p ∷ []) y l d set (ap (λ z. SetPinAt z ∷ []) at.at))

-- ---- its steps

-- the points of a present's graph are its vertices
pub graph_points : (p : Present) → (graph p).points ≡ vertices p
unfolding graph
graph_points p = refl

pin_steps_are : (o : Present) (p : Point) → steps (Pin p) o ≡ new_vertex_steps p (graph o) ++ (SetPinAt p ∷ [])
unfolding steps pin_steps
pin_steps_are o p = ap (λ vs. vertex_steps (missing_points (p ∷ []) vs) (graph o) ++ (SetPinAt p ∷ [])) (sym (graph_points o))

module _ (v : MapView) (q : Past) (l : IsLayer v.graph q) (p : Point) (proper : IsProper p) where
  abbrev h : Curves
  h = curves_on q

  abbrev o : Layer
  o = layer_of v.graph q

  steps_are : steps (Pin p) o.present ≡ new_vertex_steps p (drawn_graph v.graph h) ++ (SetPinAt p ∷ [])
  steps_are = pin_steps_are o.present p ∙ ap (λ g. new_vertex_steps p g ++ (SetPinAt p ∷ [])) (sym l.stands)

  module _ (bare : list_any (same_point p) o.present.pins ≡ false) where
    accepted : IsAcceptedBy (Pin p) o
    unfolding IsAccepted
    accepted = (proper, bare)

    -- the graph stays plane while the point becomes a vertex
    pub stays_plane : AreSound (new_vertex_steps p (drawn_graph v.graph h)) (drawn_graph v.graph h)
    stays_plane =
        let k = are_sound (Pin p) o.present l.lawful.fit accepted in
        subst (λ g. AreSound (new_vertex_steps p g) g) (sym l.stands) (first_sound (new_vertex_steps p (graph o.present)) (SetPinAt p ∷ []) (graph o.present) (subst (λ ss. AreSound ss (graph o.present)) (pin_steps_are o.present p) k))

    module _ (b : BusRow) (x : MapView) (k : Past) (c : BusRow) (told : HasBecomeVertex v q b p x k c) (w : VertexId) (at : IsVertexAt x.graph p w) (y : MapView) (r : Past) (d : BusRow) (set : IsSidedRun x k c (SetPinAt (point_in x.graph w) ∷ []) y r d) where
      pub pin_told : IsSidedRun v q b (steps (Pin p) o.present) y r d
      pin_told =
          sided_as v q b (new_vertex_steps p (drawn_graph v.graph h) ++ (SetPinAt p ∷ [])) (steps (Pin p) o.present) y r d
          (pinned_on v q b (new_vertex_steps p (drawn_graph v.graph h)) x k c told p w at y r d set) (sym steps_are)

      pub pin_layer : SameLayer q r → IsLayer y.graph r × (layer_of y.graph r ≡ layer_after (Pin p) o)
      unfolding after
      pin_layer n = steps_make_layers (Pin p) v.graph q y.graph r l accepted (told_runs_lawful.steps v h b (steps (Pin p) o.present) y (curves_on r) d pin_told.told) pin_told.strands n.pieces n.names n.next

  -- ---- how many pins there are
  pub counted : length o.present.pins ≡ length (filter (λ r. r.1.pinned) v.graph.vertices)
  counted = pins_counted v.graph h l.sound
