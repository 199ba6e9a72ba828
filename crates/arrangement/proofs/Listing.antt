-- The lists of edges and of faces.
use Rattle.std.proofs.Common.{◌≡◌, ◌↔◌, ℕ, ◌<◌, true, List, [], ◌∷◌, map, refl, sym, ap, ◌∙◌, subst, arith, inl, inr}
use Rattle.std.specs.Prelude.{IfOk, Result}
use Rattle.std.specs.List.{filter, AllByRecursion, Contains}
use Rattle.std.proofs.lemmas.Result.{IfOk-weaker}
use Rattle.exact_plane.specs.Point.{Point}
use Rattle.plane_graphs.specs.Ascending.{Member}
use Rattle.plane_graphs.specs.Graph.{Edge, graph, edges}
use Rattle.plane_graphs.proofs.Ascending.{All-member, from_member, to_member}
use Rattle.plane_graphs.proofs.Lists.{filter_of_map, in_map, map_map, map_same, of_filter, of_map}
use Rattle.slab_laws.specs.declared.names.DartId.{DartId}
use Rattle.slab_laws.specs.declared.names.FaceId.{FaceId}
use Rattle.slab_laws.specs.FaceLists.{AreOnce}
use Rattle.slab_laws.specs.FacesSound.{IsSound}
use Rattle.slab_laws.specs.Skeleton.{Skeleton}
use Rattle.slab_laws.specs.Sound.{dart_in, skeleton_of}
use Rattle.slab_laws.specs.Tables.{NamesAscend}
use Rattle.slab_laws.specs.Text.{skeleton}
use Rattle.slab_laws.specs.View.{View, Faces, HasFace, face_id, point_in, source_in, target_in}
use Rattle.arr_notes.specs.Curves.{is_forward}
use Rattle.sound_views.specs.Orders.{dart_order}
use Rattle.sound_views.proofs.GraphDrawn.{graphs_are_drawn}
use Rattle.sound_views.proofs.NamesOrdered.{edges_in_order}
use Rattle.record_orders.specs.declared.darts.DartKey.{DartKey}
use Rattle.record_orders.specs.Edges.{edge_of}
use Rattle.record_orders.specs.Keys.{dart_key, dart_keys}
use Rattle.record_orders.proofs.EdgeEnds.{ahead}
use Rattle.curve_history.specs.Past.{Past, curves_on}
use Rattle.told_steps.specs.RecordLayers.{IsLayer, layer_of}
use Rattle.dart_walks.specs.DartWalks.{AreJust}
use Rattle.arrangement.specs.Listed.{forward_ends, goes_forward}

-- ---- edges by their ends
module _ (v : View) where
  abbrev along : DartId → Edge
  along d = (dart_in v d).edge

  abbrev forward_darts : List DartId
  forward_darts = filter (is_forward v) (dart_order v)

  ends_told : map edge_of (forward_ends (dart_keys v)) ≡ map (λ (d : DartId). edge_of (point_in v (source_in v d), point_in v (target_in v d))) forward_darts
  ends_told =
      map_map (λ (k : DartKey). (k.source, k.target)) edge_of (filter goes_forward (dart_keys v))
      ∙ ap (map (λ (k : DartKey). edge_of (k.source, k.target))) (filter_of_map (dart_key v) goes_forward (dart_order v))
      ∙ map_map (dart_key v) (λ (k : DartKey). edge_of (k.source, k.target)) forward_darts

  edges_told : map (λ (d : DartId). edge_of (point_in v (source_in v d), point_in v (target_in v d))) forward_darts ≡ map along forward_darts
  edges_told =
      map_same (λ (d : DartId). edge_of (point_in v (source_in v d), point_in v (target_in v d))) along forward_darts
      (λ d m. sym (ahead (point_in v (source_in v d)) (point_in v (target_in v d)) ((of_filter (is_forward v) d (dart_order v) m).1)))

pub edges_listed : (v : View) (h : Past) → IsLayer v h → map edge_of (forward_ends (dart_keys v)) ≡ edges (graph (layer_of v h).present)
edges_listed v h l =
    ends_told v ∙ edges_told v ∙ edges_in_order v l.sound
    ∙ ap (λ (g : Skeleton). g.edges) (sym (ap skeleton (sym l.stands) ∙ graphs_are_drawn v (curves_on h) l.sound l.curves))

-- ---- faces by their names
names_once : (ns : List ℕ) → NamesAscend ns → AreOnce (map face_id ns)
names_once [] a = tt
names_once (n ∷ ns) a = (
  λ m.
      let w = of_map face_id (face_id n) ns m in
      let k : ℕ = w.0 in
      let e : n ≡ k = ap (λ (x : FaceId). x.0) w.2 in
      let l : n < k = All-member (λ (x : ℕ). n < x) k ns a.0 w.1 in
      absurd (omega (arith, e, l)),
  names_once ns a.1,
)

pub faces_listed : (f : Faces) → NamesAscend f.faces → AreJust (HasFace f) (map face_id f.faces)
faces_listed f a = record {
  just = λ x. (
    λ m. (let w = of_map face_id x f.faces m in subst (λ (y : FaceId). HasFace f y) (sym w.2) (from_member f.faces w.0 w.1)),
    λ c. in_map face_id x.0 f.faces (to_member f.faces x.0 c),
  );
  once = names_once f.faces a;
}

-- ---- what calls answer
pub edges_answered : {T E : Type 0} (v : View) (h : Past) → IsLayer v h → (r : Result T E) (items : T → List (Point × Point)) (ks : List DartKey) → ks ≡ dart_keys v → IfOk r (λ t. items t ≡ forward_ends ks) → IfOk r (λ t. map edge_of (items t) ≡ edges (graph (layer_of v h).present))
edges_answered v h l r items ks is e =
    IfOk-weaker r (λ t. items t ≡ forward_ends ks) (λ t. map edge_of (items t) ≡ edges (graph (layer_of v h).present))
    (λ t q. ap (map edge_of) (q ∙ ap forward_ends is) ∙ edges_listed v h l) e

pub faces_answered : {T E : Type 0} (v : View) (f : Faces) → IsSound v f → NamesAscend f.faces → (r : Result T E) (items : T → List FaceId) → IfOk r (λ t. items t ≡ map face_id f.faces) → IfOk r (λ t. AreJust (HasFace f) (items t))
faces_answered v f s a r items e =
    IfOk-weaker r (λ t. items t ≡ map face_id f.faces) (λ t. AreJust (HasFace f) (items t)) (λ t q. subst (AreJust (HasFace f)) (sym q) (faces_listed f a)) e
