-- The forward darts of records, in the order of names, tell each edge with the rank of the face above it.
use Rattle.std.proofs.Common.{◌≡◌, ℕ, ◌<◌, ◌+◌, true, false, cond, refl, sym, ap, ◌∙◌, subst, List, [], ◌∷◌, ◌++◌, length, map, take, get_or}
use Rattle.std.specs.Prelude.{filter}
use Rattle.std.specs.List.{Contains}
use Rattle.std.proofs.lemmas.List.{append-nil, map-append}
use Rattle.std.proofs.lemmas.List.Elements.{filter-append}
use Rattle.exact_plane.specs.Line.{Line}
use Rattle.exact_plane.specs.Span.{Span}
use Rattle.plane_graphs.specs.Ascending.{Member}
use Rattle.plane_graphs.specs.Graph.{Edge}
use Rattle.plane_graphs.specs.Piece.{Present}
use Rattle.plane_graphs.proofs.Lists.{in_map, of_map, in_filter, of_filter}
use Rattle.plane_graphs.proofs.Loops.{take_next}
use Rattle.slab_laws.specs.declared.names.DartId.{DartId}
use Rattle.slab_laws.specs.Cycles.{left_of_dart}
use Rattle.slab_laws.specs.Darts.{Dart, ahead}
use Rattle.slab_laws.specs.Faces.{face_labels, face_of}
use Rattle.slab_laws.specs.Overlay.{plane_of}
use Rattle.slab_laws.specs.Skeleton.{Skeleton}
use Rattle.slab_laws.specs.SpansDrawn.{edge_of}
use Rattle.slab_laws.specs.Sound.{skeleton_of, edge_in, dart_in}
use Rattle.slab_laws.specs.Subdivision.{subdivision, rank}
use Rattle.slab_laws.specs.Tables.{names}
use Rattle.slab_laws.specs.View.{View, HasDart, cycle_in, dart_id, face_in, line_in}
use Rattle.arr_notes.specs.Curves.{is_forward}
use Rattle.sound_views.proofs.EveryEdge.{by_forward}
use Rattle.sound_views.proofs.NamedDarts.{dart_name, named_dart, edge_known, known_edge}
use Rattle.dcel_records.specs.RecordsView.{RecordsView, tables_of}
use Rattle.dcel_records.specs.SoundMaps.{IsSoundMap}
use Rattle.face_ranks.proofs.Located.{rank_is}
use Rattle.overlay_sweep.specs.declared.own.OwnEdge.{OwnEdge}
use Rattle.overlay_sweep.specs.LayerLabels.{rank_beside}
use Rattle.overlay_sweep.specs.OwnEdges.{AreOwnEdges}
use Rattle.own_edges.specs.OwnDarts.{own_of, span_in}

-- what a span of an edge is
pub span_is : (v : View) (d : DartId) (s : Span) → edge_of s ≡ edge_in v d → s.line ≡ line_in v d → s ≡ span_in v d
span_is v d s e l = λ i. record { lower = (e i).low; upper = (e i).high; line = l i }

-- the edges of the forward ones of these darts
abbrev pub owned_by : RecordsView → List DartId → List OwnEdge
owned_by h ds = map (own_of h) (filter (is_forward h.graph) ds)

module _ (h : RecordsView) (ds : List DartId) (i : ℕ) (d : DartId) (l : i < length ds) (e : d ≡ get_or ds i d) where
  pub owned_more : (now new : List OwnEdge) → is_forward h.graph d ≡ true → now ≡ owned_by h (take i ds) → new ≡ now ++ own_of h d ∷ [] → new ≡ owned_by h (take (i + 1) ds)
  owned_more now new f n m =
      m ∙ ap (λ zs. zs ++ own_of h d ∷ []) n
      ∙ sym (ap (owned_by h) (take_next ds i d l e) ∙ ap (map (own_of h)) (filter-append (is_forward h.graph) (take i ds) (d ∷ []) ∙ ap (λ b. filter (is_forward h.graph) (take i ds) ++ cond b (d ∷ []) []) f) ∙ map-append (own_of h) (filter (is_forward h.graph) (take i ds)) (d ∷ []))

  pub owned_same : (now : List OwnEdge) → is_forward h.graph d ≡ false → now ≡ owned_by h (take i ds) → now ≡ owned_by h (take (i + 1) ds)
  owned_same now f n =
      n ∙ sym (ap (owned_by h) (take_next ds i d l e) ∙ ap (map (own_of h)) (filter-append (is_forward h.graph) (take i ds) (d ∷ []) ∙ ap (λ b. filter (is_forward h.graph) (take i ds) ++ cond b (d ∷ []) []) f ∙ append-nil (filter (is_forward h.graph) (take i ds))))

-- ---- all of them
module _ (h : RecordsView) (m : IsSoundMap h) where
  abbrev all_names : List DartId
  all_names = map dart_id (names h.graph.darts)

  abbrev edges : List OwnEdge
  edges = owned_by h all_names

  -- an element is that of a forward dart
  of_edges : (k : OwnEdge) → Member k edges → (d : DartId) × HasDart h.graph d × (is_forward h.graph d ≡ true) × (k ≡ own_of h d)
  of_edges k i =
      let a = of_map (own_of h) k (filter (is_forward h.graph) all_names) i in
      let b = of_filter (is_forward h.graph) a.0 all_names a.1 in
      (a.0, named_dart h.graph a.0 b.0, b.1, a.2)

  in_edges : (d : DartId) → HasDart h.graph d → is_forward h.graph d ≡ true → Member (own_of h d) edges
  in_edges d has f = in_map (own_of h) d (filter (is_forward h.graph) all_names) (in_filter (is_forward h.graph) d all_names (dart_name h.graph d has) f)

  -- the face of a forward dart's cycle is above its edge
  over_is : (d : DartId) → HasDart h.graph d → is_forward h.graph d ≡ true → (own_of h d).over ≡ rank_beside (skeleton_of h.graph) (ahead (edge_in h.graph d))
  over_is d has f =
      let v = h.graph in
      let g = skeleton_of v in
      let s = m.sound in
      let t = tables_of h in
      let a = face_in t (cycle_in t d) in
      let is : dart_in v d ≡ ahead (edge_in v d) = λ i. record { edge = edge_in v d; forward = f i } in
      sym (rank_is v t s a (s.complete.face_has (cycle_in t d) (s.complete.cycle_has d has)))
      ∙ ap (rank (subdivision g)) (s.faced.1.darts d has)
      ∙ ap (λ (x : Dart). rank (subdivision g) (face_of (face_labels g) (left_of_dart g x))) is

  module _ (p : Present) (e : plane_of p ≡ skeleton_of h.graph) where
    pub are_own : (ks : List OwnEdge) → ks ≡ edges → AreOwnEdges p ks
    are_own ks is =
        let drawn = sym e in
        subst (AreOwnEdges p) (sym is) (record {
          own = λ k i. let a = of_edges k i in
              subst (λ (g : Skeleton). Contains g.edges (edge_of k.span)) drawn (subst (λ (x : OwnEdge). Contains (skeleton_of h.graph).edges (edge_of x.span)) (sym a.3) (edge_known h.graph a.0 a.1));
          all = λ x X. let a = known_edge h.graph x (subst (λ (g : Skeleton). Contains g.edges x) e X) in
              subst (λ (y : Edge). (k : OwnEdge) × Member k edges × (edge_of k.span ≡ y)) (sym a.2)
              (by_forward h.graph m.sound.graph (λ (y : Edge) (l : Line). (k : OwnEdge) × Member k edges × (edge_of k.span ≡ y)) (λ d has f. (own_of h d, in_edges d has f, refl)) a.0 a.1);
          over = λ k i. let a = of_edges k i in
              subst (λ (g : Skeleton). k.over ≡ rank_beside g (ahead (edge_of k.span))) drawn (subst (λ (x : OwnEdge). x.over ≡ rank_beside (skeleton_of h.graph) (ahead (edge_of x.span))) (sym a.3) (over_is a.0 a.1 a.2));
        })
