-- What the lists of a subdivision say of a name that has a record.
use Rattle.std.proofs.Common.{◌≡◌, ℕ, ◌<◌, ◌≤◌, arith, sym, ap, subst, ◌∙◌, map, length, Some, get_or}
use Rattle.std.specs.Prelude.{slice_get, pos}
use Rattle.std.specs.Option.{option_map}
use Rattle.std.proofs.lemmas.Option.{get_or_from_slice_get, slice_get_within, slice_get-map, slice_get-get_or}
use Rattle.std.proofs.Math.ListN.{length-map}
use Rattle.exact_plane.specs.Span.{Span}
use Rattle.plane_graphs.specs.Graph.{Edge, edges}
use Rattle.plane_graphs.proofs.Sorting.{any_default}
use Rattle.slab_laws.specs.SpansDrawn.{edge_of}
use Rattle.slab_laws.specs.Skeleton.{same_edge}
use Rattle.slab_laws.specs.Darts.{Dart, darts}
use Rattle.slab_laws.specs.Rotation.{twin, next}
use Rattle.slab_laws.specs.Rows.{no_dart, dart_list, dart_row, dart_rows, twin_places, next_places, edge_place, dart_place}
use Rattle.slab_laws.specs.declared.rows.ListedDart.{ListedDart}
use Rattle.slab_laws.specs.declared.names.VertexId.{VertexId}
use Rattle.slab_laws.specs.declared.names.DartId.{DartId}
use Rattle.slab_laws.specs.View.{HasDart, IsOutOf, vertex_id, dart_id, source_in, target_in, twin_in, next_in, line_in}
use Rattle.slab_faces.proofs.Member.{in_member}
use Rattle.slab_faces.proofs.Places.{edges_exact}
use Rattle.subdivision_rows.specs.Listed.{Drawing, skeleton_in, line_at, view_of, faces_of}
use Rattle.slab_laws.specs.FacesSound.{IsSound}
use Rattle.sound_views.proofs.ListedPlaces.{at_place}
use Rattle.subdivision_rows.proofs.ListedRecords.{IsDart, dart_of, has_dart, source_of, twin_of, next_of, line_of, twin_is, of_edges}
use Rattle.subdivision_rows.proofs.ListsSound.{lists_are_sound}
use Rattle.subdivision_rows.specs.declared.lists.RowLists.{RowLists}
use Rattle.subdivision_rows.specs.RowsInMemory.{drawing_of, AreSoundRows}
use Rattle.subdivision_rows.proofs.Items.{within, item_is, read, no_row}

module _ (a : RowLists) (k : AreSoundRows a) where
  abbrev D : Drawing
  D = drawing_of a

  stands_there : IsSound (view_of D) (faces_of D)
  stands_there = lists_are_sound D k.plane k.lines

  -- ---- the lists of darts
  darts_are : a.darts.items ≡ map (dart_row (skeleton_in D)) (dart_list (skeleton_in D))
  unfolding dart_rows
  darts_are = k.darts

  twins_are : a.twins.items ≡ map (λ h. dart_place (skeleton_in D) (twin h)) (dart_list (skeleton_in D))
  unfolding twin_places
  twins_are = k.twins

  nexts_are : a.nexts.items ≡ map (λ h. dart_place (skeleton_in D) (next (darts (skeleton_in D)) h)) (dart_list (skeleton_in D))
  unfolding next_places
  nexts_are = k.nexts

  dart_below : (h : DartId) → HasDart (view_of D) h → h.0 < length a.darts.items
  dart_below h H = let x = dart_of D h H in within (dart_row (skeleton_in D)) (dart_list (skeleton_in D)) a.darts.items darts_are h.0 x.0 x.1

  twin_below : (h : DartId) → HasDart (view_of D) h → h.0 < length a.twins.items
  twin_below h H = let x = dart_of D h H in within (λ h. dart_place (skeleton_in D) (twin h)) (dart_list (skeleton_in D)) a.twins.items twins_are h.0 x.0 x.1

  next_below : (h : DartId) → HasDart (view_of D) h → h.0 < length a.nexts.items
  next_below h H = let x = dart_of D h H in within (λ h. dart_place (skeleton_in D) (next (darts (skeleton_in D)) h)) (dart_list (skeleton_in D)) a.nexts.items nexts_are h.0 x.0 x.1

  source_there : (h : DartId) (r : ListedDart) → HasDart (view_of D) h → r ≡ get_or a.darts.items h.0 r → vertex_id r.source ≡ source_in (view_of D) h
  source_there h r H e =
      let x = dart_of D h H in
      ap (λ (r : ListedDart). vertex_id r.source) (item_is (dart_row (skeleton_in D)) (dart_list (skeleton_in D)) a.darts.items darts_are h.0 x.0 x.1 r r e) ∙ sym (source_of D h x.0 x.1)

  target_there : (h : DartId) (r : ListedDart) → HasDart (view_of D) h → r ≡ get_or a.darts.items h.0 r → vertex_id r.target ≡ target_in (view_of D) h
  target_there h r H e =
      let x = dart_of D h H in
      ap (λ (r : ListedDart). vertex_id r.target) (item_is (dart_row (skeleton_in D)) (dart_list (skeleton_in D)) a.darts.items darts_are h.0 x.0 x.1 r r e) ∙ sym (source_of D (twin_in (view_of D) h) (twin x.0) (twin_is D k.plane h x.0 x.1))

  twin_there : (h : DartId) (n : ℕ) → HasDart (view_of D) h → n ≡ get_or a.twins.items h.0 n → dart_id n ≡ twin_in (view_of D) h
  twin_there h n H e =
      let x = dart_of D h H in
      ap dart_id (item_is (λ h. dart_place (skeleton_in D) (twin h)) (dart_list (skeleton_in D)) a.twins.items twins_are h.0 x.0 x.1 n n e) ∙ sym (twin_of D h x.0 x.1)

  next_there : (h : DartId) (n : ℕ) → HasDart (view_of D) h → n ≡ get_or a.nexts.items h.0 n → dart_id n ≡ next_in (view_of D) h
  next_there h n H e =
      let x = dart_of D h H in
      ap dart_id (item_is (λ h. dart_place (skeleton_in D) (next (darts (skeleton_in D)) h)) (dart_list (skeleton_in D)) a.nexts.items nexts_are h.0 x.0 x.1 n n e) ∙ sym (next_of D h x.0 x.1)

  -- ---- the line of a dart's edge
  edge_is_there : (h : DartId) (r : ListedDart) → HasDart (view_of D) h → r ≡ get_or a.darts.items h.0 r → (x : Dart) × IsDart D h x × (r.edge ≡ edge_place (skeleton_in D) x.edge) × (slice_get (map edge_of a.edges.items) r.edge ≡ Some x.edge)
  edge_is_there h r H e =
      let x = dart_of D h H in
      let n = ap (λ (r : ListedDart). r.edge) (item_is (dart_row (skeleton_in D)) (dart_list (skeleton_in D)) a.darts.items darts_are h.0 x.0 x.1 r r e) in
      let there = at_place same_edge edges_exact (edges D.graph) x.0.edge (in_member (edges D.graph) x.0.edge (of_edges D k.plane h x.0 x.1)) in
      (x.0, x.1, n, (λ i. slice_get (k.edges_are i) (n i)) ∙ there)

  edge_below : (h : DartId) (r : ListedDart) → HasDart (view_of D) h → r ≡ get_or a.darts.items h.0 r → r.edge < length a.edges.items
  edge_below h r H e = let x = edge_is_there h r H e in let n : length (map edge_of a.edges.items) ≡ length a.edges.items = simp length-map in subst (λ n. r.edge < n) n (slice_get_within (map edge_of a.edges.items) r.edge x.0.edge x.3)

  line_there : (h : DartId) (r : ListedDart) (s : Span) → HasDart (view_of D) h → r ≡ get_or a.darts.items h.0 r → s ≡ get_or a.edges.items r.edge s → s.line ≡ line_in (view_of D) h
  line_there h r s H e f =
      let x = edge_is_there h r H e in
      let b = edge_below h r H e in
      sym (line_of D h x.0 x.1 ∙ ap (line_at D) (sym x.2) ∙ get_or_from_slice_get D.lines r.edge s.line (record { a = pos 0; b = pos 0; c = pos 0 }) (slice_get-map (λ (s : Span). s.line) a.edges.items r.edge ∙ ap (option_map (λ (s : Span). s.line)) (read a.edges.items r.edge s b f)))

-- ---- the same of the value that is seen
module _ (a : RowLists) (d : Drawing) (k : AreSoundRows a) (is : drawing_of a ≡ d) where
  pub stands : IsSound (view_of d) (faces_of d)
  stands = subst (λ (d : Drawing). IsSound (view_of d) (faces_of d)) is (stands_there a k)

  before : (h : DartId) → HasDart (view_of d) h → HasDart (view_of (drawing_of a)) h
  before h H = subst (λ (d : Drawing). HasDart (view_of d) h) (sym is) H

  pub dart_within : (h : DartId) → HasDart (view_of d) h → h.0 < length a.darts.items
  dart_within h H = dart_below a k h (before h H)

  pub twin_within : (h : DartId) → HasDart (view_of d) h → h.0 < length a.twins.items
  twin_within h H = twin_below a k h (before h H)

  pub next_within : (h : DartId) → HasDart (view_of d) h → h.0 < length a.nexts.items
  next_within h H = next_below a k h (before h H)

  pub edge_within : (h : DartId) (r : ListedDart) → HasDart (view_of d) h → r ≡ get_or a.darts.items h.0 r → r.edge < length a.edges.items
  edge_within h r H e = edge_below a k h r (before h H) e

  pub source_reads : (h : DartId) (r : ListedDart) → HasDart (view_of d) h → r ≡ get_or a.darts.items h.0 r → vertex_id r.source ≡ source_in (view_of d) h
  source_reads h r H e = subst (λ (d : Drawing). vertex_id r.source ≡ source_in (view_of d) h) is (source_there a k h r (before h H) e)

  pub target_reads : (h : DartId) (r : ListedDart) → HasDart (view_of d) h → r ≡ get_or a.darts.items h.0 r → vertex_id r.target ≡ target_in (view_of d) h
  target_reads h r H e = subst (λ (d : Drawing). vertex_id r.target ≡ target_in (view_of d) h) is (target_there a k h r (before h H) e)

  pub twin_reads : (h : DartId) (n : ℕ) → HasDart (view_of d) h → n ≡ get_or a.twins.items h.0 n → dart_id n ≡ twin_in (view_of d) h
  twin_reads h n H e = subst (λ (d : Drawing). dart_id n ≡ twin_in (view_of d) h) is (twin_there a k h n (before h H) e)

  pub next_reads : (h : DartId) (n : ℕ) → HasDart (view_of d) h → n ≡ get_or a.nexts.items h.0 n → dart_id n ≡ next_in (view_of d) h
  next_reads h n H e = subst (λ (d : Drawing). dart_id n ≡ next_in (view_of d) h) is (next_there a k h n (before h H) e)

  pub line_reads : (h : DartId) (r : ListedDart) (s : Span) → HasDart (view_of d) h → r ≡ get_or a.darts.items h.0 r → s ≡ get_or a.edges.items r.edge s → s.line ≡ line_in (view_of d) h
  line_reads h r s H e f = subst (λ (d : Drawing). s.line ≡ line_in (view_of d) h) is (line_there a k h r s (before h H) e f)

  -- the place of its edge
  pub place_reads : (h : DartId) (r : ListedDart) → HasDart (view_of d) h → r ≡ get_or a.darts.items h.0 r → (x : Dart) × IsDart d h x × (r.edge ≡ edge_place (skeleton_in d) x.edge)
  place_reads h r H e =
      let x = edge_is_there a k h r (before h H) e in
      (x.0, subst (λ (d : Drawing). IsDart d h x.0) is x.1, x.2 ∙ ap (λ (d : Drawing). edge_place (skeleton_in d) x.0.edge) is)

  pub place_within : (h : DartId) (r : ListedDart) → HasDart (view_of d) h → r ≡ get_or a.darts.items h.0 r → r.edge < length (edges d.graph)
  place_within h r H e =
      let n : length (map edge_of a.edges.items) ≡ length a.edges.items = simp length-map in
      let m : length (map edge_of a.edges.items) ≡ length (edges d.graph) = ap length k.edges_are ∙ ap (λ (d : Drawing). length (edges d.graph)) is in
      let b = edge_below a k h r (before h H) e in
      omega arith

  -- the edge of the dart that goes by the name
  pub edge_reads : (h : DartId) (r : ListedDart) (s : Span) → HasDart (view_of d) h → r ≡ get_or a.darts.items h.0 r → s ≡ get_or a.edges.items r.edge s → (x : Dart) × IsDart d h x × (edge_of s ≡ x.edge)
  edge_reads h r s H e f =
      let x = edge_is_there a k h r (before h H) e in
      let b = edge_below a k h r (before h H) e in
      (x.0, subst (λ (d : Drawing). IsDart d h x.0) is x.1, some_same (sym (slice_get-map edge_of a.edges.items r.edge ∙ ap (option_map edge_of) (read a.edges.items r.edge s b f)) ∙ x.3))
    where
      some_same : {e f : Edge} → Some e ≡ Some f → e ≡ f
      some_same q = cc

  -- ---- the darts out of a vertex
  pub out_is : (w : VertexId) (n : ℕ) (r : ListedDart) → n < length a.darts.items → r ≡ get_or a.darts.items n r → r.source ≡ w.0 → IsOutOf (view_of d) w (dart_id n)
  out_is w n r h e q =
      let H : HasDart (view_of d) (dart_id n) = subst (λ (d : Drawing). HasDart (view_of d) (dart_id n)) is (there_has n h) in
      (H, sym (source_reads (dart_id n) r H e) ∙ ap vertex_id q)
    where
      there_has : (n : ℕ) → n < length a.darts.items → HasDart (view_of (drawing_of a)) (dart_id n)
      there_has n h = let m : n < length (dart_list (skeleton_in (drawing_of a))) = subst (λ k. n < k) (ap length (darts_are a k) ∙ simp length-map) h in has_dart (drawing_of a) (dart_id n) _ (slice_get-get_or (dart_list (skeleton_in (drawing_of a))) n no_dart m)

  pub none_out : (w : VertexId) (n : ℕ) → length a.darts.items ≤ n → ((k : ℕ) → k < n → (get_or a.darts.items k no_row).source ≡ w.0 → ⊥) → (h : DartId) → IsOutOf (view_of d) w h → ⊥
  none_out w n m f h o =
      let b = dart_within h o.0 in
      let r : ListedDart = get_or a.darts.items h.0 no_row in
      let e : r ≡ get_or a.darts.items h.0 r = any_default a.darts.items h.0 no_row r b in
      f h.0 (omega arith) (ap (λ w. w.0) (source_reads h r o.0 e ∙ o.1))
