-- Rows that are read by name, one name after the other, are the view.
use Rattle.std.proofs.Common.{◌≡◌, ℕ, List, [], ◌∷◌, map, flat_map, refl, sym, ap, subst, ◌∙◌, inl, inr}
use Rattle.std.specs.Prelude.{filter}
use Rattle.std.specs.List.{AllByRecursion}
use Rattle.std.proofs.lemmas.Bool.{cases_Bool}
use Rattle.std.proofs.lemmas.List.Elements.{All-from_recursion}
use Rattle.plane_graphs.proofs.Lists.{map_map}
use Rattle.slab_laws.specs.declared.names.CurveId.{CurveId}
use Rattle.slab_laws.specs.declared.names.DartId.{DartId}
use Rattle.slab_laws.specs.declared.names.FaceId.{FaceId}
use Rattle.slab_laws.specs.FacesSound.{IsComplete}
use Rattle.slab_laws.specs.Sound.{IsNamed}
use Rattle.slab_laws.specs.Tables.{names}
use Rattle.slab_laws.specs.View.{View, Faces, DartRecord, cycle_id, face_id, vertex_id, dart_id, point_or, pin_or, source_or, twin_or, next_or, line_or, line_in}
use Rattle.arr_notes.specs.Curves.{is_forward}
use Rattle.arr_notes.specs.CurvedView.{view_by}
use Rattle.arr_notes.specs.ViewRows.{vertex_row, dart_row, edge_row, bare_row, cycle_row, cycle_of_row, vertex_named, dart_named, edge_named, cycle_named, graph_of_rows, faces_of_rows, view_of_rows, HaveLines}
use Rattle.arr_notes.specs.declared.view.CycleRow.{CycleRow}
use Rattle.arr_notes.specs.declared.view.VertexRow.{VertexRow}
use Rattle.arr_notes.specs.declared.view.DartRow.{DartRow}
use Rattle.arr_notes.specs.declared.view.EdgeRow.{EdgeRow}
use Rattle.arr_notes.proofs.FacesDrawn.{cycles_of_read, bare_read, cycles_read, faces_read}
use Rattle.arr_notes.proofs.NamedTables.{rows_read}

module _ (v : View) (f : Faces) (k : DartId → List CurveId) (s : IsNamed v) (complete : IsComplete v f) where
  vertices_read : map vertex_row (map (vertex_named v f) (map vertex_id (names v.vertices))) ≡ v.vertices
  vertices_read =
      map_map (vertex_named v f) vertex_row (map vertex_id (names v.vertices)) ∙ map_map vertex_id (λ u. vertex_row (vertex_named v f u)) (names v.vertices)
      ∙ rows_read (λ n o. record { point = point_or o; pinned = pin_or o }) (λ n x. refl) v.vertices s.vertices

  darts_read : map dart_row (map (dart_named v f) (map dart_id (names v.darts))) ≡ v.darts
  darts_read =
      map_map (dart_named v f) dart_row (map dart_id (names v.darts)) ∙ map_map dart_id (λ d. dart_row (dart_named v f d)) (names v.darts)
      ∙ rows_read (λ n o. record { source = source_or o; twin = twin_or (dart_id n) o; next = next_or (dart_id n) o; line = line_or o }) (λ n x. refl) v.darts s.darts

  edges_read : (rs : List (ℕ × DartRecord)) → map edge_row (map (edge_named v k) (filter (is_forward v) (map dart_id (names rs)))) ≡ map (λ r. (r.0, map (λ c. c.0) (k (dart_id r.0)))) (filter (λ r. is_forward v (dart_id r.0)) rs)
  edges_read [] = refl
  edges_read (r ∷ rs) = elim (cases_Bool (is_forward v (dart_id r.0))) [
    | inl q ↦ rw q (ap (λ (es : List (ℕ × List ℕ)). (r.0, map (λ c. c.0) (k (dart_id r.0))) ∷ es) (edges_read rs))
    | inr q ↦ rw q (edges_read rs)
  ]

  lines_read : (ds : List DartId) → AllByRecursion (λ r. r.line ≡ line_in v r.dart) (map (edge_named v k) ds)
  lines_read [] = tt
  lines_read (d ∷ ds) = (refl, lines_read ds)

  module _ (vs : List VertexRow) (ds : List DartRow) (es : List EdgeRow) (cs : List CycleRow) (fs : List FaceId)
      (vertices : vs ≡ map (vertex_named v f) (map vertex_id (names v.vertices))) (darts : ds ≡ map (dart_named v f) (map dart_id (names v.darts)))
      (edges : es ≡ map (edge_named v k) (filter (is_forward v) (map dart_id (names v.darts))))
      (cycles : cs ≡ map (cycle_named f) (map cycle_id (names f.cycles))) (faces : fs ≡ map face_id f.faces) where
    graph_is_drawn : graph_of_rows vs ds ≡ v
    graph_is_drawn =
        let p : map vertex_row vs ≡ v.vertices = ap (map vertex_row) vertices ∙ vertices_read in
        let q : map dart_row ds ≡ v.darts = ap (map dart_row) darts ∙ darts_read in
        λ i. record { vertices = p i; darts = q i }

    faces_are_drawn : faces_of_rows vs ds cs fs ≡ f
    faces_are_drawn =
        let p : map cycle_of_row ds ≡ f.cycle_of = ap (map cycle_of_row) darts ∙ cycles_of_read v f s complete in
        let q : flat_map (λ (r : VertexRow). bare_row r.name r.face) vs ≡ f.bare = ap (flat_map (λ (r : VertexRow). bare_row r.name r.face)) vertices ∙ bare_read v f s complete in
        let t : map cycle_row cs ≡ f.cycles = ap (map cycle_row) cycles ∙ cycles_read f complete.cycles_ascend in
        let u : map (λ (a : FaceId). a.0) fs ≡ f.faces = ap (map (λ (a : FaceId). a.0)) faces ∙ faces_read f.faces in
        λ i. record { cycle_of = p i; bare = q i; cycles = t i; faces = u i }

    pub view_is_drawn : view_of_rows vs ds es cs fs ≡ view_by v f k
    view_is_drawn =
        let g = graph_is_drawn in
        let h = faces_are_drawn in
        let e : map edge_row es ≡ (view_by v f k).curves = ap (map edge_row) edges ∙ edges_read v.darts in
        λ i. record { graph = g i; faces = h i; curves = e i }

    pub lines_are_drawn : HaveLines (graph_of_rows vs ds) es
    lines_are_drawn =
        subst (λ w. HaveLines w es) (sym graph_is_drawn)
        (subst (HaveLines v) (sym edges) (All-from_recursion (λ r. r.line ≡ line_in v r.dart) _ (lines_read (filter (is_forward v) (map dart_id (names v.darts))))))
