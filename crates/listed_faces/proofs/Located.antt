-- What location answers of a point, by the face over the highest edge below it.
use Rattle.std.proofs.Common.{◌≡◌, ◌≢◌, ℕ, ◌<◌, true, length, get_or, Some, Err, sym, ap, subst, ◌∙◌, Contains, Equal}
use Rattle.std.specs.List.Sorted.{IsBinarySearchResult}
use Rattle.std.proofs.lemmas.Option.{slice_get-get_or, slice_get_within}
use Rattle.exact_plane.specs.Point.{Point}
use Rattle.exact_plane.specs.PointOrder.{point_cmp}
use Rattle.exact_plane.specs.PointOrderLaws.{point_cmp_total, same_point as one_point}
use Rattle.plane_graphs.specs.Ascending.{IsAscending}
use Rattle.plane_graphs.specs.Line.{IsProper}
use Rattle.plane_graphs.specs.Plane.{IsPlane}
use Rattle.slab_laws.specs.declared.cell.Cell.TheVariants.{Vertex, Edge as OnEdge, Face}
use Rattle.slab_laws.specs.declared.names.DartId.{DartId}
use Rattle.slab_laws.specs.declared.names.FaceId.{FaceId}
use Rattle.slab_laws.specs.declared.names.VertexId.{VertexId}
use Rattle.slab_laws.specs.Faces.{same_cell}
use Rattle.slab_laws.specs.FacesSound.{IsSound}
use Rattle.slab_laws.specs.Skeleton.{Skeleton, inside}
use Rattle.slab_laws.specs.Sound.{skeleton_of, edge_in}
use Rattle.slab_laws.specs.Subdivision.{subdivision, holds, rank, first_cell}
use Rattle.slab_laws.specs.View.{HasDart, HasVertex, HasFace, face_id, vertex_id, point_in}
use Rattle.slab_faces.proofs.FacesLemmas.{cells_exact}
use Rattle.slab_faces.proofs.LocationLemmas.{location_is}
use Rattle.slab_faces.proofs.Member.{member_in}
use Rattle.sound_views.proofs.ListedPlaces.{place_at}
use Rattle.sound_views.proofs.ListedRows.{slice_get_member}
use Rattle.sound_views.proofs.NamedDarts.{edge_known}
use Rattle.sound_views.proofs.RankedFaces.{faces_apart, first_face}
use Rattle.dart_orbits.proofs.SearchedLists.{absent}
use Rattle.face_changes.proofs.FacesByPairs.{outer_cycles_follow}
use Rattle.dcel_records.specs.Spots.{IsInFace}
use Rattle.face_steps.specs.VertexSteps.{IsFaceRound}
use Rattle.face_ranks.proofs.Located.{rank_is, face_is_located}
use Rattle.subdivision_rows.specs.Listed.{Drawing, skeleton_in, subdivision_in, view_of, faces_of, AreLinesOf}
use Rattle.subdivision_rows.proofs.ListedFaces.{has_face, face_within}
use Rattle.subdivision_rows.proofs.ListedRecords.{IsVertex, vertex_of, has_vertex, point_of}
use Rattle.subdivision_rows.proofs.ListsComplete.{complete}
use Rattle.subdivision_rows.proofs.ListsCycled.{cycled}
use Rattle.subdivision_rows.proofs.ListsDrawn.{view_draws}
use Rattle.subdivision_rows.proofs.ListsFaced.{cell, faced}
use Rattle.subdivision_rows.proofs.ListsGraphSound.{graph_sound}
use Rattle.listed_faces.specs.Located.{IsListedFaceAt, IsInNoListedFace}

-- ---- a search among the vertices, by their points
module _ (d : Drawing) (p : Point) where
  -- the vertex is at the point
  abbrev pub IsThere : VertexId → Type 0
  IsThere w = HasVertex (view_of d) w × (point_in (view_of d) w ≡ p)

  pub found_there : (i : ℕ) → i < length d.graph.points → point_cmp (get_or d.graph.points i p) p ≡ Equal → IsThere (vertex_id i)
  found_there i l s =
      let at : IsVertex d (vertex_id i) p = slice_get-get_or d.graph.points i p l ∙ ap Some (one_point (get_or d.graph.points i p) p s) in
      (has_vertex d (vertex_id i) p at, point_of d (vertex_id i) p at)

  pub there_contained : (w : VertexId) → IsThere w → Contains d.graph.points p
  there_contained w t =
      let k = vertex_of d w t.0 in
      subst (Contains d.graph.points) (sym (point_of d w k.0 k.1) ∙ t.1) (member_in d.graph.points k.0 (slice_get_member d.graph.points w.0 k.0 k.1))

  pub not_found : (i : ℕ) → IsAscending point_cmp d.graph.points → IsBinarySearchResult (λ q. point_cmp q p) d.graph.points (Err i) → (w : VertexId) → HasVertex (view_of d) w → point_in (view_of d) w ≢ p
  not_found i a s w W e = absent point_cmp point_cmp_total p d.graph.points i a s (there_contained w (W, e))

module _ (d : Drawing) (plane : IsPlane d.graph) (lines : AreLinesOf d) where
  -- each face goes by its least cell
  abbrev by_cells : IsSound (view_of d) (faces_of d)
  by_cells = record {
    graph = graph_sound d plane lines;
    complete = complete d plane;
    cycled = cycled d plane;
    faced = (cell d, outer_cycles_follow (view_of d) (faces_of d) (cell d) (graph_sound d plane lines) (complete d plane) (cycled d plane) (faced d plane));
  }

  -- whose place is its name
  cell_place : (a : FaceId) → HasFace (faces_of d) a → rank (subdivision_in d) (cell d a) ≡ a.0
  unfolding rank
  cell_place a h = place_at same_cell cells_exact (subdivision_in d).faces a.0 (cell d a) (faces_apart (skeleton_in d)) (slice_get-get_or (subdivision_in d).faces a.0 first_cell (face_within d a h))

  pub unbounded_has : HasFace (faces_of d) (face_id 0)
  unbounded_has = has_face d (face_id 0) (slice_get_within (subdivision_in d).faces 0 _ (first_face (skeleton_in d)))

  pub face_listed : (p : Point) → IsProper p → IsInFace (view_of d) p → (a : FaceId) → HasFace (faces_of d) a → IsFaceRound (view_of d) (faces_of d) a p → IsListedFaceAt d p a
  face_listed p proper nothing a A round = record {
    has = A;
    located =
        ap (λ (g : Skeleton). holds (subdivision g) p) (sym (view_draws d plane))
        ∙ face_is_located (view_of d) (faces_of d) p a by_cells proper nothing round
        ∙ ap Face (sym (rank_is (view_of d) (faces_of d) by_cells a A) ∙ ap (λ (g : Skeleton). rank (subdivision g) (cell d a)) (view_draws d plane) ∙ cell_place a A);
  }

  -- ---- on vertices and edges
  pub vertex_in_none : (p : Point) (w : VertexId) → IsThere d p w → IsInNoListedFace d p
  vertex_in_none p w t n q = let k : Vertex p ≡ Face n = sym (location_is.on_vertex (skeleton_in d) p (there_contained d p w t)) ∙ q in absurd (cc)

  pub edge_in_none : (p : Point) (e : DartId) → HasDart (view_of d) e → inside (edge_in (view_of d) e) p ≡ true → IsInNoListedFace d p
  edge_in_none p e E h n q =
      let at = location_is.on_edge (skeleton_of (view_of d)) (edge_in (view_of d) e) p (graph_sound d plane lines).plane (edge_known (view_of d) e E) h in
      let k : OnEdge at.edge.low at.edge.high ≡ Face n = sym at.located ∙ ap (λ (g : Skeleton). holds (subdivision g) p) (view_draws d plane) ∙ q in
      absurd (cc)
