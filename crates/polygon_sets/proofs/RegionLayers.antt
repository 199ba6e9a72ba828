-- What the subdivision by two layers tells, with the numbers of their pieces along its edges, is what the layers have.
use Rattle.std.proofs.Common.{◌≡◌, ℕ, cond, [], ◌∷◌, refl, sym, ap, ap₂, ◌∙◌, subst, List, length, map, get_or}
use Rattle.std.specs.Prelude.{None, Some, find, ◌%◌, ◌==◌}
use Rattle.std.specs.List.{Contains}
use Rattle.std.proofs.lemmas.List.{get_or-map, length-map}
use Rattle.exact_plane.specs.Point.{Point}
use Rattle.plane_graphs.specs.Fit.{IsFit}
use Rattle.plane_graphs.specs.Graph.{Edge, edges, graph}
use Rattle.plane_graphs.specs.Piece.{Present}
use Rattle.plane_graphs.specs.Plane.{IsPlane}
use Rattle.plane_graphs.proofs.Ascending.{to_member}
use Rattle.slab_laws.specs.declared.slab_cell.SlabCell.{SlabCell}
use Rattle.slab_laws.specs.Faces.{cells}
use Rattle.slab_laws.specs.Overlay.{both, plane_of, overlay, overlay_skeleton}
use Rattle.slab_laws.specs.Rows.{edge_place, no_dart}
use Rattle.slab_laws.specs.Skeleton.{Skeleton, same_edge, IsPlaneSkeleton}
use Rattle.slab_laws.specs.Subdivision.{Subdivision, subdivision}
use Rattle.slab_laws.specs.Weights.{at_end}
use Rattle.slab_faces.proofs.Places.{edges_exact}
use Rattle.slab_faces.proofs.Sums.{each, sum_by-same}
use Rattle.dart_orbits.proofs.Listed.{edge_within}
use Rattle.dart_orbits.proofs.Placed.{at_place}
use Rattle.overlay_laws.proofs.Both.{both_fit}
use Rattle.overlay_laws.proofs.Labels.{plane_by}
use Rattle.subdivision_rows.specs.Listed.{Drawing, skeleton_in, subdivision_in}
use Rattle.set_laws.specs.declared.op.Op.{Op}
use Rattle.set_laws.specs.EvenOdd.{border, above_in}
use Rattle.set_laws.specs.PolygonSets.{IsClosedLayer, odd_end, pieces_along, holds_at, region}
use Rattle.set_laws.specs.PolygonLaws.{IsFoundByEdges}
use Rattle.set_laws.proofs.Insides.{of_faces, inside_is_of_faces}
use Rattle.set_laws.proofs.OpRegions.{border_tells_cells, region_tells_cells}
use Rattle.set_laws.proofs.OddEnds.{odd_end_is, odd_end_by_edges}
use Rattle.set_laws.proofs.SameBorder.{same_border}
use Rattle.polygon_sets.specs.declared.region.Colour.TheVariants.{Red, Blue}
use Rattle.polygon_sets.specs.declared.region.RegionError.{RegionError}
use Rattle.polygon_sets.specs.declared.region.RegionError.TheVariants.{Open, NoMemory}
use Rattle.polygon_sets.specs.Boundaries.{IsBoundary}
use Rattle.polygon_sets.specs.Regions.{dart_ends, pieces_on, IsRegionBy, IsErrorBy, AreCountsOf, IsRegionOfLayers, IsErrorOfLayers}
use Rattle.subdivision_rows.proofs.ListedRecords.{plane as plane_skeleton}
use Rattle.polygon_sets.proofs.RegionBoundaries.{boundary}
use Rattle.polygon_sets.proofs.RegionRows.{even_by}
use Rattle.polygon_sets.specs.Weighted.{weight_by, is_odd_vertex, odd_vertex}

-- ---- the weights are the numbers of pieces
module _ (g : Skeleton) (plane : IsPlaneSkeleton g) (layer : Present) (counts : List ℕ) (are : counts ≡ map (pieces_along layer) g.edges) where
  pub weight_is : (e : Edge) → Contains g.edges e → weight_by g counts e ≡ pieces_along layer e
  weight_is e E =
      ap (λ xs. get_or xs (edge_place g e) 0) are
      ∙ get_or-map (pieces_along layer) g.edges (edge_place g e) no_dart.edge 0 (edge_within g plane e E)
      ∙ ap (pieces_along layer) (at_place same_edge edges_exact g.edges e no_dart.edge (to_member g.edges e E))

  same_at : (v : Point) → is_odd_vertex g (weight_by g counts) v ≡ is_odd_vertex g (pieces_along layer) v
  same_at v = ap (λ n. n % 2 == 1) (sum_by-same (at_end (weight_by g counts) v) (at_end (pieces_along layer) v) g.edges (each (λ e. at_end (weight_by g counts) v e ≡ at_end (pieces_along layer) v e) g.edges (λ e E. ap (λ n. at_end (λ _. n) v e) (weight_is e E))))

  same_found : (vs : List Point) → find (is_odd_vertex g (weight_by g counts)) vs ≡ find (is_odd_vertex g (pieces_along layer)) vs
  same_found [] = refl
  same_found (v ∷ vs) = (λ i. cond (same_at v i) (Some v) (same_found vs i))

  pub same_vertex : odd_vertex g (weight_by g counts) ≡ odd_vertex g (pieces_along layer)
  unfolding odd_vertex
  same_vertex = same_found g.vertices

found_there : (layer whole : Present) → IsFoundByEdges layer whole → odd_end layer ≡ odd_vertex (plane_of whole) (pieces_along layer)
unfolding odd_vertex graph
found_there layer whole h = h

-- ---- of the drawing itself
pub region_here : (d : Drawing) → IsPlane d.graph → (red blue : List ℕ) (op : Op) (ends : List (Point × Point)) → odd_vertex (skeleton_in d) (pieces_on d red) ≡ None → odd_vertex (skeleton_in d) (pieces_on d blue) ≡ None → ends ≡ map dart_ends (border op (skeleton_in d) (pieces_on d red) (pieces_on d blue))
    → IsRegionBy op d red blue ends
region_here d pl red blue op ends cr cb e =
    let flat : IsPlaneSkeleton (skeleton_in d) = plane_skeleton d pl in
    let er = even_by (skeleton_in d) (pieces_on d red) cr in
    let eb = even_by (skeleton_in d) (pieces_on d blue) cb in
    record {
      red_closed = cr;
      blue_closed = cb;
      red_of_faces = of_faces (skeleton_in d) (pieces_on d red) flat er;
      blue_of_faces = of_faces (skeleton_in d) (pieces_on d blue) flat eb;
      tells = λ c C. border_tells_cells op (skeleton_in d) (pieces_on d red) (pieces_on d blue) c flat er eb C;
      darts = e;
    }

-- and it is the border of a plane graph of its own
pub boundary_here : (d : Drawing) → IsPlane d.graph → (red blue : List ℕ) (op : Op) (ends : List (Point × Point)) → IsRegionBy op d red blue ends → IsBoundary ends
boundary_here d pl red blue op ends r = subst IsBoundary (sym r.darts) (boundary op (skeleton_in d) (pieces_on d red) (pieces_on d blue) (plane_skeleton d pl) r.red_of_faces r.blue_of_faces)

module _ (red blue : Present) (fr : IsFit red) (fb : IsFit blue) (d : Drawing) (red_counts blue_counts : List ℕ) (of : AreCountsOf red blue d red_counts blue_counts) where
  plane : IsPlaneSkeleton (skeleton_in d)
  plane = subst IsPlaneSkeleton (sym of.graph) (plane_by (both red blue) (both_fit red blue fr fb))

  red_end : odd_vertex (skeleton_in d) (pieces_on d red_counts) ≡ odd_end red
  red_end = same_vertex (skeleton_in d) plane red red_counts of.of_red ∙ ap (λ g. odd_vertex g (pieces_along red)) of.graph ∙ sym (found_there red (both red blue) (odd_end_by_edges.red red blue fr fb))

  blue_end : odd_vertex (skeleton_in d) (pieces_on d blue_counts) ≡ odd_end blue
  blue_end = same_vertex (skeleton_in d) plane blue blue_counts of.of_blue ∙ ap (λ g. odd_vertex g (pieces_along blue)) of.graph ∙ sym (found_there blue (both red blue) (odd_end_by_edges.blue red blue fr fb))

  red_closed : odd_vertex (skeleton_in d) (pieces_on d red_counts) ≡ None → IsClosedLayer red
  red_closed h = (odd_end_is.none red).0 (sym red_end ∙ h)

  blue_closed : odd_vertex (skeleton_in d) (pieces_on d blue_counts) ≡ None → IsClosedLayer blue
  blue_closed h = (odd_end_is.none blue).0 (sym blue_end ∙ h)

  tells_there : (op : Op) → IsClosedLayer red → IsClosedLayer blue → (c : SlabCell) → Contains (cells (overlay_skeleton red blue)) c → (above_in (overlay_skeleton red blue) (region op red blue) c % 2 == 1) ≡ holds_at op red blue c
  tells_there op cr cb c C = region_tells_cells op red blue c fr fb cr cb C

  pub region_there : (op : Op) (ends : List (Point × Point)) → IsRegionBy op d red_counts blue_counts ends → IsRegionOfLayers op red blue ends
  unfolding region
  region_there op ends r = record {
    red_closed = red_closed r.red_closed;
    blue_closed = blue_closed r.blue_closed;
    red_of_faces = (inside_is_of_faces red blue fr fb).0 (red_closed r.red_closed);
    blue_of_faces = (inside_is_of_faces red blue fr fb).1 (blue_closed r.blue_closed);
    tells = tells_there op (red_closed r.red_closed) (blue_closed r.blue_closed);
    darts =
        r.darts
        ∙ ap (map dart_ends) (same_border op (skeleton_in d) (pieces_on d red_counts) (pieces_on d blue_counts) (pieces_along red) (pieces_along blue) (weight_is (skeleton_in d) plane red red_counts of.of_red) (weight_is (skeleton_in d) plane blue blue_counts of.of_blue))
        ∙ ap (λ g. map dart_ends (border op g (pieces_along red) (pieces_along blue))) of.graph;
  }

  pub error_there : (e : RegionError) → IsErrorBy d red_counts blue_counts e → IsErrorOfLayers red blue e
  error_there (Open Red p) h = sym red_end ∙ h
  error_there (Open Blue p) h = (red_closed h.0, sym blue_end ∙ h.1)
  error_there NoMemory h = (red_closed h.0, blue_closed h.1)

-- ---- whose pieces they are
-- a subdivision that is the overlay of two presents, with the numbers of their pieces along its edges
pub counts_told : (d : Drawing) (red_counts blue_counts : List ℕ) (r b red blue : Present) → subdivision_in d ≡ overlay r b → red_counts ≡ map (pieces_along r) (overlay_skeleton r b).edges → blue_counts ≡ map (pieces_along b) (overlay_skeleton r b).edges → r ≡ red → b ≡ blue
    → AreCountsOf red blue d red_counts blue_counts
unfolding subdivision
counts_told d red_counts blue_counts r b red blue whole of_r of_b e f =
    let g : skeleton_in d ≡ overlay_skeleton r b = ap (λ (s : Subdivision). s.graph) whole in
    record {
      graph = g ∙ ap₂ overlay_skeleton e f;
      of_red = of_r ∙ ap (λ (h : Skeleton). map (pieces_along r) h.edges) (sym g) ∙ ap (λ (z : Present). map (pieces_along z) (skeleton_in d).edges) e;
      of_blue = of_b ∙ ap (λ (h : Skeleton). map (pieces_along b) h.edges) (sym g) ∙ ap (λ (z : Present). map (pieces_along z) (skeleton_in d).edges) f;
    }

-- there is a number for each edge
pub edges_counted : (red blue : Present) (d : Drawing) (red_counts blue_counts : List ℕ) → AreCountsOf red blue d red_counts blue_counts → (length red_counts ≡ length (edges d.graph)) × (length blue_counts ≡ length (edges d.graph))
edges_counted red blue d red_counts blue_counts of = (
  ap length of.of_red ∙ length-map (skeleton_in d).edges (pieces_along red),
  ap length of.of_blue ∙ length-map (skeleton_in d).edges (pieces_along blue),
)
