-- The faces by rank: the unbounded one first, each one once, each cell's among them.
use Rattle.std.proofs.Common.{◌≡◌, ◌<◌, true, refl, sym, ap, ◌∙◌, subst, inr, List, ◌∷◌, ◌++◌, map, length}
use Rattle.std.specs.Prelude.{Some, slice_get, filter}
use Rattle.exact_plane.specs.Point.{Point}
use Rattle.slab_laws.specs.declared.slab_cell.SlabCell.{SlabCell}
use Rattle.slab_laws.specs.Skeleton.{Skeleton, IsPlaneSkeleton}
use Rattle.slab_laws.specs.Slabs.{left_cell}
use Rattle.slab_laws.specs.Darts.{Dart, darts}
use Rattle.slab_laws.specs.Cycles.{dart_labels, odd, left_of_dart}
use Rattle.slab_laws.specs.Faces.{face_labels, face_of, same_cell, cells}
use Rattle.slab_laws.specs.Listed.{distinct}
use Rattle.slab_laws.specs.Rows.{lead_list}
use Rattle.slab_laws.specs.Subdivision.{Cycle, subdivision, cycle, cycles, ranked, rank, first_cell}
use Rattle.slab_faces.proofs.Member.{Member, member_in, append_right, map_in, map_out, filter_out}
use Rattle.slab_faces.proofs.FacesLemmas.{cells_exact}
use Rattle.slab_faces.proofs.NextLemmas.{dart_out}
use Rattle.slab_faces.proofs.WallsLemmas.{cell_there}
use Rattle.sound_views.proofs.ListedPlaces.{Apart, at_place, place_within, distinct_there, distinct_apart}
use Rattle.slab_faces.proofs.ListedCells.{dart_cell}

-- the cycle of a least dart
abbrev pub cycle_of : Skeleton → Dart → Cycle
cycle_of g l = cycle g (face_labels g) (darts g) (dart_labels (darts g)) l

module _ (g : Skeleton) where
  pub cycles_are : (subdivision g).cycles ≡ map (cycle_of g) (lead_list g)
  unfolding subdivision cycles
  cycles_are = refl

  pub outer_is : (l : Dart) → (cycle_of g l).outer ≡ odd g (dart_labels (darts g)) l (left_of_dart g l)
  unfolding cycle
  outer_is l = refl

  pub face_is : (l : Dart) → (cycle_of g l).face ≡ face_of (face_labels g) (left_of_dart g l)
  unfolding cycle
  face_is l = refl

  -- the faces of outer cycles
  abbrev pub outer_faces : List SlabCell
  outer_faces = map (λ c. c.face) (filter (λ c. c.outer) (map (cycle_of g) (lead_list g)))

  -- the faces before repeats go
  abbrev pub all_faces : List SlabCell
  all_faces = face_of (face_labels g) first_cell ∷ (outer_faces ++ map (face_of (face_labels g)) (cells g))

  pub faces_are : (subdivision g).faces ≡ distinct same_cell all_faces
  unfolding subdivision ranked cycles
  faces_are = refl

  pub faces_apart : Apart same_cell cells_exact (subdivision g).faces
  faces_apart = subst (Apart same_cell cells_exact) (sym faces_are) (distinct_apart same_cell cells_exact all_faces)

  pub first_face : slice_get (subdivision g).faces 0 ≡ Some (face_of (face_labels g) first_cell)
  unfolding distinct
  first_face = ap (λ fs. slice_get fs 0) faces_are

  pub face_listed : (c : SlabCell) → Member (cells g) c → Member (subdivision g).faces (face_of (face_labels g) c)
  face_listed c h =
      subst (λ fs. Member fs (face_of (face_labels g) c)) (sym faces_are)
      (distinct_there same_cell cells_exact all_faces (face_of (face_labels g) c) (inr (append_right outer_faces (map (face_of (face_labels g)) (cells g)) _ (map_in (face_of (face_labels g)) (cells g) c h))))

  pub ranked_there : (f : SlabCell) → Member (subdivision g).faces f → slice_get (subdivision g).faces (rank (subdivision g) f) ≡ Some f
  unfolding rank
  ranked_there f h = at_place same_cell cells_exact (subdivision g).faces f h

  pub rank_within : (f : SlabCell) → Member (subdivision g).faces f → rank (subdivision g) f < length (subdivision g).faces
  unfolding rank
  rank_within f h = place_within same_cell cells_exact (subdivision g).faces f h

  -- ---- whose faces they are
  -- the face of an outer cycle is that on the left of its least dart
  pub of_outer : (f : SlabCell) → Member outer_faces f → (l : Dart) × Member (lead_list g) l × (odd g (dart_labels (darts g)) l (left_of_dart g l) ≡ true) × (face_of (face_labels g) (left_of_dart g l) ≡ f)
  of_outer f h =
      let c = map_out (λ (c : Cycle). c.face) (filter (λ (c : Cycle). c.outer) (map (cycle_of g) (lead_list g))) f h in
      let o = filter_out (λ (c : Cycle). c.outer) (map (cycle_of g) (lead_list g)) c.0 c.1 in
      let l = map_out (cycle_of g) (lead_list g) c.0 o.0 in
      (l.0, l.1, sym (outer_is l.0) ∙ ap (λ c. c.outer) l.2 ∙ o.1, sym (face_is l.0) ∙ ap (λ c. c.face) l.2 ∙ c.2)

  module _ (plane : IsPlaneSkeleton g) where
    pub dart_face : (h : Dart) → Member (darts g) h → Member (subdivision g).faces (face_of (face_labels g) (left_of_dart g h))
    dart_face h m = face_listed (left_of_dart g h) (dart_cell g plane h.edge h.forward (dart_out g h m))

    pub vertex_face : (p : Point) → Member g.vertices p → Member (subdivision g).faces (face_of (face_labels g) (left_cell g p))
    vertex_face p m = face_listed (left_cell g p) (cell_there g p plane (plane.proper p (member_in g.vertices p m)))
