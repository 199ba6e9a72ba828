-- Each face goes by its least cell.
use Rattle.std.proofs.Common.{◌≡◌, ◌<◌, arith, sym, ap, ap₂, ◌∙◌, subst, inl, inr, map, get_or}
use Rattle.std.specs.Prelude.{Some, slice_get, Contains}
use Rattle.std.specs.List.{position_or_len}
use Rattle.std.proofs.lemmas.Bool.{cases_lt}
use Rattle.std.proofs.lemmas.Option.{slice_get-get_or, get_or_from_slice_get}
use Rattle.plane_graphs.specs.Plane.{IsPlane}
use Rattle.slab_laws.specs.declared.names.DartId.{DartId}
use Rattle.slab_laws.specs.declared.names.FaceId.{FaceId}
use Rattle.slab_laws.specs.declared.slab_cell.SlabCell.{SlabCell}
use Rattle.slab_laws.specs.Slabs.{left_cell}
use Rattle.slab_laws.specs.Darts.{Dart}
use Rattle.slab_laws.specs.Cycles.{left_of_dart}
use Rattle.slab_laws.specs.Faces.{face_labels, face_of, same_cell, cells}
use Rattle.slab_laws.specs.Rows.{least_dart_of}
use Rattle.slab_laws.specs.Subdivision.{rank, first_cell}
use Rattle.slab_laws.specs.View.{HasFace, face_id, cycle_in, face_in}
use Rattle.slab_faces.proofs.Member.{Member, member_in, in_member, map_out, append_cases, distinct_out}
use Rattle.slab_faces.proofs.FacesLemmas.{cells_exact}
use Rattle.slab_faces.proofs.NextLemmas.{dart_out}
use Rattle.slab_faces.proofs.ListedCells.{first_listed, dart_cell as listed_cell}
use Rattle.face_changes.specs.FacesByPairs.{AreFacesByCells}
use Rattle.subdivision_rows.specs.Listed.{Drawing, skeleton_in, subdivision_in, view_of, faces_of}
use Rattle.sound_views.proofs.ListedRows.{slice_get_member}
use Rattle.sound_views.proofs.ListedPlaces.{place_at}
use Rattle.sound_views.proofs.ListedDarts.{lead_dart, lead_face, listed_lead}
use Rattle.subdivision_rows.proofs.ListedRecords.{IsDart, dart_of, dart_is, plane, of_darts, point_of}
use Rattle.subdivision_rows.proofs.ListsDrawn.{view_draws}
use Rattle.sound_views.proofs.RankedFaces.{outer_faces, all_faces, faces_are, faces_apart, first_face, face_listed, ranked_there, rank_within, of_outer, dart_face, vertex_face}
use Rattle.subdivision_rows.proofs.ListedFaces.{cycle_face, has_face, face_within, cycle_of_dart, bare_out}

-- the least cell of the face that goes by the name
abbrev pub cell : Drawing → FaceId → SlabCell
cell d a = get_or (subdivision_in d).faces a.0 first_cell

-- the least cell of a cell's face
abbrev label : Drawing → SlabCell → SlabCell
label d c = face_of (face_labels (skeleton_in d)) c

module _ (d : Drawing) (pl : IsPlane d.graph) where
  cell_there : (a : FaceId) → HasFace (faces_of d) a → slice_get (subdivision_in d).faces a.0 ≡ Some (cell d a)
  cell_there a h = slice_get-get_or (subdivision_in d).faces a.0 first_cell (face_within d a h)

  cell_by_rank : (f : SlabCell) → Member (subdivision_in d).faces f → cell d (face_id (rank (subdivision_in d) f)) ≡ f
  cell_by_rank f h = get_or_from_slice_get (subdivision_in d).faces (rank (subdivision_in d) f) f first_cell (ranked_there (skeleton_in d) f h)

  -- its place is its name
  cell_place : (a : FaceId) → HasFace (faces_of d) a → position_or_len (same_cell (cell d a)) (subdivision_in d).faces ≡ a.0
  cell_place a h = place_at same_cell cells_exact (subdivision_in d).faces a.0 (cell d a) (faces_apart (skeleton_in d)) (cell_there a h)

  -- ---- the first, and those of darts and bare vertices
  first_cell_is : (a : FaceId) → HasFace (faces_of d) a → ((b : FaceId) → HasFace (faces_of d) b → b.0 < a.0 → ⊥) → cell d a ≡ label d first_cell
  first_cell_is a h least =
      elim (cases_lt 0 a.0) [
        | inl l ↦ let k = face_within d a h in absurd (least (face_id 0) (has_face d (face_id 0) (omega arith)) l)
        | inr l ↦
            let z : a.0 ≡ 0 = omega arith in
            get_or_from_slice_get (subdivision_in d).faces a.0 (label d first_cell) first_cell (subst (λ n. slice_get (subdivision_in d).faces n ≡ Some (label d first_cell)) (sym z) (first_face (skeleton_in d)))
      ]

  dart_cell : (e : DartId) (h : Dart) → IsDart d e h → cell d (face_in (faces_of d) (cycle_in (faces_of d) e)) ≡ label d (left_of_dart (skeleton_in d) h)
  dart_cell e h i =
      let l : Dart = least_dart_of (skeleton_in d) h in
      let m = of_darts d pl e h i in
      ap (cell d) (cycle_face d (cycle_in (faces_of d) e) l (cycle_of_dart d pl e h i))
      ∙ cell_by_rank (label d (left_of_dart (skeleton_in d) l)) (dart_face (skeleton_in d) (plane d pl) l (lead_dart (skeleton_in d) (plane d pl) h m))
      ∙ lead_face (skeleton_in d) (plane d pl) h m

  -- ---- each face is that of a listed cell
  cell_of : (x : SlabCell) → Member (all_faces (skeleton_in d)) x → (c : SlabCell) × Member (cells (skeleton_in d)) c × (label d c ≡ x)
  cell_of x (inl e) = (first_cell, first_listed (skeleton_in d), e)
  cell_of x (inr m) = elim (append_cases (outer_faces (skeleton_in d)) (map (label d) (cells (skeleton_in d))) x m) [
    | inl o ↦
        let l = of_outer (skeleton_in d) x o in
        let D = dart_out (skeleton_in d) l.0 (listed_lead (skeleton_in d) (plane d pl) l.0 l.1).0 in
        (left_of_dart (skeleton_in d) l.0, listed_cell (skeleton_in d) (plane d pl) l.0.edge l.0.forward D, l.3)
    | inr k ↦ map_out (label d) (cells (skeleton_in d)) x k
  ]

  real_cell : (a : FaceId) → HasFace (faces_of d) a → (c : SlabCell) × Member (cells (skeleton_in d)) c × (label d c ≡ cell d a)
  real_cell a h =
      cell_of (cell d a)
      (distinct_out same_cell (all_faces (skeleton_in d)) (cell d a) (subst (λ fs. Member fs (cell d a)) (faces_are (skeleton_in d)) (slice_get_member (subdivision_in d).faces a.0 (cell d a) (cell_there a h))))

  pub faced : AreFacesByCells (view_of d) (faces_of d) (cell d)
  faced = record {
    first = λ a has least. first_cell_is a has least ∙ sym (ap (λ s. face_of (face_labels s) first_cell) (view_draws d pl));
    darts = λ e has.
        let h = dart_of d e has in
        dart_cell e h.0 h.1 ∙ sym (ap₂ (λ s x. face_of (face_labels s) (left_of_dart s x)) (view_draws d pl) (dart_is d pl e h.0 h.1));
    bare = λ w has.
        let b = bare_out d pl w has in
        let m = slice_get_member d.graph.points w.0 b.0 b.1.vertex in
        ap (cell d) b.1.face
        ∙ cell_by_rank (label d (left_cell (skeleton_in d) b.0)) (vertex_face (skeleton_in d) (plane d pl) b.0 m)
        ∙ sym (ap₂ (λ s p. face_of (face_labels s) (left_cell s p)) (view_draws d pl) (point_of d w b.0 b.1.vertex));
    differ = λ a b has has' same.
        let e : a.0 ≡ b.0 = sym (cell_place a has) ∙ ap (λ x. position_or_len (same_cell x) (subdivision_in d).faces) same ∙ cell_place b has' in
        ap face_id e;
    all = λ c has.
        let m = in_member (cells (skeleton_in d)) c (subst (λ s. Contains (cells s) c) (view_draws d pl) has) in
        let f : SlabCell = label d c in
        let k = face_listed (skeleton_in d) c m in
        let a : FaceId = face_id (rank (subdivision_in d) f) in
        (a, has_face d a (rank_within (skeleton_in d) f k), cell_by_rank f k ∙ sym (ap (λ s. face_of (face_labels s) c) (view_draws d pl)));
    real = λ a has.
        let w = real_cell a has in
        (w.0, subst (λ s. Contains (cells s) w.0) (sym (view_draws d pl)) (member_in (cells (skeleton_in d)) w.0 w.1), sym w.2 ∙ sym (ap (λ s. face_of (face_labels s) w.0) (view_draws d pl)));
  }
