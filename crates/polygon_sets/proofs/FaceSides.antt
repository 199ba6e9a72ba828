-- The sets that hold a face, by the records of a sound view.
use Rattle.std.proofs.Common.{◌≡◌, ℕ, Bool, true, false, cond, arith, refl, sym, ap, ◌∙◌, subst}
use Rattle.std.specs.Prelude.{◌%◌, ◌==◌}
use Rattle.std.specs.List.{Contains}
use Rattle.std.proofs.lemmas.Bool.{false≢true}
use Rattle.plane_graphs.specs.Graph.{Edge}
use Rattle.slab_laws.specs.declared.names.DartId.{DartId}
use Rattle.slab_laws.specs.declared.names.FaceId.{FaceId}
use Rattle.slab_laws.specs.declared.slab_cell.SlabCell.{SlabCell}
use Rattle.slab_laws.specs.Skeleton.{Skeleton}
use Rattle.slab_laws.specs.Slabs.{top_cell}
use Rattle.slab_laws.specs.Meets.{SameFace}
use Rattle.slab_laws.specs.Faces.{cells, face_labels, face_of}
use Rattle.slab_laws.specs.Darts.{Dart, darts, ahead, back}
use Rattle.slab_laws.specs.Rotation.{twin}
use Rattle.slab_laws.specs.Cycles.{left_of_dart}
use Rattle.slab_laws.specs.Subdivision.{first_cell}
use Rattle.slab_laws.specs.Weights.{Even}
use Rattle.slab_laws.specs.Sound.{skeleton_of, dart_in, IsGraphSound}
use Rattle.slab_laws.specs.FacesSound.{IsFaced, IsComplete}
use Rattle.slab_laws.specs.View.{View, Faces, face_id, HasDart, HasFace, cycle_in, face_in, twin_in}
use Rattle.slab_faces.proofs.EveryFace.{first_width}
use Rattle.slab_faces.proofs.FacesLemmas.{in_its_face, one_label}
use Rattle.slab_faces.proofs.ListedCells.{dart_cell}
use Rattle.slab_faces.proofs.Member.{member_in}
use Rattle.slab_faces.proofs.NextLemmas.{dart_in as dart_there}
use Rattle.sound_views.proofs.NamedDarts.{edge_known, twin_dart, there}
use Rattle.set_laws.specs.EvenOdd.{odd_above}
use Rattle.set_laws.specs.EvenOddLaws.{IsOfFaces}
use Rattle.set_laws.proofs.Reached.{GoesOver, reached}
use Rattle.polygon_sets.specs.declared.crossings.Inside.{Inside}
use Rattle.polygon_sets.specs.declared.crossings.Crossing.{Crossing}
use Rattle.polygon_sets.specs.Crossings.{neither, turned, crossed}
use Rattle.slab_faces.proofs.OddSums.{rest_is}

-- ---- over an edge
stepped : (n : ℕ) (o : Bool) → (n % 2 == 1) ≡ o → (u d : Bool) → (Even n → u ≡ d) → (u ≡ d → Even n) → turned o d ≡ u
stepped n true e true true h k = absurd (false≢true (sym (ap (λ r. r == 1) (k refl)) ∙ e))
stepped n true e false false h k = absurd (false≢true (sym (ap (λ r. r == 1) (k refl)) ∙ e))
stepped n true e true false h k = refl
stepped n true e false true h k = refl
stepped n false e u d h k = sym (h (rest_is n ∙ ap (λ b. cond {A = ℕ} b 1 0) e))

pub over_edge : (n : ℕ) (u d : Bool) → (Even n → u ≡ d) → (u ≡ d → Even n) → turned (n % 2 == 1) d ≡ u
over_edge n u d h k = stepped n (n % 2 == 1) refl u d h k

-- ---- what holds a cell
module _ (g : Skeleton) (red blue : Edge → ℕ) where
  abbrev pub sides : SlabCell → Inside
  sides c = record { red = odd_above g red c; blue = odd_above g blue c }

  module _ (r : IsOfFaces g red) (b : IsOfFaces g blue) where
    pub of_face : (c d : SlabCell) → SameFace g c d → sides c ≡ sides d
    of_face c d h = λ i. record { red = r.one_face c d h i; blue = b.one_face c d h i }

    pub far_out : sides (top_cell g 0) ≡ neither
    far_out = λ i. record { red = r.outside i; blue = b.outside i }

    by_way : (h : Dart) (f : Bool) → Contains g.edges h.edge → h.forward ≡ f → (m : Edge → ℕ) → IsOfFaces g m → turned (m h.edge % 2 == 1) (odd_above g m (left_of_dart g h)) ≡ odd_above g m (left_of_dart g (twin h))
    by_way h true E e m o =
        let a = o.across h.edge E in
        let h' : h ≡ ahead h.edge = λ i. record { edge = h.edge; forward = e i } in
        ap (λ x. turned (m h.edge % 2 == 1) (odd_above g m (left_of_dart g x))) h'
        ∙ over_edge (m h.edge) (odd_above g m (left_of_dart g (back h.edge))) (odd_above g m (left_of_dart g (ahead h.edge))) (λ k. sym (a.0 k)) (λ k. a.1 (sym k))
        ∙ sym (ap (λ x. odd_above g m (left_of_dart g (twin x))) h')
    by_way h false E e m o =
        let a = o.across h.edge E in
        let h' : h ≡ back h.edge = λ i. record { edge = h.edge; forward = e i } in
        ap (λ x. turned (m h.edge % 2 == 1) (odd_above g m (left_of_dart g x))) h'
        ∙ over_edge (m h.edge) (odd_above g m (left_of_dart g (ahead h.edge))) (odd_above g m (left_of_dart g (back h.edge))) a.0 a.1
        ∙ sym (ap (λ x. odd_above g m (left_of_dart g (twin x))) h')

    pub across_dart : (c : Crossing) (h : Dart) → Contains g.edges h.edge → c.red ≡ (red h.edge % 2 == 1) → c.blue ≡ (blue h.edge % 2 == 1) → sides (left_of_dart g (twin h)) ≡ crossed c (sides (left_of_dart g h))
    across_dart c h E p q =
        let x = by_way h h.forward E refl red r in
        let y = by_way h h.forward E refl blue b in
        sym (λ i. record { red = x i; blue = y i })
        ∙ sym (λ i. record { red = turned (p i) (odd_above g red (left_of_dart g h)); blue = turned (q i) (odd_above g blue (left_of_dart g h)) })

-- ---- by names
module _ (v : View) (f : Faces) (s : IsGraphSound v) (complete : IsComplete v f) (cell : FaceId → SlabCell) (faced : IsFaced v f cell) (red blue : Edge → ℕ) (r : IsOfFaces (skeleton_of v) red) (b : IsOfFaces (skeleton_of v) blue) where
  abbrev g : Skeleton
  g = skeleton_of v

  abbrev pub left_rank : DartId → ℕ
  left_rank d = (face_in f (cycle_in f d)).0

  -- the sets that hold the face of a name
  abbrev pub truth : ℕ → Inside
  truth n = sides g red blue (cell (face_id n))

  of_label : (c : SlabCell) → sides g red blue (face_of (face_labels g) c) ≡ sides g red blue c
  of_label c = sym (of_face g red blue r b c (face_of (face_labels g) c) (in_its_face g c s.plane))

  pub truth_left : (d : DartId) → HasDart v d → truth (left_rank d) ≡ sides g red blue (left_of_dart g (dart_in v d))
  truth_left d H = ap (sides g red blue) (faced.darts d H) ∙ of_label (left_of_dart g (dart_in v d))

  first_is : first_cell ≡ top_cell g 0
  unfolding top_cell
  first_is = sym (λ i. record { slab = 0; place = first_width g s.plane i })

  module _ (some : HasFace f (face_id 0)) where
    cell_zero : cell (face_id 0) ≡ face_of (face_labels g) first_cell
    cell_zero = (faced.unbounded (face_id 0) some (λ y h l. absurd (omega arith))).0

    pub truth_outside : truth 0 ≡ neither
    truth_outside = ap (sides g red blue) cell_zero ∙ of_label first_cell ∙ ap (sides g red blue) first_is ∙ far_out g red blue r b

    -- ---- every face is reached
    module _ (K : ℕ → Type 0) (known : K 0) (closed : (d : DartId) → HasDart v d → K (left_rank d) → K (left_rank (twin_in v d))) where
      record IsMet (c : SlabCell) : Type 0 where
        face : FaceId
        has : HasFace f face
        is : cell face ≡ face_of (face_labels g) c
        met : K face.0

      over_dart : (d : DartId) → HasDart v d → IsMet (left_of_dart g (dart_in v d)) → IsMet (left_of_dart g (dart_in v (twin_in v d)))
      over_dart d H m =
          let H' = s.twinned.has d H in
          let own : FaceId = face_in f (cycle_in f d) in
          let same : m.face ≡ own = faced.differ m.face own m.has (complete.face_has (cycle_in f d) (complete.cycle_has d H)) (m.is ∙ sym (faced.darts d H)) in
          record {
            face = face_in f (cycle_in f (twin_in v d));
            has = complete.face_has (cycle_in f (twin_in v d)) (complete.cycle_has (twin_in v d) H');
            is = faced.darts (twin_in v d) H';
            met = closed d H (subst (λ (a : FaceId). K a.0) same m.met);
          }

      goes : GoesOver g IsMet
      goes = record {
        outside = record { face = face_id 0; has = some; is = cell_zero ∙ ap (face_of (face_labels g)) first_is; met = known };
        one_face = λ c d h m. record { face = m.face; has = m.has; is = m.is ∙ one_label g c d s.plane h; met = m.met };
        down = λ e E m.
            let n = there v s (ahead e) (member_in (darts g) (ahead e) (dart_there g e true E)) in
            subst (λ x. IsMet (left_of_dart g x)) (twin_dart v s n.0 n.1 ∙ ap twin n.2) (over_dart n.0 n.1 (subst (λ x. IsMet (left_of_dart g x)) (sym n.2) m));
      }

      pub left_met : (d : DartId) → HasDart v d → K (left_rank d)
      left_met d H =
          let c = left_of_dart g (dart_in v d) in
          let m = reached g IsMet s.plane goes c (member_in (cells g) c (dart_cell g s.plane (dart_in v d).edge (dart_in v d).forward (edge_known v d H))) in
          let own : FaceId = face_in f (cycle_in f d) in
          let same : m.face ≡ own = faced.differ m.face own m.has (complete.face_has (cycle_in f d) (complete.cycle_has d H)) (m.is ∙ sym (faced.darts d H)) in
          subst (λ (a : FaceId). K a.0) same m.met
