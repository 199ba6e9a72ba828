-- One more vertex, on no edge: slabs are parted, and nothing else.
-- g is without the vertex v, h has the edges of g and the vertices hv; n is a weight of edges, fw the way of a dart.
use Rattle.std.proofs.Common.{◌≡◌, ◌↔◌, ℕ, zero, suc, ◌+◌, Bool, true, false, cond, arith, refl, sym, ap, ◌∙◌, subst, List}
use Rattle.std.specs.Prelude.{not, ◌&&◌, ◌%◌, ◌==◌}
use Rattle.std.specs.List.{Contains}
use Rattle.std.proofs.lemmas.Bool.{true≢false, and_parts}
use lib.Dec.{leb}
use Rattle.exact_plane.specs.Point.{Point}
use Rattle.plane_graphs.specs.Graph.{Edge}
use Rattle.slab_laws.specs.declared.slab_cell.SlabCell.{SlabCell}
use Rattle.slab_laws.specs.Skeleton.{Skeleton, left_of, below, IsPlaneSkeleton}
use Rattle.slab_laws.specs.Slabs.{slab_left, slab_right, spans, place, reaches_left, reaches_right, left_cell, right_cell}
use Rattle.slab_laws.specs.Weights.{weight_above}
use Rattle.slab_laws.specs.Darts.{Dart, darts, cell_by}
use Rattle.slab_laws.specs.Meets.{IsOnWall, SameFace, here, right}
use Rattle.slab_laws.specs.Cycles.{dart_labels, darts_on, odd, left_of_dart}
use Rattle.slab_laws.specs.Faces.{cells}
use Rattle.slab_laws.specs.Rows.{least_dart_of}
use Rattle.slab_faces.proofs.Sums.{each, sum_by-same}
use Rattle.slab_faces.proofs.Walls.{left_of-asym}
use Rattle.slab_faces.proofs.Cells.{spans_left, spans_right}
use Rattle.slab_faces.proofs.Nudge.{left_inside, is_slab_left}
use Rattle.slab_faces.proofs.Slabs.{IsThrough}
use Rattle.slab_faces.proofs.Turns.{on_own_wall, over_wall}
use Rattle.slab_faces.proofs.EveryFace.{edge_at}
use Rattle.slab_faces.proofs.Member.{in_member}
use Rattle.slab_faces.proofs.FacesLemmas.{lowest_meets}
use Rattle.sound_changes.specs.NextLaws.{IsDartOf}
use Rattle.face_changes.specs.Kinds.{is_outer}
use Rattle.face_changes.specs.OneMoreVertex.{HasOneMoreVertex, widened, OneMoreVertex}
use Rattle.face_changes.proofs.NewWall.{narrow, narrow_right, HasNewVertex, AreEdgesAlike, IsOffWalls, IsOneFaceAcross, V, same_spans, left_widened, right_widened, face_down, face_up}

module _ (g : Skeleton) (hv : List Point) (v : Point) (m : HasOneMoreVertex g (record { vertices = hv; edges = g.edges }) v) where
  abbrev h : Skeleton
  h = record { vertices = hv; edges = g.edges }

  plane_g : IsPlaneSkeleton g
  plane_g = m.plane

  plane : IsPlaneSkeleton h
  plane = m.plane_more

  -- h has a new vertex, and all else is alike
  pub new : HasNewVertex g h v
  new = record { plane = m.plane; plane_more = m.plane_more; vertices = m.vertices; counts = m.counts }

  pub alike : AreEdgesAlike g h
  alike = record { on_left = λ t T. refl; on_right = λ t T. refl; open_down = λ t T free. record { open_at = free.open_at }; open_up = λ t T free. record { open_at = free.open_at } }

  -- ---- a new wall
  module _ (off : IsOffWalls g v) where
    wall : IsOnWall h v
    wall = on_own_wall h v plane (V g h v new)

    to_left : (u : Point) → Contains g.vertices u → left_of u v ≡ not (left_of v u)
    to_left u U = one (left_of u v) (left_of v u) (off u U) (left_of-asym u v)
      where
        one : (a b : Bool) → (not a && not b) ≡ false → (a ≡ true → b ≡ false) → a ≡ not b
        one true true p f = absurd (true≢false (f refl))
        one true false p f = refl
        one false true p f = refl
        one false false p f = absurd (true≢false p)

    reach : (f : Edge) → Contains g.edges f → reaches_left f v ≡ reaches_right f v
    reach f F = same (to_left f.low (plane_g.lower_in f F)) (to_left f.high (plane_g.upper_in f F))
      where
        same : left_of f.low v ≡ not (left_of v f.low) → left_of f.high v ≡ not (left_of v f.high) → reaches_left f v ≡ reaches_right f v
        same p q = go (left_of f.low v) (left_of v f.low) (left_of f.high v) (left_of v f.high) p q
          where
            go : (a b c d : Bool) → a ≡ not b → c ≡ not d → (a && not c) ≡ (not b && d)
            go a b c true p q = rw (p, q) refl
            go a b c false p q = rw (p, q) refl

    both_spans : (f : Edge) → Contains g.edges f → spans h (slab_left h v) f ≡ spans h (slab_right h v) f
    both_spans f F = spans_left h v f plane wall F ∙ reach f F ∙ sym (spans_right h v f plane wall F)

    both_places : (f : Edge) → place h (slab_left h v) f ≡ place h (slab_right h v) f
    both_places f =
        sum_by-same (λ z. cond (spans h (slab_left h v) z && below z f) 1 0) (λ z. cond (spans h (slab_right h v) z && below z f) 1 0) g.edges
        (each (λ z. cond {A = ℕ} (spans h (slab_left h v) z && below z f) 1 0 ≡ cond (spans h (slab_right h v) z && below z f) 1 0) g.edges (λ z Z. ap (λ b. cond {A = ℕ} (b && below z f) 1 0) (both_spans z Z)))

    through : (f : Edge) → Contains g.edges f → spans h (slab_left h v) f ≡ true → IsThrough f v
    through f F k =
        let a = and_parts (left_of f.low v) (not (left_of f.high v)) (sym (spans_left h v f plane wall F) ∙ k) in
        let b = and_parts (not (left_of v f.low)) (left_of v f.high) (sym (reach f F) ∙ sym (spans_left h v f plane wall F) ∙ k) in
        record { from = a.0; to = b.1 }

    -- on both sides of it each place is in one face
    pub across_it : IsOneFaceAcross h v
    across_it zero k = right _ _ _ (here _) (lowest_meets h v plane wall)
    across_it (suc j) k =
        let f = edge_at h (slab_left h v) (left_inside h v) plane (is_slab_left h v plane wall) j (omega arith) in
        let o = over_wall h f.0 v plane wall f.1 (through f.0 f.1 f.2) in
        let p : place h (slab_left h v) f.0 + 1 ≡ suc j = let q = f.3 in omega arith in
        let r : place h (slab_right h v) f.0 + 1 ≡ suc j = let q = f.3 in let w = both_places f.0 in omega arith in
        subst (λ (z : ℕ × ℕ). SameFace h (record { slab = slab_left h v; place = z.0 }) (record { slab = slab_right h v; place = z.1 })) (λ i. (p i, r i)) o

  same_place : (f : Edge) (i : ℕ) → place h i f ≡ place g (narrow g v i) f
  same_place f i =
      sum_by-same (λ z. cond (spans h i z && below z f) 1 0) (λ z. cond (spans g (narrow g v i) z && below z f) 1 0) g.edges
      (each (λ z. cond {A = ℕ} (spans h i z && below z f) 1 0 ≡ cond (spans g (narrow g v i) z && below z f) 1 0) g.edges (λ z Z. ap (λ b. cond {A = ℕ} (b && below z f) 1 0) (same_spans g h v new z Z i)))

  same_weight : (n : Edge → ℕ) (i j : ℕ) → weight_above h n i j ≡ weight_above g n (narrow g v i) j
  same_weight n i j =
      sum_by-same (λ z. cond (spans h i z && leb j (place h i z)) (n z) 0) (λ z. cond (spans g (narrow g v i) z && leb j (place g (narrow g v i) z)) (n z) 0) g.edges
      (each (λ z. cond (spans h i z && leb j (place h i z)) (n z) 0 ≡ cond (spans g (narrow g v i) z && leb j (place g (narrow g v i) z)) (n z) 0) g.edges
      (λ z Z. λ k. cond (same_spans g h v new z Z i k && leb j (same_place z i k)) (n z) 0))

  dart_by : (f : Edge) (b fw : Bool) → Contains g.edges f → widened g v (cell_by h f b fw) ≡ cell_by g f b fw
  unfolding narrow
  dart_by f true fw F = go fw
    where
      slab_of : narrow g v (slab_right h f.low) ≡ slab_right g f.low
      slab_of = narrow_right g h v new f.low (plane_g.proper_edge f F).0

      place_of : place h (slab_right h f.low) f ≡ place g (slab_right g f.low) f
      place_of = same_place f (slab_right h f.low) ∙ ap (λ i. place g i f) slab_of

      go : (fw : Bool) → widened g v (cell_by h f true fw) ≡ cell_by g f true fw
      go true = λ k. record { slab = slab_of k; place = (place_of k) + 1 }
      go false = λ k. record { slab = slab_of k; place = place_of k }
  dart_by f false true F = left_widened g h v new alike f.low (plane_g.proper_edge f F).0
  dart_by f false false F = right_widened g h v new alike f.low (plane_g.proper_edge f F).0

  -- whichever way the dart goes
  pub dart_widened : (d : Dart) → IsDartOf g d → widened g v (left_of_dart h d) ≡ left_of_dart g d
  dart_widened d D = dart_by d.edge (left_of d.edge.low d.edge.high) d.forward D

  same_odd : (l : Dart) (c : SlabCell) → odd h (dart_labels (darts h)) l c ≡ odd g (dart_labels (darts g)) l (widened g v c)
  unfolding odd narrow
  same_odd l c = ap (λ n. n % 2 == 1) (same_weight (darts_on (dart_labels (darts g)) l) c.slab c.place)

  pub same_kind : (d : Dart) → IsDartOf g d → is_outer h d ≡ is_outer g d
  same_kind d D = same_odd (least_dart_of g d) (left_of_dart h d) ∙ ap (odd g (dart_labels (darts g)) (least_dart_of g d)) (dart_widened d D)

-- ---- h as the edges of g and a list of vertices
abbrev with_vertices : Skeleton → List Point → Skeleton
with_vertices g hv = record { vertices = hv; edges = g.edges }

lift : (g h : Skeleton) (v : Point) (P : Skeleton → Type 0) → HasOneMoreVertex g h v → ((hv : List Point) → HasOneMoreVertex g (record { vertices = hv; edges = g.edges }) v → P (record { vertices = hv; edges = g.edges })) → P h
lift g h v P m f =
    let p : ◌≡◌ {A = Skeleton} (record { vertices = h.vertices; edges = g.edges }) h = λ i. record { vertices = h.vertices; edges = sym m.edges i } in
    subst P p (f h.vertices (subst (λ z. HasOneMoreVertex g z v) (sym p) m))

pub one_more_vertex : OneMoreVertex
one_more_vertex = record {
  left = λ g h v t m T. lift g h v (λ z. widened g v (left_cell z t) ≡ left_cell g t) m (λ hv n. left_widened g (with_vertices g hv) v (new g hv v n) (alike g hv v n) t T);
  right = λ g h v t m T. lift g h v (λ z. widened g v (right_cell z t) ≡ right_cell g t) m (λ hv n. right_widened g (with_vertices g hv) v (new g hv v n) (alike g hv v n) t T);
  dart = λ g h v d m D. lift g h v (λ z. widened g v (left_of_dart z d) ≡ left_of_dart g d) m (λ hv n. dart_widened g hv v n d D);
  faces = λ g h v c d m. lift g h v (λ z. Contains (cells z) c → Contains (cells z) d → SameFace z c d ↔ SameFace g (widened g v c) (widened g v d)) m
      (λ hv n C D. (face_down g (with_vertices g hv) v (new g hv v n) (alike g hv v n) c d, λ k. face_up g (with_vertices g hv) v (new g hv v n) (alike g hv v n) (across_it g hv v n) (widened g v c) (widened g v d) k c d (in_member (cells (record { vertices = hv; edges = g.edges })) c C) (in_member (cells (record { vertices = hv; edges = g.edges })) d D) refl refl));
  leads = λ g h v d m. lift g h v (λ z. least_dart_of z d ≡ least_dart_of g d) m (λ hv n. refl);
  kinds = λ g h v d m D. lift g h v (λ z. is_outer z d ≡ is_outer g d) m (λ hv n. same_kind g hv v n d D);
}
