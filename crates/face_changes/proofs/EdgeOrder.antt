-- A graph with one more edge, its edges in any order, counts as the one with that edge in front: cells, meets, faces and weights are the same.
-- g is without the edge e, h has the vertices of g and the edges hs; `with_edge g e` has e in front of those of g; z and f are edges, fw the way of a dart.
use Rattle.std.proofs.Common.{◌≡◌, ℕ, ◌+◌, Bool, true, false, cond, arith, refl, sym, ap, ◌∙◌, subst, inl, inr, List, ◌∷◌}
use Rattle.std.specs.Prelude.{not, ◌&&◌}
use Rattle.std.specs.List.{sum_by, Contains}
use Rattle.std.proofs.lemmas.Bool.{false_from_ne_true, and_parts, leb-true, ltb-true}
use lib.Dec.{leb, ltb}
use Rattle.exact_plane.specs.Point.{Point}
use Rattle.plane_graphs.specs.Graph.{Edge}
use Rattle.slab_laws.specs.declared.slab_cell.SlabCell.{SlabCell}
use Rattle.slab_laws.specs.Skeleton.{Skeleton, left_of, on_wall, over, below, same_edge, IsPlaneSkeleton, with_edge}
use Rattle.slab_laws.specs.Slabs.{spans, place, slab_left, slab_right, reaches_left, reaches_right, left_cell, right_cell}
use Rattle.slab_laws.specs.Darts.{cell_by, cell_of}
use Rattle.slab_laws.specs.Weights.{weight_above}
use Rattle.slab_laws.specs.Meets.{Meets, SameFace, across, here, right, left}
use Rattle.slab_laws.specs.Changes.{merged, IsCell}
use Rattle.slab_faces.specs.FaceLaws.{IsSplitBy, whole, over_under, under_over}
use Rattle.slab_faces.proofs.Sums.{each, sum_by-same}
use Rattle.slab_faces.proofs.Shift.{IsSetBy, same_sum}
use Rattle.slab_faces.proofs.Slabs.{same_edge_is, same_edge_refl}
use Rattle.slab_faces.proofs.Turns.{member_cases, on_own_wall, wall_before}
use Rattle.slab_faces.proofs.Added.{first, rest, face_down, face_up, merged_left}
use Rattle.slab_faces.proofs.AddedUpright.{upright_up}
use Rattle.slab_faces.proofs.Cells.{right_few, spans_left}
use Rattle.slab_faces.proofs.EveryFace.{passing}
use Rattle.slab_faces.proofs.Sets.{set_cons}
use Rattle.slab_faces.proofs.Walls.{left_of-irrefl}
use Rattle.face_changes.proofs.MergedCells.{merged_weight, cell_merged}
use Rattle.sound_changes.specs.NextLaws.{HasEdgeMore}

edges_are_set : (g : Skeleton) → IsPlaneSkeleton g → IsSetBy same_edge g.edges
edges_are_set g plane = record { sound = same_edge_is; self = same_edge_refl; once = λ z Z. plane.edge_once z Z }

module _ (g : Skeleton) (hs : List Edge) (e : Edge) where
  abbrev pub h : Skeleton
  h = record { vertices = g.vertices; edges = hs }

  module _ (plane : IsPlaneSkeleton (record { vertices = g.vertices; edges = hs })) (plane_g : IsPlaneSkeleton g) (more : HasEdgeMore g (record { vertices = g.vertices; edges = hs }) e) where
    to : (z : Edge) → Contains hs z → Contains (e ∷ g.edges) z
    to z Z = elim ((more.edges z).0 Z) [ inl k ↦ rest g e z k | inr q ↦ subst (Contains (e ∷ g.edges)) (sym q) (first g e) ]

    back : (z : Edge) → Contains (e ∷ g.edges) z → Contains hs z
    back z Z = (more.edges z).1 (elim (member_cases e g.edges z Z) [ inl q ↦ inr (sym q) | inr k ↦ inl k ])

    wider : IsSetBy same_edge (e ∷ g.edges)
    wider = set_cons same_edge e g.edges (edges_are_set g plane_g) more.fresh

    -- every sum over the edges
    pub sums : (F : Edge → ℕ) → sum_by F hs ≡ sum_by F (e ∷ g.edges)
    sums F = same_sum same_edge F hs (e ∷ g.edges) (edges_are_set h plane) wider to back

    -- with e in front it is plane too
    pub plane_w : IsPlaneSkeleton (with_edge g e)
    plane_w = record {
      proper = plane.proper;
      lower_in = λ z Z. plane.lower_in z (back z Z);
      upper_in = λ z Z. plane.upper_in z (back z Z);
      lower_once = λ z Z. plane.lower_once z (back z Z);
      upper_once = λ z Z. plane.upper_once z (back z Z);
      proper_edge = λ z Z. plane.proper_edge z (back z Z);
      forward = λ z Z. plane.forward z (back z Z);
      upright = λ z Z. plane.upright z (back z Z);
      edge_once = wider.once;
      distinct = plane.distinct;
      clear = λ z v Z V. plane.clear z v (back z Z) V;
      uncrossed = λ y z Y Z. plane.uncrossed y z (back y Y) (back z Z);
    }

    same_left : (t : Point) → left_cell h t ≡ left_cell (with_edge g e) t
    same_left t = λ i. record { slab = slab_left g t; place = sums (λ f. cond (reaches_left f t && not (over f t)) 1 0) i }

    same_right : (t : Point) → right_cell h t ≡ right_cell (with_edge g e) t
    same_right t = λ i. record { slab = slab_right g t; place = sums (λ f. cond (reaches_right f t && not (over f t)) 1 0) i }

    -- places, cells and weights are the same
    pub same_place : (i : ℕ) (z : Edge) → place h i z ≡ place (with_edge g e) i z
    same_place i z = sums (λ f. cond (spans g i f && below f z) 1 0)

    pub same_cells : (z : Edge) (b fw : Bool) → cell_by h z b fw ≡ cell_by (with_edge g e) z b fw
    same_cells z true true = λ i. record { slab = slab_right g z.low; place = same_place (slab_right g z.low) z i + 1 }
    same_cells z true false = λ i. record { slab = slab_right g z.low; place = same_place (slab_right g z.low) z i }
    same_cells z false true = same_left z.low
    same_cells z false false = same_right z.low

    pub same_weight : (m : Edge → ℕ) (i j : ℕ) → weight_above h m i j ≡ weight_above (with_edge g e) m i j
    same_weight m i j =
        sum_by-same (λ z. cond (spans g i z && leb j (place h i z)) (m z) 0) (λ z. cond (spans g i z && leb j (place (with_edge g e) i z)) (m z) 0) hs
        (each (λ z. cond (spans g i z && leb j (place h i z)) (m z) 0 ≡ cond (spans g i z && leb j (place (with_edge g e) i z)) (m z) 0) hs (λ z _. ap (λ p. cond (spans g i z && leb j p) (m z) 0) (same_place i z)))
        ∙ sums (λ z. cond (spans g i z && leb j (place (with_edge g e) i z)) (m z) 0)

    -- ---- meets
    meets_to : (c d : SlabCell) → Meets h c d → Meets (with_edge g e) c d
    meets_to c d (across t wall free) =
        let m : Meets (with_edge g e) (left_cell (with_edge g e) t) (right_cell (with_edge g e) t) =
        across t (record { proper = wall.proper; vertex = wall.vertex; is_vertex = wall.is_vertex; same = wall.same }) (record { open_at = λ z Z. free.open_at z (back z Z) }) in
        subst (λ (p : SlabCell × SlabCell). Meets (with_edge g e) p.0 p.1) (λ i. (sym (same_left t) i, sym (same_right t) i)) m

    meets_back : (c d : SlabCell) → Meets (with_edge g e) c d → Meets h c d
    meets_back c d (across t wall free) =
        let m : Meets h (left_cell h t) (right_cell h t) =
        across t (record { proper = wall.proper; vertex = wall.vertex; is_vertex = wall.is_vertex; same = wall.same }) (record { open_at = λ z Z. free.open_at z (to z Z) }) in
        subst (λ (p : SlabCell × SlabCell). Meets h p.0 p.1) (λ i. (same_left t i, same_right t i)) m

    -- and so are faces
    pub face_to : (c d : SlabCell) → SameFace h c d → SameFace (with_edge g e) c d
    face_to c d (here c') = here _
    face_to c d (right b x d' s m) = right _ _ _ (face_to b x s) (meets_to x d' m)
    face_to c d (left b x d' s m) = left _ _ _ (face_to b x s) (meets_to d' x m)

    pub face_back : (c d : SlabCell) → SameFace (with_edge g e) c d → SameFace h c d
    face_back c d (here c') = here _
    face_back c d (right b x d' s m) = right _ _ _ (face_back b x s) (meets_back x d' m)
    face_back c d (left b x d' s m) = left _ _ _ (face_back b x s) (meets_back d' x m)

    -- ---- each face lies in one of the graph without e, and at most one of those has become two: those beside e
    pub finer : (c d : SlabCell) → SameFace h c d → SameFace g (merged g e c) (merged g e d)
    finer c d s = face_down g e c d plane_w (face_to c d s)

    no_span : (i : ℕ) → left_of e.low e.high ≡ false → spans g i e ≡ false
    no_span i v = false_from_ne_true _ (λ s.
        let p = plane_w.proper_edge e (first g e) in
        let k = right_few (with_edge g e) e.high e.low plane_w p.1 p.0 v in
        let a = and_parts (leb (slab_right g e.low) i) (ltb i (slab_right g e.high)) s in
        let b = leb-true _ _ a.0 in
        let c = ltb-true _ _ a.1 in
        absurd (omega arith))

    not_spanned : left_of e.low e.high ≡ false → (c : SlabCell) → merged g e c ≡ c
    not_spanned v c = λ i. record { slab = c.slab; place = place_is i }
      where
        place_is : (merged g e c).place ≡ c.place
        place_is = let s = no_span c.slab v in rw s refl

    split_back : (a b c d : SlabCell) → IsSplitBy (with_edge g e) a b c d → IsSplitBy h a b c d
    split_back a b c d (whole c' d' s) = whole _ _ (face_back _ _ s)
    split_back a b c d (over_under c' d' s t) = over_under _ _ (face_back _ _ s) (face_back _ _ t)
    split_back a b c d (under_over c' d' s t) = under_over _ _ (face_back _ _ s) (face_back _ _ t)

    by_kind : (b : Bool) → left_of e.low e.high ≡ b → (c d : SlabCell) → IsCell g e c → IsCell g e d → SameFace g (merged g e c) (merged g e d) → IsSplitBy h (cell_by h e b true) (cell_by h e b false) c d
    by_kind true long c d C D s =
        subst (λ (p : SlabCell × SlabCell). IsSplitBy h p.0 p.1 c d) (λ i. (sym (same_cells e true true) i, sym (same_cells e true false) i))
        (split_back _ _ c d (face_up g e _ _ plane_w long s c d C D refl refl))
    by_kind false v c d C D s =
        let f : left_of e.high e.low ≡ false = plane_w.forward e (first g e) in
        let w : on_wall e.low e.high ≡ true = rw (v, f) refl in
        let s' : SameFace g c d = subst (λ (p : SlabCell × SlabCell). SameFace g p.0 p.1) (λ i. (not_spanned v c i, not_spanned v d i)) s in
        subst (λ (p : SlabCell × SlabCell). IsSplitBy h p.0 p.1 c d) (λ i. (sym (same_cells e false true) i, sym (same_cells e false false) i))
        (split_back _ _ c d (upright_up g e c d plane_w w s'))

    -- cells of one old face are in one face, or on both sides of e
    pub two_at_most : (c d : SlabCell) → IsCell g e c → IsCell g e d → SameFace g (merged g e c) (merged g e d) → IsSplitBy h (cell_of h e true) (cell_of h e false) c d
    two_at_most c d C D s = by_kind (left_of e.low e.high) refl c d C D s

    -- ---- weights
    pub weight_apart : (m : Edge → ℕ) (c : SlabCell) → IsCell g e c → weight_above h m c.slab c.place ≡ cond (spans g c.slab e && leb c.place (place (with_edge g e) c.slab e)) (m e) 0 + weight_above g m (merged g e c).slab (merged g e c).place
    weight_apart m c real = same_weight m c.slab c.place ∙ merged_weight g e plane_w m c real

    -- ---- the cells beside the other edges
    pub old_cell : (z : Edge) → Contains g.edges z → (fw : Bool) → merged g e (cell_of h z fw) ≡ cell_of g z fw
    old_cell z Z fw = ap (merged g e) (same_cells z (left_of z.low z.high) fw) ∙ cell_merged g e plane_w z Z fw

    right_real : (v : Point) (j : ℕ) → Contains g.vertices v → IsCell g e (record { slab = slab_right g v; place = j })
    right_real v j V = record { beside = λ s. (v, V, refl) }

    left_real : (v : Point) (j : ℕ) → Contains g.vertices v → IsCell g e (record { slab = slab_left g v; place = j })
    left_real v j V = record {
      beside = λ s.
          let w = on_own_wall (with_edge g e) v plane_w V in
          let r = sym (spans_left (with_edge g e) v e plane_w w (first g e)) ∙ s in
          let k = wall_before (with_edge g e) e.low v plane_w w.proper (plane_w.lower_in e (first g e)) (and_parts (left_of e.low v) (not (left_of e.high v)) r).0 in
          (k.0, k.1.is_vertex, sym k.1.next);
    }

    beside_real : (z : Edge) (b fw : Bool) → Contains hs z → IsCell g e (cell_by h z b fw)
    beside_real z true true Z = right_real z.low _ (plane.lower_in z Z)
    beside_real z true false Z = right_real z.low _ (plane.lower_in z Z)
    beside_real z false true Z = left_real z.low _ (plane.lower_in z Z)
    beside_real z false false Z = right_real z.low _ (plane.lower_in z Z)

    -- the cell beside a dart of h is in a slab that lies beside a vertex
    pub dart_real : (z : Edge) (fw : Bool) → Contains hs z → IsCell g e (cell_of h z fw)
    dart_real z fw Z = beside_real z (left_of z.low z.high) fw Z

    -- ---- the cell round a vertex
    pub vertex_real : (v : Point) → Contains g.vertices v → IsCell g e (left_cell h v)
    vertex_real v V = left_real v _ V

    pub vertex_cell : (v : Point) → Contains g.vertices v → merged g e (left_cell h v) ≡ left_cell g v
    vertex_cell v V = ap (merged g e) (same_left v) ∙ merged_left g e v plane_w (on_own_wall (with_edge g e) v plane_w V)

    -- ---- the first cell is in a slab that e doesn't span
    pub first_real : (j : ℕ) → IsCell g e (record { slab = 0; place = j })
    first_real j = record {
      beside = λ s.
          let a = and_parts (leb (slab_right g e.low) 0) (ltb 0 (slab_right g e.high)) s in
          let b = leb-true _ _ a.0 in
          let c = passing (λ v. not (left_of e.low v)) g.vertices e.low (plane_w.lower_in e (first g e)) (ap not (left_of-irrefl e.low)) in
          absurd (omega arith);
    }
