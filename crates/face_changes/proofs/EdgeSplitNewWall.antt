-- An edge that is split at a point of a new wall: both sides of this wall are one face at each place.
-- g has the edge e, h its two parts at v; hv and hs are the vertices and edges of h, `rest` the edges of both.
use Rattle.std.proofs.Common.{◌≡◌, ℕ, zero, suc, ◌+◌, ◌<◌, Bool, true, false, arith, refl, sym, ap, ◌∙◌, subst, ◌⊎◌, inl, inr, List}
use Rattle.std.specs.Prelude.{not, ◌&&◌}
use Rattle.std.specs.List.{count_by, Contains}
use Rattle.std.proofs.lemmas.Bool.{and_from, false≢true, true≢false, and_parts, not-true, false_from_ne_true}
use Rattle.exact_plane.specs.Point.{Point}
use Rattle.plane_graphs.specs.Graph.{Edge}
use Rattle.slab_laws.specs.declared.slab_cell.SlabCell.{SlabCell}
use Rattle.slab_laws.specs.Skeleton.{foot, Skeleton, HasWeight, left_of, on_wall, below}
use Rattle.slab_laws.specs.Slabs.{slab_left, slab_right, spans, place, reaches_left, left_cell, right_cell, left_count, right_count, width}
use Rattle.slab_laws.specs.Meets.{IsOnWall, IsOpenAbove, SameFace, across, here, right}
use Rattle.slab_faces.proofs.Walls.{left_of-before, left_of-irrefl, run_positive, side-upper}
use Rattle.slab_faces.proofs.Cells.{spans_left}
use Rattle.slab_faces.proofs.Nudge.{left_inside, is_slab_left}
use Rattle.face_changes.proofs.NewWall.{AreEdgesAlike, IsOffWalls, IsOneFaceAcross}
use Rattle.slab_faces.proofs.Slabs.{IsThrough}
use Rattle.slab_faces.proofs.Corners.{IsAt, left_fan, top_place}
use Rattle.slab_faces.proofs.Along.{left_reach, count_above, open_above, below_self}
use Rattle.slab_faces.proofs.Turns.{on_own_wall, foot_is_on, foot_before, foot_after, level_at}
use Rattle.slab_faces.proofs.EveryFace.{edge_at}
use Rattle.slab_faces.proofs.FacesLemmas.{lowest_meets}
use Rattle.slab_faces.proofs.WallsLemmas.{off_walls}
use Rattle.face_changes.specs.EdgeSplit.{HasEdgeSplit}
use Rattle.rotation_order.specs.EdgeParts.{lower_part}
use Rattle.face_changes.proofs.EdgeSplitFacts.{SplitFacts, split_facts}
use Rattle.face_changes.proofs.EdgeSplitWalls.{covers_out, alike}

module _ (g : Skeleton) (hv : List Point) (hs : List Edge) (e : Edge) (v : Point) (rest : List Edge) (m : HasEdgeSplit g (record { vertices = hv; edges = hs }) e v rest) where
  abbrev h : Skeleton
  h = record { vertices = hv; edges = hs }

  abbrev facts : SplitFacts g hv hs e v rest
  facts = split_facts g hv hs e v rest m

  abbrev same : AreEdgesAlike g h
  same = alike g hv hs e v rest m

  module _ (off : IsOffWalls g v) where
    wall : IsOnWall h v
    wall = on_own_wall h v m.plane_more facts.there

    -- the counts on its left and right are one
    level : (t : Point) → HasWeight t → ((u : Point) → Contains g.vertices u → on_wall u t ≡ false) → left_count h t ≡ right_count h t
    level t T o = same.on_left t T ∙ ap (λ (z : SlabCell). z.place) (off_walls g t m.plane T o) ∙ sym (same.on_right t T)

    apart : (u : Point) → Contains g.vertices u → (left_of u v ≡ true) ⊎ (left_of v u ≡ true)
    apart u U = go (left_of u v) (left_of v u) refl refl (off u U)
      where
        go : (a b : Bool) → left_of u v ≡ a → left_of v u ≡ b → (not a && not b) ≡ false → (left_of u v ≡ true) ⊎ (left_of v u ≡ true)
        go true b x y k = inl x
        go false true x y k = inr y
        go false false x y k = absurd (true≢false k)

    -- at any place of the slab before it, there is a point of it
    record PointAt (j : ℕ) : Type 0 where
      point : Point
      on : IsOnWall h point
      slab_before : slab_left h point ≡ slab_left h v
      slab_after : slab_right h point ≡ slab_right h v
      free : IsOpenAbove h point
      count : left_count h point ≡ j
      even : left_count h point ≡ right_count h point

    there_is : (j : ℕ) → j < width h (slab_left h v) → PointAt (j + 1)
    there_is j k = by (edge_at h (slab_left h v) (left_inside h v) m.plane_more (is_slab_left h v m.plane_more wall) j k)
      where
        own : on_wall v v ≡ true
        own = let k = left_of-irrefl v in rw k refl

        no_vertical : IsOpenAbove g v
        no_vertical = record { open_at = λ z Z. false_from_ne_true _ (λ c. false≢true (sym (off z.low (m.plane.lower_in z Z)) ∙ (covers_out z v c).low_wall)) }

        reaches : reaches_left (lower_part e v) v ≡ true
        reaches = and_from _ _ (elim (apart e.low (m.plane.lower_in e facts.edge_in)) [ inl k ↦ k | inr k ↦ absurd (false≢true (sym facts.after_low ∙ k)) ]) (ap not (left_of-irrefl v))

        alone : (f : Edge) → IsAt h v (λ z. reaches_left z v) f → below (lower_part e v) f ≡ true → ⊥
        alone f a b = elim ((m.edges_more f).0 a.in') [
          | inl F ↦
              let q = level_at h f v m.plane_more a.in' facts.there a.reaches a.on in
              false≢true (sym (subst (λ z. on_wall z v ≡ false) q (off f.high (m.plane.upper_in f (facts.old_edge f F)))) ∙ own)
          | inr x ↦ elim x [
            | inl q ↦ false≢true (sym (below_self h (lower_part e v) m.plane_more facts.lower_in) ∙ subst (λ z. below (lower_part e v) z ≡ true) q b)
            | inr q ↦ true≢false (sym (subst (λ (z : Edge). left_of z.low v ≡ true) q (and_parts (left_of f.low v) (not (left_of f.high v)) a.reaches).0) ∙ left_of-irrefl v)
          ]
        ]

        at_end : place h (slab_left h v) (lower_part e v) ≡ j → PointAt (j + 1)
        at_end q =
            let c = top_place h v (slab_left h v) (left_inside h v) (λ z. reaches_left z v) (lower_part e v) (left_fan h v m.plane_more wall) (record { in' = facts.lower_in; reaches = reaches; on = side-upper (lower_part e v) }) alone in
            record { point = v; on = wall; slab_before = refl; slab_after = refl; free = same.open_up v facts.weight no_vertical; count = omega arith; even = level v facts.weight off }

        passing_by : (f : Edge) → Contains rest f → spans h (slab_left h v) f ≡ true → place h (slab_left h v) f ≡ j → PointAt (j + 1)
        passing_by f F s q =
            let K = facts.kept_edge f F in
            let a = and_parts (left_of f.low v) (not (left_of f.high v)) (sym (spans_left h v f m.plane_more wall K) ∙ s) in
            let to : left_of v f.high ≡ true = elim (apart f.high (m.plane.upper_in f (facts.old_edge f F))) [ inl k ↦ absurd (false≢true (sym (not-true _ a.1) ∙ k)) | inr k ↦ k ] in
            let th : IsThrough f v = record { from = a.0; to = to } in
            let o = foot_is_on h f v m.plane_more wall K th in
            let w = m.plane_more.proper_edge f K in
            let R = run_positive f (left_of-before f.low v f.high w.0 facts.weight w.1 a.0 (not-true _ a.1)) in
            let sl : slab_left h (foot f v) ≡ slab_left h v = λ i. count_by (λ u. foot_before f v u R i) hv in
            let sr : slab_right h (foot f v) ≡ slab_right h v = λ i. count_by (λ u. not (foot_after f v u R i)) hv in
            let c = count_above h f (foot f v) (slab_left h (foot f v)) (λ z. reaches_left z (foot f v)) o (left_reach h (foot f v) m.plane_more o.wall) in
            let p : place h (slab_left h (foot f v)) f ≡ j = ap (λ i. place h i f) sl ∙ q in
            record {
              point = foot f v;
              on = o.wall;
              slab_before = sl;
              slab_after = sr;
              free = open_above h f (foot f v) o;
              count = omega arith;
              even = level (foot f v) o.wall.proper (λ u U. rw (foot_before f v u R, foot_after f v u R) (off u U));
            }

        by : ((f : Edge) × Contains hs f × (spans h (slab_left h v) f ≡ true) × (place h (slab_left h v) f ≡ j)) → PointAt (j + 1)
        by w = elim ((m.edges_more w.0).0 w.1) [
          | inl F ↦ passing_by w.0 F w.2 w.3
          | inr x ↦ elim x [
            | inl q ↦ at_end (subst (λ z. place h (slab_left h v) z ≡ j) q w.3)
            | inr q ↦
                let s = spans_left h v w.0 m.plane_more wall w.1 in
                let a = (and_parts (left_of w.0.low v) (not (left_of w.0.high v)) (sym s ∙ w.2)).0 in
                absurd (true≢false (sym (subst (λ z. left_of z.low v ≡ true) q a) ∙ left_of-irrefl v))
          ]
        ]

    -- so both sides are one face at each place
    pub across_it : IsOneFaceAcross h v
    across_it zero k = right _ _ _ (here _) (lowest_meets h v m.plane_more wall)
    across_it (suc j) k =
        let t = there_is j (omega arith) in
        let c : left_count h t.point ≡ suc j = let q = t.count in omega arith in
        let d : right_count h t.point ≡ suc j = let q = t.count in let w = t.even in omega arith in
        let s : SameFace h (left_cell h t.point) (right_cell h t.point) = right _ _ _ (here _) (across t.point t.on t.free) in
        subst (λ (z : SlabCell × SlabCell). SameFace h z.0 z.1) (λ i. (record { slab = t.slab_before i; place = c i }, record { slab = t.slab_after i; place = d i })) s
