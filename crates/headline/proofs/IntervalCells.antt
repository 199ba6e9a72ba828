-- All points of an interval have the same cells beside them, so two cells meet where one uncovered interval borders both.
use Rattle.std.proofs.Common.{◌≡◌, ℕ, Bool, true, false, cond, arith, refl, sym, ap, subst, ◌∙◌, ◌⊎◌, inl, inr}
use Rattle.std.specs.Prelude.{pos, ◌<ℤ◌, not, ◌&&◌}
use Rattle.std.specs.List.{Contains, count_by}
use Rattle.std.proofs.lemmas.Int.{ints}
use Rattle.std.proofs.lemmas.Bool.{false≢true, and_parts, and_from, not-true, false_from_ne_true, cases_Bool}
use Rattle.exact_plane.specs.Point.{Point}
use Rattle.plane_graphs.specs.Graph.{Edge}
use Rattle.slab_laws.specs.Skeleton.{Skeleton, HasWeight, left_of, lower_than, on_wall, run, side, over, foot, IsPlaneSkeleton}
use Rattle.slab_laws.specs.Slabs.{slab_left, slab_right, reaches_left, reaches_right, left_count, right_count, left_cell, right_cell}
use Rattle.slab_laws.specs.Meets.{IsOnWall, Meets, across}
use Rattle.slab_laws.specs.declared.slab_cell.SlabCell.{SlabCell}
use Rattle.slab_faces.proofs.Sums.{each, fewer, sum_by-same, sum_by-none}
use Rattle.slab_faces.proofs.Walls.{left_of-irrefl, left_of-asym, left_of-before, left_of-after, lower_than-before, on_wall_parts, run_positive, side_keeps}
use Rattle.slab_faces.proofs.Cells.{not_right_trans}
use Rattle.slab_faces.proofs.Slabs.{IsThrough}
use Rattle.slab_faces.proofs.Along.{IsReach, left_reach, right_reach, side_below}
use Rattle.slab_faces.proofs.OverUnder.{not_over, weak_over}
use Rattle.slab_faces.proofs.Turns.{foot_is_on, foot_before, foot_after, le_antisym, on_own_wall}
use Rattle.slab_faces.proofs.Corners.{same_before, same_after}
use Rattle.slab_faces.proofs.AddedUpright.{one_slab_left, one_slab_right}
use Rattle.slab_faces.proofs.Member.{Member}
use Rattle.slab_faces.proofs.Stops.{OneWall, Stop, corner, crossed, stops, is_stop, a_corner, a_foot, on_its_wall, IsHighest, highest}
use Rattle.headline.specs.Intervals.{HasVertexAt, HasEdgeThrough, IsStop, IsLowerStop, IsBelowStops, Borders, above_stop, below_stops, IsCovered, BorderAsBeside, MeetAcrossIntervals}
use Rattle.headline.proofs.Intervals.{vertex_is_stop, open_is_uncovered}

-- ---- where an edge reaches a wall
-- a stop at which the edge e reaches the wall of t, at t or below it
record IsReached (g : Skeleton) (t : Point) (e : Edge) (q : Point) : Type 0 where
  stop : IsStop g q
  wall : on_wall q t ≡ true
  below : lower_than t q ≡ false
  on : side e q ≡ pos 0

module _ (g : Skeleton) (plane : IsPlaneSkeleton g) (t : Point) (wall : IsOnWall g t) where
  -- the edge isn't over t, so the point at which it reaches the wall isn't above t
  not_above : (e : Edge) (q : Point) → HasWeight q → pos 0 <ℤ run e → over e t ≡ false → on_wall q t ≡ true → side e q ≡ pos 0 → lower_than t q ≡ false
  not_above e q Q R o w z =
      let a = on_wall_parts q t w in
      false_from_ne_true _ (λ k. let b = side_below e q t Q R z a.1 a.0 k in let c = not_over e t o in absurd (omega (arith, ints)))

  module _ (reach : Edge → Bool) (i : ℕ) (r : IsReach g t i reach) (e : Edge) (E : Contains g.edges e) (h : reach e ≡ true) where
    long : pos 0 <ℤ run e
    long = run_positive e (r.sided.passes e e E E h h).f_long

    reached : over e t ≡ false → (q : Point) × IsReached g t e q
    reached o = elim (r.ends_at e E h) [
      | inl th ↦
          let p = foot_is_on g e t plane wall E th in
          let w : on_wall (foot e t) t ≡ true = and_from _ _ (ap not (foot_after e t t long ∙ left_of-irrefl t)) (ap not (foot_before e t t long ∙ left_of-irrefl t)) in
          let s : IsStop g (foot e t) = record { wall = p.wall; met = inr (record { edge = e; is_edge = E; through = and_from _ _ p.through.from p.through.to; there = p.on }) } in
          (foot e t, record { stop = s; wall = w; below = not_above e (foot e t) p.wall.proper long o w p.on; on = p.on })
      | inr k ↦
          let w : on_wall k.0 t ≡ true = and_from _ _ (ap not k.2) (ap not k.3) in
          (k.0, record { stop = vertex_is_stop g plane k.0 k.1; wall = w; below = not_above e k.0 (plane.proper k.0 k.1) long o w k.4; on = k.4 })
    ]

    -- the same edges are over t as over its lower stop
    same_over : (s : Point) → IsLowerStop g t s → over e t ≡ over e s
    same_over s l =
        let S = l.stop.wall.proper in
        let a = on_wall_parts s t l.wall in
        elim (cases_Bool (over e t)) [
          | inr n ↦
              let q = reached n in
              let Q = q.1.stop.wall.proper in
              let b = on_wall_parts q.0 t q.1.wall in
              let z = q.1.on in
              let c = not_right_trans s t q.0 S wall.proper Q a.1 b.0 in
              let d = not_right_trans q.0 t s Q wall.proper S b.1 a.0 in
              n ∙ sym (weak_over e s (side_keeps e q.0 s Q S long c d (l.nearest q.0 q.1.stop q.1.wall q.1.below) (omega (arith, ints))))
          | inl n ↦ elim (cases_Bool (over e s)) [
            | inl m ↦ n ∙ sym m
            | inr m ↦ absurd (false≢true (sym (weak_over e t (side_keeps e s t S wall.proper long a.0 a.1 l.below (not_over e s m))) ∙ n))
          ]
        ]

    -- and below all stops all are over it
    all_over : IsBelowStops g t → over e t ≡ true
    all_over none = elim (cases_Bool (over e t)) [
      | inl n ↦ n
      | inr n ↦ (let q = reached n in absurd (false≢true (sym q.1.below ∙ none q.0 q.1.stop q.1.wall)))
    ]

  -- ---- the cells beside t
  same_count : (reach there : Edge → Bool) (i : ℕ) (s : Point) → IsReach g t i reach → IsLowerStop g t s → ((e : Edge) → Contains g.edges e → reach e ≡ there e) → count_by (λ e. reach e && not (over e t)) g.edges ≡ count_by (λ e. there e && not (over e s)) g.edges
  same_count reach there i s r l h = le_antisym _ _ (fewer now then g.edges onward) (fewer then now g.edges back)
    where
      now : Edge → Bool
      now e = reach e && not (over e t)

      then : Edge → Bool
      then e = there e && not (over e s)

      onward : (e : Edge) → Contains g.edges e → now e ≡ true → then e ≡ true
      onward e E x =
          let y = and_parts (reach e) (not (over e t)) x in
          and_from _ _ (sym (h e E) ∙ y.0) (ap not (sym (same_over reach i r e E y.0 s l)) ∙ y.1)

      back : (e : Edge) → Contains g.edges e → then e ≡ true → now e ≡ true
      back e E x =
          let y = and_parts (there e) (not (over e s)) x in
          let z = h e E ∙ y.0 in
          and_from _ _ z (ap not (same_over reach i r e E z s l) ∙ y.1)

  no_count : (reach : Edge → Bool) (i : ℕ) → IsReach g t i reach → IsBelowStops g t → count_by (λ e. reach e && not (over e t)) g.edges ≡ 0
  no_count reach i r none =
      let now : Edge → ℕ = λ e. cond (reach e && not (over e t)) 1 0 in
      let no : (e : Edge) → Contains g.edges e → (reach e && not (over e t)) ≡ false = λ e E. false_from_ne_true _ (λ x.
      let y = and_parts (reach e) (not (over e t)) x in
      false≢true (sym (not-true _ y.1) ∙ all_over reach i r e E y.0 none)) in
      sum_by-same now (λ (e : Edge). 0) g.edges (each (λ e. now e ≡ 0) g.edges (λ e E. ap (λ b. cond {A = ℕ} b 1 0) (no e E))) ∙ sum_by-none g.edges

  same_left : (s : Point) → IsLowerStop g t s → left_cell g s ≡ left_cell g t
  same_left s l =
      let S = l.stop.wall.proper in
      let a = on_wall_parts s t l.wall in
      let slabs : slab_left g s ≡ slab_left g t = one_slab_left g s t plane.proper S wall.proper a.0 a.1 in
      let counts : left_count g t ≡ left_count g s = same_count (λ e. reaches_left e t) (λ e. reaches_left e s) (slab_left g t) s (left_reach g t plane wall) l (λ e E.
      let p = plane.proper_edge e E in
      λ i. same_before e.low t s p.0 wall.proper S a.1 a.0 i && not (same_before e.high t s p.1 wall.proper S a.1 a.0 i)) in
      λ i. record { slab = slabs i; place = sym counts i }

  same_right : (s : Point) → IsLowerStop g t s → right_cell g s ≡ right_cell g t
  same_right s l =
      let S = l.stop.wall.proper in
      let a = on_wall_parts s t l.wall in
      let slabs : slab_right g s ≡ slab_right g t = one_slab_right g s t plane.proper S wall.proper a.0 a.1 in
      let counts : right_count g t ≡ right_count g s = same_count (λ e. reaches_right e t) (λ e. reaches_right e s) (slab_right g t) s (right_reach g t plane wall) l (λ e E.
      let p = plane.proper_edge e E in
      λ i. not (same_after e.low t s p.0 wall.proper S a.1 a.0 i) && same_after e.high t s p.1 wall.proper S a.1 a.0 i) in
      λ i. record { slab = slabs i; place = sym counts i }

  beside_t : (c d : SlabCell) → Borders g t c d → (c ≡ left_cell g t) × (d ≡ right_cell g t)
  beside_t c d (above_stop s l) = (same_left s l, same_right s l)
  beside_t c d (below_stops none) =
      let a : left_count g t ≡ 0 = no_count (λ e. reaches_left e t) (slab_left g t) (left_reach g t plane wall) none in
      let b : right_count g t ≡ 0 = no_count (λ e. reaches_right e t) (slab_right g t) (right_reach g t plane wall) none in
      (λ i. record { slab = slab_left g t; place = sym a i }, λ i. record { slab = slab_right g t; place = sym b i })

-- ---- each point of a wall has a lower stop, or is below all
-- two points of one wall on an edge that isn't vertical have one height
not_lower : (e : Edge) (p q : Point) → HasWeight p → pos 0 <ℤ run e → side e p ≡ pos 0 → side e q ≡ pos 0 → left_of q p ≡ false → left_of p q ≡ false → lower_than q p ≡ false
not_lower e p q P R z z' a b = false_from_ne_true _ (λ k. let l = side_below e p q P R z a b k in absurd (omega (arith, ints)))

module _ (g : Skeleton) (plane : IsPlaneSkeleton g) (v : Point) (in' : Contains g.vertices v) where
  V : HasWeight v
  V = plane.proper v in'

  -- ---- the list of the wall's stops
  from_list : (q : Point) → Stop g v q → IsStop g q
  from_list q (corner u U w) = vertex_is_stop g plane u U
  from_list q (crossed e E th) =
      let o = foot_is_on g e v plane (on_own_wall g v plane in') E th in
      record { wall = o.wall; met = inr (record { edge = e; is_edge = E; through = and_from _ _ o.through.from o.through.to; there = o.on }) }

  -- a point of the list at the place of the stop r
  record IsListed (r q : Point) : Type 0 where
    listed : Member (stops g v) q
    proper : HasWeight q
    above : lower_than q r ≡ false
    below : lower_than r q ≡ false

  module _ (r : Point) (R : HasWeight r) (one : OneWall r v) where
    corner_there : HasVertexAt g r → (q : Point) × IsListed r q
    corner_there u =
        let U = plane.proper u.vertex u.is_vertex in
        let a = and_parts (on_wall u.vertex r) (not (lower_than u.vertex r) && not (lower_than r u.vertex)) u.there in
        let b = and_parts (not (lower_than u.vertex r)) (not (lower_than r u.vertex)) a.1 in
        let c = on_wall_parts u.vertex r a.0 in
        let w : OneWall u.vertex v = record { there = not_right_trans v r u.vertex V R U one.there c.0; back = not_right_trans u.vertex r v U R V c.1 one.back } in
        (u.vertex, record { listed = a_corner g v u.vertex u.is_vertex w; proper = U; above = not-true _ b.0; below = not-true _ b.1 })

    foot_there : HasEdgeThrough g r → (q : Point) × IsListed r q
    foot_there f =
        let e = f.edge in
        let p = plane.proper_edge e f.is_edge in
        let a = and_parts (left_of e.low r) (left_of r e.high) f.through in
        let th : IsThrough e v = record { from = left_of-before e.low r v p.0 R V a.0 one.back; to = left_of-after v r e.high V R p.1 one.there a.1 } in
        let L = run_positive e (left_of-before e.low r e.high p.0 R p.1 a.0 (left_of-asym r e.high a.1)) in
        let o = foot_is_on g e v plane (on_own_wall g v plane in') f.is_edge th in
        let w = (on_its_wall g v (foot e v) plane in' (crossed e f.is_edge th)).1 in
        let F = o.wall.proper in
        let b = not_right_trans r v (foot e v) R V F one.back w.there in
        let c = not_right_trans (foot e v) v r F V R w.back one.there in
        (foot e v, record { listed = a_foot g v e f.is_edge th; proper = F; above = not_lower e r (foot e v) R L f.there o.on b c; below = not_lower e (foot e v) r F L o.on f.there c b })

    in_list : HasVertexAt g r ⊎ HasEdgeThrough g r → (q : Point) × IsListed r q
    in_list (inl u) = corner_there u
    in_list (inr f) = foot_there f

  module _ (t : Point) (T : HasWeight t) (same : on_wall v t ≡ true) where
    at_place : (r : Point) → IsStop g r → on_wall r t ≡ true → (q : Point) × IsListed r q
    at_place r s w =
        let a = on_wall_parts r t w in
        let b = on_wall_parts v t same in
        let R = s.wall.proper in
        in_list r R (record { there = not_right_trans v t r V T R b.1 a.0; back = not_right_trans r t v R T V a.1 b.0 }) s.met

    its_wall : (q : Point) → Stop g v q → on_wall q t ≡ true
    its_wall q s =
        let a = on_wall_parts v t same in
        let w = (on_its_wall g v q plane in' s).1 in
        let Q = (from_list q s).wall.proper in
        and_from _ _ (ap not (not_right_trans t v q T V Q a.0 w.there)) (ap not (not_right_trans q v t Q V T w.back a.1))

    -- the highest of the list that isn't above t is t's lower stop
    nearest : (s : Point) → IsHighest (stops g v) t s → IsLowerStop g t s
    nearest s best =
        let k = is_stop g v s best.in' in
        let stop = from_list s k in
        let S = stop.wall.proper in
        record {
          stop = stop;
          wall = its_wall s k;
          below = best.low;
          nearest = λ r rs w n.
              let q = at_place r rs w in
              let R = rs.wall.proper in
              let Q = q.1.proper in
              let low : lower_than t q.0 ≡ false = false_from_ne_true _ (λ h. false≢true (sym n ∙ lower_than-before t q.0 r T Q R h q.1.below)) in
              false_from_ne_true _ (λ h. false≢true (sym (best.most q.0 q.1.listed low) ∙ lower_than-before s r q.0 S R Q h q.1.above));
        }

    lower_stop : ((s : Point) × IsLowerStop g t s) ⊎ IsBelowStops g t
    lower_stop = elim (highest t (stops g v) T (λ s m. (from_list s (is_stop g v s m)).wall.proper)) [
      | inl none ↦ inr (λ s st w. let q = at_place s st w in lower_than-before t q.0 s T q.1.proper st.wall.proper (none q.0 q.1.listed) q.1.below)
      | inr best ↦ inl (best.0, nearest best.0 best.1)
    ]

-- ---- so t's interval borders the cells beside t
module _ (g : Skeleton) (plane : IsPlaneSkeleton g) (t : Point) (wall : IsOnWall g t) where
  renamed : (x y c d : SlabCell) → Borders g t x y → c ≡ left_cell g t → d ≡ right_cell g t → Borders g t c d
  renamed x y c d b h k =
      let a = beside_t g plane t wall x y b in
      subst (λ z. Borders g t z d) (a.0 ∙ sym h) (subst (λ z. Borders g t x z) (a.1 ∙ sym k) b)

  bordered : (c d : SlabCell) → c ≡ left_cell g t → d ≡ right_cell g t → Borders g t c d
  bordered c d h k = elim (lower_stop g plane wall.vertex wall.is_vertex t wall.proper wall.same) [
    | inl s ↦ renamed _ _ c d (above_stop s.0 s.1) h k
    | inr none ↦ renamed _ _ c d (below_stops none) h k
  ]

pub border_as_beside : BorderAsBeside
border_as_beside g t c d plane wall = (beside_t g plane t wall c d, λ h. bordered g plane t wall c d h.0 h.1)

meets_out : (g : Skeleton) (c d : SlabCell) → IsPlaneSkeleton g → Meets g c d → (t : Point) × IsOnWall g t × (¬ IsCovered g t) × Borders g t c d
meets_out g c d plane (across t wall o) = (t, wall, (open_is_uncovered g t plane wall.proper).0 o, bordered g plane t wall _ _ refl refl)

meets_in : (g : Skeleton) (c d : SlabCell) (t : Point) → IsPlaneSkeleton g → IsOnWall g t → ¬ IsCovered g t → Borders g t c d → Meets g c d
meets_in g c d t plane wall n b =
    let a = beside_t g plane t wall c d b in
    subst (λ z. Meets g z d) (sym a.0) (subst (λ z. Meets g (left_cell g t) z) (sym a.1) (across t wall ((open_is_uncovered g t plane wall.proper).1 n)))

pub meet_across_intervals : MeetAcrossIntervals
meet_across_intervals g c d plane = (meets_out g c d plane, λ h. meets_in g c d h.0 plane h.1 h.2 h.3)
