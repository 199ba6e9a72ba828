-- One of two plane graphs has one more vertex: its wall may be new, and then it parts cells of the other, but no face.
-- g is without the vertex v, h with it; a slab of h on the right of v has one number less in g (`narrow`).
use Rattle.std.proofs.Common.{◌≡◌, ◌↔◌, ℕ, ◌+◌, ◌-◌, ◌<◌, ◌≤◌, Bool, true, false, cond, arith, refl, sym, ap, ◌∙◌, subst, ◌⊎◌, inl, inr, ◌∷◌, map}
use Rattle.std.specs.Prelude.{not, ◌&&◌}
use Rattle.std.specs.List.{count_by, Contains}
use Rattle.std.proofs.lemmas.Bool.{false≢true, not-true, false_from_ne_true, cases_Bool, cases_lt, lt-ltb, le-ltb}
use Rattle.std.proofs.lemmas.Bool.Decides.{nat_tests}
use lib.Dec.{ltb, leb}
use Rattle.exact_plane.specs.Point.{Point}
use Rattle.plane_graphs.specs.Graph.{Edge}
use Rattle.slab_laws.specs.declared.slab_cell.SlabCell.{SlabCell}
use Rattle.slab_laws.specs.Skeleton.{Skeleton, HasWeight, left_of, on_wall, IsPlaneSkeleton}
use Rattle.slab_laws.specs.Slabs.{slab_left, slab_right, spans, left_cell, right_cell, left_count, right_count, width}
use Rattle.slab_laws.specs.Meets.{IsOnWall, IsOpenAbove, SameFace, across, here, right, left}
use Rattle.slab_laws.specs.Faces.{walls, cells}
use Rattle.slab_faces.proofs.Found.{found}
use Rattle.slab_faces.proofs.Sums.{fewer, fewer_than}
use Rattle.slab_faces.proofs.Walls.{left_of-asym, left_of-before, left_of-after, left_of-irrefl, on_wall_parts}
use Rattle.slab_faces.proofs.Turns.{face_trans, face_sym}
use Rattle.slab_faces.proofs.EveryFace.{passing}
use Rattle.slab_faces.proofs.Member.{Member, map_out}
use Rattle.slab_faces.proofs.WallsLemmas.{off_walls, wall_vertex, cell_there}
use Rattle.slab_faces.proofs.ListedCells.{cell_out, right_there}
use Rattle.face_changes.specs.OneMoreVertex.{widened}

-- the number in g of a slab of h
unfoldable pub narrow : Skeleton → Point → ℕ → ℕ
narrow g v i = cond (ltb (slab_left g v) i) (i - 1) i

-- h has the vertex v more than g
pub record HasNewVertex (g h : Skeleton) (v : Point) : Type 0 where
  pub plane : IsPlaneSkeleton g
  pub plane_more : IsPlaneSkeleton h
  pub vertices : (u : Point) → Contains h.vertices u ↔ (Contains g.vertices u ⊎ (u ≡ v))
  pub counts : (p : Point → Bool) → count_by p h.vertices ≡ cond (p v) 1 0 + count_by p g.vertices

-- at each point as many edges are below, and the same points of walls are open
pub record AreEdgesAlike (g h : Skeleton) : Type 0 where
  pub on_left : (t : Point) → HasWeight t → left_count h t ≡ left_count g t
  pub on_right : (t : Point) → HasWeight t → right_count h t ≡ right_count g t
  pub open_down : (t : Point) → HasWeight t → IsOpenAbove h t → IsOpenAbove g t
  pub open_up : (t : Point) → HasWeight t → IsOpenAbove g t → IsOpenAbove h t

-- no vertex of g is on the wall of v
abbrev pub IsOffWalls : (g : Skeleton) (v : Point) → Type 0
IsOffWalls g v = (u : Point) → Contains g.vertices u → on_wall u v ≡ false

-- both sides of the wall of v are one face at each place
abbrev pub IsOneFaceAcross : (h : Skeleton) → Point → Type 0
IsOneFaceAcross h v = (j : ℕ) → j ≤ width h (slab_left h v) → SameFace h (record { slab = slab_left h v; place = j }) (record { slab = slab_right h v; place = j })

module _ (g h : Skeleton) (v : Point) (m : HasNewVertex g h v) where
  plane_g : IsPlaneSkeleton g
  plane_g = m.plane

  plane : IsPlaneSkeleton h
  plane = m.plane_more

  -- v is a vertex of h, and has a weight
  pub V : Contains h.vertices v
  V = (m.vertices v).1 (inr refl)

  pub W : HasWeight v
  W = plane.proper v V

  up : (u : Point) → Contains g.vertices u → Contains h.vertices u
  up u U = (m.vertices u).1 (inl U)

  narrow_over : (i : ℕ) → slab_left g v ≤ i → narrow g v (1 + i) ≡ i
  unfolding narrow
  narrow_over i l = rw (lt-ltb (slab_left g v) (1 + i) (omega arith)) (omega arith)

  narrow_under : (i : ℕ) → i ≤ slab_left g v → narrow g v i ≡ i
  unfolding narrow
  narrow_under i l = rw (le-ltb (slab_left g v) i l) refl

  -- ---- slabs beside a point
  left_is : (t : Point) → slab_left h t ≡ cond (left_of v t) 1 0 + slab_left g t
  left_is t = m.counts (λ u. left_of u t)

  right_is : (t : Point) → slab_right h t ≡ cond (not (left_of t v)) 1 0 + slab_right g t
  right_is t = m.counts (λ u. not (left_of t u))

  narrow_left : (t : Point) → HasWeight t → narrow g v (slab_left h t) ≡ slab_left g t
  narrow_left t T = elim (cases_Bool (left_of v t)) [
    | inl b ↦
        let n : slab_left h t ≡ 1 + slab_left g t = left_is t ∙ ap (λ z. cond z 1 0 + slab_left g t) b in
        let l = fewer (λ u. left_of u v) (λ u. left_of u t) g.vertices (λ u U k. left_of-before u v t (plane_g.proper u U) W T k (left_of-asym v t b)) in
        ap (narrow g v) n ∙ narrow_over (slab_left g t) l
    | inr b ↦
        let n : slab_left h t ≡ slab_left g t = left_is t ∙ ap (λ z. cond z 1 0 + slab_left g t) b ∙ omega arith in
        let l = fewer (λ u. left_of u t) (λ u. left_of u v) g.vertices (λ u U k. left_of-before u t v (plane_g.proper u U) T W k b) in
        ap (narrow g v) n ∙ narrow_under (slab_left g t) l
  ]

  pub narrow_right : (t : Point) → HasWeight t → narrow g v (slab_right h t) ≡ slab_right g t
  narrow_right t T = elim (cases_Bool (left_of t v)) [
    | inl b ↦
        let n : slab_right h t ≡ slab_right g t = right_is t ∙ ap (λ z. cond (not z) 1 0 + slab_right g t) b ∙ omega arith in
        let l = fewer (λ u. not (left_of t u)) (λ u. left_of u v) g.vertices (λ u U k. left_of-after u t v (plane_g.proper u U) T W (not-true _ k) b) in
        ap (narrow g v) n ∙ narrow_under (slab_right g t) l
    | inr b ↦
        let n : slab_right h t ≡ 1 + slab_right g t = right_is t ∙ ap (λ z. cond (not z) 1 0 + slab_right g t) b in
        let l = fewer (λ u. left_of u v) (λ u. not (left_of t u)) g.vertices (λ u U k. ap not (false_from_ne_true (left_of t u) (λ w. false≢true (sym b ∙ left_of-before t u v T (plane_g.proper u U) W w (left_of-asym u v k))))) in
        ap (narrow g v) n ∙ narrow_over (slab_right g t) l
  ]

  -- ---- edges in slabs
  bounds : (b : Bool) (a i s : ℕ) → (b ≡ true → a ≤ s) → (b ≡ false → s < a) → leb (cond (not b) 1 0 + a) i ≡ leb a (cond (ltb s i) (i - 1) i)
  bounds true a i s f n = let k = f refl in elim (cases_lt s i) [
    | inl l ↦ rw (lt-ltb s i l) (grind (arith, nat_tests))
    | inr l ↦ rw (le-ltb s i l) (ap (λ z. leb z i) (omega arith))
  ]
  bounds false a i s f n = let k = n refl in elim (cases_lt s i) [
    | inl l ↦ rw (lt-ltb s i l) (grind (arith, nat_tests))
    | inr l ↦ rw (le-ltb s i l) (grind (arith, nat_tests))
  ]

  -- a vertex is on the right of v's slab exactly where it isn't left of v
  beyond : (u : Point) → Contains g.vertices u → (left_of u v ≡ true → slab_right g u ≤ slab_left g v) × (left_of u v ≡ false → slab_left g v < slab_right g u)
  beyond u U = (
    λ b. fewer (λ z. not (left_of u z)) (λ z. left_of z v) g.vertices (λ z Z i. left_of-after z u v (plane_g.proper z Z) (plane_g.proper u U) W (not-true _ i) b),
    λ b. fewer_than (λ z. left_of z v) (λ z. not (left_of u z)) g.vertices u U b (ap not (left_of-irrefl u))
        (λ z Z i. ap not (false_from_ne_true (left_of u z) (λ j. false≢true (sym b ∙ left_of-before u z v (plane_g.proper u U) (plane_g.proper z Z) W j (left_of-asym z v i))))),
  )

  from_slab : (u : Point) → Contains g.vertices u → (i : ℕ) → leb (slab_right h u) i ≡ leb (slab_right g u) (narrow g v i)
  unfolding narrow
  from_slab u U i = ap (λ n. leb n i) (right_is u) ∙ bounds (left_of u v) (slab_right g u) i (slab_left g v) (beyond u U).0 (beyond u U).1

  less_is : (a b : ℕ) → ltb a b ≡ not (leb b a)
  less_is a b = grind (arith, nat_tests)

  -- an edge spans the slabs that it spanned
  pub same_spans : (f : Edge) → Contains g.edges f → (i : ℕ) → spans h i f ≡ spans g (narrow g v i) f
  same_spans f F i =
      let a = from_slab f.low (plane_g.lower_in f F) i in
      let b : ltb i (slab_right h f.high) ≡ ltb (narrow g v i) (slab_right g f.high) = less_is i (slab_right h f.high) ∙ ap not (from_slab f.high (plane_g.upper_in f F) i) ∙ sym (less_is (narrow g v i) (slab_right g f.high)) in
      λ k. a k && b k

  -- where the slab after v's is one of h, the wall of v is new
  new_wall : (w : Point) → Contains h.vertices w → slab_right h w ≡ 1 + slab_left g v → (u : Point) → Contains g.vertices u → on_wall u v ≡ false
  new_wall w Wh q u U = false_from_ne_true _ (λ k.
      let o = on_wall_parts u v k in
      let T = plane.proper w Wh in
      let n = right_is w in
      elim (cases_Bool (left_of w v)) [
        | inl b ↦
            let c : cond {A = ℕ} (not (left_of w v)) 1 0 ≡ 0 = rw b refl in
            let l = fewer (λ z. not (left_of w z)) (λ z. left_of z v) g.vertices (λ z Z i. left_of-after z w v (plane_g.proper z Z) T W (not-true _ i) b) in
            absurd (omega arith)
        | inr b ↦
            let c : cond {A = ℕ} (not (left_of w v)) 1 0 ≡ 1 = rw b refl in
            let l = fewer_than (λ z. left_of z v) (λ z. not (left_of w z)) g.vertices u U o.0
            (ap not (false_from_ne_true (left_of w u) (λ i. false≢true (sym b ∙ left_of-before w u v T (plane_g.proper u U) W i o.1))))
            (λ z Z i. ap not (false_from_ne_true (left_of w z) (λ j. false≢true (sym b ∙ left_of-before w z v T (plane_g.proper z Z) W j (left_of-asym z v i))))) in
            absurd (omega arith)
      ])

  -- ---- two listed cells of h that are one in g
  data Near (i k : ℕ) : Type 0 where
    equal : i ≡ k → Near i k
    after : i ≡ slab_left g v → k ≡ 1 + slab_left g v → Near i k
    before : i ≡ 1 + slab_left g v → k ≡ slab_left g v → Near i k

  near : (i k : ℕ) → narrow g v i ≡ narrow g v k → Near i k
  unfolding narrow
  near i k q = elim (cases_lt (slab_left g v) i) [
    | inl a ↦ elim (cases_lt (slab_left g v) k) [
      | inl b ↦ let q' : i - 1 ≡ k - 1 = rw (lt-ltb (slab_left g v) i a, lt-ltb (slab_left g v) k b) at q in equal (omega arith)
      | inr b ↦ let q' : i - 1 ≡ k = rw (lt-ltb (slab_left g v) i a, le-ltb (slab_left g v) k b) at q in before (omega arith) (omega arith)
    ]
    | inr a ↦ elim (cases_lt (slab_left g v) k) [
      | inl b ↦ let q' : i ≡ k - 1 = rw (le-ltb (slab_left g v) i a, lt-ltb (slab_left g v) k b) at q in after (omega arith) (omega arith)
      | inr b ↦ let q' : i ≡ k = rw (le-ltb (slab_left g v) i a, le-ltb (slab_left g v) k b) at q in equal q'
    ]
  ]

  starts : (i : ℕ) → Member (0 ∷ map (slab_right h) (walls h)) i → i ≡ 1 + slab_left g v → (w : Point) × Contains h.vertices w × (slab_right h w ≡ 1 + slab_left g v)
  starts i (inl e) q = absurd (omega arith)
  starts i (inr k) q = let w = map_out (slab_right h) (walls h) i k in (w.0, wall_vertex h w.0 w.1, w.2 ∙ q)

  module _ (a : AreEdgesAlike g h) where
    -- the cell left of a point lies in the one that was left of it; likewise on the right
    pub left_widened : (t : Point) → HasWeight t → widened g v (left_cell h t) ≡ left_cell g t
    unfolding narrow
    left_widened t T = λ i. record { slab = narrow_left t T i; place = a.on_left t T i }

    pub right_widened : (t : Point) → HasWeight t → widened g v (right_cell h t) ≡ right_cell g t
    unfolding narrow
    right_widened t T = λ i. record { slab = narrow_right t T i; place = a.on_right t T i }

    -- ---- each face of h is in one of g
    wall_or_not : (t : Point) → HasWeight t → IsOnWall g t ⊎ (left_cell g t ≡ right_cell g t)
    wall_or_not t T = elim (cases_lt 0 (count_by (λ u. on_wall u t) g.vertices)) [
      | inl l ↦ let w = found (λ u. on_wall u t) g.vertices l in inl (record { proper = T; vertex = w.0; is_vertex = w.1; same = w.2 })
      | inr l ↦ inr (off_walls g t plane_g T (λ u U. false_from_ne_true _ (λ k. let p = passing (λ u. on_wall u t) g.vertices u U k in absurd (omega arith))))
    ]

    meets_down : (t : Point) → IsOnWall h t → IsOpenAbove h t → SameFace g (left_cell g t) (right_cell g t)
    meets_down t wall free = elim (wall_or_not t wall.proper) [
      | inl w ↦ right _ _ _ (here _) (across t w (a.open_down t wall.proper free))
      | inr q ↦ subst (SameFace g (left_cell g t)) q (here _)
    ]

    widened_meet : (t : Point) → IsOnWall h t → IsOpenAbove h t → SameFace g (widened g v (left_cell h t)) (widened g v (right_cell h t))
    widened_meet t wall free = subst (λ (z : SlabCell × SlabCell). SameFace g z.0 z.1) (λ i. (sym (left_widened t wall.proper) i, sym (right_widened t wall.proper) i)) (meets_down t wall free)

    pub face_down : (c d : SlabCell) → SameFace h c d → SameFace g (widened g v c) (widened g v d)
    face_down c d (here c') = here _
    face_down c d (right b x d' s (across t wall free)) = face_trans g _ _ _ (face_down b x s) (widened_meet t wall free)
    face_down c d (left b x d' s (across t wall free)) = face_trans g _ _ _ (face_down b x s) (face_sym g _ _ (widened_meet t wall free))

    -- ---- and each face of g in one of h, where the wall of v parts none
    module _ (one : IsOffWalls g v → IsOneFaceAcross h v) where
      module _ (off : IsOffWalls g v) where
        left_new : slab_left h v ≡ slab_left g v
        left_new = let a = left_is v in let b : cond {A = ℕ} (left_of v v) 1 0 ≡ 0 = rw (left_of-irrefl v) refl in omega arith

        right_new : slab_right h v ≡ 1 + slab_left g v
        right_new =
            let a = right_is v in
            let b : cond {A = ℕ} (not (left_of v v)) 1 0 ≡ 1 = rw (left_of-irrefl v) refl in
            let c : slab_right g v ≡ slab_left g v = sym (ap (λ (z : SlabCell). z.slab) (off_walls g v plane_g W off)) in
            omega arith

        beside_new : (j : ℕ) → j ≤ width h (slab_left g v) → SameFace h (record { slab = slab_left g v; place = j }) (record { slab = 1 + slab_left g v; place = j })
        beside_new j k =
            subst (λ (z : ℕ × ℕ). SameFace h (record { slab = z.0; place = j }) (record { slab = z.1; place = j })) (λ i. (left_new i, right_new i))
            (one off j (subst (λ z. j ≤ width h z) (sym left_new) k))

      abbrev at : ℕ → ℕ → SlabCell
      at i j = record { slab = i; place = j }

      pair : (i k j : ℕ) → Member (cells h) (at i j) → Member (cells h) (at k j) → Near i k → SameFace h (at i j) (at k j)
      pair i k j C D (equal q) = subst (λ z. SameFace h (at i j) (at z j)) q (here _)
      pair i k j C D (after p q) =
          let c = cell_out h (at i j) C in
          let w = starts k (cell_out h (at k j) D).slab q in
          let s = beside_new (new_wall w.0 w.1 w.2) j (subst (λ z. j ≤ width h z) p c.place) in
          subst (λ (z : ℕ × ℕ). SameFace h (at z.0 j) (at z.1 j)) (λ n. (sym p n, sym q n)) s
      pair i k j C D (before p q) =
          let c = cell_out h (at k j) D in
          let w = starts i (cell_out h (at i j) C).slab p in
          let s = beside_new (new_wall w.0 w.1 w.2) j (subst (λ z. j ≤ width h z) q c.place) in
          face_sym h _ _ (subst (λ (z : ℕ × ℕ). SameFace h (at z.0 j) (at z.1 j)) (λ n. (sym q n, sym p n)) s)

      fiber : (c d : SlabCell) → Member (cells h) c → Member (cells h) d → widened g v c ≡ widened g v d → SameFace h c d
      unfolding narrow
      fiber c d C D q =
          let p : c.place ≡ d.place = ap (λ (z : SlabCell). z.place) q in
          let s : narrow g v c.slab ≡ narrow g v d.slab = ap (λ (z : SlabCell). z.slab) q in
          let D' : Member (cells h) (at d.slab c.place) = subst (λ j. Member (cells h) (at d.slab j)) (sym p) D in
          subst (λ j. SameFace h c (at d.slab j)) p (pair c.slab d.slab c.place C D' (near c.slab d.slab s))

      wall_up : (t : Point) → IsOnWall g t → IsOnWall h t
      wall_up t w = record { proper = w.proper; vertex = w.vertex; is_vertex = up w.vertex w.is_vertex; same = w.same }

      pub face_up : (c d : SlabCell) → SameFace g c d → (x y : SlabCell) → Member (cells h) x → Member (cells h) y → widened g v x ≡ c → widened g v y ≡ d → SameFace h x y
      face_up c d (here c') x y X Y p q = fiber x y X Y (p ∙ sym q)
      face_up c d (right b c' d' s (across t wall free)) x y X Y p q =
          let T = wall.proper in
          let w = wall_up t wall in
          let L = cell_there h t plane T in
          let R = right_there h plane t w in
          let k = face_up b c' s x (left_cell h t) X L p (left_widened t T) in
          face_trans h _ _ _ k (face_trans h _ _ _ (right _ _ _ (here _) (across t w (a.open_up t T free))) (fiber (right_cell h t) y R Y (right_widened t T ∙ sym q)))
      face_up c d (left b c' d' s (across t wall free)) x y X Y p q =
          let T = wall.proper in
          let w = wall_up t wall in
          let L = cell_there h t plane T in
          let R = right_there h plane t w in
          let k = face_up b c' s x (right_cell h t) X R p (right_widened t T) in
          face_trans h _ _ _ k (face_trans h _ _ _ (left _ _ _ (here _) (across t w (a.open_up t T free))) (fiber (left_cell h t) y L Y (left_widened t T ∙ sym q)))
