-- How many outer cycles the face of any cell has: each cell is just below an edge, or in the unbounded face.
use Rattle.std.proofs.Common.{◌≡◌, ℕ, ◌+◌, ◌-◌, ◌<◌, ◌≤◌, Bool, true, false, cond, arith, refl, sym, ap, subst, ◌∙◌, ◌⊎◌, inl, inr, List, ◌∷◌, map, zero, suc}
use Rattle.std.specs.Prelude.{not, ◌&&◌, ◌==◌, ◌%◌}
use Rattle.std.specs.List.{Contains, count_by, sum_by, range_with_len}
use Rattle.std.proofs.lemmas.Bool.{false≢true, and_parts, and_from, false_from_ne_true, cases_lt, eqb-true, ltb-true, leb-true, le-leb, lt-ltb}
use Rattle.std.proofs.lemmas.Bool.Decides.{nat_tests}
use lib.Dec.{ltb, leb}
use Rattle.exact_plane.specs.Point.{Point}
use Rattle.plane_graphs.specs.Graph.{Edge}
use Rattle.slab_laws.specs.declared.slab_cell.SlabCell.{SlabCell}
use Rattle.slab_laws.specs.Skeleton.{Skeleton, left_of, below, same_edge, IsPlaneSkeleton}
use Rattle.slab_laws.specs.Slabs.{slab_right, spans, place, forward_cell, width, top_cell}
use Rattle.slab_laws.specs.Weights.{Even, weight_above}
use Rattle.slab_laws.specs.Meets.{SameFace}
use Rattle.slab_laws.specs.Darts.{darts, cell_by}
use Rattle.slab_laws.specs.Cycles.{dart_labels, darts_on, leads, odd, left_of_dart}
use Rattle.slab_laws.specs.Faces.{face_labels, face_of, same_cell, walls, cells, slab_cells}
use Rattle.slab_laws.specs.Subdivision.{cycle, cycles, subdivision}
use Rattle.slab_faces.specs.CycleLaws.{bounds}
use Rattle.slab_faces.specs.EveryFaceLaws.{OuterCyclesOfEveryFace}
use Rattle.slab_faces.proofs.Found.{found}
use Rattle.slab_faces.proofs.Sums.{each, sum_by-same, sum_by-plus, sum_by-none, fewer, fewer_than}
use Rattle.slab_faces.proofs.Shift.{sum_by-map}
use Rattle.slab_faces.proofs.Walls.{left_of-irrefl}
use Rattle.slab_faces.proofs.Cells.{right_few, spans_right}
use Rattle.slab_faces.proofs.Slabs.{IsSlab, place_less, place_same, same_edge_refl}
use Rattle.slab_faces.proofs.Nudge.{right_inside, is_slab_right}
use Rattle.slab_faces.proofs.Turns.{face_trans, face_sym, on_own_wall}
use Rattle.slab_faces.proofs.Outside.{unbounded, to_first}
use Rattle.slab_faces.proofs.Member.{Member, in_member, map_out, flat_out}
use Rattle.slab_faces.proofs.FacesLemmas.{cells_exact, one_label}
use Rattle.slab_faces.proofs.WallsLemmas.{wall_vertex}
use Rattle.slab_faces.proofs.OuterCycles.{outer_cycles_of_faces}
use Rattle.slab_faces.proofs.Searches.{range_below}

-- ---- what passes, or that nothing does
pub passing : {X : Type 0} (p : X → Bool) (xs : List X) (x : X) → Contains xs x → p x ≡ true → 0 < count_by p xs
passing p xs x in' h = let k = fewer_than (λ x. false) p xs x in' refl h (λ z _ n. absurd (false≢true n)) in omega arith

pub some_or_none : {X : Type 0} (p : X → Bool) (xs : List X) → ((x : X) × Contains xs x × (p x ≡ true)) ⊎ ((x : X) → Contains xs x → p x ≡ false)
some_or_none p xs =
    elim (cases_lt 0 (count_by p xs)) [
      | inl l ↦ inl (found p xs l)
      | inr l ↦ inr (λ x in'. false_from_ne_true _ (λ h. let k = passing p xs x in' h in absurd (omega arith)))
    ]

pub none_counted : {X : Type 0} (p : X → Bool) (xs : List X) → ((x : X) → Contains xs x → p x ≡ false) → count_by p xs ≡ 0
none_counted p xs h = sum_by-same (λ x. cond (p x) 1 0) (λ x. 0) xs (each (λ x. cond {A = ℕ} (p x) 1 0 ≡ 0) xs (λ x in'. ap (λ b. cond {A = ℕ} b 1 0) (h x in'))) ∙ sum_by-none xs

-- ---- each place of a slab but the topmost is that of an edge
pub place_step : (s : Bool) (p j : ℕ) → cond {A = ℕ} (s && ltb p (suc j)) 1 0 ≡ cond (s && ltb p j) 1 0 + cond (s && (p == j)) 1 0
place_step true p j = grind (arith, nat_tests)
place_step false p j = refl

module _ (g : Skeleton) (i : ℕ) (M : Point) (plane : IsPlaneSkeleton g) (slab : IsSlab g i M) where
  one_there : (j : ℕ) → count_by (λ e. spans g i e && (place g i e == j)) g.edges ≤ 1
  one_there j =
      let p : Edge → Bool = λ e. spans g i e && (place g i e == j) in
      elim (cases_lt 0 (count_by p g.edges)) [
        | inl l ↦
            let w = found p g.edges l in
            let a = and_parts (spans g i w.0) (place g i w.0 == j) w.2 in
            let k = fewer p (same_edge w.0) g.edges (λ f F h.
            let b = and_parts (spans g i f) (place g i f == j) h in
            subst (λ x. same_edge w.0 x ≡ true) (place_same g i M w.0 f plane slab w.1 F a.0 b.0 (eqb-true _ _ a.1 ∙ sym (eqb-true _ _ b.1))) (same_edge_refl w.0)) in
            let c = plane.edge_once w.0 w.1 in
            omega arith
        | inr l ↦ omega arith
      ]

  few : (j : ℕ) → count_by (λ e. spans g i e && ltb (place g i e) j) g.edges ≤ j
  few zero =
      let k = none_counted (λ e. spans g i e && ltb (place g i e) 0) g.edges (λ e E. false_from_ne_true _ (λ h.
      let a = and_parts (spans g i e) (ltb (place g i e) 0) h in
      let b = ltb-true _ _ a.1 in
      absurd (omega arith))) in
      omega arith
  few (suc j) =
      let now : Edge → ℕ = λ e. cond (spans g i e && ltb (place g i e) (suc j)) 1 0 in
      let old : Edge → ℕ = λ e. cond (spans g i e && ltb (place g i e) j) 1 0 in
      let own : Edge → ℕ = λ e. cond (spans g i e && (place g i e == j)) 1 0 in
      let a : sum_by now g.edges ≡ sum_by (λ e. old e + own e) g.edges = sum_by-same now (λ e. old e + own e) g.edges (each (λ e. now e ≡ old e + own e) g.edges (λ e E. place_step (spans g i e) (place g i e) j)) in
      let b = sum_by-plus old own g.edges in
      let c = one_there j in
      let d = few j in
      omega arith

  -- of more than j edges one has place j or a greater one
  reaching : (p : Edge → Bool) (j : ℕ) → ((e : Edge) → p e ≡ true → spans g i e ≡ true) → j < count_by p g.edges → (e : Edge) × Contains g.edges e × (p e ≡ true) × (j ≤ place g i e)
  reaching p j s h =
      elim (some_or_none (λ e. p e && leb j (place g i e)) g.edges) [
        | inl w ↦ let a = and_parts (p w.0) (leb j (place g i w.0)) w.2 in (w.0, w.1, a.0, leb-true _ _ a.1)
        | inr none ↦
            let k = fewer p (λ e. spans g i e && ltb (place g i e) j) g.edges (λ e E h.
            elim (cases_lt (place g i e) j) [
              | inl a ↦ and_from _ _ (s e h) (lt-ltb _ _ a)
              | inr a ↦ absurd (false≢true (sym (none e E) ∙ and_from _ _ h (le-leb _ _ a)))
            ]) in
            let l = few j in
            absurd (omega arith)
      ]

  abbrev pub HasPlace : ℕ → Type 0
  HasPlace j = (e : Edge) × Contains g.edges e × (spans g i e ≡ true) × (place g i e ≡ j)

  down_step : (j : ℕ) (e : Edge) → Contains g.edges e → spans g i e ≡ true → j ≤ place g i e → ((d : Edge) → Contains g.edges d → spans g i d ≡ true → j ≤ place g i d → place g i d < place g i e → HasPlace j) → HasPlace j
  down_step j e E se l on =
      elim (cases_lt j (place g i e)) [
        | inl a ↦
            let w = reaching (λ f. spans g i f && below f e) j (λ f h. (and_parts (spans g i f) (below f e) h).0) a in
            let b = and_parts (spans g i w.0) (below w.0 e) w.2 in
            on w.0 w.1 b.0 w.3 (place_less g i M w.0 e plane slab w.1 E b.0 se b.1)
        | inr a ↦ (e, E, se, omega arith)
      ]

  down : (n j : ℕ) (e : Edge) → Contains g.edges e → spans g i e ≡ true → j ≤ place g i e → place g i e ≤ n → HasPlace j
  down zero j e E se l k = down_step j e E se l (λ d D sd a b. absurd (omega arith))
  down (suc n) j e E se l k = down_step j e E se l (λ d D sd a b. down n j d D sd a (omega arith))

  pub edge_at : (j : ℕ) → j < width g i → HasPlace j
  unfolding width
  edge_at j h = let w = reaching (spans g i) j (λ e k. k) h in down (place g i w.0) j w.0 w.1 w.2 w.3 (omega arith)

-- ---- the count for the face of a cell
abbrev IsCounted : Skeleton → SlabCell → Type 0
IsCounted g c = Even (count_by (bounds (face_of (face_labels g) c)) (subdivision g).cycles + 1 + cond (same_cell (face_of (face_labels g) (top_cell g 0)) (face_of (face_labels g) c)) 1 0)

same_count : (g : Skeleton) (c d : SlabCell) → IsPlaneSkeleton g → SameFace g c d → IsCounted g d → IsCounted g c
same_count g c d plane h k = subst (λ f. Even (count_by (bounds f) (subdivision g).cycles + 1 + cond (same_cell (face_of (face_labels g) (top_cell g 0)) f) 1 0)) (sym (one_label g c d plane h)) k

beside_edge : (g : Skeleton) (e : Edge) (fw : Bool) → IsPlaneSkeleton g → Contains g.edges e → left_of e.low e.high ≡ true → IsCounted g (cell_by g e true fw)
beside_edge g e fw plane E long = subst (λ b. IsCounted g (cell_by g e b fw)) long (outer_cycles_of_faces g (record { edge = e; forward = fw }) plane E long)

-- ---- below the topmost cell
under_edge : (g : Skeleton) (w : Point) (j : ℕ) → IsPlaneSkeleton g → Contains g.vertices w → j < width g (slab_right g w) → IsCounted g (record { slab = slab_right g w; place = j })
under_edge g w j plane W h =
    let i = slab_right g w in
    let e = edge_at g i (right_inside g w) plane (is_slab_right g w plane (on_own_wall g w plane W)) j h in
    let t = to_first g e.0 w plane W e.1 e.2 in
    let k : IsCounted g (record { slab = i; place = place g i e.0 }) = same_count g _ _ plane (face_sym g _ _ t.2) (beside_edge g e.0 false plane e.1 t.0) in
    subst (λ n. IsCounted g (record { slab = i; place = n })) e.3 k

-- ---- the unbounded face
beside_top : (g : Skeleton) (e : Edge) → IsPlaneSkeleton g → Contains g.edges e → left_of e.low e.high ≡ true → IsCounted g (top_cell g 0)
unfolding width top_cell
beside_top g e plane E long =
    let w = e.low in
    let W = plane.lower_in e E in
    let i = slab_right g w in
    let wall = on_own_wall g w plane W in
    let se : spans g i e ≡ true = spans_right g w e plane wall E ∙ and_from _ _ (ap not (left_of-irrefl w)) long in
    let some : 0 < width g i = passing (spans g i) g.edges e E se in
    let d = edge_at g i (right_inside g w) plane (is_slab_right g w plane wall) (width g i - 1) (omega arith) in
    let t = to_first g d.0 w plane W d.1 d.2 in
    let last : place g i d.0 + 1 ≡ width g i = let p = d.3 in omega arith in
    let k : SameFace g (forward_cell g d.0) (record { slab = i; place = width g i }) = subst (λ n. SameFace g (forward_cell g d.0) (record { slab = i; place = n })) last t.1 in
    same_count g _ (forward_cell g d.0) plane (face_trans g _ _ _ (unbounded g w plane W) (face_sym g _ _ k)) (beside_edge g d.0 true plane d.1 t.0)

-- where all edges are vertical, none is above a cell
no_weight : (g : Skeleton) (m : Edge → ℕ) (i j : ℕ) → IsPlaneSkeleton g → ((e : Edge) → Contains g.edges e → left_of e.low e.high ≡ false) → weight_above g m i j ≡ 0
no_weight g m i j plane none =
    sum_by-same (λ e. cond (spans g i e && leb j (place g i e)) (m e) 0) (λ e. 0) g.edges (each (λ e. cond (spans g i e && leb j (place g i e)) (m e) 0 ≡ 0) g.edges (λ e E.
    let p = plane.proper_edge e E in
    let k = right_few g e.high e.low plane p.1 p.0 (none e E) in
    let s : spans g i e ≡ false = false_from_ne_true _ (λ h.
    let a = and_parts (leb (slab_right g e.low) i) (ltb i (slab_right g e.high)) h in
    let b = leb-true _ _ a.0 in
    let c = ltb-true _ _ a.1 in
    absurd (omega arith)) in
    ap (λ b. cond (b && leb j (place g i e)) (m e) 0) s)) ∙ sum_by-none g.edges

no_outer : (g : Skeleton) (f : SlabCell) → IsPlaneSkeleton g → ((e : Edge) → Contains g.edges e → left_of e.low e.high ≡ false) → count_by (bounds f) (subdivision g).cycles ≡ 0
unfolding subdivision cycles cycle odd
no_outer g f plane none =
    let orbits = dart_labels (darts g) in
    sum_by-map (λ x. cond (bounds f x) 1 0) (cycle g (face_labels g) (darts g) orbits) (leads (darts g) orbits)
    ∙ none_counted (λ d. odd g orbits d (left_of_dart g d) && same_cell (face_of (face_labels g) (left_of_dart g d)) f) (leads (darts g) orbits) (λ d _.
    ap (λ n. (n % 2 == 1) && same_cell (face_of (face_labels g) (left_of_dart g d)) f) (no_weight g (darts_on orbits d) (left_of_dart g d).slab (left_of_dart g d).place plane none))

counted_top : (g : Skeleton) → IsPlaneSkeleton g → IsCounted g (top_cell g 0)
counted_top g plane =
    elim (some_or_none (λ e. left_of e.low e.high) g.edges) [
      | inl w ↦ beside_top g w.0 plane w.1 w.2
      | inr none ↦
          let f = face_of (face_labels g) (top_cell g 0) in
          let a = no_outer g f plane none in
          let b : cond {A = ℕ} (same_cell f f) 1 0 ≡ 1 = rw (cells_exact.itself f) refl in
          omega arith
    ]

-- ---- the cells of the first slab, and of those on the right of vertices
pub first_width : (g : Skeleton) → IsPlaneSkeleton g → width g 0 ≡ 0
unfolding width
first_width g plane = none_counted (spans g 0) g.edges (λ e E. false_from_ne_true _ (λ h.
    let a = and_parts (leb (slab_right g e.low) 0) (ltb 0 (slab_right g e.high)) h in
    let b = leb-true _ _ a.0 in
    let c = passing (λ v. not (left_of e.low v)) g.vertices e.low (plane.lower_in e E) (ap not (left_of-irrefl e.low)) in
    absurd (omega arith)))

in_slab : (g : Skeleton) (w : Point) (j : ℕ) → IsPlaneSkeleton g → Contains g.vertices w → j ≤ width g (slab_right g w) → IsCounted g (record { slab = slab_right g w; place = j })
unfolding top_cell
in_slab g w j plane W h =
    elim (cases_lt j (width g (slab_right g w))) [
      | inl l ↦ under_edge g w j plane W l
      | inr l ↦
          let e : width g (slab_right g w) ≡ j = omega arith in
          subst (λ n. IsCounted g (record { slab = slab_right g w; place = n })) e (same_count g _ _ plane (face_sym g _ _ (unbounded g w plane W)) (counted_top g plane))
    ]

in_first : (g : Skeleton) (j : ℕ) → IsPlaneSkeleton g → j ≤ width g 0 → IsCounted g (record { slab = 0; place = j })
unfolding top_cell
in_first g j plane h =
    let z = first_width g plane in
    let e : width g 0 ≡ j = omega arith in
    subst (λ n. IsCounted g (record { slab = 0; place = n })) e (counted_top g plane)

any_slab : (g : Skeleton) (i j : ℕ) → IsPlaneSkeleton g → Member (0 ∷ map (slab_right g) (walls g)) i → j ≤ width g i → IsCounted g (record { slab = i; place = j })
any_slab g i j plane (inl e) h = subst (λ n. j ≤ width g n → IsCounted g (record { slab = n; place = j })) e (in_first g j plane) h
any_slab g i j plane (inr m) h =
    let w = map_out (slab_right g) (walls g) i m in
    subst (λ n. j ≤ width g n → IsCounted g (record { slab = n; place = j })) w.2 (in_slab g w.0 j plane (wall_vertex g w.0 w.1)) h

pub outer_cycles_of_every_face : OuterCyclesOfEveryFace
unfolding cells slab_cells
outer_cycles_of_every_face g c plane in' =
    let r = flat_out (slab_cells g) (0 ∷ map (slab_right g) (walls g)) c (in_member (cells g) c in') in
    let i = r.0 in
    let j = map_out (λ j. record { slab = i; place = j }) (range_with_len 0 (suc (width g i))) c r.2 in
    let l = range_below 0 (suc (width g i)) j.0 j.1 in
    subst (IsCounted g) j.2 (any_slab g i j.0 plane r.1 (omega arith))
