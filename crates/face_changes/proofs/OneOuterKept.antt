-- That each bounded face has one outer cycle, and the unbounded one none, is kept by one more edge, in each of its cases.
-- g is without the edge e, h with it; L and M give the least dart of a cycle in g and in h; x and y are the darts of e, a and b the darts that they come after.
use Rattle.std.proofs.Common.{◌≡◌, ℕ, ◌+◌, arith, refl, sym, ap, ◌∙◌, subst, ◌⊎◌, inl, inr, List}
use Rattle.std.specs.Prelude.{◌%◌}
use Rattle.std.specs.List.{Contains}
use Rattle.std.proofs.lemmas.Bool.{cases_lt}
use Rattle.plane_graphs.specs.Graph.{Edge}
use Rattle.slab_laws.specs.declared.slab_cell.SlabCell.{SlabCell}
use Rattle.slab_laws.specs.Skeleton.{Skeleton, IsPlaneSkeleton}
use Rattle.slab_laws.specs.Weights.{Even}
use Rattle.slab_laws.specs.Darts.{Dart, darts}
use Rattle.slab_laws.specs.Meets.{SameFace}
use Rattle.slab_laws.specs.Changes.{merged}
use Rattle.slab_laws.specs.Rotation.{twin}
use Rattle.slab_laws.specs.Cycles.{left_of_dart}
use Rattle.slab_laws.specs.Faces.{cells}
use Rattle.slab_laws.specs.Rows.{least_dart_of}
use Rattle.slab_laws.specs.Subdivision.{first_cell}
use Rattle.slab_faces.proofs.Turns.{face_trans, face_sym}
use Rattle.slab_faces.proofs.Member.{member_in}
use Rattle.slab_faces.proofs.CyclesLemmas.{cycle_parity}
use Rattle.sound_changes.specs.NextLaws.{HasEdgeMore, IsDartOf}
use Rattle.face_changes.specs.Orbits.{IsOrbitSplit, AreOrbitsUnited}
use Rattle.face_changes.proofs.EdgeOrder.{finer}
use Rattle.face_changes.proofs.LinkedCycles.{up, dart_there, there, either}
use Rattle.face_changes.proofs.CycleParities.{weight_of, choose, whole_even, rest_even}
use Rattle.slab_faces.proofs.ListedCells.{dart_cell}
use Rattle.face_changes.proofs.OuterCycles.{Odd, own_weight, cycle_face, one_kind, outer_there}
use Rattle.face_changes.proofs.PartedCycle.{swapped, old_left, real_left, beside, first_stays, two_faces, kinds, other_kind}
use Rattle.sound_views.proofs.RoundTurned.{twin_twice}

-- two outer cycles of one face are one, and the unbounded face has none
pub record IsOuterOnce (g : Skeleton) : Type 0 where
  pub once : (y z : Dart) → IsDartOf g y → IsDartOf g z → SameFace g (left_of_dart g y) (left_of_dart g z) → Odd (own_weight g y) → Odd (own_weight g z) → least_dart_of g y ≡ least_dart_of g z
  pub none : (y : Dart) → IsDartOf g y → SameFace g (left_of_dart g y) first_cell → Odd (own_weight g y) → ⊥

pub parity : (n : ℕ) → Even n ⊎ Odd n
parity n = elim (cases_lt 0 (n % 2)) [ inl l ↦ inr (omega arith) | inr l ↦ inl (omega arith) ]

module _ (g : Skeleton) (hs : List Edge) (e : Edge) (plane : IsPlaneSkeleton (record { vertices = g.vertices; edges = hs })) (plane_g : IsPlaneSkeleton g) (more : HasEdgeMore g (record { vertices = g.vertices; edges = hs }) e) (o : IsOuterOnce g) where
  abbrev h : Skeleton
  h = record { vertices = g.vertices; edges = hs }

  abbrev L : Dart → Dart
  L = least_dart_of g

  abbrev M : Dart → Dart
  M = least_dart_of (record { vertices = g.vertices; edges = hs })

  abbrev left_g : Dart → SlabCell
  left_g = left_of_dart g

  abbrev left_h : Dart → SlabCell
  left_h = left_of_dart (record { vertices = g.vertices; edges = hs })

  -- the faces of two old darts, with e and without
  pub down : (y z : Dart) → IsDartOf g y → IsDartOf g z → SameFace h (left_h y) (left_h z) → SameFace g (left_g y) (left_g z)
  down y z Y Z k = subst (SameFace g (left_g y)) (old_left g hs e plane plane_g more z Z) (beside g hs e plane plane_g more y (left_h z) Y k)

  -- what is in the unbounded face was in it
  pub to_first : (c : SlabCell) → SameFace h c first_cell → SameFace g (merged g e c) first_cell
  to_first c k = subst (SameFace g (merged g e c)) (first_stays g hs e plane plane_g more) (finer g hs e plane plane_g more c first_cell k)

  down_first : (y : Dart) → IsDartOf g y → SameFace h (left_h y) first_cell → SameFace g (left_g y) first_cell
  down_first y Y k = subst (λ c. SameFace g c first_cell) (old_left g hs e plane plane_g more y Y) (to_first (left_h y) k)

  listed : (y : Dart) → IsDartOf h y → Contains (cells h) (left_h y)
  listed y Y = member_in (cells h) (left_h y) (dart_cell h plane y.edge y.forward Y)

  -- ---- within one cycle
  module _ (x y a : Dart) (q : x.edge ≡ e) (t : y ≡ twin x) (s : IsOrbitSplit L M (darts g) x y a) (A : IsDartOf g a) (near_x : SameFace g (merged g e (left_h x)) (left_g a)) (near_y : SameFace g (merged g e (left_h y)) (left_g a)) where
    X : IsDartOf h x
    X = there g h e plane_g plane more x q

    Y : IsDartOf h y
    Y = subst (IsDartOf h) (sym t) X

    -- a dart is on one of both halves, or on a cycle that was there
    pub data Place (d : Dart) : Type 0 where
      on_x : M d ≡ M x → Place d
      on_y : M d ≡ M y → Place d
      off : IsDartOf g d → (L d ≡ L a → ⊥) → Place d

    pub place_of : (d : Dart) → IsDartOf h d → Place d
    place_of d D = elim ((more.edges d.edge).0 D) [
      | inl k ↦ elim (choose (L d) (L a)) [
        | inl r ↦ elim (s.within d (dart_there g d k) r) [ inl w ↦ on_x w | inr w ↦ on_y w ]
        | inr r ↦ off k r
      ]
      | inr k ↦ elim (either g h e plane_g plane more x d q k) [ inl w ↦ on_x (ap M w) | inr w ↦ on_y (ap M (w ∙ sym t)) ]
    ]

    parted : SameFace h (left_h x) (left_h y) → ⊥
    parted = two_faces g hs e plane plane_g more x y a q t s A near_x near_y

    sum : Even (own_weight h x + own_weight h y + own_weight g a + 1)
    sum = kinds g hs e plane plane_g more x y a q t s A near_x near_y

    kept_kind : (z : Dart) → IsDartOf g z → (L z ≡ L a → ⊥) → Even (own_weight h z + own_weight g z)
    kept_kind = other_kind g hs e plane plane_g more x y a q t s A near_x near_y

    on_one : (d z : Dart) → M d ≡ M z → Odd (own_weight h d) → Odd (own_weight h z)
    on_one d z k w = let p = one_kind h plane d z k in omega arith

    -- no other outer cycle is in the face of x where x's half is outer
    half : (z : Dart) → IsDartOf g z → (L z ≡ L a → ⊥) → SameFace h (left_h z) (left_h x) → Odd (own_weight h z) → Odd (own_weight h x) → ⊥
    half z Z ne k oz ox =
        let kz = kept_kind z Z ne in
        let gz : Odd (own_weight g z) = omega arith in
        let zf : SameFace g (left_g z) (left_g a) = face_trans g _ _ _ (beside g hs e plane plane_g more z (left_h x) Z k) near_x in
        elim (parity (own_weight g a)) [
          | inr oa ↦ ne (o.once z a Z A zf gz oa)
          | inl ea ↦
              let ey : Even (own_weight h y) = let w = sum in omega arith in
              elim (outer_there h plane (left_h y) (listed y Y)) [
                | inl f ↦ o.none z Z (face_trans g _ _ _ zf (face_trans g _ _ _ (face_sym g _ _ near_y) (to_first (left_h y) f))) gz
                | inr w ↦ elim (place_of w.0 w.1) [
                  | on_x u ↦ parted (face_trans h _ _ _ (face_sym h _ _ (cycle_face h plane w.0 x u)) w.2)
                  | on_y u ↦ let p = on_one w.0 y u w.3 in absurd (omega arith)
                  | off W nw ↦
                      let kw = kept_kind w.0 W nw in
                      let ow = w.3 in
                      let gw : Odd (own_weight g w.0) = omega arith in
                      let wf = face_trans g _ _ _ (beside g hs e plane plane_g more w.0 (left_h y) W w.2) near_y in
                      let lw = o.once w.0 z W Z (face_trans g _ _ _ wf (face_sym g _ _ zf)) gw gz in
                      let mw = s.still w.0 z (dart_there g w.0 W) (dart_there g z Z) nw lw in
                      parted (face_trans h _ _ _ (face_sym h _ _ k) (face_trans h _ _ _ (face_sym h _ _ (cycle_face h plane w.0 z mw)) w.2))
                ]
              ]
        ]

    -- x's half isn't outer in the unbounded face
    half_first : SameFace h (left_h x) first_cell → Odd (own_weight h x) → ⊥
    half_first k ox =
        let af : SameFace g (left_g a) first_cell = face_trans g _ _ _ (face_sym g _ _ near_x) (to_first (left_h x) k) in
        elim (parity (own_weight g a)) [
          | inr oa ↦ o.none a A af oa
          | inl ea ↦
              let ey : Even (own_weight h y) = let w = sum in omega arith in
              elim (outer_there h plane (left_h y) (listed y Y)) [
                | inl f ↦ parted (face_trans h _ _ _ k (face_sym h _ _ f))
                | inr w ↦ elim (place_of w.0 w.1) [
                  | on_x u ↦ parted (face_trans h _ _ _ (face_sym h _ _ (cycle_face h plane w.0 x u)) w.2)
                  | on_y u ↦ let p = on_one w.0 y u w.3 in absurd (omega arith)
                  | off W nw ↦
                      let kw = kept_kind w.0 W nw in
                      let ow = w.3 in
                      let gw : Odd (own_weight g w.0) = omega arith in
                      o.none w.0 W (face_trans g _ _ _ (beside g hs e plane plane_g more w.0 (left_h y) W w.2) (face_trans g _ _ _ near_y af)) gw
                ]
              ]
        ]

    -- where the old cycle was outer, x's half is
    pub half_outer : Odd (own_weight g a) → Odd (own_weight h x)
    half_outer oa = elim (parity (own_weight h x)) [
      | inr ox ↦ ox
      | inl ex ↦ elim (outer_there h plane (left_h x) (listed x X)) [
        | inl f ↦ absurd (o.none a A (face_trans g _ _ _ (face_sym g _ _ near_x) (to_first (left_h x) f)) oa)
        | inr w ↦ elim (place_of w.0 w.1) [
          | on_x u ↦ let p = on_one w.0 x u w.3 in absurd (omega arith)
          | on_y u ↦ absurd (parted (face_trans h _ _ _ (face_sym h _ _ w.2) (cycle_face h plane w.0 y u)))
          | off W nw ↦
              let kw = kept_kind w.0 W nw in
              let ow = w.3 in
              let gw : Odd (own_weight g w.0) = omega arith in
              absurd (nw (o.once w.0 a W A (face_trans g _ _ _ (beside g hs e plane plane_g more w.0 (left_h x) W w.2) near_x) gw oa))
        ]
      ]
    ]

    pub record IsHalf : Type 0 where
      pub apart : (z : Dart) → IsDartOf g z → (L z ≡ L a → ⊥) → SameFace h (left_h z) (left_h x) → Odd (own_weight h z) → Odd (own_weight h x) → ⊥
      pub bounded : SameFace h (left_h x) first_cell → Odd (own_weight h x) → ⊥
      pub outer : Odd (own_weight g a) → Odd (own_weight h x)

    -- what holds of one half
    pub is_half : IsHalf
    is_half = record { apart = half; bounded = half_first; outer = half_outer }

  -- both halves taken together
  module _ (x y a : Dart) (q : x.edge ≡ e) (t : y ≡ twin x) (s : IsOrbitSplit L M (darts g) x y a) (A : IsDartOf g a) (near_x : SameFace g (merged g e (left_h x)) (left_g a)) (near_y : SameFace g (merged g e (left_h y)) (left_g a)) where
    q' : y.edge ≡ e
    q' = ap (λ (z : Dart). z.edge) t ∙ q

    t' : x ≡ twin y
    t' = sym (twin_twice x) ∙ ap twin (sym t)

    of_x : IsHalf x y a q t s A near_x near_y
    of_x = is_half x y a q t s A near_x near_y

    of_y : IsHalf y x a q' t' (swapped L M (darts g) x y a s) A near_y near_x
    of_y = is_half y x a q' t' (swapped L M (darts g) x y a s) A near_y near_x

    apart : SameFace h (left_h x) (left_h y) → ⊥
    apart = two_faces g hs e plane plane_g more x y a q t s A near_x near_y

    meet : (d z u v : Dart) → M d ≡ M u → M z ≡ M v → SameFace h (left_h d) (left_h z) → SameFace h (left_h u) (left_h v)
    meet d z u v k l w = face_trans h _ _ _ (face_sym h _ _ (cycle_face h plane d u k)) (face_trans h _ _ _ w (cycle_face h plane z v l))

    odd_on : (d z : Dart) → M d ≡ M z → Odd (own_weight h d) → Odd (own_weight h z)
    odd_on d z k w = let p = one_kind h plane d z k in omega arith

    kept_odd : (z : Dart) → IsDartOf g z → (L z ≡ L a → ⊥) → Odd (own_weight h z) → Odd (own_weight g z)
    kept_odd z Z ne w = let p = other_kind g hs e plane plane_g more x y a q t s A near_x near_y z Z ne in omega arith

    abbrev PlaceOf : Dart → Type 0
    PlaceOf = Place x y a q t s A near_x near_y

    once_at : (d z : Dart) → PlaceOf d → PlaceOf z → SameFace h (left_h d) (left_h z) → Odd (own_weight h d) → Odd (own_weight h z) → M d ≡ M z
    once_at d z (on_x u) (on_x v) k od oz = u ∙ sym v
    once_at d z (on_x u) (on_y v) k od oz = absurd (apart (meet d z x y u v k))
    once_at d z (on_x u) (off Z nz) k od oz = absurd (of_x.apart z Z nz (face_trans h _ _ _ (face_sym h _ _ k) (cycle_face h plane d x u)) oz (odd_on d x u od))
    once_at d z (on_y u) (on_x v) k od oz = absurd (apart (face_sym h _ _ (meet d z y x u v k)))
    once_at d z (on_y u) (on_y v) k od oz = u ∙ sym v
    once_at d z (on_y u) (off Z nz) k od oz = absurd (of_y.apart z Z nz (face_trans h _ _ _ (face_sym h _ _ k) (cycle_face h plane d y u)) oz (odd_on d y u od))
    once_at d z (off D nd) (on_x v) k od oz = absurd (of_x.apart d D nd (face_trans h _ _ _ k (cycle_face h plane z x v)) od (odd_on z x v oz))
    once_at d z (off D nd) (on_y v) k od oz = absurd (of_y.apart d D nd (face_trans h _ _ _ k (cycle_face h plane z y v)) od (odd_on z y v oz))
    once_at d z (off D nd) (off Z nz) k od oz = s.still d z (dart_there g d D) (dart_there g z Z) nd (o.once d z D Z (down d z D Z k) (kept_odd d D nd od) (kept_odd z Z nz oz))

    none_at : (d : Dart) → PlaceOf d → SameFace h (left_h d) first_cell → Odd (own_weight h d) → ⊥
    none_at d (on_x u) k od = of_x.bounded (face_trans h _ _ _ (face_sym h _ _ (cycle_face h plane d x u)) k) (odd_on d x u od)
    none_at d (on_y u) k od = of_y.bounded (face_trans h _ _ _ (face_sym h _ _ (cycle_face h plane d y u)) k) (odd_on d y u od)
    none_at d (off D nd) k od = o.none d D (down_first d D k) (kept_odd d D nd od)

    -- a parted cycle
    pub split_once : IsOuterOnce h
    split_once = record {
      once = λ d z D Z k od oz. once_at d z (place_of x y a q t s A near_x near_y d D) (place_of x y a q t s A near_x near_y z Z) k od oz;
      none = λ d D k od. none_at d (place_of x y a q t s A near_x near_y d D) k od;
    }

    -- of an outer cycle both halves are outer, of an inner one exactly one is
    pub both_outer : Odd (own_weight g a) → Odd (own_weight h x) × Odd (own_weight h y)
    both_outer k = (of_x.outer k, of_y.outer k)

    pub one_outer : Even (own_weight g a) → Odd (own_weight h x + own_weight h y)
    one_outer k = let w = kinds g hs e plane plane_g more x y a q t s A near_x near_y in omega arith

  -- ---- the cycles stay as they are, but for new darts
  module _ (kind : (y : Dart) → IsDartOf g y → Even (own_weight h y + own_weight g y)) (still : (y z : Dart) → IsDartOf g y → IsDartOf g z → L y ≡ L z → M y ≡ M z)
      (cover : (d : Dart) → IsDartOf h d → ((r : Dart) × IsDartOf g r × (M d ≡ M r)) ⊎ Even (own_weight h d)) where
    pub kept_once : IsOuterOnce h
    kept_once = record {
      once = λ d z D Z k od oz. elim (cover d D) [
        | inr n ↦ absurd (omega arith)
        | inl r ↦ elim (cover z Z) [
          | inr n ↦ absurd (omega arith)
          | inl w ↦
              let pr = one_kind h plane d r.0 r.2 in
              let pw = one_kind h plane z w.0 w.2 in
              let kr = kind r.0 r.1 in
              let kw = kind w.0 w.1 in
              r.2 ∙ still r.0 w.0 r.1 w.1 (o.once r.0 w.0 r.1 w.1 (down r.0 w.0 r.1 w.1 (face_trans h _ _ _ (face_sym h _ _ (cycle_face h plane d r.0 r.2)) (face_trans h _ _ _ k (cycle_face h plane z w.0 w.2)))) (omega arith) (omega arith)) ∙ sym w.2
        ]
      ];
      none = λ d D k od. elim (cover d D) [
        | inr n ↦ absurd (omega arith)
        | inl r ↦
            let pr = one_kind h plane d r.0 r.2 in
            let kr = kind r.0 r.1 in
            o.none r.0 r.1 (down_first r.0 r.1 (face_trans h _ _ _ (face_sym h _ _ (cycle_face h plane d r.0 r.2)) k)) (omega arith)
      ];
    }

  -- ---- two cycles become one
  module _ (x a b : Dart) (q : x.edge ≡ e) (two : L a ≡ L b → ⊥) (s : AreOrbitsUnited L M (darts g) x (twin x) a b) (A : IsDartOf g a) (B : IsDartOf g b) (near_a : SameFace g (merged g e (left_h x)) (left_g a)) (near_b : SameFace g (merged g e (left_h x)) (left_g b)) where
    -- an old dart of the one cycle has as its kind that of the one old cycle or the other
    pub sum_kind : (y : Dart) → IsDartOf g y → M y ≡ M x → Even (own_weight h y + own_weight g a + own_weight g b)
    sum_kind y Y k =
        let c = left_h y in
        let p = whole_even g hs e plane plane_g more x q a b two s c (real_left g hs e plane plane_g more y (up g h e plane_g plane more y Y)) in
        let r : weight_of h (M x) c ≡ own_weight h y = ap (λ l. weight_of h l c) (sym k) in
        let f : SameFace g (merged g e c) (merged g e (left_h x)) = finer g hs e plane plane_g more c (left_h x) (cycle_face h plane y x k) in
        let u = cycle_parity g (L a) (merged g e c) (left_g a) plane_g (face_trans g _ _ _ f near_a) in
        let v = cycle_parity g (L b) (merged g e c) (left_g b) plane_g (face_trans g _ _ _ f near_b) in
        omega arith

    -- a dart of no joined cycle has the kind that it had
    pub rest_kind : (y : Dart) → IsDartOf g y → (M y ≡ M x → ⊥) → Even (own_weight h y + own_weight g y)
    rest_kind y Y ne =
        let p = rest_even g hs e plane plane_g more x q a b two s y Y ne (left_h y) (real_left g hs e plane plane_g more y (up g h e plane_g plane more y Y)) in
        let k : weight_of g (L y) (merged g e (left_h y)) ≡ own_weight g y = ap (weight_of g (L y)) (old_left g hs e plane plane_g more y Y) in
        omega arith

    -- of the two at most one was outer
    pub not_both : Odd (own_weight g a) → Odd (own_weight g b) → ⊥
    not_both u v = two (o.once a b A B (face_trans g _ _ _ (face_sym g _ _ near_a) near_b) u v)

    record OuterPart : Type 0 where
      dart : Dart
      is_old : IsDartOf g dart
      near : SameFace g (merged g e (left_h x)) (left_g dart)
      outer : Odd (own_weight g dart)
      joined : M dart ≡ M x

    outer_part : (y : Dart) → IsDartOf g y → M y ≡ M x → Odd (own_weight h y) → OuterPart
    outer_part y Y k oy =
        let w = sum_kind y Y k in
        elim (parity (own_weight g a)) [
          | inr u ↦ record { dart = a; is_old = A; near = near_a; outer = u; joined = s.within a (dart_there g a A) (inl refl) }
          | inl u ↦ record { dart = b; is_old = B; near = near_b; outer = omega arith; joined = s.within b (dart_there g b B) (inr refl) }
        ]

    rep : (d : Dart) → IsDartOf h d → (r : Dart) × IsDartOf g r × (M d ≡ M r)
    rep d D = elim ((more.edges d.edge).0 D) [
      | inl k ↦ (d, k, refl)
      | inr k ↦ (a, A, elim (either g h e plane_g plane more x d q k) [ inl w ↦ ap M w | inr w ↦ ap M w ∙ sym s.one ] ∙ sym (s.within a (dart_there g a A) (inl refl)))
    ]

    -- an outer cycle beside the one that both have become
    other : (y z : Dart) → IsDartOf g y → IsDartOf g z → M y ≡ M x → (M z ≡ M x → ⊥) → SameFace h (left_h z) (left_h y) → Odd (own_weight h y) → Odd (own_weight h z) → ⊥
    other y z Y Z k ne w oy oz =
        let c = outer_part y Y k oy in
        let kz = rest_kind z Z ne in
        let f : SameFace g (left_g z) (left_g c.dart) = face_trans g _ _ _ (beside g hs e plane plane_g more z (left_h x) Z (face_trans h _ _ _ w (cycle_face h plane y x k))) c.near in
        let l = o.once z c.dart Z c.is_old f (omega arith) c.outer in
        ne (s.still z c.dart (dart_there g z Z) (dart_there g c.dart c.is_old) l ∙ c.joined)

    old_once : (y z : Dart) → IsDartOf g y → IsDartOf g z → SameFace h (left_h y) (left_h z) → Odd (own_weight h y) → Odd (own_weight h z) → M y ≡ M z
    old_once y z Y Z k oy oz = elim (choose (M y) (M x)) [
      | inl u ↦ elim (choose (M z) (M x)) [
        | inl v ↦ u ∙ sym v
        | inr v ↦ absurd (other y z Y Z u v (face_sym h _ _ k) oy oz)
      ]
      | inr u ↦ elim (choose (M z) (M x)) [
        | inl v ↦ absurd (other z y Z Y v u k oz oy)
        | inr v ↦
            let ky = rest_kind y Y u in
            let kz = rest_kind z Z v in
            s.still y z (dart_there g y Y) (dart_there g z Z) (o.once y z Y Z (down y z Y Z k) (omega arith) (omega arith))
      ]
    ]

    old_none : (y : Dart) → IsDartOf g y → SameFace h (left_h y) first_cell → Odd (own_weight h y) → ⊥
    old_none y Y k oy = elim (choose (M y) (M x)) [
      | inl u ↦
          let c = outer_part y Y u oy in
          o.none c.dart c.is_old (face_trans g _ _ _ (face_sym g _ _ c.near) (to_first (left_h x) (face_trans h _ _ _ (face_sym h _ _ (cycle_face h plane y x u)) k))) c.outer
      | inr u ↦ let ky = rest_kind y Y u in o.none y Y (down_first y Y k) (omega arith)
    ]

    -- two joined cycles
    pub united_once : IsOuterOnce h
    united_once = record {
      once = λ d z D Z k od oz.
          let r = rep d D in
          let w = rep z Z in
          let pr = one_kind h plane d r.0 r.2 in
          let pw = one_kind h plane z w.0 w.2 in
          r.2 ∙ old_once r.0 w.0 r.1 w.1 (face_trans h _ _ _ (face_sym h _ _ (cycle_face h plane d r.0 r.2)) (face_trans h _ _ _ k (cycle_face h plane z w.0 w.2))) (omega arith) (omega arith) ∙ sym w.2;
      none = λ d D k od.
          let r = rep d D in
          let pr = one_kind h plane d r.0 r.2 in
          old_none r.0 r.1 (face_trans h _ _ _ (face_sym h _ _ (cycle_face h plane d r.0 r.2)) k) (omega arith);
    }
