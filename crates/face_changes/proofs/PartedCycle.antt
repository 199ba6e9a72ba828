-- An edge between two places of one cycle: its two sides are two faces, told apart by the parity of either half of the cycle.
-- g is without the edge e, h with it; L and M give the least dart of a cycle in g and in h; x and y are the darts of e, a is the dart that x comes after.
use Rattle.std.proofs.Common.{◌≡◌, ℕ, ◌+◌, cond, Bool, true, false, arith, refl, sym, ap, ◌∙◌, subst, ◌⊎◌, inl, inr, List}
use Rattle.std.specs.Prelude.{not, ◌&&◌}
use lib.Dec.{ltb}
use Rattle.std.specs.List.{Contains}
use Rattle.plane_graphs.specs.Graph.{Edge}
use Rattle.slab_laws.specs.declared.slab_cell.SlabCell.{SlabCell}
use Rattle.slab_laws.specs.Skeleton.{Skeleton, IsPlaneSkeleton}
use Rattle.slab_laws.specs.Slabs.{spans, place}
use Rattle.slab_laws.specs.Weights.{Even}
use Rattle.slab_laws.specs.Darts.{Dart, darts, cell_of}
use Rattle.slab_laws.specs.Meets.{SameFace}
use Rattle.slab_laws.specs.Changes.{merged, IsCell}
use Rattle.slab_laws.specs.Rotation.{twin}
use Rattle.slab_laws.specs.Cycles.{dart_labels, darts_on, left_of_dart}
use Rattle.slab_laws.specs.Rows.{least_dart_of}
use Rattle.slab_laws.specs.Subdivision.{first_cell}
use Rattle.slab_faces.specs.FaceLaws.{whole, over_under, under_over, IsSplitBy}
use Rattle.slab_faces.proofs.Turns.{face_trans, face_sym}
use Rattle.slab_faces.proofs.CyclesLemmas.{cycle_parity}
use Rattle.slab_faces.proofs.CyclesOfFaces.{cycle_across_edge}
use Rattle.sound_changes.specs.NextLaws.{HasEdgeMore, IsDartOf}
use Rattle.face_changes.specs.Orbits.{IsOrbitSplit}
use Rattle.face_changes.proofs.EdgeOrder.{finer, two_at_most, old_cell, dart_real}
use Rattle.face_changes.proofs.LinkedCycles.{up, there}
use Rattle.face_changes.proofs.CycleParities.{weight_of, halves_even, others_even, own_one}
use Rattle.face_changes.proofs.OuterCycles.{own_weight}

-- the two new orbits may change places
pub swapped : {X : Type 0} (L M : X → X) (xs : List X) (d m a : X) → IsOrbitSplit L M xs d m a → IsOrbitSplit L M xs m d a
swapped L M xs d m a s = record {
  two = λ q. s.two (sym q);
  within = λ x c q. elim (s.within x c q) [ inl t ↦ inr t | inr t ↦ inl t ];
  from_d = s.from_m;
  from_m = s.from_d;
  kept = s.kept;
  still = s.still;
}

module _ (g : Skeleton) (hs : List Edge) (e : Edge) (plane : IsPlaneSkeleton (record { vertices = g.vertices; edges = hs })) (plane_g : IsPlaneSkeleton g) (more : HasEdgeMore g (record { vertices = g.vertices; edges = hs }) e) where
  abbrev h : Skeleton
  h = record { vertices = g.vertices; edges = hs }

  abbrev L : Dart → Dart
  L = least_dart_of g

  abbrev M : Dart → Dart
  M = least_dart_of (record { vertices = g.vertices; edges = hs })

  -- ---- an old dart's left cell, and those of two
  pub old_left : (y : Dart) → IsDartOf g y → merged g e (left_of_dart h y) ≡ left_of_dart g y
  old_left y Y = old_cell g hs e plane plane_g more y.edge Y y.forward

  pub real_left : (y : Dart) → IsDartOf h y → IsCell g e (left_of_dart h y)
  real_left y Y = dart_real g hs e plane plane_g more y.edge y.forward Y

  -- a face that is beside an old dart was beside it
  pub beside : (y : Dart) (c : SlabCell) → IsDartOf g y → SameFace h (left_of_dart h y) c → SameFace g (left_of_dart g y) (merged g e c)
  beside y c Y s = subst (λ d. SameFace g d (merged g e c)) (old_left y Y) (finer g hs e plane plane_g more _ c s)

  flat : (b : Bool) → cond {A = ℕ} b 0 0 ≡ 0
  flat true = refl
  flat false = refl

  pub first_stays : merged g e first_cell ≡ first_cell
  first_stays = λ i. record { slab = 0; place = flat (spans g 0 e && ltb (place g 0 e) 0) i }

  -- ---- x and y, the two darts of e, each after a dart of one old cycle, that of a
  module _ (x y a : Dart) (q : x.edge ≡ e) (t : y ≡ twin x) (s : IsOrbitSplit L M (darts g) x y a) (A : IsDartOf g a) (near_x : SameFace g (merged g e (left_of_dart h x)) (left_of_dart g a)) (near_y : SameFace g (merged g e (left_of_dart h y)) (left_of_dart g a)) where
    by_twin : IsOrbitSplit L M (darts g) x (twin x) a
    by_twin = subst (λ z. IsOrbitSplit L M (darts g) x z a) t s

    X : IsDartOf h x
    X = there g h e plane_g plane more x q

    Y : IsDartOf h y
    Y = subst (IsDartOf h) (sym t) X

    -- ---- the two sides of e
    data Sides : Type 0 where
      ahead : left_of_dart h x ≡ cell_of h e true → left_of_dart h y ≡ cell_of h e false → Sides
      behind : left_of_dart h x ≡ cell_of h e false → left_of_dart h y ≡ cell_of h e true → Sides

    sides : Sides
    sides = go x.forward refl
      where
        here : (b : Bool) → x.forward ≡ b → left_of_dart h x ≡ cell_of h e b
        here b k = λ i. cell_of h (q i) (k i)

        there_y : (b : Bool) → x.forward ≡ b → left_of_dart h y ≡ cell_of h e (not b)
        there_y b k = ap (left_of_dart h) t ∙ (λ i. cell_of h (q i) (not (k i)))

        go : (b : Bool) → x.forward ≡ b → Sides
        go true k = ahead (here true k) (there_y true k)
        go false k = behind (here false k) (there_y false k)

    -- x's half has different parities on both sides
    pub sides_differ : Even (weight_of h (M x) (left_of_dart h x) + weight_of h (M x) (left_of_dart h y) + 1)
    sides_differ =
        let c = cycle_across_edge h (M x) e plane (subst (Contains hs) q X) in
        let o : darts_on (dart_labels (darts h)) (M x) e ≡ 1 = own_one g hs e plane plane_g more x q by_twin.two in
        elim sides [
          | ahead u v ↦
              let k : weight_of h (M x) (left_of_dart h x) ≡ weight_of h (M x) (cell_of h e true) = ap (weight_of h (M x)) u in
              let l : weight_of h (M x) (left_of_dart h y) ≡ weight_of h (M x) (cell_of h e false) = ap (weight_of h (M x)) v in
              omega arith
          | behind u v ↦
              let k : weight_of h (M x) (left_of_dart h x) ≡ weight_of h (M x) (cell_of h e false) = ap (weight_of h (M x)) u in
              let l : weight_of h (M x) (left_of_dart h y) ≡ weight_of h (M x) (cell_of h e true) = ap (weight_of h (M x)) v in
              omega arith
        ]

    -- so they are two faces
    pub two_faces : SameFace h (left_of_dart h x) (left_of_dart h y) → ⊥
    two_faces k =
        let c = cycle_parity h (M x) (left_of_dart h x) (left_of_dart h y) plane k in
        let d = sides_differ in
        absurd (omega arith)

    -- each cell of the old face is in one of them
    pub one_side : (c : SlabCell) → IsCell g e c → SameFace g (merged g e c) (left_of_dart g a) → SameFace h c (left_of_dart h x) ⊎ SameFace h c (left_of_dart h y)
    one_side c C k =
        elim sides [
          | ahead u v ↦ at (left_of_dart h x) (left_of_dart h y) u v (two_at_most g hs e plane plane_g more c (left_of_dart h x) C (real_left x X) (face_trans g _ _ _ k (face_sym g _ _ near_x)))
          | behind u v ↦ elim (at (left_of_dart h y) (left_of_dart h x) v u (two_at_most g hs e plane plane_g more c (left_of_dart h y) C (real_left y Y) (face_trans g _ _ _ k (face_sym g _ _ near_y)))) [ inl w ↦ inr w | inr w ↦ inl w ]
        ]
      where
        by_cells : (c p q : SlabCell) → IsSplitBy h p q c p → SameFace h c p ⊎ SameFace h c q
        by_cells c p q (whole c' p' w) = inl w
        by_cells c p q (over_under c' p' w v) = inl w
        by_cells c p q (under_over c' p' w v) = inr w

        at : (p r : SlabCell) → p ≡ cell_of h e true → r ≡ cell_of h e false → IsSplitBy h (cell_of h e true) (cell_of h e false) c p → SameFace h c p ⊎ SameFace h c r
        at p r u v w = by_cells c p r (subst (λ (z : SlabCell × SlabCell). IsSplitBy h z.0 z.1 c p) (λ i. (sym u i, sym v i)) w)

    -- all other faces are as they were
    pub others : (c d : SlabCell) → IsCell g e c → IsCell g e d → (SameFace g (merged g e c) (left_of_dart g a) → ⊥) → SameFace g (merged g e c) (merged g e d) → SameFace h c d
    others c d C D ne k = go (two_at_most g hs e plane plane_g more c d C D k)
      where
        down : (z : SlabCell) → SameFace h c z → (z ≡ left_of_dart h x) ⊎ (z ≡ left_of_dart h y) → ⊥
        down z w (inl u) = ne (face_trans g _ _ _ (finer g hs e plane plane_g more c (left_of_dart h x) (subst (SameFace h c) u w)) near_x)
        down z w (inr u) = ne (face_trans g _ _ _ (finer g hs e plane plane_g more c (left_of_dart h y) (subst (SameFace h c) u w)) near_y)

        over : (cell_of h e true ≡ left_of_dart h x) ⊎ (cell_of h e true ≡ left_of_dart h y)
        over = elim sides [ ahead u v ↦ inl (sym u) | behind u v ↦ inr (sym v) ]

        under : (cell_of h e false ≡ left_of_dart h x) ⊎ (cell_of h e false ≡ left_of_dart h y)
        under = elim sides [ ahead u v ↦ inr (sym v) | behind u v ↦ inl (sym u) ]

        go : IsSplitBy h (cell_of h e true) (cell_of h e false) c d → SameFace h c d
        go (whole c' d' w) = w
        go (over_under c' d' w v) = absurd (down _ w over)
        go (under_over c' d' w v) = absurd (down _ w under)

    -- the kinds of both halves and of the old cycle: of an inner one one half is outer, of an outer one both or none
    pub kinds : Even (own_weight h x + own_weight h y + own_weight g a + 1)
    kinds =
        let r = real_left y Y in
        let p : Even (weight_of h (M x) (left_of_dart h y) + weight_of h (M y) (left_of_dart h y) + weight_of g (L a) (merged g e (left_of_dart h y))) =
        subst (λ z. Even (weight_of h (M x) (left_of_dart h y) + weight_of h (M z) (left_of_dart h y) + weight_of g (L a) (merged g e (left_of_dart h y)))) (sym t) (halves_even g hs e plane plane_g more x q a by_twin (left_of_dart h y) r) in
        let d = sides_differ in
        let k = cycle_parity g (L a) (merged g e (left_of_dart h y)) (left_of_dart g a) plane_g near_y in
        omega arith

    -- a dart of no half has the kind that it had
    pub other_kind : (z : Dart) → IsDartOf g z → (L z ≡ L a → ⊥) → Even (own_weight h z + own_weight g z)
    other_kind z Z ne =
        let p = others_even g hs e plane plane_g more x q a by_twin z Z ne (left_of_dart h z) (real_left z (up g h e plane_g plane more z Z)) in
        let k : weight_of g (L z) (merged g e (left_of_dart h z)) ≡ own_weight g z = ap (weight_of g (L z)) (old_left z Z) in
        omega arith
