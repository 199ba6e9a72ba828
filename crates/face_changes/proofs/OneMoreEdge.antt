-- The laws of every plane graph, and those of one more edge in its four cases.
-- g is without the edge, h with it; x is either dart of the edge; M gives the least dart of a cycle in h; `over` and `under` are the cells on both sides of the edge.
use Rattle.std.proofs.Common.{◌≡◌, ◌≢◌, ◌↔◌, ℕ, ◌+◌, Bool, true, false, arith, refl, sym, ap, ◌∙◌, subst, ◌⊎◌, inl, inr, List}
use Rattle.std.specs.Prelude.{not, ◌%◌, ◌==◌, ◌||◌}
use Rattle.std.proofs.lemmas.Bool.{eqb-true, eqb-false, cases_Bool}
use Rattle.plane_graphs.specs.Graph.{Edge}
use Rattle.slab_laws.specs.declared.slab_cell.SlabCell.{SlabCell}
use Rattle.slab_laws.specs.Skeleton.{Skeleton, IsPlaneSkeleton}
use Rattle.slab_laws.specs.Weights.{Even}
use Rattle.slab_laws.specs.Slabs.{left_cell}
use Rattle.slab_laws.specs.Darts.{Dart, darts, cell_of}
use Rattle.slab_laws.specs.Meets.{SameFace}
use Rattle.slab_laws.specs.Changes.{merged, IsCell}
use Rattle.slab_laws.specs.Rotation.{twin}
use Rattle.slab_laws.specs.Cycles.{dart_labels, odd, left_of_dart}
use Rattle.slab_laws.specs.Rows.{least_dart_of}
use Rattle.slab_laws.specs.Subdivision.{first_cell}
use Rattle.slab_faces.specs.FaceLaws.{IsSplitBy, whole, over_under, under_over}
use Rattle.slab_faces.proofs.Turns.{face_trans, face_sym}
use Rattle.slab_faces.proofs.CyclesLemmas.{cycle_parity}
use Rattle.slab_faces.proofs.CyclesOfFaces.{cycle_across_edge}
use Rattle.slab_faces.proofs.DartOrder.{lead_lead}
use Rattle.sound_changes.specs.NextLaws.{HasEdgeMore, IsDartOf, IsBareEnd, ComesBetween}
use Rattle.face_changes.specs.Kinds.{odd_at, is_outer, CyclesAreOfOneKind, OneOuterCycle}
use Rattle.face_changes.specs.OneMoreEdge.{IsOneMoreEdge, LiesIn, CellsWithOneMoreEdge, FacesWithOneMoreEdge, SidesOfOneMoreEdge, MakesHole, GrowsCycle, JoinsCycles, PartsCycle, CyclesWithOneMoreEdge}
use Rattle.face_changes.proofs.EdgeOrder.{finer, two_at_most, old_cell, dart_real, vertex_real, vertex_cell, first_real}
use Rattle.face_changes.proofs.LinkedCycles.{dart_there, parts, joins, grows, apart}
use Rattle.face_changes.proofs.CycleParities.{weight_of, choose, own_one}
use Rattle.face_changes.proofs.OuterCycles.{Odd, is_odd, cycle_face, one_kind, outer_there}
use Rattle.face_changes.proofs.PartedCycle.{first_stays, one_side, others, other_kind}
use Rattle.face_changes.proofs.OneOuterKept.{IsOuterOnce, both_outer, one_outer, sum_kind, not_both, rest_kind}
use Rattle.face_changes.proofs.EveryPlaneGraph.{near, same_kind, alone_even, outer_once}
use Rattle.slab_faces.proofs.OddSums.{odd_alike, alike_even}

-- ---- tests of parity
pub odd_yes : (g : Skeleton) (l : Dart) (c : SlabCell) → Odd (weight_of g l c) → odd g (dart_labels (darts g)) l c ≡ true
unfolding odd
odd_yes g l c h = rw h refl

odd_no : (g : Skeleton) (l : Dart) (c : SlabCell) → Even (weight_of g l c) → odd g (dart_labels (darts g)) l c ≡ false
unfolding odd
odd_no g l c h = rw h refl

is_even : (g : Skeleton) (l : Dart) (c : SlabCell) → odd g (dart_labels (darts g)) l c ≡ false → Even (weight_of g l c)
unfolding odd
is_even g l c h = let k = eqb-false (weight_of g l c % 2) 1 h in omega arith

other_tests : (m n : ℕ) → Even (m + n + 1) → (m % 2 == 1) ≡ not (n % 2 == 1)
other_tests m n h = go (m % 2 == 1) (n % 2 == 1) refl refl
  where
    go : (b c : Bool) → (m % 2 == 1) ≡ b → (n % 2 == 1) ≡ c → b ≡ not c
    go true false p q = refl
    go false true p q = refl
    go true true p q = let u = eqb-true (m % 2) 1 p in let v = eqb-true (n % 2) 1 q in absurd (omega arith)
    go false false p q = let u = eqb-false (m % 2) 1 p in let v = eqb-false (n % 2) 1 q in absurd (omega arith)

same_odd : (g h : Skeleton) (l k : Dart) (c d : SlabCell) → Even (weight_of g l c + weight_of h k d) → odd g (dart_labels (darts g)) l c ≡ odd h (dart_labels (darts h)) k d
unfolding odd
same_odd g h l k c d e = odd_alike (weight_of g l c) (weight_of h k d) e

back_odd : (g h : Skeleton) (l k : Dart) (c d : SlabCell) → odd g (dart_labels (darts g)) l c ≡ odd h (dart_labels (darts h)) k d → Even (weight_of g l c + weight_of h k d)
unfolding odd
back_odd g h l k c d e = alike_even (weight_of g l c) (weight_of h k d) e

other_odd : (g h : Skeleton) (l k : Dart) (c d : SlabCell) → Even (weight_of g l c + weight_of h k d + 1) → odd g (dart_labels (darts g)) l c ≡ not (odd h (dart_labels (darts h)) k d)
unfolding odd
other_odd g h l k c d e = other_tests (weight_of g l c) (weight_of h k d) e

or_tests : (m n k : ℕ) → Even (m + n + k) → (Odd n → Odd k → ⊥) → (m % 2 == 1) ≡ ((n % 2 == 1) || (k % 2 == 1))
or_tests m n k h f = go (m % 2 == 1) (n % 2 == 1) (k % 2 == 1) refl refl refl
  where
    go : (a b c : Bool) → (m % 2 == 1) ≡ a → (n % 2 == 1) ≡ b → (k % 2 == 1) ≡ c → a ≡ (b || c)
    go a true true p q r = absurd (f (eqb-true (n % 2) 1 q) (eqb-true (k % 2) 1 r))
    go true true false p q r = refl
    go true false true p q r = refl
    go false false false p q r = refl
    go true false false p q r = let u = eqb-true (m % 2) 1 p in let v = eqb-false (n % 2) 1 q in let w = eqb-false (k % 2) 1 r in absurd (omega arith)
    go false true false p q r = let u = eqb-false (m % 2) 1 p in let v = eqb-true (n % 2) 1 q in let w = eqb-false (k % 2) 1 r in absurd (omega arith)
    go false false true p q r = let u = eqb-false (m % 2) 1 p in let v = eqb-false (n % 2) 1 q in let w = eqb-true (k % 2) 1 r in absurd (omega arith)

or_odd : (h g : Skeleton) (l a b : Dart) (c d e : SlabCell) → Even (weight_of h l c + weight_of g a d + weight_of g b e) → (Odd (weight_of g a d) → Odd (weight_of g b e) → ⊥) → odd h (dart_labels (darts h)) l c ≡ (odd g (dart_labels (darts g)) a d || odd g (dart_labels (darts g)) b e)
unfolding odd
or_odd h g l a b c d e k f = or_tests (weight_of h l c) (weight_of g a d) (weight_of g b e) k f

-- ---- every plane graph
pub one_kind_each : CyclesAreOfOneKind
one_kind_each = record {
  face = λ g d e plane q. cycle_face g plane d e q;
  kind = λ g d e plane q. same_odd g g (least_dart_of g d) (least_dart_of g e) _ _ (one_kind g plane d e q);
  lead = λ g d plane.
      let k = same_odd g g (least_dart_of g d) (least_dart_of g (least_dart_of g d)) _ _ (one_kind g plane d (least_dart_of g d) (sym (lead_lead g d))) in
      k ∙ ap (λ l. odd g (dart_labels (darts g)) l (left_of_dart g (least_dart_of g d))) (lead_lead g d);
}

pub one_outer_cycle : OneOuterCycle
one_outer_cycle = record {
  unbounded = λ g d plane D k. elim (cases_Bool (is_outer g d)) [
    | inl t ↦ absurd ((outer_once g plane).none d D k (is_odd g (least_dart_of g d) (left_of_dart g d) t))
    | inr t ↦ t
  ];
  bounded = λ g c plane C ne. elim (outer_there g plane c C) [
    | inl k ↦ absurd (ne k)
    | inr w ↦ (w.0, w.1, w.2, odd_yes g (least_dart_of g w.0) (left_of_dart g w.0) w.3)
  ];
  once = λ g d e plane D E k u v. (outer_once g plane).once d e D E k (is_odd g (least_dart_of g d) (left_of_dart g d) u) (is_odd g (least_dart_of g e) (left_of_dart g e) v);
}

-- ---- h as the vertices of g and a list of edges
abbrev with_edges : Skeleton → List Edge → Skeleton
with_edges g hs = record { vertices = g.vertices; edges = hs }

lift : (g h : Skeleton) (x : Dart) (P : Skeleton → Type 0) → IsOneMoreEdge g h x.edge → ((hs : List Edge) → IsPlaneSkeleton (with_edges g hs) → HasEdgeMore g (with_edges g hs) x.edge → P (with_edges g hs)) → P h
lift g h x P m f =
    let p : with_edges g h.edges ≡ h = λ i. record { vertices = sym m.more.vertices i; edges = h.edges } in
    subst P p (f h.edges (subst IsPlaneSkeleton (sym p) m.plane_more) (subst (λ z. HasEdgeMore g z x.edge) (sym p) m.more))

pub cells_with_one_more_edge : CellsWithOneMoreEdge
cells_with_one_more_edge = record {
  dart = λ g h x d m D. lift g h x (λ z. LiesIn g z x.edge (left_of_dart z d) (left_of_dart g d)) m (λ hs p k. record {
    real = dart_real g hs x.edge p m.plane k d.edge d.forward ((k.edges d.edge).1 (inl D));
    in' = old_cell g hs x.edge p m.plane k d.edge D d.forward;
  });
  vertex = λ g h x v m V. lift g h x (λ z. LiesIn g z x.edge (left_cell z v) (left_cell g v)) m (λ hs p k. record { real = vertex_real g hs x.edge p m.plane k v V; in' = vertex_cell g hs x.edge p m.plane k v V });
  first = λ g h x m. lift g h x (λ z. LiesIn g z x.edge first_cell first_cell) m (λ hs p k. record { real = first_real g hs x.edge p m.plane k 0; in' = first_stays g hs x.edge p m.plane k });
  new = λ g h x m. lift g h x (λ z. IsCell g x.edge (left_of_dart z x)) m (λ hs p k. dart_real g hs x.edge p m.plane k x.edge x.forward ((k.edges x.edge).1 (inr refl)));
}

module _ (g : Skeleton) (hs : List Edge) (x : Dart) (plane : IsPlaneSkeleton (record { vertices = g.vertices; edges = hs })) (plane_g : IsPlaneSkeleton g) (more : HasEdgeMore g (record { vertices = g.vertices; edges = hs }) x.edge) where
  abbrev h : Skeleton
  h = record { vertices = g.vertices; edges = hs }

  abbrev M : Dart → Dart
  M = least_dart_of (record { vertices = g.vertices; edges = hs })

  over : SlabCell
  over = cell_of h x.edge true

  under : SlabCell
  under = cell_of h x.edge false

  -- where both darts of the edge are on one cycle, its sides are one face
  one_face_there : M x ≡ M (twin x) → SameFace h over under
  unfolding over under
  one_face_there k = go x.forward refl (cycle_face h plane x (twin x) k)
    where
      go : (b : Bool) → x.forward ≡ b → SameFace h (left_of_dart h x) (left_of_dart h (twin x)) → SameFace h (cell_of h x.edge true) (cell_of h x.edge false)
      go true q s = subst (λ b. SameFace h (cell_of h x.edge b) (cell_of h x.edge (not b))) q s
      go false q s = face_sym h _ _ (subst (λ b. SameFace h (cell_of h x.edge b) (cell_of h x.edge (not b))) q s)

  all_together : (c d : SlabCell) → SameFace h over under → IsSplitBy h over under c d → SameFace h c d
  all_together c d k (whole c' d' s) = s
  all_together c d k (over_under c' d' s t) = face_trans h _ _ _ s (face_trans h _ _ _ k t)
  all_together c d k (under_over c' d' s t) = face_trans h _ _ _ s (face_trans h _ _ _ (face_sym h _ _ k) t)

  -- else x's cycle tells them apart
  sides : SameFace h over under ⊎ Even (weight_of h (M x) over + weight_of h (M x) under + 1)
  unfolding over under
  sides = elim (choose (M x) (M (twin x))) [
    | inl k ↦ inl (one_face_there k)
    | inr k ↦ inr (let a = cycle_across_edge h (M x) x.edge plane ((more.edges x.edge).1 (inr refl)) in let b = own_one g hs x.edge plane plane_g more x refl k in omega arith)
  ]

  together : (c d : SlabCell) → Even (weight_of h (M x) c + weight_of h (M x) d) → IsSplitBy h over under c d → SameFace h c d
  together c d e t = elim sides [ inl k ↦ all_together c d k t | inr k ↦ apart c d e k t ]
    where
      apart : (c d : SlabCell) → Even (weight_of h (M x) c + weight_of h (M x) d) → Even (weight_of h (M x) over + weight_of h (M x) under + 1) → IsSplitBy h over under c d → SameFace h c d
      apart c d e k (whole c' d' s) = s
      apart c d e k (over_under c' d' s t) = let p = cycle_parity h (M x) c over plane s in let q = cycle_parity h (M x) under d plane t in absurd (omega arith)
      apart c d e k (under_over c' d' s t) = let p = cycle_parity h (M x) c under plane s in let q = cycle_parity h (M x) over d plane t in absurd (omega arith)

  faces : (c d b a : SlabCell) → LiesIn g h x.edge c b → LiesIn g h x.edge d a → SameFace h c d ↔ (SameFace g b a × (odd_at h x c ≡ odd_at h x d))
  unfolding over under
  faces c d b a C D = (
    λ s. (subst (λ (z : SlabCell × SlabCell). SameFace g z.0 z.1) (λ i. (C.in' i, D.in' i)) (finer g hs x.edge plane plane_g more c d s), same_odd h h (M x) (M x) c d (cycle_parity h (M x) c d plane s)),
    λ k. together c d (back_odd h h (M x) (M x) c d k.1) (two_at_most g hs x.edge plane plane_g more c d C.real D.real (subst (λ (z : SlabCell × SlabCell). SameFace g z.0 z.1) (λ i. (sym C.in' i, sym D.in' i)) k.0)),
  )

  faces_stay : M x ≡ M (twin x) → (c d b a : SlabCell) → LiesIn g h x.edge c b → LiesIn g h x.edge d a → SameFace h c d ↔ SameFace g b a
  unfolding over under
  faces_stay q c d b a C D = (
    λ s. subst (λ (z : SlabCell × SlabCell). SameFace g z.0 z.1) (λ i. (C.in' i, D.in' i)) (finer g hs x.edge plane plane_g more c d s),
    λ k. all_together c d (one_face_there q) (two_at_most g hs x.edge plane plane_g more c d C.real D.real (subst (λ (z : SlabCell × SlabCell). SameFace g z.0 z.1) (λ i. (sym C.in' i, sym D.in' i)) k)),
  )

  sides_part : (M x ≡ M (twin x) → ⊥) → odd_at h x (left_of_dart h x) ≡ not (odd_at h x (left_of_dart h (twin x)))
  sides_part k = other_odd h h (M x) (M x) (left_of_dart h x) (left_of_dart h (twin x)) (go x.forward refl)
    where
      go : (b : Bool) → x.forward ≡ b → Even (weight_of h (M x) (left_of_dart h x) + weight_of h (M x) (left_of_dart h (twin x)) + 1)
      go b q =
          let a = cycle_across_edge h (M x) x.edge plane ((more.edges x.edge).1 (inr refl)) in
          let o = own_one g hs x.edge plane plane_g more x refl k in
          either_way b (λ z. weight_of h (M x) (cell_of h x.edge z)) q (omega arith)
        where
          either_way : (b : Bool) (w : Bool → ℕ) → x.forward ≡ b → Even (w true + w false + 1) → Even (w x.forward + w (not x.forward) + 1)
          either_way true w q e = rw q e
          either_way false w q e = rw q (omega arith)

  -- ---- cycles
  outer : IsOuterOnce g
  outer = outer_once g plane_g

  new_hole : IsBareEnd g x → IsBareEnd g (twin x) → MakesHole g h x
  new_hole bx by =
      let r = apart g h x.edge plane_g plane more x refl bx by in
      record {
        kept = r.0;
        one = r.1;
        new = λ d D. r.2 d (dart_there g d D);
        inner = odd_no h (M x) (left_of_dart h x) (alone_even g hs x.edge plane plane_g more x refl r.0 (sym r.1) r.2 x refl);
        kinds = λ d D. same_odd h g (M d) (least_dart_of g d) _ _ (same_kind g hs x.edge plane plane_g more x refl r.0 (sym r.1) d D);
      }

  grown : (a : Dart) → IsDartOf g a → ComesBetween g a x → IsBareEnd g (twin x) → GrowsCycle g h x a
  grown a A at_a none =
      let r = grows g h x.edge plane_g plane more x refl a A at_a none in
      record {
        kept = r.0;
        first = r.1;
        second = r.2;
        kinds = λ d D. same_odd h g (M d) (least_dart_of g d) _ _ (same_kind g hs x.edge plane plane_g more x refl r.0 (r.1 ∙ sym r.2) d D);
      }

  module _ (a b : Dart) (A : IsDartOf g a) (B : IsDartOf g b) (at_a : ComesBetween g a x) (at_b : ComesBetween g b (twin x)) where
    near_x : SameFace g (merged g x.edge (left_of_dart h x)) (left_of_dart g a)
    near_x = face_sym g _ _ (near g hs x.edge plane plane_g more x a A refl at_a)

    near_y : SameFace g (merged g x.edge (left_of_dart h (twin x))) (left_of_dart g b)
    near_y = face_sym g _ _ (near g hs x.edge plane plane_g more (twin x) b B refl at_b)

    joined : (least_dart_of g a ≡ least_dart_of g b → ⊥) → JoinsCycles g h x a b
    joined two =
        let s = joins g h x.edge plane_g plane more x refl a b A B at_a at_b two in
        let near_b = face_trans g _ _ _ (finer g hs x.edge plane plane_g more _ _ (cycle_face h plane x (twin x) s.one)) near_y in
        let ma : M a ≡ M x = s.within a (dart_there g a A) (inl refl) in
        let p = sum_kind g hs x.edge plane plane_g more outer x a b refl two s A B near_x near_b a A ma in
        let k = one_kind h plane a x ma in
        let n = not_both g hs x.edge plane plane_g more outer x a b refl two s A B near_x near_b in
        record {
          cycles = s;
          one_face = face_trans g _ _ _ (face_sym g _ _ near_x) near_b;
          not_both = λ u v. n (is_odd g (least_dart_of g a) (left_of_dart g a) u) (is_odd g (least_dart_of g b) (left_of_dart g b) v);
          kind = or_odd h g (M x) (least_dart_of g a) (least_dart_of g b) _ _ _ (omega arith) n;
          kinds = λ d D ne. same_odd h g (M d) (least_dart_of g d) _ _ (rest_kind g hs x.edge plane plane_g more outer x a b refl two s A B near_x near_b d D ne);
        }

    parted : least_dart_of g a ≡ least_dart_of g b → PartsCycle g h x a
    parted one =
        let s = parts g h x.edge plane_g plane more x refl a b A B at_a at_b one in
        let near_b = face_trans g _ _ _ near_y (face_sym g _ _ (cycle_face g plane_g a b one)) in
        record {
          cycles = s;
          near = λ c C. subst (λ z. SameFace g z (left_of_dart g a)) C.in' near_x;
          near_twin = λ c C. subst (λ z. SameFace g z (left_of_dart g a)) C.in' near_b;
          sides = λ c b C k. one_side g hs x.edge plane plane_g more x (twin x) a refl refl s A near_x near_b c C.real (subst (λ z. SameFace g z (left_of_dart g a)) (sym C.in') k);
          elsewhere = λ c d b b' C D ne k. others g hs x.edge plane plane_g more x (twin x) a refl refl s A near_x near_b c d C.real D.real (λ w. ne (subst (λ z. SameFace g z (left_of_dart g a)) C.in' w)) (subst (λ (z : SlabCell × SlabCell). SameFace g z.0 z.1) (λ i. (sym C.in' i, sym D.in' i)) k);
          of_outer = λ u.
              let r = both_outer g hs x.edge plane plane_g more outer x (twin x) a refl refl s A near_x near_b (is_odd g (least_dart_of g a) (left_of_dart g a) u) in
              (odd_yes h (M x) (left_of_dart h x) r.0, odd_yes h (M (twin x)) (left_of_dart h (twin x)) r.1);
          of_inner = λ u.
              let r = one_outer g hs x.edge plane plane_g more outer x (twin x) a refl refl s A near_x near_b (is_even g (least_dart_of g a) (left_of_dart g a) u) in
              other_odd h h (M (twin x)) (M x) _ _ (omega arith);
          kinds = λ d D ne. same_odd h g (M d) (least_dart_of g d) _ _ (other_kind g hs x.edge plane plane_g more x (twin x) a refl refl s A near_x near_b d D ne);
        }

pub faces_with_one_more_edge : FacesWithOneMoreEdge
faces_with_one_more_edge g h x c d b a m =
    lift g h x (λ z. LiesIn g z x.edge c b → LiesIn g z x.edge d a → SameFace z c d ↔ (SameFace g b a × (odd_at z x c ≡ odd_at z x d))) m (λ hs p k. faces g hs x p m.plane k c d b a)

pub sides_of_one_more_edge : SidesOfOneMoreEdge
sides_of_one_more_edge = record {
  one = λ g h x c d b a m. lift g h x (λ z. least_dart_of z x ≡ least_dart_of z (twin x) → LiesIn g z x.edge c b → LiesIn g z x.edge d a → SameFace z c d ↔ SameFace g b a) m (λ hs p k q C D. faces_stay g hs x p m.plane k q c d b a C D);
  two = λ g h x m. lift g h x (λ z. least_dart_of z x ≢ least_dart_of z (twin x) → odd_at z x (left_of_dart z x) ≡ not (odd_at z x (left_of_dart z (twin x)))) m (λ hs p k ne. sides_part g hs x p m.plane k ne);
}

pub cycles_with_one_more_edge : CyclesWithOneMoreEdge
cycles_with_one_more_edge = record {
  new_hole = λ g h x m bx by. lift g h x (λ z. MakesHole g z x) m (λ hs p k. new_hole g hs x p m.plane k bx by);
  grown = λ g h x a m A at_a none. lift g h x (λ z. GrowsCycle g z x a) m (λ hs p k. grown g hs x p m.plane k a A at_a none);
  joined = λ g h x a b m A B at_a at_b two. lift g h x (λ z. JoinsCycles g z x a b) m (λ hs p k. joined g hs x p m.plane k a b A B at_a at_b two);
  parted = λ g h x a b m A B at_a at_b one. lift g h x (λ z. PartsCycle g z x a) m (λ hs p k. parted g hs x p m.plane k a b A B at_a at_b one);
}
