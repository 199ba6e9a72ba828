-- One more edge: the faces with it are those without it, but for the two beside the edge.
use Rattle.std.proofs.Common.{◌≡◌, ℕ, ◌+◌, ◌-◌, ◌<◌, ◌≤◌, Bool, true, false, cond, arith, refl, sym, ap, ◌∙◌, inl, inr, [], ◌∷◌, subst}
use Rattle.std.specs.Prelude.{not, ◌&&◌}
use Rattle.std.specs.List.{count_by, Contains}
use Rattle.std.proofs.lemmas.Bool.{false≢true, and_parts, not-true, false_from_ne_true, cases_Bool, cases_lt, le-ltb, lt-ltb}
use Rattle.std.proofs.lemmas.List.Sums.{sum_by-cons}
use Rattle.std.proofs.lemmas.List.Elements.{Contains-append_left, Contains-append_right, Contains-push}
use lib.Dec.{ltb}
use Rattle.exact_plane.specs.Point.{Point}
use Rattle.plane_graphs.specs.Graph.{Edge}
use Rattle.slab_laws.specs.Skeleton.{Skeleton, HasWeight, left_of, over, below, IsPlaneSkeleton, with_edge}
use Rattle.slab_laws.specs.Meets.{IsOnWall, IsOpenAbove, covers_above, Meets, SameFace, across, here, right, left}
use Rattle.slab_laws.specs.Slabs.{spans, place, slab_left, slab_right, reaches_left, reaches_right, left_cell, right_cell, forward_cell, backward_cell}
use Rattle.slab_laws.specs.declared.slab_cell.SlabCell.{SlabCell}
use Rattle.slab_laws.specs.Changes.{merged, IsCell}
use Rattle.slab_faces.specs.FaceLaws.{IsSplitBy, whole, over_under, under_over}
use Rattle.slab_faces.proofs.Cells.{IsSideOf, right_few, left_side, right_side, place_over, place_under, spans_left, spans_right, not_right_trans}
use Rattle.slab_faces.proofs.Along.{covers_parts, below_self}
use Rattle.slab_faces.proofs.Walls.{on_wall_parts}
use Rattle.slab_faces.proofs.Turns.{face_trans, face_sym, member_cases, wall_before, on_own_wall, chain, le_antisym, above_e, below_e, over_wall, under_wall}

pub first : (g : Skeleton) (e : Edge) → Contains (with_edge g e).edges e
first g e = Contains-append_left (e ∷ []) g.edges e (Contains-push [] e)

pub rest : (g : Skeleton) (e f : Edge) → Contains g.edges f → Contains (with_edge g e).edges f
rest g e f h = Contains-append_right (e ∷ []) g.edges f h

pub same_place : (g : Skeleton) (e : Edge) (i : ℕ) → IsPlaneSkeleton (with_edge g e) → place (with_edge g e) i e ≡ place g i e
same_place g e i plane =
    let a : place (with_edge g e) i e ≡ cond (spans g i e && below e e) 1 0 + place g i e = sum_by-cons (λ f. cond (spans g i f && below f e) 1 0) e g.edges in
    a ∙ ap (λ n. n + place g i e) (none (spans g i e) (below e e) (below_self (with_edge g e) e plane (first g e))) ∙ omega arith
  where
    none : (a b : Bool) → b ≡ false → cond {A = ℕ} (a && b) 1 0 ≡ 0
    none true b h = rw h refl
    none false b h = refl

-- a point's cell, with e and without
merged_side : (g : Skeleton) (e : Edge) (t : Point) (i : ℕ) (reach : Edge → Bool) → IsPlaneSkeleton (with_edge g e) → IsSideOf (with_edge g e) t i reach → cond (spans g i e && ltb (place g i e) (count_by (λ f. reach f && not (over f t)) (with_edge g e).edges)) (count_by (λ f. reach f && not (over f t)) (with_edge g e).edges - 1) (count_by (λ f. reach f && not (over f t)) (with_edge g e).edges) ≡ count_by (λ f. reach f && not (over f t)) g.edges
merged_side g e t i reach plane s =
    let j = count_by (λ f. reach f && not (over f t)) (with_edge g e).edges in
    let k = count_by (λ f. reach f && not (over f t)) g.edges in
    let a : j ≡ cond (reach e && not (over e t)) 1 0 + k = sum_by-cons (λ f. cond (reach f && not (over f t)) 1 0) e g.edges in
    let p = same_place g e i plane in
    drop (spans g i e) (reach e) (over e t) (place g i e) j k (s.spanned e (first g e)) a
    (λ r o. subst (λ n. j ≤ n) p (place_over (with_edge g e) t i reach e s (first g e) r o))
    (λ r o. subst (λ n. n < j) p (place_under (with_edge g e) t i reach e plane s (first g e) r o))
  where
    drop : (s r o : Bool) (p j k : ℕ) → s ≡ r → j ≡ cond (r && not o) 1 0 + k → (r ≡ true → o ≡ true → j ≤ p) → (r ≡ true → o ≡ false → p < j) → cond (s && ltb p j) (j - 1) j ≡ k
    drop s true true p j k e a up down = rw (e, le-ltb p j (up refl refl)) (omega arith)
    drop s true false p j k e a up down = rw (e, lt-ltb p j (down refl refl)) (omega arith)
    drop s false o p j k e a up down = rw e (omega arith)

pub merged_left : (g : Skeleton) (e : Edge) (t : Point) → IsPlaneSkeleton (with_edge g e) → IsOnWall (with_edge g e) t → merged g e (left_cell (with_edge g e) t) ≡ left_cell g t
merged_left g e t plane wall =
    let a = merged_side g e t (slab_left g t) (λ f. reaches_left f t) plane (left_side (with_edge g e) t plane wall) in
    λ i. record { slab = slab_left g t; place = a i }

pub merged_right : (g : Skeleton) (e : Edge) (t : Point) → IsPlaneSkeleton (with_edge g e) → IsOnWall (with_edge g e) t → merged g e (right_cell (with_edge g e) t) ≡ right_cell g t
merged_right g e t plane wall =
    let a = merged_side g e t (slab_right g t) (λ f. reaches_right f t) plane (right_side (with_edge g e) t plane wall) in
    λ i. record { slab = slab_right g t; place = a i }

-- ---- what meets with e meets without
pub wall_down : (g : Skeleton) (e : Edge) (t : Point) → IsOnWall (with_edge g e) t → IsOnWall g t
wall_down g e t w = record { proper = w.proper; vertex = w.vertex; is_vertex = w.is_vertex; same = w.same }

pub wall_up : (g : Skeleton) (e : Edge) (t : Point) → IsOnWall g t → IsOnWall (with_edge g e) t
wall_up g e t w = record { proper = w.proper; vertex = w.vertex; is_vertex = w.is_vertex; same = w.same }

pub open_down : (g : Skeleton) (e : Edge) (t : Point) → IsOpenAbove (with_edge g e) t → IsOpenAbove g t
open_down g e t o = record { open_at = λ f F. o.open_at f (rest g e f F) }

open_up : (g : Skeleton) (e : Edge) (t : Point) → IsPlaneSkeleton (with_edge g e) → HasWeight t → left_of e.low e.high ≡ true → IsOpenAbove g t → IsOpenAbove (with_edge g e) t
open_up g e t plane T h o = record {
  open_at = λ f F. elim (member_cases e g.edges f F) [
    | inl k ↦ subst (λ x. covers_above x t ≡ false) k (false_from_ne_true _ (λ c.
        let u = (covers_parts e t c).0 in
        let p = plane.proper_edge e (first g e) in
        false≢true (sym (not_right_trans e.high t e.low p.1 T p.0 u.upper_2 u.lower_1) ∙ h)))
    | inr i ↦ o.open_at f i
  ];
}

pub meets_down : (g : Skeleton) (e : Edge) (c d : SlabCell) → IsPlaneSkeleton (with_edge g e) → Meets (with_edge g e) c d → Meets g (merged g e c) (merged g e d)
meets_down g e c d plane (across t wall free) =
    let m : Meets g (left_cell g t) (right_cell g t) = across t (wall_down g e t wall) (open_down g e t free) in
    subst (λ (p : SlabCell × SlabCell). Meets g p.0 p.1) (λ i. (sym (merged_left g e t plane wall) i, sym (merged_right g e t plane wall) i)) m

pub face_down : (g : Skeleton) (e : Edge) (c d : SlabCell) → IsPlaneSkeleton (with_edge g e) → SameFace (with_edge g e) c d → SameFace g (merged g e c) (merged g e d)
face_down g e c d plane (here c') = here _
face_down g e c d plane (right b x d' s m) = right _ _ _ (face_down g e b x plane s) (meets_down g e x d' plane m)
face_down g e c d plane (left b x d' s m) = left _ _ _ (face_down g e b x plane s) (meets_down g e d' x plane m)

-- ---- back: one face without e is at most two with e
pub split_on : (h : Skeleton) (a b c x d : SlabCell) → IsSplitBy h a b c x → SameFace h x d → IsSplitBy h a b c d
split_on h a b c x d (whole c' x' s) k = whole _ _ (face_trans h _ _ _ s k)
split_on h a b c x d (over_under c' x' s t) k = over_under _ _ s (face_trans h _ _ _ t k)
split_on h a b c x d (under_over c' x' s t) k = under_over _ _ s (face_trans h _ _ _ t k)

pub split_trans : (h : Skeleton) (a b c x d : SlabCell) → IsSplitBy h a b c x → IsSplitBy h a b x d → IsSplitBy h a b c d
split_trans h a b c x d s (whole x' d' k) = split_on h a b c x d s k
split_trans h a b c x d (whole c' x' s) (over_under x'' d' k l) = over_under _ _ (face_trans h _ _ _ s k) l
split_trans h a b c x d (over_under c' x' s t) (over_under x'' d' k l) =
    whole _ _ (face_trans h _ _ _ s (face_trans h _ _ _ (face_sym h _ _ k) (face_trans h _ _ _ (face_sym h _ _ t) l)))
split_trans h a b c x d (under_over c' x' s t) (over_under x'' d' k l) = whole _ _ (face_trans h _ _ _ s l)
split_trans h a b c x d (whole c' x' s) (under_over x'' d' k l) = under_over _ _ (face_trans h _ _ _ s k) l
split_trans h a b c x d (over_under c' x' s t) (under_over x'' d' k l) = whole _ _ (face_trans h _ _ _ s l)
split_trans h a b c x d (under_over c' x' s t) (under_over x'' d' k l) =
    whole _ _ (face_trans h _ _ _ s (face_trans h _ _ _ (face_sym h _ _ k) (face_trans h _ _ _ (face_sym h _ _ t) l)))

-- a cell beside e, in any slab that e spans
beside_above : (g : Skeleton) (e : Edge) (i : ℕ) → IsPlaneSkeleton (with_edge g e) → spans g i e ≡ true → ((w : Point) × Contains g.vertices w × (slab_right g w ≡ i)) → SameFace (with_edge g e) (forward_cell (with_edge g e) e) (above_e (with_edge g e) e i)
beside_above g e i plane h w =
    let h' : spans g (slab_right g w.0) e ≡ true = subst (λ n. spans g n e ≡ true) (sym w.2) h in
    let r : reaches_right e w.0 ≡ true = sym (spans_right (with_edge g e) w.0 e plane (on_own_wall (with_edge g e) w.0 plane w.1) (first g e)) ∙ h' in
    let a = and_parts (not (left_of w.0 e.low)) (left_of w.0 e.high) r in
    subst (λ n. SameFace (with_edge g e) (forward_cell (with_edge g e) e) (above_e (with_edge g e) e n)) w.2
    (chain (with_edge g e) e (above_e (with_edge g e) e) plane (first g e) (λ t wall th. over_wall (with_edge g e) e t plane wall (first g e) th) (slab_right g w.0) w.0 w.1 (not-true _ a.0) a.1 (omega arith))

beside_below : (g : Skeleton) (e : Edge) (i : ℕ) → IsPlaneSkeleton (with_edge g e) → spans g i e ≡ true → ((w : Point) × Contains g.vertices w × (slab_right g w ≡ i)) → SameFace (with_edge g e) (backward_cell (with_edge g e) e) (below_e (with_edge g e) e i)
beside_below g e i plane h w =
    let h' : spans g (slab_right g w.0) e ≡ true = subst (λ n. spans g n e ≡ true) (sym w.2) h in
    let r : reaches_right e w.0 ≡ true = sym (spans_right (with_edge g e) w.0 e plane (on_own_wall (with_edge g e) w.0 plane w.1) (first g e)) ∙ h' in
    let a = and_parts (not (left_of w.0 e.low)) (left_of w.0 e.high) r in
    subst (λ n. SameFace (with_edge g e) (backward_cell (with_edge g e) e) (below_e (with_edge g e) e n)) w.2
    (chain (with_edge g e) e (below_e (with_edge g e) e) plane (first g e) (λ t wall th. under_wall (with_edge g e) e t plane wall (first g e) th) (slab_right g w.0) w.0 w.1 (not-true _ a.0) a.1 (omega arith))

abbrev IsSplit : (g : Skeleton) (e : Edge) → SlabCell → SlabCell → Type 0
IsSplit g e c d = IsSplitBy (with_edge g e) (forward_cell (with_edge g e) e) (backward_cell (with_edge g e) e) c d

abbrev cell_at : ℕ → ℕ → SlabCell
cell_at i j = record { slab = i; place = j }

-- two cells that are one without e
data Twins (p j k : ℕ) : Type 0 where
  equal : j ≡ k → Twins p j k
  down : j ≡ p + 1 → k ≡ p → Twins p j k
  up : j ≡ p → k ≡ p + 1 → Twins p j k

twins : (p j k : ℕ) → cond (true && ltb p j) (j - 1) j ≡ cond (true && ltb p k) (k - 1) k → Twins p j k
twins p j k h =
    elim (cases_lt p j) [
      | inl a ↦ elim (cases_lt p k) [
        | inl b ↦ let h' : j - 1 ≡ k - 1 = rw (lt-ltb p j a, lt-ltb p k b) at h in equal (omega arith)
        | inr b ↦ let h' : j - 1 ≡ k = rw (lt-ltb p j a, le-ltb p k b) at h in down (omega arith) (omega arith)
      ]
      | inr a ↦ elim (cases_lt p k) [
        | inl b ↦ let h' : j ≡ k - 1 = rw (le-ltb p j a, lt-ltb p k b) at h in up (omega arith) (omega arith)
        | inr b ↦ let h' : j ≡ k = rw (le-ltb p j a, le-ltb p k b) at h in equal h'
      ]
    ]

fiber_at : (g : Skeleton) (e : Edge) (i j k : ℕ) → IsPlaneSkeleton (with_edge g e) → (spans g i e ≡ true → (w : Point) × Contains g.vertices w × (slab_right g w ≡ i)) → cond (spans g i e && ltb (place g i e) j) (j - 1) j ≡ cond (spans g i e && ltb (place g i e) k) (k - 1) k → IsSplit g e (cell_at i j) (cell_at i k)
fiber_at g e i j k plane real h =
    elim (cases_Bool (spans g i e)) [
      | inl s ↦
          let h' : cond (true && ltb (place g i e) j) (j - 1) j ≡ cond (true && ltb (place g i e) k) (k - 1) k = rw s at h in
          let p = same_place g e i plane in
          let A = face_sym (with_edge g e) _ _ (beside_above g e i plane s (real s)) in
          let B = beside_below g e i plane s (real s) in
          let A' = beside_above g e i plane s (real s) in
          let B' = face_sym (with_edge g e) _ _ (beside_below g e i plane s (real s)) in
          elim (twins (place g i e) j k h') [
            | equal q ↦ subst (λ n. IsSplit g e (cell_at i j) (cell_at i n)) q (whole _ _ (here _))
            | down q r ↦
                subst (λ (x : ℕ × ℕ). IsSplit g e (cell_at i x.0) (cell_at i x.1)) (λ n. ((ap (λ z. z + 1) p ∙ sym q) n, (p ∙ sym r) n)) (over_under _ _ A B)
            | up q r ↦
                subst (λ (x : ℕ × ℕ). IsSplit g e (cell_at i x.0) (cell_at i x.1)) (λ n. ((p ∙ sym q) n, (ap (λ z. z + 1) p ∙ sym r) n)) (under_over _ _ B' A')
          ]
      | inr s ↦
          let h' : j ≡ k = rw s at h in
          subst (λ n. IsSplit g e (cell_at i j) (cell_at i n)) h' (whole _ _ (here _))
    ]

fiber : (g : Skeleton) (e : Edge) (c d : SlabCell) → IsPlaneSkeleton (with_edge g e) → IsCell g e c → merged g e c ≡ merged g e d → IsSplit g e c d
fiber g e c d plane real h =
    let s : c.slab ≡ d.slab = ap (λ (x : SlabCell). x.slab) h in
    let d' : d ≡ cell_at c.slab d.place = λ i. record { slab = sym s i; place = d.place } in
    let p : (merged g e c).place ≡ (merged g e (cell_at c.slab d.place)).place = ap (λ (x : SlabCell). x.place) (h ∙ ap (merged g e) d') in
    subst (λ x. IsSplit g e c x) (sym d') (fiber_at g e c.slab c.place d.place plane real.beside p)

-- a meeting without e, lifted
record Lift (g : Skeleton) (e : Edge) (c d : SlabCell) : Type 0 where
  from : SlabCell
  to : SlabCell
  from_is : merged g e from ≡ c
  to_is : merged g e to ≡ d
  from_cell : IsCell g e from
  to_cell : IsCell g e to
  meet : Meets (with_edge g e) from to

lift : (g : Skeleton) (e : Edge) (c d : SlabCell) → IsPlaneSkeleton (with_edge g e) → left_of e.low e.high ≡ true → Meets g c d → Lift g e c d
lift g e c d plane long (across t wall free) =
    let w = wall_up g e t wall in
    let E = first g e in
    let T = wall.proper in
    record {
      from = left_cell (with_edge g e) t;
      to = right_cell (with_edge g e) t;
      from_is = merged_left g e t plane w;
      to_is = merged_right g e t plane w;
      from_cell = record {
        beside = λ s.
            let r = sym (spans_left (with_edge g e) t e plane w E) ∙ s in
            let k = wall_before (with_edge g e) e.low t plane T (plane.lower_in e E) (and_parts (left_of e.low t) (not (left_of e.high t)) r).0 in
            (k.0, k.1.is_vertex, sym k.1.next);
      };
      to_cell = record {
        beside = λ s.
            let a = on_wall_parts wall.vertex t wall.same in
            let V = plane.proper wall.vertex wall.is_vertex in
            (wall.vertex, wall.is_vertex, le_antisym _ _ (right_few (with_edge g e) wall.vertex t plane V T a.1) (right_few (with_edge g e) t wall.vertex plane T V a.0));
      };
      meet = across t w (open_up g e t plane T long free);
    }

pub face_up : (g : Skeleton) (e : Edge) (c d : SlabCell) → IsPlaneSkeleton (with_edge g e) → left_of e.low e.high ≡ true → SameFace g c d → (x y : SlabCell) → IsCell g e x → IsCell g e y → merged g e x ≡ c → merged g e y ≡ d → IsSplit g e x y
face_up g e c d plane long (here c') x y X Y p q = fiber g e x y plane X (p ∙ sym q)
face_up g e c d plane long (right b c' d' s m) x y X Y p q =
    let l = lift g e c' d' plane long m in
    let a = face_up g e b c' plane long s x l.from X l.from_cell p l.from_is in
    let a' = split_on _ _ _ _ _ _ a (right _ _ _ (here _) l.meet) in
    split_trans _ _ _ _ _ _ a' (fiber g e l.to y plane l.to_cell (l.to_is ∙ sym q))
face_up g e c d plane long (left b c' d' s m) x y X Y p q =
    let l = lift g e d' c' plane long m in
    let a = face_up g e b c' plane long s x l.to X l.to_cell p l.to_is in
    let a' = split_on _ _ _ _ _ _ a (left _ _ _ (here _) l.meet) in
    split_trans _ _ _ _ _ _ a' (fiber g e l.from y plane l.from_cell (l.from_is ∙ sym q))
