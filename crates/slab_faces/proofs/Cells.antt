-- Cells against points of a wall: the weight above a cell is that above each point that borders it.
use Rattle.std.proofs.Common.{◌≡◌, ℕ, ◌+◌, ◌<◌, ◌≤◌, Bool, true, false, cond, arith, refl, sym, ap, ◌∙◌}
use Rattle.std.specs.Prelude.{not, ◌&&◌, pos, ◌<ℤ◌}
use Rattle.std.specs.List.{sum_by, count_by, Contains}
use Rattle.std.proofs.lemmas.Int.{ints}
use Rattle.std.proofs.lemmas.Bool.{false≢true, and_parts, and_from, not-true, false_from_ne_true, le-ltb, lt-ltb, le-leb, lt-leb}
use lib.Dec.{leb, ltb}
use lib.IntN.{*ℤ-zero}
use Rattle.exact_plane.specs.Point.{Point}
use Rattle.plane_graphs.specs.Graph.{Edge}
use Rattle.slab_laws.specs.Skeleton.{Skeleton, HasWeight, left_of, run, side, gap, over, under, IsPlaneSkeleton, below}
use Rattle.slab_laws.specs.Slabs.{reaches_left, reaches_right, slab_left, slab_right, spans, place, left_count, right_count}
use Rattle.slab_laws.specs.Meets.{IsOnWall, Meets, SameFace, across, here, right, left}
use Rattle.slab_laws.specs.Weights.{Even, IsEvenAtVertices, weight_above, left_weight, right_weight}
use Rattle.slab_laws.specs.declared.slab_cell.SlabCell.{SlabCell}
use Rattle.slab_faces.proofs.Ints.{times_less, times_at_most}
use Rattle.slab_faces.proofs.Parity.{parity_across}
use Rattle.slab_faces.proofs.Sums.{each, sum_by-same, fewer, fewer_than}
use Rattle.slab_faces.proofs.Walls.{left_of-irrefl, left_of-asym, left_of-before, left_of-after, on_wall_parts, run_positive}
use Rattle.slab_faces.proofs.Order.{Passes, below_from, below_asym, gap_positive}

-- p ≤ q ≤ r
pub not_right_trans : (p q r : Point) → HasWeight p → HasWeight q → HasWeight r → left_of q p ≡ false → left_of r q ≡ false → left_of r p ≡ false
not_right_trans p q r P Q R a b = false_from_ne_true _ (λ h. false≢true (sym a ∙ left_of-after q r p Q R P b h))

-- ---- how many vertices are to the left
pub left_few : (g : Skeleton) (p t : Point) → IsPlaneSkeleton g → HasWeight p → HasWeight t → left_of p t ≡ true → slab_right g p ≤ slab_left g t
left_few g p t plane P T h =
    fewer (λ v. not (left_of p v)) (λ v. left_of v t) g.vertices (λ v in' k. left_of-after v p t (plane.proper v in') P T (not-true _ k) h)

left_many : (g : Skeleton) (p t : Point) → IsPlaneSkeleton g → IsOnWall g t → HasWeight p → left_of p t ≡ false → slab_left g t < slab_right g p
left_many g p t plane wall P h =
    let w = on_wall_parts wall.vertex t wall.same in
    let W = plane.proper wall.vertex wall.is_vertex in
    let T = wall.proper in
    fewer_than (λ v. left_of v t) (λ v. not (left_of p v)) g.vertices wall.vertex wall.is_vertex w.0
    (ap not (not_right_trans wall.vertex t p W T P w.1 h))
    (λ v in' k. ap not (left_of-asym v p (left_of-before v t p (plane.proper v in') T P k h)))

-- as left_many, of a vertex
pub left_more : (g : Skeleton) (p t : Point) → IsPlaneSkeleton g → Contains g.vertices p → HasWeight t → left_of p t ≡ false → slab_left g t < slab_right g p
left_more g p t plane in' T h =
    let P = plane.proper p in' in
    fewer_than (λ v. left_of v t) (λ v. not (left_of p v)) g.vertices p in' h (ap not (left_of-irrefl p))
    (λ v i k. ap not (left_of-asym v p (left_of-before v t p (plane.proper v i) T P k h)))

pub right_few : (g : Skeleton) (p t : Point) → IsPlaneSkeleton g → HasWeight p → HasWeight t → left_of t p ≡ false → slab_right g p ≤ slab_right g t
right_few g p t plane P T h =
    fewer (λ v. not (left_of p v)) (λ v. not (left_of t v)) g.vertices (λ v in' k. ap not (not_right_trans v p t (plane.proper v in') P T (not-true _ k) h))

pub right_many : (g : Skeleton) (p t : Point) → IsPlaneSkeleton g → Contains g.vertices p → HasWeight t → left_of t p ≡ true → slab_right g t < slab_right g p
right_many g p t plane in' T h =
    let P = plane.proper p in' in
    fewer_than (λ v. not (left_of t v)) (λ v. not (left_of p v)) g.vertices p in' (ap not h) (ap not (left_of-irrefl p))
    (λ v i k. ap not (left_of-asym v p (left_of-after v t p (plane.proper v i) T P (not-true _ k) h)))

-- ---- so an edge spans the slab beside the wall where it reaches the wall
pub both : (a b c d : Bool) → a ≡ c → b ≡ d → (a && b) ≡ (c && d)
both a b c d e f = rw (e, f) refl

pub leb_by : (m n : ℕ) (b : Bool) → (b ≡ true → m ≤ n) → (b ≡ false → n < m) → leb m n ≡ b
leb_by m n true h k = le-leb m n (h refl)
leb_by m n false h k = lt-leb m n (k refl)

pub ltb_by : (m n : ℕ) (b : Bool) → (b ≡ true → n ≤ m) → (b ≡ false → m < n) → ltb m n ≡ not b
ltb_by m n true h k = le-ltb m n (h refl)
ltb_by m n false h k = lt-ltb m n (k refl)

pub leb_not : (m n : ℕ) (b : Bool) → (b ≡ false → m ≤ n) → (b ≡ true → n < m) → leb m n ≡ not b
leb_not m n true h k = lt-leb m n (k refl)
leb_not m n false h k = le-leb m n (h refl)

pub ltb_yes : (m n : ℕ) (b : Bool) → (b ≡ false → n ≤ m) → (b ≡ true → m < n) → ltb m n ≡ b
ltb_yes m n true h k = lt-ltb m n (k refl)
ltb_yes m n false h k = le-ltb m n (h refl)

pub spans_left : (g : Skeleton) (t : Point) (e : Edge) → IsPlaneSkeleton g → IsOnWall g t → Contains g.edges e → spans g (slab_left g t) e ≡ reaches_left e t
spans_left g t e plane wall in' =
    let p = plane.proper_edge e in' in
    both _ _ _ _
    (leb_by _ _ _ (λ h. left_few g e.low t plane p.0 wall.proper h) (λ h. left_many g e.low t plane wall p.0 h))
    (ltb_by _ _ _ (λ h. left_few g e.high t plane p.1 wall.proper h) (λ h. left_many g e.high t plane wall p.1 h))

pub spans_right : (g : Skeleton) (t : Point) (e : Edge) → IsPlaneSkeleton g → IsOnWall g t → Contains g.edges e → spans g (slab_right g t) e ≡ reaches_right e t
spans_right g t e plane wall in' =
    let p = plane.proper_edge e in' in
    both _ _ _ _
    (leb_not _ _ _ (λ h. right_few g e.low t plane p.0 wall.proper h) (λ h. right_many g e.low t plane (plane.lower_in e in') wall.proper h))
    (ltb_yes _ _ _ (λ h. right_few g e.high t plane p.1 wall.proper h) (λ h. right_many g e.high t plane (plane.upper_in e in') wall.proper h))

-- ---- on one side of the wall
-- the edges that reach the wall on that side
pub record IsSideOf (g : Skeleton) (t : Point) (i : ℕ) (reach : Edge → Bool) : Type 0 where
  pub spanned : (e : Edge) → Contains g.edges e → spans g i e ≡ reach e
  pub passes : (f e : Edge) → Contains g.edges f → Contains g.edges e → reach f ≡ true → reach e ≡ true → Passes f e t

pub left_side : (g : Skeleton) (t : Point) → IsPlaneSkeleton g → IsOnWall g t → IsSideOf g t (slab_left g t) (λ e. reaches_left e t)
left_side g t plane wall = record {
  spanned = λ e in'. spans_left g t e plane wall in';
  passes = λ f e F E rf re.
      let a = and_parts (left_of f.low t) (not (left_of f.high t)) rf in
      let b = and_parts (left_of e.low t) (not (left_of e.high t)) re in
      let a' = not-true _ a.1 in
      let b' = not-true _ b.1 in
      let p = plane.proper_edge f F in
      let q = plane.proper_edge e E in
      let T = wall.proper in
      record {
        f_from = left_of-asym _ _ a.0;
        f_to = a';
        e_from = left_of-asym _ _ b.0;
        e_to = b';
        f_long = left_of-before f.low t f.high p.0 T p.1 a.0 a';
        e_long = left_of-before e.low t e.high q.0 T q.1 b.0 b';
        f_e = left_of-before f.low t e.high p.0 T q.1 a.0 b';
        e_f = left_of-before e.low t f.high q.0 T p.1 b.0 a';
      };
}

pub right_side : (g : Skeleton) (t : Point) → IsPlaneSkeleton g → IsOnWall g t → IsSideOf g t (slab_right g t) (λ e. reaches_right e t)
right_side g t plane wall = record {
  spanned = λ e in'. spans_right g t e plane wall in';
  passes = λ f e F E rf re.
      let a = and_parts (not (left_of t f.low)) (left_of t f.high) rf in
      let b = and_parts (not (left_of t e.low)) (left_of t e.high) re in
      let a' = not-true _ a.0 in
      let b' = not-true _ b.0 in
      let p = plane.proper_edge f F in
      let q = plane.proper_edge e E in
      let T = wall.proper in
      record {
        f_from = a';
        f_to = left_of-asym _ _ a.1;
        e_from = b';
        e_to = left_of-asym _ _ b.1;
        f_long = left_of-after f.low t f.high p.0 T p.1 a' a.1;
        e_long = left_of-after e.low t e.high q.0 T q.1 b' b.1;
        f_e = left_of-after f.low t e.high p.0 T q.1 a' b.1;
        e_f = left_of-after e.low t f.high q.0 T p.1 b' a.1;
      };
}

gap_under : (f e : Edge) (t : Point) → pos 0 <ℤ run f → pos 0 <ℤ run e → under f t ≡ true → under e t ≡ false → pos 0 <ℤ gap f e t
unfolding gap under
gap_under f e t F E a b =
    let k = times_less (run e) (pos 0) (side f t) E (omega (arith, ints)) in
    let l = times_at_most (run f) (side e t) (pos 0) F (omega (arith, ints)) in
    let z = *ℤ-zero (run e) in
    let z' = *ℤ-zero (run f) in
    omega (arith, ints)

-- f below t, and e at or above it
pub under_below : (g : Skeleton) (t : Point) (i : ℕ) (reach : Edge → Bool) (f e : Edge) → IsSideOf g t i reach → Contains g.edges f → Contains g.edges e → reach f ≡ true → reach e ≡ true → under f t ≡ true → under e t ≡ false → below f e ≡ true
under_below g t i reach f e s F E rf re a b =
    let p = s.passes f e F E rf re in
    below_from f e t p (gap_under f e t (run_positive f p.f_long) (run_positive e p.e_long) a b)

-- f at or below t, and e above it
ordered : (g : Skeleton) (t : Point) (i : ℕ) (reach : Edge → Bool) (f e : Edge) → IsSideOf g t i reach → Contains g.edges f → Contains g.edges e → reach f ≡ true → reach e ≡ true → over f t ≡ false → over e t ≡ true → below f e ≡ true
ordered g t i reach f e s F E rf re a b =
    let p = s.passes f e F E rf re in
    below_from f e t p (gap_positive f e t (run_positive f p.f_long) (run_positive e p.e_long) a b)

-- an edge that is above t has at least all the edges at or below t below it
pub place_over : (g : Skeleton) (t : Point) (i : ℕ) (reach : Edge → Bool) (e : Edge) → IsSideOf g t i reach → Contains g.edges e → reach e ≡ true → over e t ≡ true → count_by (λ f. reach f && not (over f t)) g.edges ≤ place g i e
place_over g t i reach e s E re o =
    fewer (λ f. reach f && not (over f t)) (λ f. spans g i f && below f e) g.edges (λ f F h.
    let a = and_parts (reach f) (not (over f t)) h in
    and_from _ _ (s.spanned f F ∙ a.0) (ordered g t i reach f e s F E a.0 re (not-true _ a.1) o))

-- one that isn't has fewer
pub place_under : (g : Skeleton) (t : Point) (i : ℕ) (reach : Edge → Bool) (e : Edge) → IsPlaneSkeleton g → IsSideOf g t i reach → Contains g.edges e → reach e ≡ true → over e t ≡ false → place g i e < count_by (λ f. reach f && not (over f t)) g.edges
place_under g t i reach e plane s E re o =
    fewer_than (λ f. spans g i f && below f e) (λ f. reach f && not (over f t)) g.edges e E
    (false_from_ne_true _ (λ h. let a = and_parts (spans g i e) (below e e) h in below_asym g e e plane E E a.1 a.1))
    (and_from _ _ re (ap not o))
    (λ f F h.
    let a = and_parts (spans g i f) (below f e) h in
    let rf = sym (s.spanned f F) ∙ a.0 in
    and_from _ _ rf (ap not (false_from_ne_true _ (λ k. below_asym g f e plane F E a.1 (ordered g t i reach e f s E F re rf o k)))))

pub on_side : (x y r o : Bool) → x ≡ r → (r ≡ true → y ≡ o) → (x && y) ≡ (r && o)
on_side x y true o e h = rw e (h refl)
on_side x y false o e h = rw e refl

pub cell_weight : (g : Skeleton) (m : Edge → ℕ) (t : Point) (i : ℕ) (reach : Edge → Bool) → IsPlaneSkeleton g → IsSideOf g t i reach → weight_above g m i (count_by (λ f. reach f && not (over f t)) g.edges) ≡ sum_by (λ e. cond (reach e && over e t) (m e) 0) g.edges
cell_weight g m t i reach plane s =
    sum_by-same _ _ g.edges (each _ g.edges (λ e E.
    ap (λ b. cond b (m e) 0) (on_side (spans g i e) _ (reach e) (over e t) (s.spanned e E) (λ re.
    leb_by _ _ (over e t) (λ o. place_over g t i reach e s E re o) (λ o. place_under g t i reach e plane s E re o)))))

-- ---- parity is the same on cells that meet
pub parity_meets : (g : Skeleton) (m : Edge → ℕ) (c d : SlabCell) → IsPlaneSkeleton g → IsEvenAtVertices g m → Meets g c d → Even (weight_above g m c.slab c.place + weight_above g m d.slab d.place)
parity_meets g m c d plane even (across t wall free) =
    let a : weight_above g m (slab_left g t) (left_count g t) ≡ left_weight g m t = cell_weight g m t (slab_left g t) (λ e. reaches_left e t) plane (left_side g t plane wall) in
    let b : weight_above g m (slab_right g t) (right_count g t) ≡ right_weight g m t = cell_weight g m t (slab_right g t) (λ e. reaches_right e t) plane (right_side g t plane wall) in
    let p : Even (left_weight g m t + right_weight g m t) = parity_across g m t plane even wall.proper free in
    rw (a, b) p

pub parity_face : (g : Skeleton) (m : Edge → ℕ) (c d : SlabCell) → IsPlaneSkeleton g → IsEvenAtVertices g m → SameFace g c d → Even (weight_above g m c.slab c.place + weight_above g m d.slab d.place)
parity_face g m c d plane even (here c') = omega arith
parity_face g m c d plane even (right b c' d' s h) =
    let x = parity_face g m b c' plane even s in
    let y = parity_meets g m c' d' plane even h in
    omega arith
parity_face g m c d plane even (left b c' d' s h) =
    let x = parity_face g m b c' plane even s in
    let y = parity_meets g m d' c' plane even h in
    omega arith
