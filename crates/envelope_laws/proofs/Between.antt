-- Strictly between two neighbours of the envelope no point of an edge is further out than the edge between them; in a gap no edge has a point.
use Rattle.std.proofs.Common.{◌≡◌, true, false, arith, sym, ap, subst, ◌∙◌, inl, inr}
use Rattle.std.specs.Prelude.{pos, ◌<ℤ◌, ◌≤ℤ◌, not, Option, Some, None}
use Rattle.std.specs.List.{Contains}
use Rattle.std.proofs.lemmas.Int.{ints, by_lt_z}
use Rattle.std.proofs.lemmas.Bool.{false≢true, and_parts, and_from, cases_Bool, le-ltb, lt-ltb, le-leb, lt-leb}
use lib.Dec.{leb, ltb}
use Rattle.exact_plane.specs.Point.{Point}
use Rattle.plane_graphs.specs.Graph.{Edge}
use Rattle.slab_laws.specs.Skeleton.{Skeleton, HasWeight, IsPlaneSkeleton, left_of, on_wall, side}
use Rattle.slab_laws.specs.Slabs.{spans, slab_left, slab_right}
use Rattle.slab_laws.specs.Faces.{passes}
use Rattle.slab_faces.proofs.Walls.{left_of-irrefl, left_of-asym, left_of-before, left_of-after, run_positive, on_wall_parts}
use Rattle.slab_faces.proofs.Order.{Passes}
use Rattle.slab_faces.proofs.Cells.{left_few, left_more}
use Rattle.slab_faces.proofs.Turns.{wall_before}
use Rattle.envelope_laws.specs.declared.which.Which.{Which}
use Rattle.envelope_laws.specs.Envelopes.{point_beyond, is_extreme}
use Rattle.envelope_laws.specs.Outermost.{IsOutermostIn, IsGap, IsOutermostOf}
use Rattle.envelope_laws.specs.EnvelopeLaws.{IsOnEdge}
use Rattle.envelope_laws.proofs.Outward.{turned, level, point_in, keeps, outside_from, further}
use Rattle.envelope_laws.proofs.Steps.{passing_beyond, edge_passes, envelope_goes_on}
use Rattle.envelope_laws.proofs.Ends.{not_before, end_on, IsEndBeyond}

-- no vertex of the envelope is strictly between the two abscissas
pub record IsStretch (w : Which) (g : Skeleton) (v z : Point) : Type 0 where
  pub plane : IsPlaneSkeleton g
  pub first : Contains g.vertices v
  pub second : Contains g.vertices z
  pub none : (x : Point) → Contains g.vertices x → left_of v x ≡ true → left_of x z ≡ true → is_extreme w g x ≡ false

-- strictly between two neighbours with an edge between them no point of an edge is further out than that edge, which goes all the way; in a gap no edge has a point
pub record NoneBeyondBetween : Type 0 where
  pub along : (w : Which) (g : Skeleton) (v z t : Point) (e f : Edge) → IsStretch w g v z → IsOutermostIn w g (slab_right g v) e → Contains g.edges f → left_of v t ≡ true → left_of t z ≡ true → IsOnEdge f t → (passes t e ≡ true) × (point_beyond w t e ≡ false)
  pub gap : (w : Which) (g : Skeleton) (v z t : Point) (f : Edge) → IsStretch w g v z → IsGap g (slab_right g v) → Contains g.edges f → left_of v t ≡ true → left_of t z ≡ true → IsOnEdge f t → ⊥

module _ (w : Which) (g : Skeleton) (v z : Point) (s : IsStretch w g v z) where
  plane : IsPlaneSkeleton g
  plane = s.plane

  V : HasWeight v
  V = plane.proper v s.first

  Z : HasWeight z
  Z = plane.proper z s.second

  none_on : (x : Point) → Contains g.vertices x → left_of v x ≡ true → left_of x z ≡ true → (y : Point) → Contains g.vertices y → on_wall y x ≡ true → is_extreme w g y ≡ false
  none_on x X a b y Y on =
      let o = on_wall_parts y x on in
      let P = plane.proper x X in
      let Q = plane.proper y Y in
      s.none y Y (left_of-before v x y V P Q a o.0) (left_of-after y x z Q P Z o.1 b)

  spanning : (f : Edge) (t : Point) → Contains g.edges f → HasWeight t → left_of f.low t ≡ true → left_of f.high t ≡ false → spans g (slab_left g t) f ≡ true
  spanning f t F T a b = and_from _ _ (le-leb _ _ (left_few g f.low t plane (plane.proper_edge f F).0 T a)) (lt-ltb _ _ (left_more g f.high t plane (plane.upper_in f F) T b))

  -- an end of an edge strictly between has an edge that passes further out
  beyond_end : (t h : Point) → HasWeight t → left_of v t ≡ true → left_of t z ≡ true → IsEndBeyond w g t h → (left_of v h ≡ true) × (left_of h z ≡ true) × ((k : Edge) × Contains g.edges k × (passes h k ≡ true) × (pos 0 <ℤ turned w (side k h)))
  beyond_end t h T a b i =
      let H = plane.proper h i.is_vertex in
      let a' = left_of-before v t h V T H a i.left in
      let b' = left_of-after h t z H T Z i.right b in
      (a', b', passing_beyond w g h plane i.is_vertex (none_on h i.is_vertex a' b') h i.is_vertex (and_from _ _ (ap not (left_of-irrefl h)) (ap not (left_of-irrefl h))) i.is_end)

  -- what is outermost, or the gap, on the left of a point between
  still : (o : Option Edge) → IsOutermostOf w g (slab_right g v) o → (t : Point) → HasWeight t → left_of v t ≡ true → left_of t z ≡ true → IsOutermostOf w g (slab_left g t) o
  still o h t T a b =
      let r = wall_before g v t plane T s.first a in
      let R = plane.proper r.0 r.1.is_vertex in
      subst (λ i. IsOutermostOf w g i o) (sym r.1.next) (envelope_goes_on w g v r.0 z o plane s.first r.1.is_vertex Z r.2 (left_of-before r.0 t z R T Z r.1.earlier (left_of-asym t z b)) s.none h)

  -- ---- where an edge is outermost
  module _ (e : Edge) (h : IsOutermostIn w g (slab_right g v) e) where
    passes_t : (t : Point) → HasWeight t → left_of v t ≡ true → left_of t z ≡ true → passes t e ≡ true
    passes_t t T a b =
        let i = still (Some e) h t T a b in
        let p = plane.proper_edge e i.is_edge in
        let q = and_parts (leb (slab_right g e.low) (slab_left g t)) (ltb (slab_left g t) (slab_right g e.high)) i.spanning in
        let from : left_of e.low t ≡ true = elim (cases_Bool (left_of e.low t)) [
          | inl k ↦ k
          | inr k ↦ absurd (false≢true (sym (lt-leb (slab_right g e.low) (slab_left g t) (left_more g e.low t plane (plane.lower_in e i.is_edge) T k)) ∙ q.0))
        ] in
        let to : left_of t e.high ≡ true = elim (cases_Bool (left_of t e.high)) [
          | inl k ↦ k
          | inr k ↦ elim (cases_Bool (left_of e.high t)) [
            | inl l ↦ absurd (false≢true (sym (le-ltb (slab_left g t) (slab_right g e.high) (left_few g e.high t plane p.1 T l)) ∙ q.1))
            | inr l ↦
                let X = plane.upper_in e i.is_edge in
                let a' = left_of-before v t e.high V T p.1 a l in
                let b' = left_of-after e.high t z p.1 T Z k b in
                let d = and_parts (left_of e.low e.high) (left_of e.high e.high) (edge_passes w g e.high plane X (none_on e.high X a' b') e (still (Some e) h e.high p.1 a' b')) in
                absurd (false≢true (sym (left_of-irrefl e.high) ∙ d.1))
          ]
        ] in
        and_from _ _ from to

    -- an edge through t's abscissa from the left, on t or further out
    from_left : (f : Edge) (t : Point) → Contains g.edges f → HasWeight t → left_of v t ≡ true → left_of t z ≡ true → left_of f.low t ≡ true → left_of f.high t ≡ false → pos 0 ≤ℤ turned w (side f t) → pos 0 ≤ℤ turned w (side e t)
    from_left f t F T a b from to k =
        let i = still (Some e) h t T a b in
        let E = i.is_edge in
        let c = and_parts (left_of e.low t) (left_of t e.high) (passes_t t T a b) in
        let p = plane.proper_edge e E in
        let r = plane.proper_edge f F in
        let P : Passes f e t = record {
          f_from = left_of-asym f.low t from;
          f_to = to;
          e_from = left_of-asym e.low t c.0;
          e_to = left_of-asym t e.high c.1;
          f_long = left_of-before f.low t f.high r.0 T r.1 from to;
          e_long = left_of-before e.low t e.high p.0 T p.1 c.0 (left_of-asym t e.high c.1);
          f_e = left_of-before f.low t e.high r.0 T p.1 from (left_of-asym t e.high c.1);
          e_f = left_of-before e.low t f.high p.0 T r.1 c.0 to;
        } in
        by_lt_z (turned w (side e t)) (pos 0)
        (λ n. absurd (i.none f F (spanning f t F T from to) (outside_from w f e t P (further f e t (run_positive e P.e_long) (run_positive f P.f_long) w k n))))
        (λ n. n)

    along : (f : Edge) (t : Point) → Contains g.edges f → left_of v t ≡ true → left_of t z ≡ true → IsOnEdge f t → (passes t e ≡ true) × (point_beyond w t e ≡ false)
    along f t F a b on =
        let T = on.proper in
        let to = (not_before f.high t on.to).0 in
        let side' : pos 0 ≤ℤ turned w (side e t) = elim (cases_Bool (left_of f.low t)) [
          | inl k ↦ from_left f t F T a b k to (level w _ on.on)
          | inr k ↦
              let i = end_on w g f t plane F on k in
              let x = i.0 in
              let X = plane.proper x i.1.is_vertex in
              let r = beyond_end t x T a b i.1 in
              let d = r.2 in
              let c = and_parts (left_of d.0.low x) (left_of x d.0.high) d.2 in
              let n = from_left d.0 x d.1 X r.0 r.1 c.0 (left_of-asym x d.0.high c.1) (let y = d.3 in omega (arith, ints)) in
              let q = plane.proper_edge e h.is_edge in
              let m = and_parts (left_of e.low t) (left_of t e.high) (passes_t t T a b) in
              keeps w e x t X T (run_positive e (left_of-after e.low t e.high q.0 T q.1 (left_of-asym e.low t m.0) m.1)) i.1.left i.1.right i.1.none n
        ] in
        (passes_t t T a b, point_in w e t side')

  -- ---- in a gap
  in_gap : IsGap g (slab_right g v) → (f : Edge) (t : Point) → Contains g.edges f → left_of v t ≡ true → left_of t z ≡ true → IsOnEdge f t → ⊥
  in_gap h f t F a b on =
      let T = on.proper in
      elim (cases_Bool (left_of f.low t)) [
        | inl k ↦ false≢true (sym (still None h t T a b f F) ∙ spanning f t F T k (not_before f.high t on.to).0)
        | inr k ↦
            let i = end_on w g f t plane F on k in
            let x = i.0 in
            let r = beyond_end t x T a b i.1 in
            let d = r.2 in
            let c = and_parts (left_of d.0.low x) (left_of x d.0.high) d.2 in
            false≢true (sym (still None h x (plane.proper x i.1.is_vertex) r.0 r.1 d.0 d.1) ∙ spanning d.0 x d.1 (plane.proper x i.1.is_vertex) c.0 (left_of-asym x d.0.high c.1))
      ]

pub none_beyond_between : NoneBeyondBetween
none_beyond_between = record {
  along = λ w g v z t e f s h F a b on. along w g v z s e h f t F a b on;
  gap = λ w g v z t f s h F a b on. in_gap w g v z s h f t F a b on;
}
