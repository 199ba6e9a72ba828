-- A plane graph is the plane skeleton of the laws of faces.
use Rattle.std.proofs.Common.{◌≡◌, ℕ, ◌+◌, List, [], ◌∷◌, Bool, true, false, cond, not, ◌&&◌, ℤ, pos, ◌*ℤ◌, ◌<ℤ◌, refl, sym, ap, ◌∙◌, subst, inl, inr, ⊎_elim, Contains, arith}
use Rattle.std.specs.Ordering.{is_lt}
use Rattle.std.specs.declared.cmp.Ordering.{Ordering}
use Rattle.std.specs.declared.cmp.Ordering.TheVariants.{Less}
use Rattle.std.specs.Cmp.{IsTotalOrder, tied_itself}
use Rattle.std.specs.List.{count_by}
use Rattle.std.proofs.lemmas.Int.{ints}
use Rattle.std.proofs.lemmas.List.Sums.{sum_by-cons}
use lib.Signed.{lt_z}
use Rattle.integers.proofs.Decisions.{or_out}
use Rattle.integers.proofs.Compare.{less_in}
use Rattle.integers.proofs.Tests.{not_true, lt_yes, lt_no, lt_is}
use Rattle.exact_plane.specs.Point.{Point}
use Rattle.exact_plane.specs.PointOrder.{point_cmp}
use Rattle.exact_plane.specs.PointOrderLaws.{point_cmp_total, and_true}
use Rattle.plane_graphs.specs.Ascending.{Member, IsAscending}
use Rattle.plane_graphs.specs.Line.{IsProper}
use Rattle.plane_graphs.specs.Graph.{Graph, Mark, Edge, edge_cmp, edge_of, edges, det, collinear, inside, crosses, is_positive, is_negative}
use Rattle.plane_graphs.specs.Plane.{IsPlane}
use Rattle.plane_graphs.proofs.Ascending.{All-member, to_member, from_member}
use Rattle.plane_graphs.proofs.Lists.{and_in, not_out, not_in, clash, decide, or_left, or_right}
use Rattle.plane_graphs.proofs.Order.{Tri, tri, lt_out}
use Rattle.plane_graphs.proofs.Order.Tri.{less, same, more}
use Rattle.plane_graphs.proofs.Closed.{inside_in}
use Rattle.exact_plane.specs.Plane.{RunsForward}
use Rattle.plane_graphs.proofs.Lines.{span_a, span_b, span_runs, zero_in}
use Rattle.plane_graphs.proofs.Crossed.{runs_lt, none_cross}
use Rattle.plane_graphs.proofs.Meaning.{edge_cmp_total, edges_ascend, edge_out, edge_in}
use Rattle.slab_laws.specs.Skeleton as counted
use Rattle.slab_laws.specs.Text.{skeleton}
use Rattle.slab_faces.specs.SkeletonLaws.{GraphIsPlaneSkeleton}
use Rattle.slab_faces.proofs.Parity.{same_point_is, same_point_refl}

-- ---- an element of an ascending list counts once
module _ {X : Type 0} (cmp : X → X → Ordering) (o : IsTotalOrder cmp) (t : X → Bool) where
  none_count : (xs : List X) → ((z : X) → Member z xs → t z ≡ false) → count_by t xs ≡ 0
  none_count [] h = refl
  none_count (x ∷ xs) h =
      let e : count_by t (x ∷ xs) ≡ cond (t x) 1 0 + count_by t xs = sum_by-cons (λ y. cond (t y) 1 0) x xs in
      let k : cond {A = ℕ} (t x) 1 0 ≡ 0 = rw (h x (inl refl)) refl in
      let ih = none_count xs (λ z m. h z (inr m)) in
      omega arith

  later : (x z : X) (xs : List X) → IsAscending cmp (x ∷ xs) → Member z xs → z ≡ x → ⊥
  later x z xs a m e = let b = All-member (λ y. cmp x y ≡ Less) z xs a.0 m in let c = tied_itself o x in let d : cmp x x ≡ Less = subst (λ y. cmp x y ≡ Less) e b in cc

  pub once : (x : X) (xs : List X) → IsAscending cmp xs → Member x xs → t x ≡ true → ((z : X) → t z ≡ true → z ≡ x) → count_by t xs ≡ 1
  once x [] a m h u = absurd m
  once x (y ∷ ys) a (inl i) h u =
      let e : count_by t (y ∷ ys) ≡ cond (t y) 1 0 + count_by t ys = sum_by-cons (λ z. cond (t z) 1 0) y ys in
      let hy : t y ≡ true = subst (λ z. t z ≡ true) i h in
      let k : cond {A = ℕ} (t y) 1 0 ≡ 1 = rw hy refl in
      let n = none_count ys (λ z m. not_true (t z) (λ b. later y z ys a m (u z b ∙ i))) in
      omega arith
  once x (y ∷ ys) a (inr i) h u =
      let e : count_by t (y ∷ ys) ≡ cond (t y) 1 0 + count_by t ys = sum_by-cons (λ z. cond (t z) 1 0) y ys in
      let k : cond {A = ℕ} (t y) 1 0 ≡ 0 = (let n : t y ≡ false = not_true (t y) (λ b. later y x ys a i (sym (u y b))) in rw n refl) in
      let ih = once x ys a.1 i h u in
      omega arith

-- ---- tests of integers
against : (a b : ℤ) → a <ℤ b → lt_z a b ≡ false → ⊥
against a b h e = omega (arith, ints)

-- ---- the order of points, by walls and heights
pub comes_before : (p q : Point) → RunsForward (span_a p q) (span_b p q) → counted.precedes p q ≡ true
unfolding counted.left_of counted.lower_than
comes_before p q (inl h) = or_left (lt_z (p.x *ℤ q.w) (q.x *ℤ p.w)) _ (lt_yes (p.x *ℤ q.w) (q.x *ℤ p.w) (omega (arith, ints)))
comes_before p q (inr h) =
    let e : span_b p q ≡ pos 0 = h.0 in
    let l : span_a p q <ℤ pos 0 = h.1 in
    or_right (lt_z (p.x *ℤ q.w) (q.x *ℤ p.w)) _
    (and_in (not_in (lt_z (q.x *ℤ p.w) (p.x *ℤ q.w)) (λ k. turn (lt_is (q.x *ℤ p.w) (p.x *ℤ q.w) k) e)) (lt_yes (p.y *ℤ q.w) (q.y *ℤ p.w) (omega (arith, ints))))
  where
    turn : (q.x *ℤ p.w) <ℤ (p.x *ℤ q.w) → span_b p q ≡ pos 0 → ⊥
    turn k e = omega (arith, ints)

pub comes_runs : (p q : Point) → counted.precedes p q ≡ true → RunsForward (span_a p q) (span_b p q)
unfolding counted.left_of counted.lower_than
comes_runs p q h =
    ⊎_elim (λ e. inl (let l = lt_is (p.x *ℤ q.w) (q.x *ℤ p.w) e in omega (arith, ints)))
    (λ e. let w = and_true (not (lt_z (q.x *ℤ p.w) (p.x *ℤ q.w))) (lt_z (p.y *ℤ q.w) (q.y *ℤ p.w)) e in
    ⊎_elim (λ f. inl (let l = lt_is (p.x *ℤ q.w) (q.x *ℤ p.w) f in omega (arith, ints)))
    (λ f. inr (flat (not_out (lt_z (q.x *ℤ p.w) (p.x *ℤ q.w)) w.0) f, let l = lt_is (p.y *ℤ q.w) (q.y *ℤ p.w) w.1 in omega (arith, ints)))
    (decide (lt_z (p.x *ℤ q.w) (q.x *ℤ p.w))))
    (or_out (lt_z (p.x *ℤ q.w) (q.x *ℤ p.w)) _ h)
  where
    flat : lt_z (q.x *ℤ p.w) (p.x *ℤ q.w) ≡ false → lt_z (p.x *ℤ q.w) (q.x *ℤ p.w) ≡ false → span_b p q ≡ pos 0
    flat e f = omega (arith, ints)

-- two points of which none comes before the other are one
pub one_point : (p q : Point) → IsProper p → IsProper q → counted.precedes p q ≡ false → counted.precedes q p ≡ false → p ≡ q
one_point p q P Q a b = by (tri p q)
  where
    by : Tri p q → p ≡ q
    by (less l) = clash (comes_before p q (span_runs p q P Q l)) a
    by (same e) = e
    by (more l) = clash (comes_before q p (span_runs q p Q P l)) b

module _ (g : Graph) (pl : IsPlane g) where
  -- an edge there comes from a mark
  origin : (e : Edge) → Contains (edges g) e → (m : Mark) × Member m g.marks × (e ≡ edge_of m)
  origin e c = edge_out g e (to_member (edges g) e c)

  vertex_of : (v : Point) → Contains g.points v → Member v g.points
  vertex_of v c = to_member g.points v c

  has_vertex : (p : Point) → Member p g.points → Contains g.points p
  has_vertex p m = from_member g.points p m

  point_once : (p : Point) → Member p g.points → count_by (λ v. counted.same_point p v) g.points ≡ 1
  point_once p m = once point_cmp point_cmp_total (λ v. counted.same_point p v) p g.points pl.points_ascend m (same_point_refl p) (λ z e. sym (same_point_is p z e))

  mark_edge_once : (m : Mark) → Member m g.marks → count_by (counted.same_edge (edge_of m)) (edges g) ≡ 1
  unfolding counted.same_edge
  mark_edge_once m h =
      once edge_cmp edge_cmp_total (counted.same_edge (edge_of m)) (edge_of m) (edges g) (edges_ascend g) (edge_in g m h)
      (and_in (same_point_refl m.low) (same_point_refl m.high))
      (λ z k. let w = and_true (counted.same_point m.low z.low) (counted.same_point m.high z.high) k in
      let a = sym (same_point_is m.low z.low w.0) in
      let b = sym (same_point_is m.high z.high w.1) in
      λ i. record { low = a i; high = b i })

  runs_of : (m : Mark) → Member m g.marks → RunsForward (span_a m.low m.high) (span_b m.low m.high)
  runs_of m h = span_runs m.low m.high (pl.proper m.low (pl.low_in m h)) (pl.proper m.high (pl.high_in m h)) (lt_out m.low m.high (pl.forward m h))

  not_left : (m : Mark) → Member m g.marks → counted.left_of m.high m.low ≡ false
  unfolding counted.left_of
  not_left m h = lt_no (m.high.x *ℤ m.low.w) (m.low.x *ℤ m.high.w) (λ l. by (runs_of m h) l)
    where
      by : RunsForward (span_a m.low m.high) (span_b m.low m.high) → (m.high.x *ℤ m.low.w) <ℤ (m.low.x *ℤ m.high.w) → ⊥
      by (inl k) l = omega (arith, ints)
      by (inr k) l = let e : span_b m.low m.high ≡ pos 0 = k.0 in omega (arith, ints)

  mark_upright : (m : Mark) → Member m g.marks → counted.on_wall m.low m.high ≡ true → counted.lower_than m.low m.high ≡ true
  unfolding counted.left_of counted.lower_than
  mark_upright m h w =
      let u = and_true (not (lt_z (m.low.x *ℤ m.high.w) (m.high.x *ℤ m.low.w))) (not (lt_z (m.high.x *ℤ m.low.w) (m.low.x *ℤ m.high.w))) w in
      by (runs_of m h) (not_out _ u.0)
    where
      by : RunsForward (span_a m.low m.high) (span_b m.low m.high) → lt_z (m.low.x *ℤ m.high.w) (m.high.x *ℤ m.low.w) ≡ false → lt_z (m.low.y *ℤ m.high.w) (m.high.y *ℤ m.low.w) ≡ true
      by (inl k) e = absurd (against (m.low.x *ℤ m.high.w) (m.high.x *ℤ m.low.w) (omega (arith, ints)) e)
      by (inr k) e = lt_yes (m.low.y *ℤ m.high.w) (m.high.y *ℤ m.low.w) (let l : span_a m.low m.high <ℤ pos 0 = k.1 in omega (arith, ints))

  zero_by : (z : ℤ) → lt_z z (pos 0) ≡ false → lt_z (pos 0) z ≡ false → z ≡ pos 0
  zero_by z a b = omega (arith, ints)

  inner : (m : Mark) → Member m g.marks → (p : Point) → Member p g.points → counted.inside (edge_of m) p ≡ true → inside p m ≡ true
  unfolding counted.side collinear det
  inner m h p n e =
      let a = and_true (counted.precedes m.low p && counted.precedes p m.high) (not (lt_z (counted.side (edge_of m) p) (pos 0)) && not (lt_z (pos 0) (counted.side (edge_of m) p))) e in
      let b = and_true (counted.precedes m.low p) (counted.precedes p m.high) a.0 in
      let c = and_true (not (lt_z (counted.side (edge_of m) p) (pos 0))) (not (lt_z (pos 0) (counted.side (edge_of m) p))) a.1 in
      let gp = pl.proper p n in
      inside_in p m (runs_lt m.low p (pl.proper m.low (pl.low_in m h)) gp (comes_runs m.low p b.0)) (runs_lt p m.high gp (pl.proper m.high (pl.high_in m h)) (comes_runs p m.high b.1))
      (zero_in (det m.low m.high p) (zero_by (det m.low m.high p) (not_out (lt_z (det m.low m.high p) (pos 0)) c.0) (not_out (lt_z (pos 0) (det m.low m.high p)) c.1)))

  positive_in : (z : ℤ) → lt_z (pos 0) z ≡ true → is_positive z ≡ true
  positive_in z h = ap is_lt (less_in (pos 0) z (lt_is (pos 0) z h))

  negative_in : (z : ℤ) → lt_z z (pos 0) ≡ true → is_negative z ≡ true
  negative_in z h = ap is_lt (less_in z (pos 0) (lt_is z (pos 0) h))

  crossed : (m n : Mark) → counted.crosses (edge_of m) (edge_of n) ≡ true → crosses m n ≡ true
  unfolding counted.crosses counted.side crosses det
  crossed m n h =
      let a = and_true (lt_z (pos 0) (det n.low n.high m.low)) _ h in
      let b = and_true (lt_z (det n.low n.high m.high) (pos 0)) _ a.1 in
      let c = and_true (lt_z (det m.low m.high n.low) (pos 0)) (lt_z (pos 0) (det m.low m.high n.high)) b.1 in
      and_in (and_in (positive_in (det n.low n.high m.low) a.0) (negative_in (det n.low n.high m.high) b.0)) (and_in (negative_in (det m.low m.high n.low) c.0) (positive_in (det m.low m.high n.high) c.1))

  proper_at : (p : Point) → Member p g.points → counted.HasWeight p
  proper_at p m = (pl.proper p m).positive

  pub counts : counted.IsPlaneSkeleton (skeleton g)
  counts = record {
    proper = λ v c. proper_at v (vertex_of v c);
    lower_in = λ e c. let a = origin e c in subst (λ z. Contains g.points z.low) (sym a.2) (has_vertex a.0.low (pl.low_in a.0 a.1));
    upper_in = λ e c. let a = origin e c in subst (λ z. Contains g.points z.high) (sym a.2) (has_vertex a.0.high (pl.high_in a.0 a.1));
    lower_once = λ e c. let a = origin e c in subst (λ z. count_by (λ v. counted.same_point z.low v) g.points ≡ 1) (sym a.2) (point_once a.0.low (pl.low_in a.0 a.1));
    upper_once = λ e c. let a = origin e c in subst (λ z. count_by (λ v. counted.same_point z.high v) g.points ≡ 1) (sym a.2) (point_once a.0.high (pl.high_in a.0 a.1));
    proper_edge = λ e c. let a = origin e c in subst (λ z. counted.HasWeight z.low × counted.HasWeight z.high) (sym a.2) (proper_at a.0.low (pl.low_in a.0 a.1), proper_at a.0.high (pl.high_in a.0 a.1));
    forward = λ e c. let a = origin e c in subst (λ z. counted.left_of z.high z.low ≡ false) (sym a.2) (not_left a.0 a.1);
    upright = λ e c. let a = origin e c in subst (λ z. counted.on_wall z.low z.high ≡ true → counted.lower_than z.low z.high ≡ true) (sym a.2) (mark_upright a.0 a.1);
    edge_once = λ e c. let a = origin e c in subst (λ z. count_by (counted.same_edge z) (edges g) ≡ 1) (sym a.2) (mark_edge_once a.0 a.1);
    distinct = λ v w c d h k. one_point v w (pl.proper v (vertex_of v c)) (pl.proper w (vertex_of w d)) h k;
    clear = λ e v c d.
        let a = origin e c in
        subst (λ z. counted.inside z v ≡ false) (sym a.2)
        (not_true (counted.inside (edge_of a.0) v) (λ h. clash (inner a.0 a.1 v (vertex_of v d) h) (pl.clear a.0 a.1 v (vertex_of v d))));
    uncrossed = λ e f c d.
        let a = origin e c in
        let b = origin f d in
        subst (λ z. counted.crosses z f ≡ false) (sym a.2) (subst (λ z. counted.crosses (edge_of a.0) z ≡ false) (sym b.2)
        (not_true (counted.crosses (edge_of a.0) (edge_of b.0)) (λ h. clash (crossed a.0 b.0 h) (none_cross g pl a.0 b.0 a.1 b.1))));
  }

pub graph_is_plane_skeleton : GraphIsPlaneSkeleton
graph_is_plane_skeleton g pl = counts g pl
