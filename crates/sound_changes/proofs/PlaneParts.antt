-- A plane graph with an edge that is split at a point inside it is plane, and so is one with two edges of one line in one.
use Rattle.std.proofs.Common.{◌≡◌, ◌≢◌, ◌⊎◌, ◌↔◌, inl, inr, arith, true, refl, sym, ap, ◌∙◌, subst}
use Rattle.std.specs.Prelude.{ℤ, pos, ◌*ℤ◌, ◌<ℤ◌}
use Rattle.std.specs.List.{Contains}
use Rattle.std.proofs.lemmas.Int.{ints, by_lt_z}
use lib.IntN.{*ℤ-zero}
use lib.Signed.{lt_z}
use Rattle.exact_plane.specs.Point.{Point}
use Rattle.exact_plane.specs.PointOrder.{point_cmp}
use Rattle.exact_plane.specs.PointOrderLaws.{point_cmp_total}
use Rattle.plane_graphs.specs.Ascending.{IsAscending}
use Rattle.plane_graphs.specs.Graph.{Edge, edge_cmp}
use Rattle.plane_graphs.specs.Line.{IsProper}
use Rattle.plane_graphs.proofs.Ascending.{to_member}
use Rattle.plane_graphs.proofs.Lines.{span_runs}
use Rattle.plane_graphs.proofs.Lists.{clash}
use Rattle.plane_graphs.proofs.Order.{Lt, lt_trans, lt_never, Tri, tri}
use Rattle.plane_graphs.proofs.Order.Tri.{less, same, more}
use Rattle.slab_laws.specs.Skeleton.{Skeleton, side, crosses, inside, same_point, IsPlaneSkeleton}
use Rattle.slab_faces.proofs.Ints.{zero_back}
use Rattle.slab_faces.proofs.PlaneGraphs.{once, comes_before, one_point}
use Rattle.slab_faces.proofs.Walls.{side-lower}
use Rattle.slab_faces.proofs.Parity.{same_point_is, same_point_refl}
use Rattle.rotation_order.specs.EdgeParts.{lower_part, upper_part, IsForwardEdge}
use Rattle.rotation_order.proofs.EdgeCuts.{edge_before}
use Rattle.rotation_order.proofs.EdgesOnce.{edge_once}
use Rattle.sound_changes.proofs.PointInside.{IsInside, inside_out, inside_in, ends_ordered, MeanOf, mean_of, lower_side, upper_side}
use Rattle.sound_changes.proofs.PartsCross.{IsCrossing, crossing_out, crossing_in, lower_crosses, crosses_lower, upper_crosses, crosses_upper, whole_crosses, crosses_whole, lies_inside, faced, crossing_right, upper_on}
use Rattle.integers.proofs.Tests.{not_true, lt_yes, lt_is}

-- the points of a graph are points of the plane
abbrev pub AreProper : Skeleton → Type 0
AreProper g = (q : Point) → Contains g.vertices q → IsProper q

-- the ends of an edge are vertices, the lower first
pub record HasEnds (g : Skeleton) (e : Edge) : Type 0 where
  pub low : Contains g.vertices e.low
  pub high : Contains g.vertices e.high
  pub ordered : Lt e.low e.high

-- ---- what makes a graph of two ascending lists plane
module _ (g : Skeleton) (up_points : IsAscending point_cmp g.vertices) (up_edges : IsAscending edge_cmp g.edges) (fine : AreProper g) (ends : (e : Edge) → Contains g.edges e → HasEnds g e)
    (clear : (e : Edge) (q : Point) → Contains g.edges e → Contains g.vertices q → IsInside e q → ⊥) (uncrossed : (e f : Edge) → Contains g.edges e → Contains g.edges f → IsCrossing e f → ⊥) where
  forward_edge : (e : Edge) → Contains g.edges e → IsForwardEdge e
  forward_edge e E =
      let n = ends e E in
      let L = fine e.low n.low in
      let H = fine e.high n.high in
      edge_before e.low e.high L.positive H.positive (comes_before e.low e.high (span_runs e.low e.high L H n.ordered))

  pub plane_by : IsPlaneSkeleton g
  plane_by = record {
    proper = λ q c. (fine q c).positive;
    lower_in = λ e E. (ends e E).low;
    upper_in = λ e E. (ends e E).high;
    lower_once = λ e E. once point_cmp point_cmp_total (λ v. same_point e.low v) e.low g.vertices up_points (to_member g.vertices e.low (ends e E).low) (same_point_refl e.low) (λ z k. sym (same_point_is e.low z k));
    upper_once = λ e E. once point_cmp point_cmp_total (λ v. same_point e.high v) e.high g.vertices up_points (to_member g.vertices e.high (ends e E).high) (same_point_refl e.high) (λ z k. sym (same_point_is e.high z k));
    proper_edge = λ e E. ((fine e.low (ends e E).low).positive, (fine e.high (ends e E).high).positive);
    forward = λ e E. (forward_edge e E).forward;
    upright = λ e E. (forward_edge e E).upright;
    edge_once = λ e E. edge_once e g.edges up_edges E;
    distinct = λ p q c k a b. one_point p q (fine p c) (fine q k) a b;
    clear = λ e q E k. not_true (inside e q) (λ i. clear e q E k (inside_out e q (fine e.low (ends e E).low) (fine e.high (ends e E).high) (fine q k) i));
    uncrossed = λ e f E F. not_true (crosses e f) (λ c. uncrossed e f E F (crossing_out e f c));
  }

-- ---- a plane graph
module _ (g : Skeleton) (plane : IsPlaneSkeleton g) (fine : AreProper g) where
  low_fine : (e : Edge) → Contains g.edges e → IsProper e.low
  low_fine e E = fine e.low (plane.lower_in e E)

  high_fine : (e : Edge) → Contains g.edges e → IsProper e.high
  high_fine e E = fine e.high (plane.upper_in e E)

  edge_ordered : (e : Edge) → Contains g.edges e → Lt e.low e.high
  edge_ordered e E = ends_ordered g e plane E (low_fine e E) (high_fine e E)

  none_inside : (e : Edge) (q : Point) → Contains g.edges e → Contains g.vertices q → IsInside e q → ⊥
  none_inside e q E Q i = clash (inside_in e q (low_fine e E) (high_fine e E) (fine q Q) i) (plane.clear e q E Q)

  none_cross : (e f : Edge) → Contains g.edges e → Contains g.edges f → IsCrossing e f → ⊥
  none_cross e f E F c = clash (crossing_in e f c) (plane.uncrossed e f E F)

  mean_in : (e : Edge) (p : Point) → Contains g.edges e → IsProper p → IsInside e p → MeanOf e p
  mean_in e p E P i = mean_of e p (low_fine e E) (high_fine e E) P i

  one_of_two : (p q : Point) → (Lt p q → ⊥) → (Lt q p → ⊥) → Tri p q → p ≡ q
  one_of_two p q a b (less l) = absurd (a l)
  one_of_two p q a b (same e) = e
  one_of_two p q a b (more l) = absurd (b l)

  -- two edges that hold one point inside lie on one line, and are one
  module _ (p : Point) (P : IsProper p) where
    low_on : (e f : Edge) → Contains g.edges e → Contains g.edges f → IsInside e p → IsInside f p → side f e.low ≡ pos 0
    low_on e f E F i j =
        let m = mean_in e p E P i in
        let n = mean_in f p F P j in
        by_lt_z (pos 0) (side f e.low)
        (λ h. absurd (none_cross e f E F (crossing_right e f p m n i.on j.on h)))
        (λ h. by_lt_z (side f e.low) (pos 0)
        (λ k. absurd (none_cross f e F E (crossing_right f e p n m j.on i.on (lt_is _ _ (sym (faced f e p n m) ∙ lt_yes _ _ k)))))
        (λ k. omega (arith, ints)))

    high_on : (e f : Edge) → Contains g.edges e → Contains g.edges f → IsInside e p → IsInside f p → side f e.high ≡ pos 0
    high_on e f E F i j = upper_on e f p (mean_in e p E P i) (mean_in f p F P j) i.on j.on (low_on e f E F i j)

    pub one_edge : (e f : Edge) → Contains g.edges e → Contains g.edges f → IsInside e p → IsInside f p → e ≡ f
    one_edge e f E F i j =
        let a : e.low ≡ f.low = one_of_two e.low f.low
        (λ l. none_inside e f.low E (plane.lower_in f F) (record { after = l; before = lt_trans j.after i.before; on = low_on f e F E j i }))
        (λ l. none_inside f e.low F (plane.lower_in e E) (record { after = l; before = lt_trans i.after j.before; on = low_on e f E F i j }))
        (tri e.low f.low) in
        let b : e.high ≡ f.high = one_of_two e.high f.high
        (λ l. none_inside f e.high F (plane.upper_in e E) (record { after = lt_trans j.after i.before; before = l; on = high_on e f E F i j }))
        (λ l. none_inside e f.high E (plane.upper_in f F) (record { after = lt_trans i.after j.before; before = l; on = high_on f e F E j i }))
        (tri e.high f.high) in
        λ t. record { low = a t; high = b t }

-- a factor and what it turns to nothing
pub on_whole : (k t s u : ℤ) → pos 0 <ℤ t → k *ℤ s ≡ t *ℤ u → s ≡ pos 0 → u ≡ pos 0
on_whole k t s u T e z = zero_back t u T (sym e ∙ ap (λ x. k *ℤ x) z ∙ *ℤ-zero k)

on_part : (k t s u : ℤ) → pos 0 <ℤ k → k *ℤ s ≡ t *ℤ u → u ≡ pos 0 → s ≡ pos 0
on_part k t s u K e z = zero_back k s K (e ∙ ap (λ x. t *ℤ x) z ∙ *ℤ-zero t)

-- ---- an edge in two
-- where x goes along an edge of g, as a part or whole
record IsOf (g : Skeleton) (x : Edge) : Type 0 where
  edge : Edge
  there : Contains g.edges edge
  first : (y : Edge) → IsCrossing x y → IsCrossing edge y
  second : (y : Edge) → IsCrossing y x → IsCrossing y edge

module _ (g h : Skeleton) (e : Edge) (p : Point) (plane : IsPlaneSkeleton g) (fine : AreProper g) (E : Contains g.edges e) (P : IsProper p) (i : IsInside e p)
    (points : (q : Point) → Contains h.vertices q ↔ (Contains g.vertices q ⊎ (q ≡ p)))
    (edges : (x : Edge) → Contains h.edges x ↔ ((Contains g.edges x × (x ≢ e)) ⊎ ((x ≡ lower_part e p) ⊎ (x ≡ upper_part e p)))) where
  m : MeanOf e p
  m = mean_in g plane fine e p E P i

  parted_fine : AreProper h
  parted_fine q c = elim ((points q).0 c) [ inl o ↦ fine q o | inr s ↦ subst IsProper (sym s) P ]

  old_point : (q : Point) → Contains g.vertices q → Contains h.vertices q
  old_point q c = (points q).1 (inl c)

  new_point : Contains h.vertices p
  new_point = (points p).1 (inr refl)

  parted_ends : (x : Edge) → Contains h.edges x → HasEnds h x
  parted_ends x c =
      elim ((edges x).0 c) [
        | inl o ↦ record { low = old_point x.low (plane.lower_in x o.0); high = old_point x.high (plane.upper_in x o.0); ordered = edge_ordered g plane fine x o.0 }
        | inr o ↦ elim o [
          | inl s ↦ subst (HasEnds h) (sym s) (record { low = old_point e.low (plane.lower_in e E); high = new_point; ordered = i.after })
          | inr s ↦ subst (HasEnds h) (sym s) (record { low = new_point; high = old_point e.high (plane.upper_in e E); ordered = i.before })
        ]
      ]

  in_lower : (q : Point) → IsInside (lower_part e p) q → IsInside e q
  in_lower q j = record { after = j.after; before = lt_trans j.before i.before; on = on_whole m.k m.t (side (lower_part e p) q) (side e q) m.t_pos (lower_side e p m q) j.on }

  in_upper : (q : Point) → IsInside (upper_part e p) q → IsInside e q
  in_upper q j = record { after = lt_trans i.after j.after; before = j.before; on = on_whole m.k m.s (side (upper_part e p) q) (side e q) m.s_pos (upper_side e p m q) j.on }

  parted_clear : (x : Edge) (q : Point) → Contains h.edges x → Contains h.vertices q → IsInside x q → ⊥
  parted_clear x q c k j =
      elim ((edges x).0 c) [
        | inl o ↦ elim ((points q).0 k) [
          | inl old ↦ none_inside g plane fine x q o.0 old j
          | inr t ↦ o.1 (one_edge g plane fine p P x e o.0 E (subst (IsInside x) t j) i)
        ]
        | inr o ↦ elim o [
          | inl s ↦
              let u : IsInside (lower_part e p) q = subst (λ z. IsInside z q) s j in
              elim ((points q).0 k) [ inl old ↦ none_inside g plane fine e q E old (in_lower q u) | inr t ↦ lt_never (subst (λ z. Lt z p) t u.before) ]
          | inr s ↦
              let u : IsInside (upper_part e p) q = subst (λ z. IsInside z q) s j in
              elim ((points q).0 k) [ inl old ↦ none_inside g plane fine e q E old (in_upper q u) | inr t ↦ lt_never (subst (λ z. Lt p z) t u.after) ]
        ]
      ]

  origin : (x : Edge) → Contains h.edges x → IsOf g x
  origin x c =
      elim ((edges x).0 c) [
        | inl o ↦ record { edge = x; there = o.0; first = λ y k. k; second = λ y k. k }
        | inr o ↦ elim o [
          | inl s ↦ subst (IsOf g) (sym s) (record { edge = e; there = E; first = λ y k. lower_crosses e p m y k; second = λ y k. crosses_lower e p m y k })
          | inr s ↦ subst (IsOf g) (sym s) (record { edge = e; there = E; first = λ y k. upper_crosses e p m y k; second = λ y k. crosses_upper e p m y k })
        ]
      ]

  parted_uncrossed : (x y : Edge) → Contains h.edges x → Contains h.edges y → IsCrossing x y → ⊥
  parted_uncrossed x y c d k =
      let a = origin x c in
      let b = origin y d in
      none_cross g plane fine a.edge b.edge a.there b.there (b.second a.edge (a.first y k))

-- ---- two edges in one
below_nothing : (s : ℤ) → lt_z s (pos 0) ≡ true → s ≢ pos 0
below_nothing s h e = let l = lt_is s (pos 0) h in omega (arith, ints)

above_nothing : (s : ℤ) → lt_z (pos 0) s ≡ true → s ≢ pos 0
above_nothing s h e = let l = lt_is (pos 0) s h in omega (arith, ints)

two_sides : (s t : ℤ) → lt_z s (pos 0) ≡ true → lt_z (pos 0) t ≡ true → lt_z s (pos 0) ≢ lt_z t (pos 0)
two_sides s t h k e = let l = lt_is (pos 0) t k in let r = lt_is t (pos 0) (sym e ∙ h) in omega (arith, ints)

module _ (g h : Skeleton) (e : Edge) (p : Point) (plane : IsPlaneSkeleton g) (fine : AreProper g) (lower : Contains g.edges (lower_part e p)) (upper : Contains g.edges (upper_part e p)) (i : IsInside e p)
    (points : (q : Point) → Contains h.vertices q ↔ (Contains g.vertices q × (q ≢ p)))
    (edges : (x : Edge) → Contains h.edges x ↔ ((Contains g.edges x × (x ≢ lower_part e p) × (x ≢ upper_part e p)) ⊎ (x ≡ e))) where
  at_point : Contains g.vertices p
  at_point = plane.upper_in (lower_part e p) lower

  low_end : IsProper e.low
  low_end = low_fine g plane fine (lower_part e p) lower

  high_end : IsProper e.high
  high_end = high_fine g plane fine (upper_part e p) upper

  whole_mean : MeanOf e p
  whole_mean = mean_of e p low_end high_end (fine p at_point) i

  joined_fine : AreProper h
  joined_fine q c = fine q ((points q).0 c).0

  joined_ordered : (x : Edge) → Contains h.edges x → Lt x.low x.high
  joined_ordered x c =
      elim ((edges x).0 c) [
        | inl o ↦ edge_ordered g plane fine x o.0
        | inr s ↦ subst (λ z. Lt z.low z.high) (sym s) (lt_trans i.after i.before)
      ]

  -- a vertex inside the whole is inside a part, or between them
  in_whole : (q : Point) → Contains g.vertices q → q ≢ p → IsInside e q → Tri q p → ⊥
  in_whole q c ne j (less l) =
      none_inside g plane fine (lower_part e p) q lower c
      (record { after = j.after; before = l; on = on_part whole_mean.k whole_mean.t (side (lower_part e p) q) (side e q) whole_mean.k_pos (lower_side e p whole_mean q) j.on })
  in_whole q c ne j (same t) = ne t
  in_whole q c ne j (more l) =
      none_inside g plane fine (upper_part e p) q upper c
      (record { after = l; before = j.before; on = on_part whole_mean.k whole_mean.s (side (upper_part e p) q) (side e q) whole_mean.k_pos (upper_side e p whole_mean q) j.on })

  joined_clear : (x : Edge) (q : Point) → Contains h.edges x → Contains h.vertices q → IsInside x q → ⊥
  joined_clear x q c k j =
      let v = (points q).0 k in
      elim ((edges x).0 c) [
        | inl o ↦ none_inside g plane fine x q o.0 v.0 j
        | inr s ↦ in_whole q v.0 v.1 (subst (λ z. IsInside z q) s j) (tri q p)
      ]

  -- an edge of g whose ends lie on two sides of the whole misses the point between
  misses : (f : Edge) → Contains g.edges f → side f p ≡ pos 0 → side e f.low ≢ pos 0 → side e f.high ≢ pos 0 → lt_z (side e f.low) (pos 0) ≢ lt_z (side e f.high) (pos 0) → ⊥
  misses f F on a b c =
      none_inside g plane fine f p F at_point
      (lies_inside e f p (low_fine g plane fine f F) (high_fine g plane fine f F) (fine p at_point) (edge_ordered g plane fine f F) on i.on a b c)

  crosses_other : (f : Edge) → Contains g.edges f → IsCrossing e f → ⊥
  crosses_other f F c =
      elim (whole_crosses e p whole_mean f c) [
        | inl k ↦ none_cross g plane fine (lower_part e p) f lower F k
        | inr o ↦ elim o [
          | inl k ↦ none_cross g plane fine (upper_part e p) f upper F k
          | inr on ↦ misses f F on (below_nothing (side e f.low) c.right) (above_nothing (side e f.high) c.left) (two_sides (side e f.low) (side e f.high) c.right c.left)
        ]
      ]

  other_crosses : (f : Edge) → Contains g.edges f → IsCrossing f e → ⊥
  other_crosses f F c =
      elim (crosses_whole e p whole_mean f c) [
        | inl k ↦ none_cross g plane fine f (lower_part e p) F lower k
        | inr o ↦ elim o [
          | inl k ↦ none_cross g plane fine f (upper_part e p) F upper k
          | inr on ↦ misses f F on (above_nothing (side e f.low) c.starts) (below_nothing (side e f.high) c.ends) (λ q. two_sides (side e f.high) (side e f.low) c.ends c.starts (sym q))
        ]
      ]

  joined_uncrossed : (x y : Edge) → Contains h.edges x → Contains h.edges y → IsCrossing x y → ⊥
  joined_uncrossed x y c d k =
      elim ((edges x).0 c) [
        | inl o ↦ elim ((edges y).0 d) [
          | inl r ↦ none_cross g plane fine x y o.0 r.0 k
          | inr t ↦ other_crosses x o.0 (subst (IsCrossing x) t k)
        ]
        | inr s ↦ elim ((edges y).0 d) [
          | inl r ↦ crosses_other y r.0 (subst (λ z. IsCrossing z y) s k)
          | inr t ↦ above_nothing (side e e.low) (IsCrossing.starts (subst (IsCrossing e) t (subst (λ z. IsCrossing z y) s k))) (side-lower e)
        ]
      ]

pub parted_plane : (g h : Skeleton) (e : Edge) (p : Point) → IsPlaneSkeleton g → AreProper g → IsAscending point_cmp h.vertices → IsAscending edge_cmp h.edges → Contains g.edges e → IsProper p → IsInside e p
    → ((q : Point) → Contains h.vertices q ↔ (Contains g.vertices q ⊎ (q ≡ p)))
    → ((x : Edge) → Contains h.edges x ↔ ((Contains g.edges x × (x ≢ e)) ⊎ ((x ≡ lower_part e p) ⊎ (x ≡ upper_part e p)))) → IsPlaneSkeleton h
parted_plane g h e p plane fine up_points up_edges E P i points edges =
    plane_by h up_points up_edges (parted_fine g h e p plane fine E P i points edges) (parted_ends g h e p plane fine E P i points edges)
    (parted_clear g h e p plane fine E P i points edges) (parted_uncrossed g h e p plane fine E P i points edges)

pub joined_plane : (g h : Skeleton) (e : Edge) (p : Point) → IsPlaneSkeleton g → AreProper g → IsAscending point_cmp h.vertices → IsAscending edge_cmp h.edges → Contains g.edges (lower_part e p) → Contains g.edges (upper_part e p) → IsInside e p
    → ((q : Point) → Contains h.vertices q ↔ (Contains g.vertices q × (q ≢ p)))
    → ((x : Edge) → Contains h.edges x ↔ ((Contains g.edges x × (x ≢ lower_part e p) × (x ≢ upper_part e p)) ⊎ (x ≡ e)))
    → ((x : Edge) → Contains h.edges x → Contains h.vertices x.low × Contains h.vertices x.high) → IsPlaneSkeleton h
joined_plane g h e p plane fine up_points up_edges lower upper i points edges ends =
    plane_by h up_points up_edges (joined_fine g h e p plane fine lower upper i points edges)
    (λ x c. record { low = (ends x c).0; high = (ends x c).1; ordered = joined_ordered g h e p plane fine lower upper i points edges x c })
    (joined_clear g h e p plane fine lower upper i points edges) (joined_uncrossed g h e p plane fine lower upper i points edges)
