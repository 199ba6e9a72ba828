-- A boundary that turns narrow wherever it comes to a vertex has an even number of edges there that are met after a dart of another boundary, clockwise from straight down: each two that follow one another stand beside one another.
use Rattle.std.proofs.Common.{◌≡◌, ℕ, ◌+◌, Bool, true, false, cond, ◌&&◌, arith, refl, sym, ap, ◌∙◌, subst, inl, inr, map}
use Rattle.std.specs.List.{Contains, sum_by}
use Rattle.std.proofs.lemmas.Bool.{false≢true, cases_Bool}
use Rattle.std.proofs.lemmas.List.Sums.{sum_by-append}
use Rattle.exact_plane.specs.Point.{Point}
use Rattle.plane_graphs.specs.Graph.{Edge}
use Rattle.plane_graphs.proofs.Lists.{both_ways}
use Rattle.slab_laws.specs.Darts.{Dart, darts, source, target, ahead, back}
use Rattle.slab_laws.specs.Rotation.{same_dart, twin, earlier, ring, after, next, OutOf}
use Rattle.slab_laws.specs.Skeleton.{Skeleton, same_point, IsPlaneSkeleton}
use Rattle.slab_laws.specs.Weights.{Even}
use Rattle.slab_faces.proofs.CyclesLemmas.{is_set, one_to_one}
use Rattle.slab_faces.proofs.Member.{in_member}
use Rattle.slab_faces.proofs.NextLemmas.{Follows, ring_in, after_follows, dart_out, next_from}
use Rattle.slab_faces.proofs.NextLemmas.Follows.{later, first}
use Rattle.slab_faces.proofs.Parity.{same_point_is}
use Rattle.slab_faces.proofs.Shift.{tally, darts_on, sum_by-map, sum_by-shift}
use Rattle.slab_faces.proofs.Sums.{each, sum_by-plus, sum_by-same}
use Rattle.rotation_order.specs.RingOrder.{IsStrictOn}
use Rattle.rotation_order.proofs.RingTurned.{vertex_there, strict_at, next_at}
use Rattle.sound_views.proofs.RoundTurned.{twin_twice}

-- a set of darts that holds, with each, its next; e goes out of v, and no dart of its edge is in the set
module _ (g : Skeleton) (plane : IsPlaneSkeleton g) (o : Dart → Bool) (goes_on : (d : Dart) → Contains g.edges d.edge → o (next (darts g) d) ≡ o d) (v : Point) (e : Dart) (E : OutOf g v e) (not_e : o (twin e) ≡ false) (narrow : (d : Dart) → Contains g.edges d.edge → o d ≡ true → target d ≡ v → earlier (twin d) (next (darts g) d) ≡ true) where
  V : Contains g.vertices v
  V = vertex_there g v e plane E

  strict : IsStrictOn earlier (OutOf g v)
  strict = strict_at g v e plane E

  -- ---- a dart of the set that comes to v, and the next one
  module _ (d : Dart) (D : Contains g.edges d.edge) (s : o d ≡ true) (a : target d ≡ v) where
    X : OutOf g v (twin d)
    X = record { in' = D; at = a }

    Y : OutOf g v (next (darts g) d)
    Y = let n = next_from g d plane D in record { in' = n.in'; at = n.at ∙ a }

    follows : next (darts g) d ≡ after (twin d) (ring (darts g) v)
    follows = ap (next (darts g)) (sym (twin_twice d)) ∙ next_at g v (twin d) X

    not_between : (z : Dart) → OutOf g v z → earlier (twin d) z ≡ true → earlier z (next (darts g) d) ≡ true → ⊥
    not_between z Z h k = by (after_follows g v plane V (twin d) (ring_in g v plane V (twin d).edge (twin d).forward X))
      where
        by : Follows g v plane V (twin d) (after (twin d) (ring (darts g) v)) → ⊥
        by (later n) = n.none z (ring_in g v plane V z.edge z.forward Z) h (subst (λ (y : Dart). earlier z y ≡ true) follows k)
        by (first l m f) = l z (ring_in g v plane V z.edge z.forward Z) h

    -- both are met after e, or neither is
    both_after : earlier e (twin d) ≡ earlier e (next (darts g) d)
    both_after =
        both_ways (earlier e (twin d)) (earlier e (next (darts g) d))
        (λ h. strict.on e (twin d) (next (darts g) d) E X Y h (narrow d D s a))
        (λ h. elim (cases_Bool (earlier e (twin d))) [
          | inl y ↦ y
          | inr n ↦ elim (cases_Bool (earlier (twin d) e)) [
            | inl y ↦ absurd (not_between e E y h)
            | inr m ↦ absurd (let q = strict.total e (twin d) E X n m in false≢true (sym not_e ∙ ap (λ (z : Dart). o (twin z)) q ∙ ap o (twin_twice d) ∙ s))
          ]
        ])

  -- ---- sums
  leaves : Dart → ℕ
  leaves h = cond (same_point (source h) v && earlier e h) (tally (o h)) 0

  comes : Dart → ℕ
  comes h = cond (same_point (target h) v && earlier e (twin h)) (tally (o h)) 0

  alike : (b x y z w : Bool) → z ≡ w → (b ≡ true → w ≡ true → x ≡ y) → cond {A = ℕ} (b && x) (tally w) 0 ≡ cond (b && y) (tally z) 0
  alike true x y z true q h = (λ i. cond {A = ℕ} (h refl refl i) (tally (sym q i)) 0)
  alike true true true z false q h = ap tally (sym q)
  alike true true false z false q h = refl
  alike true false true z false q h = ap tally (sym q)
  alike true false false z false q h = refl
  alike false x y z w q h = refl

  moved : (h : Dart) → Contains (darts g) h → comes h ≡ leaves (next (darts g) h)
  unfolding comes leaves
  moved h H =
      let D = dart_out g h (in_member (darts g) h H) in
      let n = next_from g h plane D in
      alike (same_point (target h) v) (earlier e (twin h)) (earlier e (next (darts g) h)) (o (next (darts g) h)) (o h) (goes_on h D) (λ a s. both_after h D s (same_point_is (target h) v a))
      ∙ ap (λ (p : Point). cond (same_point p v && earlier e (next (darts g) h)) (tally (o (next (darts g) h))) 0) (sym n.at)

  same_totals : sum_by comes (darts g) ≡ sum_by leaves (darts g)
  same_totals = sum_by-same comes (λ h. leaves (next (darts g) h)) (darts g) (each (λ h. comes h ≡ leaves (next (darts g) h)) (darts g) moved) ∙ sum_by-shift same_dart (next (darts g)) leaves (darts g) (is_set g plane) (one_to_one g plane)

  -- how many edges of the set with v as their lower end, or as their upper one, are met after e
  lower : Edge → ℕ
  lower f = cond (same_point f.low v && earlier e (ahead f)) (darts_on o f) 0

  upper : Edge → ℕ
  upper f = cond (same_point f.high v && earlier e (back f)) (darts_on o f) 0

  deal : (a b : Bool) (m n : ℕ) → cond a m 0 + cond b n 0 + (cond b m 0 + cond a n 0) ≡ cond a (m + n) 0 + cond b (m + n) 0
  deal true true m n = omega arith
  deal true false m n = omega arith
  deal false true m n = omega arith
  deal false false m n = refl

  pub even_after : Even (sum_by (λ f. cond (same_point f.low v && earlier e (ahead f)) (darts_on o f) 0) g.edges + sum_by (λ f. cond (same_point f.high v && earlier e (back f)) (darts_on o f) 0) g.edges)
  unfolding comes leaves
  even_after =
      let q = same_totals in
      let l1 = sum_by-append leaves (map ahead g.edges) (map back g.edges) in
      let l2 = sum_by-map leaves ahead g.edges in
      let l3 = sum_by-map leaves back g.edges in
      let c1 = sum_by-append comes (map ahead g.edges) (map back g.edges) in
      let c2 = sum_by-map comes ahead g.edges in
      let c3 = sum_by-map comes back g.edges in
      let p1 = sum_by-plus (λ f. leaves (ahead f)) (λ f. leaves (back f)) g.edges in
      let p2 = sum_by-plus (λ f. comes (ahead f)) (λ f. comes (back f)) g.edges in
      let p3 = sum_by-plus (λ f. leaves (ahead f) + leaves (back f)) (λ f. comes (ahead f) + comes (back f)) g.edges in
      let r = sum_by-plus (λ f. cond (same_point f.low v && earlier e (ahead f)) (darts_on o f) 0) (λ f. cond (same_point f.high v && earlier e (back f)) (darts_on o f) 0) g.edges in
      let w : sum_by (λ f. leaves (ahead f) + leaves (back f) + (comes (ahead f) + comes (back f))) g.edges ≡ sum_by (λ f. cond (same_point f.low v && earlier e (ahead f)) (darts_on o f) 0 + cond (same_point f.high v && earlier e (back f)) (darts_on o f) 0) g.edges =
      sum_by-same (λ f. leaves (ahead f) + leaves (back f) + (comes (ahead f) + comes (back f))) (λ f. cond (same_point f.low v && earlier e (ahead f)) (darts_on o f) 0 + cond (same_point f.high v && earlier e (back f)) (darts_on o f) 0) g.edges (each (λ f. leaves (ahead f) + leaves (back f) + (comes (ahead f) + comes (back f)) ≡ cond (same_point f.low v && earlier e (ahead f)) (darts_on o f) 0 + cond (same_point f.high v && earlier e (back f)) (darts_on o f) 0) g.edges (λ f F.
      deal (same_point f.low v && earlier e (ahead f)) (same_point f.high v && earlier e (back f)) (tally (o (ahead f))) (tally (o (back f))))) in
      omega arith
