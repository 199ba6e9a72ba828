-- The edges that a point sees below it, in the order of their levels.
use Rattle.std.proofs.Common.{◌≡◌, ◌<◌, ◌≤◌, true, arith, ap, ◌∙◌, ◌⊎◌, inl, inr, subst}
use Rattle.std.specs.Prelude.{not, Option, Some, None}
use Rattle.std.specs.List.{Contains}
use Rattle.std.proofs.lemmas.Int.{ints}
use Rattle.std.proofs.lemmas.Bool.{and_from, false_from_ne_true}
use Rattle.exact_plane.specs.Point.{Point}
use Rattle.plane_graphs.specs.Graph.{Edge}
use Rattle.slab_laws.specs.Skeleton.{Skeleton, HasWeight, left_of, below, IsPlaneSkeleton}
use Rattle.slab_laws.specs.Slabs.{spans, slab_right}
use Rattle.slab_faces.proofs.OverUnder.{under_out}
use Rattle.slab_faces.proofs.EveryFace.{passing}
use Rattle.slab_faces.proofs.Nudge.{right_inside, is_slab_right}
use Rattle.slab_faces.proofs.Order.{gap-swap}
use Rattle.slab_faces.proofs.Slabs.{IsSlab, through, by_gap, below_at, place_less}
use Rattle.slab_faces.proofs.Turns.{on_own_wall}
use Rattle.edge_predicates.specs.Above.{IsBeside}
use Rattle.edge_predicates.specs.Highest.{IsHighestBelow, none_below, highest}
use Rattle.edge_predicates.specs.Levels.{IsSeen, level, IsSeenAtMost, levels_to, LevelsTellHighest}
use Rattle.edge_predicates.proofs.FaceBelow.{side_right, begins}
use Rattle.slab_faces.proofs.Points.{before_weak, before_asym}
use Rattle.edge_predicates.proofs.Seen.{reaches}
use Rattle.edge_predicates.proofs.SidesKept.{stays_below, stacked}

module _ (g : Skeleton) (q : Point) (plane : IsPlaneSkeleton g) (T : HasWeight q) where
  -- what is seen is in the slab on the right of q
  seen_spans : (e : Edge) → IsSeen g q e → spans g (slab_right g q) e ≡ true
  seen_spans e h =
      let p = plane.proper_edge e h.in' in
      (side_right g q plane T).spanned e h.in' ∙ and_from _ _ (ap not (before_weak e.low q h.spanning.from)) (reaches e q p.0 p.1 T h.spanning h.lies_under)

  -- so that slab begins at a wall
  slab : (e : Edge) → IsSeen g q e → (M : Point) × IsSlab g (slab_right g q) M
  slab e h = elim (begins g q plane T) [
    | inl z ↦ let k = passing (λ v. not (left_of q v)) g.vertices e.low (plane.lower_in e h.in') (ap not (before_weak e.low q h.spanning.from)) in absurd (omega arith)
    | inr w ↦ (right_inside g w.0, subst (λ n. IsSlab g n (right_inside g w.0)) w.1.slab (is_slab_right g w.0 plane (on_own_wall g w.0 plane w.1.vertex)))
  ]

  less : (f e : Edge) → IsSeen g q f → IsSeen g q e → below f e ≡ true → level g q f < level g q e
  less f e s t h = let m = slab f s in place_less g (slab_right g q) m.0 f e plane m.1 s.in' t.in' (seen_spans f s) (seen_spans e t) h

  at_most : (f e : Edge) → IsSeen g q f → IsSeen g q e → (f ≡ e) ⊎ (below f e ≡ true) → level g q f ≤ level g q e
  at_most f e s t (inl i) = subst (λ x. level g q f ≤ level g q x) i (omega arith)
  at_most f e s t (inr b) = let k = less f e s t b in omega arith

  by_level : (f e : Edge) → IsSeen g q f → IsSeen g q e → level g q f ≤ level g q e → (f ≡ e) ⊎ (below f e ≡ true)
  by_level f e s t l =
      let m = slab f s in
      let tf = through g (slab_right g q) m.0 f m.1 s.in' (seen_spans f s) in
      let te = through g (slab_right g q) m.0 e m.1 t.in' (seen_spans e t) in
      by_gap g f e m.0 plane s.in' t.in' m.1.proper tf te
      (λ u. inr (below_at g f e m.0 plane s.in' t.in' m.1.proper tf te u))
      (λ u. let w = gap-swap f e m.0 in let k = less e f t s (below_at g e f m.0 plane t.in' s.in' m.1.proper te tf (omega (arith, ints))) in absurd (omega arith))
      inl

  beside : (e f : Edge) → IsSeen g q e → IsSeen g q f → IsBeside g e f q
  beside e f s t = record {
    plane = plane;
    E = s.in';
    F = t.in';
    Q = T;
    spanning = t.spanning;
    from = before_asym e.low q s.spanning.from;
    to = before_asym q e.high s.spanning.to;
    off = λ z. let k = under_out f q t.lies_under in absurd (omega (arith, ints));
  }

  top : (o : Option Edge) → IsSeenAtMost g q o → ((f : Edge) → IsSeen g q f → level g q f < levels_to g q o) → IsHighestBelow (Contains g.edges) q o
  top None p all = none_below (λ f F s. false_from_ne_true _ (λ u. let k = all f (record { in' = F; spanning = s; lies_under = u }) in absurd (omega arith)))
  top (Some e) p all = highest e p.in' p.spanning p.lies_under (λ f F s u.
      let seen : IsSeen g q f = record { in' = F; spanning = s; lies_under = u } in
      let k = all f seen in
      by_level f e seen p (omega arith))

pub levels_tell_highest : LevelsTellHighest
levels_tell_highest = record {
  above = λ g q e f plane T s t h. less g q plane T f e t s (stacked g e f q (beside g q plane T e f s t) h s.spanning s.lies_under);
  not_above = λ g q e f plane T s t h. at_most g q plane T e f s t (stays_below g e f q (beside g q plane T e f s t) h (under_out f q t.lies_under)).1;
  highest = λ g q o plane T p all. top g q plane T o p all;
}
