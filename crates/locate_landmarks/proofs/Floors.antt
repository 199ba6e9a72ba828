-- Of the edges that a point sees above it, the lower has the lesser floor.
use Rattle.std.proofs.Common.{◌≡◌, ◌<◌, Bool, true, false, Some, None, arith, refl, sym, ap, ◌∙◌, inl, inr, subst}
use Rattle.std.specs.Prelude.{pos, not, ◌&&◌}
use Rattle.std.specs.List.{Contains}
use Rattle.std.proofs.lemmas.Int.{ints}
use Rattle.std.proofs.lemmas.Bool.{false≢true, and_parts, and_from, not-true, not-false, cases_Bool}
use Rattle.std.proofs.lemmas.List.Sums.{count_by-le-length}
use Rattle.exact_plane.specs.Point.{Point}
use Rattle.plane_graphs.specs.Graph.{Edge}
use Rattle.slab_laws.specs.Meets.{IsOnWall}
use Rattle.slab_laws.specs.Skeleton.{Skeleton, HasWeight, left_of, on_wall, side, below, IsPlaneSkeleton}
use Rattle.slab_laws.specs.Slabs.{spans, slab_left, slab_right, reaches_left}
use Rattle.slab_faces.proofs.Sums.{fewer}
use Rattle.slab_faces.proofs.EveryFace.{some_or_none}
use Rattle.slab_faces.proofs.Cells.{left_side}
use Rattle.slab_faces.proofs.Nudge.{left_inside, is_slab_left}
use Rattle.slab_faces.proofs.OverUnder.{over_out}
use Rattle.slab_faces.proofs.Points.{before_weak, before_asym, before_on_wall}
use Rattle.slab_faces.proofs.Slabs.{IsSlab, place_less}
use Rattle.slab_faces.proofs.Turns.{le_antisym}
use Rattle.slab_faces.proofs.Walls.{left_of-asym, lower_than-asym, over-lower}
use Rattle.edge_predicates.specs.Above.{is_above, IsBeside}
use Rattle.edge_predicates.proofs.FaceBelow.{side_right}
use Rattle.edge_predicates.proofs.Seen.{slanted}
use Rattle.edge_predicates.proofs.SidesKept.{above_below}
use Rattle.locate_landmarks.specs.Floors.{IsSeenAbove, floor}

module _ (g : Skeleton) (q : Point) (plane : IsPlaneSkeleton g) (T : HasWeight q) where
  off : (e : Edge) → IsSeenAbove g q e → side e q ≡ pos 0 → ⊥
  off e s z = let k = over_out e q s.lies_over in absurd (omega (arith, ints))

  -- an edge above q is slanted
  long : (e : Edge) → IsSeenAbove g q e → left_of e.low e.high ≡ true
  long e s = let p = plane.proper_edge e s.in' in slanted e q p.0 p.1 T s.spanning (off e s)

  beside : (e f : Edge) → IsSeenAbove g q e → IsSeenAbove g q f → IsBeside g e f q
  beside e f s t = record {
    plane = plane;
    E = s.in';
    F = t.in';
    Q = T;
    spanning = t.spanning;
    from = before_asym e.low q s.spanning.from;
    to = before_asym q e.high s.spanning.to;
    off = off f t;
  }

  lower : (e f : Edge) → IsSeenAbove g q e → IsSeenAbove g q f → is_above e f ≡ true → below f e ≡ true
  lower e f s t h = above_below g e f q (beside e f s t) (long e s) h

  -- it reaches q's wall from the left
  reaching : (e : Edge) → IsSeenAbove g q e → reaches_left e q ≡ true
  reaching e s =
      let p = plane.proper_edge e s.in' in
      let weak = before_weak e.low q s.spanning.from in
      and_from _ _
      (elim (cases_Bool (left_of e.low q)) [
        | inl h ↦ h
        | inr h ↦
            let o = sym (over-lower e q p.0 (long e s) h weak) ∙ s.lies_over in
            absurd (false≢true (sym (lower_than-asym e.low q (before_on_wall e.low q s.spanning.from h)) ∙ o))
      ])
      (ap not (before_weak q e.high s.spanning.to))

  -- a vertex that isn't on q's wall is on its left or on its right
  aside : (v : Point) → on_wall v q ≡ false → left_of v q ≡ not (left_of q v)
  aside v h = by (left_of v q) (left_of q v) h (left_of-asym v q)
    where
      by : (a b : Bool) → (not a && not b) ≡ false → (a ≡ true → b ≡ false) → a ≡ not b
      by true true h k = k refl
      by true false h k = refl
      by false true h k = refl
      by false false h k = cc

  -- the slab on the left of q has a point inside, whether q is on a wall or not
  slab : (M : Point) × IsSlab g (slab_left g q) M × ((e : Edge) → IsSeenAbove g q e → spans g (slab_left g q) e ≡ true)
  slab = elim (some_or_none (λ v. on_wall v q) g.vertices) [
    | inl w ↦
        let wall : IsOnWall g q = record { proper = T; vertex = w.0; is_vertex = w.1; same = w.2 } in
        (left_inside g q, is_slab_left g q plane wall, λ e s. (left_side g q plane wall).spanned e s.in' ∙ reaching e s)
    | inr none ↦
        let n : slab_right g q ≡ slab_left g q = le_antisym _ _
        (fewer (λ v. not (left_of q v)) (λ v. left_of v q) g.vertices (λ v V k. aside v (none v V) ∙ k))
        (fewer (λ v. left_of v q) (λ v. not (left_of q v)) g.vertices (λ v V k. sym (aside v (none v V)) ∙ k)) in
        let spanned : (e : Edge) → Contains g.edges e → spans g (slab_left g q) e ≡ (left_of e.low q && left_of q e.high) = λ e E.
        subst (λ i. spans g i e ≡ (left_of e.low q && left_of q e.high)) n ((side_right g q plane T).spanned e E ∙ ap (λ b. b && left_of q e.high) (sym (aside e.low (none e.low (plane.lower_in e E))))) in (
          q,
          record { proper = T; spanned = spanned },
          λ e s.
              let r = and_parts (left_of e.low q) (not (left_of e.high q)) (reaching e s) in
              spanned e s.in' ∙ and_from _ _ r.0 (not-false _ (sym (aside e.high (none e.high (plane.upper_in e s.in'))) ∙ not-true _ r.1)),
        )
  ]

  -- the lower of two has the lesser floor
  pub floor_less : (e f : Edge) → IsSeenAbove g q e → IsSeenAbove g q f → is_above e f ≡ true → floor g q (Some f) < floor g q (Some e)
  floor_less e f s t h = let m = slab in place_less g (slab_left g q) m.0 f e plane m.1 t.in' s.in' (m.2 f t) (m.2 e s) (lower e f s t h)

  -- and each has a lesser one than none
  pub floor_least : (e : Edge) → floor g q (Some e) < floor g q None
  floor_least e = let k = count_by-le-length (λ f. spans g (slab_left g q) f && below f e) g.edges in omega arith
