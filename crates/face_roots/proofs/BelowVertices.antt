-- What is below a vertex: the cell at its lower right corner is directly above the highest edge below it, and in the unbounded face where there is none.
use Rattle.std.proofs.Common.{◌≡◌, ℕ, ◌+◌, true, false, cond, arith, refl, sym, ap, ◌∙◌, subst, inl, inr}
use Rattle.std.specs.Prelude.{pos, ◌<ℤ◌, ◌≤ℤ◌, not, ◌&&◌, ◌⊎◌, Option, Some, None}
use Rattle.std.specs.List.{Contains}
use Rattle.std.proofs.lemmas.Int.{ints, by_lt_z}
use Rattle.std.proofs.lemmas.Bool.{false≢true, and_parts, and_from, not-true, false_from_ne_true, cases_Bool}
use lib.IntN.{*ℤ-zero}
use Rattle.exact_plane.specs.Point.{Point}
use Rattle.plane_graphs.specs.Graph.{Edge}
use Rattle.slab_laws.specs.Skeleton.{Skeleton, IsPlaneSkeleton, left_of, lower_than, run, side, under, gap, below, same_edge}
use Rattle.slab_laws.specs.Slabs.{reaches_right, spans, place, slab_right, right_below, right_bottom, forward_cell}
use Rattle.slab_laws.specs.Meets.{SameFace}
use Rattle.slab_laws.specs.Darts.{ahead}
use Rattle.slab_laws.specs.Cycles.{left_of_dart}
use Rattle.slab_laws.specs.Subdivision.{first_cell}
use Rattle.slab_faces.proofs.Ints.{times_less, times_at_most}
use Rattle.slab_faces.proofs.Sums.{each, sum_by-same, sum_by-plus}
use Rattle.slab_faces.proofs.Walls.{run_positive, side-lower}
use Rattle.slab_faces.proofs.Order.{below_from, below_asym, gap-swap}
use Rattle.slab_faces.proofs.OverUnder.{under_in, under_out}
use Rattle.slab_faces.proofs.Points.{before_left, before_lower, before_weak}
use Rattle.slab_faces.proofs.Cells.{right_side, spans_right}
use Rattle.slab_faces.proofs.Slabs.{same_edge_is, same_edge_refl}
use Rattle.slab_faces.proofs.Along.{below_self, side_below, side_level}
use Rattle.slab_faces.proofs.Turns.{face_sym, one_more, on_own_wall}
use Rattle.slab_faces.proofs.EveryFace.{none_counted}
use Rattle.slab_faces.proofs.Outside.{to_first}
use Rattle.edge_predicates.specs.FaceLaws.{cell_over}
use Rattle.edge_predicates.specs.Levels.{IsSeen}
use Rattle.edge_predicates.specs.Highest.{IsSpanning, IsHighestBelow, none_below, highest}
use Rattle.edge_predicates.proofs.FaceBelow.{bottom_all}
use Rattle.edge_predicates.proofs.Seen.{reaches}

-- ---- at a vertex, an edge is spanned and below exactly where it reaches the wall from the right and is below
pub reaching : (g : Skeleton) (v : Point) (e : Edge) → IsPlaneSkeleton g → Contains g.vertices v → IsSeen g v e → reaches_right e v ≡ true
reaching g v e plane in' s =
    let p = plane.proper_edge e s.in' in
    and_from _ _ (ap not (before_weak e.low v s.spanning.from)) (reaches e v p.0 p.1 (plane.proper v in') s.spanning s.lies_under)

seen : (g : Skeleton) (v : Point) (e : Edge) → IsPlaneSkeleton g → Contains g.vertices v → Contains g.edges e → reaches_right e v ≡ true → under e v ≡ true → IsSeen g v e
seen g v e plane in' E r u =
    let p = plane.proper_edge e E in
    let R = run_positive e ((right_side g v plane (on_own_wall g v plane in')).passes e e E E r r).e_long in
    let c = and_parts (not (left_of v e.low)) (left_of v e.high) r in
    let a : left_of v e.low ≡ false = not-true (left_of v e.low) c.0 in
    let s = under_out e v u in
    let z = side-lower e in
    record {
      in' = E;
      spanning = record {
        from = elim (cases_Bool (left_of e.low v)) [
          | inl k ↦ before_left e.low v k
          | inr k ↦ elim (cases_Bool (lower_than e.low v)) [
            | inl h ↦ before_lower e.low v a h
            | inr h ↦ elim (cases_Bool (lower_than v e.low)) [
              | inl b ↦ (let t = side_below e e.low v p.0 R z a k b in absurd (omega (arith, ints)))
              | inr b ↦ (let t = side_level e e.low v p.0 z a k h b in absurd (omega (arith, ints)))
            ]
          ]
        ];
        to = before_left v e.high c.1;
      };
      lies_under = u;
    }

-- ---- an edge at or below one that is met below t is met below t
lower_side : (e f : Edge) (t : Point) → pos 0 <ℤ run e → pos 0 <ℤ run f → pos 0 ≤ℤ gap f e t → pos 0 <ℤ side e t → pos 0 <ℤ side f t
unfolding gap
lower_side e f t re rf h k =
    by_lt_z (pos 0) (side f t) (λ l. l) (λ n.
    let a = times_less (run f) (pos 0) (side e t) rf k in
    let b = times_at_most (run e) (side f t) (pos 0) re (omega (arith, ints)) in
    let z = *ℤ-zero (run e) in
    let z' = *ℤ-zero (run f) in
    absurd (omega (arith, ints)))

under_too : (g : Skeleton) (v : Point) (e f : Edge) → IsPlaneSkeleton g → Contains g.vertices v → IsSeen g v e → Contains g.edges f → reaches_right f v ≡ true → below f e ≡ true → under f v ≡ true
under_too g v e f plane in' t F rf b =
    let E = t.in' in
    let re = reaching g v e plane in' t in
    let s = right_side g v plane (on_own_wall g v plane in') in
    let P = s.passes f e F E rf re in
    let Q = s.passes e f E F re rf in
    let S = gap-swap f e v in
    let n : pos 0 ≤ℤ gap f e v = by_lt_z (gap f e v) (pos 0) (λ l. absurd (below_asym g f e plane F E b (below_from e f v Q (omega (arith, ints))))) (λ m. omega (arith, ints)) in
    under_in f v (lower_side e f v (run_positive e P.e_long) (run_positive f P.f_long) n (under_out e v t.lies_under))

-- so the place of the corner is directly above the highest of them
corner_place : (g : Skeleton) (v : Point) (e : Edge) → IsPlaneSkeleton g → Contains g.vertices v → IsSeen g v e → ((f : Edge) → Contains g.edges f → IsSpanning f v → under f v ≡ true → (f ≡ e) ⊎ (below f e ≡ true)) → right_below g v ≡ place g (slab_right g v) e + 1
corner_place g v e plane in' t most =
    let i = slab_right g v in
    let wall = on_own_wall g v plane in' in
    let now : Edge → ℕ = λ f. cond (reaches_right f v && under f v) 1 0 in
    let low : Edge → ℕ = λ f. cond (spans g i f && below f e) 1 0 in
    let own : Edge → ℕ = λ f. cond (same_edge e f) 1 0 in
    let pair : (f : Edge) → Contains g.edges f → now f ≡ low f + own f = λ f F.
    subst (λ b. now f ≡ cond (b && below f e) 1 0 + own f) (sym (spans_right g v f plane wall F)) (one_more (reaches_right f v) (under f v) (below f e) (same_edge e f)
    (λ k. subst (λ x. (reaches_right x v ≡ true) × (under x v ≡ true) × (below x e ≡ false)) (same_edge_is e f k) (reaching g v e plane in' t, t.lies_under, below_self g e plane t.in'))
    (λ r n. elim (cases_Bool (under f v)) [
      | inl u ↦ u ∙ sym (elim (let s = seen g v f plane in' F r u in most f F s.spanning s.lies_under) [ inl q ↦ absurd (false≢true (sym n ∙ subst (λ x. same_edge e x ≡ true) (sym q) (same_edge_refl e))) | inr b ↦ b ])
      | inr u ↦ u ∙ sym (false_from_ne_true _ (λ b. false≢true (sym u ∙ under_too g v e f plane in' t F r b)))
    ])) in
    sum_by-same now (λ f. low f + own f) g.edges (each (λ f. now f ≡ low f + own f) g.edges pair) ∙ sum_by-plus low own g.edges ∙ ap (λ n. place g i e + n) (plane.edge_once e t.in')

-- ---- the corner is in the face of what is below
pub corner_face : (g : Skeleton) (v : Point) (o : Option Edge) → IsPlaneSkeleton g → Contains g.vertices v → IsHighestBelow (Contains g.edges) v o → SameFace g (right_bottom g v) (cell_over g o)
corner_face g v None plane in' (none_below none) =
    let z : right_below g v ≡ 0 = none_counted (λ e. reaches_right e v && under e v) g.edges (λ e E. false_from_ne_true _ (λ h.
    let a = and_parts (reaches_right e v) (under e v) h in
    false≢true (sym (none e E (seen g v e plane in' E a.0 a.1).spanning) ∙ a.1))) in
    face_sym g _ _ (subst (λ n. SameFace g first_cell (record { slab = slab_right g v; place = n })) (sym z) (bottom_all g (slab_right g v) v plane in' (omega arith)))
corner_face g v (Some e) plane in' (highest e' E s u most) =
    let t : IsSeen g v e = record { in' = E; spanning = s; lies_under = u } in
    let p = corner_place g v e plane in' t most in
    let w = to_first g e v plane in' E (spans_right g v e plane (on_own_wall g v plane in') E ∙ reaching g v e plane in' t) in
    let c : SameFace g (forward_cell g e) (right_bottom g v) = subst (λ n. SameFace g (forward_cell g e) (record { slab = slab_right g v; place = n })) (sym p) w.1 in
    let long : left_of e.low e.high ≡ true = w.0 in
    let q : left_of_dart g (ahead e) ≡ forward_cell g e = rw long refl in
    face_sym g _ _ (subst (λ x. SameFace g x (right_bottom g v)) (sym q) c)
