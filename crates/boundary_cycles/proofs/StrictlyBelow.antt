-- The cell on the left of a point's wall by the edges strictly below the point; for a point off a cycle its parity is that of the cell by the edges at or below it.
use Rattle.std.proofs.Common.{◌≡◌, ◌≢◌, ◌⊎◌, ℕ, ◌<◌, ◌≤◌, Bool, true, false, cond, arith, refl, sym, ap, ◌∙◌, subst, inl, inr}
use Rattle.std.specs.Prelude.{not, ◌&&◌, ◌==◌, ◌%◌}
use Rattle.std.specs.List.{Contains, count_by, sum_by}
use Rattle.std.proofs.lemmas.Int.{ints}
use Rattle.std.proofs.lemmas.Bool.{false≢true, true≢false, and_parts, and_from, not-true, false_from_ne_true, cases_Bool}
use Rattle.exact_plane.specs.Point.{Point}
use Rattle.plane_graphs.specs.Graph.{Edge}
use Rattle.plane_graphs.specs.Line.{IsProper}
use Rattle.plane_graphs.specs.Line.{precedes as comes_first}
use Rattle.plane_graphs.proofs.Order.{Tri, tri}
use Rattle.plane_graphs.proofs.Order.Tri.{less, same, more}
use Rattle.slab_laws.specs.declared.names.DartId.{DartId}
use Rattle.slab_laws.specs.FacesSound.{lead_in}
use Rattle.slab_laws.specs.Skeleton.{Skeleton, HasWeight, left_of, lower_than, over, under, below, inside, precedes, IsPlaneSkeleton}
use Rattle.slab_laws.specs.Slabs.{reaches_left, slab_left, spans, place, left_bottom}
use Rattle.slab_laws.specs.Sound.{IsGraphSound, skeleton_of, dart_in, edge_in, edge_between}
use Rattle.slab_laws.specs.View.{View, HasDart, point_in, source_in, target_in, next_in}
use Rattle.slab_laws.specs.Weights.{weight_above}
use Rattle.rotation_order.proofs.Around.{edge_by}
use Rattle.slab_faces.proofs.InnerPoints.{before_in}
use Rattle.slab_faces.proofs.NextLemmas.{darts_exact}
use Rattle.slab_faces.proofs.Order.{below_asym}
use Rattle.slab_faces.proofs.Slabs.{no_order}
use Rattle.slab_faces.proofs.Sums.{each, sum_by-same, fewer, fewer_than}
use Rattle.slab_faces.proofs.Walls.{left_of-before, run_positive, side-upper, side_rises, over-upper}
use Rattle.slab_faces.proofs.Cells.{leb_by, on_side, under_below, IsSideOf}
use Rattle.sound_views.proofs.NamedDarts.{edge_known}
use Rattle.arr_notes.specs.CycleNames.{dart_names}
use Rattle.face_changes.specs.Kinds.{odd_at}
use Rattle.face_changes.proofs.OneToOneMaps.{tally}
use Rattle.boundary_cycles.specs.declared.asked.Asked.TheVariants.{Left}
use Rattle.boundary_cycles.specs.Asked.{is_above_asked}
use Rattle.boundary_cycles.specs.Counted.{is_on_cycle, is_odd_above}
use Rattle.boundary_cycles.specs.OffCycle.{IsOffCycle}
use Rattle.boundary_cycles.proofs.Above.{before}
use Rattle.boundary_cycles.proofs.Counts.{odd_by_names}
use Rattle.boundary_cycles.proofs.NamedWalks.{of_list, lead_step}

not_both : (e : Edge) (t : Point) → over e t ≡ true → under e t ≡ false
unfolding over under
not_both e t h = false_from_ne_true _ (λ k. absurd (omega (arith, ints)))

inside_by : (e : Edge) (q : Point) → left_of e.low q ≡ true → left_of q e.high ≡ true → over e q ≡ false → under e q ≡ false → inside e q ≡ true
unfolding over under
inside_by e q a c o u = rw (a, c, o, u) refl

rises : (e : Edge) (q : Point) → HasWeight q → HasWeight e.high → left_of e.low e.high ≡ true → left_of e.high q ≡ false → left_of q e.high ≡ false → lower_than e.high q ≡ true → under e q ≡ true
unfolding under
rises e q Q H k b c r = let y = side-upper e in let z = side_rises e e.high q H Q (run_positive e k) b c r (omega (arith, ints)) in sym (omega (arith, ints))

module _ (g : Skeleton) (t : Point) (i : ℕ) (reach : Edge → Bool) (plane : IsPlaneSkeleton g) (s : IsSideOf g t i reach) where
  at_least : (e : Edge) → Contains g.edges e → reach e ≡ true → under e t ≡ false → count_by (λ f. reach f && under f t) g.edges ≤ place g i e
  at_least e E re o =
      fewer (λ f. reach f && under f t) (λ f. spans g i f && below f e) g.edges (λ f F h.
      let a = and_parts (reach f) (under f t) h in
      and_from _ _ (s.spanned f F ∙ a.0) (under_below g t i reach f e s F E a.0 re a.1 o))

  at_most : (e : Edge) → Contains g.edges e → reach e ≡ true → under e t ≡ true → place g i e < count_by (λ f. reach f && under f t) g.edges
  at_most e E re o =
      fewer_than (λ f. spans g i f && below f e) (λ f. reach f && under f t) g.edges e E
      (false_from_ne_true _ (λ h. let a = and_parts (spans g i e) (below e e) h in below_asym g e e plane E E a.1 a.1))
      (and_from _ _ re o)
      (λ f F h.
      let a = and_parts (spans g i f) (below f e) h in
      let rf = sym (s.spanned f F) ∙ a.0 in
      and_from _ _ rf (by (under f t) (λ k. below_asym g f e plane F E a.1 (under_below g t i reach e f s E F re rf o k))))
    where
      by : (b : Bool) → (b ≡ false → ⊥) → b ≡ true
      by true h = refl
      by false h = absurd (h refl)

  weight_strictly : (m : Edge → ℕ) → weight_above g m i (count_by (λ f. reach f && under f t) g.edges) ≡ sum_by (λ e. cond (reach e && not (under e t)) (m e) 0) g.edges
  weight_strictly m =
      sum_by-same _ _ g.edges (each _ g.edges (λ e E.
      ap (λ b. cond {A = ℕ} b (m e) 0) (on_side (spans g i e) _ (reach e) (not (under e t)) (s.spanned e E) (λ re.
      leb_by _ _ (not (under e t)) (λ o. at_least e E re (not-true _ o)) (λ o. at_most e E re (flip (under e t) o))))))
    where
      flip : (b : Bool) → not b ≡ false → b ≡ true
      flip true h = refl
      flip false h = absurd (true≢false h)

-- ---- a point that is on no edge and no vertex of the cycle
module _ (v : View) (s : IsGraphSound v) (d : DartId) (q : Point) (Q : IsProper q) (off : IsOffCycle v d q) where
  -- the upper end of an edge of the cycle is not the point
  not_upper : (x : DartId) → HasDart v x → lead_in v x ≡ lead_in v d → q ≡ (edge_in v x).high → ⊥
  not_upper x hx l e = by (ends (point_in v (source_in v x)) (point_in v (target_in v x)))
    where
      ends : (p r : Point) → ((edge_between p r).high ≡ p) ⊎ ((edge_between p r).high ≡ r)
      ends p r = go (comes_first p r)
        where
          go : (b : Bool) → ((edge_by b p r).high ≡ p) ⊎ ((edge_by b p r).high ≡ r)
          go true = inr refl
          go false = inl refl

      by : ((edge_in v x).high ≡ point_in v (source_in v x)) ⊎ ((edge_in v x).high ≡ point_in v (target_in v x)) → ⊥
      by (inl k) = (off x hx l).1 (sym (e ∙ k))
      by (inr k) = (off (next_in v x) (s.linked.has x hx) (lead_step v s x hx ∙ l)).1 (ap (point_in v) (s.linked.joins x hx) ∙ sym (e ∙ k))

  proper_high : (x : DartId) → HasDart v x → IsProper (edge_in v x).high
  proper_high x hx = by (point_in v (source_in v x)) (point_in v (target_in v x)) (s.drawn.proper (source_in v x) (s.linked.source x hx)) (subst (λ u. IsProper (point_in v u)) (s.linked.joins x hx) (s.drawn.proper (source_in v (next_in v x)) (s.linked.source (next_in v x) (s.linked.has x hx))))
    where
      by : (p r : Point) → IsProper p → IsProper r → IsProper (edge_between p r).high
      by p r P R = go (comes_first p r)
        where
          go : (b : Bool) → IsProper (edge_by b p r).high
          go true = R
          go false = P

  -- where it is in the edge's range, it is above the edge's line or below
  not_on : (x : DartId) → HasDart v x → lead_in v x ≡ lead_in v d → left_of (edge_in v x).low q ≡ true → left_of (edge_in v x).high q ≡ false → over (edge_in v x) q ≡ false → under (edge_in v x) q ≡ false → ⊥
  not_on x hx l a b o u =
      let e = edge_in v x in
      let w = s.plane.proper_edge e (edge_known v x hx) in
      let slants : left_of e.low e.high ≡ true = left_of-before e.low q e.high w.0 Q.positive w.1 a b in
      elim (cases_Bool (left_of q e.high)) [
        | inl c ↦ false≢true (sym (off x hx l).0 ∙ inside_by e q a c o u)
        | inr c ↦ (let h : lower_than q e.high ≡ false = sym (over-upper e q w.1 slants b c) ∙ o in
            let k : lower_than e.high q ≡ false = false_from_ne_true _ (λ r. false≢true (sym u ∙ rises e q Q.positive w.1 slants b c r)) in
            apart (tri q e.high) (no_order q e.high c b h) (no_order e.high q b c k))
      ]
    where
      apart : Tri q (edge_in v x).high → precedes q (edge_in v x).high ≡ false → precedes (edge_in v x).high q ≡ false → ⊥
      apart (less i) f h = false≢true (sym f ∙ before_in q (edge_in v x).high Q (proper_high x hx) i)
      apart (same i) f h = not_upper x hx l i
      apart (more i) f h = false≢true (sym h ∙ before_in (edge_in v x).high q (proper_high x hx) Q i)

  strictly : Edge → Bool
  strictly f = reaches_left f q && not (under f q)

  one_test : (x : DartId) → HasDart v x → lead_in v x ≡ lead_in v d → is_above_asked (Left q) (edge_in v x) ≡ strictly (edge_in v x)
  unfolding strictly
  one_test x hx l =
      let e = edge_in v x in
      by (left_of e.low q) (left_of e.high q) (over e q) (under e q) refl refl refl refl
    where
      by : (a b o u : Bool) → left_of (edge_in v x).low q ≡ a → left_of (edge_in v x).high q ≡ b → over (edge_in v x) q ≡ o → under (edge_in v x) q ≡ u → ((a && not b) && o) ≡ ((a && not b) && not u)
      by false b o u A B O U = refl
      by true true o u A B O U = refl
      by true false true true A B O U = absurd (false≢true (sym (not_both (edge_in v x) q O) ∙ U))
      by true false true false A B O U = refl
      by true false false true A B O U = refl
      by true false false false A B O U = absurd (not_on x hx l A B O U)

  pub odd_strictly : is_odd_above v d (Left q) ≡ odd_at (skeleton_of v) (dart_in v d) (left_bottom (skeleton_of v) q)
  unfolding strictly
  odd_strictly =
      ap (λ n. n % 2 == 1)
      (sum_by-same (λ x. tally (is_on_cycle v d x && is_above_asked (Left q) (edge_in v x))) (λ x. tally (is_on_cycle v d x && strictly (edge_in v x))) (dart_names v)
      (each (λ x. tally (is_on_cycle v d x && is_above_asked (Left q) (edge_in v x)) ≡ tally (is_on_cycle v d x && strictly (edge_in v x))) (dart_names v) (λ x c. elim (cases_Bool (is_on_cycle v d x)) [
        | inl t ↦ ap (λ b. tally (is_on_cycle v d x && b)) (one_test x (of_list v s x c) (darts_exact.path _ _ t))
        | inr t ↦ ap (λ b. tally (b && is_above_asked (Left q) (edge_in v x))) t ∙ sym (ap (λ b. tally (b && strictly (edge_in v x))) t)
      ])))
      ∙ odd_by_names v s d strictly (left_bottom (skeleton_of v) q)
      (λ m. weight_strictly (skeleton_of v) q (slab_left (skeleton_of v) q) (λ f. reaches_left f q) s.plane (before (skeleton_of v) q s.plane Q.positive) m)
