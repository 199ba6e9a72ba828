-- On one side of a wall: the edges strictly below a point have the least places, and one at the point has the next.
use Rattle.std.proofs.Common.{◌≡◌, ℕ, ◌<◌, ◌≤◌, Bool, true, false, arith, refl, sym, ◌∙◌, inl, inr}
use Rattle.std.specs.Prelude.{pos, ◌&&◌}
use Rattle.std.specs.List.{count_by, Contains}
use Rattle.std.proofs.lemmas.Bool.{and_parts, and_from, false_from_ne_true, cases_Bool}
use Rattle.exact_plane.specs.Point.{Point}
use Rattle.plane_graphs.specs.Graph.{Edge}
use Rattle.slab_laws.specs.Skeleton.{Skeleton, side, over, under, below, IsPlaneSkeleton}
use Rattle.slab_laws.specs.Slabs.{spans, place, width}
use Rattle.slab_faces.proofs.Sums.{fewer, fewer_than}
use Rattle.slab_faces.proofs.Walls.{run_positive}
use Rattle.slab_faces.proofs.Order.{below_from, below_asym, gap_positive}
use Rattle.slab_faces.proofs.Cells.{under_below, IsSideOf}
use Rattle.slab_faces.proofs.Slabs.{IsSlab, place_less}
use Rattle.slab_faces.proofs.Along.{below_self}
use Rattle.slab_faces.proofs.Outside.{place_in}
use Rattle.slab_faces.proofs.EveryFace.{edge_at}
use Rattle.slab_faces.proofs.OverUnder.{zero_not_under, zero_not_over, on_neither}

both_false : (b : Bool) → (b && false) ≡ false
both_false true = refl
both_false false = refl

module _ (g : Skeleton) (t : Point) (i : ℕ) (M : Point) (reach : Edge → Bool) (plane : IsPlaneSkeleton g) (s : IsSideOf g t i reach) (slab : IsSlab g i M) where
  -- how many are strictly below t
  abbrev pub lowers : ℕ
  lowers = count_by (λ e. reach e && under e t) g.edges

  -- with an edge, all edges below it are below t
  pub sinks : (f e : Edge) → Contains g.edges f → Contains g.edges e → reach f ≡ true → reach e ≡ true → below f e ≡ true → under e t ≡ true → under f t ≡ true
  sinks f e F E rf re b u = elim (cases_Bool (under f t)) [
    | inl h ↦ h
    | inr h ↦ absurd (below_asym g f e plane F E b (under_below g t i reach e f s E F re rf u h))
  ]

  -- so their places are the least
  pub in_lowers : (e : Edge) → Contains g.edges e → reach e ≡ true → under e t ≡ true → place g i e < lowers
  in_lowers e E re u =
      fewer_than (λ f. spans g i f && below f e) (λ f. reach f && under f t) g.edges e E
      (rw (below_self g e plane E) (both_false (spans g i e))) (and_from _ _ re u) (λ f F h.
      let a = and_parts (spans g i f) (below f e) h in
      let rf = sym (s.spanned f F) ∙ a.0 in
      and_from _ _ rf (sinks f e F E rf re a.1 u))

  pub past_lowers : (e : Edge) → Contains g.edges e → reach e ≡ true → under e t ≡ false → lowers ≤ place g i e
  past_lowers e E re n =
      fewer (λ f. reach f && under f t) (λ f. spans g i f && below f e) g.edges (λ f F h.
      let a = and_parts (reach f) (under f t) h in
      and_from _ _ (s.spanned f F ∙ a.0) (under_below g t i reach f e s F E a.0 re a.1 n))

  -- an edge of a lesser place than they are many is one of them
  pub is_lower : (e : Edge) → Contains g.edges e → reach e ≡ true → place g i e < lowers → under e t ≡ true
  is_lower e E re h = elim (cases_Bool (under e t)) [
    | inl u ↦ u
    | inr n ↦ let k = past_lowers e E re n in absurd (omega arith)
  ]

  -- no more of them than edges in the slab
  pub lowers_there : lowers ≤ width g i
  unfolding width
  lowers_there = fewer (λ f. reach f && under f t) (spans g i) g.edges (λ f F h. s.spanned f F ∙ (and_parts (reach f) (under f t) h).0)

  -- the next place is that of an edge at t, where there is any
  pub at_lowest : (e : Edge) → Contains g.edges e → reach e ≡ true → side e t ≡ pos 0 → (h : Edge) × Contains g.edges h × (reach h ≡ true) × (side h t ≡ pos 0) × (place g i h ≡ lowers)
  at_lowest e E re z =
      let n = zero_not_under e t z in
      let l = past_lowers e E re n in
      let w = place_in g i e plane E (s.spanned e E ∙ re) in
      let h = edge_at g i M plane slab lowers (omega arith) in
      let rh = sym (s.spanned h.0 h.1) ∙ h.2 in
      let hn : under h.0 t ≡ false = false_from_ne_true _ (λ u. let k = in_lowers h.0 h.1 rh u in let q = h.3 in absurd (omega arith)) in
      let ho : over h.0 t ≡ false = false_from_ne_true _ (λ o.
      let p = s.passes e h.0 E h.1 re rh in
      let b = below_from e h.0 t p (gap_positive e h.0 t (run_positive e p.f_long) (run_positive h.0 p.e_long) (zero_not_over e t z) o) in
      let k = place_less g i M e h.0 plane slab E h.1 (s.spanned e E ∙ re) h.2 b in
      let q = h.3 in
      absurd (omega arith)) in
      (h.0, h.1, rh, on_neither h.0 t ho hn, h.3)

  -- the edge with the next place, where more are below t
  pub next_lower : (k : ℕ) → k < lowers → (h : Edge) × Contains g.edges h × (reach h ≡ true) × (under h t ≡ true) × (place g i h ≡ k)
  next_lower k l =
      let w = lowers_there in
      let h = edge_at g i M plane slab k (omega arith) in
      let rh = sym (s.spanned h.0 h.1) ∙ h.2 in
      let q = h.3 in
      (h.0, h.1, rh, is_lower h.0 h.1 rh (omega arith), h.3)
