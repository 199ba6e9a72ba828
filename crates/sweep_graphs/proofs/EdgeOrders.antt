-- The orders of edges and stretches by places.
use Rattle.std.proofs.Common.{◌≡◌, ℕ, ◌<◌, ◌&&◌, eqb, arith, refl, ap, ap₂, subst, ◌∙◌, List, length, ◌⊎◌, inl, inr, nat_cmp, Ordering, Less, Equal, Greater}
use Rattle.std.specs.Ordering.{ordering_then, eq_by_cmp}
use Rattle.std.specs.Cmp.{IsTotalOrder, then_total, on_total, nat_cmp_total, tied_itself}
use Rattle.std.proofs.lemmas.Bool.{cases_lt}
use Rattle.integers.proofs.Classes.{then_equal, then_less}
use Rattle.integers.proofs.Tests.{nat_exact, less_nat, number_ties, both_equal}
use Rattle.exact_plane.specs.Point.{Point}
use Rattle.exact_plane.specs.PointOrder.{point_cmp}
use Rattle.exact_plane.specs.PointOrderLaws.{point_cmp_total}
use Rattle.plane_graphs.specs.Ascending.{IsAscending}
use Rattle.plane_graphs.specs.Graph.{edge_cmp}
use Rattle.plane_graphs.proofs.Sorting.{rises}
use Rattle.sweep_graphs.specs.declared.edges.EdgeEnds.{EdgeEnds}
use Rattle.sweep_graphs.specs.declared.trace.Stretch.{Stretch}
use Rattle.sweep_graphs.specs.Edges.{ends_cmp, stretch_cmp, edge_between}
use Rattle.sweep_graphs.specs.Traces.{point_at, no_point}

pub ends_cmp_total : IsTotalOrder ends_cmp
ends_cmp_total = then_total (on_total (λ e. e.low) nat_cmp_total) (on_total (λ e. e.high) nat_cmp_total)

pub ends_never : (e : EdgeEnds) → ends_cmp e e ≡ Less → ⊥
ends_never e h = let t = tied_itself ends_cmp_total e in cc

pub ends_cmp_exact : (e f : EdgeEnds) → ends_cmp e f ≡ Equal → e ≡ f
ends_cmp_exact e f h =
    let r = then_equal (nat_cmp e.low f.low) (nat_cmp e.high f.high) h in
    let a = nat_exact e.low f.low r.0 in
    let b = nat_exact e.high f.high r.1 in
    λ i. record { low = a i; high = b i }

pub ends_ties : (e f : EdgeEnds) → eqb e.low f.low && eqb e.high f.high ≡ eq_by_cmp ends_cmp e f
ends_ties e f = ap₂ ◌&&◌ (number_ties e.low f.low) (number_ties e.high f.high) ∙ both_equal (nat_cmp e.low f.low) (nat_cmp e.high f.high)

pub stretch_cmp_total : IsTotalOrder stretch_cmp
stretch_cmp_total = then_total (on_total (λ s. s.low) nat_cmp_total) (then_total (on_total (λ s. s.high) nat_cmp_total) (on_total (λ s. s.piece) nat_cmp_total))

pub stretch_cmp_exact : (s t : Stretch) → stretch_cmp s t ≡ Equal → s ≡ t
stretch_cmp_exact s t h =
    let high = nat_cmp s.high t.high in
    let piece = nat_cmp s.piece t.piece in
    let r = then_equal (nat_cmp s.low t.low) (ordering_then high piece) h in
    let q = then_equal high piece r.1 in
    let a = nat_exact s.low t.low r.0 in
    let b = nat_exact s.high t.high q.0 in
    let c = nat_exact s.piece t.piece q.1 in
    λ i. record { low = a i; high = b i; piece = c i }

pub stretch_ties : (s t : Stretch) → eqb s.low t.low && (eqb s.high t.high && eqb s.piece t.piece) ≡ eq_by_cmp stretch_cmp s t
stretch_ties s t =
    ap₂ ◌&&◌ (number_ties s.low t.low) (ap₂ ◌&&◌ (number_ties s.high t.high) (number_ties s.piece t.piece) ∙ both_equal (nat_cmp s.high t.high) (nat_cmp s.piece t.piece))
    ∙ both_equal (nat_cmp s.low t.low) (ordering_then (nat_cmp s.high t.high) (nat_cmp s.piece t.piece))

pub never_less : (p : Point) → point_cmp p p ≡ Less → ⊥
never_less p h = let t = tied_itself point_cmp_total p in cc

-- what stands at one place is one point
pub one_point : (points : List Point) (j k : ℕ) → nat_cmp j k ≡ Equal → point_cmp (point_at points j) (point_at points k) ≡ Equal
one_point points j k e = subst (λ i. point_cmp (point_at points j) (point_at points i) ≡ Equal) (nat_exact j k e) (tied_itself point_cmp_total (point_at points j))

-- places of points that ascend: a point has one, and they keep the order of edges
module _ (points : List Point) (up : IsAscending point_cmp points) where
  pub one_place : (j k : ℕ) → j < length points → k < length points → point_at points j ≡ point_at points k → j ≡ k
  one_place j k lj lk e = elim (cases_lt j k) [
    | inl d ↦ absurd (never_less (point_at points k) (subst (λ z. point_cmp z (point_at points k) ≡ Less) e (rises point_cmp points up j k no_point d lk)))
    | inr d ↦ elim (cases_lt k j) [
      | inl f ↦ absurd (never_less (point_at points k) (subst (λ z. point_cmp (point_at points k) z ≡ Less) e (rises point_cmp points up k j no_point f lj)))
      | inr f ↦ omega arith
    ]
  ]

  pub edges_rise : (e f : EdgeEnds) → f.low < length points → f.high < length points → ends_cmp e f ≡ Less → edge_cmp (edge_between points e) (edge_between points f) ≡ Less
  unfolding edge_cmp
  edges_rise e f low high h = elim (then_less (nat_cmp e.low f.low) (nat_cmp e.high f.high) h) [
    | inl a ↦ ap (λ o. ordering_then o (point_cmp (point_at points e.high) (point_at points f.high))) (rises point_cmp points up e.low f.low no_point (less_nat e.low f.low a) low)
    | inr b ↦ ap₂ ordering_then (one_point points e.low f.low b.0) (rises point_cmp points up e.high f.high no_point (less_nat e.high f.high b.1) high)
  ]
