-- The ends of a dart as they were read: which of two darts comes first, and what cells ask of its edge.
use Rattle.std.proofs.Common.{◌≡◌, Bool, true, false, sym, ap, ◌∙◌, subst, Ordering, Less, Equal, Greater, is_lt}
use Rattle.std.specs.Ordering.{ordering_then}
use Rattle.exact_plane.specs.Point.{Point}
use Rattle.exact_plane.specs.PointOrder.{point_cmp}
use Rattle.plane_graphs.specs.Graph.{Edge}
use Rattle.slab_laws.specs.Skeleton.{HasWeight, left_of}
use Rattle.slab_laws.specs.declared.names.DartId.{DartId}
use Rattle.slab_laws.specs.Rotation.{dart_below}
use Rattle.slab_laws.specs.Sound.{IsGraphSound, dart_in, edge_in}
use Rattle.slab_laws.specs.View.{View, HasDart, point_in, source_in, target_in}
use Rattle.sound_views.proofs.NamedDarts.{edge_known, source_by, target_by, by_points}

-- ---- two darts
module _ (v : View) (d e : DartId) (a b : Point) (A : a ≡ point_in v (source_in v d)) (B : b ≡ point_in v (source_in v e)) where
  order_is : (p q x y : Point) → is_lt (ordering_then (point_cmp p x) (point_cmp q y)) ≡ dart_below (by_points p q) (by_points x y)
  order_is p q x y = λ i. is_lt (ordering_then (point_cmp (sym (source_by p q) i) (sym (source_by x y) i)) (point_cmp (sym (target_by p q) i) (sym (target_by x y) i)))

  abbrev targets : Ordering
  targets = point_cmp (point_in v (target_in v d)) (point_in v (target_in v e))

  order_read : is_lt (ordering_then (point_cmp a b) targets) ≡ dart_below (dart_in v d) (dart_in v e)
  order_read = (λ i. is_lt (ordering_then (point_cmp (A i) (B i)) targets)) ∙ order_is (point_in v (source_in v d)) (point_in v (target_in v d)) (point_in v (source_in v e)) (point_in v (target_in v e))

  pub less_read : point_cmp a b ≡ Less → true ≡ dart_below (dart_in v d) (dart_in v e)
  less_read h = sym (ap (λ o. is_lt (ordering_then o targets)) h) ∙ order_read

  pub greater_read : point_cmp a b ≡ Greater → false ≡ dart_below (dart_in v d) (dart_in v e)
  greater_read h = sym (ap (λ o. is_lt (ordering_then o targets)) h) ∙ order_read

  pub equal_read : point_cmp a b ≡ Equal → (p q : Point) → p ≡ point_in v (target_in v d) → q ≡ point_in v (target_in v e) → (r : Bool) → r ≡ is_lt (point_cmp p q) → r ≡ dart_below (dart_in v d) (dart_in v e)
  equal_read h p q P Q r t = t ∙ (λ i. is_lt (point_cmp (P i) (Q i))) ∙ sym (ap (λ o. is_lt (ordering_then o targets)) h) ∙ order_read

-- ---- one dart
module _ (v : View) (s : IsGraphSound v) (d : DartId) (has : HasDart v d) where
  -- what is asked of its edge by cells
  pub edge_weights : (f : Edge) → f ≡ edge_in v d → HasWeight f.low × HasWeight f.high × (left_of f.high f.low ≡ false)
  edge_weights f q =
      let E = edge_known v d has in
      let w = s.plane.proper_edge (edge_in v d) E in
      subst (λ (z : Edge). HasWeight z.low × HasWeight z.high × (left_of z.high z.low ≡ false)) (sym q) (w.0, w.1, s.plane.forward (edge_in v d) E)
