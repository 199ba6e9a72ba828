-- The ways of an edge's darts, whole and in two parts: a is where d starts, b where t does, and p the point of w between them.
use Rattle.std.proofs.Common.{◌≡◌, ◌≢◌, true, sym, ap, ◌∙◌, subst}
use Rattle.exact_plane.specs.Point.{Point}
use Rattle.plane_graphs.specs.Line.{precedes}
use Rattle.plane_graphs.proofs.Order.{lt_out, lt_in, lt_trans, lt_never}
use Rattle.rotation_order.specs.EdgeParts.{IsTurningAs}
use Rattle.slab_laws.specs.declared.names.DartId.{DartId}
use Rattle.slab_laws.specs.declared.names.VertexId.{VertexId}
use Rattle.slab_laws.specs.Darts.{Dart, source, ahead, back}
use Rattle.slab_laws.specs.Rotation.{earlier}
use Rattle.slab_laws.specs.Sound.{dart_in, IsTwinned}
use Rattle.slab_laws.specs.View.{View, HasVertex, HasDart, point_in, source_in}
use Rattle.sound_changes.specs.SplitHalves.{IsHalved}
use Rattle.sound_changes.proofs.SplitCases.{edge_of_ends, ahead_by, back_by}
use Rattle.sound_changes.proofs.SplitHalves.{whole_d, whole_t, half_d, half_t, half_n, half_m, way_old}

-- as darts that turn alike compare with another one
pub alike_left : (x y z x' y' : Dart) → x' ≡ x → y' ≡ y → IsTurningAs x y → source z ≡ source x → earlier y' z ≡ earlier x' z
alike_left x y z x' y' p q k at = ap (λ c. earlier c z) q ∙ k.before z at ∙ sym (ap (λ c. earlier c z) p)

pub alike_right : (x y z x' y' : Dart) → x' ≡ x → y' ≡ y → IsTurningAs x y → source z ≡ source x → earlier z y' ≡ earlier z x'
alike_right x y z x' y' p q k at = ap (earlier z) q ∙ k.behind z at ∙ sym (ap (earlier z) p)

module _ (g h : View) (d t n m : DartId) (w : VertexId) (i : IsHalved g h d t n m w) (twinned : IsTwinned g) (sourced : (k : DartId) → HasDart g k → HasVertex g (source_in g k))
    (p : Point) (at_w : point_in h w ≡ p) (before : precedes (point_in g (source_in g d)) p ≡ true) (behind : precedes p (point_in g (source_in g t)) ≡ true) where
  abbrev A : Point
  A = point_in g (source_in g d)

  abbrev B : Point
  B = point_in g (source_in g t)

  pub ends_ordered : precedes A B ≡ true
  ends_ordered = lt_in (lt_trans (lt_out A p before) (lt_out p B behind))

  pub ends_apart : source_in g d ≢ source_in g t
  ends_apart q = lt_never (lt_out A A (subst (λ z. precedes A (point_in g z) ≡ true) (sym q) ends_ordered))

  pub same_way : (k : DartId) → HasDart g k → k ≢ t → k ≢ d → dart_in h k ≡ dart_in g k
  same_way k o nt nd = way_old g h d t n m w i sourced p at_w k o (twinned.has k o) (twinned.back k o) nt nd

  pub whole_ahead : dart_in g d ≡ ahead (edge_of_ends A B)
  whole_ahead = whole_d g h d t n m w i sourced p at_w ∙ ahead_by A B ends_ordered

  pub whole_back : dart_in g t ≡ back (edge_of_ends A B)
  whole_back = whole_t g h d t n m w i sourced p at_w ∙ back_by A B ends_ordered

  pub near_ahead : dart_in h d ≡ ahead (edge_of_ends A p)
  near_ahead = half_d g h d t n m w i sourced p at_w ∙ ahead_by A p before

  pub near_back : dart_in h t ≡ back (edge_of_ends A p)
  near_back = half_t g h d t n m w i sourced p at_w ∙ back_by A p before

  pub far_ahead : dart_in h n ≡ ahead (edge_of_ends p B)
  far_ahead = half_n g h d t n m w i sourced p at_w ∙ ahead_by p B behind

  pub far_back : dart_in h m ≡ back (edge_of_ends p B)
  far_back = half_m g h d t n m w i sourced p at_w ∙ back_by p B behind
