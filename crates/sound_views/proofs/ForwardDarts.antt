-- The forward one of two twins, and the span of an edge.
use Rattle.std.proofs.Common.{◌≡◌, Bool, true, false, refl, sym, ap, ◌∙◌, subst}
use Rattle.std.specs.Prelude.{not, if◌then◌else◌}
use Rattle.exact_plane.specs.Line.{Line}
use Rattle.exact_plane.specs.Point.{Point}
use Rattle.exact_plane.specs.Span.{Span, AreOnWay}
use Rattle.plane_graphs.proofs.Order.{lt_out}
use Rattle.slab_laws.specs.declared.names.DartId.{DartId}
use Rattle.slab_laws.specs.Darts.{Dart}
use Rattle.slab_laws.specs.Sound.{IsGraphSound, dart_in, edge_in}
use Rattle.slab_laws.specs.SpansDrawn.{edge_of}
use Rattle.slab_laws.specs.View.{View, HasVertex, HasDart, point_in, source_in, target_in, twin_in, line_in}
use Rattle.arr_notes.specs.Curves.{IsForward}
use Rattle.sound_views.specs.ForwardDarts.{IsForwardOf}
use Rattle.sound_views.proofs.NamedDarts.{twin_dart}

module _ (v : View) (s : IsGraphSound v) where
  pub target_has : (d : DartId) → HasDart v d → HasVertex v (target_in v d)
  target_has d has = s.linked.source (twin_in v d) (s.twinned.has d has)

  -- ---- the forward one of two twins
  pub is_ahead : (d : DartId) → HasDart v d → (dart_in v d).forward ≡ true → IsForwardOf v d d
  is_ahead d has f = record { forward = (has, f); edge = refl; line = refl }

  pub is_behind : (d : DartId) → HasDart v d → (dart_in v d).forward ≡ false → (r : DartId) → r ≡ twin_in v d → IsForwardOf v d r
  is_behind d has f r e =
      let t = twin_dart v s d has in
      subst (IsForwardOf v d) (sym e)
      (record {
        forward = (s.twinned.has d has, ap (λ (h : Dart). h.forward) t ∙ ap not f);
        edge = ap (λ (h : Dart). h.edge) t;
        line = s.twinned.line d has;
      })

  -- ---- the span of an edge, from the ends of a forward dart as they were read
  module _ (r : DartId) (f : IsForward v r) (p q : Point) (l : Line) (P : p ≡ point_in v (source_in v r)) (Q : q ≡ point_in v (target_in v r)) (L : l ≡ line_in v r) where
    pub way_along : AreOnWay p q l
    way_along =
        subst (λ (m : Line). AreOnWay p q m) (sym L)
        (subst (λ (x : Point). AreOnWay x q (line_in v r)) (sym P)
        (subst (λ (x : Point). AreOnWay (point_in v (source_in v r)) x (line_in v r)) (sym Q)
        (record { ascending = (lt_out (point_in v (source_in v r)) (point_in v (target_in v r)) f.1).is; lower_on = s.drawn.starts r f.0; upper_on = s.drawn.ends r f.0 })))

    pub edge_along : (t : Span) → t ≡ record { lower = p; upper = q; line = l } → edge_of t ≡ edge_in v r
    edge_along t e =
        let low = point_in v (source_in v r) in
        let high = point_in v (target_in v r) in
        ap edge_of e
        ∙ (λ i. record { low = P i; high = Q i })
        ∙ sym (ap (λ (b : Bool). if b then record { low = low; high = high } else record { low = high; high = low }) f.1)
