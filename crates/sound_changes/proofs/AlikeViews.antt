-- Another view with the same darts between the same points.
use Rattle.std.proofs.Common.{◌≡◌, ℕ, sym, ap, ap₂, ◌∙◌, subst}
use Rattle.exact_plane.specs.Line.{side_of}
use Rattle.plane_graphs.specs.Line.{IsProper, IsProperLine}
use Rattle.rotation_order.specs.Ring.{Out}
use Rattle.rotation_order.proofs.RingEdits.{kept}
use Rattle.slab_laws.specs.declared.names.DartId.{DartId}
use Rattle.slab_laws.specs.declared.names.VertexId.{VertexId}
use Rattle.slab_laws.specs.Rotation.{earlier, OutOf}
use Rattle.slab_laws.specs.Skeleton.{IsPlaneSkeleton}
use Rattle.slab_laws.specs.Sound.{skeleton_of, dart_in, IsNamed, IsTwinned, IsDrawn, IsGraphSound}
use Rattle.slab_laws.specs.View.{View, HasVertex, HasDart, vertex_id, dart_id, point_in, source_in, twin_in, next_in, target_in, line_in}
use Rattle.sound_views.proofs.NamedDarts.{by_points}
use Rattle.arr_notes.specs.Reads.{IsSameDart}
use Rattle.rotation_order.specs.VertexRings.{turns_in, RingOf}
use Rattle.rotation_order.proofs.RingNames.{out_of}
use Rattle.rotation_order.proofs.SoundRings.{sound_views_have_rings, rings_make_sound_views}

-- h has the darts of g, and of the vertices at least those that they leave
pub record IsAlike (g h : View) : Type 0 where
  pub named : IsNamed h
  pub darts : (d : DartId) → IsSameDart g h d
  pub there : (d : DartId) → HasDart g d → HasVertex h (source_in g d)
  pub at : (d : DartId) → HasDart g d → point_in h (source_in g d) ≡ point_in g (source_in g d)
  pub proper : (u : VertexId) → HasVertex h u → IsProper (point_in h u)
  pub points : (u w : VertexId) → HasVertex h u → HasVertex h w → point_in h u ≡ point_in h w → u ≡ w
  pub plane : IsPlaneSkeleton (skeleton_of h)

module _ (g h : View) (s : IsGraphSound g) (l : IsAlike g h) where
  source_point : (d : DartId) → HasDart g d → point_in h (source_in h d) ≡ point_in g (source_in g d)
  source_point d has = ap (point_in h) (l.darts d).source ∙ l.at d has

  target_point : (d : DartId) → HasDart g d → point_in h (target_in h d) ≡ point_in g (target_in g d)
  target_point d has =
      ap (λ e. point_in h (source_in h e)) (l.darts d).twin
      ∙ ap (point_in h) (l.darts (twin_in g d)).source
      ∙ l.at (twin_in g d) (s.twinned.has d has)

  way : (d : DartId) → HasDart g d → dart_in h d ≡ dart_in g d
  way d has = ap₂ by_points (source_point d has) (target_point d has)

  twinned : IsTwinned h
  twinned = record {
    has = λ d k. subst (HasDart h) (sym (l.darts d).twin) ((l.darts (twin_in g d)).has (s.twinned.has d ((l.darts d).had k)));
    back = λ d k. ap (twin_in h) (l.darts d).twin ∙ (l.darts (twin_in g d)).twin ∙ s.twinned.back d ((l.darts d).had k);
    other = λ d k q. s.twinned.other d ((l.darts d).had k) (sym (l.darts d).twin ∙ q);
    line = λ d k. ap (line_in h) (l.darts d).twin ∙ (l.darts (twin_in g d)).line ∙ s.twinned.line d ((l.darts d).had k) ∙ sym (l.darts d).line;
  }

  sourced : (d : DartId) → HasDart h d → HasVertex h (source_in h d)
  sourced d k =
      let had = (l.darts d).had k in
      subst (HasVertex h) (sym (l.darts d).source) (l.there d had)

  drawn : IsDrawn h
  drawn = record {
    proper = l.proper;
    points = l.points;
    line = λ d k. subst IsProperLine (sym (l.darts d).line) (s.drawn.line d ((l.darts d).had k));
    starts = λ d k. ap₂ side_of (l.darts d).line (source_point d ((l.darts d).had k)) ∙ s.drawn.starts d ((l.darts d).had k);
    ends = λ d k. ap₂ side_of (l.darts d).line (target_point d ((l.darts d).had k)) ∙ s.drawn.ends d ((l.darts d).had k);
  }

  out_before : (u : VertexId) (c : ℕ) → Out (turns_in h) u.0 c → Out (turns_in g) u.0 c
  out_before u c o = ((l.darts (dart_id c)).had o.0, sym (ap (λ z. z.0) (l.darts (dart_id c)).source) ∙ o.1)

  ring_kept : (u : VertexId) → HasVertex g u → RingOf h u
  ring_kept u has =
      kept earlier (turns_in g) (turns_in h) u.0 (OutOf (skeleton_of g) (point_in g u)) (OutOf (skeleton_of h) (point_in h u)) (record {
        from = out_before u;
        into = λ c o. ((l.darts (dart_id c)).has o.0, ap (λ z. z.0) (l.darts (dart_id c)).source ∙ o.1);
        inside = λ c o. out_of h twinned l.plane u c o;
        way = λ c o. way (dart_id c) o.0;
        after = λ c o. ap (λ z. z.0) (ap (next_in h) (l.darts (dart_id c)).twin ∙ (l.darts (twin_in g (dart_id c))).next);
      }) (sound_views_have_rings g u s has)

  -- a vertex that a dart leaves was there
  was_there : (u : VertexId) (c : ℕ) → Out (turns_in h) u.0 c → HasVertex g u
  was_there u c o = let b = out_before u c o in subst (HasVertex g) (ap vertex_id b.1) (s.linked.source (dart_id c) b.0)

  ring : (u : VertexId) → RingOf h u
  ring u = record {
    inside = λ c o. out_of h twinned l.plane u c o;
    follows = λ d o. (ring_kept u (was_there u d o)).follows d o;
    differ = λ c d oc od. (ring_kept u (was_there u c oc)).differ c d oc od;
  }

  pub alike_sound : IsGraphSound h
  alike_sound = rings_make_sound_views h l.named twinned sourced drawn l.plane (λ u has. ring u)
