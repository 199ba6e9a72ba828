-- What a look at a dart tells of its edge, by the ends and the line that were read.
use Rattle.std.proofs.Common.{◌≡◌, true, false, pos, ◌<ℤ◌, inl, inr, sym, ap, ◌∙◌, subst}
use Rattle.std.specs.Prelude.{Some, not, ◌&&◌}
use Rattle.std.proofs.lemmas.Bool.{false_from_ne_true, not-true}
use lib.Signed.{lt_z}
use Rattle.exact_plane.specs.Line.{Line}
use Rattle.exact_plane.specs.Point.{Point}
use Rattle.exact_plane.specs.PointOrderLaws.{and_true}
use Rattle.exact_plane.specs.Sign.{sign_of}
use Rattle.exact_plane.specs.Span.{Span, AreOnWay}
use Rattle.exact_plane.specs.WholeParts.{whole_parts, is_left_or_right_of}
use Rattle.plane_graphs.specs.Graph.{Edge as PlaneEdge}
use Rattle.plane_graphs.specs.Line.{IsProper}
use Rattle.plane_graphs.proofs.Order.{Lt}
use Rattle.slab_laws.specs.declared.names.DartId.{DartId}
use Rattle.slab_laws.specs.Skeleton.{side, over, under, precedes, inside}
use Rattle.slab_laws.specs.Sound.{edge_in, IsGraphSound}
use Rattle.slab_laws.specs.SpansDrawn.{edge_of}
use Rattle.slab_laws.specs.View.{View, Faces, HasDart, point_in, source_in, target_in, twin_in, line_in}
use Rattle.slab_faces.proofs.OverUnder.{on_neither}
use Rattle.sound_views.specs.ForwardDarts.{IsForwardOf}
use Rattle.sound_views.proofs.ForwardDarts.{way_along, target_has}
use Rattle.sound_views.proofs.GraphDrawn.{between_forward}
use Rattle.counted_looks.specs.Looks.{IsLookOf}
use Rattle.counted_looks.specs.declared.glance.Looked.{Looked}
use Rattle.dcel_records.specs.declared.spot.Spot.TheVariants.{Edge}
use Rattle.edge_predicates.specs.Highest.{IsSpanning}
use Rattle.face_location.proofs.Passings.{spans_ahead, spans_behind, spans_out, apart_past, minus_past, zero_met, plus_below}
use Rattle.face_location.specs.Passing.{IsBelow}
use Rattle.face_location.specs.Spots.{IsSpotOf}
use Rattle.locate_walk.specs.Finds.{IsSided, IsOffEnds, IsFoundAtDart}
use Rattle.locate_walk.specs.Passages.{IsBetween, IsApart}
use Rattle.locate_walk.specs.declared.found.Found.{Found}
use Rattle.locate_walk.specs.declared.found.Found.TheVariants.{At, Below, Past}
use Rattle.locate_walk.proofs.EndsCompared.{differ, beside_apart}

-- both ends that a look told have a positive weight
pub end_weights : (v : View) (s : IsGraphSound v) (d : DartId) (has : HasDart v d) (l : Looked) (look : IsLookOf v (Edge d) l) → (pos 0 <ℤ l.source.w) × (pos 0 <ℤ l.target.w)
end_weights v s d has l look = (
  subst (λ (x : Point). pos 0 <ℤ x.w) (sym look.0) (s.drawn.proper (source_in v d) (s.linked.source d has)).positive,
  subst (λ (x : Point). pos 0 <ℤ x.w) (sym look.1) (s.drawn.proper (target_in v d) (target_has v s d has)).positive,
)

module _ (v : View) (f : Faces) (s : IsGraphSound v) (q : Point) (Q : IsProper q) (d : DartId) (has : HasDart v d) (l : Looked) (look : IsLookOf v (Edge d) l) where
  abbrev low : Point
  low = point_in v (source_in v d)

  abbrev high : Point
  high = point_in v (target_in v d)

  off_ends : (low ≡ q → ⊥) → (high ≡ q → ⊥) → IsOffEnds v q d
  off_ends x y = record { off_source = x; off_target = y }

  -- r is the forward dart along an edge that spans the point
  module _ (r : DartId) (w : IsForwardOf v d r) (k : IsSpanning (edge_in v d) q) (off : IsOffEnds v q d) where
    pub sided : (e : Span) → edge_of e ≡ edge_in v r → (found : Found) → IsSided r e q found → IsFoundAtDart v f q d found
    sided e i (At x) h =
        subst (IsSpotOf v f q) (sym h.1) (record { met = zero_met v d q r w k (h.0 ∙ ap (λ (y : PlaneEdge). sign_of (side y q)) i); face = tt })
    sided e i (Below b) h =
        let c = plus_below v d q r w k (h.0 ∙ ap (λ (y : PlaneEdge). sign_of (side y q)) i) in
        (off, subst (IsBelow v q d) (sym h.1) c, ap edge_of h.2 ∙ i ∙ ap (edge_in v) (sym h.1))
    sided e i Past h = (off, minus_past v d q r w k (h ∙ ap (λ (y : PlaneEdge). sign_of (side y q)) i))

    -- its edge is that between its ends as they were read
    pub drawn : (e : Span) (x y : Point) → x ≡ point_in v (source_in v r) → y ≡ point_in v (target_in v r) → (e.lower ≡ x) × (e.upper ≡ y) → edge_of e ≡ edge_in v r
    drawn e x y X Y h = (λ i. record { low = (h.0 ∙ X) i; high = (h.1 ∙ Y) i }) ∙ sym (between_forward (point_in v (source_in v r)) (point_in v (target_in v r)) w.forward.1)

    -- and the line that was read goes through them
    pub way : (x y : Point) → x ≡ point_in v (source_in v r) → y ≡ point_in v (target_in v r) → (m : Line) → l.line ≡ Some m → AreOnWay x y m
    way x y X Y m e =
        let read : Some (line_in v d) ≡ Some m = sym look.2 ∙ e in
        let same : line_in v d ≡ m = cc in
        subst (AreOnWay x y) same (way_along v s r w.forward x y (line_in v d) X Y (sym w.line))

  -- ---- a dart that starts before the point and ends after it
  module _ (b : IsBetween l.source q l.target) where
    starts : Lt low q
    starts = subst (λ x. Lt x q) look.0 (record { is = b.0 })

    ends : Lt q high
    ends = subst (Lt q) look.1 (record { is = b.1 })

    pub ahead : IsForwardOf v d d × IsSpanning (edge_in v d) q
    ahead = spans_ahead v s d has q Q starts ends

    pub ahead_off : IsOffEnds v q d
    ahead_off = off_ends (differ starts) (λ e. differ ends (sym e))

    pub ahead_way : (m : Line) → l.line ≡ Some m → AreOnWay l.source l.target m
    ahead_way = way d ahead.0 ahead.1 ahead_off l.source l.target look.0 look.1

    pub ahead_found : (e : Span) → (e.lower ≡ l.source) × (e.upper ≡ l.target) → (found : Found) → IsSided d e q found → IsFoundAtDart v f q d found
    ahead_found e h = sided d ahead.0 ahead.1 ahead_off e (drawn d ahead.0 ahead.1 ahead_off e l.source l.target look.0 look.1 h)

  -- ---- one that starts after the point and ends before it, and its twin
  module _ (b : IsBetween l.target q l.source) (r : DartId) (e : r ≡ twin_in v d) where
    ends_first : Lt high q
    ends_first = subst (λ x. Lt x q) look.1 (record { is = b.0 })

    starts_last : Lt q low
    starts_last = subst (Lt q) look.0 (record { is = b.1 })

    pub behind : IsForwardOf v d r × IsSpanning (edge_in v d) q
    behind = spans_behind v s d has q Q ends_first starts_last r e

    pub behind_off : IsOffEnds v q d
    behind_off = off_ends (λ i. differ starts_last (sym i)) (differ ends_first)

    pub at_source : l.target ≡ point_in v (source_in v r)
    at_source = look.1 ∙ ap (λ x. point_in v (source_in v x)) (sym e)

    pub at_target : l.source ≡ point_in v (target_in v r)
    at_target = look.0 ∙ ap (λ x. point_in v (source_in v x)) (sym (ap (twin_in v) e ∙ s.twinned.back d has))

    pub behind_way : (m : Line) → l.line ≡ Some m → AreOnWay l.target l.source m
    behind_way = way r behind.0 behind.1 behind_off l.target l.source at_source at_target

    pub behind_found : (g : Span) → (g.lower ≡ l.target) × (g.upper ≡ l.source) → (found : Found) → IsSided r g q found → IsFoundAtDart v f q d found
    behind_found g h = sided r behind.0 behind.1 behind_off g (drawn r behind.0 behind.1 behind_off g l.target l.source at_source at_target h)

  -- ---- one with both ends on one side of the point
  pub apart_found : IsApart l.source q l.target → IsFoundAtDart v f q d Past
  apart_found h = (
    off_ends (λ e. h.off_source (look.0 ∙ e)) (λ e. h.off_target (look.1 ∙ e)),
    apart_past v d q (λ k. elim (spans_out v s d has q Q k) [
      | inl x ↦ h.not_ahead ((subst (λ y. Lt y q) (sym look.0) x.0).is, (subst (Lt q) (sym look.1) x.1).is)
      | inr x ↦ h.not_back ((subst (λ y. Lt y q) (sym look.1) x.0).is, (subst (Lt q) (sym look.0) x.1).is)
    ]),
  )

  -- ---- one that whole parts rule out
  pub beside_found : is_left_or_right_of (whole_parts q) (whole_parts l.source) (whole_parts l.target) ≡ true → IsFoundAtDart v f q d Past
  beside_found h = let k = end_weights v s d has l look in apart_found (beside_apart l.source q l.target k.0 Q.positive k.1 h)

-- ---- an edge that spans the point and isn't through it
-- the point is at neither end of its darts
pub spanning_off : (v : View) (s : IsGraphSound v) (q : Point) (Q : IsProper q) (d : DartId) (has : HasDart v d) → IsSpanning (edge_in v d) q → IsOffEnds v q d
spanning_off v s q Q d has k = elim (spans_out v s d has q Q k) [
  | inl x ↦ record { off_source = differ x.0; off_target = λ e. differ x.1 (sym e) }
  | inr x ↦ record { off_source = λ e. differ x.1 (sym e); off_target = differ x.0 }
]

-- and isn't inside it
pub aside_outside : (e : PlaneEdge) (q : Point) → (IsSpanning e q → side e q ≡ pos 0 → ⊥) → inside e q ≡ false
unfolding over under
aside_outside e q n =
    false_from_ne_true (inside e q) (λ h.
    let a = and_true (precedes e.low q && precedes q e.high) _ h in
    let k = and_true (precedes e.low q) (precedes q e.high) a.0 in
    let b = and_true (not (lt_z (side e q) (pos 0))) (not (lt_z (pos 0) (side e q))) a.1 in
    n (record { from = k.0; to = k.1 }) (on_neither e q (not-true _ b.0) (not-true _ b.1)))
