-- Whether a point is between the ends of an edge, and on which side of it, by the ends of one of its darts.
use Rattle.std.proofs.Common.{◌≡◌, ◌⊎◌, inl, inr, ⊎_elim, Bool, true, false, not, ◌&&◌, sym, ap, ◌∙◌, subst}
use Rattle.std.specs.Prelude.{if◌then◌else◌}
use Rattle.integers.proofs.Tests.{not_true}
use Rattle.exact_plane.specs.Point.{Point}
use Rattle.exact_plane.specs.PointOrderLaws.{and_true}
use Rattle.exact_plane.specs.Sign.{sign_of}
use Rattle.exact_plane.specs.declared.sides.Sign.{Sign}
use Rattle.exact_plane.specs.declared.sides.Sign.TheVariants.{Minus, Zero, Plus}
use Rattle.plane_graphs.specs.Graph.{Edge}
use Rattle.plane_graphs.specs.Line.{IsProper, precedes}
use Rattle.plane_graphs.proofs.Lists.{and_in, clash, decide}
use Rattle.plane_graphs.proofs.Order.{Lt, lt_both, lt_in, lt_out, lt_trans}
use Rattle.slab_laws.specs.declared.names.DartId.{DartId}
use Rattle.slab_laws.specs.Skeleton as counted
use Rattle.slab_laws.specs.Skeleton.{inside, side, under}
use Rattle.slab_laws.specs.Sound.{edge_in, IsGraphSound}
use Rattle.slab_laws.specs.View.{View, HasDart, point_in, source_in, target_in, twin_in}
use Rattle.slab_faces.proofs.InnerPoints.{before_in, before_out}
use Rattle.sound_views.specs.ForwardDarts.{IsForwardOf}
use Rattle.sound_views.proofs.ForwardDarts.{is_ahead, is_behind, target_has}
use Rattle.sound_views.proofs.GraphDrawn.{between_forward}
use Rattle.sound_views.proofs.NamedDarts.{edge_known}
use Rattle.edge_predicates.proofs.Sides.{is_plus, is_zero, zero_is, minus_is, plus_is}
use Rattle.edge_predicates.specs.Highest.{IsSpanning}
use Rattle.dcel_records.specs.declared.spot.Met.TheVariants.{Edge as InEdge}
use Rattle.dcel_records.specs.Spots.{IsMet}
use Rattle.face_location.specs.Passing.{IsBelow, IsPast}

-- ---- an edge and a point
module _ (e : Edge) (q : Point) where
  -- an edge that doesn't span the point hasn't it inside
  pub not_across : (IsSpanning e q → ⊥) → inside e q ≡ false
  not_across f =
      not_true (inside e q) (λ h.
      let a = and_true (counted.precedes e.low q && counted.precedes q e.high) _ h in
      let b = and_true (counted.precedes e.low q) (counted.precedes q e.high) a.0 in
      f (record { from = b.0; to = b.1 }))

  module _ (r : Sign) (h : r ≡ sign_of (side e q)) where
    pub is_under : is_plus r ≡ under e q
    unfolding under
    is_under = plus_is (side e q) r h

    -- one that spans it has it inside where the point is on neither side
    pub is_inside : IsSpanning e q → is_zero r ≡ inside e q
    is_inside k = zero_is r ∙ (λ i. (sym k.from i && sym k.to i) && (not (minus_is (side e q) r h i) && not (plus_is (side e q) r h i)))

-- ---- the edge of a dart of records, and a point
module _ (v : View) (s : IsGraphSound v) (d : DartId) (has : HasDart v d) (q : Point) (Q : IsProper q) where
  abbrev low : Point
  low = point_in v (source_in v d)

  abbrev high : Point
  high = point_in v (target_in v d)

  low_proper : IsProper low
  low_proper = s.drawn.proper _ (s.linked.source d has)

  high_proper : IsProper high
  high_proper = s.drawn.proper _ (target_has v s d has)

  between_back : precedes low high ≡ false → edge_in v d ≡ record { low = high; high = low }
  between_back f = ap (λ (b : Bool). if b then record { low = low; high = high } else record { low = high; high = low }) f

  never_ahead : Lt high q → Lt q low → precedes low high ≡ false
  never_ahead b a = not_true (precedes low high) (λ h. lt_both (lt_out low high h) (lt_trans b a))

  pub spans_ahead : Lt low q → Lt q high → IsForwardOf v d d × IsSpanning (edge_in v d) q
  spans_ahead a b =
      let f = lt_in (lt_trans a b) in
      (is_ahead v s d has f, subst (λ (e : Edge). IsSpanning e q) (sym (between_forward low high f)) (record { from = before_in low q low_proper Q a; to = before_in q high Q high_proper b }))

  pub spans_behind : Lt high q → Lt q low → (r : DartId) → r ≡ twin_in v d → IsForwardOf v d r × IsSpanning (edge_in v d) q
  spans_behind b a r e =
      let f = never_ahead b a in
      (is_behind v s d has f r e, subst (λ (e : Edge). IsSpanning e q) (sym (between_back f)) (record { from = before_in high q high_proper Q b; to = before_in q low Q low_proper a }))

  pub spans_out : IsSpanning (edge_in v d) q → (Lt low q × Lt q high) ⊎ (Lt high q × Lt q low)
  spans_out k = elim (decide (precedes low high)) [
    | inl f ↦ let m : IsSpanning (record { low = low; high = high }) q = subst (λ (e : Edge). IsSpanning e q) (between_forward low high f) k in inl (before_out low q low_proper Q m.from, before_out q high Q high_proper m.to)
    | inr f ↦ let m : IsSpanning (record { low = high; high = low }) q = subst (λ (e : Edge). IsSpanning e q) (between_back f) k in inr (before_out high q high_proper Q m.from, before_out q low Q low_proper m.to)
  ]

  -- a and b are its ends as they were read
  module _ (a b : Point) (ea : a ≡ low) (eb : b ≡ high) where
    abbrev Spans : DartId → Type 0
    Spans f = IsForwardOf v d f × IsSpanning (edge_in v d) q

    starts_before : counted.precedes a q ≡ true → Lt low q
    starts_before e = before_out low q low_proper Q (ap (λ x. counted.precedes x q) (sym ea) ∙ e)

    ends_after : counted.precedes q b ≡ true → Lt q high
    ends_after e = before_out q high Q high_proper (ap (counted.precedes q) (sym eb) ∙ e)

    pub goes_ahead : counted.precedes a q ≡ true → counted.precedes q b ≡ true → Spans d
    goes_ahead e f = spans_ahead (starts_before e) (ends_after f)

    pub goes_back : counted.precedes b q && counted.precedes q a ≡ true → (r : DartId) → r ≡ twin_in v d → Spans r
    goes_back e r t =
        let w = and_true (counted.precedes b q) (counted.precedes q a) e in
        spans_behind (before_out high q high_proper Q (ap (λ x. counted.precedes x q) (sym eb) ∙ w.0)) (before_out q low Q low_proper (ap (counted.precedes q) (sym ea) ∙ w.1)) r t

    pub both_before : counted.precedes a q ≡ true → counted.precedes q b ≡ false → IsSpanning (edge_in v d) q → ⊥
    both_before e f k =
        ⊎_elim
        (λ (h : Lt low q × Lt q high). clash (ap (counted.precedes q) eb ∙ before_in q high Q high_proper h.1) f)
        (λ (h : Lt high q × Lt q low). lt_both (starts_before e) h.1)
        (spans_out k)

    pub none_across : counted.precedes a q ≡ false → counted.precedes b q && counted.precedes q a ≡ false → IsSpanning (edge_in v d) q → ⊥
    none_across e f k =
        ⊎_elim
        (λ (h : Lt low q × Lt q high). clash (ap (λ x. counted.precedes x q) ea ∙ before_in low q low_proper Q h.0) e)
        (λ (h : Lt high q × Lt q low). clash (and_in (ap (λ x. counted.precedes x q) eb ∙ before_in high q high_proper Q h.0) (ap (counted.precedes q) ea ∙ before_in q low Q low_proper h.1)) f)
        (spans_out k)

-- ---- how the edge of a dart lies to the point, by the side of the edge
module _ (v : View) (d : DartId) (q : Point) where
  -- an edge that doesn't span the point is past it
  pub apart_past : (IsSpanning (edge_in v d) q → ⊥) → IsPast v q d
  apart_past f = record { outside = not_across (edge_in v d) q f; unseen = λ k. f k.spanning }

  -- f is the forward dart along the edge, which spans the point
  module _ (f : DartId) (w : IsForwardOf v d f) (k : IsSpanning (edge_in v d) q) where
    abbrev spanning : IsSpanning (edge_in v f) q
    spanning = subst (λ (e : Edge). IsSpanning e q) (sym w.edge) k

    module _ (r : Sign) (h : r ≡ sign_of (side (edge_in v f) q)) where
      inside_by : is_zero r ≡ inside (edge_in v d) q
      inside_by = is_inside (edge_in v f) q r h spanning ∙ ap (λ (e : Edge). inside e q) w.edge

      under_by : is_plus r ≡ under (edge_in v d) q
      under_by = is_under (edge_in v f) q r h ∙ ap (λ (e : Edge). under e q) w.edge

    pub minus_past : Minus ≡ sign_of (side (edge_in v f) q) → IsPast v q d
    minus_past h = record { outside = sym (inside_by Minus h); unseen = λ z. clash z.lies_under (sym (under_by Minus h)) }

    pub zero_met : Zero ≡ sign_of (side (edge_in v f) q) → IsMet v q (InEdge f)
    zero_met h = (w.forward.0, w.forward.1, sym (is_inside (edge_in v f) q Zero h spanning))

    pub plus_below : Plus ≡ sign_of (side (edge_in v f) q) → IsBelow v q d f
    plus_below h = record {
      outside = sym (inside_by Plus h);
      along = w.edge;
      seen = (w.forward, record { in' = edge_known v f w.forward.0; spanning = spanning; lies_under = sym (is_under (edge_in v f) q Plus h) });
    }
