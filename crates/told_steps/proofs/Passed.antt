-- The vertices that are redundant but for a pin: those that the graph passes straight through, and those without edges.
use Rattle.std.proofs.Common.{◌≡◌, ◌⊎◌, ℕ, true, false, not, ◌||◌, pos, List, refl, sym, ap, ◌∙◌, subst, inl, inr}
use Rattle.std.specs.Prelude.{◌-ℤ◌}
use Rattle.std.specs.Ordering.{nat_cmp}
use Rattle.std.proofs.lemmas.Cmp.{nat_cmp_total}
use Rattle.integers.proofs.Decisions.{or_out}
use Rattle.integers.proofs.Tests.{not_true}
use Rattle.exact_plane.specs.Line.{side_of}
use Rattle.exact_plane.specs.Point.{Point}
use Rattle.plane_graphs.specs.Ascending.{Member}
use Rattle.plane_graphs.specs.Graph.{Mark, mark, collinear, det}
use Rattle.plane_graphs.specs.Line.{IsProper, precedes, same_point}
use Rattle.plane_graphs.proofs.Ascending.{ascending_unique}
use Rattle.plane_graphs.proofs.Lines.{span_runs, zero_in, zero_out}
use Rattle.plane_graphs.proofs.Lists.{clash, decide, or_left, or_right, some_of}
use Rattle.plane_graphs.proofs.Order.{lt_out, lt_never, same_in, same_itself, same_out}
use Rattle.edit_steps.specs.Allowed.{IsPassed}
use Rattle.edit_steps.specs.EditLaws.{IsLoose}
use Rattle.slab_laws.specs.declared.names.DartId.{DartId}
use Rattle.slab_laws.specs.declared.names.VertexId.{VertexId}
use Rattle.slab_laws.specs.Skeleton.{side}
use Rattle.slab_laws.specs.Sound.{IsGraphSound}
use Rattle.slab_laws.specs.View.{View, HasVertex, HasDart, IsOutOf, point_in, source_in, twin_in, target_in, line_in}
use Rattle.rotation_order.specs.VertexRings.{IsBare}
use Rattle.rotation_order.proofs.Fans.{far_turned}
use Rattle.sound_changes.specs.ChangeFits.{FitsMerge}
use Rattle.sound_changes.proofs.SplitCases.{edge_of_ends}
use Rattle.sound_changes.proofs.Collinear.{flat_on_line, on_line_of_ends, one_line}
use Rattle.arr_notes.specs.Curves.{Curves, AreCurvesOf, IsForward, is_forward}
use Rattle.arr_notes.specs.RecordGraph.{drawn_graph}
use Rattle.sound_views.specs.RecordGraphLaws.{IsMarkOf}
use Rattle.sound_views.proofs.ForwardDarts.{target_has}
use Rattle.sound_views.proofs.GraphDrawn.{twins_are_directed}
use Rattle.sound_changes.proofs.StepHolds.{mark_held, held_mark}
use Rattle.sound_changes.proofs.StepCases.{one_way}

flat_other : (p q t : Point) → collinear p q t ≡ true → side (edge_of_ends p t) q ≡ pos 0
unfolding collinear det side
flat_other p q t e = far_turned p.x p.y p.w q.x q.y q.w t.x t.y t.w ∙ (λ i. pos 0 -ℤ zero_out (det p q t) e i)

pub flat_out : (p q t : Point) → collinear p q t ≡ true → side (edge_of_ends p q) t ≡ pos 0
unfolding collinear det side
flat_out p q t e = zero_out (det p q t) e

pub flat_in : (p q t : Point) → side (edge_of_ends p q) t ≡ pos 0 → collinear p q t ≡ true
unfolding collinear det side
flat_in p q t e = zero_in (det p q t) e

module _ (v : View) (h : Curves) (s : IsGraphSound v) (a : AreCurvesOf v h) where
  -- a forward dart has a mark
  pub mark_there : (d : DartId) → IsForward v d → (m : Mark) × Member m (drawn_graph v h).marks × IsMarkOf v h m d
  mark_there d f =
      let c = some_of (h d) (a.some d f) in
      let m : Mark = mark (point_in v (source_in v d)) (point_in v (target_in v d)) c.0 in
      let k : IsMarkOf v h m d = record { forward = f; low = refl; high = refl; curve = c.1 } in
      (m, mark_held v s.named h m d k, k)

module _ (v : View) (h : Curves) (w : VertexId) (s : IsGraphSound v) (a : AreCurvesOf v h) where
  abbrev x : Point
  x = point_in v w

  abbrev Touches : Mark → Type 0
  Touches m = (same_point m.low x || same_point m.high x) ≡ true

  abbrev marks : List Mark
  marks = (drawn_graph v h).marks

  source_proper : (d : DartId) → HasDart v d → IsProper (point_in v (source_in v d))
  source_proper d o = s.drawn.proper (source_in v d) (s.linked.source d o)

  target_proper : (d : DartId) → HasDart v d → IsProper (point_in v (target_in v d))
  target_proper d o = s.drawn.proper (target_in v d) (target_has v s d o)

  -- ---- no edge ends at w
  pub bare_untouched : HasVertex v w → IsBare v w → (m : Mark) → Member m marks → (same_point m.low x || same_point m.high x) ≡ false
  bare_untouched has bare m k = not_true (same_point m.low x || same_point m.high x) (λ t.
      let d = held_mark v s.named h m k in
      elim (or_out (same_point m.low x) (same_point m.high x) t) [
        | inl e ↦ bare d.0 (d.1.forward.0, s.drawn.points (source_in v d.0) w (s.linked.source d.0 d.1.forward.0) has (d.1.low ∙ same_out m.low x e))
        | inr e ↦ bare (twin_in v d.0) (s.twinned.has d.0 d.1.forward.0, s.drawn.points (target_in v d.0) w (target_has v s d.0 d.1.forward.0) has (d.1.high ∙ same_out m.high x e))
      ])

  -- so that the graph doesn't pass through it
  pub bare_stops : HasVertex v w → IsBare v w → IsPassed (drawn_graph v h) x → ⊥
  bare_stops has bare p =
      let m : Mark = mark p.low x p.curve in
      clash (or_right (same_point p.low x) (same_point x x) (same_itself x)) (bare_untouched has bare m p.some)

  -- a dart out of w has a mark that ends at w
  pub touched : (d : DartId) → IsOutOf v w d → (m : Mark) × Member m marks × Touches m
  touched d o = elim (decide (is_forward v d)) [
    | inl f ↦
        let m = mark_there v h s a d (o.0, f) in
        (m.0, m.1, or_left (same_point m.0.low x) (same_point m.0.high x) (same_in m.0.low x (sym m.2.low ∙ ap (point_in v) o.1)))
    | inr f ↦
        let t = twin_in v d in
        let m = mark_there v h s a t (s.twinned.has d o.0, twins_are_directed v s d o.0 ∙ ap not f) in
        (m.0, m.1, or_right (same_point m.0.low x) (same_point m.0.high x) (same_in m.0.high x (sym m.2.high ∙ ap (point_in v) (ap (source_in v) (s.twinned.back d o.0) ∙ o.1))))
  ]

  -- ---- two edges go straight through w
  module _ (d n : DartId) (f : FitsMerge v w d n) (alike : h d ≡ h n) where
    abbrev low : Point
    low = point_in v (source_in v d)

    abbrev high : Point
    high = point_in v (target_in v n)

    arrives : point_in v (target_in v d) ≡ x
    arrives = ap (point_in v) f.arrives

    leaves : point_in v (source_in v n) ≡ x
    leaves = ap (point_in v) f.leaves

    below : precedes low x ≡ true
    below = subst (λ z. precedes low z ≡ true) arrives f.first_forward

    above : precedes x high ≡ true
    above = subst (λ z. precedes z high ≡ true) leaves f.second_forward

    lower_mark : (c : ℕ) → Member c (h d) → Member (mark low x c) marks
    lower_mark c m = mark_held v s.named h (mark low x c) d (record { forward = (f.first, f.first_forward); low = refl; high = arrives; curve = m })

    upper_mark : (c : ℕ) → Member c (h n) → Member (mark x high c) marks
    upper_mark c m = mark_held v s.named h (mark x high c) n (record { forward = (f.second, f.second_forward); low = leaves; high = refl; curve = m })

    lower_curve : (c : ℕ) → Member (mark low x c) marks → Member c (h d)
    lower_curve c k =
        let e = held_mark v s.named h (mark low x c) k in
        subst (λ z. Member c (h z)) (one_way v e.0 d s e.1.forward.0 f.first e.1.low (e.1.high ∙ sym arrives)) e.1.curve

    upper_curve : (c : ℕ) → Member (mark x high c) marks → Member c (h n)
    upper_curve c k =
        let e = held_mark v s.named h (mark x high c) k in
        subst (λ z. Member c (h z)) (one_way v e.0 n s e.1.forward.0 f.second (e.1.low ∙ sym leaves) e.1.high) e.1.curve

    straight : collinear low high x ≡ true
    straight =
        let l = line_in v d in
        flat_in low high x
        (flat_on_line l low high x (s.drawn.line d f.first).runs (s.drawn.starts d f.first) (subst (λ z. side_of z high ≡ pos 0) (sym f.line) (s.drawn.ends n f.second)) (subst (λ z. side_of l z ≡ pos 0) arrives (s.drawn.ends d f.first)))

    -- the mark of a forward dart that ends at w is of one of both edges
    two_only : (m : Mark) (e : DartId) → IsMarkOf v h m e → HasVertex v w → Touches m → ((m.low ≡ low) × (m.high ≡ x)) ⊎ ((m.low ≡ x) × (m.high ≡ high))
    two_only m e k has t =
        let has_e = k.forward.0 in
        elim (or_out (same_point m.low x) (same_point m.high x) t) [
          | inl q ↦
              let at = s.drawn.points (source_in v e) w (s.linked.source e has_e) has (k.low ∙ same_out m.low x q) in
              elim (f.only e has_e at) [
                | inl r ↦ inr (same_out m.low x q, sym k.high ∙ ap (λ z. point_in v (target_in v z)) r)
                | inr r ↦ clash k.forward.1 (ap (is_forward v) r ∙ twins_are_directed v s d f.first ∙ ap not f.first_forward)
              ]
          | inr q ↦
              let u = twin_in v e in
              let at = s.drawn.points (target_in v e) w (target_has v s e has_e) has (k.high ∙ same_out m.high x q) in
              elim (f.only u (s.twinned.has e has_e) at) [
                | inl r ↦ clash f.second_forward (ap (is_forward v) (sym r) ∙ twins_are_directed v s e has_e ∙ ap not k.forward.1)
                | inr r ↦
                    let one : e ≡ d = sym (s.twinned.back e has_e) ∙ ap (twin_in v) r ∙ s.twinned.back d f.first in
                    inl (sym k.low ∙ ap (λ z. point_in v (source_in v z)) one, same_out m.high x q)
              ]
        ]

    pub passed : HasVertex v w → IsPassed (drawn_graph v h) x
    passed has =
        let c = some_of (h d) (a.some d (f.first, f.first_forward)) in
        record {
          low = low;
          high = high;
          below = below;
          above = above;
          straight = straight;
          curve = c.0;
          some = lower_mark c.0 c.1;
          only = λ m k t. let e = held_mark v s.named h m k in two_only m e.0 e.1 has t;
          onwards = λ c k. upper_mark c (subst (Member c) alike (lower_curve c k));
          back = λ c k. lower_mark c (subst (Member c) (sym alike) (upper_curve c k));
        }

  -- ---- and conversely
  module _ (has : HasVertex v w) (p : IsPassed (drawn_graph v h) x) where
    lower : (d : DartId) × IsMarkOf v h (mark p.low x p.curve) d
    lower = held_mark v s.named h (mark p.low x p.curve) p.some

    upper : (n : DartId) × IsMarkOf v h (mark x p.high p.curve) n
    upper = held_mark v s.named h (mark x p.high p.curve) (p.onwards p.curve p.some)

    abbrev d : DartId
    d = lower.0

    abbrev n : DartId
    n = upper.0

    has_d : HasDart v d
    has_d = lower.1.forward.0

    has_n : HasDart v n
    has_n = upper.1.forward.0

    reaches : target_in v d ≡ w
    reaches = s.drawn.points (target_in v d) w (target_has v s d has_d) has lower.1.high

    starts : source_in v n ≡ w
    starts = s.drawn.points (source_in v n) w (s.linked.source n has_n) has upper.1.low

    never : (q : Point) → q ≡ x → precedes x q ≡ true → ⊥
    never q e l = lt_never (lt_out x x (subst (λ z. precedes x z ≡ true) e l))

    never_back : (q : Point) → q ≡ x → precedes q x ≡ true → ⊥
    never_back q e l = lt_never (lt_out x x (subst (λ z. precedes z x ≡ true) e l))

    -- a forward dart out of w is n
    out_up : (k : DartId) → HasDart v k → source_in v k ≡ w → is_forward v k ≡ true → k ≡ n
    out_up k o at f =
        let m = mark_there v h s a k (o, f) in
        let low_x : m.0.low ≡ x = sym m.2.low ∙ ap (point_in v) at in
        elim (p.only m.0 m.1 (or_left (same_point m.0.low x) (same_point m.0.high x) (same_in m.0.low x low_x))) [
          | inl q ↦ absurd (never (point_in v (target_in v k)) (m.2.high ∙ q.1) (subst (λ z. precedes (point_in v z) (point_in v (target_in v k)) ≡ true) at f))
          | inr q ↦ one_way v k n s o has_n (m.2.low ∙ q.0 ∙ sym upper.1.low) (m.2.high ∙ q.1 ∙ sym upper.1.high)
        ]

    -- a forward dart into w is d
    into_up : (k : DartId) → HasDart v k → target_in v k ≡ w → is_forward v k ≡ true → k ≡ d
    into_up k o at f =
        let m = mark_there v h s a k (o, f) in
        let high_x : m.0.high ≡ x = sym m.2.high ∙ ap (point_in v) at in
        elim (p.only m.0 m.1 (or_right (same_point m.0.low x) (same_point m.0.high x) (same_in m.0.high x high_x))) [
          | inl q ↦ one_way v k d s o has_d (m.2.low ∙ q.0 ∙ sym lower.1.low) (m.2.high ∙ q.1 ∙ sym lower.1.high)
          | inr q ↦ absurd (never_back (point_in v (source_in v k)) (m.2.low ∙ q.0) (subst (λ z. precedes (point_in v (source_in v k)) (point_in v z) ≡ true) at f))
        ]

    only : (k : DartId) → HasDart v k → source_in v k ≡ w → (k ≡ n) ⊎ (k ≡ twin_in v d)
    only k o at = elim (decide (is_forward v k)) [
      | inl f ↦ inl (out_up k o at f)
      | inr f ↦
          let t = twin_in v k in
          inr (sym (s.twinned.back k o) ∙ ap (twin_in v) (into_up t (s.twinned.has k o) (ap (source_in v) (s.twinned.back k o) ∙ at) (twins_are_directed v s k o ∙ ap not f)))
    ]

    -- the line of the lower edge holds the upper end of the other
    line : line_in v d ≡ line_in v n
    line =
        let l = line_in v d in
        let m = line_in v n in
        let low_on : side_of l p.low ≡ pos 0 = subst (λ z. side_of l z ≡ pos 0) lower.1.low (s.drawn.starts d has_d) in
        let mid_on : side_of l x ≡ pos 0 = subst (λ z. side_of l z ≡ pos 0) lower.1.high (s.drawn.ends d has_d) in
        let proper_low = subst IsProper lower.1.low (source_proper d has_d) in
        let proper_high = subst IsProper upper.1.high (target_proper n has_n) in
        let proper_x = s.drawn.proper w has in
        one_line l m x p.high (s.drawn.line d has_d) (s.drawn.line n has_n) proper_x proper_high (lt_out x p.high p.above)
        mid_on (on_line_of_ends l p.low x p.high (span_runs p.low x proper_low proper_x (lt_out p.low x p.below)) low_on mid_on (flat_other p.low p.high x p.straight))
        (subst (λ z. side_of m z ≡ pos 0) upper.1.low (s.drawn.starts n has_n)) (subst (λ z. side_of m z ≡ pos 0) upper.1.high (s.drawn.ends n has_n))

    fits : FitsMerge v w d n
    fits = record {
      first = has_d;
      second = has_n;
      arrives = reaches;
      leaves = starts;
      first_forward = lower.1.forward.1;
      second_forward = upper.1.forward.1;
      line = line;
      only = only;
    }

    to_mark : (c : ℕ) → Member c (h d) → Member (mark p.low x c) marks
    to_mark c m = mark_held v s.named h (mark p.low x c) d (record { forward = lower.1.forward; low = lower.1.low; high = lower.1.high; curve = m })

    to_upper : (c : ℕ) → Member c (h n) → Member (mark x p.high c) marks
    to_upper c m = mark_held v s.named h (mark x p.high c) n (record { forward = upper.1.forward; low = upper.1.low; high = upper.1.high; curve = m })

    of_mark : (c : ℕ) → Member (mark p.low x c) marks → Member c (h d)
    of_mark c k = let e = held_mark v s.named h (mark p.low x c) k in subst (λ z. Member c (h z)) (one_way v e.0 d s e.1.forward.0 has_d (e.1.low ∙ sym lower.1.low) (e.1.high ∙ sym lower.1.high)) e.1.curve

    of_upper : (c : ℕ) → Member (mark x p.high c) marks → Member c (h n)
    of_upper c k = let e = held_mark v s.named h (mark x p.high c) k in subst (λ z. Member c (h z)) (one_way v e.0 n s e.1.forward.0 has_n (e.1.low ∙ sym upper.1.low) (e.1.high ∙ sym upper.1.high)) e.1.curve

    alike : h d ≡ h n
    alike =
        ascending_unique nat_cmp nat_cmp_total (h d) (h n) (a.ascend d) (a.ascend n)
        (λ c m. of_upper c (p.onwards c (to_mark c m)))
        (λ c m. of_mark c (p.back c (to_upper c m)))

  -- with a dart out of w, w is redundant only where two edges with the same curves go straight through it
  pub loose_fits : (k : DartId) → HasVertex v w → IsOutOf v w k → IsLoose (drawn_graph v h) x → (d : DartId) × (n : DartId) × FitsMerge v w d n × (h d ≡ h n)
  loose_fits k has o (inl none) = let m = touched k o in clash m.2 (none m.0 m.1)
  loose_fits k has o (inr p) = ((lower has p).0, (upper has p).0, fits has p, alike has p)
