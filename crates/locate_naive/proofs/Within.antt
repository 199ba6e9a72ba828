-- A point is inside an edge where it is on the edge's line and between its ends; the same of the edge of a forward dart.
use Rattle.std.proofs.Common.{◌≡◌, Bool, true, false, not, ◌&&◌, ◌||◌, pos, ◌-ℤ◌, ◌*ℤ◌, inl, inr, refl, sym, ap, ◌∙◌}
use Rattle.std.specs.Prelude.{if◌then◌else◌}
use Rattle.integers.proofs.Decisions.{or_out}
use Rattle.integers.proofs.Tests.{not_true}
use lib.Signed.{lt_z}
use Rattle.exact_plane.specs.Line.{Line, IsOn}
use Rattle.exact_plane.specs.Point.{Point}
use Rattle.exact_plane.specs.PointOrderLaws.{and_true}
use Rattle.plane_graphs.specs.Graph.{Edge, det}
use Rattle.plane_graphs.specs.Line.{IsProper, IsProperLine, precedes}
use Rattle.plane_graphs.proofs.Crossings.{zero_too, spans_w, spans_x, spans_y, turned}
use Rattle.plane_graphs.proofs.Lines.{span_a, span_b, span_c, span_runs, collinear_in}
use Rattle.plane_graphs.proofs.Lists.{and_in, not_out, both_ways, or_left, or_right, clash}
use Rattle.plane_graphs.proofs.Order.{Lt, lt_trans, lt_both, lt_out, lt_in}
use Rattle.slab_laws.specs.declared.names.DartId.{DartId}
use Rattle.slab_laws.specs.Skeleton as counted
use Rattle.slab_laws.specs.Skeleton.{inside}
use Rattle.slab_laws.specs.Sound.{edge_in, dart_in, IsGraphSound}
use Rattle.slab_laws.specs.View.{View, HasDart, point_in, source_in, target_in, line_in}
use Rattle.slab_faces.proofs.InnerPoints.{inside_by, before_out}
use Rattle.arr_notes.specs.Curves.{IsForward}
use Rattle.sound_views.proofs.ForwardDarts.{target_has}
use Rattle.rotation_order.proofs.Factors.{zero_between}

-- ---- inside an edge that lies on a line
pub record IsWithin (l : Line) (e : Edge) (t : Point) : Type 0 where
  pub on : IsOn l t
  pub after : Lt e.low t
  pub before : Lt t e.high

module _ (l : Line) (e : Edge) (t : Point) (line : IsProperLine l) (low : IsProper e.low) (high : IsProper e.high) (proper : IsProper t) (low_on : IsOn l e.low) (high_on : IsOn l e.high) where
  abbrev w_is : l.a *ℤ span_b e.low e.high -ℤ span_a e.low e.high *ℤ l.b ≡ pos 0
  w_is = spans_w l.a l.b l.c e.low.x e.low.y e.low.w e.high.x e.high.y e.high.w low_on high_on

  abbrev x_is : l.b *ℤ span_c e.low e.high -ℤ span_b e.low e.high *ℤ l.c ≡ pos 0
  x_is = spans_x l.a l.b l.c e.low.x e.low.y e.low.w e.high.x e.high.y e.high.w low_on high_on

  abbrev y_is : l.c *ℤ span_a e.low e.high -ℤ span_c e.low e.high *ℤ l.a ≡ pos 0
  y_is = spans_y l.a l.b l.c e.low.x e.low.y e.low.w e.high.x e.high.y e.high.w low_on high_on

  pub within_inside : IsWithin l e t → inside e t ≡ true
  within_inside h =
      inside_by e t low high proper h.after h.before
      (collinear_in e.low e.high t (zero_too l.a l.b l.c (span_a e.low e.high) (span_b e.low e.high) (span_c e.low e.high) t.x t.y t.w w_is x_is y_is h.on line.runs))

  no_side : inside e t ≡ true → det e.low e.high t ≡ pos 0
  unfolding counted.side det
  no_side h =
      let a = and_true (counted.precedes e.low t && counted.precedes t e.high) (not (lt_z (counted.side e t) (pos 0)) && not (lt_z (pos 0) (counted.side e t))) h in
      let b = and_true (not (lt_z (counted.side e t) (pos 0))) (not (lt_z (pos 0) (counted.side e t))) a.1 in
      zero_between (det e.low e.high t) (not_out (lt_z (counted.side e t) (pos 0)) b.0) (not_out (lt_z (pos 0) (counted.side e t)) b.1)

  on_its_line : Lt e.low e.high → det e.low e.high t ≡ pos 0 → IsOn l t
  unfolding det
  on_its_line k z =
      zero_too (span_a e.low e.high) (span_b e.low e.high) (span_c e.low e.high) l.a l.b l.c t.x t.y t.w
      (turned l.a (span_b e.low e.high) (span_a e.low e.high) l.b w_is) (turned l.b (span_c e.low e.high) (span_b e.low e.high) l.c x_is) (turned l.c (span_a e.low e.high) (span_c e.low e.high) l.a y_is)
      z (span_runs e.low e.high low high k)

  pub inside_within : inside e t ≡ true → IsWithin l e t
  inside_within h =
      let a = and_true (counted.precedes e.low t && counted.precedes t e.high) (not (lt_z (counted.side e t) (pos 0)) && not (lt_z (pos 0) (counted.side e t))) h in
      let b = and_true (counted.precedes e.low t) (counted.precedes t e.high) a.0 in
      let k = before_out e.low t low proper b.0 in
      let m = before_out t e.high proper high b.1 in
      record { on = on_its_line (lt_trans k m) (no_side h); after = k; before = m }

-- ---- the edge of a forward dart
module _ (v : View) (s : IsGraphSound v) where
  abbrev low_end : DartId → Point
  low_end d = point_in v (source_in v d)

  abbrev high_end : DartId → Point
  high_end d = point_in v (target_in v d)

  pub low_proper : (d : DartId) → HasDart v d → IsProper (low_end d)
  low_proper d has = s.drawn.proper (source_in v d) (s.linked.source d has)

  pub high_proper : (d : DartId) → HasDart v d → IsProper (high_end d)
  high_proper d has = s.drawn.proper (target_in v d) (target_has v s d has)

  edge_is : (d : DartId) → IsForward v d → edge_in v d ≡ record { low = low_end d; high = high_end d }
  edge_is d f = ap (λ (b : Bool). if b then record { low = low_end d; high = high_end d } else record { low = high_end d; high = low_end d }) f.1

  pub record IsWithinDart (d : DartId) (t : Point) : Type 0 where
    pub on : IsOn (line_in v d) t
    pub after : Lt (low_end d) t
    pub before : Lt t (high_end d)

  pub in_dart : (d : DartId) (t : Point) → IsForward v d → IsProper t → IsWithinDart d t → inside (edge_in v d) t ≡ true
  in_dart d t f p h =
      ap (λ (e : Edge). inside e t) (edge_is d f)
      ∙ within_inside (line_in v d) (record { low = low_end d; high = high_end d }) t (s.drawn.line d f.0) (low_proper d f.0) (high_proper d f.0) p (s.drawn.starts d f.0) (s.drawn.ends d f.0) (record { on = h.on; after = h.after; before = h.before })

  pub dart_in_out : (d : DartId) (t : Point) → IsForward v d → IsProper t → inside (edge_in v d) t ≡ true → IsWithinDart d t
  dart_in_out d t f p h =
      let w = inside_within (line_in v d) (record { low = low_end d; high = high_end d }) t (s.drawn.line d f.0) (low_proper d f.0) (high_proper d f.0) p (s.drawn.starts d f.0) (s.drawn.ends d f.0) (ap (λ (e : Edge). inside e t) (sym (edge_is d f)) ∙ h) in
      record { on = w.on; after = w.after; before = w.before }

  -- ---- whether the edge of a dart, forward or not, has a point inside
  edge_back : (d : DartId) → (dart_in v d).forward ≡ false → edge_in v d ≡ record { low = high_end d; high = low_end d }
  edge_back d f = ap (λ (b : Bool). if b then record { low = low_end d; high = high_end d } else record { low = high_end d; high = low_end d }) f

  module _ (d : DartId) (has : HasDart v d) (t : Point) (proper : IsProper t) where
    abbrev ahead : Edge
    ahead = record { low = low_end d; high = high_end d }

    abbrev back : Edge
    back = record { low = high_end d; high = low_end d }

    within_ahead : inside ahead t ≡ true → IsWithin (line_in v d) ahead t
    within_ahead h = inside_within (line_in v d) ahead t (s.drawn.line d has) (low_proper d has) (high_proper d has) proper (s.drawn.starts d has) (s.drawn.ends d has) h

    within_back : inside back t ≡ true → IsWithin (line_in v d) back t
    within_back h = inside_within (line_in v d) back t (s.drawn.line d has) (high_proper d has) (low_proper d has) proper (s.drawn.ends d has) (s.drawn.starts d has) h

    ahead_in : IsWithin (line_in v d) ahead t → inside ahead t ≡ true
    ahead_in w = within_inside (line_in v d) ahead t (s.drawn.line d has) (low_proper d has) (high_proper d has) proper (s.drawn.starts d has) (s.drawn.ends d has) w

    back_in : IsWithin (line_in v d) back t → inside back t ≡ true
    back_in w = within_inside (line_in v d) back t (s.drawn.line d has) (high_proper d has) (low_proper d has) proper (s.drawn.ends d has) (s.drawn.starts d has) w

    abbrev between : Point → Point → Bool
    between p q = (precedes p t && precedes t q) || (precedes q t && precedes t p)

    runs : {p q : Point} → precedes p t && precedes t q ≡ true → Lt p t × Lt t q
    runs {p} {q} h = let a = and_true (precedes p t) (precedes t q) h in (lt_out p t a.0, lt_out t q a.1)

    -- on its line, the order of the points tells it
    inside_ahead : IsOn (line_in v d) t → (dart_in v d).forward ≡ true → between (low_end d) (high_end d) ≡ inside ahead t
    inside_ahead on f = both_ways (between (low_end d) (high_end d)) (inside ahead t) into out
      where
        into : between (low_end d) (high_end d) ≡ true → inside ahead t ≡ true
        into h = elim (or_out (precedes (low_end d) t && precedes t (high_end d)) (precedes (high_end d) t && precedes t (low_end d)) h) [
          | inl a ↦ let w = runs a in ahead_in (record { on = on; after = w.0; before = w.1 })
          | inr a ↦ let w = runs a in absurd (lt_both (lt_out (low_end d) (high_end d) f) (lt_trans w.0 w.1))
        ]

        out : inside ahead t ≡ true → between (low_end d) (high_end d) ≡ true
        out h = let w = within_ahead h in or_left (precedes (low_end d) t && precedes t (high_end d)) (precedes (high_end d) t && precedes t (low_end d)) (and_in (lt_in w.after) (lt_in w.before))

    inside_back : IsOn (line_in v d) t → (dart_in v d).forward ≡ false → between (low_end d) (high_end d) ≡ inside back t
    inside_back on f = both_ways (between (low_end d) (high_end d)) (inside back t) into out
      where
        into : between (low_end d) (high_end d) ≡ true → inside back t ≡ true
        into h = elim (or_out (precedes (low_end d) t && precedes t (high_end d)) (precedes (high_end d) t && precedes t (low_end d)) h) [
          | inl a ↦ let w = runs a in absurd (clash (lt_in (lt_trans w.0 w.1)) f)
          | inr a ↦ let w = runs a in back_in (record { on = on; after = w.0; before = w.1 })
        ]

        out : inside back t ≡ true → between (low_end d) (high_end d) ≡ true
        out h = let w = within_back h in or_right (precedes (low_end d) t && precedes t (high_end d)) (precedes (high_end d) t && precedes t (low_end d)) (and_in (lt_in w.after) (lt_in w.before))

    inside_by_way : IsOn (line_in v d) t → (b : Bool) → (dart_in v d).forward ≡ b → between (low_end d) (high_end d) ≡ inside (edge_in v d) t
    inside_by_way on true f = inside_ahead on f ∙ ap (λ (e : Edge). inside e t) (sym (edge_is d (has, f)))
    inside_by_way on false f = inside_back on f ∙ ap (λ (e : Edge). inside e t) (sym (edge_back d f))

    -- p and q are its ends as they were read
    pub inside_is : (p q : Point) → p ≡ low_end d → q ≡ high_end d → IsOn (line_in v d) t → between p q ≡ inside (edge_in v d) t
    inside_is p q e f on = (λ i. between (e i) (f i)) ∙ inside_by_way on (dart_in v d).forward refl

    on_by_way : (b : Bool) → (dart_in v d).forward ≡ b → inside (edge_in v d) t ≡ true → IsOn (line_in v d) t
    on_by_way true f h = (within_ahead (ap (λ (e : Edge). inside e t) (sym (edge_is d (has, f))) ∙ h)).on
    on_by_way false f h = (within_back (ap (λ (e : Edge). inside e t) (sym (edge_back d f)) ∙ h)).on

    -- off its line, it has not
    pub off_is : (IsOn (line_in v d) t → ⊥) → false ≡ inside (edge_in v d) t
    off_is f = sym (not_true (inside (edge_in v d) t) (λ h. f (on_by_way (dart_in v d).forward refl h)))
