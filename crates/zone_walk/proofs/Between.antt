-- Points strictly between two others: how edges, sides and turns of the nearer one are those of the farther.
use Rattle.std.proofs.Common.{◌≡◌, ◌≢◌, true, false, arith, sym, ap, ◌∙◌, subst, inl, inr, [], ◌∷◌}
use Rattle.std.specs.Prelude.{ℤ, pos, ◌+ℤ◌, ◌-ℤ◌, ◌*ℤ◌, ◌<ℤ◌, if◌then◌else◌}
use Rattle.std.proofs.lemmas.Int.{ints}
use lib.IntN.{*ℤ-zero}
use Rattle.integers.proofs.Reify.{ring, sides}
use Rattle.integers.proofs.Tests.{not_true, lt_yes, lt_is}
use Rattle.exact_plane.specs.Plane.{RunsForward}
use Rattle.exact_plane.specs.Line.{Line, IsOn}
use Rattle.exact_plane.specs.Point.{Point, reduced}
use Rattle.plane_graphs.specs.Graph.{Edge}
use Rattle.plane_graphs.specs.Line.{IsProper, precedes}
use Rattle.plane_graphs.proofs.Crossed.{runs_lt}
use Rattle.plane_graphs.proofs.Lines.{IsReduced, reduced_is, span_a, span_b, span_runs}
use Rattle.plane_graphs.proofs.Order.{Lt, lt_in, lt_out, lt_both, lt_never, lt_trans, Tri, less, same, more, tri}
use Rattle.slab_laws.specs.Darts.{ahead, back}
use Rattle.slab_laws.specs.Skeleton.{inside, side}
use Rattle.slab_laws.specs.Sound.{edge_between}
use Rattle.slab_faces.proofs.Ints.{swapped, zero_back, same_sign}
use Rattle.slab_faces.proofs.Walls.{side-lower, side-upper}
use Rattle.rotation_order.specs.EdgeParts.{lower_part, upper_part, IsTurningAs, IsParted}
use Rattle.rotation_order.proofs.EdgeCuts.{parted}
use Rattle.rotation_order.proofs.Factors.{same_above}
use Rattle.sound_changes.specs.EdgePlaces.{dart_between}
use Rattle.sound_changes.proofs.Collinear.{flat_on_line, on_line_of_ends}
use Rattle.sound_changes.proofs.PartsCross.{second_only}
use Rattle.sound_changes.proofs.PlaneParts.{on_whole}
use Rattle.sound_changes.proofs.PointInside.{IsInside, inside_out, inside_in, MeanOf, mean_of, from_low, from_high, lower_side, upper_side}

-- ---- the edge and the dart between two points in order
pub up_edge : (p q : Point) → Lt p q → edge_between p q ≡ (record { low = p; high = q })
up_edge p q l = ap (λ b. if b then record { low = p; high = q } else record { low = q; high = p }) (lt_in l)

none_before : (p q : Point) → Lt q p → precedes p q ≡ false
none_before p q l = not_true (precedes p q) (λ k. lt_both (lt_out p q k) l)

pub down_edge : (p q : Point) → Lt q p → edge_between p q ≡ (record { low = q; high = p })
down_edge p q l = ap (λ b. if b then record { low = p; high = q } else record { low = q; high = p }) (none_before p q l)

pub up_dart : (p q : Point) → Lt p q → dart_between p q ≡ ahead (record { low = p; high = q })
up_dart p q l = λ i. record { edge = up_edge p q l i; forward = lt_in l i }

pub down_dart : (p q : Point) → Lt q p → dart_between p q ≡ back (record { low = q; high = p })
down_dart p q l = λ i. record { edge = down_edge p q l i; forward = none_before p q l i }

pub both_ways : (p q : Point) → p ≢ q → edge_between p q ≡ edge_between q p
both_ways p q n = by (tri p q)
  where
    by : Tri p q → edge_between p q ≡ edge_between q p
    by (less l) = up_edge p q l ∙ sym (down_edge q p l)
    by (same e) = absurd (n e)
    by (more l) = down_edge p q l ∙ sym (up_edge q p l)

-- ---- a point inside an edge, and the parts there
module _ (e : Edge) (t : Point) (L : IsProper e.low) (H : IsProper e.high) (T : IsProper t) (h : inside e t ≡ true) where
  pub within : IsInside e t
  within = inside_out e t L H T h

  pub mean : MeanOf e t
  mean = mean_of e t L H T within

  cut : IsParted e t
  cut = parted e t L.positive H.positive T.positive h

  pub in_lower : (r : Point) → IsProper r → inside (lower_part e t) r ≡ true → inside e r ≡ true
  in_lower r R k =
      let j = inside_out (lower_part e t) r L T R k in
      inside_in e r L H R (record { after = j.after; before = lt_trans j.before within.before; on = on_whole mean.k mean.t (side (lower_part e t) r) (side e r) mean.t_pos (lower_side e t mean r) j.on })

  pub in_upper : (r : Point) → IsProper r → inside (upper_part e t) r ≡ true → inside e r ≡ true
  in_upper r R k =
      let j = inside_out (upper_part e t) r T H R k in
      inside_in e r L H R (record { after = lt_trans within.after j.after; before = j.before; on = on_whole mean.k mean.s (side (upper_part e t) r) (side e r) mean.s_pos (upper_side e t mean r) j.on })

  module _ (f : Edge) where
    from_lower : side f e.low ≡ pos 0 → mean.k *ℤ side f t ≡ mean.t *ℤ side f e.high
    from_lower z = second_only (side f t) mean.k (side f e.low) mean.s (side f e.high) mean.t (from_low e t mean f) z

    from_upper : side f e.high ≡ pos 0 → mean.k *ℤ side f t ≡ mean.s *ℤ side f e.low
    from_upper z = second_only (side f t) mean.k (side f e.high) mean.t (side f e.low) mean.s (from_high e t mean f) z

    pub on_one_line : side f e.low ≡ pos 0 → side f e.high ≡ pos 0 → side f t ≡ pos 0
    on_one_line a b = zero_back mean.k (side f t) mean.k_pos (from_lower a ∙ (λ i. mean.t *ℤ b i) ∙ *ℤ-zero mean.t)

-- ---- t is strictly between p and q
pub record IsNearer (p q t : Point) : Type 0 where
  pub differ : p ≢ q
  pub apart : p ≢ t
  pub within : (r : Point) → IsProper r → inside (edge_between p t) r ≡ true → inside (edge_between p q) r ≡ true
  pub turns : IsTurningAs (dart_between p q) (dart_between p t)
  pub left : (f : Edge) → side f p ≡ pos 0 → pos 0 <ℤ side f q → pos 0 <ℤ side f t
  pub right : (f : Edge) → side f p ≡ pos 0 → side f q <ℤ pos 0 → side f t <ℤ pos 0

module _ (p q t : Point) (P : IsProper p) (Q : IsProper q) (T : IsProper t) where
  pub nearer : inside (edge_between p q) t ≡ true → IsNearer p q t
  nearer h = by (tri p q)
    where
      up : Lt p q → inside (record { low = p; high = q }) t ≡ true → IsNearer p q t
      up l k =
          let e : Edge = record { low = p; high = q } in
          let i = within e t P Q T k in
          let m = mean e t P Q T k in
          record {
            differ = λ z. lt_never (subst (Lt p) (sym z) l);
            apart = λ z. lt_never (subst (Lt p) (sym z) i.after);
            within = λ r R j. subst (λ (x : Edge). inside x r ≡ true) (sym (up_edge p q l)) (in_lower e t P Q T k r R (subst (λ (x : Edge). inside x r ≡ true) (up_edge p t i.after) j));
            turns = subst (λ z. IsTurningAs z (dart_between p t)) (sym (up_dart p q l)) (subst (IsTurningAs (ahead e)) (sym (up_dart p t i.after)) (cut e t P Q T k).at_low);
            left = λ f z s. lt_is _ _ (same_above m.k (side f t) m.t (side f q) m.k_pos m.t_pos (from_lower e t P Q T k f z) ∙ lt_yes _ _ s);
            right = λ f z s. lt_is _ _ (same_sign m.k (side f t) m.t (side f q) m.k_pos m.t_pos (from_lower e t P Q T k f z) ∙ lt_yes _ _ s);
          }

      down : Lt q p → inside (record { low = q; high = p }) t ≡ true → IsNearer p q t
      down l k =
          let e : Edge = record { low = q; high = p } in
          let i = within e t Q P T k in
          let m = mean e t Q P T k in
          record {
            differ = λ z. lt_never (subst (λ y. Lt y p) (sym z) l);
            apart = λ z. lt_never (subst (λ y. Lt y p) (sym z) i.before);
            within = λ r R j. subst (λ (x : Edge). inside x r ≡ true) (sym (down_edge p q l)) (in_upper e t Q P T k r R (subst (λ (x : Edge). inside x r ≡ true) (down_edge p t i.before) j));
            turns = subst (λ z. IsTurningAs z (dart_between p t)) (sym (down_dart p q l)) (subst (IsTurningAs (back e)) (sym (down_dart p t i.before)) (cut e t Q P T k).at_high);
            left = λ f z s. lt_is _ _ (same_above m.k (side f t) m.s (side f q) m.k_pos m.s_pos (from_upper e t Q P T k f z) ∙ lt_yes _ _ s);
            right = λ f z s. lt_is _ _ (same_sign m.k (side f t) m.s (side f q) m.k_pos m.s_pos (from_upper e t Q P T k f z) ∙ lt_yes _ _ s);
          }

      by : Tri p q → IsNearer p q t
      by (less l) = up l (subst (λ (x : Edge). inside x t ≡ true) (up_edge p q l) h)
      by (same z) =
          let k = subst (λ y. inside (edge_between p y) t ≡ true) (sym z) h in
          absurd (none_within k)
        where
          none_within : inside (edge_between p p) t ≡ true → ⊥
          none_within k = let i = inside_out (record { low = p; high = p }) t P P T (subst (λ (x : Edge). inside x t ≡ true) itself k) in lt_both i.after i.before
            where
              itself : edge_between p p ≡ (record { low = p; high = p })
              itself = ap (λ b. if b then record { low = p; high = p } else record { low = p; high = p }) (not_true (precedes p p) (λ k. lt_never (lt_out p p k)))
      by (more l) = down l (subst (λ (x : Edge). inside x t ≡ true) (down_edge p q l) h)

-- ---- there is a point between: the mean, whose numbers are sums
module _ (k x w a b c d : ℤ) (e : x *ℤ k ≡ a +ℤ c) (f : w *ℤ k ≡ b +ℤ d) where
  first_run : k *ℤ (x *ℤ b -ℤ a *ℤ w) ≡ c *ℤ b -ℤ a *ℤ d
  first_run = ring (k ∷ x ∷ w ∷ a ∷ b ∷ []) (search sides depth 40 fits 20000) tt ∙ (λ i. e i *ℤ b -ℤ a *ℤ f i) ∙ ring (a ∷ b ∷ c ∷ d ∷ []) (search sides depth 40 fits 20000) tt

  first_fall : k *ℤ (a *ℤ w -ℤ x *ℤ b) ≡ a *ℤ d -ℤ c *ℤ b
  first_fall = ring (k ∷ x ∷ w ∷ a ∷ b ∷ []) (search sides depth 40 fits 20000) tt ∙ (λ i. a *ℤ f i -ℤ e i *ℤ b) ∙ ring (a ∷ b ∷ c ∷ d ∷ []) (search sides depth 40 fits 20000) tt

  last_run : k *ℤ (c *ℤ w -ℤ x *ℤ d) ≡ c *ℤ b -ℤ a *ℤ d
  last_run = ring (k ∷ x ∷ w ∷ c ∷ d ∷ []) (search sides depth 40 fits 20000) tt ∙ (λ i. c *ℤ f i -ℤ e i *ℤ d) ∙ ring (a ∷ b ∷ c ∷ d ∷ []) (search sides depth 40 fits 20000) tt

  last_fall : k *ℤ (x *ℤ d -ℤ c *ℤ w) ≡ a *ℤ d -ℤ c *ℤ b
  last_fall = ring (k ∷ x ∷ w ∷ c ∷ d ∷ []) (search sides depth 40 fits 20000) tt ∙ (λ i. e i *ℤ d -ℤ c *ℤ f i) ∙ ring (a ∷ b ∷ c ∷ d ∷ []) (search sides depth 40 fits 20000) tt

one_time : (z : ℤ) → z ≡ pos 1 *ℤ z
one_time z = ring (z ∷ []) (search sides depth 40 fits 20000) tt

one : pos 0 <ℤ pos 1
one = omega (arith, ints)

scaled : (k a b A B : ℤ) → pos 0 <ℤ k → k *ℤ a ≡ A → k *ℤ b ≡ B → RunsForward A B → RunsForward a b
scaled k a b A B K e f (inl h) = inl (lt_is _ _ (same_above k b (pos 1) B K one (f ∙ one_time B) ∙ lt_yes _ _ h))
scaled k a b A B K e f (inr h) = inr (zero_back k b K (f ∙ h.0), lt_is _ _ (same_sign k a (pos 1) A K one (e ∙ one_time A) ∙ lt_yes _ _ h.1))

no_terms : (s t : ℤ) → pos 0 *ℤ s +ℤ pos 0 *ℤ t ≡ pos 0
no_terms s t = ring (s ∷ t ∷ []) (search sides depth 40 fits 20000) tt

as_weighed : (a c : ℤ) → a +ℤ c ≡ a *ℤ pos 1 +ℤ c *ℤ pos 1
as_weighed a c = ring (a ∷ c ∷ []) (search sides depth 40 fits 20000) tt

module _ (p q : Point) (P : IsProper p) (Q : IsProper q) where
  abbrev middle : Point
  middle = reduced (p.x +ℤ q.x) (p.y +ℤ q.y) (p.w +ℤ q.w)

  weight : pos 0 <ℤ (p.w +ℤ q.w)
  weight = let a = P.positive in let b = Q.positive in omega (arith, ints)

  red : IsReduced (p.x +ℤ q.x) (p.y +ℤ q.y) (p.w +ℤ q.w) (reduced (p.x +ℤ q.x) (p.y +ℤ q.y) (p.w +ℤ q.w))
  red = reduced_is (p.x +ℤ q.x) (p.y +ℤ q.y) (p.w +ℤ q.w) weight

  abbrev whole : Edge
  whole = record { low = p; high = q }

  mean_there : MeanOf whole middle
  mean_there = record { k = red.factor; s = pos 1; t = pos 1; k_pos = red.factor_pos; s_pos = one; t_pos = one; x = red.x_is ∙ as_weighed p.x q.x; y = red.y_is ∙ as_weighed p.y q.y; w = red.w_is ∙ as_weighed p.w q.w }

  on_line : side whole middle ≡ pos 0
  on_line =
      zero_back mean_there.k (side whole middle) mean_there.k_pos
      (swapped mean_there.k (side whole middle) ∙ from_low whole middle mean_there whole ∙ (λ i. side-lower whole i *ℤ mean_there.s +ℤ side-upper whole i *ℤ mean_there.t) ∙ no_terms mean_there.s mean_there.t)

  in_order : Lt p q → (t : Point) × IsProper t × (inside (record { low = p; high = q }) t ≡ true)
  in_order l =
      let r = span_runs p q P Q l in
      let k = red.factor in (
        middle,
        red.proper,
        inside_in whole middle P Q red.proper (record {
          after = runs_lt p middle P red.proper (scaled k (span_a p middle) (span_b p middle) (span_a p q) (span_b p q) red.factor_pos (first_fall k middle.y middle.w p.y p.w q.y q.w red.y_is red.w_is) (first_run k middle.x middle.w p.x p.w q.x q.w red.x_is red.w_is) r);
          before = runs_lt middle q red.proper Q (scaled k (span_a middle q) (span_b middle q) (span_a p q) (span_b p q) red.factor_pos (last_fall k middle.y middle.w p.y p.w q.y q.w red.y_is red.w_is) (last_run k middle.x middle.w p.x p.w q.x q.w red.x_is red.w_is) r);
          on = on_line;
        }),
      )

pub some_between : (p q : Point) → IsProper p → IsProper q → p ≢ q → (t : Point) × IsProper t × (inside (edge_between p q) t ≡ true)
some_between p q P Q n = by (tri p q)
  where
    by : Tri p q → (t : Point) × IsProper t × (inside (edge_between p q) t ≡ true)
    by (less l) = let r = in_order p q P Q l in (r.0, r.1, subst (λ (x : Edge). inside x r.0 ≡ true) (sym (up_edge p q l)) r.2)
    by (same e) = absurd (n e)
    by (more l) = let r = in_order q p Q P l in (r.0, r.1, subst (λ (x : Edge). inside x r.0 ≡ true) (sym (down_edge p q l)) r.2)

-- ---- points of a line that runs from lower points to greater ones
module _ (l : Line) (p q t : Point) (P : IsProper p) (Q : IsProper q) (T : IsProper t) (p_on : IsOn l p) (q_on : IsOn l q) where
  -- what is strictly between two of them is one of them
  pub on_way : Lt p q → inside (edge_between p q) t ≡ true → IsOn l t × Lt p t × Lt t q
  on_way a h =
      let i = inside_out (record { low = p; high = q }) t P Q T (subst (λ (x : Edge). inside x t ≡ true) (up_edge p q a) h) in
      (on_line_of_ends l p q t (span_runs p q P Q a) p_on q_on i.on, i.after, i.before)

  -- and one of them that comes between in order is strictly between
  pub way_on : RunsForward l.a l.b → IsOn l t → Lt p t → Lt t q → inside (edge_between p q) t ≡ true
  way_on runs on a b = subst (λ (x : Edge). inside x t ≡ true) (sym (up_edge p q (lt_trans a b))) (inside_in (record { low = p; high = q }) t P Q T (record { after = a; before = b; on = flat_on_line l p q t runs p_on q_on on }))

-- what is strictly between two points between p and q is so too
pub both_within : (p q t u r : Point) → IsProper p → IsProper q → IsProper t → IsProper u → IsProper r → inside (edge_between p q) t ≡ true → inside (edge_between p q) u ≡ true → inside (edge_between t u) r ≡ true → inside (edge_between p q) r ≡ true
both_within p q t u r P Q T U R h k j = by (tri p q)
  where
    in_order : (e : Edge) → IsProper e.low → IsProper e.high → inside e t ≡ true → inside e u ≡ true → Tri t u → inside e r ≡ true
    in_order e L H x y (less l) =
        let a = inside_out e t L H T x in
        let b = inside_out e u L H U y in
        let m : inside (record { low = t; high = u }) r ≡ true = subst (λ (z : Edge). inside z r ≡ true) (up_edge t u l) j in
        let i = inside_out (record { low = t; high = u }) r T U R m in
        inside_in e r L H R (record { after = lt_trans a.after i.after; before = lt_trans i.before b.before; on = on_one_line (record { low = t; high = u }) r T U R m e a.on b.on })
    in_order e L H x y (same z) = absurd ((nearer t u r T U R j).differ z)
    in_order e L H x y (more l) =
        let a = inside_out e t L H T x in
        let b = inside_out e u L H U y in
        let m : inside (record { low = u; high = t }) r ≡ true = subst (λ (z : Edge). inside z r ≡ true) (down_edge t u l) j in
        let i = inside_out (record { low = u; high = t }) r U T R m in
        inside_in e r L H R (record { after = lt_trans b.after i.after; before = lt_trans i.before a.before; on = on_one_line (record { low = u; high = t }) r U T R m e b.on a.on })

    by : Tri p q → inside (edge_between p q) r ≡ true
    by (less l) =
        let e = up_edge p q l in
        subst (λ (z : Edge). inside z r ≡ true) (sym e) (in_order (record { low = p; high = q }) P Q (subst (λ (z : Edge). inside z t ≡ true) e h) (subst (λ (z : Edge). inside z u ≡ true) e k) (tri t u))
    by (same z) = absurd ((nearer p q t P Q T h).differ z)
    by (more l) =
        let e = down_edge p q l in
        subst (λ (z : Edge). inside z r ≡ true) (sym e) (in_order (record { low = q; high = p }) Q P (subst (λ (z : Edge). inside z t ≡ true) e h) (subst (λ (z : Edge). inside z u ≡ true) e k) (tri t u))
