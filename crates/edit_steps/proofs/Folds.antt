-- Many more vertices, or fewer.
use Rattle.std.proofs.Common.{◌≡◌, List, [], ◌∷◌, not, refl, sym, ap, ◌∙◌, subst, inl, inr, ◌⊎◌, ⊎_elim, ◌++◌}
use Rattle.std.specs.List.{list_any}
use Rattle.exact_plane.specs.Point.{Point}
use Rattle.exact_plane.specs.PointOrder.{point_cmp}
use Rattle.exact_plane.specs.PointOrderLaws.{point_cmp_total}
use Rattle.plane_graphs.specs.Line.{same_point, IsProper}
use Rattle.plane_graphs.specs.Ascending.{place, Member, IsAscending}
use Rattle.plane_graphs.specs.Piece.{Piece}
use Rattle.plane_graphs.specs.Graph.{graph_over, marks, Graph}
use Rattle.edit_steps.specs.Steps.{points_without, apply, run, vertex_step_by, vertex_steps, tidy_step, tidy_steps, missing_points, Step}
use Rattle.edit_steps.specs.Allowed.{IsSound, AreSound}
use Rattle.plane_graphs.proofs.Ascending.{ascending_unique, IsAscending-place, All-member}
use Rattle.plane_graphs.proofs.Lists.{not_out, not_in, clash, decide, any_out, any_none, in_filter, of_filter, IsAscending-filter}
use Rattle.plane_graphs.proofs.Order.{lt_never, same_out, same_in, same_itself}
use Rattle.plane_graphs.proofs.Closed.{IsClosed}
use Rattle.plane_graphs.proofs.Inner.{old_or, old_in, new_in}
use Rattle.edit_steps.proofs.Split.{vertex_step}
use Rattle.edit_steps.proofs.Tidy.{vertex_less}

-- more points do no harm
pub closed_more : (vs ws : List Point) (ks : List Piece) → IsClosed vs ks → IsAscending point_cmp ws → ((p : Point) → Member p vs → Member p ws) → ((p : Point) → Member p ws → IsProper p) → IsClosed ws ks
closed_more vs ws ks cl asc f g = record {
  ascend = asc;
  proper = g;
  from_in = λ k h. f k.from (cl.from_in k h);
  to_in = λ k h. f k.to (cl.to_in k h);
  from_on = cl.from_on;
  to_on = cl.to_on;
  straight = cl.straight;
  met = λ k m h i t p a b. ⊎_elim (λ n. inl (f t n)) (λ s. inr s) (cl.met k m h i t p a b);
}

pub closed_place : (vs : List Point) (ks : List Piece) (r : Point) → IsClosed vs ks → IsProper r → IsClosed (place point_cmp r vs) ks
closed_place vs ks r cl pr =
    closed_more vs (place point_cmp r vs) ks cl (IsAscending-place point_cmp point_cmp_total r vs cl.ascend) (λ p m. old_in vs r p m)
    (λ p m. ⊎_elim (λ e. subst (λ q. IsProper q) (sym e) pr) (λ n. cl.proper p n) (old_or vs r p m))

-- us are vs and the further points rs
pub record IsSum (us rs vs : List Point) : Type 0 where
  pub whole : IsAscending point_cmp us
  pub parts : IsAscending point_cmp rs
  pub either : (p : Point) → Member p us → Member p rs ⊎ Member p vs
  pub from_rs : (p : Point) → Member p rs → Member p us
  pub from_vs : (p : Point) → Member p vs → Member p us
  pub apart : (p : Point) → Member p rs → Member p vs → ⊥

-- a point is not among those that come after it
not_after : (r : Point) (rs : List Point) → IsAscending point_cmp (r ∷ rs) → Member r rs → ⊥
not_after r rs a m = lt_never {p = r} (record { is = All-member (λ q. point_cmp r q ≡ _) r rs a.0 m })

pub points_same : (us vs : List Point) → IsAscending point_cmp us → IsAscending point_cmp vs → ((p : Point) → Member p us → Member p vs) → ((p : Point) → Member p vs → Member p us) → us ≡ vs
points_same us vs a b f g = ascending_unique point_cmp point_cmp_total us vs a b f g

pub missing_sum : (us vs : List Point) → IsAscending point_cmp us → ((p : Point) → Member p vs → Member p us) → IsSum us (missing_points us vs) vs
unfolding missing_points
missing_sum us vs a f = record {
  whole = a;
  parts = IsAscending-filter point_cmp _ us a;
  either = λ p m. ⊎_elim (λ e. let h = any_out (same_point p) vs e in inr (subst (λ q. Member q vs) (sym (same_out p h.0 h.2)) h.1)) (λ e. inl (in_filter _ p us m (not_in (list_any (same_point p) vs) (λ h. clash h e)))) (decide (list_any (same_point p) vs));
  from_rs = λ p m. (of_filter _ p us m).0;
  from_vs = f;
  apart = λ p m n. any_none (same_point p) p vs (not_out _ (of_filter _ p us m).1) n (same_itself p);
}

pub put_back : (r : Point) (us : List Point) → IsAscending point_cmp us → Member r us → us ≡ place point_cmp r (points_without r us)
put_back r us a m =
    points_same us (place point_cmp r (points_without r us)) a (IsAscending-place point_cmp point_cmp_total r _ (IsAscending-filter point_cmp _ us a))
    (λ p n. ⊎_elim (λ e. subst (λ q. Member q (place point_cmp r (points_without r us))) (sym (same_out p r e)) (new_in (points_without r us) r)) (λ e. old_in (points_without r us) r p (in_filter _ p us n (not_in (same_point p r) (λ h. clash h e)))) (decide (same_point p r)))
    (λ p n. ⊎_elim (λ e. subst (λ q. Member q us) (sym e) m) (λ k. (of_filter _ p us k).0) (old_or (points_without r us) r p n))

module _ (ks : List Piece) (pins : List Point) where
  pub grow_step : (r : Point) (rs us vs : List Point) → IsSum us (r ∷ rs) vs → IsClosed vs ks → IsSum us rs (place point_cmp r vs)
  grow_step r rs us vs s cl = record {
    whole = s.whole;
    parts = s.parts.1;
    either = λ p m. ⊎_elim (λ n. ⊎_elim (λ e. inr (subst (λ q. Member q (place point_cmp r vs)) (sym e) (new_in vs r))) (λ k. inl k) n) (λ n. inr (old_in vs r p n)) (s.either p m);
    from_rs = λ p m. s.from_rs p (inr m);
    from_vs = λ p m. ⊎_elim (λ e. s.from_rs p (inl e)) (λ n. s.from_vs p n) (old_or vs r p m);
    apart = λ p m n. ⊎_elim (λ e. not_after r rs s.parts (subst (λ q. Member q rs) e m)) (λ k. s.apart p (inr m) k) (old_or vs r p n);
  }

  pub grown : ((vs : List Point) → IsClosed vs ks → (r : Point) → IsProper r → (Member r vs → ⊥) → IsSound (vertex_step_by r (marks vs ks)) (graph_over vs ks pins)) → (rs us vs : List Point) → IsSum us rs vs → IsClosed vs ks → ((p : Point) → Member p rs → IsProper p) →
      (run (vertex_steps rs (graph_over vs ks pins)) (graph_over vs ks pins) ≡ graph_over us ks pins) × AreSound (vertex_steps rs (graph_over vs ks pins)) (graph_over vs ks pins)
  unfolding vertex_steps run
  grown always [] us vs s cl g = (λ i. graph_over (points_same vs us cl.ascend s.whole s.from_vs (λ p m. ⊎_elim (λ n. absurd n) (λ n. n) (s.either p m)) i) ks pins, tt)
  grown always (r ∷ rs) us vs s cl g =
      let e = vertex_step vs ks pins cl r (g r (inl refl)) (λ m. s.apart r (inl refl) m) in
      let c = closed_place vs ks r cl (g r (inl refl)) in
      let ih = grown always rs us (place point_cmp r vs) (grow_step r rs us vs s cl) c (λ p m. g p (inr m)) in (
        ap (λ z. run (vertex_steps rs z) z) e ∙ ih.0,
        (always vs cl r (g r (inl refl)) (λ m. s.apart r (inl refl) m), subst (λ z. AreSound (vertex_steps rs z) z) (sym e) ih.1),
      )

  -- the other way: us, which are vs and rs, lose rs
  pub less_sum : (r : Point) (rs us vs : List Point) → IsSum us (r ∷ rs) vs → IsSum (points_without r us) rs vs
  less_sum r rs us vs s = record {
    whole = IsAscending-filter point_cmp _ us s.whole;
    parts = s.parts.1;
    either = λ p m. let k = of_filter (λ q. not (same_point q r)) p us m in ⊎_elim (λ n. ⊎_elim (λ e. clash (same_in p r e) (not_out (same_point p r) k.1)) (λ h. inl h) n) (λ n. inr n) (s.either p k.0);
    from_rs = λ p m. in_filter (λ q. not (same_point q r)) p us (s.from_rs p (inr m)) (not_in (same_point p r) (λ e. not_after r rs s.parts (subst (λ q. Member q rs) (same_out p r e) m)));
    from_vs = λ p m. in_filter (λ q. not (same_point q r)) p us (s.from_vs p m) (not_in (same_point p r) (λ e. s.apart r (inl refl) (subst (λ q. Member q vs) (same_out p r e) m)));
    apart = λ p m n. s.apart p (inr m) n;
  }

  pub shrunk : ((vs : List Point) → IsClosed vs ks → (r : Point) → IsProper r → (Member r vs → ⊥) → IsSound (tidy_step r (graph_over (place point_cmp r vs) ks pins)) (graph_over (place point_cmp r vs) ks pins)) → (rs us vs : List Point) → IsSum us rs vs → IsClosed vs ks → ((p : Point) → Member p rs → IsProper p) →
      (run (tidy_steps rs (graph_over us ks pins)) (graph_over us ks pins) ≡ graph_over vs ks pins) × AreSound (tidy_steps rs (graph_over us ks pins)) (graph_over us ks pins)
  unfolding tidy_steps run
  shrunk always [] us vs s cl g = (λ i. graph_over (points_same us vs s.whole cl.ascend (λ p m. ⊎_elim (λ n. absurd n) (λ n. n) (s.either p m)) s.from_vs i) ks pins, tt)
  shrunk always (r ∷ rs) us vs s cl g =
      let ws : List Point = points_without r us in
      let t : IsSum (points_without r us) rs vs = less_sum r rs us vs s in
      let c : IsClosed (points_without r us) ks = closed_more vs ws ks cl t.whole t.from_vs (λ p m. ⊎_elim (λ n. g p (inr n)) (λ n. cl.proper p n) (t.either p m)) in
      let new : Member r (points_without r us) → ⊥ = λ m. clash (same_itself r) (not_out (same_point r r) (of_filter (λ q. not (same_point q r)) r us m).1) in
      let same : us ≡ place point_cmp r (points_without r us) = put_back r us s.whole (s.from_rs r (inl refl)) in
      let e : apply (tidy_step r (graph_over us ks pins)) (graph_over us ks pins) ≡ graph_over (points_without r us) ks pins =
      ap (λ z. apply (tidy_step r (graph_over z ks pins)) (graph_over z ks pins)) same ∙ vertex_less ws ks pins c r (g r (inl refl)) new in
      let ih = shrunk always rs ws vs t cl (λ p m. g p (inr m)) in (
        ap (λ z. run (tidy_steps rs z) z) e ∙ ih.0,
        (subst (λ z. IsSound (tidy_step r (graph_over z ks pins)) (graph_over z ks pins)) (sym same) (always ws c r (g r (inl refl)) new), subst (λ z. AreSound (tidy_steps rs z) z) (sym e) ih.1),
      )

-- the first of sound steps are sound
pub first_sound : (xs ys : List Step) (g : Graph) → AreSound (xs ++ ys) g → AreSound xs g
first_sound [] ys g a = tt
first_sound (x ∷ xs) ys g a = (a.0, first_sound xs ys (apply x g) a.1)
