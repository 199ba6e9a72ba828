-- Points among which are all ends and crossings of some pieces.
use Rattle.std.proofs.Common.{◌≡◌, List, [], ◌∷◌, Bool, true, false, ◌&&◌, refl, sym, ap, ◌∙◌, subst, inl, inr, ◌⊎◌, ⊎_elim}
use Rattle.exact_plane.specs.Point.{Point}
use Rattle.exact_plane.specs.PointOrder.{point_cmp}
use Rattle.exact_plane.specs.PointOrderLaws.{and_true}
use Rattle.plane_graphs.specs.Line.{precedes, IsProper}
use Rattle.plane_graphs.specs.Piece.{Piece, along, on}
use Rattle.plane_graphs.specs.Graph.{Mark, inside, collinear}
use Rattle.plane_graphs.specs.Ascending.{Member, IsAscending}
use Rattle.plane_graphs.proofs.Lists.{and_in, clash, decide}
use Rattle.plane_graphs.proofs.Order.{Lt, lt_out, lt_in, lt_trans, Tri, tri}
use Rattle.plane_graphs.proofs.Order.Tri.{less, same, more}
use Rattle.plane_graphs.proofs.Marks.{Le, le_same, le_lt, le_trans, le_cases, On, on_out, on_in, on_between, Next, IsMark}

-- two points of the piece's line tell it
pub record IsStraight (k : Piece) : Type 0 where
  pub span : (p q t : Point) → IsProper p → IsProper q → IsProper t → Lt p q → along k p ≡ true → along k q ≡ true → collinear p q t ≡ along k t

pub record SameLine (k m : Piece) : Type 0 where
  pub same : (t : Point) → IsProper t → along k t ≡ along m t

pub record IsClosed (vs : List Point) (ks : List Piece) : Type 0 where
  pub ascend : IsAscending point_cmp vs
  pub proper : (p : Point) → Member p vs → IsProper p
  pub from_in : (k : Piece) → Member k ks → Member k.from vs
  pub to_in : (k : Piece) → Member k ks → Member k.to vs
  pub from_on : (k : Piece) → Member k ks → along k k.from ≡ true
  pub to_on : (k : Piece) → Member k ks → along k k.to ≡ true
  pub straight : (k : Piece) → Member k ks → IsStraight k
  pub met : (k m : Piece) → Member k ks → Member m ks → (t : Point) → IsProper t → On k t → On m t → Member t vs ⊎ SameLine k m

-- the neighbouring vertices of a piece round a point of it
pub record Between (vs : List Point) (k : Piece) (r : Point) : Type 0 where
  pub low : Point
  pub high : Point
  pub low_in : Member low vs
  pub high_in : Member high vs
  pub next : Next vs k low high
  pub below : Lt low r
  pub above : Lt r high

-- ---- the last and the first vertex that passes
abbrev Passing : (Point → Bool) → List Point → Type 0
Passing f vs = (u : Point) × Member u vs × (f u ≡ true)

pub record IsLast (f : Point → Bool) (vs : List Point) (u : Point) : Type 0 where
  pub here : Member u vs
  pub passes : f u ≡ true
  pub last : (w : Point) → Member w vs → f w ≡ true → Le w u

pub record IsFirst (f : Point → Bool) (vs : List Point) (u : Point) : Type 0 where
  pub here : Member u vs
  pub passes : f u ≡ true
  pub first : (w : Point) → Member w vs → f w ≡ true → Le u w

last_more : (f : Point → Bool) (v : Point) (vs : List Point) (u : Point) → f v ≡ true → IsLast f vs u → Tri v u → (w : Point) × IsLast f (v ∷ vs) w
last_more f v vs u e h (less l) = (u, record { here = inr h.here; passes = h.passes; last = λ w m g. ⊎_elim (λ i. subst (λ x. Le x u) (sym i) (le_lt l)) (λ n. h.last w n g) m })
last_more f v vs u e h (same s) = (u, record { here = inr h.here; passes = h.passes; last = λ w m g. ⊎_elim (λ i. subst (λ x. Le x u) (sym i) (subst (λ x. Le v x) s (le_same v))) (λ n. h.last w n g) m })
last_more f v vs u e h (more l) = (v, record { here = inl refl; passes = e; last = λ w m g. ⊎_elim (λ i. subst (λ x. Le x v) (sym i) (le_same v)) (λ n. le_trans (h.last w n g) (le_lt l)) m })

last_step : (f : Point → Bool) (v : Point) (vs : List Point) → (f v ≡ true) ⊎ (f v ≡ false) → (Passing f vs → (w : Point) × IsLast f vs w) → ((has_one : (Passing f vs) ⊎ (Passing f vs → ⊥)) → Passing f (v ∷ vs) → (w : Point) × IsLast f (v ∷ vs) w)
last_step f v vs (inl e) ih (inl k) g = let r = ih k in last_more f v vs r.0 e r.1 (tri v r.0)
last_step f v vs (inl e) ih (inr n) g = (v, record { here = inl refl; passes = e; last = λ w m h. ⊎_elim (λ i. subst (λ x. Le x v) (sym i) (le_same v)) (λ k. absurd (n (w, k, h))) m })
last_step f v vs (inr e) ih s g =
    let r = ih (⊎_elim (λ i. clash (ap f (sym i) ∙ g.2) e) (λ k. (g.0, k, g.2)) g.1) in
    (r.0, record { here = inr r.1.here; passes = r.1.passes; last = λ w m h. ⊎_elim (λ i. clash (ap f (sym i) ∙ h) e) (λ k. r.1.last w k h) m })

passing_or : (f : Point → Bool) (vs : List Point) → (Passing f vs) ⊎ (Passing f vs → ⊥)
passing_or f [] = inr (λ h. h.1)
passing_or f (v ∷ vs) =
    ⊎_elim (λ e. inl (v, inl refl, e)) (λ e. ⊎_elim (λ k. inl (k.0, inr k.1, k.2)) (λ n. inr (λ h. ⊎_elim (λ i. clash (ap f (sym i) ∙ h.2) e) (λ k. n (h.0, k, h.2)) h.1)) (passing_or f vs)) (decide (f v))

pub last_passing : (f : Point → Bool) (vs : List Point) → Passing f vs → (w : Point) × IsLast f vs w
last_passing f [] g = absurd g.1
last_passing f (v ∷ vs) g = last_step f v vs (decide (f v)) (last_passing f vs) (passing_or f vs) g

first_more : (f : Point → Bool) (v : Point) (vs : List Point) (u : Point) → f v ≡ true → IsFirst f vs u → Tri v u → (w : Point) × IsFirst f (v ∷ vs) w
first_more f v vs u e h (more l) = (u, record { here = inr h.here; passes = h.passes; first = λ w m g. ⊎_elim (λ i. subst (λ x. Le u x) (sym i) (le_lt l)) (λ n. h.first w n g) m })
first_more f v vs u e h (same s) = (u, record { here = inr h.here; passes = h.passes; first = λ w m g. ⊎_elim (λ i. subst (λ x. Le u x) (sym i) (subst (λ x. Le x v) s (le_same v))) (λ n. h.first w n g) m })
first_more f v vs u e h (less l) = (v, record { here = inl refl; passes = e; first = λ w m g. ⊎_elim (λ i. subst (λ x. Le v x) (sym i) (le_same v)) (λ n. le_trans (le_lt l) (h.first w n g)) m })

first_step : (f : Point → Bool) (v : Point) (vs : List Point) → (f v ≡ true) ⊎ (f v ≡ false) → (Passing f vs → (w : Point) × IsFirst f vs w) → ((has_one : (Passing f vs) ⊎ (Passing f vs → ⊥)) → Passing f (v ∷ vs) → (w : Point) × IsFirst f (v ∷ vs) w)
first_step f v vs (inl e) ih (inl k) g = let r = ih k in first_more f v vs r.0 e r.1 (tri v r.0)
first_step f v vs (inl e) ih (inr n) g = (v, record { here = inl refl; passes = e; first = λ w m h. ⊎_elim (λ i. subst (λ x. Le v x) (sym i) (le_same v)) (λ k. absurd (n (w, k, h))) m })
first_step f v vs (inr e) ih s g =
    let r = ih (⊎_elim (λ i. clash (ap f (sym i) ∙ g.2) e) (λ k. (g.0, k, g.2)) g.1) in
    (r.0, record { here = inr r.1.here; passes = r.1.passes; first = λ w m h. ⊎_elim (λ i. clash (ap f (sym i) ∙ h) e) (λ k. r.1.first w k h) m })

pub first_passing : (f : Point → Bool) (vs : List Point) → Passing f vs → (w : Point) × IsFirst f vs w
first_passing f [] g = absurd g.1
first_passing f (v ∷ vs) g = first_step f v vs (decide (f v)) (first_passing f vs) (passing_or f vs) g

-- ---- inside an edge
pub inside_out : (t : Point) (m : Mark) → inside t m ≡ true → Lt m.low t × Lt t m.high × (collinear m.low m.high t ≡ true)
unfolding inside
inside_out t m h =
    let a = and_true (precedes m.low t && precedes t m.high) (collinear m.low m.high t) h in
    let b = and_true (precedes m.low t) (precedes t m.high) a.0 in
    (lt_out m.low t b.0, lt_out t m.high b.1, a.1)

pub inside_in : (t : Point) (m : Mark) → Lt m.low t → Lt t m.high → collinear m.low m.high t ≡ true → inside t m ≡ true
unfolding inside
inside_in t m a b c = and_in (and_in (lt_in a) (lt_in b)) c

beside_r : (vs : List Point) (r : Point) → (Member r vs → ⊥) → (s p q : Point) → Member s vs → Lt p s → Lt s q → (Lt s r → Le s p) → (Lt r s → Le q s) → Tri s r → ⊥
beside_r vs r new s p q m l n f g (less h) = (f h).never l
beside_r vs r new s p q m l n f g (same e) = new (subst (λ x. Member x vs) e m)
beside_r vs r new s p q m l n f g (more h) = (g h).never n

module _ (vs : List Point) (ks : List Piece) (cl : IsClosed vs ks) where
  -- a mark's two points tell the line of its piece
  pub mark_line : (m : Mark) (h : IsMark vs ks m) (t : Point) → IsProper t → collinear m.low m.high t ≡ along h.piece t
  mark_line m h t pt = (cl.straight h.piece h.here).span m.low m.high t (cl.proper m.low h.low_in) (cl.proper m.high h.high_in) pt h.next.lt h.next.at_p.line h.next.at_q.line

  -- a point of a piece that is no vertex lies inside an edge of the piece
  pub around : (k : Piece) → Member k ks → (r : Point) → IsProper r → (Member r vs → ⊥) → On k r → Between vs k r
  around k here r pr new o =
      let not_from : Lt k.from r = ⊎_elim (λ e. absurd (new (subst (λ x. Member x vs) e (cl.from_in k here)))) (λ l. l) (le_cases k.from r o.low) in
      let not_to : Lt r k.to = ⊎_elim (λ e. absurd (new (subst (λ x. Member x vs) (sym e) (cl.to_in k here)))) (λ l. l) (le_cases r k.to o.high) in
      let long : Le k.from k.to = le_trans o.low o.high in
      let on_from : on k k.from ≡ true = on_in k k.from (record { line = cl.from_on k here; low = le_same k.from; high = long }) in
      let on_to : on k k.to ≡ true = on_in k k.to (record { line = cl.to_on k here; low = long; high = le_same k.to }) in
      let a = last_passing (λ v. precedes v r && on k v) vs (k.from, cl.from_in k here, and_in (lt_in not_from) on_from) in
      let b = first_passing (λ v. precedes r v && on k v) vs (k.to, cl.to_in k here, and_in (lt_in not_to) on_to) in
      let p = a.0 in
      let q = b.0 in
      let at_p = and_true (precedes p r) (on k p) a.1.passes in
      let at_q = and_true (precedes r q) (on k q) b.1.passes in
      let p_on = on_out k p at_p.1 in
      let q_on = on_out k q at_q.1 in
      let pr' = lt_out p r at_p.0 in
      let rq' = lt_out r q at_q.0 in
      let none : (s : Point) → Member s vs → Lt p s → Lt s q → along k s ≡ true → ⊥ = λ s m l n e.
      let on_s : on k s ≡ true = on_in k s (on_between k p s q p_on q_on (le_lt l) (le_lt n) e) in
      beside_r vs r new s p q m l n (λ h. a.1.last s m (and_in (lt_in h) on_s)) (λ h. b.1.first s m (and_in (lt_in h) on_s)) (tri s r) in
      record { low = p; high = q; low_in = a.1.here; high_in = b.1.here; next = record { lt = lt_trans pr' rq'; at_p = p_on; at_q = q_on; none = none }; below = pr'; above = rq' }
