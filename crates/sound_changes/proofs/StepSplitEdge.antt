-- Marks of an edge whole and in two parts: g has the edge of d and t whole, and in h it goes from A to p, and on from there to B.
use Rattle.std.proofs.Common.{◌≡◌, ◌≢◌, ℕ, [], true, refl, sym, ap, ap₂, ◌∙◌, subst, inl, inr, nat_cmp}
use Rattle.exact_plane.specs.Point.{Point}
use Rattle.plane_graphs.specs.Ascending.{Member, IsAscending}
use Rattle.plane_graphs.specs.Graph.{Mark, mark}
use Rattle.plane_graphs.specs.Line.{precedes}
use Rattle.plane_graphs.proofs.Lists.{clash}
use Rattle.plane_graphs.proofs.Marks.{mark_path}
use Rattle.plane_graphs.proofs.Order.{lt_out, lt_in, lt_trans, lt_both, lt_never}
use Rattle.slab_laws.specs.declared.names.DartId.{DartId}
use Rattle.slab_laws.specs.declared.names.VertexId.{VertexId}
use Rattle.slab_laws.specs.Sound.{IsNamed, IsTwinned}
use Rattle.slab_laws.specs.View.{View, HasVertex, HasDart, point_in, source_in, twin_in, target_in}
use Rattle.sound_changes.specs.SplitHalves.{IsHalved}
use Rattle.sound_changes.proofs.SplitHalves.{three}
use Rattle.sound_changes.proofs.SplitHalves as halves
use Rattle.arr_notes.specs.Curves.{Curves, AreCurvesOf, IsForward, is_forward}
use Rattle.arr_notes.proofs.Names.{cases_dart}
use Rattle.arr_notes.specs.RecordGraph.{drawn_graph}
use Rattle.sound_views.specs.RecordGraphLaws.{IsMarkOf}
use Rattle.sound_changes.proofs.StepHolds.{mark_held}
use Rattle.sound_changes.proofs.StepCases.{IsSameWay, IsLabelled, mark_moves, mark_moves_back, turned_way, labelled, label_moves, curves_by}
use Rattle.integers.proofs.Tests.{not_true}

-- two views, their edge whole and in parts, and the point between
pub record IsPartedAt (g h : View) (d t n m : DartId) (w : VertexId) (p : Point) : Type 0 where
  pub halved : IsHalved g h d t n m w
  pub twinned : IsTwinned g
  pub sourced : (k : DartId) → HasDart g k → HasVertex g (source_in g k)
  pub at_w : point_in h w ≡ p
  pub before : precedes (point_in g (source_in g d)) p ≡ true
  pub behind : precedes p (point_in g (source_in g t)) ≡ true

module _ (g h : View) (d t n m : DartId) (w : VertexId) (p : Point) (z : IsPartedAt g h d t n m w p) where
  abbrev A : Point
  A = point_in g (source_in g d)

  abbrev B : Point
  B = point_in g (source_in g t)

  i : IsHalved g h d t n m w
  i = z.halved

  -- ---- where the darts go
  end_by : (v : View) (k c : DartId) (q : Point) → twin_in v k ≡ c → point_in v (source_in v c) ≡ q → point_in v (target_in v k) ≡ q
  end_by v k c q e f = ap (λ x. point_in v (source_in v x)) e ∙ f

  whole_end : point_in g (target_in g d) ≡ B
  whole_end = end_by g d t B i.twin_d refl

  whole_back : point_in g (target_in g t) ≡ A
  whole_back = end_by g t d A i.twin_t refl

  start_d : point_in h (source_in h d) ≡ A
  start_d = halves.point_old g h d t n m w i z.sourced p z.at_w d i.has_d i.d_t

  start_t : point_in h (source_in h t) ≡ p
  start_t = halves.point_t g h d t n m w i z.sourced p z.at_w

  start_n : point_in h (source_in h n) ≡ p
  start_n = halves.point_n g h d t n m w i z.sourced p z.at_w

  start_m : point_in h (source_in h m) ≡ B
  start_m = halves.point_m g h d t n m w i z.sourced p z.at_w

  end_d : point_in h (target_in h d) ≡ p
  end_d = end_by h d t p (i.twin_old d i.has_d ∙ i.twin_d) start_t

  end_t : point_in h (target_in h t) ≡ A
  end_t = end_by h t d A (i.twin_old t i.has_t ∙ i.twin_t) start_d

  end_n : point_in h (target_in h n) ≡ B
  end_n = end_by h n m B i.twin_n start_m

  end_m : point_in h (target_in h m) ≡ p
  end_m = end_by h m n p i.twin_m start_n

  pub way : (k : DartId) → HasDart g k → k ≢ t → k ≢ d → IsSameWay g h k
  way k o nt nd =
      let ot = z.twinned.has k o in record {
        before = o;
        after = i.has_old k o;
        start = halves.point_old g h d t n m w i z.sourced p z.at_w k o nt;
        end = end_by h k (twin_in g k) (point_in g (target_in g k)) (i.twin_old k o) (halves.point_old g h d t n m w i z.sourced p z.at_w (twin_in g k) ot (λ q. nd (sym (z.twinned.back k o) ∙ ap (twin_in g) q ∙ i.twin_t)));
      }

  -- ---- which of them go forward
  forward_by : (v : View) (k : DartId) (q r : Point) → point_in v (source_in v k) ≡ q → point_in v (target_in v k) ≡ r → precedes q r ≡ true → is_forward v k ≡ true
  forward_by v k q r e f l = ap₂ precedes e f ∙ l

  backward_by : (v : View) (k : DartId) (q r : Point) → point_in v (source_in v k) ≡ r → point_in v (target_in v k) ≡ q → precedes q r ≡ true → is_forward v k ≡ true → ⊥
  backward_by v k q r e f l b = lt_both (lt_out q r l) (lt_out r q (sym (ap₂ precedes e f) ∙ b))

  pub whole_before : precedes A B ≡ true
  whole_before = lt_in (lt_trans (lt_out A p z.before) (lt_out p B z.behind))

  pub forward_whole : is_forward g d ≡ true
  forward_whole = forward_by g d A B refl whole_end whole_before

  pub backward_whole : is_forward g t ≡ true → ⊥
  backward_whole = backward_by g t A B refl whole_back whole_before

  pub forward_d : is_forward h d ≡ true
  forward_d = forward_by h d A p start_d end_d z.before

  pub forward_n : is_forward h n ≡ true
  forward_n = forward_by h n p B start_n end_n z.behind

  pub backward_t : is_forward h t ≡ true → ⊥
  backward_t = backward_by h t A p start_t end_t z.before

  pub backward_m : is_forward h m ≡ true → ⊥
  backward_m = backward_by h m p B start_m end_m z.behind

  -- ---- d and t, n and m, and the others
  pub each_of_g : (P : DartId → Type 0) → P d → P t → ((k : DartId) → HasDart g k → k ≢ t → k ≢ d → P k) → (k : DartId) → HasDart g k → P k
  each_of_g P at_d at_t old k o =
      elim (cases_dart k t) [
        | inl q ↦ subst P (sym q) at_t
        | inr nt ↦ elim (cases_dart k d) [ inl q ↦ subst P (sym q) at_d | inr nd ↦ old k o nt nd ]
      ]

  pub each_of_h : (P : DartId → Type 0) → P d → P t → P n → P m → ((k : DartId) → HasDart g k → k ≢ t → k ≢ d → P k) → (k : DartId) → HasDart h k → P k
  each_of_h P at_d at_t at_n at_m old = three g h d t n m w i P at_n at_m (each_of_g P at_d at_t old)

  pub distinct : (q r : Point) → precedes q r ≡ true → q ≢ r
  distinct q r l e = lt_never (lt_out q q (subst (λ x. precedes q x ≡ true) (sym e) l))

  -- ---- marks; both parts have the curves of the whole
  module _ (a b : Curves) (at_n : b n ≡ a d) (at_old : (k : DartId) → HasDart g k → b k ≡ a k) (named_g : IsNamed g) (named_h : IsNamed h) where
    -- a mark of the whole edge, or of another one
    pub data Whole (k : Mark) : Type 0 where
      whole : (c : ℕ) → Member c (a d) → k ≡ mark A B c → Whole k
      kept : (x : DartId) → IsMarkOf g a k x → x ≢ d → Whole k

    -- a mark of one of the two parts, or of another edge
    pub data Part (k : Mark) : Type 0 where
      lower : (c : ℕ) → Member c (a d) → k ≡ mark A p c → Part k
      upper : (c : ℕ) → Member c (a d) → k ≡ mark p B c → Part k
      kept_too : (x : DartId) → IsMarkOf g a k x → x ≢ d → Part k

    pub whole_of : (k : Mark) (x : DartId) → IsMarkOf g a k x → Whole k
    whole_of k x y = elim (cases_dart x d) [
      | inl q ↦ let y : IsMarkOf g a k d = subst (IsMarkOf g a k) q y in whole k.curve y.curve (mark_path k A B k.curve (sym y.low) (sym y.high ∙ whole_end) refl)
      | inr ne ↦ kept x y ne
    ]

    pub of_whole : (k : Mark) → Whole k → Member k (drawn_graph g a).marks
    of_whole k (whole c y q) = mark_held g named_g a k d (record { forward = (i.has_d, forward_whole); low = ap (λ x. x.low) (sym q); high = whole_end ∙ ap (λ x. x.high) (sym q); curve = subst (λ x. Member x (a d)) (ap (λ x. x.curve) (sym q)) y })
    of_whole k (kept x y ne) = mark_held g named_g a k x y

    pub part_of : (k : Mark) (x : DartId) → HasDart h x → IsMarkOf h b k x → Part k
    part_of k =
        each_of_h (λ x. IsMarkOf h b k x → Part k)
        (λ y. lower k.curve (subst (Member k.curve) (at_old d i.has_d) y.curve) (mark_path k A p k.curve (sym y.low ∙ start_d) (sym y.high ∙ end_d) refl))
        (λ y. absurd (backward_t y.forward.1))
        (λ y. upper k.curve (subst (Member k.curve) at_n y.curve) (mark_path k p B k.curve (sym y.low ∙ start_n) (sym y.high ∙ end_n) refl))
        (λ y. absurd (backward_m y.forward.1))
        (λ x o nt nd y. kept_too x (mark_moves_back g h a b x k (way x o nt nd) (at_old x o) y) nd)

    pub of_part : (k : Mark) → Part k → Member k (drawn_graph h b).marks
    of_part k (lower c y q) = mark_held h named_h b k d (record {
      forward = (i.has_old d i.has_d, forward_d);
      low = start_d ∙ ap (λ x. x.low) (sym q);
      high = end_d ∙ ap (λ x. x.high) (sym q);
      curve = subst (λ x. Member x (b d)) (ap (λ x. x.curve) (sym q)) (subst (Member c) (sym (at_old d i.has_d)) y);
    })
    of_part k (upper c y q) = mark_held h named_h b k n (record {
      forward = (i.has_n, forward_n);
      low = start_n ∙ ap (λ x. x.low) (sym q);
      high = end_n ∙ ap (λ x. x.high) (sym q);
      curve = subst (λ x. Member x (b n)) (ap (λ x. x.curve) (sym q)) (subst (Member c) (sym at_n) y);
    })
    of_part k (kept_too x y ne) =
        let nt : x ≢ t = λ q. backward_whole (subst (IsForward g) q y.forward).1 in
        mark_held h named_h b k x (mark_moves g h a b x k (way x y.forward.0 nt ne) (at_old x y.forward.0) y)

    -- ---- the curves are those of the edges
    bare : (v : View) (c : Curves) (x : DartId) → (is_forward v x ≡ true → ⊥) → c x ≡ [] → IsLabelled v c x
    bare v c x back q = record { some = λ e. absurd (back e); ascend = subst (IsAscending nat_cmp) (sym q) tt; backward = λ e. q }

    covered : (v u : View) (c e : Curves) (x y : DartId) → is_forward v x ≡ true → is_forward u y ≡ true → c x ≡ e y → IsLabelled u e y → IsLabelled v c x
    covered v u c e x y f k q l = record { some = λ o r. l.some k (sym q ∙ r); ascend = subst (IsAscending nat_cmp) (sym q) l.ascend; backward = λ o. clash f o }

    pub parts_labelled : AreCurvesOf g a → ((x : DartId) → ¬ HasDart g x → x ≢ n → b x ≡ []) → AreCurvesOf h b
    parts_labelled k none = curves_by h b
        (each_of_h (IsLabelled h b)
        (covered h g b a d d forward_d forward_whole (at_old d i.has_d) (labelled g a d k i.has_d))
        (bare h b t backward_t (at_old t i.has_t ∙ k.backward t (not_true (is_forward g t) backward_whole)))
        (covered h g b a n d forward_n forward_whole at_n (labelled g a d k i.has_d))
        (bare h b m backward_m (none m i.m_new (λ q. i.n_m (sym q))))
        (λ x o nt nd. label_moves g h a b x (way x o nt nd) (at_old x o) (labelled g a x k o)))
        (λ x no. none x (λ o. no (i.has_old x o)) (λ q. no (subst (HasDart h) (sym q) i.has_n)))

    pub whole_labelled : AreCurvesOf h b → ((x : DartId) → ¬ HasDart g x → a x ≡ []) → AreCurvesOf g a
    whole_labelled k none = curves_by g a
        (each_of_g (IsLabelled g a)
        (covered g h a b d d forward_whole forward_d (sym (at_old d i.has_d)) (labelled h b d k (i.has_old d i.has_d)))
        (bare g a t backward_whole (sym (at_old t i.has_t) ∙ k.backward t (not_true (is_forward h t) backward_t)))
        (λ x o nt nd. label_moves h g b a x (turned_way g h x (way x o nt nd)) (sym (at_old x o)) (labelled h b x k (i.has_old x o))))
        none
