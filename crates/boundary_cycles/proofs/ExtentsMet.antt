-- The extent of the darts that a walk has met; and that no dart of a cycle is above a cell beside a vertical that is clear of it.
use Rattle.std.proofs.Common.{◌≡◌, ◌≢◌, Bool, true, false, cond, refl, sym, ap, ◌∙◌, subst, inl, inr}
use Rattle.std.specs.Prelude.{not, ◌&&◌, ◌||◌, ◌==◌, ◌%◌}
use Rattle.std.proofs.Math.Bool.{beq}
use Rattle.std.proofs.lemmas.Bool.{false≢true, cases_Bool, false_from_ne_true, or_cases}
use Rattle.exact_plane.specs.Point.{Point}
use Rattle.slab_laws.specs.declared.names.DartId.{DartId}
use Rattle.slab_laws.specs.FacesSound.{lead_in}
use Rattle.slab_laws.specs.Rotation.{same_dart}
use Rattle.slab_laws.specs.Skeleton.{left_of, HasWeight}
use Rattle.slab_laws.specs.Sound.{IsGraphSound, edge_in}
use Rattle.slab_laws.specs.View.{View, HasDart, point_in, source_in, target_in, next_in}
use Rattle.slab_faces.proofs.NextLemmas.{darts_exact}
use Rattle.slab_faces.proofs.Sums.{each, sum_by-same, sum_by-none}
use Rattle.slab_faces.proofs.Walls.{left_of-irrefl, left_of-asym, left_of-before, left_of-after}
use Rattle.sound_views.proofs.NameTables.{names_exact}
use Rattle.arr_notes.specs.CycleNames.{dart_names}
use Rattle.face_changes.proofs.OneToOneMaps.{tally}
use Rattle.boundary_cycles.specs.declared.asked.Asked.{Asked}
use Rattle.boundary_cycles.specs.declared.asked.Asked.TheVariants.{Left, Right, Above, Below}
use Rattle.boundary_cycles.specs.declared.extents.Extent.{Extent}
use Rattle.boundary_cycles.specs.Asked.{asked_at, is_behind_asked, is_over_asked, is_above_asked, IsAsked}
use Rattle.boundary_cycles.specs.Counted.{is_on_cycle, is_odd_above}
use Rattle.boundary_cycles.specs.Extents.{Covers, HasWeights, IsExtent}
use Rattle.boundary_cycles.proofs.Above.{spans_slab}
use Rattle.boundary_cycles.proofs.EndsRead.{edge_weights}
use Rattle.boundary_cycles.proofs.NamedWalks.{IsWalked, more, ends, of_list, lead_step}

-- ---- one more point
module _ (e : Extent) (p : Point) (W : HasWeights e) (P : HasWeight p) where
  -- the new left one is p where p is on the left of the old one, else the old one
  left_kept : (b : Bool) → b ≡ left_of p e.left → (q : Point) → HasWeight q → left_of q e.left ≡ false → left_of q (cond b p e.left) ≡ false
  left_kept true h q Q k = false_from_ne_true _ (λ l. false≢true (sym k ∙ left_of-before q p e.left Q P W.0 l (left_of-asym p e.left (sym h))))
  left_kept false h q Q k = k

  left_own : (b : Bool) → b ≡ left_of p e.left → left_of p (cond b p e.left) ≡ false
  left_own true h = left_of-irrefl p
  left_own false h = sym h

  right_kept : (b : Bool) → b ≡ left_of e.right p → (q : Point) → HasWeight q → left_of e.right q ≡ false → left_of (cond b p e.right) q ≡ false
  right_kept true h q Q k = false_from_ne_true _ (λ l. false≢true (sym k ∙ left_of-before e.right p q W.1 P Q (sym h) (left_of-asym p q l)))
  right_kept false h q Q k = k

  right_own : (b : Bool) → b ≡ left_of e.right p → left_of (cond b p e.right) p ≡ false
  right_own true h = left_of-irrefl p
  right_own false h = sym h

  weight_of : (b : Bool) (o : Point) → HasWeight o → HasWeight (cond b p o)
  weight_of true o h = P
  weight_of false o h = h

  module _ (b c : Bool) (B : b ≡ left_of p e.left) (C : c ≡ left_of e.right p) (l r : Point) (L : l ≡ cond b p e.left) (R : r ≡ cond c p e.right) where
    pub wider : HasWeights (record { left = l; right = r })
    wider = (subst HasWeight (sym L) (weight_of b e.left W.0), subst HasWeight (sym R) (weight_of c e.right W.1))

    pub covers_more : Covers (record { left = l; right = r }) p
    covers_more = (subst (λ z. left_of p z ≡ false) (sym L) (left_own b B), subst (λ z. left_of z p ≡ false) (sym R) (right_own c C))

    pub covers_still : (q : Point) → HasWeight q → Covers e q → Covers (record { left = l; right = r }) q
    covers_still q Q k = (subst (λ z. left_of q z ≡ false) (sym L) (left_kept b B q Q k.0), subst (λ z. left_of z q ≡ false) (sym R) (right_kept c C q Q k.1))

-- ---- along a walk
abbrev pub AreCovered : View → Extent → (DartId → Bool) → Type 0
AreCovered v e seen = HasWeights e × ((x : DartId) → seen x ≡ true → Covers e (point_in v (source_in v x)))

module _ (v : View) (s : IsGraphSound v) (d : DartId) (D : HasDart v d) (at : DartId) (seen : DartId → Bool) (w : IsWalked v d at seen) (e f : Extent) (k : AreCovered v e seen) (W : HasWeights f) (own : Covers f (point_in v (source_in v at))) (keeps : (q : Point) → HasWeight q → Covers e q → Covers f q) where
  pub covered_more : AreCovered v f (more at seen)
  covered_more = (
    W,
    λ x h. elim (or_cases (seen x) _ h) [
      | inl t ↦ keeps (point_in v (source_in v x)) (s.drawn.proper (source_in v x) (s.linked.source x (w.there x t).0)).positive (k.1 x t)
      | inr t ↦ subst (λ y. Covers f (point_in v (source_in v y))) (names_exact.path at x t) own
    ],
  )

  pub covered_all : next_in v at ≡ d → IsExtent v d f
  covered_all q = (W, λ x hx l. covered_more.1 x (ends v s d D at seen w q x hx ∙ subst (λ z. same_dart z (lead_in v d) ≡ true) (sym l) (darts_exact.itself (lead_in v d))))

-- ---- clear of a cycle
module _ (e : Extent) (W : HasWeights e) (a : Asked) (A : IsAsked a) where
  weight_at : (a : Asked) → IsAsked a → HasWeight (asked_at a)
  weight_at (Left t) A = A
  weight_at (Right t) A = A
  weight_at (Above s) A = A.0
  weight_at (Below s) A = A.0

  -- a point on the right of the vertical is not behind, and one on the left is
  not_behind : (a : Asked) (p : Point) → left_of (asked_at a) p ≡ true → is_behind_asked a p ≡ false
  not_behind (Left t) p h = left_of-asym t p h
  not_behind (Right t) p h = ap not h
  not_behind (Above s) p h = ap not h
  not_behind (Below s) p h = ap not h

  is_behind : (a : Asked) (p : Point) → left_of p (asked_at a) ≡ true → is_behind_asked a p ≡ true
  is_behind (Left t) p h = h
  is_behind (Right t) p h = ap not (left_of-asym p t h)
  is_behind (Above s) p h = ap not (left_of-asym p s.lower h)
  is_behind (Below s) p h = ap not (left_of-asym p s.lower h)

  -- so all of the cycle's points are on one side
  one_side : (left_of (asked_at a) e.left || left_of e.right (asked_at a)) ≡ true → (b : Bool) × ((p : Point) → HasWeight p → Covers e p → is_behind_asked a p ≡ b)
  one_side h = elim (or_cases (left_of (asked_at a) e.left) (left_of e.right (asked_at a)) h) [
    | inl l ↦ (false, λ p P k. not_behind a p (left_of-before (asked_at a) e.left p (weight_at a A) W.0 P l k.0))
    | inr l ↦ (true, λ p P k. is_behind a p (left_of-after p e.right (asked_at a) P W.1 (weight_at a A) k.1 l))
  ]

module _ (v : View) (s : IsGraphSound v) (d : DartId) (D : HasDart v d) (e : Extent) (E : IsExtent v d e) (a : Asked) (A : IsAsked a) (clear : (left_of (asked_at a) e.left || left_of e.right (asked_at a)) ≡ true) where
  same : (b : Bool) → not (beq b b) ≡ false
  same true = refl
  same false = refl

  not_above : (x : DartId) → HasDart v x → lead_in v x ≡ lead_in v d → is_above_asked a (edge_in v x) ≡ false
  not_above x hx q =
      let o = one_side e E.0 a A clear in
      let n = s.linked.has x hx in
      let proper : (y : DartId) → HasDart v y → HasWeight (point_in v (source_in v y)) = λ y hy. (s.drawn.proper (source_in v y) (s.linked.source y hy)).positive in
      let p : is_behind_asked a (point_in v (source_in v x)) ≡ o.0 = o.1 (point_in v (source_in v x)) (proper x hx) (E.1 x hx q) in
      let r : is_behind_asked a (point_in v (target_in v x)) ≡ o.0 = subst (λ u. is_behind_asked a (point_in v u) ≡ o.0) (s.linked.joins x hx) (o.1 (point_in v (source_in v (next_in v x))) (proper (next_in v x) n) (E.1 (next_in v x) n (lead_step v s x hx ∙ q))) in
      let z = spans_slab a (point_in v (source_in v x)) (point_in v (target_in v x)) A (edge_weights v s x hx) o.0 o.0 (sym p) (sym r) in
      ap (λ b. b && is_over_asked a (edge_in v x)) (sym z ∙ same o.0)

  pub none_above : is_odd_above v d a ≡ false
  none_above =
      ap (λ n. n % 2 == 1)
      (sum_by-same (λ x. tally (is_on_cycle v d x && is_above_asked a (edge_in v x))) (λ x. 0) (dart_names v)
      (each (λ x. tally (is_on_cycle v d x && is_above_asked a (edge_in v x)) ≡ 0) (dart_names v) (λ x c. elim (cases_Bool (is_on_cycle v d x)) [
        | inl t ↦ ap tally (ap (λ b. b && is_above_asked a (edge_in v x)) t ∙ not_above x (of_list v s x c) (darts_exact.path _ _ t))
        | inr t ↦ ap tally (ap (λ b. b && is_above_asked a (edge_in v x)) t)
      ]))
      ∙ sum_by-none (dart_names v))
