-- The clockwise order tells apart all but one direction, and begins with the first one.
use Rattle.std.proofs.Common.{◌≡◌, [], ◌∷◌, ℤ, pos, ◌+ℤ◌, ◌-ℤ◌, ◌*ℤ◌, ◌<ℤ◌, neg_ℤ, refl, ap, ap₂, sym, ◌∙◌, subst, arith, Ordering, Less, Equal, Greater}
use Rattle.std.specs.Prelude.{◌↔◌}
use Rattle.std.specs.Ordering.{int_cmp, nat_cmp, ordering_then}
use Rattle.std.specs.Cmp.{nat_cmp_total, tied_itself}
use Rattle.std.proofs.lemmas.Cmp.{ranked}
use Rattle.std.proofs.lemmas.Int.{ints}
use Rattle.integers.proofs.Compare.{less_out, equal_out, equal_in, greater_out, greater_in, same_cmp}
use Rattle.integers.proofs.Reify.{ring, sides}
use Rattle.integers.proofs.Signs.{mul_pos, cancel_pos}
use Rattle.exact_plane.specs.Direction.{Direction, IsDirection, IsOneDirection, turn, along, quarter, place, by_turn, turn_cmp}
use Rattle.integers.proofs.Classes.{then_equal}
use Rattle.exact_plane.proofs.TurnLaws.{same_side}

negated_pos : {z : ℤ} → z <ℤ pos 0 → pos 0 <ℤ neg_ℤ z
negated_pos {z} h = omega (arith, ints)

module _ (f a b : Direction) where
  -- along one line the turns from a third direction are in proportion, and so is how far they go along it
  turns : turn a b ≡ pos 0 → along a b *ℤ turn f a ≡ (a.x *ℤ a.x +ℤ a.y *ℤ a.y) *ℤ turn f b
  turns e =
      ring (f.x ∷ f.y ∷ a.x ∷ a.y ∷ b.x ∷ b.y ∷ []) (search sides depth 40 fits 20000) tt
      ∙ (λ i. (a.x *ℤ a.x +ℤ a.y *ℤ a.y) *ℤ turn f b -ℤ e i *ℤ along f a)
      ∙ ring (f.x ∷ f.y ∷ a.x ∷ a.y ∷ b.x ∷ b.y ∷ []) (search sides depth 40 fits 20000) tt

  alongs : turn a b ≡ pos 0 → along a b *ℤ along f a ≡ (a.x *ℤ a.x +ℤ a.y *ℤ a.y) *ℤ along f b
  alongs e =
      ring (f.x ∷ f.y ∷ a.x ∷ a.y ∷ b.x ∷ b.y ∷ []) (search sides depth 40 fits 20000) tt
      ∙ (λ i. (a.x *ℤ a.x +ℤ a.y *ℤ a.y) *ℤ along f b +ℤ e i *ℤ turn f a)
      ∙ ring (f.x ∷ f.y ∷ a.x ∷ a.y ∷ b.x ∷ b.y ∷ []) (search sides depth 40 fits 20000) tt

-- a factor of two numbers of one sign
same_signs : (k u m v : ℤ) → pos 0 <ℤ m → k *ℤ u ≡ m *ℤ v → pos 0 <ℤ u → pos 0 <ℤ v → pos 0 <ℤ k
same_signs k u m v hm e hu hv = cancel_pos {x = k} {k = u} hu (subst (λ z. pos 0 <ℤ z) (sym e) (mul_pos hm hv))

same_signs_below : (k u m v : ℤ) → pos 0 <ℤ m → k *ℤ u ≡ m *ℤ v → u <ℤ pos 0 → v <ℤ pos 0 → pos 0 <ℤ k
same_signs_below k u m v hm e hu hv =
    same_signs k (neg_ℤ u) m (neg_ℤ v) hm (ring (k ∷ u ∷ []) (search sides depth 40 fits 20000) tt ∙ ap neg_ℤ e ∙ ring (m ∷ v ∷ []) (search sides depth 40 fits 20000) tt) (negated_pos hu) (negated_pos hv)

-- and numbers of two that are in proportion compare alike with 0
in_proportion : (k u m v : ℤ) → pos 0 <ℤ k → pos 0 <ℤ m → k *ℤ u ≡ m *ℤ v → int_cmp u (pos 0) ≡ int_cmp v (pos 0)
in_proportion k u m v hk hm e =
    same_cmp u (pos 0) v (pos 0) {k = k} {m = m} hk hm (ring (k ∷ u ∷ []) (search sides depth 40 fits 20000) tt ∙ ap neg_ℤ e ∙ ring (m ∷ v ∷ []) (search sides depth 40 fits 20000) tt)

module _ (f a b : Direction) (hf : IsDirection f) (ha : IsDirection a) (hb : IsDirection b) where
  -- two proper directions on one line aren't square to one another
  pub not_square : (c : Direction) → IsDirection c → turn f c ≡ pos 0 → along f c ≡ pos 0 → ⊥
  not_square c hc e d =
      let p : pos 0 <ℤ ((f.x *ℤ f.x +ℤ f.y *ℤ f.y) *ℤ (c.x *ℤ c.x +ℤ c.y *ℤ c.y)) = mul_pos hf.some hc.some in
      let z : (f.x *ℤ f.x +ℤ f.y *ℤ f.y) *ℤ (c.x *ℤ c.x +ℤ c.y *ℤ c.y) ≡ pos 0 =
      ring (f.x ∷ f.y ∷ c.x ∷ c.y ∷ []) (search sides depth 40 fits 20000) tt ∙ (λ i. e i *ℤ turn f c +ℤ d i *ℤ along f c) ∙ ring (f.x ∷ f.y ∷ c.x ∷ c.y ∷ []) (search sides depth 40 fits 20000) tt in
      zero_clash _ p z
    where
      zero_clash : (n : ℤ) → pos 0 <ℤ n → n ≡ pos 0 → ⊥
      zero_clash n h e = omega (arith, ints)

  module _ (e : turn a b ≡ pos 0) where
    by_along : int_cmp (turn f a) (pos 0) ≡ Equal → int_cmp (turn f b) (pos 0) ≡ Equal → (d d' : Ordering) → int_cmp (along f a) (pos 0) ≡ d → int_cmp (along f b) (pos 0) ≡ d' → quarter Equal d ≡ quarter Equal d' → pos 0 <ℤ along a b
    by_along ta tb Less Less da db q = same_signs_below (along a b) (along f a) (a.x *ℤ a.x +ℤ a.y *ℤ a.y) (along f b) ha.some (alongs f a b e) (less_out _ _ da) (less_out _ _ db)
    by_along ta tb Equal d' da db q = absurd (not_square a ha (equal_out _ _ ta) (equal_out _ _ da))
    by_along ta tb Less Equal da db q = absurd (not_square b hb (equal_out _ _ tb) (equal_out _ _ db))
    by_along ta tb Less Greater da db q = absurd (omega arith)
    by_along ta tb Greater Less da db q = absurd (omega arith)
    by_along ta tb Greater Equal da db q = absurd (omega arith)
    by_along ta tb Greater Greater da db q = same_signs (along a b) (along f a) (a.x *ℤ a.x +ℤ a.y *ℤ a.y) (along f b) ha.some (alongs f a b e) (greater_out _ _ da) (greater_out _ _ db)

    by_side : (o : Ordering) → int_cmp (turn f a) (pos 0) ≡ o → int_cmp (turn f b) (pos 0) ≡ o → quarter o (int_cmp (along f a) (pos 0)) ≡ quarter o (int_cmp (along f b) (pos 0)) → pos 0 <ℤ along a b
    by_side Less ta tb q = same_signs_below (along a b) (turn f a) (a.x *ℤ a.x +ℤ a.y *ℤ a.y) (turn f b) ha.some (turns f a b e) (less_out _ _ ta) (less_out _ _ tb)
    by_side Equal ta tb q = by_along ta tb _ _ refl refl q
    by_side Greater ta tb q = same_signs (along a b) (turn f a) (a.x *ℤ a.x +ℤ a.y *ℤ a.y) (turn f b) ha.some (turns f a b e) (greater_out _ _ ta) (greater_out _ _ tb)

  there : turn_cmp f a b ≡ Equal → IsOneDirection a b
  there h =
      let t = then_equal (nat_cmp (place f a) (place f b)) (by_turn a b) h in
      let q : place f a ≡ place f b = ranked (place f a) (place f b) Equal (sym t.0) in
      let o = same_side (int_cmp (turn f a) (pos 0)) (int_cmp (along f a) (pos 0)) (int_cmp (turn f b) (pos 0)) (int_cmp (along f b) (pos 0)) q in
      let e : turn a b ≡ pos 0 = equal_out (turn a b) (pos 0) t.1 in
      record {
        straight = e;
        forward = by_side e (int_cmp (turn f a) (pos 0)) refl (sym o) (q ∙ ap (λ p. quarter p (int_cmp (along f b) (pos 0))) (sym o));
      }

  back : IsOneDirection a b → turn_cmp f a b ≡ Equal
  back h =
      let ta = in_proportion (along a b) (turn f a) (a.x *ℤ a.x +ℤ a.y *ℤ a.y) (turn f b) h.forward ha.some (turns f a b h.straight) in
      let da = in_proportion (along a b) (along f a) (a.x *ℤ a.x +ℤ a.y *ℤ a.y) (along f b) h.forward ha.some (alongs f a b h.straight) in
      let q : place f a ≡ place f b = ap₂ quarter ta da in
      ap₂ ordering_then (ap (λ n. nat_cmp n (place f b)) q ∙ tied_itself nat_cmp_total (place f b)) (equal_in (turn a b) (pos 0) h.straight)

  pub one_direction : (turn_cmp f a b ≡ Equal) ↔ IsOneDirection a b
  one_direction = (there, back)

-- ---- the first direction
at_first : (f a : Direction) → IsOneDirection f a → place f a ≡ 0
at_first f a h = ap₂ quarter (equal_in (turn f a) (pos 0) h.straight) (greater_in (along f a) (pos 0) h.forward)

only_first : (f b : Direction) (o d : Ordering) → int_cmp (turn f b) (pos 0) ≡ o → int_cmp (along f b) (pos 0) ≡ d → (IsOneDirection f b → ⊥) → nat_cmp 0 (quarter o d) ≡ Less
only_first f b Less d e g h = refl
only_first f b Greater d e g h = refl
only_first f b Equal Less e g h = refl
only_first f b Equal Equal e g h = refl
only_first f b Equal Greater e g h = absurd (h (record { straight = equal_out _ _ e; forward = greater_out _ _ g }))

pub first_before : (f a b : Direction) → IsOneDirection f a → (IsOneDirection f b → ⊥) → turn_cmp f a b ≡ Less
first_before f a b h n = ap (λ o. ordering_then o (by_turn a b)) (ap (λ k. nat_cmp k (place f b)) (at_first f a h) ∙ only_first f b _ _ refl refl n)
