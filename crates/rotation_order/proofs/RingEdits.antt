-- What the edits of one ring keep.
use Rattle.std.proofs.Common.{◌≡◌, ◌≢◌, ◌⊎◌, inl, inr, ℕ, Bool, true, cond, not, ◌&&◌, ◌||◌, refl, sym, ap, ◌∙◌, subst}
use Rattle.std.proofs.lemmas.Bool.{cases_eq}
use Rattle.rotation_order.specs.RingOrder.{IsStrictOn, IsRoundOn, sooner_by}
use Rattle.rotation_order.specs.Ring.{Turns, Out, IsApart, IsAfter, IsRing, IsUnchangedRing, IsLone, IsTwo, IsInsert, IsRemove, IsRename}
use Rattle.rotation_order.proofs.RingOrders.{not_self, round_by}
use Rattle.rotation_order.proofs.Rings.{one_before, alone}

pub apart_of : {W : Type 0} (lt : W → W → Bool) (P : W → Type 0) (g : Turns W) (v : ℕ) → IsRing lt P g v → IsApart P g v
apart_of lt P g v r = record { inside = r.inside; differ = r.differ }

module _ {W : Type 0} (lt : W → W → Bool) (g h : Turns W) (v : ℕ) where
  -- three ways through equations
  met : (a a' b b' c c' : W) → a' ≡ a → b' ≡ b → c' ≡ c → sooner_by lt a b c ≡ true → sooner_by lt a' b' c' ≡ true
  met a a' b b' c c' p q r s = (λ i. sooner_by lt (p i) (q i) (r i)) ∙ s

  pub kept : (P Q : W → Type 0) → IsUnchangedRing Q g h v → IsRing lt P g v → IsRing lt Q h v
  kept P Q k r = record {
    inside = k.inside;
    follows = λ d o.
        let f = r.follows d (k.from d o) in
        rw (k.after d (k.from d o)) (record {
          out = k.into _ f.out;
          first = λ c oc ne. met _ _ _ _ _ _ (k.way d (k.from d o)) (k.way _ f.out) (k.way c (k.from c oc)) (f.first c (k.from c oc) ne);
        });
    differ = λ c d oc od ne q. r.differ c d (k.from c oc) (k.from d od) ne (sym (k.way c (k.from c oc)) ∙ q ∙ k.way d (k.from d od));
  }

  pub lone : (Q : W → Type 0) (x : ℕ) → IsLone Q h v x → IsRing lt Q h v
  lone Q x l = record {
    inside = λ c oc. subst (λ z. Q (h.way z)) (sym (l.from c oc)) l.inside;
    follows = λ d o. subst (λ z. IsAfter (sooner_by lt) h v z (h.after z)) (sym (l.from d o)) (subst (λ z. IsAfter (sooner_by lt) h v x z) (sym l.after_x) (record { out = l.x_out; first = λ c oc ne. absurd (ne (l.from c oc)) }));
    differ = λ c d oc od ne q. ne (l.from c oc ∙ sym (l.from d od));
  }

  -- two darts
  module _ (Q : W → Type 0) (strict : IsStrictOn lt Q) (x y : ℕ) (t : IsTwo Q h v x y) where
    both : IsRoundOn (sooner_by lt) Q
    both = round_by lt Q strict

    after_x : IsAfter (sooner_by lt) h v x y
    after_x = record {
      out = t.y_out;
      first = λ c oc ne. elim (t.from c oc) [
        | inl s ↦ met _ _ _ _ _ _ refl refl (ap h.way s) (both.last (h.way x) (h.way y) t.x_inside t.y_inside (λ e. t.apart (sym e)))
        | inr s ↦ absurd (ne s)
      ];
    }

    after_y : IsAfter (sooner_by lt) h v y x
    after_y = record {
      out = t.x_out;
      first = λ c oc ne. elim (t.from c oc) [
        | inl s ↦ absurd (ne s)
        | inr s ↦ met _ _ _ _ _ _ refl refl (ap h.way s) (both.last (h.way y) (h.way x) t.y_inside t.x_inside t.apart)
      ];
    }

    pub two : IsRing lt Q h v
    two = record {
      inside = λ c oc. elim (t.from c oc) [
        | inl q ↦ subst (λ z. Q (h.way z)) (sym q) t.x_inside
        | inr q ↦ subst (λ z. Q (h.way z)) (sym q) t.y_inside
      ];
      follows = λ d o. elim (t.from d o) [
        | inl q ↦ subst (λ z. IsAfter (sooner_by lt) h v z (h.after z)) (sym q) (subst (λ z. IsAfter (sooner_by lt) h v x z) (sym t.after_x) after_x)
        | inr q ↦ subst (λ z. IsAfter (sooner_by lt) h v z (h.after z)) (sym q) (subst (λ z. IsAfter (sooner_by lt) h v y z) (sym t.after_y) after_y)
      ];
      differ = λ c d oc od ne q. elim (t.from c oc) [
        | inl s ↦ elim (t.from d od) [ inl r ↦ ne (s ∙ sym r) | inr r ↦ t.apart (ap h.way (sym s) ∙ q ∙ ap h.way r) ]
        | inr s ↦ elim (t.from d od) [ inl r ↦ t.apart (ap h.way (sym r) ∙ sym q ∙ ap h.way s) | inr r ↦ ne (s ∙ sym r) ]
      ];
    }

  -- ---- one more dart
  module _ (P Q : W → Type 0) (strict : IsStrictOn lt Q) (x a : ℕ) (i : IsInsert lt Q g h v x a) (r : IsRing lt P g v) where
    round : IsRoundOn (sooner_by lt) Q
    round = round_by lt Q strict

    f : IsAfter (sooner_by lt) g v a (g.after a)
    f = r.follows a i.a_out

    -- the old ways are ways afterwards
    old_way : (c : ℕ) → Out g v c → Q (g.way c)
    old_way c oc = subst Q (i.way c oc) (i.inside c (i.into c oc))

    A : Q (g.way a)
    A = old_way a i.a_out

    F : Q (g.way (g.after a))
    F = old_way (g.after a) f.out

    X : Q (h.way x)
    X = i.inside x i.x_out

    -- the new way is that of no dart
    new_way : (c : ℕ) → Out g v c → h.way x ≢ g.way c
    new_way c oc q =
        elim (cases_eq c (g.after a)) [
          | inl s ↦
              let e : h.way x ≡ g.way (g.after a) = q ∙ ap g.way s in
              let p : sooner_by lt (g.way a) (g.way (g.after a)) (g.way (g.after a)) ≡ true = subst (λ z. sooner_by lt (g.way a) z (g.way (g.after a)) ≡ true) e i.place in
              round.apart (g.way a) (g.way (g.after a)) (g.way (g.after a)) A F F p p
          | inr ne ↦
              let p = f.first c oc ne in
              let m : sooner_by lt (g.way a) (g.way c) (g.way (g.after a)) ≡ true = subst (λ z. sooner_by lt (g.way a) z (g.way (g.after a)) ≡ true) q i.place in
              round.apart (g.way a) (g.way (g.after a)) (g.way c) A F (old_way c oc) p m
        ]

    old : (c : ℕ) → Out h v c → c ≢ x → Out g v c
    old c oc ne = elim (i.from c oc) [ inl q ↦ absurd (ne q) | inr o ↦ o ]

    -- clockwise from a, x is met before all others
    soonest : (c : ℕ) → Out g v c → sooner_by lt (g.way a) (h.way x) (g.way c) ≡ true
    soonest c oc =
        elim (cases_eq c (g.after a)) [
          | inl s ↦ subst (λ z. sooner_by lt (g.way a) (h.way x) (g.way z) ≡ true) (sym s) i.place
          | inr ne ↦ round.through (g.way a) (h.way x) (g.way (g.after a)) (g.way c) A X F (old_way c oc) i.place (f.first c oc ne)
        ]

    after_a : IsAfter (sooner_by lt) h v a x
    after_a = record {
      out = i.x_out;
      first = λ c oc ne. met _ _ _ _ _ _ (i.way a i.a_out) refl (i.way c (old c oc ne)) (soonest c (old c oc ne));
    }

    after_new : IsAfter (sooner_by lt) h v x (g.after a)
    after_new = record {
      out = i.into _ f.out;
      first = λ c oc ne. elim (i.from c oc) [
        | inl q ↦ met _ _ _ _ _ _ refl (i.way _ f.out) (ap h.way q) (round.last (h.way x) (g.way (g.after a)) X F (λ p. new_way _ f.out (sym p)))
        | inr o ↦ met _ _ _ _ _ _ refl (i.way _ f.out) (i.way c o) (round.onward (g.way a) (h.way x) (g.way (g.after a)) (g.way c) A X F (old_way c o) i.place (f.first c o ne))
      ];
    }

    -- x is between no other dart and the one after it
    beyond : (d : ℕ) → Out g v d → d ≢ a → sooner_by lt (g.way d) (g.way (g.after d)) (h.way x) ≡ true
    beyond d od ne =
        let k = r.follows d od in
        let D = old_way d od in
        let K = old_way (g.after d) k.out in
        elim (round.either (g.way d) (g.way (g.after d)) (h.way x) D K X (λ q. new_way _ k.out (sym q))) [
          | inl y ↦ y
          | inr y ↦
              let m : sooner_by lt (g.way d) (h.way x) (g.way a) ≡ true = elim (cases_eq a (g.after d)) [
                | inl q ↦ subst (λ z. sooner_by lt (g.way d) (h.way x) (g.way z) ≡ true) (sym q) y
                | inr na ↦ round.through (g.way d) (h.way x) (g.way (g.after d)) (g.way a) D X K A y (k.first a i.a_out na)
              ] in
              let n = round.turned (g.way d) (h.way x) (g.way a) D X A m (λ q. r.differ a d i.a_out od (λ s. ne (sym s)) q) in
              let o = round.turned (h.way x) (g.way a) (g.way d) X A D n (λ q. new_way d od (sym q)) in
              absurd (round.apart (g.way a) (h.way x) (g.way d) A X D (soonest d od) o)
        ]

    after_d : (d : ℕ) → Out g v d → d ≢ a → IsAfter (sooner_by lt) h v d (g.after d)
    after_d d od ne =
        let k = r.follows d od in
        record {
          out = i.into _ k.out;
          first = λ c oc nc. elim (i.from c oc) [
            | inl q ↦ met _ _ _ _ _ _ (i.way d od) (i.way _ k.out) (ap h.way q) (beyond d od ne)
            | inr o ↦ met _ _ _ _ _ _ (i.way d od) (i.way _ k.out) (i.way c o) (k.first c o nc)
          ];
        }

    pub inserted : IsRing lt Q h v
    inserted = record {
      inside = i.inside;
      follows = λ d od. elim (i.from d od) [
        | inl q ↦ subst (λ z. IsAfter (sooner_by lt) h v z (h.after z)) (sym q) (subst (λ z. IsAfter (sooner_by lt) h v x z) (sym i.after_x) after_new)
        | inr o ↦ elim (cases_eq d a) [
          | inl q ↦ subst (λ z. IsAfter (sooner_by lt) h v z (h.after z)) (sym q) (subst (λ z. IsAfter (sooner_by lt) h v a z) (sym i.after_a) after_a)
          | inr ne ↦ subst (λ z. IsAfter (sooner_by lt) h v d z) (sym (i.after d o ne)) (after_d d o ne)
        ]
      ];
      differ = λ c d oc od ne q. elim (i.from c oc) [
        | inl s ↦ elim (i.from d od) [ inl t ↦ ne (s ∙ sym t) | inr o ↦ new_way d o (ap h.way (sym s) ∙ q ∙ i.way d o) ]
        | inr o ↦ elim (i.from d od) [ inl t ↦ new_way c o (ap h.way (sym t) ∙ sym q ∙ i.way c o) | inr p ↦ r.differ c d o p ne (sym (i.way c o) ∙ q ∙ i.way d p) ]
      ];
    }

  -- ---- one dart fewer
  module _ (P Q : W → Type 0) (strict : IsStrictOn lt P) (x a : ℕ) (i : IsRemove Q g h v x a) (r : IsRing lt P g v) where
    before : IsRoundOn (sooner_by lt) P
    before = round_by lt P strict

    apart : IsApart P g v
    apart = apart_of lt P g v r

    fa : IsAfter (sooner_by lt) g v a x
    fa = subst (λ z. IsAfter (sooner_by lt) g v a z) i.before (r.follows a i.a_out)

    fx : IsAfter (sooner_by lt) g v x (g.after x)
    fx = r.follows x i.x_out

    -- x is not alone
    moves : g.after x ≢ x
    moves q = i.other (alone (sooner_by lt) P before g v apart x a i.a_out (subst (λ z. IsAfter (sooner_by lt) g v x z) q fx))

    -- only a is followed by x
    not_before : (d : ℕ) → Out g v d → d ≢ a → g.after d ≢ x
    not_before d od ne q = ne (one_before (sooner_by lt) P before g v apart d a x od i.a_out (subst (λ z. IsAfter (sooner_by lt) g v d z) q (r.follows d od)) fa)

    joined : IsAfter (sooner_by lt) h v a (g.after x)
    joined = record {
      out = i.into _ fx.out moves;
      first = λ c oc ne.
          let o = i.from c oc in
          met _ _ _ _ _ _ (i.way a i.a_out i.other) (i.way _ fx.out moves) (i.way c o.0 o.1)
          (before.inward (g.way a) (g.way x) (g.way (g.after x)) (g.way c) (r.inside a i.a_out) (r.inside x i.x_out) (r.inside _ fx.out) (r.inside c o.0) (fa.first c o.0 o.1) (fx.first c o.0 ne));
    }

    same_d : (d : ℕ) → Out g v d → d ≢ x → d ≢ a → IsAfter (sooner_by lt) h v d (g.after d)
    same_d d od nx ne =
        let k = r.follows d od in
        let n = not_before d od ne in
        record {
          out = i.into _ k.out n;
          first = λ c oc nc. let o = i.from c oc in met _ _ _ _ _ _ (i.way d od nx) (i.way _ k.out n) (i.way c o.0 o.1) (k.first c o.0 nc);
        }

    pub removed : IsRing lt Q h v
    removed = record {
      inside = i.inside;
      follows = λ d od. let o = i.from d od in elim (cases_eq d a) [
        | inl q ↦ subst (λ z. IsAfter (sooner_by lt) h v z (h.after z)) (sym q) (subst (λ z. IsAfter (sooner_by lt) h v a z) (sym i.after_a) joined)
        | inr ne ↦ subst (λ z. IsAfter (sooner_by lt) h v d z) (sym (i.after d o.0 o.1 ne)) (same_d d o.0 o.1 ne)
      ];
      differ = λ c d oc od ne q. let o = i.from c oc in let p = i.from d od in r.differ c d o.0 p.0 ne (sym (i.way c o.0 o.1) ∙ q ∙ i.way d p.0 p.1);
    }

  -- ---- one dart in another's place
  module _ (P Q : W → Type 0) (sp : IsStrictOn lt P) (sq : IsStrictOn lt Q) (x y : ℕ) (i : IsRename lt Q g h v x y) (r : IsRing lt P g v) where
    kx : IsAfter (sooner_by lt) g v x (g.after x)
    kx = r.follows x i.x_out

    -- c is the new name of k
    record Names (c k : ℕ) : Type 0 where
      out : Out h v c
      was : Out g v k
      one : ((c ≡ y) × (k ≡ x)) ⊎ ((c ≡ k) × (c ≢ x))

    new : Names y x
    new = record { out = i.y_out; was = i.x_out; one = inl (refl, refl) }

    same : (c : ℕ) → Out g v c → c ≢ x → Names c c
    same c o ne = record { out = i.into c o ne; was = o; one = inr (refl, ne) }

    named : (c : ℕ) → Out h v c → (k : ℕ) × Names c k
    named c oc = elim (i.from c oc) [ inl q ↦ (x, subst (λ z. Names z x) (sym q) new) | inr o ↦ (c, same c o.0 o.1) ]

    one_name : (c d k l : ℕ) → Names c k → Names d l → k ≡ l → c ≡ d
    one_name c d k l p q e = by p.one q.one
      where
        by : ((c ≡ y) × (k ≡ x)) ⊎ ((c ≡ k) × (c ≢ x)) → ((d ≡ y) × (l ≡ x)) ⊎ ((d ≡ l) × (d ≢ x)) → c ≡ d
        by (inl s) (inl t) = s.0 ∙ sym t.0
        by (inl s) (inr t) = absurd (t.1 (t.0 ∙ sym e ∙ s.1))
        by (inr s) (inl t) = absurd (s.1 (s.0 ∙ e ∙ t.1))
        by (inr s) (inr t) = s.0 ∙ e ∙ sym t.0

    -- y is not before itself, nor was x
    unmoved : lt (h.way y) (h.way y) ≡ lt (g.way x) (g.way x)
    unmoved = not_self lt Q sq (h.way y) (i.inside y i.y_out) ∙ sym (not_self lt P sp (g.way x) (r.inside x i.x_out))

    old_out : (c k : ℕ) → Names c k → c ≡ k → Out g v c
    old_out c k p q = subst (λ z. Out g v z) (sym q) p.was

    -- renamed darts compare as they did
    compared : (c d k l : ℕ) → Names c k → Names d l → lt (h.way c) (h.way d) ≡ lt (g.way k) (g.way l)
    compared c d k l p q = by p.one q.one
      where
        by : ((c ≡ y) × (k ≡ x)) ⊎ ((c ≡ k) × (c ≢ x)) → ((d ≡ y) × (l ≡ x)) ⊎ ((d ≡ l) × (d ≢ x)) → lt (h.way c) (h.way d) ≡ lt (g.way k) (g.way l)
        by (inl s) (inl t) = (λ j. lt (h.way (s.0 j)) (h.way (t.0 j))) ∙ unmoved ∙ sym (λ j. lt (g.way (s.1 j)) (g.way (t.1 j)))
        by (inl s) (inr t) =
            let o = old_out d l q t.0 in
            let w = i.way d o t.1 in
            (λ j. lt (h.way (s.0 j)) (w j)) ∙ i.same_left d o t.1 ∙ (λ j. lt (g.way ((sym s.1) j)) (g.way (t.0 j)))
        by (inr s) (inl t) =
            let o = old_out c k p s.0 in
            let w = i.way c o s.1 in
            (λ j. lt (w j) (h.way (t.0 j))) ∙ i.same_right c o s.1 ∙ (λ j. lt (g.way (s.0 j)) (g.way ((sym t.1) j)))
        by (inr s) (inr t) =
            let w = i.way c (old_out c k p s.0) s.1 in
            let u = i.way d (old_out d l q t.0) t.1 in
            (λ j. lt (w j) (u j)) ∙ (λ j. lt (g.way (s.0 j)) (g.way (t.0 j)))

    moved : (d k e l : ℕ) → Names d k → Names e l → IsAfter (sooner_by lt) g v k l → IsAfter (sooner_by lt) h v d e
    moved d k e l p q f = record {
      out = q.out;
      first = λ c oc ne.
          let m = named c oc in
          let de = compared d e k l p q in
          let dc = compared d c k m.0 p m.1 in
          let ec = compared e c l m.0 q m.1 in
          (λ j. cond (de j) (not (dc j) || ec j) (not (dc j) && ec j)) ∙ f.first m.0 m.1.was (λ s. ne (one_name c e m.0 l m.1 q s));
    }

    was_same : (c d k l : ℕ) → Names c k → Names d l → h.way c ≡ h.way d → g.way k ≡ g.way l
    was_same c d k l p q e =
        let D = not_self lt Q sq (h.way d) (i.inside d q.out) in
        sp.total (g.way k) (g.way l) (r.inside k p.was) (r.inside l q.was)
        (sym (compared c d k l p q) ∙ ap (λ z. lt z (h.way d)) e ∙ D)
        (sym (compared d c l k q p) ∙ ap (lt (h.way d)) e ∙ D)

    pub renamed : IsRing lt Q h v
    renamed = record {
      inside = i.inside;
      follows = λ d od. elim (i.from d od) [
        | inl q ↦ subst (λ z. IsAfter (sooner_by lt) h v z (h.after z)) (sym q) (elim (cases_eq (g.after x) x) [
          | inl s ↦ subst (λ z. IsAfter (sooner_by lt) h v y z) (sym (i.alone s)) (moved y x y x new new (subst (λ z. IsAfter (sooner_by lt) g v x z) s kx))
          | inr ns ↦ subst (λ z. IsAfter (sooner_by lt) h v y z) (sym (i.after_y ns)) (moved y x (g.after x) (g.after x) new (same _ kx.out ns) kx)
        ])
        | inr o ↦ elim (cases_eq (g.after d) x) [
          | inl s ↦ subst (λ z. IsAfter (sooner_by lt) h v d z) (sym (i.after_a d o.0 o.1 s)) (moved d d y x (same d o.0 o.1) new (subst (λ z. IsAfter (sooner_by lt) g v d z) s (r.follows d o.0)))
          | inr ns ↦ subst (λ z. IsAfter (sooner_by lt) h v d z) (sym (i.after d o.0 o.1 ns)) (moved d d (g.after d) (g.after d) (same d o.0 o.1) (same _ (r.follows d o.0).out ns) (r.follows d o.0))
        ]
      ];
      differ = λ c d oc od ne q. let m = named c oc in let n = named d od in
          r.differ m.0 n.0 m.1.was n.1.was (λ s. ne (one_name c d m.0 n.0 m.1 n.1 s)) (was_same c d m.0 n.0 m.1 n.1 q);
    }
