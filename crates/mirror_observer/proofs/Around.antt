-- Who follows whom, as functions of names, when some darts are linked anew: the dart that follows still knows the one before.
use Rattle.std.proofs.Common.{◌≡◌, ◌≢◌, ◌⊎◌, inl, inr, ◌==◌, true, cond, refl, sym, ap, subst, ◌∙◌}
use Rattle.slab_laws.specs.declared.names.DartId.{DartId}
use Rattle.arr_notes.proofs.Names.{cases_dart}
use Rattle.arr_notes.proofs.Reading.{dart_number}
use Rattle.integers.proofs.Tests.{other_number, same_number}

-- a function with another value at one name
abbrev pub to : DartId → DartId → (DartId → DartId) → DartId → DartId
to a b g z = cond (z.0 == a.0) b (g z)

-- a function with y in place of the value x
abbrev pub via : DartId → DartId → (DartId → DartId) → DartId → DartId
via x y g z = cond ((g z).0 == x.0) y (g z)

pub to_hit : (a b : DartId) (g : DartId → DartId) (z : DartId) → z ≡ a → to a b g z ≡ b
to_hit a b g z q = ap (λ k. cond k b (g z)) (ap (λ x. x.0 == a.0) q ∙ same_number a.0)

pub to_miss : (a b : DartId) (g : DartId → DartId) (z : DartId) → z ≢ a → to a b g z ≡ g z
to_miss a b g z ne = ap (λ k. cond k b (g z)) (other_number z.0 a.0 (dart_number z a ne))

pub via_hit : (x y : DartId) (g : DartId → DartId) (z : DartId) → g z ≡ x → via x y g z ≡ y
via_hit x y g z q = ap (λ k. cond k y (g z)) (ap (λ w. w.0 == x.0) q ∙ same_number x.0)

pub via_miss : (x y : DartId) (g : DartId → DartId) (z : DartId) → g z ≢ x → via x y g z ≡ g z
via_miss x y g z ne = ap (λ k. cond k y (g z)) (other_number (g z).0 x.0 (dart_number (g z) x ne))

-- one end of a new edge: x is the dart before the one that goes out, y the dart after the one that comes back
abbrev pub IsEnd : (DartId → Type 0) → (DartId → DartId) → DartId → DartId → DartId → DartId → Type 0
IsEnd Has n out again x y = ((x ≡ again) × (y ≡ out)) ⊎ (Has x × (y ≡ n x))

module _ (Has : DartId → Type 0) (n p : DartId → DartId) (back : (z : DartId) → Has z → p (n z) ≡ z) where
  pub once : (a b : DartId) → Has a → Has b → n a ≡ n b → a ≡ b
  once a b ha hb q = sym (back a ha) ∙ ap p q ∙ back b hb

  -- an edge of d and m goes
  pub around_unlinked : (d m z : DartId) → Has d → Has m → Has z → d ≢ m → n m ≢ m → z ≢ d → z ≢ m →
      to (n d) (p m) (to (n m) (p d) p) (via m (n d) (via d (n m) n) z) ≡ z
  around_unlinked d m z hd hm hz dm mm zd zm =
      let q : DartId → DartId = to (n d) (p m) (to (n m) (p d) p) in
      elim (cases_dart (n z) d) [
        | inl e ↦
            let a : via d (n m) n z ≡ n m = via_hit d (n m) n z e in
            ap q (via_miss m (n d) (via d (n m) n) z (λ s. mm (sym a ∙ s)) ∙ a)
            ∙ to_miss (n d) (p m) (to (n m) (p d) p) (n m) (λ s. dm (sym (once m d hm hd s)))
            ∙ to_hit (n m) (p d) p (n m) refl
            ∙ ap p (sym e) ∙ back z hz
        | inr ne ↦
            let a : via d (n m) n z ≡ n z = via_miss d (n m) n z ne in
            elim (cases_dart (n z) m) [
              | inl e ↦
                  ap q (via_hit m (n d) (via d (n m) n) z (a ∙ e))
                  ∙ to_hit (n d) (p m) (to (n m) (p d) p) (n d) refl
                  ∙ ap p (sym e) ∙ back z hz
              | inr nm ↦
                  ap q (via_miss m (n d) (via d (n m) n) z (λ s. nm (sym a ∙ s)) ∙ a)
                  ∙ to_miss (n d) (p m) (to (n m) (p d) p) (n z) (λ s. zd (once z d hz hd s))
                  ∙ to_miss (n m) (p d) p (n z) (λ s. zm (once z m hz hm s))
                  ∙ back z hz
            ]
      ]

  -- the edge of d and its twin t is split: k goes on from d, and m comes back before t
  module _ (d t k m : DartId) (hd : Has d) (ht : Has t) (closed : (z : DartId) → Has z → Has (n z)) (nk : ¬ Has k) (nm : ¬ Has m) (km : k ≢ m) where
    not_k : (z : DartId) → Has z → z ≢ k
    not_k z h e = nk (subst (λ w. Has w) e h)

    not_m : (z : DartId) → Has z → z ≢ m
    not_m z h e = nm (subst (λ w. Has w) e h)

    abbrev n1 : DartId → DartId
    n1 = via t m n

    abbrev n2 : DartId → DartId
    n2 = to k (cond ((n d).0 == t.0) m (n d)) n1

    abbrev n3 : DartId → DartId
    n3 = to m t n2

    abbrev n4 : DartId → DartId
    n4 = to d k n3

    abbrev p1 : DartId → DartId
    p1 = to k d p

    abbrev p2 : DartId → DartId
    p2 = to m (cond ((n d).0 == t.0) k (p t)) p1

    abbrev p3 : DartId → DartId
    p3 = to (n d) k p2

    abbrev p4 : DartId → DartId
    p4 = to t m p3

    split_first : (z : DartId) → z ≡ d → p4 (n4 z) ≡ z
    split_first z q =
        ap p4 (to_hit d k n3 z q)
        ∙ to_miss t m p3 k (λ s. not_k t ht (sym s))
        ∙ to_miss (n d) k p2 k (λ s. not_k (n d) (closed d hd) (sym s))
        ∙ to_miss m (cond ((n d).0 == t.0) k (p t)) p1 k km
        ∙ to_hit k d p k refl ∙ sym q

    split_on : (n d ≡ t) ⊎ (n d ≢ t) → p4 (cond ((n d).0 == t.0) m (n d)) ≡ k
    split_on (inl e) =
        let b : ((n d).0 == t.0) ≡ true = ap (λ w. w.0 == t.0) e ∙ same_number t.0 in
        ap (λ c. p4 (cond c m (n d))) b
        ∙ to_miss t m p3 m (λ s. not_m t ht (sym s))
        ∙ to_miss (n d) k p2 m (λ s. not_m (n d) (closed d hd) (sym s))
        ∙ to_hit m (cond ((n d).0 == t.0) k (p t)) p1 m refl
        ∙ ap (λ c. cond c k (p t)) b
    split_on (inr ne) =
        ap (λ c. p4 (cond c m (n d))) (other_number (n d).0 t.0 (dart_number (n d) t ne))
        ∙ to_miss t m p3 (n d) ne
        ∙ to_hit (n d) k p2 (n d) refl

    split_second : (z : DartId) → z ≡ k → p4 (n4 z) ≡ z
    split_second z q =
        ap p4 (to_miss d k n3 z (λ s. not_k d hd (sym s ∙ q)) ∙ to_miss m t n2 z (λ s. km (sym q ∙ s)) ∙ to_hit k (cond ((n d).0 == t.0) m (n d)) n1 z q)
        ∙ split_on (cases_dart (n d) t) ∙ sym q

    split_back : (z : DartId) → z ≡ m → p4 (n4 z) ≡ z
    split_back z q =
        ap p4 (to_miss d k n3 z (λ s. not_m d hd (sym s ∙ q)) ∙ to_hit m t n2 z q)
        ∙ to_hit t m p3 t refl ∙ sym q

    split_other : (z : DartId) → Has z → z ≢ d → p4 (n4 z) ≡ z
    split_other z hz zd =
        let a : n4 z ≡ n1 z = to_miss d k n3 z zd ∙ to_miss m t n2 z (not_m z hz) ∙ to_miss k (cond ((n d).0 == t.0) m (n d)) n1 z (not_k z hz) in
        elim (cases_dart (n z) t) [
          | inl e ↦
              ap p4 (a ∙ via_hit t m n z e)
              ∙ to_miss t m p3 m (λ s. not_m t ht (sym s))
              ∙ to_miss (n d) k p2 m (λ s. not_m (n d) (closed d hd) (sym s))
              ∙ to_hit m (cond ((n d).0 == t.0) k (p t)) p1 m refl
              ∙ ap (λ c. cond c k (p t)) (other_number (n d).0 t.0 (dart_number (n d) t (λ s. zd (once z d hz hd (e ∙ sym s)))))
              ∙ ap p (sym e) ∙ back z hz
          | inr ne ↦
              ap p4 (a ∙ via_miss t m n z ne)
              ∙ to_miss t m p3 (n z) ne
              ∙ to_miss (n d) k p2 (n z) (λ s. zd (once z d hz hd s))
              ∙ to_miss m (cond ((n d).0 == t.0) k (p t)) p1 (n z) (not_m (n z) (closed z hz))
              ∙ to_miss k d p (n z) (not_k (n z) (closed z hz))
              ∙ back z hz
        ]

    pub around_parted : (z : DartId) → (z ≡ k) ⊎ ((z ≡ m) ⊎ Has z) → p4 (n4 z) ≡ z
    around_parted z (inl q) = split_second z q
    around_parted z (inr (inl q)) = split_back z q
    around_parted z (inr (inr h)) = elim (cases_dart z d) [ inl q ↦ split_first z q | inr ne ↦ split_other z h ne ]

  -- d is followed by k and the twin m of k by the twin t of d; k and m go
  module _ (d t k m : DartId) (hd : Has d) (hk : Has k) (hm : Has m) (goes : n d ≡ k) (comes : n m ≡ t) (km : k ≢ m) where
    abbrev after_k : DartId
    after_k = cond ((n k).0 == m.0) t (n k)

    abbrev before_t : DartId
    before_t = cond ((n k).0 == m.0) d (p m)

    abbrev f1 : DartId → DartId
    f1 = via m t n

    abbrev f2 : DartId → DartId
    f2 = to d after_k f1

    abbrev q1 : DartId → DartId
    q1 = to (n k) d p

    abbrev q2 : DartId → DartId
    q2 = to t before_t q1

    merge_on : (n k ≡ m) ⊎ (n k ≢ m) → q2 after_k ≡ d
    merge_on (inl e) =
        let b : ((n k).0 == m.0) ≡ true = ap (λ w. w.0 == m.0) e ∙ same_number m.0 in
        ap (λ c. q2 (cond c t (n k))) b ∙ to_hit t before_t q1 t refl ∙ ap (λ c. cond c d (p m)) b
    merge_on (inr ne) =
        ap (λ c. q2 (cond c t (n k))) (other_number (n k).0 m.0 (dart_number (n k) m ne))
        ∙ to_miss t before_t q1 (n k) (λ s. km (once k m hk hm (s ∙ sym comes)))
        ∙ to_hit (n k) d p (n k) refl

    pub around_merged : (z : DartId) → Has z → z ≢ k → z ≢ m → q2 (f2 z) ≡ z
    around_merged z hz zk zm = elim (cases_dart z d) [
      | inl q ↦ ap q2 (to_hit d after_k f1 z q) ∙ merge_on (cases_dart (n k) m) ∙ sym q
      | inr zd ↦ elim (cases_dart (n z) m) [
        | inl e ↦
            ap q2 (to_miss d after_k f1 z zd ∙ via_hit m t n z e)
            ∙ to_hit t before_t q1 t refl
            ∙ ap (λ c. cond c d (p m)) (other_number (n k).0 m.0 (dart_number (n k) m (λ s. zk (once z k hz hk (e ∙ sym s)))))
            ∙ ap p (sym e) ∙ back z hz
        | inr ne ↦
            ap q2 (to_miss d after_k f1 z zd ∙ via_miss m t n z ne)
            ∙ to_miss t before_t q1 (n z) (λ s. zm (once z m hz hm (s ∙ sym comes)))
            ∙ to_miss (n k) d p (n z) (λ s. zk (once z k hz hk s))
            ∙ back z hz
      ]
    ]

  -- an edge of d and m comes
  module _ (d m x y u w : DartId) (dm : d ≢ m) (nd : ¬ Has d) (nm : ¬ Has m) (closed : (z : DartId) → Has z → Has (n z)) (start : IsEnd Has n d m x y) (finish : IsEnd Has n m d u w) (apart : Has x → Has u → x ≢ u) where
    not_d : (z : DartId) → Has z → z ≢ d
    not_d z h e = nd (subst (λ v. Has v) e h)

    not_back : (z : DartId) → Has z → z ≢ m
    not_back z h e = nm (subst (λ v. Has v) e h)

    y_not_m : IsEnd Has n d m x y → y ≢ m
    y_not_m (inl e) s = dm (sym e.1 ∙ s)
    y_not_m (inr e) s = not_back (n x) (closed x e.0) (sym e.1 ∙ s)

    w_not_d : IsEnd Has n m d u w → w ≢ d
    w_not_d (inl e) s = dm (sym s ∙ e.1)
    w_not_d (inr e) s = not_d (n u) (closed u e.0) (sym e.1 ∙ s)

    y_not_w : IsEnd Has n d m x y → IsEnd Has n m d u w → y ≢ w
    y_not_w (inl a) (inl b) s = dm (sym a.1 ∙ s ∙ b.1)
    y_not_w (inl a) (inr b) s = not_d (n u) (closed u b.0) (sym b.1 ∙ sym s ∙ a.1)
    y_not_w (inr a) (inl b) s = not_back (n x) (closed x a.0) (sym a.1 ∙ s ∙ b.1)
    y_not_w (inr a) (inr b) s = apart a.0 b.0 (once x u a.0 b.0 (sym a.1 ∙ s ∙ b.1))

    past_w : IsEnd Has n m d u w → (z : DartId) → Has z → z ≢ u → n z ≢ w
    past_w (inl e) z h ne s = not_back (n z) (closed z h) (s ∙ e.1)
    past_w (inr e) z h ne s = ne (once z u h e.0 (s ∙ e.1))

    past_y : IsEnd Has n d m x y → (z : DartId) → Has z → z ≢ x → n z ≢ y
    past_y (inl e) z h ne s = not_d (n z) (closed z h) (s ∙ e.1)
    past_y (inr e) z h ne s = ne (once z x h e.0 (s ∙ e.1))

    abbrev g1 : DartId → DartId
    g1 = to d w n

    abbrev g2 : DartId → DartId
    g2 = to m y g1

    abbrev g3 : DartId → DartId
    g3 = to x d g2

    abbrev g4 : DartId → DartId
    g4 = to u m g3

    abbrev r1 : DartId → DartId
    r1 = to d x p

    abbrev r2 : DartId → DartId
    r2 = to m u r1

    abbrev r3 : DartId → DartId
    r3 = to y m r2

    abbrev r4 : DartId → DartId
    r4 = to w d r3

    known_m : IsEnd Has n m d u w → r4 m ≡ u
    known_m (inl e) = to_hit w d r3 m (sym e.1) ∙ sym e.0
    known_m (inr e) = to_miss w d r3 m (λ s. not_back (n u) (closed u e.0) (sym e.1 ∙ sym s)) ∙ to_miss y m r2 m (λ s. y_not_m start (sym s)) ∙ to_hit m u r1 m refl

    known_d : IsEnd Has n d m x y → r4 d ≡ x
    known_d (inl e) = to_miss w d r3 d (λ s. w_not_d finish (sym s)) ∙ to_hit y m r2 d (sym e.1) ∙ sym e.0
    known_d (inr e) = to_miss w d r3 d (λ s. w_not_d finish (sym s)) ∙ to_miss y m r2 d (λ s. not_d (n x) (closed x e.0) (sym e.1 ∙ sym s)) ∙ to_miss m u r1 d dm ∙ to_hit d x p d refl

    pub around_linked : (z : DartId) → (z ≡ d) ⊎ ((z ≡ m) ⊎ Has z) → r4 (g4 z) ≡ z
    around_linked z s = elim (cases_dart z u) [
      | inl q ↦ ap r4 (to_hit u m g3 z q) ∙ known_m finish ∙ sym q
      | inr zu ↦ elim (cases_dart z x) [
        | inl q ↦ ap r4 (to_miss u m g3 z zu ∙ to_hit x d g2 z q) ∙ known_d start ∙ sym q
        | inr zx ↦ elim (cases_dart z m) [
          | inl q ↦
              ap r4 (to_miss u m g3 z zu ∙ to_miss x d g2 z zx ∙ to_hit m y g1 z q)
              ∙ to_miss w d r3 y (y_not_w start finish) ∙ to_hit y m r2 y refl ∙ sym q
          | inr zm ↦ elim s [
            | inl q ↦
                ap r4 (to_miss u m g3 z zu ∙ to_miss x d g2 z zx ∙ to_miss m y g1 z zm ∙ to_hit d w n z q)
                ∙ to_hit w d r3 w refl ∙ sym q
            | inr r ↦ elim r [
              | inl q ↦ absurd (zm q)
              | inr h ↦
                  ap r4 (to_miss u m g3 z zu ∙ to_miss x d g2 z zx ∙ to_miss m y g1 z zm ∙ to_miss d w n z (not_d z h))
                  ∙ to_miss w d r3 (n z) (past_w finish z h zu) ∙ to_miss y m r2 (n z) (past_y start z h zx)
                  ∙ to_miss m u r1 (n z) (not_back (n z) (closed z h)) ∙ to_miss d x p (n z) (not_d (n z) (closed z h))
                  ∙ back z h
            ]
          ]
        ]
      ]
    ]
