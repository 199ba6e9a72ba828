-- Going round a list by `after`, from an element on until it comes again.
use Rattle.std.proofs.Common.{◌≡◌, ℕ, zero, suc, ◌<◌, ◌≤◌, Bool, true, false, cond, List, [], ◌∷◌, ◌++◌, length, refl, sym, ap, subst, ◌∙◌, inl, inr, append_assoc, append-nil, length-append, arith}
use Rattle.std.specs.Prelude.{⊤}
use Rattle.std.proofs.lemmas.Bool.{false_from_ne_true}
use Rattle.slab_laws.specs.Darts.{Dart}
use Rattle.slab_laws.specs.Rotation.{twin, same_dart, after_in, after, next}
use Rattle.slab_faces.proofs.Member.{Member, append_cases, append_right}
use Rattle.slab_faces.proofs.NextLemmas.{darts_exact}
use Rattle.sound_views.specs.VertexRounds.{round}

-- ---- lists in which no element stands twice
module _ {X : Type 0} where
  -- each element differs from those after it
  abbrev pub Apart : List X → Type 0
  Apart [] = ⊤
  Apart (x ∷ xs) = ((y : X) → Member xs y → x ≡ y → ⊥) × Apart xs

  -- so an element differs from those before it too
  pub apart_before : (us vs : List X) (e : X) → Apart (us ++ (e ∷ vs)) → (u : X) → Member us u → u ≡ e → ⊥
  apart_before [] vs e a u m q = absurd m
  apart_before (x ∷ us) vs e a u (inl p) q = a.0 e (append_right us (e ∷ vs) e (inl refl)) (p ∙ q)
  apart_before (x ∷ us) vs e a u (inr m) q = apart_before us vs e a.1 u m q

  pub apart_after : (us vs : List X) (e : X) → Apart (us ++ (e ∷ vs)) → (v : X) → Member vs v → e ≡ v → ⊥
  apart_after [] vs e a v m q = a.0 v m q
  apart_after (x ∷ us) vs e a v m q = apart_after us vs e a.1 v m q

  -- what stands before an element, and what after it
  pub parted : (xs : List X) (x : X) → Member xs x → (us : List X) × (vs : List X) × (xs ≡ us ++ (x ∷ vs))
  parted [] x m = absurd m
  parted (y ∷ ys) x (inl e) = ([], ys, ap (λ z. z ∷ ys) e)
  parted (y ∷ ys) x (inr m) = let r = parted ys x m in (y ∷ r.0, r.1, ap (λ zs. y ∷ zs) r.2)

-- ---- the follower in a list
differs : (d x : Dart) → (x ≡ d → ⊥) → same_dart d x ≡ false
differs d x h = false_from_ne_true (same_dart d x) (λ k. h (sym (darts_exact.path d x k)))

-- an element that isn't e is passed over, unless it is the last
passed : (f e x : Dart) (zs : List Dart) (z : Dart) → Member zs z → (x ≡ e → ⊥) → after_in f e (x ∷ zs) ≡ after_in f e zs
unfolding after_in
passed f e x [] z m h = absurd m
passed f e x (y ∷ ys) z m h = ap (λ b. cond b y (after_in f e (y ∷ ys))) (differs e x h)

after_inner : (f e v : Dart) (us vs : List Dart) → Apart (us ++ (e ∷ v ∷ vs)) → after_in f e (us ++ (e ∷ v ∷ vs)) ≡ v
unfolding after_in
after_inner f e v [] vs a = ap (λ b. cond b v (after_in f e (v ∷ vs))) (darts_exact.itself e)
after_inner f e v (u ∷ us) vs a =
    let m : Member (us ++ (e ∷ v ∷ vs)) e = append_right us (e ∷ v ∷ vs) e (inl refl) in
    passed f e u (us ++ (e ∷ v ∷ vs)) e m (a.0 e m) ∙ after_inner f e v us vs a.1

after_end : (f e : Dart) (us : List Dart) → Apart (us ++ (e ∷ [])) → after_in f e (us ++ (e ∷ [])) ≡ f
unfolding after_in
after_end f e [] a = refl
after_end f e (u ∷ us) a =
    let m : Member (us ++ (e ∷ [])) e = append_right us (e ∷ []) e (inl refl) in
    passed f e u (us ++ (e ∷ [])) e m (a.0 e m) ∙ after_end f e us a.1

-- after one comes the next in the list
pub after_next : (e v : Dart) (us vs : List Dart) → Apart (us ++ (e ∷ v ∷ vs)) → after e (us ++ (e ∷ v ∷ vs)) ≡ v
unfolding after
after_next e v [] vs a = after_inner e e v [] vs a
after_next e v (u ∷ us) vs a = after_inner u e v (u ∷ us) vs a

-- and after the last the first
pub after_last : (h e : Dart) (hs us : List Dart) → h ∷ hs ≡ us ++ (e ∷ []) → Apart (us ++ (e ∷ [])) → after e (h ∷ hs) ≡ h
unfolding after
after_last h e hs us p a = ap (after_in h e) p ∙ after_end h e us a

-- ---- going on by twins and followers
-- one dart of a round
step : (ds : List Dart) (n : ℕ) (d e f : Dart) (b : Bool) → next ds (twin e) ≡ f → same_dart f d ≡ b → round ds (suc n) d e ≡ e ∷ elim b [ true ↦ [] | false ↦ round ds n d f ]
unfolding round
step ds n d e f b p q = ap (λ x. e ∷ elim (same_dart x d) [ true ↦ [] | false ↦ round ds n d x ]) p ∙ ap (λ c. e ∷ elim c [ true ↦ [] | false ↦ round ds n d f ]) q

module _ (ds : List Dart) where
  -- from e on one meets the darts of vs, and then t
  abbrev pub Leads : Dart → List Dart → Dart → Type 0
  Leads e [] t = next ds (twin e) ≡ t
  Leads e (v ∷ vs) t = (next ds (twin e) ≡ v) × Leads v vs t

  pub leads_joined : (e x t : Dart) (vs ws : List Dart) → Leads e vs x → Leads x ws t → Leads e (vs ++ (x ∷ ws)) t
  leads_joined e x t [] ws p q = (p, q)
  leads_joined e x t (v ∷ vs) ws p q = (p.0, leads_joined v x t vs ws p.1 q)

  -- a round is what one meets until its first dart comes again
  pub round_leads : (d e : Dart) (vs : List Dart) (n : ℕ) → length vs < n → Leads e vs d → ((v : Dart) → Member vs v → v ≡ d → ⊥) → round ds n d e ≡ e ∷ vs
  round_leads d e vs zero l p h = absurd (omega arith)
  round_leads d e [] (suc n) l p h = step ds n d e d true p (darts_exact.itself d)
  round_leads d e (v ∷ vs) (suc n) l p h =
      step ds n d e v false p.0 (differs v d (λ k. h v (inl refl) (sym k)))
      ∙ ap (λ zs. e ∷ zs) (round_leads d v vs n (omega arith) p.1 (λ w m. h w (inr m)))

  -- ---- where each dart of a list leads to the next in it
  module _ (r : List Dart) (a : Apart r) (follow : (e : Dart) → Member r e → next ds (twin e) ≡ after e r) where
    -- each dart but the last to the one after it
    to_next : (us vs : List Dart) (e v : Dart) → r ≡ us ++ (e ∷ v ∷ vs) → next ds (twin e) ≡ v
    to_next us vs e v p =
        follow e (subst (λ zs. Member zs e) (sym p) (append_right us (e ∷ v ∷ vs) e (inl refl)))
        ∙ ap (after e) p
        ∙ after_next e v us vs (subst Apart p a)

    -- up to a later dart
    leads_within : (us vs ws : List Dart) (e t : Dart) → r ≡ us ++ (e ∷ (vs ++ (t ∷ ws))) → Leads e vs t
    leads_within us [] ws e t p = to_next us ws e t p
    leads_within us (v ∷ vs) ws e t p = (to_next us (vs ++ (t ∷ ws)) e v p, leads_within (us ++ (e ∷ [])) vs ws v t (p ∙ sym (append_assoc us (e ∷ []) (v ∷ (vs ++ (t ∷ ws))))))

    -- over the end of the list to its head
    leads_over : (h : Dart) (hs us vs : List Dart) (e : Dart) → r ≡ h ∷ hs → r ≡ us ++ (e ∷ vs) → Leads e vs h
    leads_over h hs us [] e q p =
        follow e (subst (λ zs. Member zs e) (sym p) (append_right us (e ∷ []) e (inl refl)))
        ∙ ap (after e) q
        ∙ after_last h e hs us (sym q ∙ p) (subst Apart p a)
    leads_over h hs us (v ∷ vs) e q p = (to_next us vs e v p, leads_over h hs (us ++ (e ∷ [])) vs v q (p ∙ sym (append_assoc us (e ∷ []) (v ∷ vs))))

    -- and so from d over the end of the list and on from its head to d again
    leads_round : (xs ys : List Dart) (d : Dart) → r ≡ xs ++ (d ∷ ys) → Leads d (ys ++ xs) d
    leads_round [] ys d p = subst (λ zs. Leads d zs d) (sym (append-nil ys)) (leads_over d ys [] ys d p p)
    leads_round (x ∷ xs) ys d p = leads_joined d x d ys xs (leads_over x (xs ++ (d ∷ ys)) (x ∷ xs) ys d p p) (leads_within [] xs ys x d p)

    -- the round meets the list, begun at its first dart
    pub round_turns : (xs ys : List Dart) (d : Dart) (n : ℕ) → r ≡ xs ++ (d ∷ ys) → length r ≤ n → round ds n d d ≡ (d ∷ ys) ++ xs
    round_turns xs ys d n p l =
        let b : Apart (xs ++ (d ∷ ys)) = subst Apart p a in
        let m = ap length p in
        let s = length-append xs (d ∷ ys) in
        let t = length-append ys xs in
        round_leads d d (ys ++ xs) n (omega arith) (leads_round xs ys d p)
        (λ v k e. elim (append_cases ys xs v k) [ inl y ↦ apart_after xs ys d b v y (sym e) | inr x ↦ apart_before xs ys d b v x e ])
