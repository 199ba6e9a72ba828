-- Points that a loop adds.
use Rattle.std.proofs.Common.{◌≡◌, ℕ, ◌+◌, ◌<◌, List, [], ◌∷◌, ◌++◌, length, take, get_or, Option, None, Some, refl, sym, ap, subst, ◌∙◌, inl, inr, ◌⊎◌, ⊎_elim}
use Rattle.std.specs.Prelude.{◌↔◌}
use Rattle.exact_plane.specs.Point.{Point}
use Rattle.exact_plane.specs.Span.{Span}
use Rattle.plane_graphs.specs.Ascending.{Member}
use Rattle.plane_graphs.proofs.Lists.{in_left, in_right, in_either}
use Rattle.present_graphs.specs.Shared.{IsShared, IsSharedWith, IsSharedByTwo, IsGrownBy}
use Rattle.plane_graphs.proofs.Loops.{take_next}

grown_then : (P Q R : Point → Type 0) (a b c : List Point) → IsGrownBy P a b → IsGrownBy Q b c → ((x : Point) → P x → R x) → ((x : Point) → Q x → R x) → ((x : Point) → R x → P x ⊎ Q x) → IsGrownBy R a c
grown_then P Q R a b c g h p q r = record {
  kept = λ x m. h.kept x (g.kept x m);
  added = λ x k. ⊎_elim (λ i. h.kept x (g.added x i)) (λ i. h.added x i) (r x k);
  only = λ x m. ⊎_elim (λ i. ⊎_elim (λ j. inl j) (λ j. inr (p x j)) (g.only x i)) (λ i. inr (q x i)) (h.only x m);
}

pub grown_none : (P : Point → Type 0) (a : List Point) → ((x : Point) → P x → ⊥) → IsGrownBy P a a
grown_none P a f = record { kept = λ x m. m; added = λ x k. absurd (f x k); only = λ x m. inl m }

-- what an optional point adds
module _ (s t : Span) where
  pub grown_one : (r : Option Point) (y : Point) (a b : List Point) → ((x : Point) → (IsShared s t x ↔ (r ≡ Some x))) → r ≡ Some y → b ≡ a ++ y ∷ [] → IsGrownBy (IsShared s t) a b
  grown_one r y a b f e n = record {
    kept = λ x m. subst (λ zs. Member x zs) (sym n) (in_left x a (y ∷ []) m);
    added = λ x k. subst (λ zs. Member x zs) (sym n) (in_right x a (y ∷ []) (inl (let i : Some x ≡ Some y = sym ((f x).0 k) ∙ e in cc)));
    only = λ x m. ⊎_elim (λ i. inl i) (λ i. ⊎_elim (λ j. inr ((f x).1 (e ∙ (λ l. Some (sym j l))))) (λ z. absurd z) i) (in_either x a (y ∷ []) (subst (λ zs. Member x zs) n m));
  }

  pub grown_still : (r : Option Point) (a : List Point) → ((x : Point) → (IsShared s t x ↔ (r ≡ Some x))) → r ≡ None → IsGrownBy (IsShared s t) a a
  grown_still r a f e = grown_none (IsShared s t) a (λ x k. let i : None ≡ Some x = sym e ∙ (f x).0 k in cc)

-- one span more
module _ (s : Span) (ts : List Span) (i : ℕ) (t : Span) (h : i < length ts) (e : t ≡ get_or ts i t) where
  split : (x : Point) → IsSharedWith s (take (i + 1) ts) x → IsSharedWith s (take i ts) x ⊎ IsShared s t x
  split x (u, m, k) = ⊎_elim (λ l. inl (u, l, k)) (λ l. ⊎_elim (λ j. inr (subst (λ v. IsShared s v x) j k)) (λ z. absurd z) l) (in_either u (take i ts) (t ∷ []) (subst (λ us. Member u us) (take_next ts i t h e) m))

  before : (x : Point) → IsSharedWith s (take i ts) x → IsSharedWith s (take (i + 1) ts) x
  before x (u, m, k) = (u, subst (λ us. Member u us) (sym (take_next ts i t h e)) (in_left u (take i ts) (t ∷ []) m), k)

  here : (x : Point) → IsShared s t x → IsSharedWith s (take (i + 1) ts) x
  here x k = (t, subst (λ us. Member t us) (sym (take_next ts i t h e)) (in_right t (take i ts) (t ∷ []) (inl refl)), k)

  pub one_other_more : (a b c : List Point) → IsGrownBy (IsSharedWith s (take i ts)) a b → IsGrownBy (IsShared s t) b c → IsGrownBy (IsSharedWith s (take (i + 1) ts)) a c
  one_other_more a b c g k = grown_then (IsSharedWith s (take i ts)) (IsShared s t) (IsSharedWith s (take (i + 1) ts)) a b c g k before here split

turned : (s t : Span) (x : Point) → IsShared s t x → IsShared t s x
turned s t x h = record { lines_differ = λ e. h.lines_differ (sym e); point = h.point; on_first = h.on_second; on_second = h.on_first }

-- one more span, against all before it
module _ (ss : List Span) (i : ℕ) (s : Span) (h : i < length ss) (e : s ≡ get_or ss i s) where
  in_old_or : (u : Span) → Member u (take (i + 1) ss) → Member u (take i ss) ⊎ (u ≡ s)
  in_old_or u m = ⊎_elim (λ l. inl l) (λ l. ⊎_elim (λ j. inr j) (λ z. absurd z) l) (in_either u (take i ss) (s ∷ []) (subst (λ us. Member u us) (take_next ss i s h e) m))

  still_in : (u : Span) → Member u (take i ss) → Member u (take (i + 1) ss)
  still_in u m = subst (λ us. Member u us) (sym (take_next ss i s h e)) (in_left u (take i ss) (s ∷ []) m)

  now_in : Member s (take (i + 1) ss)
  now_in = subst (λ us. Member s us) (sym (take_next ss i s h e)) (in_right s (take i ss) (s ∷ []) (inl refl))

  split_two : (x : Point) → IsSharedByTwo (take (i + 1) ss) x → IsSharedByTwo (take i ss) x ⊎ IsSharedWith s (take i ss) x
  split_two x (u, m, (t, n, k)) = by (in_old_or u m) (in_old_or t n)
    where
      by : Member u (take i ss) ⊎ (u ≡ s) → Member t (take i ss) ⊎ (t ≡ s) → IsSharedByTwo (take i ss) x ⊎ IsSharedWith s (take i ss) x
      by (inl a) (inl b) = inl (u, a, (t, b, k))
      by (inl a) (inr j) = inr (u, a, turned u s x (subst (λ v. IsShared u v x) j k))
      by (inr j) (inl b) = inr (t, b, subst (λ v. IsShared v t x) j k)
      by (inr j) (inr l) = absurd (k.lines_differ (ap (λ (v : Span). v.line) (j ∙ sym l)))

  pub one_span_more : (a b c : List Point) → IsGrownBy (IsSharedByTwo (take i ss)) a b → IsGrownBy (IsSharedWith s (take i ss)) b c → IsGrownBy (IsSharedByTwo (take (i + 1) ss)) a c
  one_span_more a b c g k =
      grown_then (IsSharedByTwo (take i ss)) (IsSharedWith s (take i ss)) (IsSharedByTwo (take (i + 1) ss)) a b c g k
      (λ x w. (w.0, still_in w.0 w.1, (w.2.0, still_in w.2.0 w.2.1, w.2.2)))
      (λ x w. (s, now_in, (w.0, still_in w.0 w.1, w.2)))
      split_two
