-- Edges that come in their order, each kept once.
use Rattle.std.proofs.Common.{◌≡◌, ◌≢◌, ℕ, ◌+◌, List, [], ◌∷◌, ◌++◌, map, length, take, drop, get_or, ◌<◌, append_assoc, arith, Bool, IsTrue, refl, sym, ap, ◌∙◌, subst, inl, inr, ⊎_elim, Ordering, Less, Equal, Greater}
use Rattle.std.specs.List.{AllByRecursion}
use Rattle.std.specs.Ordering.{ordering_then, ordering_reverse, nat_cmp}
use Rattle.std.specs.Prelude.{◌↔◌}
use Rattle.std.proofs.lemmas.List.{map_push, same_from_push, take_all, take-append-drop}
use Rattle.exact_plane.specs.Span.{Span}
use Rattle.plane_graphs.specs.Line.{same_point}
use Rattle.plane_graphs.proofs.Order.{same_out, same_in}
use Rattle.slab_laws.specs.SpansDrawn.{edge_of as edge_of_span}
use Rattle.plane_graphs.proofs.Loops.{take_next}
use Rattle.exact_plane.specs.PointOrder.{point_cmp}
use Rattle.exact_plane.specs.PointOrderLaws.{and_true}
use Rattle.plane_graphs.specs.Ascending.{ascending, Member, IsAscending}
use Rattle.plane_graphs.specs.Graph.{Mark, Edge, edge_of, mark_cmp, edge_cmp, is_at}
use Rattle.plane_graphs.proofs.Ascending.{ascending_is, IsAscending-ascending, All-member}
use Rattle.plane_graphs.proofs.Lists.{and_in, in_left, in_right, in_either, of_map, of_ascending, in_ascending}
use Rattle.plane_graphs.proofs.Meaning.{edge_cmp_total, edge_cmp_exact}
use Rattle.present_graphs.specs.Edges.{IsLast}

-- no edge of the list comes after e
abbrev pub AreUpTo : (e : Edge) (es : List Edge) → Type 0
AreUpTo e es = (f : Edge) → Member f es → edge_cmp f e ≢ Greater

less_up : (e f : Edge) → edge_cmp e f ≡ Less → edge_cmp f e ≡ Greater
less_up e f h = edge_cmp_total.antisymm f e ∙ ap ordering_reverse h

-- what is in an ascending list, and not before any of its elements, is the last of it
pub last_of : (e : Edge) (es : List Edge) → IsAscending edge_cmp es → AreUpTo e es → Member e es → IsLast e es
last_of e [] a u m = absurd m
last_of e (f ∷ es) a u (inr m) = let w = last_of e es a.1 (λ g n. u g (inr n)) m in (f ∷ w.0, ap (λ gs. f ∷ gs) w.1)
last_of e (f ∷ es) a u (inl i) = alone es a.0 (λ g n. u g (inr n))
  where
    alone : (es : List Edge) → AllByRecursion (λ g. edge_cmp f g ≡ Less) es → AreUpTo e es → IsLast e (f ∷ es)
    alone [] b v = ([], ap (λ g. g ∷ []) (sym i))
    alone (g ∷ gs) b v = absurd (v g (inl refl) (less_up e g (subst (λ z. edge_cmp z g ≡ Less) (sym i) b.0)))

pub last_in : (e : Edge) (es : List Edge) → IsLast e es → Member e es
last_in e es w = subst (λ fs. Member e fs) (sym w.1) (in_right e w.0 (e ∷ []) (inl refl))

All-append : (P : Edge → Type 0) (es : List Edge) (f : Edge) → AllByRecursion P es → P f → AllByRecursion P (es ++ f ∷ [])
All-append P [] f a p = (p, tt)
All-append P (e ∷ es) f a p = (a.0, All-append P es f a.1 p)

before_all : (es : List Edge) (f : Edge) → IsAscending edge_cmp es → ((e : Edge) → Member e es → edge_cmp e f ≡ Less) → IsAscending edge_cmp (es ++ f ∷ [])
before_all [] f a h = (tt, tt)
before_all (e ∷ es) f a h = (All-append (λ g. edge_cmp e g ≡ Less) es f a.0 (h e (inl refl)), before_all es f a.1 (λ g m. h g (inr m)))

strictly : (e f : Edge) (o : Ordering) → edge_cmp e f ≡ o → edge_cmp e f ≢ Greater → (e ≡ f → ⊥) → edge_cmp e f ≡ Less
strictly e f Less i u n = i
strictly e f Equal i u n = absurd (n (edge_cmp_exact e f i))
strictly e f Greater i u n = absurd (u i)

-- the test of the last span
module _ (ss front : List Span) (s : Span) (m : Mark) (b : Bool) (ends : ss ≡ front ++ s ∷ []) (is : b ≡ is_at s.lower s.upper m) where
  at_end : map edge_of_span ss ≡ map edge_of_span front ++ edge_of_span s ∷ []
  at_end = ap (map edge_of_span) ends ∙ map_push edge_of_span front s

  pub last_told : IsTrue b ↔ IsLast (edge_of m) (map edge_of_span ss)
  last_told = (
    (λ h.
        let w = and_true (same_point m.low s.lower) (same_point m.high s.upper) (sym is ∙ h) in
        (map edge_of_span front, at_end ∙ ap (λ e. map edge_of_span front ++ e ∷ []) (λ i. record { low = sym (same_out m.low s.lower w.0) i; high = sym (same_out m.high s.upper w.1) i }))),
    (λ w.
        let e = (same_from_push (map edge_of_span front) w.0 (edge_of_span s) (edge_of m) (sym at_end ∙ w.1)).1 in
        is ∙ and_in (same_in m.low s.lower (ap (λ (f : Edge). f.low) (sym e))) (same_in m.high s.upper (ap (λ (f : Edge). f.high) (sym e)))),
  )

-- the last of some elements
pub last_read : {X : Type 0} (xs : List X) (n : ℕ) (x : X) → n + 1 ≡ length xs → x ≡ get_or xs n x → xs ≡ take n xs ++ x ∷ []
last_read xs n x h e = sym (take_all (n + 1) xs (omega arith)) ∙ take_next xs n x (omega arith) e

-- xs are the edges so far, es the same in order, each once
module _ (xs es : List Edge) (e : Edge) (is : es ≡ ascending edge_cmp xs) (up : AreUpTo e xs) where
  asc : IsAscending edge_cmp es
  asc = subst (IsAscending edge_cmp) (sym is) (IsAscending-ascending edge_cmp edge_cmp_total xs)

  was : (f : Edge) → Member f es → Member f xs
  was f m = of_ascending edge_cmp edge_cmp_total edge_cmp_exact f xs (subst (λ fs. Member f fs) is m)

  stays : (f : Edge) → Member f xs → Member f es
  stays f m = subst (λ fs. Member f fs) (sym is) (in_ascending edge_cmp edge_cmp_total edge_cmp_exact f xs m)

  pub edge_again : IsLast e es → es ≡ ascending edge_cmp (xs ++ e ∷ [])
  edge_again w =
      ascending_is edge_cmp edge_cmp_total (xs ++ e ∷ []) es (λ f g m n. edge_cmp_exact f g) asc (λ f m. in_left f xs (e ∷ []) (was f m))
      (λ f m. ⊎_elim (λ l. stays f l) (λ l. ⊎_elim (λ i. subst (λ g. Member g es) (sym i) (last_in e es w)) (λ z. absurd z) l) (in_either f xs (e ∷ []) m))

  pub edge_more : (IsLast e es → ⊥) → es ++ e ∷ [] ≡ ascending edge_cmp (xs ++ e ∷ [])
  edge_more alone =
      ascending_is edge_cmp edge_cmp_total (xs ++ e ∷ []) (es ++ e ∷ []) (λ f g m n. edge_cmp_exact f g)
      (before_all es e asc (λ f m. strictly f e (edge_cmp f e) refl (up f (was f m)) (λ i. alone (last_of e es asc (λ g n. up g (was g n)) (subst (λ g. Member g es) i m)))))
      (λ f m. ⊎_elim (λ l. in_left f xs (e ∷ []) (was f l)) (λ l. in_right f xs (e ∷ []) l) (in_either f es (e ∷ []) m))
      (λ f m. ⊎_elim (λ l. in_left f es (e ∷ []) (stays f l)) (λ l. in_right f es (e ∷ []) l) (in_either f xs (e ∷ []) m))

-- ---- the edges of ascending marks don't go back
not_back : (s t u : Ordering) → ordering_then s (ordering_then t u) ≡ Less → ordering_then s t ≡ Greater → ⊥
not_back Less t u h k = absurd cc
not_back Equal Less u h k = absurd cc
not_back Equal Equal u h k = absurd cc
not_back Equal Greater u h k = absurd cc
not_back Greater t u h k = absurd cc

edge_up : (m n : Mark) → mark_cmp m n ≡ Less → edge_cmp (edge_of m) (edge_of n) ≢ Greater
unfolding mark_cmp edge_cmp
edge_up m n h k = not_back (point_cmp m.low n.low) (point_cmp m.high n.high) (nat_cmp m.curve n.curve) h k

before_next : (ms : List Mark) (n : Mark) (rest : List Mark) → IsAscending mark_cmp (ms ++ n ∷ rest) → (m : Mark) → Member m ms → mark_cmp m n ≡ Less
before_next [] n rest a m h = absurd h
before_next (l ∷ ms) n rest a m (inl e) = subst (λ k. mark_cmp k n ≡ Less) (sym e) (All-member (λ k. mark_cmp l k ≡ Less) n (ms ++ n ∷ rest) a.0 (in_right n ms (n ∷ rest) (inl refl)))
before_next (l ∷ ms) n rest a m (inr h) = before_next ms n rest a.1 m h

pub edges_up : (ms : List Mark) (n : Mark) (rest : List Mark) → IsAscending mark_cmp (ms ++ n ∷ rest) → AreUpTo (edge_of n) (map edge_of ms)
edges_up ms n rest a f h =
    let w = of_map edge_of f ms h in
    subst (λ (g : Edge). edge_cmp g (edge_of n) ≢ Greater) (sym w.2) (edge_up w.0 n (before_next ms n rest a w.0 w.1))

-- ---- one more mark
module _ (ms : List Mark) (i : ℕ) (m : Mark) (h : i < length ms) (e : m ≡ get_or ms i m) (asc : IsAscending mark_cmp ms) (es new : List Edge) (is : es ≡ ascending edge_cmp (map edge_of (take i ms))) where
  up : AreUpTo (edge_of m) (map edge_of (take i ms))
  up =
      let rest : List Mark = drop (i + 1) ms in
      let whole : take i ms ++ m ∷ drop (i + 1) ms ≡ ms = sym (append_assoc (take i ms) (m ∷ []) rest) ∙ ap (λ ns. ns ++ rest) (sym (take_next ms i m h e)) ∙ take-append-drop (i + 1) ms in
      edges_up (take i ms) m rest (subst (IsAscending mark_cmp) (sym whole) asc)

  so_far : ascending edge_cmp (map edge_of (take i ms) ++ edge_of m ∷ []) ≡ ascending edge_cmp (map edge_of (take (i + 1) ms))
  so_far = ap (ascending edge_cmp) (sym (ap (map edge_of) (take_next ms i m h e) ∙ map_push edge_of (take i ms) m))

  pub mark_again : IsLast (edge_of m) es → new ≡ es → new ≡ ascending edge_cmp (map edge_of (take (i + 1) ms))
  mark_again w n = n ∙ edge_again (map edge_of (take i ms)) es (edge_of m) is up w ∙ so_far

  pub mark_more : (IsLast (edge_of m) es → ⊥) → new ≡ es ++ edge_of m ∷ [] → new ≡ ascending edge_cmp (map edge_of (take (i + 1) ms))
  mark_more w n = n ∙ edge_more (map edge_of (take i ms)) es (edge_of m) is up w ∙ so_far
