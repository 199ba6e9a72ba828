-- A list of curves put out one by one: with one more in its place, or without one.
use Rattle.std.proofs.Common.{◌≡◌, ◌<◌, ◌≤◌, ◌+◌, ℕ, Bool, true, false, cond, List, [], ◌∷◌, ◌++◌, length, drop, get_or, Ordering, nat_cmp, Less, Equal, Greater, refl, sym, ap, ◌∙◌, append-nil}
use Rattle.std.specs.Prelude.{not}
use Rattle.std.specs.Ordering.{match_ordering}
use Rattle.std.proofs.lemmas.List.{at_drop_more, at_drop_all}
use Rattle.plane_graphs.specs.Ascending.{place}
use Rattle.plane_graphs.proofs.Ascending.{place_none}
use Rattle.plane_graphs.specs.Graph.{same_curve}
use Rattle.slab_laws.specs.declared.names.CurveId.{CurveId}
use Rattle.mirror_observer.specs.Tables.{numbers_in}
use Rattle.mirror_observer.specs.Lists.{AreGained, left_from, placed_from}

pub push_then : (ms us : List CurveId) (c : CurveId) (rest : List ℕ) → us ≡ ms ++ c ∷ [] → numbers_in us ++ rest ≡ numbers_in ms ++ c.0 ∷ rest
push_then ms us c rest e = ap (λ z. numbers_in z ++ rest) e ∙ at_end ms
  where
    at_end : (ms : List CurveId) → numbers_in (ms ++ c ∷ []) ++ rest ≡ numbers_in ms ++ c.0 ∷ rest
    at_end [] = refl
    at_end (m ∷ ms) = ap (λ z. m.0 ∷ z) (at_end ms)

place_next : (c x : ℕ) (rest : List ℕ) → place nat_cmp c (x ∷ rest) ≡ match_ordering (nat_cmp c x) (c ∷ x ∷ rest) (x ∷ rest) (x ∷ place nat_cmp c rest)
unfolding place
place_next c x rest = refl

module _ (c : CurveId) (x : CurveId) (come : Bool) (not_yet : come ≡ false) (rest : List ℕ) where
  placing : (o : Ordering) → nat_cmp c.0 x.0 ≡ o → placed_from c.0 come (x.0 ∷ rest) ≡ match_ordering o (c.0 ∷ x.0 ∷ rest) (x.0 ∷ rest) (x.0 ∷ place nat_cmp c.0 rest)
  placing o e = ap (λ b. cond b (x.0 ∷ rest) (place nat_cmp c.0 (x.0 ∷ rest))) not_yet ∙ place_next c.0 x.0 rest ∙ ap (λ z. match_ordering z (c.0 ∷ x.0 ∷ rest) (x.0 ∷ rest) (x.0 ∷ place nat_cmp c.0 rest)) e

  pub gained_less : (ms ns us : List CurveId) → nat_cmp c.0 x.0 ≡ Less → ns ≡ ms ++ c ∷ [] → us ≡ ns ++ x ∷ [] → numbers_in us ++ rest ≡ numbers_in ms ++ placed_from c.0 come (x.0 ∷ rest)
  gained_less ms ns us o d e = push_then ns us x rest e ∙ push_then ms ns c (x.0 ∷ rest) d ∙ ap (λ z. numbers_in ms ++ z) (sym (placing Less o))

  pub gained_equal : (ms us : List CurveId) → nat_cmp c.0 x.0 ≡ Equal → us ≡ ms ++ x ∷ [] → numbers_in us ++ rest ≡ numbers_in ms ++ placed_from c.0 come (x.0 ∷ rest)
  gained_equal ms us o e = push_then ms us x rest e ∙ ap (λ z. numbers_in ms ++ z) (sym (placing Equal o))

  pub gained_greater : (ms us : List CurveId) → nat_cmp c.0 x.0 ≡ Greater → us ≡ ms ++ x ∷ [] → numbers_in us ++ place nat_cmp c.0 rest ≡ numbers_in ms ++ placed_from c.0 come (x.0 ∷ rest)
  gained_greater ms us o e = push_then ms us x (place nat_cmp c.0 rest) e ∙ ap (λ z. numbers_in ms ++ z) (sym (placing Greater o))

-- one element more of a list that is put out
pub gained_more : (F G : List ℕ → List ℕ) (all : List ℕ) (xs : List CurveId) (i : ℕ) (x : CurveId) (ms us : List CurveId) → i < length xs → x ≡ get_or xs i x → numbers_in ms ++ F (numbers_in (drop i xs)) ≡ all → ((rest : List ℕ) → AreGained (F (x.0 ∷ rest)) (numbers_in ms) (G rest) (numbers_in us)) →
    numbers_in us ++ G (numbers_in (drop (i + 1) xs)) ≡ all
gained_more F G all xs i x ms us l is e g =
    g (numbers_in (drop (i + 1) xs))
    ∙ ap (λ z. numbers_in ms ++ F (z.0 ∷ numbers_in (drop (i + 1) xs))) is
    ∙ sym (at_drop_more (λ ys. numbers_in ms ++ F (numbers_in ys)) xs i x l) ∙ e

-- all elements of a list were put out
pub gained_all : (F : List ℕ → List ℕ) (all : List ℕ) (xs : List CurveId) (i : ℕ) (ms : List CurveId) → length xs ≤ i → numbers_in ms ++ F (numbers_in (drop i xs)) ≡ all → numbers_in ms ++ F [] ≡ all
gained_all F all xs i ms l e = sym (at_drop_all (λ ys. numbers_in ms ++ F (numbers_in ys)) xs i l) ∙ e

pub last_placed : (c : CurveId) (come : Bool) (ms us : List CurveId) → come ≡ false → us ≡ ms ++ c ∷ [] → numbers_in us ≡ numbers_in ms ++ placed_from c.0 come []
last_placed c come ms us n d = sym (append-nil (numbers_in us)) ∙ push_then ms us c [] d ∙ ap (λ z. numbers_in ms ++ z) (sym (place_none nat_cmp c.0)) ∙ ap (λ b. numbers_in ms ++ placed_from c.0 b []) (sym n)

pub none_placed : (c : ℕ) (come : Bool) (ms : List CurveId) → come ≡ true → numbers_in ms ≡ numbers_in ms ++ placed_from c come []
none_placed c come ms n = sym (append-nil (numbers_in ms)) ∙ ap (λ b. numbers_in ms ++ placed_from c b []) (sym n)

-- ---- without a curve
module _ (c x : CurveId) (rest : List ℕ) where
  pub left_out : same_curve x.0 c.0 ≡ true → (ms us : List CurveId) → us ≡ ms → numbers_in us ++ left_from c.0 rest ≡ numbers_in ms ++ left_from c.0 (x.0 ∷ rest)
  left_out s ms us e = ap (λ z. numbers_in z ++ left_from c.0 rest) e ∙ ap (λ b. numbers_in ms ++ cond (not b) (x.0 ∷ left_from c.0 rest) (left_from c.0 rest)) (sym s)

  pub left_in : same_curve x.0 c.0 ≡ false → (ms us : List CurveId) → us ≡ ms ++ x ∷ [] → numbers_in us ++ left_from c.0 rest ≡ numbers_in ms ++ left_from c.0 (x.0 ∷ rest)
  left_in s ms us e = push_then ms us x (left_from c.0 rest) e ∙ ap (λ b. numbers_in ms ++ cond (not b) (x.0 ∷ left_from c.0 rest) (left_from c.0 rest)) (sym s)
