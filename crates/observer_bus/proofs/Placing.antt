-- Names at their places: how they grow, and that their order of coming doesn't show.
use Rattle.std.proofs.Common.{◌≡◌, ℕ, ◌+◌, ◌≤◌, ◌<◌, Bool, true, false, cond, List, [], ◌∷◌, ◌++◌, length, take, drop, refl, sym, ap, ◌∙◌, inl, inr, arith, get_or, append_assoc, Less, Equal, Greater, add-one, take_all}
use Rattle.std.proofs.lemmas.Bool.{cases_order}
use Rattle.std.proofs.lemmas.List.{take-append-drop, drop_all}
use Rattle.std.proofs.Math.Seq.{drop-cons, take-suc}
use Rattle.std.specs.Ordering.{nat_cmp, match_ordering}
use Rattle.std.specs.Cmp.{nat_cmp_is}
use Rattle.plane_graphs.specs.Ascending.{place}
use Rattle.plane_graphs.proofs.Ascending.{place_none}
use Rattle.observer_bus.specs.Rounds.{noted}
use Rattle.observer_bus.specs.declared.seat.Fate.{Fate}
use Rattle.observer_bus.specs.declared.seat.Fate.TheVariants.{Told, ToldLast, LeftUntold, Joined, Waits, Lost}
use Rattle.observer_bus.specs.declared.went.Went.{Went}

-- the three places of a name before a list's first one
place_less : (k y : ℕ) (ys : List ℕ) → k < y → place nat_cmp k (y ∷ ys) ≡ k ∷ y ∷ ys
unfolding place
place_less k y ys e = ap (λ t. match_ordering t (k ∷ y ∷ ys) (y ∷ ys) (y ∷ place nat_cmp k ys)) (sym (nat_cmp_is k y Less e))

place_same : (k y : ℕ) (ys : List ℕ) → k ≡ y → place nat_cmp k (y ∷ ys) ≡ y ∷ ys
unfolding place
place_same k y ys e = ap (λ t. match_ordering t (k ∷ y ∷ ys) (y ∷ ys) (y ∷ place nat_cmp k ys)) (sym (nat_cmp_is k y Equal e))

place_more : (k y : ℕ) (ys : List ℕ) → y < k → place nat_cmp k (y ∷ ys) ≡ y ∷ place nat_cmp k ys
unfolding place
place_more k y ys e = ap (λ t. match_ordering t (k ∷ y ∷ ys) (y ∷ ys) (y ∷ place nat_cmp k ys)) (sym (nat_cmp_is k y Greater e))

-- two names below a third, or alone
before_both : (k m : ℕ) (ys zs : List ℕ) → place nat_cmp k ys ≡ k ∷ ys → place nat_cmp m ys ≡ m ∷ ys → place nat_cmp k (m ∷ ys) ≡ place nat_cmp m (k ∷ ys)
before_both k m ys zs p q = elim (cases_order k m) [
  | inr (inl e) ↦ place_less k m ys e ∙ sym (place_more m k ys e ∙ ap (λ xs. k ∷ xs) q)
  | inl e ↦ place_same k m ys e ∙ ap (λ x. x ∷ ys) (sym e) ∙ sym (place_same m k ys (sym e))
  | inr (inr e) ↦ place_more k m ys e ∙ ap (λ xs. m ∷ xs) p ∙ sym (place_less m k ys e)
]

-- a name before the first, another not before it
before_one : (k m y : ℕ) (ys : List ℕ) → k < y → y ≤ m → (zs : List ℕ) → place nat_cmp m (y ∷ ys) ≡ y ∷ zs → place nat_cmp k (place nat_cmp m (y ∷ ys)) ≡ place nat_cmp m (place nat_cmp k (y ∷ ys))
before_one k m y ys e le zs q =
    ap (place nat_cmp k) q ∙ place_less k y zs e ∙ ap (λ xs. k ∷ xs) (sym q) ∙ sym (ap (place nat_cmp m) (place_less k y ys e) ∙ place_more m k (y ∷ ys) (omega arith))

-- in which order names come to a list doesn't show
pub place_swap : (k m : ℕ) (ys : List ℕ) → place nat_cmp k (place nat_cmp m ys) ≡ place nat_cmp m (place nat_cmp k ys)
place_swap k m [] = ap (place nat_cmp k) (place_none nat_cmp m) ∙ before_both k m [] [] (place_none nat_cmp k) (place_none nat_cmp m) ∙ ap (place nat_cmp m) (sym (place_none nat_cmp k))
place_swap k m (y ∷ ys) = elim (cases_order k y) [
  | inr (inl e) ↦ elim (cases_order m y) [
    | inr (inl f) ↦ ap (place nat_cmp k) (place_less m y ys f) ∙ before_both k m (y ∷ ys) [] (place_less k y ys e) (place_less m y ys f) ∙ ap (place nat_cmp m) (sym (place_less k y ys e))
    | inl f ↦ before_one k m y ys e (omega arith) ys (place_same m y ys f)
    | inr (inr f) ↦ before_one k m y ys e (omega arith) (place nat_cmp m ys) (place_more m y ys f)
  ]
  | inl e ↦ elim (cases_order m y) [
    | inr (inl f) ↦ sym (before_one m k y ys f (omega arith) ys (place_same k y ys e))
    | inl f ↦ ap (place nat_cmp k) (place_same m y ys f) ∙ place_same k y ys e ∙ sym (ap (place nat_cmp m) (place_same k y ys e) ∙ place_same m y ys f)
    | inr (inr f) ↦ ap (place nat_cmp k) (place_more m y ys f) ∙ place_same k y (place nat_cmp m ys) e ∙ sym (ap (place nat_cmp m) (place_same k y ys e) ∙ place_more m y ys f)
  ]
  | inr (inr e) ↦ elim (cases_order m y) [
    | inr (inl f) ↦ sym (before_one m k y ys f (omega arith) (place nat_cmp k ys) (place_more k y ys e))
    | inl f ↦ ap (place nat_cmp k) (place_same m y ys f) ∙ place_more k y ys e ∙ sym (ap (place nat_cmp m) (place_more k y ys e) ∙ place_same m y (place nat_cmp k ys) f)
    | inr (inr f) ↦ ap (place nat_cmp k) (place_more m y ys f) ∙ place_more k y (place nat_cmp m ys) e ∙ ap (λ xs. y ∷ xs) (place_swap k m ys) ∙ sym (ap (place nat_cmp m) (place_more k y ys e) ∙ place_more m y (place nat_cmp k ys) f)
  ]
]

-- a list grows by at most one
pub length_place : (k : ℕ) (ys : List ℕ) → length (place nat_cmp k ys) ≤ length ys + 1
length_place k [] = rw (place_none nat_cmp k) (omega arith)
length_place k (y ∷ ys) = elim (cases_order k y) [
  | inr (inl e) ↦ rw (place_less k y ys e) (omega arith)
  | inl e ↦ rw (place_same k y ys e) (omega arith)
  | inr (inr e) ↦ rw (place_more k y ys e) (omega (arith, length_place k ys))
]

-- ---- the place of a name, found by index
module _ (k : ℕ) (names : List ℕ) (i : ℕ) (h : place nat_cmp k names ≡ take i names ++ place nat_cmp k (drop i names)) where
  module _ (lt : i < length names) where
    at_place : drop i names ≡ get_or names i 0 ∷ drop (i + 1) names
    at_place = rw add-one (drop-cons names i 0 lt)

    -- the name is there
    pub placed_there : get_or names i 0 ≡ k → place nat_cmp k names ≡ names
    placed_there same =
        h ∙ ap (λ xs. take i names ++ place nat_cmp k xs) at_place ∙ ap (λ xs. take i names ++ xs) (place_same k (get_or names i 0) (drop (i + 1) names) (sym same)) ∙
        ap (λ xs. take i names ++ xs) (sym at_place) ∙ take-append-drop i names

    -- the name comes before the one at hand
    pub placed_before : k < get_or names i 0 → place nat_cmp k names ≡ take i names ++ k ∷ drop i names
    placed_before less =
        h ∙ ap (λ xs. take i names ++ place nat_cmp k xs) at_place ∙ ap (λ xs. take i names ++ xs) (place_less k (get_or names i 0) (drop (i + 1) names) less) ∙
        ap (λ xs. take i names ++ k ∷ xs) (sym at_place)

    -- the name comes after the one at hand
    pub placed_after : get_or names i 0 < k → place nat_cmp k names ≡ take (i + 1) names ++ place nat_cmp k (drop (i + 1) names)
    placed_after more =
        let t : take (i + 1) names ≡ take i names ++ get_or names i 0 ∷ [] = rw add-one (take-suc names i 0 lt) in
        h ∙ ap (λ xs. take i names ++ place nat_cmp k xs) at_place ∙ ap (λ xs. take i names ++ xs) (place_more k (get_or names i 0) (drop (i + 1) names) more) ∙
        sym (append_assoc (take i names) (get_or names i 0 ∷ []) (place nat_cmp k (drop (i + 1) names))) ∙ ap (λ xs. xs ++ place nat_cmp k (drop (i + 1) names)) (sym t)

  -- the name comes after all
  pub placed_last : length names ≤ i → place nat_cmp k names ≡ take (length names) names ++ k ∷ drop (length names) names
  placed_last le =
      let t : take i names ≡ names = take_all i names le in
      let d : drop i names ≡ [] = drop_all i names le in
      h ∙ ap (λ xs. xs ++ place nat_cmp k (drop i names)) (t ∙ sym (take_all (length names) names (omega arith))) ∙
      ap (λ xs. take (length names) names ++ place nat_cmp k xs) d ∙ ap (λ xs. take (length names) names ++ xs) (place_none nat_cmp k) ∙
      ap (λ xs. take (length names) names ++ k ∷ xs) (sym (drop_all (length names) names (omega arith)))

-- ---- fates noted
abbrev put_name : Bool → ℕ → List ℕ → List ℕ
put_name b k xs = cond b (place nat_cmp k xs) xs

put_swap : (b c : Bool) (k m : ℕ) (xs : List ℕ) → put_name b k (put_name c m xs) ≡ put_name c m (put_name b k xs)
put_swap true true k m xs = place_swap k m xs
put_swap true false k m xs = refl
put_swap false true k m xs = refl
put_swap false false k m xs = refl

abbrev spread : Bool → Bool → Bool → ℕ → Went → Went
spread a b c k g = record { joined = put_name a k g.joined; left = put_name b k g.left; lost = put_name c k g.lost }

abbrev joins : Fate → Bool
joins Joined = true
joins other = false

abbrev leaves : Fate → Bool
leaves ToldLast = true
leaves LeftUntold = true
leaves other = false

abbrev is_lost : Fate → Bool
is_lost Lost = true
is_lost other = false

noted_is : (f : Fate) (k : ℕ) (g : Went) → noted f k g ≡ spread (joins f) (leaves f) (is_lost f) k g
noted_is Told k g = refl
noted_is ToldLast k g = refl
noted_is LeftUntold k g = refl
noted_is Joined k g = refl
noted_is Waits k g = refl
noted_is Lost k g = refl

spread_swap : (a b c a' b' c' : Bool) (k m : ℕ) (g : Went) → spread a b c k (spread a' b' c' m g) ≡ spread a' b' c' m (spread a b c k g)
spread_swap a b c a' b' c' k m g = λ i. record { joined = put_swap a a' k m g.joined i; left = put_swap b b' k m g.left i; lost = put_swap c c' k m g.lost i }

-- in which order fates are noted doesn't show
pub noted_swap : (f h : Fate) (k m : ℕ) (g : Went) → noted f k (noted h m g) ≡ noted h m (noted f k g)
noted_swap f h k m g =
    noted_is f k (noted h m g) ∙ ap (spread (joins f) (leaves f) (is_lost f) k) (noted_is h m g) ∙
    spread_swap (joins f) (leaves f) (is_lost f) (joins h) (leaves h) (is_lost h) k m g ∙
    sym (noted_is h m (noted f k g) ∙ ap (spread (joins h) (leaves h) (is_lost h) m) (noted_is f k g))
