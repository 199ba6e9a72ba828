-- Keys that are counted, or looked for, as all cycles are gone through.
use Rattle.std.proofs.Common.{◌≡◌, ℕ, ◌<◌, ◌≤◌, ◌+◌, Bool, true, false, cond, arith, refl, sym, ap, ◌∙◌, subst, inl, inr, List, [], ◌∷◌, ◌++◌, length, map}
use Rattle.std.specs.Prelude.{Option, Some, None, find, filter}
use Rattle.std.specs.List.{count_by}
use Rattle.std.specs.Option.{option_or}
use Rattle.std.proofs.lemmas.List.Folds.{find-append}
use Rattle.std.proofs.lemmas.List.Sums.{sum_by-append, sum_by-cons, count_by-le-length, length-filter}
use Rattle.std.proofs.lemmas.Bool.{cases_Bool}
use Rattle.std.proofs.lemmas.List.{length-map}
use Rattle.std.specs.Cmp.{tied_itself}
use Rattle.std.specs.Ordering.{is_lt}
use Rattle.plane_graphs.specs.Ascending.{Member}
use Rattle.slab_laws.specs.Tables.{names}
use Rattle.dcel_records.specs.RankOrders.{key_cmp}
use Rattle.face_ranks.specs.OuterKeys.{outer_keys, is_outer_in, cycle_rank_key}
use Rattle.face_ranks.proofs.KeysRanked.{key_total}
use Rattle.slab_laws.specs.declared.names.CycleId.{CycleId}
use Rattle.slab_laws.specs.FaceLists.{Lists}
use Rattle.slab_laws.specs.View.{View, Faces, cycle_id}
use Rattle.dcel_records.specs.declared.ranks.RankKey.{RankKey}
use Rattle.face_ranks.proofs.KeysPushed.{IsPushed}

-- the keys gone through, and how many of them pass
pub record AreCounted (v : View) (f : Faces) (l : Lists) (last : Option CycleId) (p : RankKey → Bool) (count : ℕ) : Type 0 where
  pub order : List RankKey
  pub pushed : IsPushed v f l order last
  pub counted : count ≡ count_by p order

-- the keys gone through, of which none passes
pub record AreMissed (v : View) (f : Faces) (l : Lists) (last : Option CycleId) (p : RankKey → Bool) : Type 0 where
  pub order : List RankKey
  pub pushed : IsPushed v f l order last
  pub missed : find p order ≡ None

module _ (p : RankKey → Bool) (ks : List RankKey) (k : RankKey) where
  pub count_yes : (n : ℕ) → n ≡ count_by p ks → p k ≡ true → n + 1 ≡ count_by p (ks ++ k ∷ [])
  count_yes n e t =
      let a = sum_by-append (λ x. cond {A = ℕ} (p x) 1 0) ks (k ∷ []) in
      let b : cond {A = ℕ} (p k) 1 0 ≡ 1 = ap (λ (x : Bool). cond {A = ℕ} x 1 0) t in
      omega (arith, a, b, e)

  pub count_no : (n : ℕ) → n ≡ count_by p ks → p k ≡ false → n ≡ count_by p (ks ++ k ∷ [])
  count_no n e t =
      let a = sum_by-append (λ x. cond {A = ℕ} (p x) 1 0) ks (k ∷ []) in
      let b : cond {A = ℕ} (p k) 1 0 ≡ 0 = ap (λ (x : Bool). cond {A = ℕ} x 1 0) t in
      omega (arith, a, b, e)

  one_found : (b : Bool) → p k ≡ b → find p (k ∷ []) ≡ cond b (Some k) None
  one_found true t = rw t refl
  one_found false t = rw t refl

  pub find_no : find p ks ≡ None → p k ≡ false → find p (ks ++ k ∷ []) ≡ None
  find_no e t = find-append p ks (k ∷ []) ∙ ap (λ o. option_or o (find p (k ∷ []))) e ∙ one_found false t

  pub find_yes : (rest : List RankKey) → find p ks ≡ None → p k ≡ true → find p ((ks ++ k ∷ []) ++ rest) ≡ Some k
  find_yes rest e t =
      let a : find p (ks ++ k ∷ []) ≡ Some k = find-append p ks (k ∷ []) ∙ ap (λ o. option_or o (find p (k ∷ []))) e ∙ one_found true t in
      find-append p (ks ++ k ∷ []) rest ∙ ap (λ o. option_or o (find p rest)) a

pub count_fits : (p : RankKey → Bool) (ks : List RankKey) (n m : ℕ) → n ≡ count_by p ks → length ks < m → n < m
count_fits p ks n m e h = let a = count_by-le-length p ks in omega (arith, a, e, h)

-- ---- a key isn't before itself
pub found_in : (p : RankKey → Bool) (ks : List RankKey) (k : RankKey) → find p ks ≡ Some k → Member k ks
found_in p [] k e = absurd cc
found_in p (x ∷ ks) k e = elim (cases_Bool (p x)) [
  | inl t ↦ inl (sym (unwrap x (rw t at e)))
  | inr t ↦ inr (found_in p ks k (rw t at e))
]
  where
    unwrap : (x : RankKey) → Some x ≡ Some k → x ≡ k
    unwrap x f = ap (λ (o : Option RankKey). value x o) f
      where
        value : RankKey → Option RankKey → RankKey
        value d None = d
        value d (Some y) = y

pub count_less : (p : RankKey → Bool) (ks : List RankKey) (k : RankKey) → Member k ks → p k ≡ false → count_by p ks < length ks
count_less p [] k m e = absurd m
count_less p (x ∷ ks) k (inl f) e =
    let a = sum_by-cons (λ x. cond {A = ℕ} (p x) 1 0) x ks in
    let b : cond {A = ℕ} (p x) 1 0 ≡ 0 = ap (λ (y : Bool). cond {A = ℕ} y 1 0) (subst (λ (y : RankKey). p y ≡ false) f e) in
    let d = count_by-le-length p ks in
    omega (arith, a, b, d)
count_less p (x ∷ ks) k (inr m) e =
    let a = sum_by-cons (λ x. cond {A = ℕ} (p x) 1 0) x ks in
    let b = small (p x) in
    let d = count_less p ks k m e in
    omega (arith, a, b, d)
  where
    small : (b : Bool) → cond {A = ℕ} b 1 0 ≤ 1
    small true = omega arith
    small false = omega arith

pub not_before_itself : (k : RankKey) → is_lt (key_cmp k k) ≡ false
not_before_itself k = ap is_lt (tied_itself key_total k)

pub keys_fit : (v : View) (f : Faces) (l : Lists) → length (outer_keys v f l) ≤ length f.cycles
keys_fit v f l =
    let a = length-map (filter (is_outer_in f) (map cycle_id (names f.cycles))) (cycle_rank_key v f l) in
    let b = length-filter (is_outer_in f) (map cycle_id (names f.cycles)) in
    let d = count_by-le-length (is_outer_in f) (map cycle_id (names f.cycles)) in
    let e = length-map (names f.cycles) cycle_id in
    let h = length-map f.cycles (λ r. r.0) in
    omega (arith, a, b, d, e, h)
