-- Going through names by the next greater one meets each once.
use Rattle.std.proofs.Common.{◌≡◌, ℕ, ◌<◌, Bool, true, false, cond, List, [], ◌∷◌, ◌++◌, length, map, Option, Some, None, refl, sym, ap, subst, ◌∙◌, append_assoc, arith}
use Rattle.std.specs.Prelude.{nat_lt, filter}
use Rattle.std.specs.List.{AllByRecursion}
use Rattle.std.specs.Option.{option_map}
use Rattle.std.proofs.lemmas.Bool.Decides.{nat_tests}
use Rattle.std.proofs.lemmas.List.{append-nil}
use Rattle.slab_laws.specs.Tables.{is_after, name_after, NamesAscend}
use Rattle.integers.proofs.Tests.{nat_lt_yes}

-- the names that come after
abbrev pub later : List ℕ → Option ℕ → List ℕ
later ns at = filter (is_after at) ns

not_after_itself : (n : ℕ) → nat_lt n n ≡ false
not_after_itself n = grind (arith, nat_tests)

after_less : (at : Option ℕ) (m n : ℕ) → is_after at m ≡ true → m < n → is_after at n ≡ true
after_less None m n h l = refl
after_less (Some k) m n h l = grind (arith, nat_tests)

not_after_less : (m n : ℕ) → m < n → nat_lt n m ≡ false
not_after_less m n l = grind (arith, nat_tests)

all_later : (at : Option ℕ) (ns : List ℕ) → AllByRecursion (λ n. is_after at n ≡ true) ns → later ns at ≡ ns
all_later at [] a = refl
all_later at (n ∷ ns) a = rw a.0 (ap (λ (xs : List ℕ). n ∷ xs) (all_later at ns a.1))

weaker : (P Q : ℕ → Type 0) (ns : List ℕ) → ((n : ℕ) → P n → Q n) → AllByRecursion P ns → AllByRecursion Q ns
weaker P Q [] f a = tt
weaker P Q (n ∷ ns) f a = (f n a.0, weaker P Q ns f a.1)

-- what all names have, the next one has
next_by : (P : ℕ → Type 0) (m n : ℕ) (b : Bool) (rest : Option ℕ) → P m → (rest ≡ Some n → P n) → cond b (Some m) rest ≡ Some n → P n
next_by P m n true rest p f h = let same : m ≡ n = cc in subst P same p
next_by P m n false rest p f h = f h

pub next_has : (P : ℕ → Type 0) (ns : List ℕ) (at : Option ℕ) (n : ℕ) → AllByRecursion P ns → name_after ns at ≡ Some n → P n
unfolding name_after
next_has P [] at n a e = absurd cc
next_has P (m ∷ ms) at n a e = next_by P m n (is_after at m) (name_after ms at) a.0 (next_has P ms at n a.1) e

-- the next name, and then those after it
later_by : (m : ℕ) (ms : List ℕ) (at : Option ℕ) (n : ℕ) (b : Bool) → NamesAscend (m ∷ ms) → is_after at m ≡ b → (name_after ms at ≡ Some n → later ms at ≡ n ∷ later ms (Some n))
    → cond b (Some m) (name_after ms at) ≡ Some n → cond b (m ∷ later ms at) (later ms at) ≡ n ∷ cond (nat_lt n m) (m ∷ later ms (Some n)) (later ms (Some n))
later_by m ms at n true a t f h =
    let same : m ≡ n = cc in
    let rest : later ms at ≡ ms = all_later at ms (weaker (λ k. m < k) _ ms (λ k l. after_less at m k t l) a.0) in
    let more : later ms (Some m) ≡ ms = all_later (Some m) ms (weaker (λ k. m < k) _ ms (λ k l. nat_lt_yes m k l) a.0) in
    let P : ℕ → Type 0 = λ k. m ∷ later ms at ≡ k ∷ cond (nat_lt k m) (m ∷ later ms (Some k)) (later ms (Some k)) in
    subst P same (rw (not_after_itself m) (ap (λ (xs : List ℕ). m ∷ xs) (rest ∙ sym more)))
later_by m ms at n false a t f h =
    let above : m < n = next_has (λ k. m < k) ms at n a.0 h in
    rw (not_after_less m n above) (f h)

pub later-next : (ns : List ℕ) (at : Option ℕ) (n : ℕ) → NamesAscend ns → name_after ns at ≡ Some n → later ns at ≡ n ∷ later ns (Some n)
unfolding name_after
later-next [] at n a e = absurd cc
later-next (m ∷ ms) at n a e = later_by m ms at n (is_after at m) a refl (later-next ms at n a.1) e

none_by : (m : ℕ) (ms : List ℕ) (at : Option ℕ) (b : Bool) → (name_after ms at ≡ None → later ms at ≡ []) → cond b (Some m) (name_after ms at) ≡ None → cond b (m ∷ later ms at) (later ms at) ≡ []
none_by m ms at true f h = absurd cc
none_by m ms at false f h = f h

pub later-none : (ns : List ℕ) (at : Option ℕ) → name_after ns at ≡ None → later ns at ≡ []
unfolding name_after
later-none [] at e = refl
later-none (m ∷ ms) at e = none_by m ms at (is_after at m) (later-none ms at) e

-- ---- names as values of a type
module _ {A : Type 0} (make : ℕ → A) (number : A → ℕ) (back : (n : ℕ) → number (make n) ≡ n) (ns : List ℕ) where
  -- what is left after the last one
  abbrev pub left : Option A → List A
  left last = map make (later ns (option_map number last))

  pub all_left : map make ns ≡ [] ++ left None
  all_left = sym (ap (map make) (all_later None ns (each ns)))
    where
      each : (ms : List ℕ) → AllByRecursion (λ n. is_after None n ≡ true) ms
      each [] = tt
      each (m ∷ ms) = (refl, each ms)

  one : (a : A) (o : Option ℕ) → Some a ≡ option_map make o → (n : ℕ) × (o ≡ Some n) × (a ≡ make n)
  one a None e = absurd cc
  one a (Some n) e = (n, refl, cc)

  none : (o : Option ℕ) → None ≡ option_map make o → o ≡ None
  none None e = refl
  none (Some n) e = absurd cc

  pub left-next : (last : Option A) (a : A) → NamesAscend ns → Some a ≡ option_map make (name_after ns (option_map number last)) → left last ≡ a ∷ left (Some a)
  left-next last a s e =
      let w = one a (name_after ns (option_map number last)) e in
      let k : number a ≡ w.0 = ap number w.2 ∙ back w.0 in
      ap (map make) (later-next ns (option_map number last) w.0 s w.1)
      ∙ ap (λ (x : A). x ∷ map make (later ns (Some w.0))) (sym w.2)
      ∙ ap (λ (n : ℕ). a ∷ map make (later ns (Some n))) (sym k)

  pub pushed : (found more : List A) (last : Option A) (a : A) → NamesAscend ns → Some a ≡ option_map make (name_after ns (option_map number last))
      → map make ns ≡ found ++ left last → more ≡ found ++ a ∷ [] → map make ns ≡ more ++ left (Some a)
  pushed found more last a s e i p =
      i ∙ ap (λ (xs : List A). found ++ xs) (left-next last a s e) ∙ sym (append_assoc found (a ∷ []) (left (Some a))) ∙ ap (λ (xs : List A). xs ++ left (Some a)) (sym p)

  pub fewer : (last : Option A) (a : A) → NamesAscend ns → Some a ≡ option_map make (name_after ns (option_map number last)) → length (left (Some a)) < length (left last)
  fewer last a s e = rw (left-next last a s e) (omega arith)

  pub ended : (found : List A) (last : Option A) → None ≡ option_map make (name_after ns (option_map number last)) → map make ns ≡ found ++ left last → found ≡ map make ns
  ended found last e i =
      sym (i ∙ ap (λ (xs : List A). found ++ xs) (ap (map make) (later-none ns (option_map number last) (none (name_after ns (option_map number last)) e))) ∙ append-nil found)
