-- What holds of each option by itself: how `clap` reads its name, and that none of its values begins with a hyphen.
use Rattle.std.proofs.Common.{◌≡◌, ◌||◌, ◌⊎◌, inl, inr, ℕ, Bool, true, false, List, [], ◌∷◌, ◌++◌, Option, Some, None, refl, sym, ap, ◌∙◌, subst, codes}
use Rattle.std.specs.Prelude.{bytes_eq, find, option_map}
use Rattle.std.proofs.lemmas.Slice.Eq.{bytes_eq-Decides}
use Rattle.clap.specs.Lexer.{long_of, strip_byte}
use Rattle.clap.specs.Walk.{Text, arg_by_long}
use Rattle.slab_laws.specs.declared.names.Strategy.{Strategy}
use Rattle.slab_laws.specs.declared.names.Strategy.TheVariants.{Naive, Walk, Landmarks, Trapezoid}
use Rattle.words_in.specs.declared.options.Options.{Options}
use Rattle.words_in.specs.declared.options.TheConstants.{MAX_SEGMENTS}
use Rattle.words_in.specs.Strategies.{strategy_name, strategy_named, strategy_read}
use Rattle.words_in.specs.Numbers.{make_read, number_between, seed_read}
use Rattle.words_in.specs.Values.{options_of, options_read, options_with}
use Rattle.words_in.specs.Grammar.{Given, flag, options_given, value_given}
use Rattle.words_in.proofs.Bounds.{plain_number}
use Rattle.words_in.proofs.Turns.{IsName, dashes, filled_option, rules}

-- how the words of an option are read
pub record IsReadAs (name : Text) : Type 0 where
  pub with_value : (v : Text) → long_of (flag name ++ 61 ∷ v) ≡ Some (name, Some v)
  pub alone : long_of (flag name) ≡ Some (name, None)
  pub not_dashes_with : (v : Text) → bytes_eq (flag name ++ 61 ∷ v) dashes ≡ false
  pub not_dashes : bytes_eq (flag name) dashes ≡ false
  pub found : arg_by_long rules name ≡ Some (filled_option name)

locate_read_as : IsReadAs (codes "locate")
locate_read_as = record { with_value = λ v. refl; alone = refl; not_dashes_with = λ v. refl; not_dashes = refl; found = refl }

make_read_as : IsReadAs (codes "make")
make_read_as = record { with_value = λ v. refl; alone = refl; not_dashes_with = λ v. refl; not_dashes = refl; found = refl }

seed_read_as : IsReadAs (codes "seed")
seed_read_as = record { with_value = λ v. refl; alone = refl; not_dashes_with = λ v. refl; not_dashes = refl; found = refl }

-- the name is one of the three
one_of_three : (name : Text) → IsName name → (codes "locate" ≡ name) ⊎ ((codes "make" ≡ name) ⊎ (codes "seed" ≡ name))
one_of_three name known = go (bytes_eq (codes "locate") name) refl (bytes_eq (codes "make") name) refl (bytes_eq (codes "seed") name) refl
  where
    go : (a : Bool) → bytes_eq (codes "locate") name ≡ a → (b : Bool) → bytes_eq (codes "make") name ≡ b
        → (c : Bool) → bytes_eq (codes "seed") name ≡ c → (codes "locate" ≡ name) ⊎ ((codes "make" ≡ name) ⊎ (codes "seed" ≡ name))
    go true e b f c g = inl ((bytes_eq-Decides (codes "locate") name).0 e)
    go false e true f c g = inr (inl ((bytes_eq-Decides (codes "make") name).0 f))
    go false e false f true g = inr (inr ((bytes_eq-Decides (codes "seed") name).0 g))
    go false e false f false g =
        let bad : false ≡ true = sym (ap (λ t. t || (bytes_eq (codes "make") name || (bytes_eq (codes "seed") name || false))) e
        ∙ ap (λ t. t || (bytes_eq (codes "seed") name || false)) f ∙ ap (λ t. t || false) g) ∙ known in
        cc

pub name_read_as : (name : Text) → IsName name → IsReadAs name
name_read_as name known = elim (one_of_three name known) [
  | inl e ↦ subst IsReadAs e locate_read_as
  | inr (inl e) ↦ subst IsReadAs e make_read_as
  | inr (inr e) ↦ subst IsReadAs e seed_read_as
]

-- ---- values

-- the value begins with no hyphen
abbrev pub IsPlain : Text → Type 0
IsPlain v = strip_byte 45 v ≡ None

found_step : {X : Type 0} (p : X → Bool) (y : X) (ys : List X) (x : X) → (find p ys ≡ Some x → p x ≡ true) → find p (y ∷ ys) ≡ Some x → p x ≡ true
found_step p y ys x later h = go (p y) refl
  where
    go : (b : Bool) → p y ≡ b → p x ≡ true
    go true e = let same : Some y ≡ Some x = rw e at h in let is : y ≡ x = cc in subst (λ z. p z ≡ true) is e
    go false e = later (rw e at h)

-- what is found first passes the test
found_passes : {X : Type 0} (p : X → Bool) (xs : List X) (x : X) → find p xs ≡ Some x → p x ≡ true
found_passes p [] x h = cc
found_passes p (y ∷ ys) x h = found_step p y ys x (found_passes p ys x) h

-- a word that spells a way of location is its name
spelt : (word : Text) (s : Strategy) → strategy_named word ≡ Some s → strategy_name s ≡ word
spelt word s h = (bytes_eq-Decides (strategy_name s) word).0 (found_passes (λ t. bytes_eq (strategy_name t) word) (Naive ∷ Walk ∷ Landmarks ∷ Trapezoid ∷ []) s h)

plain_name : (s : Strategy) → IsPlain (strategy_name s)
plain_name Naive = refl
plain_name Walk = refl
plain_name Landmarks = refl
plain_name Trapezoid = refl

-- each of the values is one that its option has
record AreRead (first second third : Option Text) (options : Options) : Type 0 where
  strategy : strategy_read first ≡ Some options.strategy
  make : make_read second ≡ Some options.make
  seed : seed_read third ≡ Some options.seed

each_read : (locate make seed : Option Text) (options : Options) → options_read locate make seed ≡ Some options → AreRead locate make seed options
each_read locate make seed options h = go (strategy_read locate) refl (make_read make) refl (seed_read seed) refl h
  where
    go : (s : Option Strategy) → strategy_read locate ≡ s → (m : Option (Option ℕ)) → make_read make ≡ m → (k : Option ℕ) → seed_read seed ≡ k
        → options_of s m k ≡ Some options → AreRead locate make seed options
    go None e m f k g h = cc
    go (Some s) e None f k g h = cc
    go (Some s) e (Some m) f None g h = cc
    go (Some s) e (Some m) f (Some k) g h =
        let is : options_with s m k ≡ options = cc in
        record { strategy = e ∙ ap (λ o. Some o.strategy) is; make = f ∙ ap (λ o. Some o.make) is; seed = g ∙ ap (λ o. Some o.seed) is }

plain_strategy : (v : Text) (s : Strategy) → strategy_read (Some v) ≡ Some s → IsPlain v
plain_strategy v s h = subst IsPlain (spelt v s h) (plain_name s)

plain_make : (v : Text) (m : Option ℕ) → make_read (Some v) ≡ Some m → IsPlain v
plain_make v m h = go (number_between 1 MAX_SEGMENTS v) refl h
  where
    go : (o : Option ℕ) → number_between 1 MAX_SEGMENTS v ≡ o → option_map Some o ≡ Some m → IsPlain v
    go None e k = cc
    go (Some n) e k = plain_number 1 MAX_SEGMENTS v n e

plain_seed : (v : Text) (k : ℕ) → seed_read (Some v) ≡ Some k → IsPlain v
plain_seed v k h = plain_number 0 4294967295 v k h

-- a value from which options are read is plain
pub plain_value : (g : Given) (given : List Given) (options : Options) → IsName g.name → value_given g.name given ≡ Some g.value
    → options_given given ≡ Some options → IsPlain g.value
plain_value g given options known is read = elim (one_of_three g.name known) [
  | inl e ↦ plain_strategy g.value options.strategy (sym (ap strategy_read (here e)) ∙ each.strategy)
  | inr (inl e) ↦ plain_make g.value options.make (sym (ap make_read (here e)) ∙ each.make)
  | inr (inr e) ↦ plain_seed g.value options.seed (sym (ap seed_read (here e)) ∙ each.seed)
]
  where
    each : AreRead (value_given (codes "locate") given) (value_given (codes "make") given) (value_given (codes "seed") given) options
    each = each_read (value_given (codes "locate") given) (value_given (codes "make") given) (value_given (codes "seed") given) options read

    here : {name : Text} → name ≡ g.name → value_given name given ≡ Some g.value
    here e = ap (λ n. value_given n given) e ∙ is
