-- What writes of single links make of the nodes.
use Rattle.std.proofs.Common.{◌≡◌, ◌≢◌, ℕ, Bool, true, false, cond, Option, Some, None, is_some, option_map, refl, sym, ap, ◌∙◌}
use Rattle.chain_laws.specs.Links.{Node, is_at, key_at}
use Rattle.integers.proofs.Tests.{other_number, same_number}

pub at_hit : (at : Option ℕ) (m : ℕ) → at ≡ Some m → is_at at m ≡ true
at_hit at m e = ap (λ o. is_at o m) e ∙ same_number m

pub at_miss : (at : Option ℕ) (m : ℕ) → at ≢ Some m → is_at at m ≡ false
at_miss None m h = refl
at_miss (Some n) m h = other_number m n (λ e. h (ap Some (sym e)))

-- the node that there may be is changed, and no other
abbrev pub AreChanged : (Node → Node) → Option ℕ → (ℕ → Option Node) → (ℕ → Option Node) → Type 0
AreChanged f at old new = (n : ℕ) → new n ≡ cond (is_at at n) (option_map f (old n)) (old n)

-- a change leaves what it doesn't write
pub unwritten : {Y : Type 0} (g : Node → Y) (f : Node → Node) → ((x : Node) → g (f x) ≡ g x) → (at : Option ℕ) (old new : ℕ → Option Node) → AreChanged f at old new → (n : ℕ) → option_map g (new n) ≡ option_map g (old n)
unwritten {Y} g f leaves at old new c n = ap (option_map g) (c n) ∙ by (is_at at n) (old n)
  where
    by : (b : Bool) (o : Option Node) → option_map g (cond b (option_map f o) o) ≡ option_map g o
    by false o = refl
    by true None = refl
    by true (Some x) = ap Some (leaves x)

pub elsewhere : (f : Node → Node) (at : Option ℕ) (old new : ℕ → Option Node) → AreChanged f at old new → (n : ℕ) → at ≢ Some n → new n ≡ old n
elsewhere f at old new c n h = c n ∙ ap (λ b. cond b (option_map f (old n)) (old n)) (at_miss at n h)

pub written : (f : Node → Node) (at : Option ℕ) (old new : ℕ → Option Node) → AreChanged f at old new → (n : ℕ) (x : Node) → at ≡ Some n → old n ≡ Some x → new n ≡ Some (f x)
written f at old new c n x h e = c n ∙ ap (λ b. cond b (option_map f (old n)) (old n)) (at_hit at n h) ∙ ap (option_map f) e

pub still_some : (f : Node → Node) (at : Option ℕ) (old new : ℕ → Option Node) → AreChanged f at old new → (n : ℕ) → is_some (new n) ≡ is_some (old n)
still_some f at old new c n = ap is_some (c n) ∙ by (is_at at n) (old n)
  where
    by : (b : Bool) (o : Option Node) → is_some (cond b (option_map f o) o) ≡ is_some o
    by false o = refl
    by true None = refl
    by true (Some x) = refl

keyed_some : (o : Option Node) (k : ℕ) → option_map (λ x. x.key) o ≡ Some k → (x : Node) × (o ≡ Some x)
keyed_some None k e = absurd (cc)
keyed_some (Some x) k e = (x, refl)

-- the node of a key is there
pub key_some : (node : ℕ → Option Node) (n k : ℕ) → key_at node n ≡ Some k → (x : Node) × (node n ≡ Some x)
key_some node n k e = keyed_some (node n) k e
