-- The clockwise order of ways out of a vertex, made of a strict order of them.
use Rattle.std.specs.Prelude.{◌≡◌, ◌≢◌, ◌⊎◌, Bool, true, false, cond, not, ◌&&◌, ◌||◌}

-- lt is a strict order of the ways that P holds of, and tells them apart (this project)
pub record IsStrictOn {W : Type 0} (lt : W → W → Bool) (P : W → Type 0) : Type 0 where
  pub itself : (x : W) → P x → lt x x ≡ true → ⊥
  pub asym : (x y : W) → P x → P y → lt x y ≡ true → lt y x ≡ true → ⊥
  pub on : (x y z : W) → P x → P y → P z → lt x y ≡ true → lt y z ≡ true → lt x z ≡ true
  pub total : (x y : W) → P x → P y → lt x y ≡ false → lt y x ≡ false → x ≡ y

-- clockwise from just after d, a is met before b; d itself is met last, after a full turn (CGAL manual, circulator around a vertex)
abbrev pub sooner_by : {W : Type 0} → (W → W → Bool) → W → W → W → Bool
sooner_by lt d a b = cond (lt d a) (not (lt d b) || lt a b) (not (lt d b) && lt a b)

-- going round from any way meets all ways that P holds of in one order, the same for every start but for where it begins (this project)
pub record IsRoundOn {W : Type 0} (sooner : W → W → W → Bool) (P : W → Type 0) : Type 0 where
  pub apart : (d a b : W) → P d → P a → P b → sooner d a b ≡ true → sooner d b a ≡ true → ⊥
  pub through : (d a b c : W) → P d → P a → P b → P c → sooner d a b ≡ true → sooner d b c ≡ true → sooner d a c ≡ true
  pub either : (d a b : W) → P d → P a → P b → a ≢ b → (sooner d a b ≡ true) ⊎ (sooner d b a ≡ true)
  pub last : (d a : W) → P d → P a → a ≢ d → sooner d a d ≡ true
  pub turned : (d a b : W) → P d → P a → P b → sooner d a b ≡ true → b ≢ d → sooner a b d ≡ true
  pub onward : (a x b c : W) → P a → P x → P b → P c → sooner a x b ≡ true → sooner a b c ≡ true → sooner x b c ≡ true
  pub inward : (a x b c : W) → P a → P x → P b → P c → sooner a x c ≡ true → sooner x b c ≡ true → sooner a b c ≡ true
