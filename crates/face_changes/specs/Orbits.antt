-- What becomes of the orbits of a one-to-one map where two new elements d and m are put in: L gives the old labels of orbits, M the new ones.
use Rattle.std.specs.Prelude.{◌≡◌, ◌⊎◌, List}
use Rattle.std.specs.List.{Contains}

-- the orbit of a has become those of d and of m; the others are as they were
pub record IsOrbitSplit {X : Type 0} (L M : X → X) (xs : List X) (d m a : X) : Type 0 where
  pub two : M d ≡ M m → ⊥
  pub within : (x : X) → Contains xs x → L x ≡ L a → (M x ≡ M d) ⊎ (M x ≡ M m)
  pub from_d : (x : X) → Contains xs x → M x ≡ M d → L x ≡ L a
  pub from_m : (x : X) → Contains xs x → M x ≡ M m → L x ≡ L a
  pub kept : (x y : X) → Contains xs x → Contains xs y → M x ≡ M y → L x ≡ L y
  pub still : (x y : X) → Contains xs x → Contains xs y → (L x ≡ L a → ⊥) → L x ≡ L y → M x ≡ M y

-- the orbits of a and of b have become one, that of d and m; the others are as they were
pub record AreOrbitsUnited {X : Type 0} (L M : X → X) (xs : List X) (d m a b : X) : Type 0 where
  pub one : M d ≡ M m
  pub within : (x : X) → Contains xs x → (L x ≡ L a) ⊎ (L x ≡ L b) → M x ≡ M d
  pub from : (x : X) → Contains xs x → M x ≡ M d → (L x ≡ L a) ⊎ (L x ≡ L b)
  pub still : (x y : X) → Contains xs x → Contains xs y → L x ≡ L y → M x ≡ M y
  pub kept : (x y : X) → Contains xs x → Contains xs y → M x ≡ M y → (L x ≡ L y) ⊎ (M x ≡ M d)

-- of the old elements two have one new label exactly where they had one
pub record AreOrbitsKept {X : Type 0} (L M : X → X) (xs : List X) : Type 0 where
  pub still : (x y : X) → Contains xs x → Contains xs y → L x ≡ L y → M x ≡ M y
  pub kept : (x y : X) → Contains xs x → Contains xs y → M x ≡ M y → L x ≡ L y
