-- Points (X : Y : W) with W > 0 and lines a x + b y + c = 0, by their numbers.
use Rattle.std.specs.Prelude.{◌≡◌, ℤ, pos, ◌+ℤ◌, ◌-ℤ◌, ◌*ℤ◌, ◌<ℤ◌, ◌⊎◌}

-- positive on the left of the line, 0 on it
abbrev pub side : ℤ → ℤ → ℤ → ℤ → ℤ → ℤ → ℤ
side a b c X Y W = a *ℤ X +ℤ b *ℤ Y +ℤ c *ℤ W

-- positive where the abscissa X2 / W2 is beyond X1 / W1
abbrev pub ahead : ℤ → ℤ → ℤ → ℤ → ℤ
ahead X1 W1 X2 W2 = X2 *ℤ W1 -ℤ X1 *ℤ W2

-- the crossing of two lines, as (cross_x : cross_y : cross_w)
abbrev pub cross_x : ℤ → ℤ → ℤ → ℤ → ℤ → ℤ → ℤ
cross_x a1 b1 c1 a2 b2 c2 = b1 *ℤ c2 -ℤ b2 *ℤ c1

abbrev pub cross_y : ℤ → ℤ → ℤ → ℤ → ℤ → ℤ → ℤ
cross_y a1 b1 c1 a2 b2 c2 = c1 *ℤ a2 -ℤ c2 *ℤ a1

abbrev pub cross_w : ℤ → ℤ → ℤ → ℤ → ℤ → ℤ → ℤ
cross_w a1 b1 c1 a2 b2 c2 = a1 *ℤ b2 -ℤ a2 *ℤ b1

-- point 1 stands before point 2: by the abscissa, then by the ordinate
abbrev pub Before : ℤ → ℤ → ℤ → ℤ → ℤ → ℤ → Type 0
Before X1 Y1 W1 X2 Y2 W2 = ((X1 *ℤ W2) <ℤ (X2 *ℤ W1)) ⊎ ((X1 *ℤ W2 ≡ X2 *ℤ W1) × ((Y1 *ℤ W2) <ℤ (Y2 *ℤ W1)))

-- the numbers of a line that runs from its lower end
abbrev pub RunsForward : ℤ → ℤ → Type 0
RunsForward a b = (pos 0 <ℤ b) ⊎ ((b ≡ pos 0) × (a <ℤ pos 0))
