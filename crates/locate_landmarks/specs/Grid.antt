-- The grid of the landmarks.
use Rattle.std.specs.Prelude.{◌≡◌, ℕ, ◌<◌, ◌≤◌, ◌*◌, ℤ, pos, ◌-ℤ◌, ◌*ℤ◌, ◌≤ℤ◌, unsigned_abs, ◌/◌, ◌%◌}
use Rattle.exact_plane.specs.Point.{Point}
use Rattle.exact_plane.specs.Segment.{whole_point}

-- the abscissa of a column, and the ordinate of a row
abbrev pub grid_number : ℕ → ℤ
grid_number k = pos (k * 4194304) -ℤ pos 12582912

-- how far the number x / w is from g, times w
abbrev pub distance : ℤ → ℤ → ℤ → ℕ
distance x w g = unsigned_abs (x -ℤ g *ℤ w)

-- of the seven, the number is nearest to x / w, and the lesser one of two equally near
pub record IsNearest (x w g : ℤ) : Type 0 where
  pub on_grid : (k : ℕ) × (k < 7) × (g ≡ grid_number k)
  pub nearest : (k : ℕ) → k < 7 → distance x w g ≤ distance x w (grid_number k)
  pub lesser : (k : ℕ) → k < 7 → distance x w (grid_number k) ≡ distance x w g → g ≤ℤ grid_number k

-- the landmark at a place in the list of them all
abbrev pub landmark_at : ℕ → Point
landmark_at k = whole_point (grid_number (k / 7)) (grid_number (k % 7))
