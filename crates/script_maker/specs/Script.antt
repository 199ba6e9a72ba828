-- The script that is made of so many segments and a seed.
use Rattle.std.specs.Prelude.{ℕ, zero, suc, ◌+◌, ◌-◌, ◌*◌, ◌/◌, ◌%◌, ◌^◌, ◌==◌, List, [], ◌∷◌, ◌++◌, codes, if◌then◌else◌}
use Rattle.std.specs.Prelude.{ℤ, pos, ◌+ℤ◌, ◌-ℤ◌}
use Rattle.std.specs.Fmt.{decimal, signed_decimal}
use Rattle.std.specs.List.{flat_map, range_with_len}
use Rattle.script_maker.specs.declared.draws.Ends.{Ends}

-- the state of the generator after one more draw
unfoldable pub next_state : ℕ → ℕ
next_state state = (1103515245 * state + 12345) % 2 ^ 31

-- the state after so many draws
unfoldable pub state_after : ℕ → ℕ → ℕ
state_after seed zero = seed
state_after seed (suc n) = next_state (state_after seed n)

-- the draw of this number, from 1 on
abbrev pub draw : ℕ → ℕ → ℕ
draw seed n = state_after seed n / 65536

-- a segment's ends by four draws: the first point, and the second by its distances from the first
abbrev pub ends_of : ℕ → ℕ → ℕ → ℕ → Ends
ends_of a b c d =
    let x1 = pos a -ℤ pos 16384 in
    let y1 = pos b -ℤ pos 16384 in
    record {
      x1 = x1;
      y1 = y1;
      x2 = (x1 +ℤ pos (c % 2048)) -ℤ pos 1024;
      y2 = (y1 +ℤ pos (d % 2048)) -ℤ pos 1024;
    }

-- a space and a number
abbrev pub spaced : ℤ → List ℕ
spaced number = 32 ∷ signed_decimal number

-- the line of a segment
abbrev pub segment_line : Ends → List ℕ
segment_line ends = codes "segment" ++ (spaced ends.x1 ++ spaced ends.y1 ++ spaced ends.x2 ++ spaced ends.y2)

-- the line that drops a curve
abbrev pub drop_line : ℕ → List ℕ
drop_line curve = codes "drop" ++ 32 ∷ decimal curve

-- the ends of the segment of this number, from 1 on: each segment takes four draws
abbrev pub ends_at : ℕ → ℕ → Ends
ends_at seed k = ends_of (draw seed (4 * k - 3)) (draw seed (4 * k - 2)) (draw seed (4 * k - 1)) (draw seed (4 * k))

-- what follows the segment of this number: every eighth one is followed by a line that drops a curve
abbrev pub drops_after : ℕ → List (List ℕ)
drops_after k = if k % 8 == 0 then drop_line (k / 2) ∷ [] else []

-- the lines of the segment of this number
abbrev pub lines_at : ℕ → ℕ → List (List ℕ)
lines_at seed k = segment_line (ends_at seed k) ∷ drops_after k

-- the lines of the script, without line ends
abbrev pub script : ℕ → ℕ → List (List ℕ)
script segments seed = flat_map (lines_at seed) (range_with_len 1 segments) ++ codes "count" ∷ []
