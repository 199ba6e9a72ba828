-- The lines that are left of a made script, by the state of the generator.
use Rattle.std.specs.Prelude.{ℕ, zero, suc, ◌+◌, ◌/◌, ◌%◌, ◌==◌, List, [], ◌∷◌, ◌++◌, codes, if◌then◌else◌}
use Rattle.script_maker.specs.Script.{draw, drop_line, drops_after, ends_of, segment_line, state_after}
use Rattle.script_maker.specs.declared.draws.Ends.{Ends}
use Rattle.script_maker.specs.declared.maker.Stage.{Stage}
use Rattle.script_maker.specs.declared.maker.Stage.TheVariants.{Segments, Drop, Over}

-- the ends of the next segment
abbrev pub ends_from : ℕ → Ends
ends_from state = ends_of (draw state 1) (draw state 2) (draw state 3) (draw state 4)

-- the lines of so many segments, after so many, and the last line
unfoldable pub lines_from : ℕ → ℕ → ℕ → List (List ℕ)
lines_from zero given state = codes "count" ∷ []
lines_from (suc left) given state =
    segment_line (ends_from state) ∷ (drops_after (given + 1) ++ lines_from left (given + 1) (state_after state 4))

-- the lines that are left
abbrev pub remaining : Stage → ℕ → ℕ → ℕ → List (List ℕ)
remaining Segments left given state = lines_from left given state
remaining Drop left given state = drop_line (given / 2) ∷ lines_from left given state
remaining Over left given state = []

-- what comes behind the segment of this number
abbrev pub stage_after : ℕ → Stage
stage_after given = if given % 8 == 0 then Drop else Segments
