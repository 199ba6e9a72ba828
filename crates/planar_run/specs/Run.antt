-- A run: the lines are answered one after the other, each in the world that the lines before it left.
use Rattle.std.specs.Prelude.{◌≡◌, ℕ, List, [], ◌∷◌, ◌++◌}
use Rattle.planar_run.specs.World.{World}
use Rattle.planar_run.specs.Answer.{Replies}

-- from this world on, these lines are answered by these bytes and leave that world
abbrev pub AnswersLines : World → List (List ℕ) → List ℕ → World → Type 0
AnswersLines world [] out end = (out ≡ []) × (end ≡ world)
AnswersLines world (line ∷ more) out end =
    (text : List ℕ) × (rest : List ℕ) × (next : World) × Replies world line text next × (out ≡ text ++ rest) × AnswersLines next more rest end

-- the bytes are a run of these lines from this world on
abbrev pub IsRun : World → List (List ℕ) → List ℕ → Type 0
IsRun first lines out = (end : World) × AnswersLines first lines out end

-- the bytes begin such a run
abbrev pub BeginsRun : World → List (List ℕ) → List ℕ → Type 0
BeginsRun first lines out = (more : List ℕ) × IsRun first lines (out ++ more)
