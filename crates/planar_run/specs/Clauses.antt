-- The words of the top call's clauses.
use Rattle.std.specs.Prelude.{◌≡◌, ◌≢◌, ◌⊎◌, ℕ, ◌+◌, ◌≤◌, List, [], ◌∷◌, ◌++◌, length, take, codes, Option, Some, IfSome}
use Rattle.outside.specs.Counts.{Rose}
use Rattle.planar_run.specs.declared.run.TheConstants.{SCRIPT_LIMIT}
use Rattle.planar_run.specs.declared.status.Status.{Status}
use Rattle.planar_run.specs.declared.status.Status.TheVariants.{Done, Usage, ReadFault, WriteFault, NoMemory, TooLong}
use Rattle.planar_run.specs.Lines.{lines, ended_lines}
use Rattle.planar_run.specs.World.{World}
use Rattle.planar_run.specs.Run.{IsRun, BeginsRun}
use Rattle.planar_run.specs.Engine.{Answers, AnswersPart}

-- what answers words that are outside the grammar
abbrev pub usage_line : List ℕ
usage_line = codes "usage: planar [--locate naive|walk|landmarks|trapezoid] [--make N] [--seed N]" ++ 10 ∷ []

-- where the source tells what it has left: the bytes by which it became shorter have P
abbrev pub Used : Option (List ℕ) → Option (List ℕ) → (List ℕ → Type 0) → Type 0
Used left left' P = IfSome left (λ script. (used : List ℕ) × (rest : List ℕ) × (script ≡ used ++ rest) × (left' ≡ Some rest) × P used)

-- where the source and the sink tell their bytes: the bytes used and the bytes written have P
abbrev pub UsedAndWritten : Option (List ℕ) → Option (List ℕ) → Option (List ℕ) → Option (List ℕ) → (List ℕ → List ℕ → Type 0) → Type 0
UsedAndWritten left left' taken taken' P =
    IfSome left (λ script. IfSome taken (λ before.
    (used : List ℕ) × (rest : List ℕ) × (out : List ℕ)
    × (script ≡ used ++ rest) × (left' ≡ Some rest) × (taken' ≡ Some (before ++ out)) × P used out))

-- what a source that tells has left is nothing
abbrev pub ReadToEnd : Option (List ℕ) → Option (List ℕ) → Type 0
ReadToEnd left left' = IfSome left (λ script. left' ≡ Some [])

-- the bytes written answer the lines of the bytes used
abbrev pub AnswersScript : World → Option (List ℕ) → Option (List ℕ) → Option (List ℕ) → Option (List ℕ) → Type 0
AnswersScript first left left' taken taken' =
    UsedAndWritten left left' taken taken' (λ used out. IsRun first (lines used) out)

-- they begin to answer these lines
abbrev pub AnswersScriptPart : World → Option (List ℕ) → Option (List ℕ) → Option (List ℕ) → Option (List ℕ) → Type 0
AnswersScriptPart first left left' taken taken' =
    UsedAndWritten left left' taken taken' (λ used out. BeginsRun first (lines used) out)

-- they answer the lines of the bytes used whose byte 10 is among these
abbrev pub AnswersEnded : World → Option (List ℕ) → Option (List ℕ) → Option (List ℕ) → Option (List ℕ) → Type 0
AnswersEnded first left left' taken taken' =
    UsedAndWritten left left' taken taken' (λ used out. IsRun first (ended_lines used) out)

-- they answer the lines whose byte 10 is among the first bytes used, up to the limit
abbrev pub AnswersToLimit : World → Option (List ℕ) → Option (List ℕ) → Option (List ℕ) → Option (List ℕ) → Type 0
AnswersToLimit first left left' taken taken' =
    UsedAndWritten left left' taken taken' (λ used out. IsRun first (ended_lines (take SCRIPT_LIMIT used)) out)

-- how many bytes were used, and what the bytes written are to them
abbrev pub Ends : World → Status → Option (List ℕ) → Option (List ℕ) → Option (List ℕ) → Option (List ℕ) → Type 0
Ends first Done left left' taken taken' =
    ReadToEnd left left' × Used left left' (λ used. length used ≤ SCRIPT_LIMIT) × AnswersScript first left left' taken taken'
Ends first ReadFault left left' taken taken' =
    Used left left' (λ used. length used ≤ SCRIPT_LIMIT) × AnswersEnded first left left' taken taken'
Ends first WriteFault left left' taken taken' =
    Used left left' (λ used. length used ≤ SCRIPT_LIMIT) × AnswersScriptPart first left left' taken taken'
Ends first TooLong left left' taken taken' =
    Used left left' (λ used. length used ≡ SCRIPT_LIMIT + 1) × AnswersToLimit first left left' taken taken'
Ends first NoMemory left left' taken taken' = (left' ≡ left) × (taken' ≡ taken)
Ends first Usage left left' taken taken' = ⊥

-- which count of faults rose, the source's or the sink's; the other stays, and both do where neither is named
abbrev pub Causes : Status → ℕ → ℕ → ℕ → ℕ → Type 0
Causes ReadFault source source' sink sink' = Rose source source' × (sink' ≡ sink)
Causes WriteFault source source' sink sink' = (source' ≡ source) × Rose sink sink'
Causes other source source' sink sink' = (source' ≡ source) × (sink' ≡ sink)

-- the end of a script answers the line that was begun, if there is one
abbrev pub Finishes : Status → Option (List ℕ) → Option (List ℕ) → World → List ℕ → Type 0
Finishes Done old new world line = ((line ≡ []) × (new ≡ old)) ⊎ ((line ≢ []) × ((after : World) × Answers old new world line after))
Finishes WriteFault old new world line = (line ≢ []) × AnswersPart old new world line
Finishes other old new world line = ⊥
