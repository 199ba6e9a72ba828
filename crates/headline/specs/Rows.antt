-- The rows of the headline: what each status of `planar` says. What is said of bytes is said of a source that tells what it has left, and of a sink that tells what it took.
use Rattle.std.specs.Prelude.{◌≡◌, ◌⊎◌, ◌+◌, ◌^◌, ℕ, List, [], length, take, Option, Some, IfSome}
use Rattle.outside.specs.Bytes.{Gains, GainsPrefix}
use Rattle.outside.specs.Counts.{Rose}
use Rattle.slab_laws.specs.declared.names.Strategy.{Strategy}
use Rattle.script_maker.specs.Script.{script}
use Rattle.planar_run.specs.Clauses.{Used, UsedAndWritten}
use Rattle.planar_run.specs.Lines.{lines, ended_lines}
use Rattle.planar_run.specs.Made.{no_memory_reply, EndWith, RunOutOfMemory}
use Rattle.planar_run.specs.Run.{IsRun, BeginsRun}
use Rattle.planar_run.specs.World.{Waiting, first_world}
use Rattle.planar_run.specs.declared.status.Status.{Status}
use Rattle.planar_run.specs.declared.status.Status.TheVariants.{Done, Usage, ReadFault, WriteFault, NoMemory, TooLong}

-- how many bytes a script may have
abbrev pub script_limit : ℕ
script_limit = 2 ^ 26

-- ---- the script of the source, where points are located so, and all these observers wait before its first line
-- nothing of the script is left, and what was written is a run of its lines
pub record IsDone (strategy : Strategy) (observers : List Waiting) (left left' taken taken' : Option (List ℕ)) : Type 0 where
  pub rest : IfSome left (λ script. left' ≡ Some [])
  pub out : UsedAndWritten left left' taken taken' (λ used out. IsRun (first_world strategy observers) (lines used) out)

-- what was written is a run of the lines whose end was read
pub record IsReadFault (strategy : Strategy) (observers : List Waiting) (left left' taken taken' : Option (List ℕ)) : Type 0 where
  pub out : UsedAndWritten left left' taken taken' (λ used out. IsRun (first_world strategy observers) (ended_lines used) out)

-- one byte past the limit was read, and what was written is a run of the lines that end within it
pub record IsTooLong (strategy : Strategy) (observers : List Waiting) (left left' taken taken' : Option (List ℕ)) : Type 0 where
  pub used : Used left left' (λ used. length used ≡ script_limit + 1)
  pub out : UsedAndWritten left left' taken taken' (λ used out. IsRun (first_world strategy observers) (ended_lines (take script_limit used)) out)

-- what was written begins a run of the lines of what was read
pub record IsWriteFault (strategy : Strategy) (observers : List Waiting) (left left' taken taken' : Option (List ℕ)) : Type 0 where
  pub out : UsedAndWritten left left' taken taken' (λ used out. BeginsRun (first_world strategy observers) (lines used) out)

-- ---- a made script of so many segments and this seed, run so
module _ (strategy : Strategy) (observers : List Waiting) (segments seed : ℕ) where
  -- the last reply of a run of its lines, none of whose replies is `no memory`; or `no memory`, where one of its lines is answered so, and none before it
  abbrev pub IsMadeReply : List ℕ → Type 0
  IsMadeReply out =
      EndWith (first_world strategy observers) [] (script segments seed) out
      ⊎ (RunOutOfMemory (first_world strategy observers) (script segments seed) × (out ≡ no_memory_reply))

  -- this reply was written, or a part of it, from its front
  abbrev pub WritesMadeReply : Option (List ℕ) → Option (List ℕ) → Type 0
  WritesMadeReply taken taken' = (out : List ℕ) × IsMadeReply out × Gains taken taken' out

  abbrev pub WritesPartOfMadeReply : Option (List ℕ) → Option (List ℕ) → Type 0
  WritesPartOfMadeReply taken taken' = (out : List ℕ) × IsMadeReply out × GainsPrefix taken taken' out

-- ---- counts of faults
-- the count of the side that is named rose, and the other stays; both stay where none is named
abbrev pub IsCaused : Status → ℕ → ℕ → ℕ → ℕ → Type 0
IsCaused ReadFault read read' written written' = Rose read read' × (written' ≡ written)
IsCaused WriteFault read read' written written' = (read' ≡ read) × Rose written written'
IsCaused other read read' written written' = (read' ≡ read) × (written' ≡ written)

-- ---- exit statuses
abbrev pub exit_of : Status → ℕ
exit_of Done = 0
exit_of Usage = 2
exit_of ReadFault = 3
exit_of WriteFault = 4
exit_of NoMemory = 5
exit_of TooLong = 6
