-- A made script: its lines are answered as those of a script are, and one reply alone is written.
use Rattle.std.specs.Prelude.{◌≡◌, ◌≢◌, ◌⊎◌, ℕ, List, [], ◌∷◌, Option, Some, None, codes}
use Rattle.slab_laws.specs.declared.names.Strategy.{Strategy}
use Rattle.words_in.specs.declared.options.Options.{Options}
use Rattle.words_in.specs.Grammar.{HasOptions}
use Rattle.outside.specs.Bytes.{Gains, GainsPrefix}
use Rattle.planar_run.specs.Answer.{Replies}
use Rattle.planar_run.specs.Text.{line_of}
use Rattle.planar_run.specs.World.{World}

-- the reply to a line that finds no memory
abbrev pub no_memory_reply : List ℕ
no_memory_reply = line_of (codes "no memory")

-- from this world on each of these lines is answered, none of them for want of memory, and the last reply is this one; where there is no line, the reply before them is
abbrev pub EndWith : World → List ℕ → List (List ℕ) → List ℕ → Type 0
EndWith world before [] out = out ≡ before
EndWith world before (line ∷ more) out =
    (text : List ℕ) × (next : World) × Replies world line text next × (text ≢ no_memory_reply) × EndWith next text more out

-- from this world on one of these lines finds no memory, and each line before it is answered
abbrev pub RunOutOfMemory : World → List (List ℕ) → Type 0
RunOutOfMemory world [] = ⊥
RunOutOfMemory world (line ∷ more) =
    (text : List ℕ) × (next : World) × Replies world line text next × ((text ≡ no_memory_reply) ⊎ ((text ≢ no_memory_reply) × RunOutOfMemory next more))

-- the last reply to the lines from this world on; or, where one of them finds no memory, the reply to it
abbrev pub IsLastReply : World → List (List ℕ) → List ℕ → Type 0
IsLastReply world lines out = EndWith world [] lines out ⊎ (RunOutOfMemory world lines × (out ≡ no_memory_reply))

-- the sink took the last reply, or a part of it, from its front
abbrev pub AnswersMade : Option (List ℕ) → Option (List ℕ) → World → List (List ℕ) → Type 0
AnswersMade old new world lines = (text : List ℕ) × IsLastReply world lines text × Gains old new text

abbrev pub AnswersMadePart : Option (List ℕ) → Option (List ℕ) → World → List (List ℕ) → Type 0
AnswersMadePart old new world lines = (text : List ℕ) × IsLastReply world lines text × GainsPrefix old new text

-- the words are in the grammar, and the way of location that they give has P
abbrev pub LocateBy : List (List ℕ) → (Strategy → Type 0) → Type 0
LocateBy words P = (options : Options) × HasOptions words options × P options.strategy

-- the words are in the grammar, and ask for the script of the source
abbrev pub AskForScript : List (List ℕ) → Type 0
AskForScript words = (options : Options) × HasOptions words options × (options.make ≡ None)

-- they ask for the script that is made of so many segments and this seed
abbrev pub AskForMade : List (List ℕ) → ℕ → ℕ → Type 0
AskForMade words segments seed = (options : Options) × HasOptions words options × (options.make ≡ Some segments) × (options.seed ≡ seed)
