-- What bytes of a script do to a world, to the line that was begun, and to what a sink took.
use Rattle.std.specs.Prelude.{◌≡◌, ◌≢◌, ℕ, List, [], ◌∷◌, ◌++◌, take, Option}
use Rattle.outside.specs.Bytes.{Gains, GainsPrefix}
use Rattle.planar_run.specs.declared.line.TheConstants.{KEPT}
use Rattle.planar_run.specs.World.{World}
use Rattle.planar_run.specs.Answer.{Replies}
use Rattle.planar_run.specs.Gathered.{with_gathered, IsFront}

-- the sink took the whole reply to a line
abbrev pub Answers : Option (List ℕ) → Option (List ℕ) → World → List ℕ → World → Type 0
Answers old new world line after = (text : List ℕ) × Replies world line text after × Gains old new text

-- the sink took a part of the reply to a line, from its front
abbrev pub AnswersPart : Option (List ℕ) → Option (List ℕ) → World → List ℕ → Type 0
AnswersPart old new world line = (text : List ℕ) × (after : World) × Replies world line text after × GainsPrefix old new text

-- byte 10 ends the line, which is answered; another byte is kept as far as the limit needs
abbrev pub Takes : ℕ → Option (List ℕ) → Option (List ℕ) → World → List ℕ → World → List ℕ → Type 0
Takes b old new world line after line' =
    (b ≡ 10 → Answers old new world line after × (line' ≡ []))
    × (b ≢ 10 → (after ≡ world) × (line' ≡ take KEPT (line ++ b ∷ [])) × (new ≡ old))

-- several bytes, one after the other
abbrev pub Feeds : List ℕ → Option (List ℕ) → Option (List ℕ) → World → List ℕ → World → List ℕ → Type 0
Feeds [] old new world line after line' = (new ≡ old) × (after ≡ world) × (line' ≡ line)
Feeds (b ∷ bytes) old new world line after line' =
    (mid : Option (List ℕ)) × (w : World) × (l : List ℕ) × Takes b old mid world line w l × Feeds bytes mid new w l after line'

-- one byte; of the replies, with that to the line that it ends, the sink took a front
abbrev pub TakesPart : ℕ → Option (List ℕ) → Option (List ℕ) → List ℕ → World → List ℕ → Type 0
TakesPart b old new gathered world line =
    (whole : Option (List ℕ)) × (after : World) × (line' : List ℕ) × Takes b (with_gathered old gathered) whole world line after line' × IsFront old new whole

-- several bytes; of the replies to the lines that the first of them end, the sink took a front
abbrev pub FeedsPart : List ℕ → Option (List ℕ) → Option (List ℕ) → World → List ℕ → Type 0
FeedsPart bytes old new world line =
    (front : List ℕ) × (back : List ℕ) × (whole : Option (List ℕ)) × (after : World) × (line' : List ℕ)
    × (bytes ≡ front ++ back) × Feeds front old whole world line after line' × IsFront old new whole
