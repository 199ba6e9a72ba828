-- What is said of a status by the words that were given, and by the counts of faults.
use Rattle.std.proofs.Common.{◌≡◌, ℕ, List, Option, Some, None, inl, inr, refl}
use Rattle.std.specs.Prelude.{◌⊎◌}
use Rattle.outside.specs.Counts.{Rose}
use Rattle.words_in.specs.declared.options.Options.{Options}
use Rattle.words_in.specs.Grammar.{AreInGrammar, HasOptions}
use Rattle.planar_run.specs.Made.{AskForMade, AskForScript}
use Rattle.planar_run.specs.Status.{exit_code}
use Rattle.planar_run.specs.declared.status.Status.{Status}
use Rattle.planar_run.specs.declared.status.Status.TheVariants.{Done, Usage, ReadFault, WriteFault, NoMemory, TooLong}
use Rattle.headline.specs.Rows.{exit_of, IsCaused}

-- ---- the words
-- a run of a made script that no fault of the sink ended
unbroken : (status : Status) → (status ≡ Done) ⊎ ((status ≡ WriteFault) ⊎ (status ≡ NoMemory)) → (status ≡ WriteFault → ⊥) → (status ≡ Done) ⊎ (status ≡ NoMemory)
unbroken status (inl d) n = inl d
unbroken status (inr (inl w)) n = absurd (n w)
unbroken status (inr (inr m)) n = inr m

module _ (words : List (List ℕ)) (status : Status) where
  -- words in the grammar ask for the script of the source or for a made one
  by_make : (options : Options) → HasOptions words options → (make : Option ℕ) → options.make ≡ make
      → (AskForScript words → (status ≡ Done) ⊎ (status ≡ NoMemory))
      → ((segments seed : ℕ) → AskForMade words segments seed → (status ≡ Done) ⊎ ((status ≡ WriteFault) ⊎ (status ≡ NoMemory)))
      → (status ≡ WriteFault → ⊥) → (status ≡ Done) ⊎ (status ≡ NoMemory)
  by_make options has None is of_script of_made n = of_script (options, has, is)
  by_make options has (Some segments) is of_script of_made n = unbroken status (of_made segments options.seed (options, has, is, refl)) n

  pub by_words : AreInGrammar words
      → (AskForScript words → (status ≡ Done) ⊎ (status ≡ NoMemory))
      → ((segments seed : ℕ) → AskForMade words segments seed → (status ≡ Done) ⊎ ((status ≡ WriteFault) ⊎ (status ≡ NoMemory)))
      → (status ≡ WriteFault → ⊥) → (status ≡ Done) ⊎ (status ≡ NoMemory)
  by_words known of_script of_made n = by_make known.0 known.1 known.0.make refl of_script of_made n

-- ---- faults
pub caused : (status : Status) (read read' written written' : ℕ)
    → (status ≡ ReadFault → Rose read read') → (status ≡ WriteFault → Rose written written')
    → ((status ≡ ReadFault → ⊥) → read' ≡ read) → ((status ≡ WriteFault → ⊥) → written' ≡ written)
    → IsCaused status read read' written written'
caused Done read read' written written' r w nr nw = (nr (λ e. absurd cc), nw (λ e. absurd cc))
caused Usage read read' written written' r w nr nw = (nr (λ e. absurd cc), nw (λ e. absurd cc))
caused ReadFault read read' written written' r w nr nw = (r refl, nw (λ e. absurd cc))
caused WriteFault read read' written written' r w nr nw = (nr (λ e. absurd cc), w refl)
caused NoMemory read read' written written' r w nr nw = (nr (λ e. absurd cc), nw (λ e. absurd cc))
caused TooLong read read' written written' r w nr nw = (nr (λ e. absurd cc), nw (λ e. absurd cc))

-- ---- exit statuses
pub one_exit : (status : Status) → exit_code status ≡ exit_of status
one_exit Done = refl
one_exit Usage = refl
one_exit ReadFault = refl
one_exit WriteFault = refl
one_exit NoMemory = refl
one_exit TooLong = refl
