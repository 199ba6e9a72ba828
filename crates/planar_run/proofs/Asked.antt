-- Words ask for one thing alone.
use Rattle.std.proofs.Common.{◌≡◌, ℕ, List, Option, Some, None, sym, ap, ap₂, subst, ◌∙◌}
use Rattle.words_in.specs.declared.options.Options.{Options}
use Rattle.words_in.specs.Grammar.{HasOptions}
use Rattle.script_maker.specs.Script.{script}
use Rattle.planar_run.specs.Made.{AnswersMade, AnswersMadePart, AskForMade, AskForScript}
use Rattle.planar_run.specs.World.{World}

-- the options that words give
module _ (words : List (List ℕ)) (options : Options) (alone : (other : Options) → HasOptions words other → other ≡ options) where
  pub no_script : (segments : ℕ) → options.make ≡ Some segments → AskForScript words → ⊥
  no_script segments made asked = let same : None ≡ Some segments = sym asked.2 ∙ ap (λ o. o.make) (alone asked.0 asked.1) ∙ made in cc

  pub not_made : options.make ≡ None → (segments seed : ℕ) → AskForMade words segments seed → ⊥
  not_made none segments seed asked = let same : Some segments ≡ None = sym asked.2 ∙ ap (λ o. o.make) (alone asked.0 asked.1) ∙ none in cc

  so_many : (made : ℕ) → options.make ≡ Some made → (segments seed : ℕ) → AskForMade words segments seed → made ≡ segments
  so_many made is segments seed asked = let same : Some made ≡ Some segments = sym is ∙ sym (ap (λ o. o.make) (alone asked.0 asked.1)) ∙ asked.2 in cc

  seeded : (segments seed : ℕ) → AskForMade words segments seed → options.seed ≡ seed
  seeded segments seed asked = sym (ap (λ o. o.seed) (alone asked.0 asked.1)) ∙ asked.3

  -- what holds of the script that the options give holds of the one that is asked for
  module _ (made : ℕ) (is : options.make ≡ Some made) (segments seed : ℕ) (asked : AskForMade words segments seed) (old new : Option (List ℕ)) (world : World) where
    one_script : script made options.seed ≡ script segments seed
    one_script = ap₂ script (so_many made is segments seed asked) (seeded segments seed asked)

    pub made_so : AnswersMade old new world (script made options.seed) → AnswersMade old new world (script segments seed)
    made_so h = subst (AnswersMade old new world) one_script h

    pub part_so : AnswersMadePart old new world (script made options.seed) → AnswersMadePart old new world (script segments seed)
    part_so h = subst (AnswersMadePart old new world) one_script h
