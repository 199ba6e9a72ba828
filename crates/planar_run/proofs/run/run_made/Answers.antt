use Rattle.std.proofs.Common.{◌≡◌, inl, inr, subst}
use Rattle.std.specs.Prelude.{◌⊎◌}
use Rattle.script_maker.specs.Script.{script}
use Rattle.planar_run.specs.Made.{AnswersMade, AnswersMadePart}
use Rattle.planar_run.specs.World.{World}
use Rattle.planar_run.specs.declared.status.Status.{Status}
use Rattle.planar_run.specs.declared.status.Status.TheVariants.{Done, NoMemory, WriteFault}
use Rattle.planar_run.proofs.run.run_made.Goals as goal

-- a run that was begun ends by its end or at a write that failed
begun : (s : Status) → (s ≡ Done) ⊎ (s ≡ WriteFault) → s ≡ NoMemory → ⊥
begun s (inl d) e = cc
begun s (inr w) e = cc

one_of : (s : Status) → (s ≡ Done) ⊎ (s ≡ WriteFault) → (s ≡ Done) ⊎ ((s ≡ WriteFault) ⊎ (s ≡ NoMemory))
one_of s (inl d) = inl d
one_of s (inr w) = inr (inl w)

pub returns-in-Ok-clause-made : goal.returns-in-Ok-clause-made
returns-in-Ok-clause-made g c = λ is.
    subst (λ (w : World). AnswersMade (g.K.Sink.taken c.args.sink.now) (g.K.Sink.taken c.answer_made-status.new.sink) w (script c.args.segments c.args.seed)) c.in-Ok.ensures.first (c.answer_made-status.ensures.made is)

pub returns-in-Ok-clause-broken : goal.returns-in-Ok-clause-broken
returns-in-Ok-clause-broken g c = λ is.
    subst (λ (w : World). AnswersMadePart (g.K.Sink.taken c.args.sink.now) (g.K.Sink.taken c.answer_made-status.new.sink) w (script c.args.segments c.args.seed)) c.in-Ok.ensures.first (c.answer_made-status.ensures.broken is)

pub returns-in-Ok-clause-no_memory : goal.returns-in-Ok-clause-no_memory
returns-in-Ok-clause-no_memory g c = λ is. absurd (begun c.answer_made-status.result c.answer_made-status.ensures.only is)

pub returns-in-Ok-clause-only : goal.returns-in-Ok-clause-only
returns-in-Ok-clause-only g c = one_of c.answer_made-status.result c.answer_made-status.ensures.only
