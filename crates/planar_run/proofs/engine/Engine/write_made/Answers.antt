use Rattle.std.proofs.Common.{◌≡◌, ℕ, List, Result, Ok, Err, Option, subst}
use Rattle.std.specs.Prelude.{OnErr}
use Rattle.outside.specs.Bytes.{GainsPrefix}
use Rattle.planar_run.specs.Made.{AnswersMadePart, IsLastReply}
use Rattle.planar_run.specs.World.{World}
use Rattle.planar_run.proofs.engine.Engine.write_made.Goals as goal

part : {T E : Type 0} (r : Result T E) (old new : Option (List ℕ)) (world : World) (lines : List (List ℕ)) (text given : List ℕ) → IsLastReply world lines text → given ≡ text → OnErr r (GainsPrefix old new given) → OnErr r (AnswersMadePart old new world lines)
part (Ok x) old new world lines text given last e h = tt
part (Err x) old new world lines text given last e h = (text, last, subst (GainsPrefix old new) e h)

pub returns-clause-broken : goal.returns-clause-broken
returns-clause-broken g c = part c.write_all.result _ _ _ _ _ _ c.answer_made.ensures.last c.as_slice.ensures c.write_all.ensures.err
