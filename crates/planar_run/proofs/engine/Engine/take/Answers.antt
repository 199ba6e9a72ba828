use Rattle.std.proofs.Common.{◌≡◌, ℕ, List, [], ◌++◌, Result, Ok, Err, Option, refl, subst}
use Rattle.std.specs.Prelude.{OnOk, OnErr}
use Rattle.outside.specs.Bytes.{Gains, GainsPrefix}
use Rattle.planar_run.specs.World.{World}
use Rattle.planar_run.specs.Answer.{Replies}
use Rattle.planar_run.specs.Gathered.{with_gathered, Passes}
use Rattle.planar_run.specs.Engine.{Takes, TakesPart}
use Rattle.planar_run.proofs.Handed.{Gains-passed, IsFront-gathered, Passes-kept}
use Rattle.planar_run.proofs.engine.Engine.take.Goals as goal

-- a byte that ends a line, and the reply to this, which was put behind those before it
module _ (b : ℕ) (old new : Option (List ℕ)) (gathered : List ℕ) (world after : World) (line next text given : List ℕ)
    (is : b ≡ 10) (said : Replies world line text after) (cleared : next ≡ []) (same : given ≡ text) where
  ends : (now then : Option (List ℕ)) → Gains now then text → Takes b now then world line after next
  ends now then gained = (λ _. ((text, said, gained), cleared), λ other. absurd (other is))

  taken : {T E : Type 0} (r : Result T E) (gathered' : List ℕ) → OnOk r (Passes old new gathered gathered' given) → OnOk r (Takes b (with_gathered old gathered) (with_gathered new gathered') world line after next)
  taken (Ok x) gathered' h = ends (with_gathered old gathered) (with_gathered new gathered') (Gains-passed old new gathered gathered' text (subst (Passes old new gathered gathered') same h))
  taken (Err x) gathered' h = tt

  broken : {T E : Type 0} (r : Result T E) → OnErr r (GainsPrefix old new (gathered ++ given)) → OnErr r (TakesPart b old new gathered world line)
  broken (Ok x) h = tt
  broken (Err x) h = (
    with_gathered old (gathered ++ text),
    after,
    next,
    ends (with_gathered old gathered) (with_gathered old (gathered ++ text)) (Gains-passed old old gathered (gathered ++ text) text (Passes-kept old gathered (gathered ++ text) text refl)),
    IsFront-gathered old new (gathered ++ text) (subst (λ (xs : List ℕ). GainsPrefix old new (gathered ++ xs)) same h),
  )

pub returns-then-byte-eq10-clause-taken : goal.returns-then-byte-eq10-clause-taken
returns-then-byte-eq10-clause-taken g c =
    taken c.args.byte _ _ c.args.replies.now _ _ c.args.self.now.line c.end_line.new.self.line c.end_line.new.self.reply c.as_slice.result.now c.if-byte-eq10.true c.end_line.ensures.replied c.end_line.ensures.cleared c.as_slice.ensures c.put.result c.put.new.self c.put.ensures.ok

pub returns-then-byte-eq10-clause-broken : goal.returns-then-byte-eq10-clause-broken
returns-then-byte-eq10-clause-broken g c =
    broken c.args.byte _ _ c.args.replies.now _ _ c.args.self.now.line c.end_line.new.self.line c.end_line.new.self.reply c.as_slice.result.now c.if-byte-eq10.true c.end_line.ensures.replied c.end_line.ensures.cleared c.as_slice.ensures c.put.result c.put.ensures.err
