use Rattle.std.proofs.Common.{◌≡◌, ℕ, List, [], ◌++◌, Result, Ok, Err, Option, refl, subst, ◌∙◌}
use Rattle.std.specs.Prelude.{OnOk, OnErr}
use Rattle.outside.specs.Bytes.{Gains, GainsPrefix}
use Rattle.planar_run.specs.Gathered.{Passes}
use Rattle.planar_run.proofs.Handed.{Passes-both, GainsPrefix-after}
use Rattle.planar_run.proofs.gathered.Gathered.put.Goals as goal

-- those before it were handed over, and then the reply itself
module _ {T E : Type 0} (old mid new : Option (List ℕ)) (gathered asked between after reply : List ℕ) (same : asked ≡ gathered) (taken : Gains old mid asked) where
  all : (r : Result T E) → between ≡ [] → after ≡ between → OnOk r (Gains mid new reply) → OnOk r (Passes old new gathered after reply)
  all (Ok x) none e h = Passes-both old mid new gathered after reply (subst (Gains old mid) same taken) (e ∙ none) h
  all (Err x) none e h = tt

  some : (r : Result T E) → OnErr r (GainsPrefix mid new reply) → OnErr r (GainsPrefix old new (gathered ++ reply))
  some (Ok x) h = tt
  some (Err x) h = GainsPrefix-after old mid new gathered reply (subst (Gains old mid) same taken) h

pub returns-clause-ok : goal.returns-clause-ok
returns-clause-ok g c =
    all _ _ _ c.args.self.now c.keep.new.self c.flush.new.self c.keep-2.new.self c.args.reply.now (c.if-keep.ensures.full refl) c.in_ok-flush.ensures.ok
    c.write_all.result c.in_ok-flush.ensures.emptied (c.if-keep-2.ensures.full refl) c.write_all.ensures.ok

pub returns-clause-err : goal.returns-clause-err
returns-clause-err g c =
    some _ _ _ c.args.self.now c.keep.new.self c.flush.new.self c.keep-2.new.self c.args.reply.now (c.if-keep.ensures.full refl) c.in_ok-flush.ensures.ok
    c.write_all.result c.write_all.ensures.err
