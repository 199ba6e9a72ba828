use Rattle.std.proofs.Common.{ℕ, ◌+◌, ◌<◌, List, length, take, drop, get_or, Result, Ok, Err, Option, sym, ◌∙◌}
use Rattle.std.specs.Prelude.{OnErr}
use Rattle.std.proofs.lemmas.List.{take_more, take-append-drop}
use Rattle.outside.specs.Bytes.{GainsPrefix}
use Rattle.planar_run.specs.World.{World}
use Rattle.planar_run.specs.Gathered.{with_gathered, Grows}
use Rattle.planar_run.specs.Engine.{Takes, TakesPart, Feeds, FeedsPart}
use Rattle.planar_run.proofs.Handed.{Grows-more, IsFront-after, IsFront-gathered}
use Rattle.planar_run.proofs.Loop.{Feeds-push}
use Rattle.planar_run.proofs.engine.Engine.feed.Goals as goal

OnErr-from : {T E : Type 0} (r : Result T E) (P : Type 0) → P → OnErr r P
OnErr-from (Ok x) P p = tt
OnErr-from (Err e) P p = p

fed_more : (bytes : List ℕ) (i : ℕ) (old mid new : Option (List ℕ)) (p q r : World) (k l m : List ℕ) → i < length bytes → Feeds (take i bytes) old mid p k q l → Takes (get_or bytes i 0) mid new q l r m → Feeds (take (i + 1) bytes) old new p k r m
fed_more bytes i old mid new p q r k l m lt f t = rw (take_more bytes i 0 lt) (Feeds-push (take i bytes) (get_or bytes i 0) old mid new p q r k l m f t)

broken : (bytes : List ℕ) (i : ℕ) (first old new : Option (List ℕ)) (gathered : List ℕ) (p q : World) (k l : List ℕ) → i < length bytes → Feeds (take i bytes) first (with_gathered old gathered) p k q l → Grows first old → TakesPart (get_or bytes i 0) old new gathered q l → FeedsPart bytes first new p k
broken bytes i first old new gathered p q k l lt f grown b = (
  take (i + 1) bytes,
  drop (i + 1) bytes,
  b.0,
  b.1,
  b.2,
  sym (take-append-drop (i + 1) bytes),
  fed_more bytes i first (with_gathered old gathered) b.0 p q b.1 k l b.2 lt f b.3,
  IsFront-after first old new b.0 grown b.4,
)

pub returns-in_err-take-clause-broken : goal.returns-in_err-take-clause-broken
returns-in_err-take-clause-broken g c =
    OnErr-from c.from_residual.result _
    (broken c.args.bytes.now c.loop-byte.byte-index _ _ _ c.loop-byte.replies _ _ _ _ c.loop-byte-test.true c.loop-byte.invariant.fed c.loop-byte.invariant.grows c.in_err-take.ensures.broken)

pub loop-byte-preserved : goal.loop-byte-preserved
loop-byte-preserved g c = record {
  fed = fed_more c.args.bytes.now c.loop-byte.byte-index _ _ _ _ _ _ _ _ _ c.loop-byte-test.true c.loop-byte.invariant.fed c.in_ok-take.ensures.taken;
  grows = Grows-more _ _ _ c.loop-byte.invariant.grows c.in_ok-take.ensures.grows;
  kept = c.take.ensures.kept;
  faults = c.in_ok-take.ensures.cause.same ∙ c.loop-byte.invariant.faults;
}

-- what was gathered to the last byte was handed over in part
in_part : {T E : Type 0} (r : Result T E) (bytes : List ℕ) (i : ℕ) (first old new : Option (List ℕ)) (gathered : List ℕ) (p q : World) (k l : List ℕ) → Feeds (take i bytes) first (with_gathered old gathered) p k q l → Grows first old → OnErr r (GainsPrefix old new gathered) → OnErr r (FeedsPart bytes first new p k)
in_part (Ok x) bytes i first old new gathered p q k l f grown h = tt
in_part (Err x) bytes i first old new gathered p q k l f grown h =
    (take i bytes, drop i bytes, with_gathered old gathered, q, l, sym (take-append-drop i bytes), f, IsFront-after first old new (with_gathered old gathered) grown (IsFront-gathered old new gathered h))

pub returns-clause-broken : goal.returns-clause-broken
returns-clause-broken g c =
    in_part c.flush.result c.args.bytes.now c.loop-byte.byte-index _ _ _ c.loop-byte.replies _ _ _ _ c.loop-byte.invariant.fed c.loop-byte.invariant.grows c.flush.ensures.err
