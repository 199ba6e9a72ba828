use Rattle.std.proofs.Common.{◌≡◌, ℕ, ◌+◌, ◌-◌, ◌≤◌, ◌<◌, List, [], ◌++◌, length, take, Option, Some, None, arith, refl, sym, subst, ◌∙◌}
use Rattle.std.specs.Prelude.{IfSome, ◌↔◌, ◌≢◌, min}
use Rattle.std.proofs.lemmas.List.{length-append, take-append-le}
use Rattle.outside.specs.Bytes.{Loses, IsSpent}
use Rattle.outside.specs.Counts.{next, Rose}
use Rattle.planar_run.specs.declared.run.TheConstants.{SCRIPT_LIMIT, BUFFER}
use Rattle.planar_run.specs.declared.status.Status.{Status}
use Rattle.planar_run.specs.declared.status.Status.TheVariants.{Done, Usage, ReadFault, WriteFault, NoMemory, TooLong}
use Rattle.planar_run.specs.World.{World}
use Rattle.planar_run.specs.Rows.{world_row}
use Rattle.planar_run.specs.Clauses.{Used, Ends, Causes, Finishes}
use Rattle.planar_run.proofs.Ended.{no_calls}
use Rattle.planar_run.proofs.Loop.{Used-none, Used-more, HasSaid-first, HasSaid-fed, Ends-finished, Ends-read_fault, Ends-write_fault, Ends-too_long, Loses-none}
use Rattle.planar_run.proofs.run.answer_script.Goals as goal

-- the part of the buffer that a read fills
module _ (read part fits room : ℕ) (is : read ≡ part) (fit : part ≡ fits) where
  part_some : fits ≡ min room BUFFER → 0 < room → 0 < read
  part_some e h = omega arith

  part_few : fits ≡ min room BUFFER → read ≤ room
  part_few e = omega arith

part_size : (read part fits back whole : ℕ) → read ≡ part → part ≡ fits → back + fits ≡ whole → whole ≡ BUFFER → read + back ≡ BUFFER
part_size read part fits back whole is fit e f = omega arith

-- the room that is left is within the limit, and so is what was read
at_limit : SCRIPT_LIMIT ≤ SCRIPT_LIMIT
at_limit = omega arith

used_within : (room : ℕ) → SCRIPT_LIMIT - room ≤ SCRIPT_LIMIT
used_within room = omega arith

no_room : (room : ℕ) → room ≤ 0 → SCRIPT_LIMIT - room ≡ SCRIPT_LIMIT
no_room room h = omega arith

room_left : (room count : ℕ) → room ≤ SCRIPT_LIMIT → room - count ≤ SCRIPT_LIMIT
room_left room count h = omega arith

-- what a call read is within the limit too
module _ (room count buffer fed : ℕ) (is : fed ≡ count) (bound : count ≤ buffer) (few : buffer ≤ room) (within : room ≤ SCRIPT_LIMIT) where
  fed_within : SCRIPT_LIMIT - room + fed ≤ SCRIPT_LIMIT
  fed_within = omega arith

  fed_counted : SCRIPT_LIMIT - room + fed ≡ SCRIPT_LIMIT - (room - count)
  fed_counted = omega arith

-- a call that read something, and one more call
more_calls : (first before now room count buffer : ℕ) → now ≡ next before → before ≤ first + (SCRIPT_LIMIT - room) → count ≢ 0 → count ≤ buffer → buffer ≤ room → room ≤ SCRIPT_LIMIT → now ≤ first + (SCRIPT_LIMIT - (room - count))
more_calls first before now room count buffer e h some bound few within = omega arith

one_call : (first before now room : ℕ) → now ≡ next before → before ≤ first + (SCRIPT_LIMIT - room) → now ≤ first + (SCRIPT_LIMIT + 1)
one_call first before now room e h = omega arith

-- what ends the script tells its own faults, and no read failed
finished : (status : Status) (old new : Option (List ℕ)) (world : World) (line : List ℕ) (source source' first sink sink' : ℕ) → Finishes status old new world line → Causes status 0 0 sink sink' → source' ≡ source → sink ≡ first → Causes status source source' first sink'
finished Done old new world line source source' first sink sink' f c e g = (e, c.1 ∙ g)
finished WriteFault old new world line source source' first sink sink' f c e g = (e, subst (λ (n : ℕ). Rose n sink') g c.1)
finished Usage old new world line source source' first sink sink' f c e g = absurd f
finished ReadFault old new world line source source' first sink sink' f c e g = absurd f
finished NoMemory old new world line source source' first sink sink' f c e g = absurd f
finished TooLong old new world line source source' first sink sink' f c e g = absurd f

pub reads-init : goal.reads-init
reads-init g c = record {
  used = Used-none (g.S.Source.left c.args.source.now);
  said = HasSaid-first _ (g.S.Source.left c.args.source.now) (g.K.Sink.taken c.args.sink.now) _ c.args.engine.now.line refl c.requires.line;
  kept = c.requires.kept;
  within = at_limit;
  size = refl;
  read_faults = refl;
  calls = no_calls _ _;
  write_faults = refl;
}

pub returns-in-Err-clause-ends : goal.returns-in-Err-clause-ends
returns-in-Err-clause-ends g c =
    let i = c.reads.invariant in
    subst (λ (o : Option (List ℕ)). Ends (world_row (goal.Observer-dyn g) c.args.engine.now.world) ReadFault (g.S.Source.left c.args.source.now) o (g.K.Sink.taken c.args.sink.now) (g.K.Sink.taken c.reads.sink)) (sym c.in-Err.ensures.bytes)
    (Ends-read_fault _ _ _ _ _ (SCRIPT_LIMIT - c.reads.room) _ _ i.used (used_within c.reads.room) i.said)

-- a read of no byte met the end
spent : (left : Option (List ℕ)) (n : ℕ) → IfSome left (λ xs. (n ≡ 0) ↔ (xs ≡ [])) → n ≡ 0 → IsSpent left
spent None n ended e = tt
spent (Some xs) n ended e = ended.0 e

pub returns-then-count-eq0-clause-ends : goal.returns-then-count-eq0-clause-ends
returns-then-count-eq0-clause-ends g c =
    let i = c.reads.invariant in
    let given = c.in-Ok.ensures.bytes in
    let some : 0 < length c.read.new.buf = part_some _ _ _ _ c.read.auto.buf c.split_at_mut-part.ensures.front_len c.min.ensures c.reads-test.true in
    let none : Loses (g.S.Source.left c.reads.source) (g.S.Source.left c.read.new.self) [] = subst (λ (n : ℕ). Loses (g.S.Source.left c.reads.source) (g.S.Source.left c.read.new.self) (take n c.read.new.buf)) c.if-count-eq0.true given.front in
    subst (λ (o : Option (List ℕ)). Ends (world_row (goal.Observer-dyn g) c.args.engine.now.world) c.finish.result (g.S.Source.left c.args.source.now) o (g.K.Sink.taken c.args.sink.now) (g.K.Sink.taken c.finish.new.sink)) (sym (Loses-none _ _ none))
    (Ends-finished _ c.finish.result _ _ _ _ _ (SCRIPT_LIMIT - c.reads.room) _ _ i.used (used_within c.reads.room) i.said (spent _ c.in-Ok.count (given.ended some) c.if-count-eq0.true) c.finish.ensures.finishes)

-- what was read is what the engine is fed
fed_front : (left now : Option (List ℕ)) (n : ℕ) (buffer back bytes : List ℕ) → n ≤ length buffer → bytes ≡ take n (buffer ++ back) → Loses left now (take n buffer) → Loses left now bytes
fed_front left now n buffer back bytes le e l = subst (Loses left now) (sym (e ∙ take-append-le n buffer back le)) l

pub returns-in-Err-feed-clause-ends : goal.returns-in-Err-feed-clause-ends
returns-in-Err-feed-clause-ends g c =
    let i = c.reads.invariant in
    let given = c.in-Ok.ensures.bytes in
    let few : length c.read.new.buf ≤ c.reads.room = part_few _ _ _ _ c.read.auto.buf c.split_at_mut-part.ensures.front_len c.min.ensures in
    let front = fed_front (g.S.Source.left c.reads.source) (g.S.Source.left c.read.new.self) c.in-Ok.count c.read.new.buf c.split_at_mut-part.result.1.now c.split_at.result.0.now given.bound c.split_at.ensures.front given.front in
    let small : SCRIPT_LIMIT - c.reads.room + length c.split_at.result.0.now ≤ SCRIPT_LIMIT = fed_within _ _ _ _ c.split_at.ensures.front_len given.bound few i.within in
    Ends-write_fault _ _ _ _ _ _ _ c.split_at.result.0.now (SCRIPT_LIMIT - c.reads.room) _ _ i.used small i.said front c.in-Err-feed.ensures.broken

pub reads-preserved : goal.reads-preserved
reads-preserved g c =
    let i = c.reads.invariant in
    let given = c.in-Ok.ensures.bytes in
    let few : length c.read.new.buf ≤ c.reads.room = part_few _ _ _ _ c.read.auto.buf c.split_at_mut-part.ensures.front_len c.min.ensures in
    let front = fed_front (g.S.Source.left c.reads.source) (g.S.Source.left c.read.new.self) c.in-Ok.count c.read.new.buf c.split_at_mut-part.result.1.now c.split_at.result.0.now given.bound c.split_at.ensures.front given.front in
    let counted : SCRIPT_LIMIT - c.reads.room + length c.split_at.result.0.now ≡ SCRIPT_LIMIT - (c.reads.room - c.in-Ok.count) = fed_counted _ _ _ _ c.split_at.ensures.front_len given.bound few i.within in record {
      used = subst (λ (n : ℕ). Used (g.S.Source.left c.args.source.now) (g.S.Source.left c.read.new.self) (λ used. length used ≡ n)) counted (Used-more _ _ _ c.split_at.result.0.now (SCRIPT_LIMIT - c.reads.room) i.used front);
      said = HasSaid-fed _ _ _ _ _ _ _ c.split_at.result.0.now (SCRIPT_LIMIT - c.reads.room) _ _ _ _ _ i.said front c.in-Ok-feed.ensures.fed counted;
      kept = c.feed.ensures.kept;
      within = room_left _ _ i.within;
      size = length-append c.read.new.buf c.split_at_mut-part.result.1.now ∙ part_size _ _ _ _ _ c.read.auto.buf c.split_at_mut-part.ensures.front_len c.split_at_mut-part.ensures.back_len i.size;
      read_faults = c.in-Ok.ensures.cause.same ∙ i.read_faults;
      calls = more_calls _ _ _ _ _ _ c.read.ensures.counted i.calls c.if-count-eq0.false given.bound few i.within;
      write_faults = c.in-Ok-feed.ensures.cause.same ∙ i.write_faults;
    }

pub returns-in-Err-read_byte-clause-ends : goal.returns-in-Err-read_byte-clause-ends
returns-in-Err-read_byte-clause-ends g c =
    let i = c.reads.invariant in
    subst (λ (o : Option (List ℕ)). Ends (world_row (goal.Observer-dyn g) c.args.engine.now.world) ReadFault (g.S.Source.left c.args.source.now) o (g.K.Sink.taken c.args.sink.now) (g.K.Sink.taken c.reads.sink)) (sym c.in-Err-read_byte.ensures.err)
    (Ends-read_fault _ _ _ _ _ (SCRIPT_LIMIT - c.reads.room) _ _ i.used (used_within c.reads.room) i.said)

pub returns-in-Ok-None-clause-ends : goal.returns-in-Ok-None-clause-ends
returns-in-Ok-None-clause-ends g c =
    let i = c.reads.invariant in
    let end = rw c.in-Ok-None.field-0-is at c.in-Ok-None.ensures.byte in
    subst (λ (o : Option (List ℕ)). Ends (world_row (goal.Observer-dyn g) c.args.engine.now.world) c.finish-in-Ok-None.result (g.S.Source.left c.args.source.now) o (g.K.Sink.taken c.args.sink.now) (g.K.Sink.taken c.finish-in-Ok-None.new.sink)) (sym end.1)
    (Ends-finished _ c.finish-in-Ok-None.result _ _ _ _ _ (SCRIPT_LIMIT - c.reads.room) _ _ i.used (used_within c.reads.room) i.said end.0 c.finish-in-Ok-None.ensures.finishes)

pub returns-in-Ok-Some-clause-ends : goal.returns-in-Ok-Some-clause-ends
returns-in-Ok-Some-clause-ends g c =
    let i = c.reads.invariant in
    let byte = rw c.in-Ok-Some.field-0-is at c.in-Ok-Some.ensures.byte in
    Ends-too_long _ _ _ _ _ _ _ (SCRIPT_LIMIT - c.reads.room) _ _ i.used (no_room c.reads.room c.reads-test.false) i.said byte

-- ---- faults
pub returns-in-Err-clause-causes : goal.returns-in-Err-clause-causes
returns-in-Err-clause-causes g c = let i = c.reads.invariant in (subst (λ (n : ℕ). Rose n (g.S.Source.faults c.read.new.self)) i.read_faults c.in-Err.ensures.cause.rose, i.write_faults)

pub returns-then-count-eq0-clause-causes : goal.returns-then-count-eq0-clause-causes
returns-then-count-eq0-clause-causes g c =
    let i = c.reads.invariant in finished c.finish.result _ _ _ _ _ _ _ _ _ c.finish.ensures.finishes c.finish.ensures.causes (c.in-Ok.ensures.cause.same ∙ i.read_faults) i.write_faults

pub returns-in-Err-feed-clause-causes : goal.returns-in-Err-feed-clause-causes
returns-in-Err-feed-clause-causes g c =
    let i = c.reads.invariant in (c.in-Ok.ensures.cause.same ∙ i.read_faults, subst (λ (n : ℕ). Rose n (g.K.Sink.faults c.feed.new.sink)) i.write_faults c.in-Err-feed.ensures.cause.rose)

pub returns-in-Err-read_byte-clause-causes : goal.returns-in-Err-read_byte-clause-causes
returns-in-Err-read_byte-clause-causes g c =
    let i = c.reads.invariant in (subst (λ (n : ℕ). Rose n (g.S.Source.faults c.read_byte.new.source)) i.read_faults c.in-Err-read_byte.ensures.cause.rose, i.write_faults)

pub returns-in-Ok-None-clause-causes : goal.returns-in-Ok-None-clause-causes
returns-in-Ok-None-clause-causes g c =
    let i = c.reads.invariant in finished c.finish-in-Ok-None.result _ _ _ _ _ _ _ _ _ c.finish-in-Ok-None.ensures.finishes c.finish-in-Ok-None.ensures.causes (c.in-Ok-None.ensures.cause.same ∙ i.read_faults) i.write_faults

pub returns-in-Ok-Some-clause-causes : goal.returns-in-Ok-Some-clause-causes
returns-in-Ok-Some-clause-causes g c = let i = c.reads.invariant in (c.in-Ok-Some.ensures.cause.same ∙ i.read_faults, i.write_faults)

-- ---- calls
pub returns-in-Err-clause-reads : goal.returns-in-Err-clause-reads
returns-in-Err-clause-reads g c = one_call _ _ _ c.reads.room c.read.ensures.counted c.reads.invariant.calls

pub returns-then-count-eq0-clause-reads : goal.returns-then-count-eq0-clause-reads
returns-then-count-eq0-clause-reads g c = one_call _ _ _ c.reads.room c.read.ensures.counted c.reads.invariant.calls

pub returns-in-Err-feed-clause-reads : goal.returns-in-Err-feed-clause-reads
returns-in-Err-feed-clause-reads g c = one_call _ _ _ c.reads.room c.read.ensures.counted c.reads.invariant.calls

pub returns-in-Err-read_byte-clause-reads : goal.returns-in-Err-read_byte-clause-reads
returns-in-Err-read_byte-clause-reads g c = one_call _ _ _ c.reads.room c.read_byte.ensures.counted c.reads.invariant.calls

pub returns-in-Ok-None-clause-reads : goal.returns-in-Ok-None-clause-reads
returns-in-Ok-None-clause-reads g c = one_call _ _ _ c.reads.room c.read_byte.ensures.counted c.reads.invariant.calls

pub returns-in-Ok-Some-clause-reads : goal.returns-in-Ok-Some-clause-reads
returns-in-Ok-Some-clause-reads g c = one_call _ _ _ c.reads.room c.read_byte.ensures.counted c.reads.invariant.calls
