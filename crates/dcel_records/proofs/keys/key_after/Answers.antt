use Rattle.std.proofs.Common.{arith, inl, inr}
use Rattle.std.proofs.lemmas.Bool.{cases_lt}
use Rattle.dcel_records.proofs.After.{key_found, key_none}
use Rattle.dcel_records.proofs.keys.key_after.Goals as goal

pub returns-then-contains : goal.returns-then-contains
returns-then-contains g c =
    key_found c.args.slab.now c.args.key c.loop-k.k ((c.first_after-first.ensures c.loop-k.k c.loop-k-test.true).1 c.loop-k.auto.k) (c.contains.ensures.0 c.if-contains.true)
    (λ j l a. c.loop-k.invariant j ((c.first_after-first.ensures j (let t = c.loop-k-test.true in omega arith)).0 a) l)

pub returns : goal.returns
returns g c =
    key_none c.args.slab.now c.args.key (λ n a. elim (cases_lt n c.args.limit) [
      | inl l ↦ c.loop-k.invariant n ((c.first_after-first.ensures n l).0 a) (let t = c.loop-k-test.false in omega arith)
      | inr m ↦ c.requires n m
    ])
