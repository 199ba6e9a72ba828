use Rattle.std.proofs.Common.{rules, ℕ, List, [], refl, sym, subst, arith}
use Rattle.region_rings.specs.Cycles.{AreWalked}
use Rattle.region_rings.proofs.RingsCut.{none_walked, all_walked}
use Rattle.region_rings.proofs.cycles.cycles_of.Goals as goal

pub loop-first-init : goal.loop-first-init
loop-first-init c =
    let nexts = c.args.nexts.now in
    let places = c.resize.new.self.items in
    let none = none_walked nexts places (search rules) (λ k l. c.in_ok-resize.ensures.by_index.1 k 0 refl (let e = c.new-places.ensures.len in omega arith) l) in
    subst (λ (xs : List ℕ). AreWalked nexts 0 places xs c.new-2.result.items) (sym c.new.ensures.items) (subst (λ (xs : List ℕ). AreWalked nexts 0 places [] xs) (sym c.new-2.ensures.items) none)

pub loop-first-preserved : goal.loop-first-preserved
loop-first-preserved c = c.in_ok-add_ring.ensures

pub returns : goal.returns
returns c = all_walked c.args.nexts.now c.loop-first.first c.loop-first.places.items c.loop-first.cycles.order.items c.loop-first.cycles.ends.items c.loop-first-test.false c.loop-first.invariant
