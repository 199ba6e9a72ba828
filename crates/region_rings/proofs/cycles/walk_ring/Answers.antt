use Rattle.std.proofs.Common.{rules, ◌≡◌, ℕ, List, length, get_or, sym, ap, subst, ◌∙◌, arith}
use Rattle.std.specs.Prelude.{slice_set}
use Rattle.dart_orbits.proofs.Walks.{fewer}
use Rattle.region_rings.proofs.RingWalks.{IsWalking, begin, step, finish, room}
use Rattle.region_rings.proofs.cycles.walk_ring.Goals as goal

pub ring-init : goal.ring-init
ring-init c = begin c.args.nexts.now c.args.first c.args.order.now.items c.args.places.now.items c.requires.placed c.requires.first c.requires.unmet

pub number_at-requires : goal.number_at-requires
number_at-requires c = let a = c.ring.invariant.within in let b = c.ring.invariant.placed.counted in let e = ap length c.deref.ensures.value in omega arith

pub number_at-number-requires : goal.number_at-number-requires
number_at-number-requires c = c.ring.invariant.within

pub ring-smaller : goal.ring-smaller
ring-smaller c =
    let nexts = c.args.nexts.now in
    let h = c.ring.invariant in
    let places = c.ring.places.items in
    let d = c.ring.number in
    let unmet : get_or places d 0 ≡ length nexts = sym (c.number_at.ensures ∙ ap (λ (xs : List ℕ). get_or xs d 0) c.deref.ensures.value) ∙ c.ring-test.true in
    let size : c.len.result ≡ length c.ring.order.items = search rules in
    let set : c.set_number.new.numbers.items ≡ slice_set places d (length c.ring.order.items) = c.set_number.ensures ∙ ap (slice_set places d) size in
    let a = h.within in
    let b = h.placed.counted in
    fewer (length nexts) places c.set_number.new.numbers.items d (length c.ring.order.items) (omega arith) unmet
    (room nexts c.ring.order.items places c.push.new.self.items c.set_number.new.numbers.items d h.placed h.within unmet c.in_ok-push.ensures.items set) set

pub ring-preserved : goal.ring-preserved
ring-preserved c =
    let nexts = c.args.nexts.now in
    let places = c.ring.places.items in
    let d = c.ring.number in
    let unmet : get_or places d 0 ≡ length nexts = sym (c.number_at.ensures ∙ ap (λ (xs : List ℕ). get_or xs d 0) c.deref.ensures.value) ∙ c.ring-test.true in
    let size : c.len.result ≡ length c.ring.order.items = search rules in
    let set : c.set_number.new.numbers.items ≡ slice_set places d (length c.ring.order.items) = c.set_number.ensures ∙ ap (slice_set places d) size in
    subst (λ (k : ℕ). IsWalking nexts c.args.first c.args.order.now.items c.push.new.self.items c.set_number.new.numbers.items k) (sym c.number_at-number.ensures)
    (step nexts c.requires.nexts c.args.first c.args.order.now.items c.ring.order.items places d c.ring.invariant c.push.new.self.items c.set_number.new.numbers.items unmet c.in_ok-push.ensures.items set)

pub returns : goal.returns
returns c =
    finish c.args.nexts.now c.requires.nexts c.args.first c.args.order.now.items c.ring.order.items c.ring.places.items c.ring.number c.ring.invariant c.requires.closed
    (λ e. c.ring-test.false (c.number_at.ensures ∙ ap (λ (xs : List ℕ). get_or xs c.ring.number 0) c.deref.ensures.value ∙ e))
