use Rattle.std.proofs.Common.{ℕ, List, length, get_or, sym, ap, subst, ◌∙◌, arith}
use Rattle.dart_orbits.proofs.Walks.{IsWalking, begin, step, finish, fewer}
use Rattle.dart_orbits.proofs.leads.mark_cycle.Goals as goal

pub cycle-init : goal.cycle-init
cycle-init c = begin c.args.nexts.now c.requires.nexts c.args.first c.requires.first c.args.leads.now.items c.requires.counted c.requires.whole

pub number_at-requires : goal.number_at-requires
number_at-requires c = let a = c.cycle.invariant.within in let b = c.cycle.invariant.counted in let e = ap length c.deref.ensures.value in omega arith

pub number_at-dart-requires : goal.number_at-dart-requires
number_at-dart-requires c = c.cycle.invariant.within

pub cycle-smaller : goal.cycle-smaller
cycle-smaller c =
    let now = c.cycle.leads.items in
    let d = c.cycle.dart in
    let a = c.cycle.invariant.within in
    let b = c.cycle.invariant.counted in
    fewer (length c.args.nexts.now) now c.set_number.new.numbers.items d c.args.first (omega arith)
    (sym (c.number_at.ensures ∙ ap (λ (xs : List ℕ). get_or xs d 0) c.deref.ensures.value) ∙ c.cycle-test.true) c.requires.first c.set_number.ensures

pub cycle-preserved : goal.cycle-preserved
cycle-preserved c =
    let now = c.cycle.leads.items in
    let d = c.cycle.dart in
    subst (IsWalking c.args.nexts.now c.args.first c.args.leads.now.items c.set_number.new.numbers.items) (sym c.number_at-dart.ensures)
    (step c.args.nexts.now c.requires.nexts c.args.first c.requires.first c.args.leads.now.items now c.set_number.new.numbers.items d c.cycle.invariant
    (sym (c.number_at.ensures ∙ ap (λ (xs : List ℕ). get_or xs d 0) c.deref.ensures.value) ∙ c.cycle-test.true) c.set_number.ensures)

pub returns : goal.returns
returns c =
    finish c.args.nexts.now c.requires.nexts c.args.first c.requires.first c.args.leads.now.items c.cycle.leads.items c.cycle.dart c.cycle.invariant
    (λ e. c.cycle-test.false (c.number_at.ensures ∙ ap (λ (xs : List ℕ). get_or xs c.cycle.dart 0) c.deref.ensures.value ∙ e))
