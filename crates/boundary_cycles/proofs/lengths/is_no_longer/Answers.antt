use Rattle.std.proofs.Common.{◌≡◌, ◌+◌, ◌<◌, arith, false, refl, sym, ap, ◌∙◌, subst}
use Rattle.slab_laws.specs.declared.names.DartId.{DartId}
use Rattle.slab_laws.specs.View.{next_in}
use Rattle.arr_notes.proofs.Names.{same_name as same_read, other_name as other_read}
use Rattle.boundary_cycles.specs.Counted.{cycle_length}
use Rattle.boundary_cycles.proofs.LengthsMet.{met, one_more, fewer_met, all_met, two_fewer}
use Rattle.boundary_cycles.proofs.NamedWalks.{ways, IsWalked, begins, goes_on, smaller, more}
use Rattle.boundary_cycles.proofs.lengths.is_no_longer.Goals as goal

pub both-init : goal.both-init
both-init g c =
    let v = g.R.Darts.graph c.args.records.now in
    let s = c.requires.sound in
    ((λ x. false), (λ x. false), begins v s c.args.d c.requires.one, begins v s c.args.e c.requires.other, refl)

pub returns-then-eq-clause-no_longer : goal.returns-then-eq-clause-no_longer
returns-then-eq-clause-no_longer g c =
    let v = g.R.Darts.graph c.args.records.now in
    let s = c.requires.sound in
    let w = c.both.invariant in
    let e : next_in v c.both.first ≡ c.args.d = sym c.next-first.ensures ∙ same_read c.next-first.result c.args.d c.eq.result c.eq.ensures c.if-eq.true in
    let a : cycle_length v c.args.d ≡ met v w.0 + 1 = all_met v s c.args.d c.requires.one c.both.first w.0 w.2 e in
    let b : met v w.1 < cycle_length v c.args.e = fewer_met v s c.args.e c.requires.other c.both.second w.1 w.3 in
    let m : met v w.0 ≡ met v w.1 = w.4 in
    λ _. omega (a, b, m, arith)

pub returns-then-eq-2-clause-longer : goal.returns-then-eq-2-clause-longer
returns-then-eq-2-clause-longer g c =
    let v = g.R.Darts.graph c.args.records.now in
    let s = c.requires.sound in
    let w = c.both.invariant in
    let ne : next_in v c.both.first ≡ c.args.d → ⊥ = λ e. other_read c.next-first.result c.args.d c.eq.result c.eq.ensures c.if-eq.false (c.next-first.ensures ∙ e) in
    let e : next_in v c.both.second ≡ c.args.e = sym c.next-second.ensures ∙ same_read c.next-second.result c.args.e c.eq-in-both.result c.eq-in-both.ensures c.if-eq-2.true in
    let a : met v w.0 + 1 < cycle_length v c.args.d = two_fewer v s c.args.d c.requires.one c.both.first w.0 w.2 ne in
    let b : cycle_length v c.args.e ≡ met v w.1 + 1 = all_met v s c.args.e c.requires.other c.both.second w.1 w.3 e in
    let m : met v w.0 ≡ met v w.1 = w.4 in
    λ _. omega (a, b, m, arith)

pub both-smaller : goal.both-smaller
both-smaller g c =
    let v = g.R.Darts.graph c.args.records.now in
    let w = c.both.invariant in
    let ne : next_in v c.both.first ≡ c.args.d → ⊥ = λ e. other_read c.next-first.result c.args.d c.eq.result c.eq.ensures c.if-eq.false (c.next-first.ensures ∙ e) in
    subst (λ (z : DartId). ways v c.args.d (next_in v z) < ways v c.args.d (next_in v c.both.first)) (sym c.next-first.ensures)
    (smaller v c.requires.sound c.args.d c.requires.one c.both.first w.0 w.2 ne)

pub both-preserved : goal.both-preserved
both-preserved g c =
    let v = g.R.Darts.graph c.args.records.now in
    let s = c.requires.sound in
    let w = c.both.invariant in
    let ne : next_in v c.both.first ≡ c.args.d → ⊥ = λ e. other_read c.next-first.result c.args.d c.eq.result c.eq.ensures c.if-eq.false (c.next-first.ensures ∙ e) in
    let ne' : next_in v c.both.second ≡ c.args.e → ⊥ = λ e. other_read c.next-second.result c.args.e c.eq-in-both.result c.eq-in-both.ensures c.if-eq-2.false (c.next-second.ensures ∙ e) in (
      more c.both.first w.0,
      more c.both.second w.1,
      subst (λ (z : DartId). IsWalked v c.args.d z (more c.both.first w.0)) (sym c.next-first.ensures) (goes_on v s c.args.d c.requires.one c.both.first w.0 w.2 ne),
      subst (λ (z : DartId). IsWalked v c.args.e z (more c.both.second w.1)) (sym c.next-second.ensures) (goes_on v s c.args.e c.requires.other c.both.second w.1 w.3 ne'),
      one_more v s c.args.d c.requires.one c.both.first w.0 w.2 ∙ ap (λ n. n + 1) w.4 ∙ sym (one_more v s c.args.e c.requires.other c.both.second w.1 w.3),
    )
