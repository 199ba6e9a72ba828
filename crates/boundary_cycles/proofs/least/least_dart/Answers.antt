use Rattle.std.proofs.Common.{◌≡◌, ◌<◌, false, sym, ◌∙◌, subst}
use Rattle.slab_laws.specs.declared.names.DartId.{DartId}
use Rattle.slab_laws.specs.View.{next_in}
use Rattle.boundary_cycles.proofs.NamedWalks.{ways, IsWalked, begins, goes_on, ends, smaller, more}
use Rattle.boundary_cycles.proofs.LeastMet.{first_least, less_more, other_more, is_least}
use Rattle.arr_notes.proofs.Names.{same_name as same_read, other_name as other_read}
use Rattle.boundary_cycles.proofs.least.least_dart.Goals as goal

pub cycle-init : goal.cycle-init
cycle-init g c =
    let v = g.R.Darts.graph c.args.records.now in
    ((λ x. false), begins v c.requires.sound c.args.d c.requires.dart, first_least v c.requires.sound c.args.d c.requires.dart, c.start_of-least_start.ensures)

pub returns-then-eq-clause-has : goal.returns-then-eq-clause-has
returns-then-eq-clause-has g c = c.cycle.invariant.2.there

pub returns-then-eq-clause-least : goal.returns-then-eq-clause-least
returns-then-eq-clause-least g c =
    let v = g.R.Darts.graph c.args.records.now in
    let w = c.cycle.invariant in
    let s = c.requires.sound in
    let D = c.requires.dart in
    let e : next_in v c.cycle.dart ≡ c.args.d = sym c.next-dart.ensures ∙ same_read c.next-dart.result c.args.d c.eq.result c.eq.ensures c.if-eq.true in
    is_least v s c.args.d D c.cycle.least (more c.cycle.dart w.0) w.2 (ends v s c.args.d D c.cycle.dart w.0 w.1 e)

pub start_of-start-requires-clause-dart : goal.start_of-start-requires-clause-dart
start_of-start-requires-clause-dart g c =
    let v = g.R.Darts.graph c.args.records.now in
    let w = c.cycle.invariant in
    let s = c.requires.sound in
    let D = c.requires.dart in
    let ne : next_in v c.cycle.dart ≡ c.args.d → ⊥ = λ e. other_read c.next-dart.result c.args.d c.eq.result c.eq.ensures c.if-eq.false (c.next-dart.ensures ∙ e) in
    let walked : IsWalked v c.args.d c.next-dart.result (more c.cycle.dart w.0) = subst (λ (z : DartId). IsWalked v c.args.d z (more c.cycle.dart w.0)) (sym c.next-dart.ensures) (goes_on v s c.args.d D c.cycle.dart w.0 w.1 ne) in
    walked.at_there

pub comes_before-requires-clause-one : goal.comes_before-requires-clause-one
comes_before-requires-clause-one g c =
    let v = g.R.Darts.graph c.args.records.now in
    let w = c.cycle.invariant in
    let s = c.requires.sound in
    let D = c.requires.dart in
    let ne : next_in v c.cycle.dart ≡ c.args.d → ⊥ = λ e. other_read c.next-dart.result c.args.d c.eq.result c.eq.ensures c.if-eq.false (c.next-dart.ensures ∙ e) in
    let walked : IsWalked v c.args.d c.next-dart.result (more c.cycle.dart w.0) = subst (λ (z : DartId). IsWalked v c.args.d z (more c.cycle.dart w.0)) (sym c.next-dart.ensures) (goes_on v s c.args.d D c.cycle.dart w.0 w.1 ne) in
    walked.at_there

pub cycle-smaller-then-comes_before : goal.cycle-smaller-then-comes_before
cycle-smaller-then-comes_before g c =
    let v = g.R.Darts.graph c.args.records.now in
    let w = c.cycle.invariant in
    let s = c.requires.sound in
    let D = c.requires.dart in
    let ne : next_in v c.cycle.dart ≡ c.args.d → ⊥ = λ e. other_read c.next-dart.result c.args.d c.eq.result c.eq.ensures c.if-eq.false (c.next-dart.ensures ∙ e) in
    subst (λ (z : DartId). ways v c.args.d (next_in v z) < ways v c.args.d (next_in v c.cycle.dart)) (sym c.next-dart.ensures) (smaller v s c.args.d D c.cycle.dart w.0 w.1 ne)

pub cycle-preserved-then-comes_before : goal.cycle-preserved-then-comes_before
cycle-preserved-then-comes_before g c =
    let v = g.R.Darts.graph c.args.records.now in
    let w = c.cycle.invariant in
    let s = c.requires.sound in
    let D = c.requires.dart in
    let ne : next_in v c.cycle.dart ≡ c.args.d → ⊥ = λ e. other_read c.next-dart.result c.args.d c.eq.result c.eq.ensures c.if-eq.false (c.next-dart.ensures ∙ e) in
    let walked : IsWalked v c.args.d c.next-dart.result (more c.cycle.dart w.0) = subst (λ (z : DartId). IsWalked v c.args.d z (more c.cycle.dart w.0)) (sym c.next-dart.ensures) (goes_on v s c.args.d D c.cycle.dart w.0 w.1 ne) in (
      more c.cycle.dart w.0,
      walked,
      less_more v s c.args.d D c.next-dart.result c.cycle.least (more c.cycle.dart w.0) walked w.2 (sym c.comes_before.ensures ∙ c.if-comes_before.true),
      c.start_of-start.ensures,
    )

pub cycle-smaller : goal.cycle-smaller
cycle-smaller g c =
    let v = g.R.Darts.graph c.args.records.now in
    let w = c.cycle.invariant in
    let s = c.requires.sound in
    let D = c.requires.dart in
    let ne : next_in v c.cycle.dart ≡ c.args.d → ⊥ = λ e. other_read c.next-dart.result c.args.d c.eq.result c.eq.ensures c.if-eq.false (c.next-dart.ensures ∙ e) in
    subst (λ (z : DartId). ways v c.args.d (next_in v z) < ways v c.args.d (next_in v c.cycle.dart)) (sym c.next-dart.ensures) (smaller v s c.args.d D c.cycle.dart w.0 w.1 ne)

pub cycle-preserved : goal.cycle-preserved
cycle-preserved g c =
    let v = g.R.Darts.graph c.args.records.now in
    let w = c.cycle.invariant in
    let s = c.requires.sound in
    let D = c.requires.dart in
    let ne : next_in v c.cycle.dart ≡ c.args.d → ⊥ = λ e. other_read c.next-dart.result c.args.d c.eq.result c.eq.ensures c.if-eq.false (c.next-dart.ensures ∙ e) in
    let walked : IsWalked v c.args.d c.next-dart.result (more c.cycle.dart w.0) = subst (λ (z : DartId). IsWalked v c.args.d z (more c.cycle.dart w.0)) (sym c.next-dart.ensures) (goes_on v s c.args.d D c.cycle.dart w.0 w.1 ne) in (
      more c.cycle.dart w.0,
      walked,
      other_more v s c.args.d D c.next-dart.result c.cycle.least (more c.cycle.dart w.0) walked w.2 (sym c.comes_before.ensures ∙ c.if-comes_before.false),
      w.3,
    )
