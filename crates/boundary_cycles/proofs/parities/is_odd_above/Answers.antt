use Rattle.std.proofs.Common.{◌≡◌, ◌<◌, Bool, true, false, sym, ap, ◌∙◌, subst}
use Rattle.std.specs.Prelude.{◌&&◌, ◌==◌, ◌%◌}
use Rattle.std.specs.List.{count_by}
use Rattle.slab_laws.specs.declared.names.DartId.{DartId}
use Rattle.slab_laws.specs.Sound.{edge_in}
use Rattle.slab_laws.specs.View.{HasDart, HasVertex, next_in, point_in, source_in}
use Rattle.arr_notes.specs.CycleNames.{dart_names}
use Rattle.boundary_cycles.specs.Asked.{is_behind_asked, is_above_asked}
use Rattle.boundary_cycles.proofs.NamedWalks.{ways, IsWalked, begins, goes_on, smaller, more}
use Rattle.boundary_cycles.proofs.Counts.{odd_more, odd_same, odd_all, none_counted}
use Rattle.arr_notes.proofs.Names.{same_name as same_read, other_name as other_read}
use Rattle.boundary_cycles.proofs.parities.is_odd_above.Goals.{then-is_above, else-is_above}
use Rattle.boundary_cycles.proofs.parities.is_odd_above.Goals as goal

pub point-requires : goal.point-requires
point-requires g c = rw c.source.ensures (c.requires.sound.linked.source c.args.cycle c.requires.dart)

pub cycle-init : goal.cycle-init
cycle-init g c =
    let v = g.R.Darts.graph c.args.records.now in
    ((λ x. false), c.is_behind-from.ensures ∙ ap (is_behind_asked c.args.asked.now) (c.point.ensures ∙ ap (point_in v) c.source.ensures), begins v c.requires.sound c.args.cycle c.requires.dart, none_counted v (λ x. is_above_asked c.args.asked.now (edge_in v x)))

pub source-requires-in-cycle : goal.source-requires-in-cycle
source-requires-in-cycle g c =
    let v = g.R.Darts.graph c.args.records.now in
    subst (HasDart v) (sym c.next-next.ensures) (c.requires.sound.linked.has c.cycle.dart c.cycle.invariant.2.at_there)

pub point-requires-in-cycle : goal.point-requires-in-cycle
point-requires-in-cycle g c =
    let v = g.R.Darts.graph c.args.records.now in
    subst (HasVertex v) (sym c.source-in-cycle.ensures) (c.requires.sound.linked.source c.next-next.result (subst (HasDart v) (sym c.next-next.ensures) (c.requires.sound.linked.has c.cycle.dart c.cycle.invariant.2.at_there)))

pub is_above-requires-clause-to : goal.is_above-requires-clause-to
is_above-requires-clause-to g c =
    let v = g.R.Darts.graph c.args.records.now in
    c.is_behind-to.ensures ∙ ap (is_behind_asked c.args.asked.now) (c.point-in-cycle.ensures ∙ ap (point_in v) (c.source-in-cycle.ensures ∙ ap (source_in v) c.next-next.ensures ∙ c.requires.sound.linked.joins c.cycle.dart c.cycle.invariant.2.at_there))

pub returns-then-eq : goal.returns-then-eq
returns-then-eq g c =
    let v = g.R.Darts.graph c.args.records.now in
    let w = c.cycle.invariant in
    let s = c.requires.sound in
    let D = c.requires.dart in
    let p : DartId → Bool = λ x. is_above_asked c.args.asked.now (edge_in v x) in
    let m : c.if-is_above.is_odd ≡ (count_by (λ x. more c.cycle.dart w.0 x && p x) (dart_names v) % 2 == 1) = elim c.if-is_above.branch [
      | then-is_above k ↦ k.is_odd-is ∙ odd_more v s c.args.cycle D c.cycle.dart w.0 w.2 p c.cycle.is_odd w.3 (sym c.is_above.ensures ∙ k.if-is_above.true)
      | else-is_above k ↦ k.is_odd-is ∙ odd_same v s c.args.cycle D c.cycle.dart w.0 w.2 p c.cycle.is_odd w.3 (sym c.is_above.ensures ∙ k.if-is_above.false)
    ] in
    let e : next_in v c.cycle.dart ≡ c.args.cycle = sym c.next-next.ensures ∙ same_read c.next-next.result c.args.cycle c.eq.result c.eq.ensures c.if-eq.true in
    odd_all v s c.args.cycle D c.cycle.dart w.0 w.2 p e c.if-is_above.is_odd m

pub cycle-smaller : goal.cycle-smaller
cycle-smaller g c =
    let v = g.R.Darts.graph c.args.records.now in
    let w = c.cycle.invariant in
    let ne : next_in v c.cycle.dart ≡ c.args.cycle → ⊥ = λ e. other_read c.next-next.result c.args.cycle c.eq.result c.eq.ensures c.if-eq.false (c.next-next.ensures ∙ e) in
    subst (λ (z : DartId). ways v c.args.cycle (next_in v z) < ways v c.args.cycle (next_in v c.cycle.dart)) (sym c.next-next.ensures)
    (smaller v c.requires.sound c.args.cycle c.requires.dart c.cycle.dart w.0 w.2 ne)

pub cycle-preserved : goal.cycle-preserved
cycle-preserved g c =
    let v = g.R.Darts.graph c.args.records.now in
    let w = c.cycle.invariant in
    let s = c.requires.sound in
    let D = c.requires.dart in
    let p : DartId → Bool = λ x. is_above_asked c.args.asked.now (edge_in v x) in
    let ne : next_in v c.cycle.dart ≡ c.args.cycle → ⊥ = λ e. other_read c.next-next.result c.args.cycle c.eq.result c.eq.ensures c.if-eq.false (c.next-next.ensures ∙ e) in
    let m : c.if-is_above.is_odd ≡ (count_by (λ x. more c.cycle.dart w.0 x && p x) (dart_names v) % 2 == 1) = elim c.if-is_above.branch [
      | then-is_above k ↦ k.is_odd-is ∙ odd_more v s c.args.cycle D c.cycle.dart w.0 w.2 p c.cycle.is_odd w.3 (sym c.is_above.ensures ∙ k.if-is_above.true)
      | else-is_above k ↦ k.is_odd-is ∙ odd_same v s c.args.cycle D c.cycle.dart w.0 w.2 p c.cycle.is_odd w.3 (sym c.is_above.ensures ∙ k.if-is_above.false)
    ] in
    (more c.cycle.dart w.0, c.is_behind-to.ensures ∙ ap (is_behind_asked c.args.asked.now) (c.point-in-cycle.ensures ∙ ap (point_in v) c.source-in-cycle.ensures), subst (λ (z : DartId). IsWalked v c.args.cycle z (more c.cycle.dart w.0)) (sym c.next-next.ensures) (goes_on v s c.args.cycle D c.cycle.dart w.0 w.2 ne), m)
