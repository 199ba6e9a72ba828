use Rattle.std.proofs.Common.{◌≡◌, ◌<◌, false, sym, ap, ◌∙◌, subst}
use Rattle.std.proofs.lemmas.Bool.{false≢true}
use Rattle.slab_laws.specs.declared.names.DartId.{DartId}
use Rattle.slab_laws.specs.View.{HasVertex, next_in, point_in, source_in}
use Rattle.boundary_cycles.specs.Extents.{Covers}
use Rattle.boundary_cycles.proofs.NamedWalks.{ways, IsWalked, begins, goes_on, smaller, more}
use Rattle.boundary_cycles.proofs.ExtentsMet.{covered_more, covered_all}
use Rattle.arr_notes.proofs.Names.{same_name as same_read, other_name as other_read}
use Rattle.boundary_cycles.proofs.extents.extent_of.Goals as goal

pub point-requires : goal.point-requires
point-requires g c = rw c.source.ensures (c.requires.sound.linked.source c.args.d c.requires.dart)

pub cycle-init : goal.cycle-init
cycle-init g c =
    let v = g.R.Darts.graph c.args.records.now in
    ((λ x. false), begins v c.requires.sound c.args.d c.requires.dart, (c.extent_at-extent.ensures.wide, λ x h. absurd (false≢true h)))

pub point-requires-in-cycle : goal.point-requires-in-cycle
point-requires-in-cycle g c =
    let v = g.R.Darts.graph c.args.records.now in
    subst (HasVertex v) (sym c.source-in-cycle.ensures) (c.requires.sound.linked.source c.cycle.dart c.cycle.invariant.1.at_there)

pub returns-then-eq : goal.returns-then-eq
returns-then-eq g c =
    let v = g.R.Darts.graph c.args.records.now in
    let w = c.cycle.invariant in
    let own : Covers c.widened-extent.result (point_in v (source_in v c.cycle.dart)) = subst (Covers c.widened-extent.result) (c.point-in-cycle.ensures ∙ ap (point_in v) c.source-in-cycle.ensures) c.widened-extent.ensures.covers in
    let e : next_in v c.cycle.dart ≡ c.args.d = sym c.next-dart.ensures ∙ same_read c.next-dart.result c.args.d c.eq.result c.eq.ensures c.if-eq.true in
    covered_all v c.requires.sound c.args.d c.requires.dart c.cycle.dart w.0 w.1 c.cycle.extent c.widened-extent.result w.2 c.widened-extent.ensures.wide own c.widened-extent.ensures.keeps e

pub cycle-smaller : goal.cycle-smaller
cycle-smaller g c =
    let v = g.R.Darts.graph c.args.records.now in
    let w = c.cycle.invariant in
    let ne : next_in v c.cycle.dart ≡ c.args.d → ⊥ = λ e. other_read c.next-dart.result c.args.d c.eq.result c.eq.ensures c.if-eq.false (c.next-dart.ensures ∙ e) in
    subst (λ (z : DartId). ways v c.args.d (next_in v z) < ways v c.args.d (next_in v c.cycle.dart)) (sym c.next-dart.ensures)
    (smaller v c.requires.sound c.args.d c.requires.dart c.cycle.dart w.0 w.1 ne)

pub cycle-preserved : goal.cycle-preserved
cycle-preserved g c =
    let v = g.R.Darts.graph c.args.records.now in
    let w = c.cycle.invariant in
    let own : Covers c.widened-extent.result (point_in v (source_in v c.cycle.dart)) = subst (Covers c.widened-extent.result) (c.point-in-cycle.ensures ∙ ap (point_in v) c.source-in-cycle.ensures) c.widened-extent.ensures.covers in
    let ne : next_in v c.cycle.dart ≡ c.args.d → ⊥ = λ e. other_read c.next-dart.result c.args.d c.eq.result c.eq.ensures c.if-eq.false (c.next-dart.ensures ∙ e) in (
      more c.cycle.dart w.0,
      subst (λ (z : DartId). IsWalked v c.args.d z (more c.cycle.dart w.0)) (sym c.next-dart.ensures) (goes_on v c.requires.sound c.args.d c.requires.dart c.cycle.dart w.0 w.1 ne),
      covered_more v c.requires.sound c.args.d c.requires.dart c.cycle.dart w.0 w.1 c.cycle.extent c.widened-extent.result w.2 c.widened-extent.ensures.wide own c.widened-extent.ensures.keeps,
    )
