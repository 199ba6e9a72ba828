use Rattle.std.proofs.Common.{refl, sym, ap, ◌∙◌, subst, arith}
use Rattle.slab_laws.specs.Kinds.{is_outer}
use Rattle.slab_laws.specs.View.{HasCycle, cycle_after_in, kind_in}
use Rattle.dcel_records.specs.RecordsView.{FacesView, lists_in_view, lists_of, tables_of}
use Rattle.face_ranks.specs.OuterKeys.{cycle_rank_key}
use Rattle.face_ranks.proofs.GivenRanks.{same_map}
use Rattle.face_ranks.proofs.KeysPushed.{none_pushed, cycle_has, fewer_cycles, one_pushed, one_passed, key_fits, all_pushed}
use Rattle.face_ranks.proofs.LeadsRead.{outer_told}
use Rattle.face_ranks.proofs.order.push_keys.Goals as goal

pub loop-cycle-init : goal.loop-cycle-init
loop-cycle-init c =
    let h = c.args.records.now in
    record { graph = refl; faces = refl; pushed = none_pushed h.graph (tables_of h) (lists_of h) h.ranks.order c.requires.empty }

pub kind-requires : goal.kind-requires
kind-requires c =
    let h = c.args.records.now in
    let i = c.loop-cycle.invariant in
    subst (λ (f : FacesView). HasCycle f.tables c.in-Some.cycle) (sym i.faces)
    (cycle_has h.graph (tables_of h) (lists_of h) c.loop-cycle.last c.in-Some.cycle c.face_laws.ensures.cycles_ascend (c.in-Some.ensures.after ∙ (λ j. cycle_after_in (i.faces j).tables c.loop-cycle.last)))

pub key_of-key-requires-clause-map : goal.key_of-key-requires-clause-map
key_of-key-requires-clause-map c = same_map c.args.records.now c.loop-cycle.records c.loop-cycle.invariant.graph c.loop-cycle.invariant.faces c.requires.map

pub push_key-requires : goal.push_key-requires
push_key-requires c =
    let h = c.args.records.now in
    let i = c.loop-cycle.invariant in
    let outer = (λ j. is_outer (kind_in (sym i.faces j).tables c.in-Some.cycle)) ∙ ap is_outer (sym c.kind.ensures) ∙ sym (outer_told c.kind.result) ∙ sym c.eq.ensures ∙ c.if-eq.true in
    let fits = key_fits h.graph (tables_of h) (lists_of h) c.loop-cycle.last c.in-Some.cycle c.face_laws.ensures.cycles_ascend (c.in-Some.ensures.after ∙ (λ j. cycle_after_in (i.faces j).tables c.loop-cycle.last)) c.loop-cycle.records.ranks.order i.pushed outer in
    let room = c.face_laws.ensures.all_cycles_fit in
    let capacity = ap (λ (f : FacesView). f.capacity_of_cycles) i.faces in
    omega arith

pub loop-cycle-smaller-then-eq : goal.loop-cycle-smaller-then-eq
loop-cycle-smaller-then-eq c =
    let h = c.args.records.now in
    fewer_cycles h.graph (tables_of h) (lists_of h) c.loop-cycle.last c.in-Some.cycle c.face_laws.ensures.cycles_ascend (c.in-Some.ensures.after ∙ (λ j. cycle_after_in (c.loop-cycle.invariant.faces j).tables c.loop-cycle.last))

pub loop-cycle-preserved-then-eq : goal.loop-cycle-preserved-then-eq
loop-cycle-preserved-then-eq c =
    let h = c.args.records.now in
    let i = c.loop-cycle.invariant in
    let outer = (λ j. is_outer (kind_in (sym i.faces j).tables c.in-Some.cycle)) ∙ ap is_outer (sym c.kind.ensures) ∙ sym (outer_told c.kind.result) ∙ sym c.eq.ensures ∙ c.if-eq.true in
    record {
      graph = c.push_key.ensures.graph ∙ i.graph;
      faces = c.push_key.ensures.faces ∙ i.faces;
      pushed =
          one_pushed h.graph (tables_of h) (lists_of h) c.loop-cycle.last c.in-Some.cycle c.face_laws.ensures.cycles_ascend (c.in-Some.ensures.after ∙ (λ j. cycle_after_in (i.faces j).tables c.loop-cycle.last)) c.loop-cycle.records.ranks.order i.pushed outer
          c.push_key.new.self.ranks.order c.key_of-key.result (c.key_of-key.ensures ∙ (λ j. cycle_rank_key (i.graph j).graph (i.faces j).tables (lists_in_view (i.faces j)) c.in-Some.cycle)) c.push_key.ensures.order;
    }

pub loop-cycle-smaller : goal.loop-cycle-smaller
loop-cycle-smaller c =
    let h = c.args.records.now in
    fewer_cycles h.graph (tables_of h) (lists_of h) c.loop-cycle.last c.in-Some.cycle c.face_laws.ensures.cycles_ascend (c.in-Some.ensures.after ∙ (λ j. cycle_after_in (c.loop-cycle.invariant.faces j).tables c.loop-cycle.last))

pub loop-cycle-preserved : goal.loop-cycle-preserved
loop-cycle-preserved c =
    let h = c.args.records.now in
    let i = c.loop-cycle.invariant in
    let inner = (λ j. is_outer (kind_in (sym i.faces j).tables c.in-Some.cycle)) ∙ ap is_outer (sym c.kind.ensures) ∙ sym (outer_told c.kind.result) ∙ sym c.eq.ensures ∙ c.if-eq.false in
    record {
      graph = i.graph;
      faces = i.faces;
      pushed = one_passed h.graph (tables_of h) (lists_of h) c.loop-cycle.last c.in-Some.cycle c.face_laws.ensures.cycles_ascend (c.in-Some.ensures.after ∙ (λ j. cycle_after_in (i.faces j).tables c.loop-cycle.last)) c.loop-cycle.records.ranks.order i.pushed inner;
    }

pub returns-clause-order : goal.returns-clause-order
returns-clause-order c =
    let h = c.args.records.now in
    let i = c.loop-cycle.invariant in
    all_pushed h.graph (tables_of h) (lists_of h) c.loop-cycle.last c.loop-cycle.records.ranks.order (sym c.in_default.is ∙ c.cycle_after.ensures.after ∙ (λ j. cycle_after_in (i.faces j).tables c.loop-cycle.last)) i.pushed

pub returns-clause-graph : goal.returns-clause-graph
returns-clause-graph c = c.loop-cycle.invariant.graph

pub returns-clause-faces : goal.returns-clause-faces
returns-clause-faces c = c.loop-cycle.invariant.faces
