use Rattle.std.proofs.Common.{◌≡◌, ◌<◌, ℕ, List, length, get_or, not, sym, ap, subst, ◌∙◌}
use Rattle.slab_laws.specs.declared.rows.ListedDart.{ListedDart}
use Rattle.slab_laws.specs.SpansDrawn.{drawn}
use Rattle.face_roots.specs.declared.ranks.Root.TheVariants.{Above}
use Rattle.face_roots.specs.CycleRanks.{IsRootOf}
use Rattle.sweep_graphs.specs.Edges.{edge_between}
use Rattle.dart_orbits.specs.Ways.{row_in}
use Rattle.overlay_sweep.proofs.CycleRoots.{lead_within, leads_itself, kind_of, under_read, under_within, outside_root, edge_in, earlier_cycle, above_root}
use Rattle.overlay_sweep.proofs.EdgeCycles.{cycle_told, above_within}
use Rattle.overlay_sweep.proofs.roots.root_of.Goals as goal

pub is_inner-requires-clause-lead : goal.is_inner-requires-clause-lead
is_inner-requires-clause-lead c =
    subst (λ (xs : List ListedDart). c.lead_of-lead.result < length xs) (sym c.deref.ensures.value)
    (subst (λ (k : ℕ). k < length c.args.orbits.now.darts.items) (sym c.lead_of-lead.ensures) (lead_within (drawn c.args.points.now c.args.edges.now) c.requires.plane c.args.orbits.now c.requires.orbits c.args.cycle c.requires.cycle))

pub is_inner-requires-clause-least : goal.is_inner-requires-clause-least
is_inner-requires-clause-least c =
    ap (λ (xs : List ℕ). get_or xs c.lead_of-lead.result 0) c.deref-3.ensures.value
    ∙ subst (λ (k : ℕ). get_or c.args.orbits.now.leads.items k 0 ≡ k) (sym c.lead_of-lead.ensures) (leads_itself (drawn c.args.points.now c.args.edges.now) c.requires.plane c.args.orbits.now c.requires.orbits c.args.cycle c.requires.cycle)

pub returns-then-not-is_inner : goal.returns-then-not-is_inner
returns-then-not-is_inner c =
    kind_of (drawn c.args.points.now c.args.edges.now) c.requires.plane c.args.orbits.now c.requires.orbits c.args.cycle c.requires.cycle c.lead_of-lead.result c.is_inner.result c.lead_of-lead.ensures c.is_inner.ensures ∙ ap not c.if-not-is_inner.true

pub source_of-requires : goal.source_of-requires
source_of-requires c =
    subst (λ (k : ℕ). k < length c.args.orbits.now.darts.items) (sym c.lead_of-lead.ensures) (lead_within (drawn c.args.points.now c.args.edges.now) c.requires.plane c.args.orbits.now c.requires.orbits c.args.cycle c.requires.cycle)

pub edge_under-requires : goal.edge_under-requires
edge_under-requires c =
    subst (λ (k : ℕ). k < length c.args.below.now) (sym (c.source_of.ensures ∙ ap (λ (k : ℕ). (row_in c.args.orbits.now.darts.items k).source) c.lead_of-lead.ensures))
    (under_within (drawn c.args.points.now c.args.edges.now) c.requires.plane c.args.orbits.now c.requires.orbits c.args.cycle c.requires.cycle c.args.below.now c.requires.below)

pub forward_dart-dart-requires-clause-edge : goal.forward_dart-dart-requires-clause-edge
forward_dart-dart-requires-clause-edge c =
    let g = drawn c.args.points.now c.args.edges.now in
    let o = c.args.orbits.now in
    let es = c.args.below.now in
    let q = under_read g c.requires.plane o c.requires.orbits c.args.cycle c.requires.cycle es c.lead_of-lead.result c.source_of.result c.edge_under.result c.lead_of-lead.ensures c.source_of.ensures c.edge_under.ensures in
    edge_in g c.requires.plane o c.requires.orbits c.args.cycle c.requires.cycle es c.requires.below c.in-Some.edge (q ∙ c.in-Some.is)

pub cycle_of-requires : goal.cycle_of-requires
cycle_of-requires c =
    let g = drawn c.args.points.now c.args.edges.now in
    let o = c.args.orbits.now in
    let es = c.args.below.now in
    let q = under_read g c.requires.plane o c.requires.orbits c.args.cycle c.requires.cycle es c.lead_of-lead.result c.source_of.result c.edge_under.result c.lead_of-lead.ensures c.source_of.ensures c.edge_under.ensures in
    subst (λ (k : ℕ). k < length o.in_cycles.items) (sym c.forward_dart-dart.ensures) (above_within g c.requires.plane (edge_between g.vertices c.in-Some.edge) (edge_in g c.requires.plane o c.requires.orbits c.args.cycle c.requires.cycle es c.requires.below c.in-Some.edge (q ∙ c.in-Some.is)) o c.requires.orbits)

pub returns-in-Some : goal.returns-in-Some
returns-in-Some c =
    let g = drawn c.args.points.now c.args.edges.now in
    let o = c.args.orbits.now in
    let es = c.args.below.now in
    let q = under_read g c.requires.plane o c.requires.orbits c.args.cycle c.requires.cycle es c.lead_of-lead.result c.source_of.result c.edge_under.result c.lead_of-lead.ensures c.source_of.ensures c.edge_under.ensures ∙ c.in-Some.is in
    let k = kind_of g c.requires.plane o c.requires.orbits c.args.cycle c.requires.cycle c.lead_of-lead.result c.is_inner.result c.lead_of-lead.ensures c.is_inner.ensures ∙ ap not c.if-not-is_inner.false in
    let r = c.cycle_of.ensures ∙ ap (λ (d : ℕ). get_or o.in_cycles.items d 0) c.forward_dart-dart.ensures ∙ cycle_told g c.requires.plane (edge_between g.vertices c.in-Some.edge) (edge_in g c.requires.plane o c.requires.orbits c.args.cycle c.requires.cycle es c.requires.below c.in-Some.edge q) o c.requires.orbits in
    subst (IsRootOf g c.args.cycle) (ap Above (sym r))
    (k, earlier_cycle g c.requires.plane o c.requires.orbits c.args.cycle c.requires.cycle es c.requires.below c.in-Some.edge q, above_root g c.requires.plane o c.requires.orbits c.args.cycle c.requires.cycle es c.requires.below c.in-Some.edge q k)

pub returns-in-None : goal.returns-in-None
returns-in-None c =
    let g = drawn c.args.points.now c.args.edges.now in
    let o = c.args.orbits.now in
    let es = c.args.below.now in
    let q = under_read g c.requires.plane o c.requires.orbits c.args.cycle c.requires.cycle es c.lead_of-lead.result c.source_of.result c.edge_under.result c.lead_of-lead.ensures c.source_of.ensures c.edge_under.ensures ∙ c.in-None.is in
    let k = kind_of g c.requires.plane o c.requires.orbits c.args.cycle c.requires.cycle c.lead_of-lead.result c.is_inner.result c.lead_of-lead.ensures c.is_inner.ensures ∙ ap not c.if-not-is_inner.false in
    (k, outside_root g c.requires.plane o c.requires.orbits c.args.cycle c.requires.cycle es c.requires.below q k)
