use Rattle.std.proofs.Common.{ap, sym, ◌∙◌, subst, length, arith}
use Rattle.std.specs.List.Sorted.{IsStrictlyIncreasing}
use Rattle.slab_laws.specs.SpansDrawn.{drawn}
use Rattle.dart_orbits.specs.CycleLinks.{AreBelow, TellPlaces}
use Rattle.dart_orbits.proofs.CyclePlaces.{lead_below, cycle_pushed, cycles_done}
use Rattle.dart_orbits.proofs.LeadsRead.{leads_length}
use Rattle.dart_orbits.proofs.LeastDarts.{places_rise, leads_below}
use Rattle.dart_orbits.proofs.cycles.cycles_at.Goals as goal

pub places_by_leads-requires-clause-rise : goal.places_by_leads-requires-clause-rise
places_by_leads-requires-clause-rise c = subst IsStrictlyIncreasing (sym c.requires.cycles) (places_rise (drawn c.args.points.now c.args.edges.now) c.requires.plane)

pub places_by_leads-requires-clause-below : goal.places_by_leads-requires-clause-below
places_by_leads-requires-clause-below c =
    let g = drawn c.args.points.now c.args.edges.now in
    let n = length c.args.leads.now in
    subst (AreBelow n) (sym c.requires.cycles) (leads_below g c.requires.plane n (ap length c.requires.leads ∙ leads_length g))

pub number_at-requires : goal.number_at-requires
number_at-requires c =
    let a = lead_below (drawn c.args.points.now c.args.edges.now) c.requires.plane c.args.leads.now c.requires.leads c.loop-lead.lead-index c.loop-lead-test.true in
    let b = ap length c.deref.ensures.value ∙ c.in_ok-by_leads.ensures.counted in
    omega arith

pub loop-lead-preserved : goal.loop-lead-preserved
loop-lead-preserved c =
    let g = drawn c.args.points.now c.args.edges.now in
    cycle_pushed g c.requires.plane c.args.leads.now c.requires.leads c.loop-lead.lead-index c.number_at.result c.deref.result.now c.loop-lead.places.items c.push.new.self.items c.loop-lead-test.true
    (subst (λ ks. TellPlaces ks (length ks) c.deref.result.now) c.requires.cycles (subst (TellPlaces c.args.cycles.now (length c.args.cycles.now)) (sym c.deref.ensures.value) c.in_ok-by_leads.ensures.each))
    c.number_at.ensures c.loop-lead.invariant c.in_ok-push.ensures.items

pub returns : goal.returns
returns c = cycles_done (drawn c.args.points.now c.args.edges.now) c.requires.plane c.args.leads.now c.requires.leads c.loop-lead.lead-index c.loop-lead.places.items c.loop-lead-test.false c.loop-lead.invariant
