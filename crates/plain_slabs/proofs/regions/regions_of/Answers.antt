use Rattle.std.proofs.Common.{ap, ap₂, ◌∙◌, map}
use Rattle.std.specs.List.{position_or_len}
use Rattle.slab_laws.specs.declared.rows.CycleRow.{CycleRow}
use Rattle.slab_laws.specs.SpansDrawn.{drawn}
use Rattle.slab_laws.specs.Faces.{same_cell}
use Rattle.plain_slabs.specs.Faces.{rank_round}
use Rattle.plain_slabs.proofs.regions.regions_of.Goals as goal

pub cycles_of-requires : goal.cycles_of-requires
cycles_of-requires c = record {
  plane = c.requires.plane;
  darts = c.deref.ensures.value ∙ c.requires.orbits.darts;
  leads = c.deref-2.ensures.value ∙ c.requires.orbits.leads;
  labels = c.in_ok-labels.ensures;
  places = c.deref-3.ensures.value ∙ c.requires.orbits.cycles;
}

pub faces_of-requires : goal.faces_of-requires
faces_of-requires c = record {
  cells = c.deref-4.ensures.value ∙ c.in_ok-cells.ensures;
  cycles = c.deref-5.ensures.value ∙ c.in_ok-cycles.ensures;
  labels = c.in_ok-labels.ensures;
}

pub returns : goal.returns
returns c = record {
  labels = c.in_ok-labels.ensures;
  faces = c.in_ok-faces.ensures;
  kinds = c.in_ok-kinds.ensures ∙ ap (map (λ (r : CycleRow). r.kind)) (c.deref-6.ensures.value ∙ c.in_ok-cycles.ensures);
  cycle_ranks = c.in_ok-cycle_ranks.ensures ∙ ap₂ (λ fs cs. map (λ (r : CycleRow). position_or_len (same_cell r.face) fs) cs) c.deref-7.ensures.value (c.deref-8.ensures.value ∙ c.in_ok-cycles.ensures);
  bare_ranks = c.in_ok-bare_ranks.ensures ∙ ap (λ fs. map (rank_round (drawn c.args.points.now c.args.edges.now) fs) c.args.points.now) c.deref-9.ensures.value;
}
