use Rattle.std.proofs.Common.{Some, None, refl, sym, ap, subst, ◌∙◌}
use Rattle.slab_laws.specs.View.{Faces, HasCycle, cycle_in}
use Rattle.edge_link.proofs.Grown.{grows_cycle}
use Rattle.edge_link.proofs.faces.grow_at_end.Goals as goal

pub link_on-names-requires-clause-cycle : goal.link_on-names-requires-clause-cycle
link_on-names-requires-clause-cycle c = subst (λ (t : Faces). HasCycle t c.cycle-cycle.result) (sym c.clear_bare.ensures.tables) c.cycle-cycle.ensures.has

pub returns : goal.returns
returns c =
    let e = c.link_on-names.ensures in
    let b = c.clear_bare.ensures in
    grows_cycle c.args.records.now c.clear_bare.new.self c.link_on-names.new.records c.link_on-names.result c.args.u c.args.v c.args.u None (Some c.args.at) c.args.line c.cycle-cycle.result c.requires.map c.requires.returned c.requires.fits b.tables b.lists b.spare b.moved b.graph
    e.new_darts e.graph e.sound e.spare e.faces refl (ap (λ k. cycle_in c.args.records.now.faces.tables k) (sym c.twin.ensures.twin) ∙ sym c.cycle-cycle.ensures.cycle)
