use Rattle.std.proofs.Common.{◌<◌, ℕ, length, get_or, sym, ap, subst, ◌∙◌, arith}
use Rattle.slab_laws.specs.SpansDrawn.{drawn}
use Rattle.sweep_graphs.specs.Edges.{edge_between}
use Rattle.overlay_sweep.proofs.EdgeCycles.{cycle_told, above_within, cycle_within, rank_told}
use Rattle.overlay_sweep.proofs.bare.rank_above.Goals as goal

pub cycle_of-requires : goal.cycle_of-requires
cycle_of-requires c =
    let g = drawn c.args.points.now c.args.edges.now in
    subst (λ (k : ℕ). k < length c.args.orbits.now.in_cycles.items) (sym c.forward_dart-dart.ensures) (above_within g c.requires.plane (edge_between g.vertices c.args.edge.now) c.requires.edge c.args.orbits.now c.requires.orbits)

pub rank_at-requires : goal.rank_at-requires
rank_at-requires c =
    let g = drawn c.args.points.now c.args.edges.now in
    let e = edge_between g.vertices c.args.edge.now in
    let o = c.args.orbits.now in
    let n = c.requires.ranks.counted in
    let w = cycle_within g c.requires.plane e c.requires.edge in
    let q = c.cycle_of.ensures ∙ ap (λ (d : ℕ). get_or o.in_cycles.items d 0) c.forward_dart-dart.ensures ∙ cycle_told g c.requires.plane e c.requires.edge o c.requires.orbits in
    omega arith

pub returns : goal.returns
returns c =
    let g = drawn c.args.points.now c.args.edges.now in
    let e = edge_between g.vertices c.args.edge.now in
    let o = c.args.orbits.now in
    c.rank_at.ensures
    ∙ ap (λ (k : ℕ). get_or c.args.ranks.now k 0) (c.cycle_of.ensures ∙ ap (λ (d : ℕ). get_or o.in_cycles.items d 0) c.forward_dart-dart.ensures ∙ cycle_told g c.requires.plane e c.requires.edge o c.requires.orbits)
    ∙ rank_told g c.requires.plane e c.requires.edge c.args.ranks.now c.requires.ranks
