use Rattle.std.proofs.Common.{ℕ, ◌∙◌, sym, subst}
use Rattle.slab_laws.specs.SpansDrawn.{drawn}
use Rattle.dart_orbits.specs.Around.{IsFirstPlaced}
use Rattle.dart_orbits.proofs.Listed.{row_there}
use Rattle.dart_orbits.proofs.Neighbours.{by_source, stands, first_around}
use Rattle.dart_orbits.proofs.nexts.first_around.Goals as goal

pub first_of-requires-clause-sources : goal.first_of-requires-clause-sources
first_of-requires-clause-sources c = by_source c.args.points.now c.args.edges.now c.args.darts.now c.requires.plane c.requires.darts c.args.around.now c.requires.around

pub first_of-requires-clause-some : goal.first_of-requires-clause-some
first_of-requires-clause-some c =
    let w = stands c.args.points.now c.args.edges.now c.args.darts.now c.requires.plane c.requires.darts c.args.around.now c.requires.around c.args.dart c.requires.dart in
    (w.0, w.1, w.2 ∙ sym c.source_at.ensures)

pub returns : goal.returns
returns c =
    first_around c.args.points.now c.args.edges.now c.args.darts.now c.requires.plane c.requires.darts c.args.around.now c.requires.around c.args.dart c.first_of.result
    (row_there (drawn c.args.points.now c.args.edges.now) c.args.darts.now c.requires.darts c.args.dart c.requires.dart)
    (subst (λ (v : ℕ). IsFirstPlaced c.args.darts.now c.args.around.now v c.first_of.result) c.source_at.ensures c.first_of.ensures)
