use Rattle.std.proofs.Common.{ap, sym, ◌∙◌, subst}
use Rattle.slab_laws.specs.View.{HasVertex, source_in}
use Rattle.arrangement.specs.Arranged.{arranged}
use Rattle.library_tour.proofs.neighbours.put_neighbours.Goals as goal

-- a dart that has a record leaves a vertex that has one
pub darts_round-requires : goal.darts_round-requires
darts_round-requires g c =
    let a = arranged (goal.Observer-dyn g) c.args.map.now in
    record { vertex = subst (HasVertex a.graph) (sym (c.source-source.ensures ∙ ap (λ v. source_in v c.args.dart) c.records.ensures.graph)) (c.laws.ensures.sound.linked.source c.args.dart c.requires.dart) }
