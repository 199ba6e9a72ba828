use Rattle.std.proofs.Common.{sym, subst}
use Rattle.slab_laws.specs.View.{View, HasDart}
use Rattle.library_tour.proofs.neighbours.corner_of.Goals as goal

-- a dart that has a record leaves a vertex that has one
pub point-requires : goal.point-requires
point-requires g c =
    let has = subst (λ (v : View). HasDart v c.args.dart) (sym c.records-records.ensures.graph) c.requires.dart in
    rw c.source.ensures (c.records-records.ensures.map.sound.graph.linked.source c.args.dart has)
