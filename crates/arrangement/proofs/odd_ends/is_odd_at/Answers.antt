use Rattle.std.proofs.Common.{ap, ◌∙◌}
use Rattle.plane_graphs.specs.Piece.{Present}
use Rattle.set_laws.specs.PolygonSets.{is_odd_end}
use Rattle.slab_laws.specs.View.{View, point_in}
use Rattle.told_steps.specs.RecordLayers.{layer_of}
use Rattle.arrangement.proofs.OddEnds.{none_odd}
use Rattle.arrangement.proofs.odd_ends.is_odd_at.Goals as goal

pub returns-in-Some : goal.returns-in-Some
returns-in-Some c =
    let v : View = c.args.records.now.graph in
    c.is_odd_round.ensures ∙ ap (λ w. is_odd_end (layer_of v c.args.history.now).present (point_in v w)) c.in-Some.ensures.some.1

pub returns-in-None : goal.returns-in-None
returns-in-None c = none_odd c.args.records.now.graph c.args.history.now c.requires.layer c.args.vertex c.requires.vertex c.in-None.ensures.none
