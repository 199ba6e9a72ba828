use Rattle.dcel_records.specs.SoundMaps.{map_of}
use Rattle.curve_history.specs.Past.{curves_on}
use Rattle.segment_insert.proofs.Linked.{can_link, edge_told, vertices_stay}
use Rattle.segment_insert.proofs.edges.new_edge.Goals as goal

pub add_edge-requires-clause-fits : goal.add_edge-requires-clause-fits
add_edge-requires-clause-fits g c =
    let i = c.requires.in_step in
    can_link c.args.records.now.graph (curves_on c.args.history.now) i.sound.graph i.curves c.args.line.now c.args.u c.args.w c.requires.part c.args.curve c.requires.no_edge c.args.at_u c.place_back-at_w.result c.requires.place c.place_back-at_w.ensures
    c.requires.plane

pub returns-clause-told : goal.returns-clause-told
returns-clause-told g c =
    let i = c.requires.in_step in
    edge_told c.args.records.now.graph (curves_on c.args.history.now) i.sound.graph i.curves c.args.line.now c.args.u c.args.w c.requires.part c.args.curve c.requires.no_edge (map_of c.args.records.now) _ _
    (map_of c.add_edge.new.records) (curves_on c.add_edge.new.history) c.add_edge.ensures.told

pub returns-clause-vertices : goal.returns-clause-vertices
returns-clause-vertices g c = vertices_stay c.args.records.now.graph c.add_edge.new.records.graph c.add_edge.result.0 c.add_edge.result.1 c.args.u c.args.w c.args.at_u c.place_back-at_w.result c.args.line.now c.add_edge.ensures.graph
