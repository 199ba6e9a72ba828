use Rattle.dcel_records.proofs.Spared.{none_spent}
use Rattle.dcel_records.specs.SoundMaps.{map_of}
use Rattle.curve_history.specs.Past.{curves_on, strands_on}
use Rattle.curve_history.proofs.Sides.{strands_of_edges}
use Rattle.told_steps.proofs.Loosened.{bare_goes, bare_step, goes_told, joined_alike, joined_go, joined_step, not_joinable, stays_told}
use Rattle.told_steps.proofs.redundant.remove_if_redundant.Goals as goal

pub returns-in_default-clause-tidied : goal.returns-in_default-clause-tidied
returns-in_default-clause-tidied g c =
    let v = c.args.records.now.graph in
    let p = c.args.history.now in
    let i = c.requires.in_step in
    let bare = c.in_default.ensures.none in
    goes_told (map_of c.args.records.now) p _ _ _ _ _ _ (bare_goes v (strands_on p) c.args.w i.sound.graph (strands_of_edges v p i.curves) c.requires.vertex bare) (bare_step v (curves_on p) c.args.w i.sound.graph i.curves c.requires.vertex bare) c.remove_vertex.ensures.told c.remove_vertex.ensures.strands

pub returns-in_default-joinable-clause-tidied : goal.returns-in_default-joinable-clause-tidied
returns-in_default-joinable-clause-tidied g c =
    let v = c.args.records.now.graph in
    let p = c.args.history.now in
    let i = c.requires.in_step in
    stays_told (map_of c.args.records.now) p _ _ (not_joinable v (strands_on p) c.args.w i.sound.graph (strands_of_edges v p i.curves) c.requires.vertex c.in-Some.first c.in-Some.ensures.some c.in_default-joinable.ensures)

pub merge_edge-requires-clause-alike : goal.merge_edge-requires-clause-alike
merge_edge-requires-clause-alike g c =
    let i = c.requires.in_step in
    let j = c.in-Some-joinable in
    joined_alike c.args.records.now.graph (strands_on c.args.history.now) c.args.w i.sound.graph (strands_of_edges c.args.records.now.graph c.args.history.now i.curves) c.requires.vertex j.field-0.0 j.field-0.1 j.ensures

pub returns-clause-tidied : goal.returns-clause-tidied
returns-clause-tidied g c =
    let v = c.args.records.now.graph in
    let p = c.args.history.now in
    let i = c.requires.in_step in
    let j = c.in-Some-joinable in
    goes_told (map_of c.args.records.now) p _ _ _ _ _ _ (joined_go v (strands_on p) c.args.w i.sound.graph (strands_of_edges v p i.curves) c.requires.vertex j.field-0.0 j.field-0.1 j.ensures) (joined_step v (curves_on p) c.args.w i.sound.graph i.curves c.requires.vertex c.in-Some.first c.in-Some.ensures.some) c.merge_edge.ensures.told c.merge_edge.ensures.strands

pub returns-in_default-joinable-clause-spare_faces : goal.returns-in_default-joinable-clause-spare_faces
returns-in_default-joinable-clause-spare_faces g c = none_spent c.args.records.now.faces
