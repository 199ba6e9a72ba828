use Rattle.std.proofs.Common.{◌≡◌, sym, ap, subst, ◌∙◌}
use Rattle.slab_laws.specs.declared.names.CycleId.{CycleId}
use Rattle.slab_laws.specs.declared.names.DartId.{DartId}
use Rattle.slab_laws.specs.FaceLists.{Lists, AreDartsOn}
use Rattle.slab_laws.specs.FacesSound.{IsSound}
use Rattle.slab_laws.specs.View.{View, Faces, HasDart, HasCycle, cycle_in, twin_in}
use Rattle.dcel_records.specs.ListChanges.{dart_listed, vertex_unlisted}
use Rattle.dcel_records.specs.RecordsView.{GraphView, IsSpare, graph_part, lists_of, tables_of}
use Rattle.dcel_records.proofs.Spared.{spare_then}
use Rattle.edge_split_merge.proofs.PartsInCycles.{tables_merged, merged_sound, stays, twin_stays, twin_is, kept_on, merged}
use Rattle.edge_split_merge.proofs.faces.merge_in_cycles.Goals as goal

pub twin-t-requires : goal.twin-t-requires
twin-t-requires c = let e = c.merge_at-names.ensures in stays c.args.records.now c.merge_at-names.new.records c.args.v c.merge_at-names.result.d c.merge_at-names.result.n c.requires.map e.met e.graph e.sound e.tables

pub set_dart-requires : goal.set_dart-requires
set_dart-requires c =
    let e = c.merge_at-names.ensures in
    let old = c.args.records.now in
    let mid = c.merge_at-names.new.records in
    let d = c.merge_at-names.result.d in
    let n = c.merge_at-names.result.n in
    let is = merged_sound old mid c.args.v d n c.requires.map e.met e.graph e.sound e.tables in
    let t = tables_merged old mid c.args.v d n c.requires.map e.met e.graph e.sound e.tables in
    subst (λ (k : CycleId). HasCycle (tables_of mid) k) (sym c.cycle.ensures.cycle) (subst (λ (f : Faces). HasCycle f (cycle_in f d)) (sym t) (is.complete.cycle_has d (stays old mid c.args.v d n c.requires.map e.met e.graph e.sound e.tables)))

pub set_dart-requires-2 : goal.set_dart-requires-2
set_dart-requires-2 c =
    let e = c.merge_at-names.ensures in
    let old = c.args.records.now in
    let mid = c.merge_at-names.new.records in
    let d = c.merge_at-names.result.d in
    let n = c.merge_at-names.result.n in
    let is = merged_sound old mid c.args.v d n c.requires.map e.met e.graph e.sound e.tables in
    let t = c.set_dart.ensures.tables ∙ tables_merged old mid c.args.v d n c.requires.map e.met e.graph e.sound e.tables in
    let has = subst (λ (k : DartId). HasDart mid.graph k) (sym (c.twin-t.ensures.twin ∙ twin_is old mid c.args.v d n c.requires.map e.met e.graph e.sound e.tables)) (twin_stays old mid c.args.v d n c.requires.map e.met e.graph e.sound e.tables) in
    subst (λ (k : CycleId). HasCycle (tables_of c.set_dart.new.self) k) (sym c.cycle-2.ensures.cycle) (subst (λ (f : Faces). HasCycle f (cycle_in f c.twin-t.result)) (sym t) (is.complete.cycle_has c.twin-t.result has))

pub returns : goal.returns
returns c =
    let e = c.merge_at-names.ensures in
    let old = c.args.records.now in
    let mid = c.merge_at-names.new.records in
    let new = c.set_dart-2.new.self in
    let d = c.merge_at-names.result.d in
    let n = c.merge_at-names.result.n in
    let t : DartId = twin_in old.graph d in
    let step : Faces = merged old mid c.args.v d n c.requires.map e.met e.graph e.sound e.tables in
    let tables_mid = tables_merged old mid c.args.v d n c.requires.map e.met e.graph e.sound e.tables in
    let tables : tables_of new ≡ step = c.set_dart-2.ensures.tables ∙ c.set_dart.ensures.tables ∙ tables_mid in
    let parts : graph_part new ≡ graph_part mid = c.set_dart-2.ensures.graph ∙ c.set_dart.ensures.graph in
    let graph : new.graph ≡ mid.graph = ap (λ (g : GraphView). g.graph) parts in
    let twin : c.twin-t.result ≡ t = c.twin-t.ensures.twin ∙ twin_is old mid c.args.v d n c.requires.map e.met e.graph e.sound e.tables in
    let first : c.cycle.result ≡ cycle_in step d = c.cycle.ensures.cycle ∙ ap (λ (f : Faces). cycle_in f d) tables_mid in
    let second : c.cycle-2.result ≡ cycle_in step t = c.cycle-2.ensures.cycle ∙ (λ i. cycle_in ((c.set_dart.ensures.tables ∙ tables_mid) i) (twin i)) in
    let lists : lists_of new ≡ dart_listed (cycle_in step t) t (dart_listed (cycle_in step d) d (vertex_unlisted c.args.v (lists_of old))) =
    c.set_dart-2.ensures.lists
    ∙ (λ i. dart_listed (second i) (twin i) ((c.set_dart.ensures.lists ∙ (λ j. dart_listed (first j) d (e.lists j))) i)) in
    let sound : IsSound new.graph (tables_of new) = subst (λ (g : View). IsSound g (tables_of new)) (sym graph) (subst (λ (f : Faces). IsSound mid.graph f) (sym tables) (merged_sound old mid c.args.v d n c.requires.map e.met e.graph e.sound e.tables)) in
    let on = kept_on old mid c.args.v d n c.requires.map e.met e.graph e.sound e.tables in
    let darts : AreDartsOn new.graph (tables_of new) (lists_of new) = subst (λ (g : View). AreDartsOn g (tables_of new) (lists_of new)) (sym graph) (subst (λ (f : Faces). AreDartsOn mid.graph f (lists_of new)) (sym tables) (subst (λ (l : Lists). AreDartsOn mid.graph step l) (sym lists) on)) in
    record {
      met = e.met;
      graph = graph ∙ e.graph;
      tables = tables;
      map = record { sound = sound; darts = darts };
      spare = subst (λ (g : GraphView). IsSpare old (record new { graph = g.graph; spare_vertices = g.spare_vertices; spare_darts = g.spare_darts; capacity_of_vertices = g.capacity_of_vertices; capacity_of_darts = g.capacity_of_darts }) 1 2) (sym parts) (record { of_vertices = e.spare.of_vertices; of_darts = e.spare.of_darts; capacity_of_vertices = e.spare.capacity_of_vertices; capacity_of_darts = e.spare.capacity_of_darts });
      spare_faces = spare_then e.spare_faces (spare_then c.set_dart.ensures.spare c.set_dart-2.ensures.spare);
      moved = c.set_dart-2.ensures.moved ∙ c.set_dart.ensures.moved ∙ e.moved;
    }
