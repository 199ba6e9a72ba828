use Rattle.std.proofs.Common.{◌≡◌, [], sym, ap, subst}
use Rattle.slab_laws.specs.FaceLists.{AreDartsOn}
use Rattle.slab_laws.specs.FacesSound.{IsSound}
use Rattle.slab_laws.specs.Sound.{IsGraphSound}
use Rattle.slab_laws.specs.View.{View, Faces, twin_in, cycle_in}
use Rattle.arr_notes.specs.FaceWriters.{on_cycle}
use Rattle.arr_notes.specs.Step.{split_edge}
use Rattle.arr_notes.specs.declared.change.Change.TheVariants.{SplitEdge}
use Rattle.dcel_records.specs.RecordsView.{FacesView, lists_in_view, lists_of, tables_of}
use Rattle.face_steps.proofs.ChangeLaws.{changes_keep_faces_sound}
use Rattle.face_steps.proofs.MergesApart.{records_apart}
use Rattle.edge_split_merge.proofs.Parted.{fits}
use Rattle.dcel_records.proofs.Spared.{same_spare}
use Rattle.edge_split_merge.proofs.PartsInCycles.{darts_on}
use Rattle.edge_split_merge.proofs.faces.split_in_cycles.Goals as goal

pub returns : goal.returns
returns c =
    let old = c.args.records.now in
    let new = c.split_at.new.records in
    let v : View = old.graph in
    let f : Faces = old.faces.tables in
    let names = c.split_at.result in
    let e = c.split_at.ensures in
    let k = fits v c.args.d names.v c.args.p names.n names.m c.requires.map.sound.graph c.requires.fits c.laws.ensures e.new_names.vertex e.new_names.first e.new_names.second e.new_names.two in
    let apart = records_apart.split v c.args.d names.v c.args.p names.n names.m c.requires.map.sound.graph k in
    let w : View = split_edge v c.args.d names.v c.args.p names.n names.m in
    let s : Faces = on_cycle names.m (cycle_in f (twin_in v c.args.d)) (on_cycle names.n (cycle_in f c.args.d) f) in
    let tables : tables_of new ≡ s = ap (λ (g : FacesView). g.tables) e.faces in
    let lists : lists_of new ≡ lists_of old = ap lists_in_view e.faces in
    let sound : IsSound w s = changes_keep_faces_sound v (λ d. []) f (SplitEdge c.args.d names.v c.args.p names.n names.m) c.requires.map.sound k (subst IsGraphSound e.graph e.sound) tt in
    let darts : AreDartsOn w s (lists_of old) = darts_on v w f (lists_of old) c.requires.map.darts names.n names.m e.new_names.first e.new_names.second apart.halves.has_old (cycle_in f c.args.d) (cycle_in f (twin_in v c.args.d)) in
    record {
      new_names = e.new_names;
      graph = e.graph;
      tables = tables;
      map = record { sound = subst (IsSound new.graph) (sym tables) (subst (λ g. IsSound g s) (sym e.graph) sound); darts = subst (λ l. AreDartsOn new.graph (tables_of new) l) (sym lists) (subst (λ t. AreDartsOn new.graph t (lists_of old)) (sym tables) (subst (λ g. AreDartsOn g s (lists_of old)) (sym e.graph) darts)) };
      spare = e.spare;
      spare_faces = same_spare old.faces new.faces _ e.faces;
      moved = ap (λ (g : FacesView). g.moved) e.faces;
    }
