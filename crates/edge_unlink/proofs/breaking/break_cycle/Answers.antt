use Rattle.std.proofs.Common.{◌≡◌, ◌≢◌, ◌↔◌, sym, ap, ◌∙◌, subst, arith, IsSome, refl, false}
use Rattle.slab_laws.specs.declared.names.CycleKind.TheVariants.{Inner}
use Rattle.slab_laws.specs.declared.names.CycleId.{CycleId}
use Rattle.slab_laws.specs.declared.names.DartId.{DartId}
use Rattle.slab_laws.specs.Sound.{skeleton_of, dart_in}
use Rattle.slab_laws.specs.Tables.{row_at, names, NamesAscend}
use Rattle.slab_laws.specs.View.{View, Faces, HasDart, HasCycle, cycle_in, twin_in, next_in, face_in}
use Rattle.arr_notes.specs.FaceSteps.{step_faces, breaks}
use Rattle.arr_notes.specs.FaceWriters.{off_cycles, with_cycle, orbit_on}
use Rattle.arr_notes.specs.NamedRows.{put}
use Rattle.arr_notes.specs.Step.{remove_edge}
use Rattle.arr_notes.specs.declared.faces.Unlinked.TheVariants.{Breaks}
use Rattle.arr_notes.proofs.VertexReads.{put_hit, put_miss}
use Rattle.dcel_records.specs.ListChanges.{cycle_listed, dart_listed}
use Rattle.dcel_records.specs.RecordsView.{RecordsView, GraphView, FacesView, lists_in_view, lists_of, tables_of}
use Rattle.dcel_records.specs.SoundMaps.{IsSoundMap}
use Rattle.face_changes.specs.Kinds.{is_outer}
use Rattle.face_steps.specs.RowsWritten.{AreDartRows}
use Rattle.face_steps.proofs.FaceRows.{cycle_number}
use Rattle.edge_unlink.proofs.BrokenMaps.{IsBreaking, first_stays, second_stays, rows_left, parts_of_inner, parts_of_outer, fresh_there, fresh_was, fresh_before, darts_on_parts}
use Rattle.edge_unlink.proofs.UnlinkedMaps.{unlink_made, has_cycle, has_face}
use Rattle.edge_unlink.proofs.breaking.break_cycle.Goals as goal

breaking : (old : RecordsView) (w : View) (d m a b : DartId) → IsSoundMap old → HasDart old.graph d → m ≡ twin_in old.graph d → w ≡ remove_edge old.graph d m → HasDart old.graph a × (next_in old.graph a ≡ d) → HasDart old.graph b × (next_in old.graph b ≡ twin_in old.graph d) → next_in old.graph (twin_in old.graph d) ≢ d → next_in old.graph d ≢ twin_in old.graph d → cycle_in (tables_of old) d ≡ cycle_in (tables_of old) (twin_in old.graph d) → IsBreaking old.graph w (tables_of old) d m a b
breaking old w d m a b map dart twin removed first second source target one = record { sound = map.sound; dart = dart; twin = twin; removed = removed; first = first; second = second; source = source; target = target; one = one }

pub face-face-requires : goal.face-face-requires
face-face-requires c = has_cycle c.args.records.now.graph c.args.records.now.faces.tables c.args.d c.cycle-kept.result c.requires.map.sound c.requires.dart c.cycle-kept.ensures.cycle

pub kind-requires : goal.kind-requires
kind-requires c = has_cycle c.args.records.now.graph c.args.records.now.faces.tables c.args.d c.cycle-kept.result c.requires.map.sound c.requires.dart c.cycle-kept.ensures.cycle

pub inner_first-requires-clause-one : goal.inner_first-requires-clause-one
inner_first-requires-clause-one c = first_stays (breaking c.args.records.now c.close_up-names.new.records.graph c.args.d c.close_up-names.result.m c.close_up-names.result.into_d c.close_up-names.result.into_m c.requires.map c.requires.dart c.close_up-names.ensures.twin c.close_up-names.ensures.graph c.close_up-names.ensures.before_d c.close_up-names.ensures.before_m c.requires.source c.requires.target c.requires.one)

pub inner_first-requires-clause-other : goal.inner_first-requires-clause-other
inner_first-requires-clause-other c = second_stays (breaking c.args.records.now c.close_up-names.new.records.graph c.args.d c.close_up-names.result.m c.close_up-names.result.into_d c.close_up-names.result.into_m c.requires.map c.requires.dart c.close_up-names.ensures.twin c.close_up-names.ensures.graph c.close_up-names.ensures.before_d c.close_up-names.ensures.before_m c.requires.source c.requires.target c.requires.one)

pub inner_first-requires-clause-of_inner : goal.inner_first-requires-clause-of_inner
inner_first-requires-clause-of_inner c = parts_of_inner (breaking c.args.records.now c.close_up-names.new.records.graph c.args.d c.close_up-names.result.m c.close_up-names.result.into_d c.close_up-names.result.into_m c.requires.map c.requires.dart c.close_up-names.ensures.twin c.close_up-names.ensures.graph c.close_up-names.ensures.before_d c.close_up-names.ensures.before_m c.requires.source c.requires.target c.requires.one) c.is_outer-was_outer.result c.cycle-kept.result c.kind.result c.cycle-kept.ensures.cycle c.kind.ensures c.is_outer-was_outer.ensures

pub inner_first-requires-clause-of_outer : goal.inner_first-requires-clause-of_outer
inner_first-requires-clause-of_outer c = parts_of_outer (breaking c.args.records.now c.close_up-names.new.records.graph c.args.d c.close_up-names.result.m c.close_up-names.result.into_d c.close_up-names.result.into_m c.requires.map c.requires.dart c.close_up-names.ensures.twin c.close_up-names.ensures.graph c.close_up-names.ensures.before_d c.close_up-names.ensures.before_m c.requires.source c.requires.target c.requires.one) c.is_outer-was_outer.result c.cycle-kept.result c.kind.result c.cycle-kept.ensures.cycle c.kind.ensures c.is_outer-was_outer.ensures

pub add_cycle-fresh-requires-clause-face : goal.add_cycle-fresh-requires-clause-face
add_cycle-fresh-requires-clause-face c =
    has_face c.args.records.now.graph c.args.records.now.faces.tables c.args.d c.cycle-kept.result c.face-face.result _ c.requires.map.sound c.requires.dart c.cycle-kept.ensures.cycle c.face-face.ensures.face
    (ap (λ (f : FacesView). f.tables.faces) c.close_up-names.ensures.faces)

pub put_orbit-requires-clause-dart : goal.put_orbit-requires-clause-dart
put_orbit-requires-clause-dart c =
    subst (λ g. HasDart g c.inner_first.result.0) (sym (ap (λ (g : GraphView). g.graph) c.add_cycle-fresh.ensures.graph))
    (fresh_there (breaking c.args.records.now c.close_up-names.new.records.graph c.args.d c.close_up-names.result.m c.close_up-names.result.into_d c.close_up-names.result.into_m c.requires.map c.requires.dart c.close_up-names.ensures.twin c.close_up-names.ensures.graph c.close_up-names.ensures.before_d c.close_up-names.ensures.before_m c.requires.source c.requires.target c.requires.one) c.inner_first.result.0 c.inner_first.result.1 c.inner_first.ensures.both)

pub put_orbit-requires-clause-cycle : goal.put_orbit-requires-clause-cycle
put_orbit-requires-clause-cycle c = let k = c.add_cycle-fresh.result in subst (λ (t : Faces). HasCycle t k) (sym c.add_cycle-fresh.ensures.tables) (subst IsSome (sym (put_hit k.0 _ c.close_up-names.new.records.faces.tables.cycles)) refl)

-- only the rows of darts are asked for, which a new cycle leaves
rows_kept : (v w : View) (f : Faces) (s : Faces) → w ≡ v → AreDartRows v f → s.cycle_of ≡ f.cycle_of → AreDartRows w s
rows_kept v w f s same rows e =
    subst (λ g. AreDartRows g s) (sym same) (record {
      cycle_of_ascend = subst (λ rs. NamesAscend (names rs)) (sym e) rows.cycle_of_ascend;
      cycle_rows = λ k. subst (λ rs. HasDart v k ↔ IsSome (row_at rs k.0)) (sym e) (rows.cycle_rows k);
    })

pub put_orbit-requires-clause-rows : goal.put_orbit-requires-clause-rows
put_orbit-requires-clause-rows c =
    rows_kept c.close_up-names.new.records.graph _ (off_cycles c.close_up-names.result.m (off_cycles c.args.d c.args.records.now.faces.tables)) _
    (ap (λ (g : GraphView). g.graph) c.add_cycle-fresh.ensures.graph) (rows_left (breaking c.args.records.now c.close_up-names.new.records.graph c.args.d c.close_up-names.result.m c.close_up-names.result.into_d c.close_up-names.result.into_m c.requires.map c.requires.dart c.close_up-names.ensures.twin c.close_up-names.ensures.graph c.close_up-names.ensures.before_d c.close_up-names.ensures.before_m c.requires.source c.requires.target c.requires.one))
    (ap (λ (f : Faces). f.cycle_of) c.add_cycle-fresh.ensures.tables ∙ ap (λ (f : FacesView). f.tables.cycle_of) c.close_up-names.ensures.faces)

-- the tables once the edge is gone have no name that those with it haven't
not_there : (old : FacesView) (mid : FacesView) (t : Faces) (e : CycleId) → mid ≡ record old { tables = t } → t.cycles ≡ old.tables.cycles → (HasCycle mid.tables e → ⊥) → HasCycle old.tables e → ⊥
not_there old mid t e q r n o = n (subst (λ (z : FacesView). HasCycle z.tables e) (sym q) (subst (λ rs. IsSome (row_at rs e.0)) (sym r) o))

pub set_dart-requires : goal.set_dart-requires
set_dart-requires c =
    let f : Faces = c.args.records.now.faces.tables in
    let kept = c.cycle-kept.result in
    let fresh = c.add_cycle-fresh.result in
    let had : HasCycle f kept = has_cycle c.args.records.now.graph f c.args.d kept c.requires.map.sound c.requires.dart c.cycle-kept.ensures.cycle in
    let new : HasCycle f fresh → ⊥ = not_there c.args.records.now.faces c.close_up-names.new.records.faces (off_cycles c.close_up-names.result.m (off_cycles c.args.d f)) fresh c.close_up-names.ensures.faces refl c.add_cycle-fresh.ensures.name in
    subst (λ rs. IsSome (row_at rs kept.0))
    (sym (ap (λ (z : FacesView). z.tables.cycles) c.put_orbit.ensures.faces ∙ ap (λ (z : Faces). z.cycles) c.add_cycle-fresh.ensures.tables ∙ ap (λ (z : FacesView). put fresh.0 (record { kind = Inner; face = c.face-face.result }) z.tables.cycles) c.close_up-names.ensures.faces))
    (subst IsSome (sym (put_miss fresh.0 (record { kind = Inner; face = c.face-face.result }) f.cycles kept.0 (cycle_number kept fresh (λ e. new (subst (HasCycle f) e had))))) had)

pub returns : goal.returns
returns c =
    let old = c.args.records.now in
    let f : Faces = c.args.records.now.faces.tables in
    let d = c.args.d in
    let m = c.close_up-names.result.m in
    let kept = c.cycle-kept.result in
    let fresh = c.add_cycle-fresh.result in
    let x = c.inner_first.result.0 in
    let y = c.inner_first.result.1 in
    let closed = c.close_up-names.ensures in
    let part = c.set_dart.ensures.graph ∙ c.put_orbit.ensures.graph ∙ c.add_cycle-fresh.ensures.graph in
    let since : c.add_cycle-fresh.new.self.graph ≡ c.set_dart.new.self.graph = sym (ap (λ (g : GraphView). g.graph) (c.set_dart.ensures.graph ∙ c.put_orbit.ensures.graph)) in
    let listed : c.add_cycle-fresh.new.self.faces.tables ≡ with_cycle fresh Inner (face_in f kept) (off_cycles m (off_cycles d f)) = c.add_cycle-fresh.ensures.tables ∙ (λ i. with_cycle fresh Inner (c.face-face.ensures.face i) (closed.faces i).tables) in
    let new : HasCycle f fresh → ⊥ = not_there old.faces c.close_up-names.new.records.faces (off_cycles m (off_cycles d f)) fresh closed.faces refl c.add_cycle-fresh.ensures.name in
    let faces = c.set_dart.ensures.spare in
    let faces' = c.add_cycle-fresh.ensures.spare in
    unlink_made old c.close_up-names.new.records c.set_dart.new.self d m (Breaks kept fresh x)
    (step_faces c.set_dart.new.self.graph f (breaks d m kept fresh x))
    (dart_listed kept y (cycle_listed fresh c.face-face.result x (lists_of old)))
    c.requires.map c.requires.dart closed.twin closed.graph closed.sound closed.spare part
    (c.set_dart.ensures.tables ∙ ap (λ (z : FacesView). z.tables) c.put_orbit.ensures.faces ∙ (λ i. orbit_on (since i) x fresh (listed i)))
    (λ i. step_faces c.set_dart.new.self.graph f (breaks d (closed.twin i) kept fresh x))
    (c.requires.source, c.requires.target, sym c.cycle-kept.ensures.cycle, sym c.requires.one ∙ sym c.cycle-kept.ensures.cycle, new, fresh_was (breaking c.args.records.now c.close_up-names.new.records.graph c.args.d c.close_up-names.result.m c.close_up-names.result.into_d c.close_up-names.result.into_m c.requires.map c.requires.dart c.close_up-names.ensures.twin c.close_up-names.ensures.graph c.close_up-names.ensures.before_d c.close_up-names.ensures.before_m c.requires.source c.requires.target c.requires.one) x y c.inner_first.ensures.both, fresh_before (breaking c.args.records.now c.close_up-names.new.records.graph c.args.d c.close_up-names.result.m c.close_up-names.result.into_d c.close_up-names.result.into_m c.requires.map c.requires.dart c.close_up-names.ensures.twin c.close_up-names.ensures.graph c.close_up-names.ensures.before_d c.close_up-names.ensures.before_m c.requires.source c.requires.target c.requires.one) x y c.inner_first.ensures.both, subst (λ g. is_outer (skeleton_of g) (dart_in g x) ≡ false) (closed.graph ∙ ap (remove_edge old.graph d) closed.twin) c.inner_first.ensures.inner)
    (c.set_dart.ensures.lists ∙ ap (dart_listed kept y) (ap lists_in_view c.put_orbit.ensures.faces ∙ c.add_cycle-fresh.ensures.lists ∙ ap (λ z. cycle_listed fresh c.face-face.result x (lists_in_view z)) closed.faces))
    (λ graph. darts_on_parts (breaking c.args.records.now c.set_dart.new.self.graph c.args.d c.close_up-names.result.m c.close_up-names.result.into_d c.close_up-names.result.into_m c.requires.map c.requires.dart c.close_up-names.ensures.twin graph c.close_up-names.ensures.before_d c.close_up-names.ensures.before_m c.requires.source c.requires.target c.requires.one) x y c.inner_first.ensures.both kept fresh c.cycle-kept.ensures.cycle new (subst (λ g. is_outer (skeleton_of g) (dart_in g x) ≡ false) (sym (ap (λ (g : GraphView). g.graph) part)) c.inner_first.ensures.inner) (lists_of old) c.requires.map.darts c.face-face.result)
    (record {
      spare_cycles = let e = ap (λ (z : FacesView). z.spare_cycles) closed.faces in let e' = ap (λ (z : FacesView). z.spare_cycles) c.put_orbit.ensures.faces in omega (arith, faces.of_cycles, faces'.of_cycles, e, e');
      spare_faces = let e = ap (λ (z : FacesView). z.spare_faces) closed.faces in let e' = ap (λ (z : FacesView). z.spare_faces) c.put_orbit.ensures.faces in omega (arith, faces.of_faces, faces'.of_faces, e, e');
      capacity_of_cycles = faces.capacity_of_cycles ∙ ap (λ (z : FacesView). z.capacity_of_cycles) c.put_orbit.ensures.faces ∙ sym faces'.capacity_of_cycles ∙ ap (λ (z : FacesView). z.capacity_of_cycles) closed.faces;
      capacity_of_faces = faces.capacity_of_faces ∙ ap (λ (z : FacesView). z.capacity_of_faces) c.put_orbit.ensures.faces ∙ sym faces'.capacity_of_faces ∙ ap (λ (z : FacesView). z.capacity_of_faces) closed.faces;
    })
    (subst IsSome (sym (c.set_dart.ensures.moved ∙ ap (λ (z : FacesView). z.moved) c.put_orbit.ensures.faces ∙ c.add_cycle-fresh.ensures.moved ∙ ap (λ (z : FacesView). z.moved) closed.faces)) c.requires.returned)
    tt
