-- A new hole: both darts are a cycle of their own, in the face in which both ends were isolated.
use Rattle.std.proofs.Common.{◌≡◌, ◌≢◌, ◌==◌, cond, None, IsSome, refl, sym, ap, subst, ◌∙◌, arith, inl, inr}
use Rattle.integers.proofs.Tests.{other_number, same_number}
use Rattle.exact_plane.specs.Line.{Line}
use Rattle.slab_laws.specs.declared.names.CycleId.{CycleId}
use Rattle.slab_laws.specs.declared.names.CycleKind.TheVariants.{Inner}
use Rattle.slab_laws.specs.declared.names.DartId.{DartId}
use Rattle.slab_laws.specs.declared.names.FaceId.{FaceId}
use Rattle.slab_laws.specs.declared.names.VertexId.{VertexId}
use Rattle.slab_laws.specs.FaceLists.{Lists, AreDartsOn}
use Rattle.slab_laws.specs.Sound.{IsGraphSound}
use Rattle.slab_laws.specs.View.{View, Faces, HasDart, HasCycle, cycle_or, cycle_in, bare_face_in}
use Rattle.arr_notes.specs.FaceSteps.{step_faces}
use Rattle.arr_notes.specs.FaceWriters.{on_cycle, not_bare, with_cycle}
use Rattle.arr_notes.specs.FacesTold.{linked_faces}
use Rattle.arr_notes.specs.Step.{add_edge}
use Rattle.arr_notes.specs.declared.faces.Linked.TheVariants.{NewHole}
use Rattle.arr_notes.proofs.VertexReads.{put_hit, put_miss}
use Rattle.dcel_records.specs.ListChanges.{cycle_listed, dart_listed, vertex_unlisted}
use Rattle.dcel_records.specs.RecordsView.{RecordsView, IsReturned, IsSpare, IsSpareFaces, graph_part, lists_of, lists_in_view, tables_of}
use Rattle.dcel_records.specs.SoundMaps.{IsSoundMap}
use Rattle.face_steps.specs.EdgePairs.{IsEdgeApart}
use Rattle.face_steps.proofs.CyclesApart.{cycle_cases}
use Rattle.face_steps.proofs.EdgePairs.{up}
use Rattle.face_steps.proofs.FaceRows.{cycle_number}
use Rattle.edge_link.specs.declared.links.LinkNames.{LinkNames}
use Rattle.edge_link.specs.FacedLinks.{IsLinkMade}
use Rattle.edge_link.specs.Links.{AreNewDarts, CanLink}
use Rattle.edge_link.proofs.LinkedMaps.{edge_linked, linked_map}
use Rattle.edge_link.proofs.LinkParts.{still_new, same_link, same_sound, same_spare, old_cycle, first_row}

-- a cycle that was put among the cycles is there, whatever the darts are put on
pub cycle_there : (new : Faces) (f : Faces) (d m : DartId) (c e : CycleId) (face : FaceId) → new ≡ on_cycle m e (on_cycle d e (with_cycle c Inner face f)) → HasCycle new c
cycle_there new f d m c e face q = subst (λ t. HasCycle t c) (sym q) (subst IsSome (sym (put_hit c.0 _ f.cycles)) refl)

-- ---- the darts that are kept for cycles
module _ (v g : View) (d m : DartId) (u w : VertexId) (l : Line) (apart : IsEdgeApart v g d m u w l) (f : Faces) (lists : Lists) (c : CycleId) (face : FaceId) (first : DartId) (kept : AreDartsOn v f lists) where
  abbrev t : Faces
  t = with_cycle c Inner face (not_bare w (not_bare u f))

  abbrev hole_lists : Lists
  hole_lists = dart_listed c d (cycle_listed c face first (vertex_unlisted w (vertex_unlisted u lists)))

  here : (e : CycleId) → e ≡ c → HasDart g (hole_lists.dart_on e) × (cycle_in (on_cycle m c (on_cycle d c t)) (hole_lists.dart_on e) ≡ e)
  here e q =
      let is : hole_lists.dart_on e ≡ d = ap (λ (z : CycleId). cond (z.0 == c.0) d (cond (z.0 == c.0) first (lists.dart_on z))) q ∙ ap (λ b. cond b d (cond b first (lists.dart_on c))) (same_number c.0) in
      subst (λ k. HasDart g k × (cycle_in (on_cycle m c (on_cycle d c t)) k ≡ e)) (sym is) (apart.more.first, ap cycle_or (first_row v g d m u w l apart t c) ∙ sym q)

  elsewhere : (e : CycleId) → HasCycle t e → e ≢ c → HasDart g (hole_lists.dart_on e) × (cycle_in (on_cycle m c (on_cycle d c t)) (hole_lists.dart_on e) ≡ e)
  elsewhere e o n =
      let is : hole_lists.dart_on e ≡ lists.dart_on e = ap (λ b. cond b d (cond b first (lists.dart_on e))) (other_number e.0 c.0 (cycle_number e c n)) in
      let r = kept e (subst IsSome (put_miss c.0 _ f.cycles e.0 (cycle_number e c n)) o) in
      subst (λ k. HasDart g k × (cycle_in (on_cycle m c (on_cycle d c t)) k ≡ e)) (sym is) (up v g d m u w l apart _ r.0, old_cycle v g d m u w l apart t c _ r.0 ∙ r.1)

  pub hole_darts : AreDartsOn g (on_cycle m c (on_cycle d c t)) hole_lists
  hole_darts e o = elim (cycle_cases e c) [ inl q ↦ here e q | inr n ↦ elsewhere e o n ]

-- ---- the records on the way
module _ (old one two held linked new : RecordsView) (names : LinkNames) (u w : VertexId) (l : Line) (c : CycleId) (face : FaceId) (first : DartId) (map : IsSoundMap old) (back : IsReturned old) (can : CanLink old.graph u w None None l) (is_face : face ≡ bare_face_in (tables_of old) u) where
  module _ (tables-1 : one.faces.tables ≡ not_bare u old.faces.tables) (lists-1 : lists_of one ≡ vertex_unlisted u (lists_of old)) (room-1 : IsSpareFaces old.faces one.faces 0 0) (lent-1 : one.faces.moved ≡ old.faces.moved) (graph-1 : graph_part one ≡ graph_part old) where
    module _ (tables-2 : two.faces.tables ≡ not_bare w one.faces.tables) (lists-2 : lists_of two ≡ vertex_unlisted w (lists_of one)) (room-2 : IsSpareFaces one.faces two.faces 0 0) (lent-2 : two.faces.moved ≡ one.faces.moved) (graph-2 : graph_part two ≡ graph_part one) where
      module _ (name : ¬ HasCycle two.faces.tables c) (tables-3 : held.faces.tables ≡ with_cycle c Inner face two.faces.tables) (lists-3 : lists_of held ≡ cycle_listed c face first (lists_of two)) (room-3 : IsSpareFaces held.faces two.faces 1 0) (lent-3 : held.faces.moved ≡ two.faces.moved) (graph-3 : graph_part held ≡ graph_part two) where
        module _ (fresh : AreNewDarts held.graph names.d names.m) (is : linked.graph ≡ add_edge held.graph names.d names.m u w None None l) (sound : IsGraphSound linked.graph) (spare : IsSpare linked held 0 2) (faces-4 : linked.faces ≡ record held.faces { tables = on_cycle names.m c (on_cycle names.d c held.faces.tables) }) where
          module _ (tables-5 : new.faces.tables ≡ linked.faces.tables) (lists-5 : lists_of new ≡ dart_listed c names.d (lists_of linked)) (room-5 : IsSpareFaces linked.faces new.faces 0 0) (lent-5 : new.faces.moved ≡ linked.faces.moved) (graph-5 : graph_part new ≡ graph_part linked) where
            before : graph_part held ≡ graph_part old
            before = graph-3 ∙ graph-2 ∙ graph-1

            nd : AreNewDarts old.graph names.d names.m
            nd = still_new old held linked new names.d names.m u w None None l before graph-5 fresh

            made : new.graph ≡ add_edge old.graph names.d names.m u w None None l
            made = same_link old held linked new names.d names.m u w None None l before graph-5 is

            stays : IsGraphSound new.graph
            stays = same_sound old held linked new names.d names.m u w None None l before graph-5 sound

            apart : IsEdgeApart old.graph new.graph names.d names.m u w l
            apart = edge_linked old.graph new.graph names.d names.m u w None None l map.sound.graph can nd made stays

            bared : two.faces.tables ≡ not_bare w (not_bare u old.faces.tables)
            bared = tables-2 ∙ ap (not_bare w) tables-1

            written : tables_of new ≡ step_faces new.graph (tables_of old) (linked_faces names.d names.m u w None (NewHole c face))
            written = tables-5 ∙ ap (λ f. f.tables) faces-4 ∙ ap (λ t. on_cycle names.m c (on_cycle names.d c t)) (tables-3 ∙ ap (with_cycle c Inner face) bared)

            listed : lists_of new ≡ dart_listed c names.d (cycle_listed c face first (vertex_unlisted w (vertex_unlisted u (lists_of old))))
            listed = lists-5 ∙ ap (dart_listed c names.d) (ap lists_in_view faces-4 ∙ lists-3 ∙ ap (cycle_listed c face first) (lists-2 ∙ ap (vertex_unlisted w) lists-1))

            darts : AreDartsOn new.graph (tables_of new) (lists_of new)
            darts =
                let here = hole_darts old.graph new.graph names.d names.m u w l apart (tables_of old) (lists_of old) c face first map.darts in
                subst (λ t. AreDartsOn new.graph t (lists_of new)) (sym written) (subst (AreDartsOn new.graph (step_faces new.graph (tables_of old) (linked_faces names.d names.m u w None (NewHole c face)))) (sym listed) here)

            new_name : ¬ HasCycle (tables_of old) c
            new_name o = name (subst (λ t. HasCycle t c) (sym bared) o)

            pub hole_made : IsLinkMade old new names u w None None l (NewHole c face)
            hole_made =
                let cycles-4 : linked.faces.spare_cycles ≡ held.faces.spare_cycles = ap (λ f. f.spare_cycles) faces-4 in
                let rooms-4 : linked.faces.spare_faces ≡ held.faces.spare_faces = ap (λ f. f.spare_faces) faces-4 in
                let c1 = room-1.of_cycles in
                let c2 = room-2.of_cycles in
                let c3 = room-3.of_cycles in
                let c5 = room-5.of_cycles in
                let f1 = room-1.of_faces in
                let f2 = room-2.of_faces in
                let f3 = room-3.of_faces in
                let f5 = room-5.of_faces in
                record {
                  new_darts = nd;
                  graph = made;
                  tables = written;
                  fits = (new_name, is_face);
                  lists = tt;
                  map = record { sound = linked_map old.graph new.graph names.d names.m u w None None l map.sound.graph can nd made stays (tables_of old) (tables_of new) (NewHole c face) map.sound written (new_name, is_face); darts = darts };
                  spare = same_spare old held linked new names.d names.m u w None None l before graph-5 spare;
                  spare_cycles = omega (arith, c1, c2, c3, cycles-4, c5);
                  spare_faces = omega (arith, f1, f2, f3, rooms-4, f5);
                  capacity_of_cycles = room-5.capacity_of_cycles ∙ ap (λ f. f.capacity_of_cycles) faces-4 ∙ sym room-3.capacity_of_cycles ∙ room-2.capacity_of_cycles ∙ room-1.capacity_of_cycles;
                  capacity_of_faces = room-5.capacity_of_faces ∙ ap (λ f. f.capacity_of_faces) faces-4 ∙ sym room-3.capacity_of_faces ∙ room-2.capacity_of_faces ∙ room-1.capacity_of_faces;
                  carried = subst IsSome (sym (lent-5 ∙ ap (λ f. f.moved) faces-4 ∙ lent-3 ∙ lent-2 ∙ lent-1)) back;
                }
