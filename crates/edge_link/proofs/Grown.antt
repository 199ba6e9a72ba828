-- A cycle that grows: both new darts are on it, and the end that was bare isn't in a face any more.
use Rattle.std.proofs.Common.{◌≡◌, Option, IsSome, sym, ap, subst, ◌∙◌, arith}
use Rattle.exact_plane.specs.Line.{Line}
use Rattle.slab_laws.specs.declared.names.CycleId.{CycleId}
use Rattle.slab_laws.specs.declared.names.DartId.{DartId}
use Rattle.slab_laws.specs.declared.names.VertexId.{VertexId}
use Rattle.slab_laws.specs.FaceLists.{AreDartsOn}
use Rattle.slab_laws.specs.Sound.{IsGraphSound}
use Rattle.arr_notes.specs.FaceSteps.{step_faces, grows}
use Rattle.arr_notes.specs.FaceWriters.{on_cycle, not_bare}
use Rattle.arr_notes.specs.FacesTold.{linked_faces}
use Rattle.arr_notes.specs.Step.{add_edge}
use Rattle.arr_notes.specs.declared.faces.Linked.TheVariants.{Grows}
use Rattle.dcel_records.specs.ListChanges.{vertex_unlisted}
use Rattle.dcel_records.specs.RecordsView.{RecordsView, IsReturned, IsSpare, IsSpareFaces, graph_part, lists_of, lists_in_view, tables_of}
use Rattle.dcel_records.specs.SoundMaps.{IsSoundMap}
use Rattle.face_steps.specs.EdgePairs.{IsEdgeApart}
use Rattle.face_steps.specs.LinkLaws.{FitsLinked}
use Rattle.face_steps.proofs.EdgePairs.{up}
use Rattle.edge_link.specs.declared.links.LinkNames.{LinkNames}
use Rattle.edge_link.specs.FacedLinks.{IsLinkMade}
use Rattle.edge_link.specs.Links.{AreNewDarts, CanLink}
use Rattle.edge_link.proofs.LinkedMaps.{edge_linked, linked_map}
use Rattle.edge_link.proofs.LinkParts.{still_new, same_link, same_spare, old_cycle}

-- z is the end that was bare
module _ (old cleared new : RecordsView) (names : LinkNames) (u w z : VertexId) (at_u at_w : Option DartId) (l : Line) (cycle : CycleId) (map : IsSoundMap old) (back : IsReturned old) (can : CanLink old.graph u w at_u at_w l) (tables : cleared.faces.tables ≡ not_bare z old.faces.tables) (lists : lists_of cleared ≡ vertex_unlisted z (lists_of old)) (room : IsSpareFaces old.faces cleared.faces 0 0) (lent : cleared.faces.moved ≡ old.faces.moved) (graph : graph_part cleared ≡ graph_part old) where
  module _ (fresh : AreNewDarts cleared.graph names.d names.m) (is : new.graph ≡ add_edge cleared.graph names.d names.m u w at_u at_w l) (sound : IsGraphSound new.graph) (spare : IsSpare new cleared 0 2) (faces : new.faces ≡ record cleared.faces { tables = on_cycle names.m cycle (on_cycle names.d cycle cleared.faces.tables) }) where
    nd : AreNewDarts old.graph names.d names.m
    nd = still_new old cleared new new names.d names.m u w at_u at_w l graph (λ _. graph_part new) fresh

    made : new.graph ≡ add_edge old.graph names.d names.m u w at_u at_w l
    made = same_link old cleared new new names.d names.m u w at_u at_w l graph (λ _. graph_part new) is

    grown : tables_of new ≡ on_cycle names.m cycle (on_cycle names.d cycle (not_bare z (tables_of old)))
    grown = ap (λ f. f.tables) faces ∙ ap (λ t. on_cycle names.m cycle (on_cycle names.d cycle t)) tables

    apart : IsEdgeApart old.graph new.graph names.d names.m u w l
    apart = edge_linked old.graph new.graph names.d names.m u w at_u at_w l map.sound.graph can nd made sound

    kept : lists_of new ≡ vertex_unlisted z (lists_of old)
    kept = ap lists_in_view faces ∙ lists

    darts : AreDartsOn new.graph (tables_of new) (lists_of new)
    darts =
        let here : AreDartsOn new.graph (on_cycle names.m cycle (on_cycle names.d cycle (not_bare z (tables_of old)))) (vertex_unlisted z (lists_of old)) =
        λ c o. let r = map.darts c o in (up old.graph new.graph names.d names.m u w l apart _ r.0, old_cycle old.graph new.graph names.d names.m u w l apart (tables_of old) cycle _ r.0 ∙ r.1) in
        subst (λ t. AreDartsOn new.graph t (lists_of new)) (sym grown) (subst (AreDartsOn new.graph (on_cycle names.m cycle (on_cycle names.d cycle (not_bare z (tables_of old))))) (sym kept) here)

    pub grows_cycle : linked_faces names.d names.m u w at_u (Grows cycle) ≡ grows names.d names.m z cycle → FitsLinked old.graph new.graph (tables_of old) names.d names.m u at_u at_w (Grows cycle) → IsLinkMade old new names u w at_u at_w l (Grows cycle)
    grows_cycle q fits =
        let stepped : tables_of new ≡ step_faces new.graph (tables_of old) (linked_faces names.d names.m u w at_u (Grows cycle)) = grown ∙ ap (step_faces new.graph (tables_of old)) (sym q) in
        let cycles : new.faces.spare_cycles ≡ cleared.faces.spare_cycles = ap (λ f. f.spare_cycles) faces in
        let rooms : new.faces.spare_faces ≡ cleared.faces.spare_faces = ap (λ f. f.spare_faces) faces in
        let a = room.of_cycles in
        let b = room.of_faces in
        record {
          new_darts = nd;
          graph = made;
          tables = stepped;
          fits = fits;
          lists = tt;
          map = record { sound = linked_map old.graph new.graph names.d names.m u w at_u at_w l map.sound.graph can nd made sound (tables_of old) (tables_of new) (Grows cycle) map.sound stepped fits; darts = darts };
          spare = same_spare old cleared new new names.d names.m u w at_u at_w l graph (λ _. graph_part new) spare;
          spare_cycles = omega (arith, cycles, a);
          spare_faces = omega (arith, rooms, b);
          capacity_of_cycles = ap (λ f. f.capacity_of_cycles) faces ∙ room.capacity_of_cycles;
          capacity_of_faces = ap (λ f. f.capacity_of_faces) faces ∙ room.capacity_of_faces;
          carried = subst IsSome (sym (ap (λ f. f.moved) faces ∙ lent)) back;
        }
