-- Isolated vertices of a face that move to another one, one after another.
use Rattle.std.proofs.Common.{◌≡◌, ◌≢◌, ◌+◌, ◌<◌, ◌≤◌, ◌++◌, ℕ, Bool, true, false, cond, List, [], ◌∷◌, length, Option, Some, refl, sym, ap, ◌∙◌, arith, append_assoc, length-append}
use Rattle.std.specs.List.{filter}
use Rattle.std.proofs.lemmas.List.{append-nil}
use Rattle.integers.proofs.Tests.{other_number}
use Rattle.plane_graphs.specs.Ascending.{Member}
use Rattle.slab_laws.specs.declared.names.VertexId.{VertexId}
use Rattle.slab_laws.specs.declared.names.FaceId.{FaceId}
use Rattle.slab_laws.specs.FaceLists.{MovedView, AreFacesListed, AreOnce, first_of, vertex_follower}
use Rattle.slab_laws.specs.Tables.{names, NamesAscend}
use Rattle.slab_laws.specs.View.{HasBareFace, bare_face_in}
use Rattle.arr_notes.specs.FaceWriters.{moved_to, bare_in}
use Rattle.dcel_records.specs.ListChanges.{but_vertex, vertex_relisted}
use Rattle.dcel_records.specs.RecordsView.{RecordsView, GraphView, lists_of}
use Rattle.face_changes.specs.FacesByPairs.{round}
use Rattle.cycle_writers.specs.declared.moves.Which.{Which}
use Rattle.cycle_writers.specs.Taken.{takes, takes_vertex}
use Rattle.cycle_writers.proofs.MovedBoth.{nothing_moves}
use Rattle.cycle_writers.proofs.MovedRows.{vertex_moved}
use Rattle.cycle_writers.proofs.Moving as Moving
use Rattle.cycle_writers.proofs.Still.{IsStill, still_itself, still_on}

abbrev pub name : VertexId → ℕ
name u = u.0

pub same_vertex : (u e : VertexId) → name u ≡ name e → u ≡ e
same_vertex u e q = λ i. record { 0 = q i }

pub vertices_left : RecordsView → FaceId → Option VertexId → ℕ
vertices_left h from next = Moving.todo name same_vertex ((lists_of h).bare from) next

-- the vertices of `done` were looked at, those of `rest` weren't
pub record AreVerticesMoving (which : Which) (from to : FaceId) (old : RecordsView) (carried_old : MovedView) (now : RecordsView) (carried : MovedView) (next : Option VertexId) (done rest : List VertexId) : Type 0 where
  pub along : Moving.IsAlong name same_vertex (takes_vertex old.graph which) ((lists_of old).bare from) ((lists_of now).bare from) next done rest
  pub moved : carried ≡ record carried_old { vertices = carried_old.vertices ++ filter (takes_vertex old.graph which) done }
  pub room : length carried.vertices + length rest ≤ carried_old.room_of_vertices
  pub tables : now.faces.tables ≡ moved_to [] (filter (takes_vertex old.graph which) done) to old.faces.tables
  pub cycles : (lists_of now).cycles ≡ (lists_of old).cycles
  pub still : IsStill old now

module _ (which : Which) (from to : FaceId) (two : from ≢ to) (old : RecordsView) (carried_old : MovedView) where
  abbrev p : VertexId → Bool
  p = takes_vertex old.graph which

  pub begins : (next : Option VertexId) → next ≡ first_of ((lists_of old).bare from) → length carried_old.vertices + length ((lists_of old).bare from) ≤ carried_old.room_of_vertices → AreVerticesMoving which from to old carried_old old carried_old next [] ((lists_of old).bare from)
  begins next e room = record {
    along = Moving.begins name same_vertex p ((lists_of old).bare from) next e;
    moved = λ i. record carried_old { vertices = sym (append-nil carried_old.vertices) i };
    room = room;
    tables = sym (nothing_moves to old.faces.tables);
    cycles = refl;
    still = still_itself old;
  }

  -- ---- a vertex is looked at
  module _ (now : RecordsView) (carried : MovedView) (u : VertexId) (done rest : List VertexId) (m : AreVerticesMoving which from to old carried_old now carried (Some u) done rest) (laws : AreFacesListed now.faces.tables (lists_of now)) where
    abbrev list_old : List VertexId
    list_old = (lists_of old).bare from

    abbrev list_now : List VertexId
    list_now = (lists_of now).bare from

    once : AreOnce list_now
    once = laws.bare_once from

    pub has_bare : HasBareFace now.faces.tables u
    has_bare = ((laws.bare from u).0 (Moving.in_now name same_vertex p list_old list_now u done rest m.along once)).0

    face_is : bare_face_in now.faces.tables u ≡ from
    face_is = ((laws.bare from u).0 (Moving.in_now name same_vertex p list_old list_now u done rest m.along once)).1

    pub listed : Member u list_old
    listed = Moving.in_old name same_vertex p list_old list_now u done rest m.along once

    pub graph_is : now.graph ≡ old.graph
    graph_is = ap (λ (g : GraphView). g.graph) m.still.graph

    pub taken_is : takes_vertex now.graph which u ≡ p u
    taken_is = λ i. takes (graph_is i) which (round u)

    -- those that are left
    pub ys : List VertexId
    ys = Moving.ys name same_vertex p list_old list_now u done rest m.along once

    room_is : (length carried.vertices + length ys ≤ carried_old.room_of_vertices) × (length carried.vertices + 1 + length ys ≤ carried_old.room_of_vertices)
    unfolding ys
    room_is = Moving.room_is name same_vertex p list_old list_now u done rest m.along once (length carried.vertices) carried_old.room_of_vertices m.room

    module _ (next : Option VertexId) (follows : next ≡ vertex_follower u ((lists_of now).bare (bare_face_in now.faces.tables u))) where
      next_is : next ≡ first_of ys
      unfolding ys
      next_is = Moving.next_is name same_vertex p list_old list_now u done rest m.along once next (follows ∙ ap (λ a. vertex_follower u ((lists_of now).bare a)) face_is)

      -- it stays
      module _ (t : p u ≡ false) where
        pub stays : AreVerticesMoving which from to old carried_old now carried next (done ++ u ∷ []) ys
        unfolding ys next_is
        stays =
            let f = Moving.listed_stays name same_vertex p list_old list_now u done rest m.along once t in record {
              along = Moving.stays name same_vertex p list_old list_now u done rest m.along once next next_is t;
              moved = m.moved ∙ (λ i. record carried_old { vertices = carried_old.vertices ++ sym f i });
              room = room_is.0;
              tables = m.tables ∙ (λ i. moved_to [] (sym f i) to old.faces.tables);
              cycles = m.cycles;
              still = m.still;
            }

        pub stays_less : vertices_left now from next < vertices_left now from (Some u)
        unfolding vertices_left ys next_is
        stays_less = Moving.stays_less name same_vertex p list_old list_now u done rest m.along once next next_is

      -- it goes
      module _ (t : p u ≡ true) (then : RecordsView) (lists : lists_of then ≡ vertex_relisted u to (lists_of now)) where
        list_then : (lists_of then).bare from ≡ but_vertex u list_now
        list_then = (λ i. (lists i).bare from) ∙ ap (λ b. cond b (u ∷ but_vertex u list_now) (but_vertex u list_now)) (other_number from.0 to.0 (λ e. two (λ i. record { 0 = e i })))

        pub goes : (tables : then.faces.tables ≡ bare_in u to now.faces.tables) (ascend : NamesAscend (names now.faces.tables.bare)) (still : IsStill now then) (more : MovedView) (pushed : more.vertices ≡ carried.vertices ++ u ∷ []) (cycles : more.cycles ≡ carried.cycles) (room_of_cycles : more.room_of_cycles ≡ carried.room_of_cycles) (room_of_vertices : more.room_of_vertices ≡ carried.room_of_vertices) → AreVerticesMoving which from to old carried_old then more next (done ++ u ∷ []) ys
        unfolding ys next_is
        goes tables ascend still more pushed cycles room_of_cycles room_of_vertices =
            let f = Moving.listed_goes name same_vertex p list_old list_now u done rest m.along once t in
            let k : carried.vertices ≡ carried_old.vertices ++ filter p done = ap (λ (k : MovedView). k.vertices) m.moved in
            let l : length more.vertices ≡ length carried.vertices + 1 = ap length pushed ∙ length-append carried.vertices (u ∷ []) in
            let r = room_is.1 in record {
              along = Moving.goes name same_vertex p list_old list_now u done rest m.along once next next_is ((lists_of then).bare from) list_then t;
              moved = λ i. record {
                vertices = (pushed ∙ ap (λ zs. zs ++ u ∷ []) k ∙ append_assoc carried_old.vertices (filter p done) (u ∷ []) ∙ ap (λ zs. carried_old.vertices ++ zs) (sym f)) i;
                cycles = (cycles ∙ ap (λ (k : MovedView). k.cycles) m.moved) i;
                room_of_vertices = (room_of_vertices ∙ ap (λ (k : MovedView). k.room_of_vertices) m.moved) i;
                room_of_cycles = (room_of_cycles ∙ ap (λ (k : MovedView). k.room_of_cycles) m.moved) i;
              };
              room = omega (arith, l, r);
              tables = tables ∙ vertex_moved (filter p done) u to old.faces.tables now.faces.tables m.tables has_bare ascend ∙ (λ i. moved_to [] (sym f i) to old.faces.tables);
              cycles = (λ i. (lists i).cycles) ∙ m.cycles;
              still = still_on old now then m.still still;
            }

        pub goes_less : vertices_left then from next < vertices_left now from (Some u)
        unfolding vertices_left ys next_is
        goes_less = Moving.goes_less name same_vertex p list_old list_now u done rest m.along once next next_is ((lists_of then).bare from) list_then
