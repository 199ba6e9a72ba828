-- Cycles of a face that move to another one, one after another.
use Rattle.std.proofs.Common.{◌≡◌, ◌≢◌, ◌+◌, ◌<◌, ◌≤◌, ◌==◌, ◌++◌, ℕ, Bool, true, false, not, cond, List, [], ◌∷◌, length, Option, Some, refl, sym, ap, ◌∙◌, arith, append_assoc, length-append}
use Rattle.std.specs.Prelude.{◌&&◌}
use Rattle.std.specs.List.{filter}
use Rattle.std.proofs.lemmas.List.{append-nil}
use Rattle.integers.proofs.Tests.{other_number}
use Rattle.plane_graphs.specs.Ascending.{Member}
use Rattle.slab_laws.specs.declared.names.CycleId.{CycleId}
use Rattle.slab_laws.specs.declared.names.FaceId.{FaceId}
use Rattle.slab_laws.specs.FaceLists.{MovedView, AreFacesListed, AreOnce, first_of, cycle_follower}
use Rattle.slab_laws.specs.Tables.{names, NamesAscend}
use Rattle.slab_laws.specs.View.{HasCycle, kind_in, face_in}
use Rattle.arr_notes.specs.FaceWriters.{moved_to, with_cycle}
use Rattle.dcel_records.specs.ListChanges.{but_cycle, cycle_relisted}
use Rattle.dcel_records.specs.RecordsView.{RecordsView, GraphView, lists_of}
use Rattle.face_changes.specs.FacesByPairs.{beside}
use Rattle.cycle_writers.specs.declared.moves.Which.{Which}
use Rattle.cycle_writers.specs.Taken.{takes, takes_cycle}
use Rattle.cycle_writers.proofs.MovedBoth.{nothing_moves}
use Rattle.cycle_writers.proofs.MovedRows.{cycle_moved}
use Rattle.cycle_writers.proofs.Moving as Moving
use Rattle.cycle_writers.proofs.Still.{IsStill, still_itself, still_on}

abbrev pub name : CycleId → ℕ
name c = c.0

pub same_cycle : (c e : CycleId) → name c ≡ name e → c ≡ e
same_cycle c e q = λ i. record { 0 = q i }

pub cycles_left : RecordsView → FaceId → Option CycleId → ℕ
cycles_left h from next = Moving.todo name same_cycle ((lists_of h).cycles from) next

-- the cycles of `done` were looked at, those of `rest` weren't
pub record AreCyclesMoving (which : Which) (but : CycleId) (from to : FaceId) (old : RecordsView) (carried_old : MovedView) (now : RecordsView) (carried : MovedView) (next : Option CycleId) (done rest : List CycleId) : Type 0 where
  pub along : Moving.IsAlong name same_cycle (takes_cycle old.graph which but (lists_of old)) ((lists_of old).cycles from) ((lists_of now).cycles from) next done rest
  pub moved : carried ≡ record carried_old { cycles = carried_old.cycles ++ filter (takes_cycle old.graph which but (lists_of old)) done }
  pub room : length carried.cycles + length rest ≤ carried_old.room_of_cycles
  pub tables : now.faces.tables ≡ moved_to (filter (takes_cycle old.graph which but (lists_of old)) done) [] to old.faces.tables
  pub bare : (lists_of now).bare ≡ (lists_of old).bare
  pub still : IsStill old now

module _ (which : Which) (but : CycleId) (from to : FaceId) (two : from ≢ to) (old : RecordsView) (carried_old : MovedView) where
  abbrev p : CycleId → Bool
  p = takes_cycle old.graph which but (lists_of old)

  pub begins : (next : Option CycleId) → next ≡ first_of ((lists_of old).cycles from) → length carried_old.cycles + length ((lists_of old).cycles from) ≤ carried_old.room_of_cycles → AreCyclesMoving which but from to old carried_old old carried_old next [] ((lists_of old).cycles from)
  begins next e room = record {
    along = Moving.begins name same_cycle p ((lists_of old).cycles from) next e;
    moved = λ i. record carried_old { cycles = sym (append-nil carried_old.cycles) i };
    room = room;
    tables = sym (nothing_moves to old.faces.tables);
    bare = refl;
    still = still_itself old;
  }

  -- ---- a cycle is looked at
  module _ (now : RecordsView) (carried : MovedView) (c : CycleId) (done rest : List CycleId) (m : AreCyclesMoving which but from to old carried_old now carried (Some c) done rest) (laws : AreFacesListed now.faces.tables (lists_of now)) where
    abbrev list_old : List CycleId
    list_old = (lists_of old).cycles from

    abbrev list_now : List CycleId
    list_now = (lists_of now).cycles from

    once : AreOnce list_now
    once = laws.cycles_once from

    pub has_cycle : HasCycle now.faces.tables c
    has_cycle = ((laws.cycles from c).0 (Moving.in_now name same_cycle p list_old list_now c done rest m.along once)).0

    face_is : face_in now.faces.tables c ≡ from
    face_is = ((laws.cycles from c).0 (Moving.in_now name same_cycle p list_old list_now c done rest m.along once)).1

    pub listed : Member c list_old
    listed = Moving.in_old name same_cycle p list_old list_now c done rest m.along once

    pub graph_is : now.graph ≡ old.graph
    graph_is = ap (λ (g : GraphView). g.graph) m.still.graph

    pub dart_is : (lists_of now).dart_on c ≡ (lists_of old).dart_on c
    dart_is = λ i. m.still.darts i c

    pub taken_is : takes_cycle now.graph which but (lists_of now) c ≡ p c
    taken_is = λ i. not (c.0 == but.0) && takes (graph_is i) which (beside (dart_is i))

    -- those that are left
    pub ys : List CycleId
    ys = Moving.ys name same_cycle p list_old list_now c done rest m.along once

    room_is : (length carried.cycles + length ys ≤ carried_old.room_of_cycles) × (length carried.cycles + 1 + length ys ≤ carried_old.room_of_cycles)
    unfolding ys
    room_is = Moving.room_is name same_cycle p list_old list_now c done rest m.along once (length carried.cycles) carried_old.room_of_cycles m.room

    module _ (next : Option CycleId) (follows : next ≡ cycle_follower c ((lists_of now).cycles (face_in now.faces.tables c))) where
      next_is : next ≡ first_of ys
      unfolding ys
      next_is = Moving.next_is name same_cycle p list_old list_now c done rest m.along once next (follows ∙ ap (λ a. cycle_follower c ((lists_of now).cycles a)) face_is)

      -- it stays
      module _ (t : p c ≡ false) where
        pub stays : AreCyclesMoving which but from to old carried_old now carried next (done ++ c ∷ []) ys
        unfolding ys next_is
        stays =
            let f = Moving.listed_stays name same_cycle p list_old list_now c done rest m.along once t in record {
              along = Moving.stays name same_cycle p list_old list_now c done rest m.along once next next_is t;
              moved = m.moved ∙ (λ i. record carried_old { cycles = carried_old.cycles ++ sym f i });
              room = room_is.0;
              tables = m.tables ∙ (λ i. moved_to (sym f i) [] to old.faces.tables);
              bare = m.bare;
              still = m.still;
            }

        pub stays_less : cycles_left now from next < cycles_left now from (Some c)
        unfolding cycles_left ys next_is
        stays_less = Moving.stays_less name same_cycle p list_old list_now c done rest m.along once next next_is

      -- it goes
      module _ (t : p c ≡ true) (then : RecordsView) (lists : lists_of then ≡ cycle_relisted c to (lists_of now)) where
        list_then : (lists_of then).cycles from ≡ but_cycle c list_now
        list_then = (λ i. (lists i).cycles from) ∙ ap (λ b. cond b (c ∷ but_cycle c list_now) (but_cycle c list_now)) (other_number from.0 to.0 (λ e. two (λ i. record { 0 = e i })))

        pub goes : (tables : then.faces.tables ≡ with_cycle c (kind_in now.faces.tables c) to now.faces.tables) (ascend : NamesAscend (names now.faces.tables.cycles)) (still : IsStill now then) (more : MovedView) (pushed : more.cycles ≡ carried.cycles ++ c ∷ []) (vertices : more.vertices ≡ carried.vertices) (room_of_cycles : more.room_of_cycles ≡ carried.room_of_cycles) (room_of_vertices : more.room_of_vertices ≡ carried.room_of_vertices) → AreCyclesMoving which but from to old carried_old then more next (done ++ c ∷ []) ys
        unfolding ys next_is
        goes tables ascend still more pushed vertices room_of_cycles room_of_vertices =
            let f = Moving.listed_goes name same_cycle p list_old list_now c done rest m.along once t in
            let k : carried.cycles ≡ carried_old.cycles ++ filter p done = ap (λ (k : MovedView). k.cycles) m.moved in
            let l : length more.cycles ≡ length carried.cycles + 1 = ap length pushed ∙ length-append carried.cycles (c ∷ []) in
            let r = room_is.1 in record {
              along = Moving.goes name same_cycle p list_old list_now c done rest m.along once next next_is ((lists_of then).cycles from) list_then t;
              moved = λ i. record {
                cycles = (pushed ∙ ap (λ zs. zs ++ c ∷ []) k ∙ append_assoc carried_old.cycles (filter p done) (c ∷ []) ∙ ap (λ zs. carried_old.cycles ++ zs) (sym f)) i;
                vertices = (vertices ∙ ap (λ (k : MovedView). k.vertices) m.moved) i;
                room_of_cycles = (room_of_cycles ∙ ap (λ (k : MovedView). k.room_of_cycles) m.moved) i;
                room_of_vertices = (room_of_vertices ∙ ap (λ (k : MovedView). k.room_of_vertices) m.moved) i;
              };
              room = omega (arith, l, r);
              tables = tables ∙ cycle_moved (filter p done) c to old.faces.tables now.faces.tables m.tables has_cycle ascend ∙ (λ i. moved_to (sym f i) [] to old.faces.tables);
              bare = (λ i. (lists i).bare) ∙ m.bare;
              still = still_on old now then m.still still;
            }

        pub goes_less : cycles_left then from next < cycles_left now from (Some c)
        unfolding cycles_left ys next_is
        goes_less = Moving.goes_less name same_cycle p list_old list_now c done rest m.along once next next_is ((lists_of then).cycles from) list_then
