use Rattle.slab.specs.Slab.{get}
use Rattle.dcel_records.proofs.Rooms.{room_more, room_fits}
use Rattle.std.proofs.Common.{ap, refl, arith, is_some, ◌∙◌}
use Rattle.slab_laws.specs.View.{cycle_id}
use Rattle.dcel_records.specs.RecordsView.{graph_part}
use Rattle.dcel_records.specs.ListChanges.{cycle_listed}
use Rattle.dcel_records.proofs.Relinked.{lists_after, face_key}
use Rattle.dcel_records.proofs.CyclesWritten.{areas_stay, cycle_new, more_others, more_sound, more_tables, more_lists}
use Rattle.dcel_records.proofs.OnCycles.{on_kept, kept_put, parts_same}
use Rattle.dcel_records.proofs.records.Records.add_cycle.Goals as goal

pub link_first-requires-clause-chained : goal.link_first-requires-clause-chained
link_first-requires-clause-chained c =
    more_others c.self.inside _ c.self.view_is c.self.invariant.faces c.insert_reserved-cycle.result c.args.kind c.args.dart c.args.face _ refl refl refl
    c.insert_reserved-cycle.new.self c.insert_reserved-cycle.ensures.was_vacant c.insert_reserved-cycle.ensures.updates

pub link_first-requires-clause-has : goal.link_first-requires-clause-has
link_first-requires-clause-has c = ap is_some c.insert_reserved-cycle.ensures.updates.changed

pub link_first-requires-clause-face : goal.link_first-requires-clause-face
link_first-requires-clause-face c = face_key c.self.inside _ c.self.view_is c.args.face c.requires.face

pub invariant_of-self : goal.invariant_of-self
invariant_of-self c = record {
  graph = c.self.invariant.graph;
  faces = more_sound c.self.inside _ c.self.view_is c.self.invariant.faces c.insert_reserved-cycle.result c.args.kind c.args.dart c.args.face _ refl refl refl
      c.insert_reserved-cycle.new.self c.insert_reserved-cycle.ensures.was_vacant c.insert_reserved-cycle.ensures.updates c.link_first.new.rows c.link_first.new.faces
      c.link_first.ensures;
  vertex_room = c.self.invariant.vertex_room;
  cycle_room =
      let z = ap (λ v. v.faces.spare_cycles) c.self.view_is in
      let r = c.requires.room in
      room_more c.self.inside.cycle_room c.self.inside.cycles c.link_first.new.rows c.self.invariant.cycle_room (omega arith)
      (c.link_first.ensures.kept.len ∙ c.insert_reserved-cycle.ensures.len) (c.link_first.ensures.kept.capacity ∙ c.insert_reserved-cycle.ensures.capacity);
  on_cycles =
      let kept = kept_put c.self.inside.cycles c.insert_reserved-cycle.new.self c.insert_reserved-cycle.result _ c.insert_reserved-cycle.ensures.was_vacant c.insert_reserved-cycle.ensures.updates in
      on_kept c.self.inside.darts c.self.inside.cycles c.link_first.new.rows
      (λ n p h. parts_same (get c.insert_reserved-cycle.new.self n) (get c.link_first.new.rows n)
      (areas_stay c.insert_reserved-cycle.new.self c.link_first.new.rows c.self.inside.faces c.link_first.new.faces c.link_first.ensures.kept n) p (kept n p h))
      c.self.invariant.on_cycles;
  marked = c.self.invariant.marked;
  moved = c.self.invariant.moved;
  isolated = c.self.invariant.isolated;
  keys = c.self.invariant.keys;
}

pub returns-clause-name : goal.returns-clause-name
returns-clause-name c = cycle_new c.self.inside _ c.self.view_is c.self.invariant.faces (cycle_id c.insert_reserved-cycle.result) c.insert_reserved-cycle.ensures.was_vacant

pub returns-clause-tables : goal.returns-clause-tables
returns-clause-tables c =
    more_tables c.self.inside _ c.self.view_is c.self.invariant.faces c.insert_reserved-cycle.result c.args.kind c.args.dart c.args.face _ refl refl refl
    c.insert_reserved-cycle.new.self c.insert_reserved-cycle.ensures.was_vacant c.insert_reserved-cycle.ensures.updates c.link_first.new.rows c.link_first.new.faces
    c.link_first.ensures

pub returns-clause-lists : goal.returns-clause-lists
returns-clause-lists c =
    lists_after c.self.inside _ c.self.view_is c.self.inside.vertices c.link_first.new.rows c.link_first.new.faces
    (cycle_listed (cycle_id c.insert_reserved-cycle.result) c.args.face c.args.dart)
    (more_lists c.self.inside _ c.self.view_is c.self.invariant.faces c.insert_reserved-cycle.result c.args.kind c.args.dart c.args.face _ refl refl refl c.insert_reserved-cycle.new.self
    c.insert_reserved-cycle.ensures.was_vacant c.insert_reserved-cycle.ensures.updates c.link_first.new.rows c.link_first.new.faces c.link_first.ensures)

pub returns-clause-spare : goal.returns-clause-spare
returns-clause-spare c =
    let s = ap (λ v. v.faces.spare_cycles) c.self.view_is in
    let t = ap (λ v. v.faces.spare_faces) c.self.view_is in
    let p = ap (λ v. v.faces.capacity_of_cycles) c.self.view_is in
    let q = ap (λ v. v.faces.capacity_of_faces) c.self.view_is in
    let a = c.link_first.ensures.kept.len in
    let b = c.link_first.ensures.kept.capacity in
    let d = c.link_first.ensures.kept.faces_len in
    let e = c.link_first.ensures.kept.faces_capacity in
    let i = c.insert_reserved-cycle.ensures.len in
    let j = c.insert_reserved-cycle.ensures.capacity in
    let r = c.requires.room in
    record { of_cycles = omega arith; of_faces = omega arith; capacity_of_cycles = omega arith; capacity_of_faces = omega arith }

pub returns-clause-graph : goal.returns-clause-graph
returns-clause-graph c = ap graph_part c.self.view_is

pub insert_reserved-cycle-requires : goal.insert_reserved-cycle-requires
insert_reserved-cycle-requires c = room_fits c.self.inside.cycle_room _ c.self.inside.cycles c.self.invariant.cycle_room (ap (λ v. v.faces.spare_cycles) c.self.view_is) c.requires.room
