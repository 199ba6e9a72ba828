use Rattle.std.proofs.Common.{refl, sym, subst, arith}
use Rattle.dcel_records.specs.StoredRows.{IsRoom}
use Rattle.dcel_records.proofs.Grown.{grown_room, raised_room, sound_grown, graph_grown, tables_grown, lists_grown}
use Rattle.dcel_records.proofs.records.Records.reserve.Goals as goal

pub invariant_of-self : goal.invariant_of-self
invariant_of-self c =
    sound_grown c.self.inside _ (c.grow.ensures.vertices, c.grow.ensures.darts, c.grow.ensures.cycles, c.grow.ensures.faces) (λ rows m. m) refl refl c.self.invariant
    (grown_room c.self.inside.vertices c.grow.new.vertices c.grow.ensures.vertices c.self.inside.vertex_room c.self.invariant.vertex_room)
    (grown_room c.self.inside.cycles c.grow.new.cycles c.grow.ensures.cycles c.self.inside.cycle_room c.self.invariant.cycle_room)
    c.self.invariant.moved c.self.invariant.keys

pub invariant_of-self-in_err-grow_lists-in-Some : goal.invariant_of-self-in_err-grow_lists-in-Some
invariant_of-self-in_err-grow_lists-in-Some c =
    sound_grown c.self.inside _ (c.grow.ensures.vertices, c.grow.ensures.darts, c.grow.ensures.cycles, c.grow.ensures.faces) (λ rows m. m) refl refl c.self.invariant
    (grown_room c.self.inside.vertices c.grow.new.vertices c.grow.ensures.vertices c.self.inside.vertex_room c.self.invariant.vertex_room)
    (grown_room c.self.inside.cycles c.grow.new.cycles c.grow.ensures.cycles c.self.inside.cycle_room c.self.invariant.cycle_room)
    (c.grow_lists.ensures.keeps c.self.inside.cycle_room c.self.inside.vertex_room c.self.invariant.moved) c.self.invariant.keys

pub invariant_of-self-in_err-grow_order-in-Some : goal.invariant_of-self-in_err-grow_order-in-Some
invariant_of-self-in_err-grow_order-in-Some c =
    sound_grown c.self.inside _ (c.grow.ensures.vertices, c.grow.ensures.darts, c.grow.ensures.cycles, c.grow.ensures.faces) (λ rows m. m) refl refl c.self.invariant
    (grown_room c.self.inside.vertices c.grow.new.vertices c.grow.ensures.vertices c.self.inside.vertex_room c.self.invariant.vertex_room)
    (grown_room c.self.inside.cycles c.grow.new.cycles c.grow.ensures.cycles c.self.inside.cycle_room c.self.invariant.cycle_room)
    (c.grow_lists.ensures.keeps c.self.inside.cycle_room c.self.inside.vertex_room c.self.invariant.moved) (let k = c.self.invariant.keys in let e = c.grow_order.ensures.keeps in omega arith)

pub invariant_of-self-in-Some : goal.invariant_of-self-in-Some
invariant_of-self-in-Some c =
    sound_grown c.self.inside _ (c.grow.ensures.vertices, c.grow.ensures.darts, c.grow.ensures.cycles, c.grow.ensures.faces) c.reserve.ensures.map refl refl c.self.invariant
    (subst (λ n. IsRoom n c.grow.new.vertices) (sym c.promise-vertices.ensures)
    (raised_room c.self.inside.vertices c.grow.new.vertices c.grow.ensures.vertices c.self.inside.vertex_room c.args.room.vertices c.self.invariant.vertex_room
    c.in_ok-grow-in-Some.ensures.room_of_vertices))
    (subst (λ n. IsRoom n c.grow.new.cycles) (sym c.promise-cycles.ensures)
    (raised_room c.self.inside.cycles c.grow.new.cycles c.grow.ensures.cycles c.self.inside.cycle_room c.args.room.cycles c.self.invariant.cycle_room c.in_ok-grow-in-Some.ensures.room_of_cycles))
    c.in_ok-grow_lists-in-Some.ensures.room c.in_ok-grow_order-in-Some.ensures.room

pub returns-in_err-grow-in-Some-clause-graph : goal.returns-in_err-grow-in-Some-clause-graph
returns-in_err-grow-in-Some-clause-graph c =
    graph_grown c.self.inside (record c.self.inside { vertices = c.grow.new.vertices; darts = c.grow.new.darts; cycles = c.grow.new.cycles; faces = c.grow.new.faces })
    (c.grow.ensures.vertices, c.grow.ensures.darts, c.grow.ensures.cycles, c.grow.ensures.faces) _ c.self.view_is

pub returns-in_err-grow-in-Some-clause-tables : goal.returns-in_err-grow-in-Some-clause-tables
returns-in_err-grow-in-Some-clause-tables c =
    tables_grown c.self.inside (record c.self.inside { vertices = c.grow.new.vertices; darts = c.grow.new.darts; cycles = c.grow.new.cycles; faces = c.grow.new.faces })
    (c.grow.ensures.vertices, c.grow.ensures.darts, c.grow.ensures.cycles, c.grow.ensures.faces) _ c.self.view_is

pub returns-in_err-grow-in-Some-clause-lists : goal.returns-in_err-grow-in-Some-clause-lists
returns-in_err-grow-in-Some-clause-lists c =
    lists_grown c.self.inside (record c.self.inside { vertices = c.grow.new.vertices; darts = c.grow.new.darts; cycles = c.grow.new.cycles; faces = c.grow.new.faces })
    (c.grow.ensures.vertices, c.grow.ensures.darts, c.grow.ensures.cycles, c.grow.ensures.faces) _ c.self.view_is

pub returns-in_err-grow_lists-in-Some-clause-graph : goal.returns-in_err-grow_lists-in-Some-clause-graph
returns-in_err-grow_lists-in-Some-clause-graph c =
    graph_grown c.self.inside (record c.self.inside { vertices = c.grow.new.vertices; darts = c.grow.new.darts; cycles = c.grow.new.cycles; faces = c.grow.new.faces })
    (c.grow.ensures.vertices, c.grow.ensures.darts, c.grow.ensures.cycles, c.grow.ensures.faces) _ c.self.view_is

pub returns-in_err-grow_lists-in-Some-clause-tables : goal.returns-in_err-grow_lists-in-Some-clause-tables
returns-in_err-grow_lists-in-Some-clause-tables c =
    tables_grown c.self.inside (record c.self.inside { vertices = c.grow.new.vertices; darts = c.grow.new.darts; cycles = c.grow.new.cycles; faces = c.grow.new.faces })
    (c.grow.ensures.vertices, c.grow.ensures.darts, c.grow.ensures.cycles, c.grow.ensures.faces) _ c.self.view_is

pub returns-in_err-grow_lists-in-Some-clause-lists : goal.returns-in_err-grow_lists-in-Some-clause-lists
returns-in_err-grow_lists-in-Some-clause-lists c =
    lists_grown c.self.inside (record c.self.inside { vertices = c.grow.new.vertices; darts = c.grow.new.darts; cycles = c.grow.new.cycles; faces = c.grow.new.faces })
    (c.grow.ensures.vertices, c.grow.ensures.darts, c.grow.ensures.cycles, c.grow.ensures.faces) _ c.self.view_is

pub returns-in_err-grow_order-in-Some-clause-graph : goal.returns-in_err-grow_order-in-Some-clause-graph
returns-in_err-grow_order-in-Some-clause-graph c =
    graph_grown c.self.inside (record c.self.inside { vertices = c.grow.new.vertices; darts = c.grow.new.darts; cycles = c.grow.new.cycles; faces = c.grow.new.faces })
    (c.grow.ensures.vertices, c.grow.ensures.darts, c.grow.ensures.cycles, c.grow.ensures.faces) _ c.self.view_is

pub returns-in_err-grow_order-in-Some-clause-tables : goal.returns-in_err-grow_order-in-Some-clause-tables
returns-in_err-grow_order-in-Some-clause-tables c =
    tables_grown c.self.inside (record c.self.inside { vertices = c.grow.new.vertices; darts = c.grow.new.darts; cycles = c.grow.new.cycles; faces = c.grow.new.faces })
    (c.grow.ensures.vertices, c.grow.ensures.darts, c.grow.ensures.cycles, c.grow.ensures.faces) _ c.self.view_is

pub returns-in_err-grow_order-in-Some-clause-lists : goal.returns-in_err-grow_order-in-Some-clause-lists
returns-in_err-grow_order-in-Some-clause-lists c =
    lists_grown c.self.inside (record c.self.inside { vertices = c.grow.new.vertices; darts = c.grow.new.darts; cycles = c.grow.new.cycles; faces = c.grow.new.faces })
    (c.grow.ensures.vertices, c.grow.ensures.darts, c.grow.ensures.cycles, c.grow.ensures.faces) _ c.self.view_is

pub returns-in_ok-grow_order-in-Some-clause-graph : goal.returns-in_ok-grow_order-in-Some-clause-graph
returns-in_ok-grow_order-in-Some-clause-graph c =
    graph_grown c.self.inside (record c.self.inside { vertices = c.grow.new.vertices; darts = c.grow.new.darts; cycles = c.grow.new.cycles; faces = c.grow.new.faces })
    (c.grow.ensures.vertices, c.grow.ensures.darts, c.grow.ensures.cycles, c.grow.ensures.faces) _ c.self.view_is

pub returns-in_ok-grow_order-in-Some-clause-tables : goal.returns-in_ok-grow_order-in-Some-clause-tables
returns-in_ok-grow_order-in-Some-clause-tables c =
    tables_grown c.self.inside (record c.self.inside { vertices = c.grow.new.vertices; darts = c.grow.new.darts; cycles = c.grow.new.cycles; faces = c.grow.new.faces })
    (c.grow.ensures.vertices, c.grow.ensures.darts, c.grow.ensures.cycles, c.grow.ensures.faces) _ c.self.view_is

pub returns-in_ok-grow_order-in-Some-clause-lists : goal.returns-in_ok-grow_order-in-Some-clause-lists
returns-in_ok-grow_order-in-Some-clause-lists c =
    lists_grown c.self.inside (record c.self.inside { vertices = c.grow.new.vertices; darts = c.grow.new.darts; cycles = c.grow.new.cycles; faces = c.grow.new.faces })
    (c.grow.ensures.vertices, c.grow.ensures.darts, c.grow.ensures.cycles, c.grow.ensures.faces) _ c.self.view_is
