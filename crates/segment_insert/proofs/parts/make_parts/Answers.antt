use Rattle.std.proofs.Common.{◌≡◌, ◌∷◌, ◌+◌, arith, drop, get_or, refl, sym, ap, ◌∙◌, subst}
use Rattle.std.proofs.lemmas.List.{drop_all, drop_more}
use Rattle.exact_plane.specs.Segment.{line_of_segment}
use Rattle.plane_graphs.specs.Ascending.{Member}
use Rattle.plane_graphs.specs.Line.{IsProperLine}
use Rattle.plane_graphs.specs.Strands.{strand}
use Rattle.plane_graphs.proofs.Lines.{line_is_proper}
use Rattle.plane_graphs.proofs.Sorting.{any_default}
use Rattle.dcel_records.specs.RecordsView.{RecordsView}
use Rattle.dcel_records.specs.SoundMaps.{IsMapAtRest, map_of}
use Rattle.curve_history.specs.Past.{Past, SameLayer, strands_on}
use Rattle.observer_bus.specs.Rows.{bus_row}
use Rattle.told_steps.proofs.Moved.{same_layers}
use Rattle.side_parts.specs.declared.part.Part.{Part}
use Rattle.segment_insert.specs.Parts.{IsOpenPart}
use Rattle.segment_insert.specs.StepsMade.{IsDrawnAlong, SideComesAlong}
use Rattle.segment_insert.proofs.OpenParts.{part_stays, vertex_here}
use Rattle.segment_insert.proofs.PartsCome.{AreGiven, IsPartAt, along_there, coming_as, edge_comes, edge_may, high_below, low_below, marked, not_held, parts_begin, parts_held, parts_told, side_comes, side_open}
use Rattle.segment_insert.proofs.parts.make_parts.Given as given
use Rattle.segment_insert.proofs.parts.make_parts.Goals.{After-vertex_of-w, then-is_along, else-is_along}
use Rattle.segment_insert.proofs.parts.make_parts.Goals as goal

-- the part that comes next
part : (g : given.Over) → After-vertex_of-w g → Part
part g c = get_or c.args.parts.now c.each.part-index (record { low = 0; high = 0; side = 0 })

pub each-init : goal.each-init
each-init g c =
    let given : AreGiven c.args.records.now.graph c.args.meetings.now c.args.sides.now c.args.parts.now = record { named = c.requires.named; all_on = c.requires.all_on; few = c.requires.few; parts = c.requires.parts } in
    record {
      coming = parts_begin (map_of c.args.records.now) c.args.history.now _ c.args.curve.0 c.args.meetings.now c.args.sides.now c.args.parts.now given c.requires.in_step c.requires.plane;
      map = c.requires.map;
      layer = record { names = refl; pieces = refl; next = refl };
      named = c.requires.curve_named;
      darts = omega arith;
      cycles = omega arith;
      faces = omega arith;
      pairs = omega arith;
    }

pub returns-clause-told : goal.returns-clause-told
returns-clause-told g c =
    let given : AreGiven c.args.records.now.graph c.args.meetings.now c.args.sides.now c.args.parts.now = record { named = c.requires.named; all_on = c.requires.all_on; few = c.requires.few; parts = c.requires.parts } in
    parts_told (map_of c.args.records.now) c.args.history.now _ c.args.curve.0 c.args.meetings.now c.args.sides.now c.args.parts.now given _ _ (map_of c.each.records) c.each.history _ c.each.invariant.coming (drop_all _ c.args.parts.now c.each-test.false)

pub returns-clause-strands : goal.returns-clause-strands
returns-clause-strands g c =
    let given : AreGiven c.args.records.now.graph c.args.meetings.now c.args.sides.now c.args.parts.now = record { named = c.requires.named; all_on = c.requires.all_on; few = c.requires.few; parts = c.requires.parts } in
    parts_held (map_of c.args.records.now) c.args.history.now _ c.args.curve.0 c.args.meetings.now c.args.sides.now c.args.parts.now given _ _ (map_of c.each.records) c.each.history _ c.each.invariant.coming (drop_all _ c.args.parts.now c.each-test.false)

pub returns-clause-in_step : goal.returns-clause-in_step
returns-clause-in_step g c = c.each.invariant.coming.going.in_step

pub returns-clause-map : goal.returns-clause-map
returns-clause-map g c = c.each.invariant.map

-- ---- the next part
are_given : (g : given.Over) (c : After-vertex_of-w g) → AreGiven c.args.records.now.graph c.args.meetings.now c.args.sides.now c.args.parts.now
are_given g c = record { named = c.requires.named; all_on = c.requires.all_on; few = c.requires.few; parts = c.requires.parts }

is_part : (g : given.Over) (c : After-vertex_of-w g) → part g c ≡ get_or c.args.parts.now c.each.part-index (part g c)
unfolding part
is_part g c = any_default c.args.parts.now c.each.part-index _ (part g c) c.each-test.true

part_at : (g : given.Over) (c : After-vertex_of-w g) → IsPartAt c.args.meetings.now c.args.sides.now c.args.parts.now c.each.part-index (part g c) c.index-sides-part.result c.vertex_of-u.result c.vertex_of-w.result
unfolding part
part_at g c = record {
  first = c.index-meetings-part.result;
  second = c.index-meetings-part-in-each.result;
  below = c.each-test.true;
  at_part = is_part g c;
  at_side = c.index-sides-part.is;
  at_first = c.index-meetings-part.is;
  at_second = c.index-meetings-part-in-each.is;
  is_first = c.vertex_of-u.ensures;
  is_second = c.vertex_of-w.ensures;
}

next : (g : given.Over) (c : After-vertex_of-w g) → drop c.each.part-index c.args.parts.now ≡ part g c ∷ drop (c.each.part-index + 1) c.args.parts.now
next g c = drop_more c.args.parts.now c.each.part-index (part g c) c.each-test.true ∙ ap (λ t. t ∷ drop (c.each.part-index + 1) c.args.parts.now) (sym (is_part g c))

-- it is open, on its side's line
open_now : (g : given.Over) (c : After-vertex_of-w g) → IsOpenPart c.each.records.graph c.line-line.result c.vertex_of-u.result c.vertex_of-w.result
open_now g c =
    let line = subst IsProperLine c.line-line.ensures.value (line_is_proper c.line-line.result c.line-line.ensures.line) in
    let there = side_open c.args.records.now.graph c.args.meetings.now c.args.sides.now c.args.parts.now (are_given g c) c.each.part-index (part g c) c.index-sides-part.result c.vertex_of-u.result c.vertex_of-w.result (part_at g c) line in
    subst (λ l. IsOpenPart c.each.records.graph l c.vertex_of-u.result c.vertex_of-w.result) (sym c.line-line.ensures.value)
    (part_stays c.args.records.now.graph c.each.records.graph (line_of_segment c.index-sides-part.result) c.vertex_of-u.result c.vertex_of-w.result c.each.invariant.coming.going.vertices there)

pub vertex_of-u-requires : goal.vertex_of-u-requires
vertex_of-u-requires g c =
    let given : AreGiven c.args.records.now.graph c.args.meetings.now c.args.sides.now c.args.parts.now = record { named = c.requires.named; all_on = c.requires.all_on; few = c.requires.few; parts = c.requires.parts } in
    let t : Part = get_or c.args.parts.now c.each.part-index (record { low = 0; high = 0; side = 0 }) in
    vertex_here c.args.records.now.graph c.args.meetings.now c.requires.named t.low c.index-meetings-part.result
    (low_below c.args.records.now.graph c.args.meetings.now c.args.sides.now c.args.parts.now given c.each.part-index t c.each-test.true (any_default c.args.parts.now c.each.part-index _ t c.each-test.true)) c.index-meetings-part.is

pub vertex_of-w-requires : goal.vertex_of-w-requires
vertex_of-w-requires g c =
    let given : AreGiven c.args.records.now.graph c.args.meetings.now c.args.sides.now c.args.parts.now = record { named = c.requires.named; all_on = c.requires.all_on; few = c.requires.few; parts = c.requires.parts } in
    let t : Part = get_or c.args.parts.now c.each.part-index (record { low = 0; high = 0; side = 0 }) in
    vertex_here c.args.records.now.graph c.args.meetings.now c.requires.named t.high c.index-meetings-part-in-each.result
    (high_below c.args.records.now.graph c.args.meetings.now c.args.sides.now c.args.parts.now given c.each.part-index t c.each-test.true (any_default c.args.parts.now c.each.part-index _ t c.each-test.true)) c.index-meetings-part-in-each.is

pub hold_side-requires-clause-part : goal.hold_side-requires-clause-part
hold_side-requires-clause-part g c = open_now g (goal.at.hold_side-requires-clause-part g c).After-vertex_of-w

pub hold_side-requires-clause-there : goal.hold_side-requires-clause-there
unfolding part
hold_side-requires-clause-there g c =
    let p = (goal.at.hold_side-requires-clause-there g c).After-vertex_of-w in
    along_there (map_of c.args.records.now) c.args.history.now _ c.args.curve.0 c.args.meetings.now c.args.sides.now c.args.parts.now (are_given g p) c.each.before _ (map_of c.each.records) c.each.history _ c.each.invariant.coming
    (part g p) _ (next g p) c.vertex_of-u.result c.vertex_of-w.result
    (marked c.args.records.now.graph c.args.meetings.now c.args.sides.now c.args.parts.now (are_given g p) c.each.part-index (part g p) c.index-sides-part.result c.vertex_of-u.result c.vertex_of-w.result (part_at g p))
    (sym c.is_along.ensures ∙ c.if-is_along.true)

pub hold_side-requires-clause-new : goal.hold_side-requires-clause-new
unfolding part
hold_side-requires-clause-new g c =
    let p = (goal.at.hold_side-requires-clause-new g c).After-vertex_of-w in
    subst (λ z. ¬ IsDrawnAlong c.each.records.graph (strands_on c.each.history) c.vertex_of-u.result c.vertex_of-w.result (strand c.args.curve.0 z)) (sym c.side_number-side.ensures)
    (not_held (map_of c.args.records.now) c.args.history.now _ c.args.curve.0 c.args.meetings.now c.args.sides.now c.args.parts.now (are_given g p) c.each.before _ (map_of c.each.records) c.each.history _ c.each.invariant.coming
    (part g p) _ (next g p) c.vertex_of-u.result c.vertex_of-w.result
    (marked c.args.records.now.graph c.args.meetings.now c.args.sides.now c.args.parts.now (are_given g p) c.each.part-index (part g p) c.index-sides-part.result c.vertex_of-u.result c.vertex_of-w.result (part_at g p)))

pub make_edge-requires-clause-part : goal.make_edge-requires-clause-part
make_edge-requires-clause-part g c = open_now g (goal.at.make_edge-requires-clause-part g c).After-vertex_of-w

pub make_edge-requires-clause-plane : goal.make_edge-requires-clause-plane
unfolding part
make_edge-requires-clause-plane g c =
    let p = (goal.at.make_edge-requires-clause-plane g c).After-vertex_of-w in
    edge_may (map_of c.args.records.now) c.args.history.now _ c.args.curve.0 c.args.meetings.now c.args.sides.now c.args.parts.now (are_given g p) c.each.before _ (map_of c.each.records) c.each.history _ c.each.invariant.coming
    (part g p) _ (next g p) c.vertex_of-u.result c.vertex_of-w.result
    (marked c.args.records.now.graph c.args.meetings.now c.args.sides.now c.args.parts.now (are_given g p) c.each.part-index (part g p) c.index-sides-part.result c.vertex_of-u.result c.vertex_of-w.result (part_at g p))
    (sym c.is_along.ensures ∙ c.if-is_along.false)

pub each-preserved : goal.each-preserved
unfolding part
each-preserved g c =
    let p = (goal.at.each-preserved g c).After-vertex_of-w in
    let i = c.each.invariant in
    let marks = marked c.args.records.now.graph c.args.meetings.now c.args.sides.now c.args.parts.now (are_given g p) c.each.part-index (part g p) c.index-sides-part.result c.vertex_of-u.result c.vertex_of-w.result (part_at g p) in
    elim c.if-is_along.branch [
      | then-is_along w ↦
          let e = w.hold_side.ensures in
          let held = subst (λ z. SideComesAlong c.each.records.graph c.each.history c.vertex_of-u.result c.vertex_of-w.result c.args.curve.0 z c.each.records.graph w.hold_side.new.history) c.side_number-side.ensures e.strands in
          let comes = side_comes (map_of c.args.records.now) c.args.history.now _ c.args.curve.0 c.args.meetings.now c.args.sides.now c.args.parts.now (are_given g p) c.each.before _ (map_of c.each.records) c.each.history _ i.coming (part g p) _ (next g p) c.vertex_of-u.result c.vertex_of-w.result marks (map_of c.each.records) w.hold_side.new.history held (sym c.is_along.ensures ∙ w.if-is_along.true) e.curves refl in
          let darts = ap (λ (r : RecordsView). r.spare_darts) w.records-is in
          let cycles = ap (λ (r : RecordsView). r.faces.spare_cycles) w.records-is in
          let faces = ap (λ (r : RecordsView). r.faces.spare_faces) w.records-is in
          let pairs = ap (λ (h : Past). h.spare_pairs) w.history-is in
          let d = i.darts in
          let y = i.cycles in
          let f = i.faces in
          let a = i.pairs in
          let s = e.spare_pairs in
          record {
            coming = coming_as (map_of c.args.records.now) c.args.history.now (bus_row (goal.Observer-dyn g) c.args.bus.now) c.args.curve.0 c.args.meetings.now c.args.parts.now _ _ (map_of c.each.records) w.hold_side.new.history _ (ap map_of (sym w.records-is)) (sym w.history-is) (ap (bus_row (goal.Observer-dyn g)) (sym w.bus-is)) comes;
            map = subst IsMapAtRest (sym w.records-is) i.map;
            layer = subst (SameLayer c.args.history.now) (sym w.history-is) (same_layers _ _ _ i.layer e.layer);
            named = subst (λ (h : Past). Member c.args.curve.0 h.names) (sym w.history-is) (subst (Member c.args.curve.0) (sym e.layer.names) i.named);
            darts = omega arith;
            cycles = omega arith;
            faces = omega arith;
            pairs = omega arith;
          }
      | else-is_along w ↦
          let e = w.make_edge.ensures in
          let held = subst (λ z. SideComesAlong c.each.records.graph c.each.history c.vertex_of-u.result c.vertex_of-w.result c.args.curve.0 z w.make_edge.new.records.graph w.make_edge.new.history) c.side_number-side.ensures e.strands in
          let comes = edge_comes (map_of c.args.records.now) c.args.history.now _ c.args.curve.0 c.args.meetings.now c.args.sides.now c.args.parts.now (are_given g p) c.each.before _ (map_of c.each.records) c.each.history _ i.coming (part g p) _ (next g p) c.vertex_of-u.result c.vertex_of-w.result marks (sym c.is_along.ensures ∙ w.if-is_along.false) (map_of w.make_edge.new.records) w.make_edge.new.history _ held e.told e.in_step e.vertices in
          let darts = ap (λ (r : RecordsView). r.spare_darts) w.records-is in
          let cycles = ap (λ (r : RecordsView). r.faces.spare_cycles) w.records-is in
          let faces = ap (λ (r : RecordsView). r.faces.spare_faces) w.records-is in
          let pairs = ap (λ (h : Past). h.spare_pairs) w.history-is in
          let d = i.darts in
          let y = i.cycles in
          let f = i.faces in
          let a = i.pairs in
          let sd = e.spare_darts in
          let sc = e.spare_cycles in
          let sf = e.spare_faces in
          let s = e.spare_pairs in
          record {
            coming = coming_as (map_of c.args.records.now) c.args.history.now (bus_row (goal.Observer-dyn g) c.args.bus.now) c.args.curve.0 c.args.meetings.now c.args.parts.now _ _ (map_of w.make_edge.new.records) w.make_edge.new.history _ (ap map_of (sym w.records-is)) (sym w.history-is) (ap (bus_row (goal.Observer-dyn g)) (sym w.bus-is)) comes;
            map = subst IsMapAtRest (sym w.records-is) e.map;
            layer = subst (SameLayer c.args.history.now) (sym w.history-is) (same_layers _ _ _ i.layer e.layer);
            named = subst (λ (h : Past). Member c.args.curve.0 h.names) (sym w.history-is) (subst (Member c.args.curve.0) (sym e.layer.names) i.named);
            darts = omega arith;
            cycles = omega arith;
            faces = omega arith;
            pairs = omega arith;
          }
    ]
