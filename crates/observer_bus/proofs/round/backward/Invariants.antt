use Rattle.std.proofs.Common.{◌≤◌, ◌≡◌, length, vec_capacity}
use Rattle.arr_notes.specs.CurvedView.{view_by}
use Rattle.observer_bus.proofs.Turns.{GoingBack}
use Rattle.observer_bus.specs.Rows.{rows}
use Rattle.observer_bus.proofs.round.backward.Given as goal

abbrev pub invariant-turns : goal.invariant-turns
invariant-turns g l = record {
  capacity : vec_capacity l.seats ≡ vec_capacity l.initial.seats;
  within : l.i ≤ length l.seats.items;
  going : GoingBack l.note (view_by (g.R.Darts.graph l.records) (g.R.Faced.faces l.records) (g.R.Curved.curve_list l.records))
      (rows (goal.Observer-dyn g) l.initial.seats.items) l.initial.went
      (rows (goal.Observer-dyn g) l.seats.items) l.went l.i;
}
