use Rattle.std.proofs.Common.{◌≡◌, ◌+◌, ◌-◌, ◌≤◌, length}
use Rattle.planar_run.specs.declared.run.TheConstants.{SCRIPT_LIMIT, BUFFER}
use Rattle.planar_run.specs.Rows.{world_row, IsKeptWorld}
use Rattle.planar_run.specs.Clauses.{Used}
use Rattle.planar_run.proofs.Loop.{HasSaid}
use Rattle.planar_run.proofs.run.answer_script.Given as goal

abbrev pub invariant-reads : goal.invariant-reads
invariant-reads g l = record {
  used : Used (g.S.Source.left l.fn.source) (g.S.Source.left l.source) (λ used. length used ≡ SCRIPT_LIMIT - l.room);
  said : HasSaid (world_row (goal.Observer-dyn g) l.fn.engine.world) (g.S.Source.left l.fn.source) (g.S.Source.left l.source) (g.K.Sink.taken l.fn.sink) (g.K.Sink.taken l.sink) (SCRIPT_LIMIT - l.room)
      (world_row (goal.Observer-dyn g) l.engine.world) l.engine.line;
  kept : IsKeptWorld (goal.Observer-dyn g) l.engine.world;
  within : l.room ≤ SCRIPT_LIMIT;
  size : length l.buffer ≡ BUFFER;
  read_faults : g.S.Source.faults l.source ≡ g.S.Source.faults l.fn.source;
  calls : g.S.Source.calls l.source ≤ g.S.Source.calls l.fn.source + (SCRIPT_LIMIT - l.room);
  write_faults : g.K.Sink.faults l.sink ≡ g.K.Sink.faults l.fn.sink;
}

abbrev pub decreases-reads : goal.decreases-reads
decreases-reads g l = l.room
