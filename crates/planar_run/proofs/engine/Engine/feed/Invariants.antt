use Rattle.std.proofs.Common.{◌≡◌, take}
use Rattle.planar_run.specs.Gathered.{with_gathered, Grows}
use Rattle.planar_run.specs.Engine.{Feeds}
use Rattle.planar_run.specs.Rows.{world_row, IsKeptWorld}
use Rattle.planar_run.proofs.engine.Engine.feed.Given as goal

abbrev pub invariant-loop-byte : goal.invariant-loop-byte
invariant-loop-byte g l = record {
  fed : Feeds (take l.byte-index l.bytes) (g.K.Sink.taken l.fn.sink) (with_gathered (g.K.Sink.taken l.sink) l.replies)
      (world_row (goal.Observer-dyn g) l.fn.self.world) l.fn.self.line
      (world_row (goal.Observer-dyn g) l.self.world) l.self.line;
  grows : Grows (g.K.Sink.taken l.fn.sink) (g.K.Sink.taken l.sink);
  kept : IsKeptWorld (goal.Observer-dyn g) l.self.world;
  faults : g.K.Sink.faults l.sink ≡ g.K.Sink.faults l.fn.sink;
}
