use Rattle.std.proofs.Common.{ℕ, List, [], length}
use Rattle.planar_run.specs.Made.{EndWith, RunOutOfMemory}
use Rattle.planar_run.specs.Rows.{world_row, IsKeptWorld}
use Rattle.planar_run.proofs.engine.Engine.answer_made.Given as goal

-- what ends the lines that are left ends them all
abbrev pub invariant-lines : goal.invariant-lines
invariant-lines g l = record {
  ends : (out : List ℕ) → EndWith (world_row (goal.Observer-dyn g) l.self.world) l.self.reply l.maker out
      → EndWith (world_row (goal.Observer-dyn g) l.fn.self.world) [] l.fn.maker out;
  finds : RunOutOfMemory (world_row (goal.Observer-dyn g) l.self.world) l.maker
      → RunOutOfMemory (world_row (goal.Observer-dyn g) l.fn.self.world) l.fn.maker;
  kept : IsKeptWorld (goal.Observer-dyn g) l.self.world;
}

abbrev pub decreases-lines : goal.decreases-lines
decreases-lines g l = length l.maker
