use Rattle.std.proofs.Common.{◌≡◌, ◌++◌, map, take}
use Rattle.std.specs.List.{flat_map}
use Rattle.slab_laws.specs.Subdivision.{holds}
use Rattle.planar_run.specs.Answer.{subdivision_of}
use Rattle.planar_run.specs.Rows.{world_row}
use Rattle.planar_run.specs.Text.{line_of, cell_text}
use Rattle.planar_run.proofs.questions.put_cells.Given as goal

abbrev pub invariant-loop-point : goal.invariant-loop-point
invariant-loop-point g l = record {
  cells : l.reply ≡ l.fn.reply ++ flat_map (λ c. line_of (cell_text c)) (map (holds (subdivision_of (world_row (goal.Observer-dyn g) l.fn.world))) (take l.point-index l.points));
  same : l.world ≡ l.fn.world;
}
