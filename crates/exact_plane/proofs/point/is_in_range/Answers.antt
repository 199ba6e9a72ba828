use Rattle.std.proofs.Common.{rules}
use Rattle.exact_plane.proofs.point.is_in_range.Goals as goal

pub overflow_mul-unsigned_abs : goal.overflow_mul-unsigned_abs
overflow_mul-unsigned_abs c = search rules

pub overflow_mul-result : goal.overflow_mul-result
overflow_mul-result c = search rules

pub returns-then-unsigned_abs : goal.returns-then-unsigned_abs
returns-then-unsigned_abs c = search rules

pub returns-else-unsigned_abs : goal.returns-else-unsigned_abs
returns-else-unsigned_abs c = search rules
