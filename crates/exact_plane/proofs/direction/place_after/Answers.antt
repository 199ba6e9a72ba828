use Rattle.std.proofs.Common.{rules}
use Rattle.exact_plane.proofs.direction.place_after.Goals as goal

pub returns-in-Less : goal.returns-in-Less
returns-in-Less c = search rules

pub returns-in-Greater : goal.returns-in-Greater
returns-in-Greater c = search rules

pub returns-in-Greater-cmp : goal.returns-in-Greater-cmp
returns-in-Greater-cmp c = search rules

pub returns-in-Less-cmp : goal.returns-in-Less-cmp
returns-in-Less-cmp c = search rules

pub returns-in-Equal-cmp : goal.returns-in-Equal-cmp
returns-in-Equal-cmp c = search rules

pub turn-turn-requires : goal.turn-turn-requires
turn-turn-requires c = search rules

pub alignment-along-requires : goal.alignment-along-requires
alignment-along-requires c = search rules
