use Rattle.std.proofs.Common.{Some, None, sym}
use Rattle.std.proofs.lemmas.List.{append-nil}
use Rattle.path_zone.proofs.zoned.add_point.Goals as goal

pub returns-in_ok-push : goal.returns-in_ok-push
returns-in_ok-push c v f s h = record { spot = Some c.in-Some.spot; within = c.in-Some.ensures v f s h; items = c.in_ok-push.ensures.items }

pub returns-in_default : goal.returns-in_default
returns-in_default c v f s h = record { spot = None; within = c.in_default.ensures v f s h; items = sym (append-nil _) }
