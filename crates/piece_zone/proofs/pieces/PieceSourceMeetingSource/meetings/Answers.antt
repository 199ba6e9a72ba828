use Rattle.std.proofs.Common.{sym, subst}
use Rattle.slab_laws.specs.View.{View}
use Rattle.piece_location.specs.Layers.{IsPastOf}
use Rattle.zone_walk.specs.Sources.{AreAllOnEdges}
use Rattle.piece_zone.proofs.pieces.PieceSourceMeetingSource.meetings.Goals as goal

pub meetings_by_index-requires-clause-past : goal.meetings_by_index-requires-clause-past
meetings_by_index-requires-clause-past c = let (v, w) = c.requires in subst (λ (z : View). IsPastOf z c.args.self.now.history.now) w.0 w.1

pub returns : goal.returns
returns c = λ v w. subst (λ (z : View). AreAllOnEdges z c.args.segment.now c.in_ok-meetings.meetings.items) (sym w.0) c.in_ok-meetings.ensures
