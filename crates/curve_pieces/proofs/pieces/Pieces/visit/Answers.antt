use Rattle.std.proofs.Common.{ap}
use Rattle.curve_pieces.specs.PieceRows.{entries_of}
use Rattle.curve_pieces.proofs.Changed.{rows_seen}
use Rattle.curve_pieces.proofs.Indexed.{known_in, rows_are, seen_in}
use Rattle.curve_pieces.proofs.pieces.Pieces.visit.Goals as goal

pub visit-requires-clause-known : goal.visit-requires-clause-known
visit-requires-clause-known g c = known_in (g.V.Visitor.knows c.args.visitor.now) c.args.area.now c.self.inside.index.boxes.entries (entries_of c.args.self.now.rows) (rows_are c.self.inside.index _ _ c.self.invariant.boxes (rows_seen c.self.inside.rows c.self.inside.ends c.self.inside.heads _ c.self.view_is c.self.invariant.sound) _ (ap (λ z. z.indexed) c.self.view_is) c.requires.indexed) c.requires.known

pub returns-clause-seen : goal.returns-clause-seen
returns-clause-seen g c = seen_in (g.V.Visitor.has_seen c.visit.new.visitor) c.args.area.now (g.V.Visitor.floor_of c.visit.new.visitor) c.self.inside.index.boxes.entries (entries_of c.args.self.now.rows) (rows_are c.self.inside.index _ _ c.self.invariant.boxes (rows_seen c.self.inside.rows c.self.inside.ends c.self.inside.heads _ c.self.view_is c.self.invariant.sound) _ (ap (λ z. z.indexed) c.self.view_is) c.requires.indexed) c.visit.ensures.seen
