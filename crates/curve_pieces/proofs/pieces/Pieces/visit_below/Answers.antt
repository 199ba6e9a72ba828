use Rattle.std.proofs.Common.{ap}
use Rattle.exact_plane.specs.Boxes.{ray_below}
use Rattle.curve_pieces.specs.PieceRows.{entries_of}
use Rattle.curve_pieces.proofs.Changed.{rows_seen}
use Rattle.curve_pieces.proofs.Indexed.{known_in, rows_are, seen_in}
use Rattle.curve_pieces.proofs.pieces.Pieces.visit_below.Goals as goal

pub visit_below-requires-clause-known : goal.visit_below-requires-clause-known
visit_below-requires-clause-known g c = known_in (g.V.Visitor.knows c.args.visitor.now) (ray_below c.args.place) c.self.inside.index.boxes.entries (entries_of c.args.self.now.rows) (rows_are c.self.inside.index _ _ c.self.invariant.boxes (rows_seen c.self.inside.rows c.self.inside.ends c.self.inside.heads _ c.self.view_is c.self.invariant.sound) _ (ap (λ z. z.indexed) c.self.view_is) c.requires.indexed) c.requires.known

pub returns-clause-seen : goal.returns-clause-seen
returns-clause-seen g c = seen_in (g.V.Visitor.has_seen c.visit_below.new.visitor) (ray_below c.args.place) (g.V.Visitor.floor_of c.visit_below.new.visitor) c.self.inside.index.boxes.entries (entries_of c.args.self.now.rows) (rows_are c.self.inside.index _ _ c.self.invariant.boxes (rows_seen c.self.inside.rows c.self.inside.ends c.self.inside.heads _ c.self.view_is c.self.invariant.sound) _ (ap (λ z. z.indexed) c.self.view_is) c.requires.indexed) c.visit_below.ensures.seen
