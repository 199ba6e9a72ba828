use Rattle.std.proofs.Common.{sym, subst}
use Rattle.plane_graphs.specs.Ascending.{Member}
use Rattle.curve_history.specs.Past.{Past}
use Rattle.curve_pieces.specs.PieceRows.{entries_of}
use Rattle.piece_location.proofs.Looking.{looked_may, looked_seen, looked_still, ready}
use Rattle.piece_location.proofs.highest.HighestVisitor.visit.Goals as goal

pub look_at-requires-clause-ready : goal.look_at-requires-clause-ready
look_at-requires-clause-ready c = ready c.requires.ready.0 c.args.self.now c.requires.ready.1

pub look_at-requires-clause-entry : goal.look_at-requires-clause-entry
look_at-requires-clause-entry c = subst (λ (z : Past). Member c.args.entry.now (entries_of z.rows)) (sym c.requires.ready.1.history) c.requires.ready.2

pub returns-clause-ready : goal.returns-clause-ready
returns-clause-ready c = λ k m. looked_may c.args.self.now c.look_at.new.self c.args.entry.now c.look_at.ensures k m

pub returns-clause-seen : goal.returns-clause-seen
returns-clause-seen c = looked_seen c.args.self.now c.look_at.new.self c.args.entry.now c.look_at.ensures

pub returns-clause-still : goal.returns-clause-still
returns-clause-still c = λ e s. looked_still c.args.self.now c.look_at.new.self c.args.entry.now c.look_at.ensures e s

pub returns-clause-rises : goal.returns-clause-rises
returns-clause-rises c = c.look_at.ensures.rises
