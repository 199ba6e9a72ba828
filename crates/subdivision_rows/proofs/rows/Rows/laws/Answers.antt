use Rattle.subdivision_rows.proofs.DartLists.{stands}
use Rattle.subdivision_rows.proofs.rows.Rows.laws.Goals as goal

pub returns-clause-stands : goal.returns-clause-stands
returns-clause-stands c = stands c.self.inside.lists c.args.self.now c.self.invariant c.self.view_is
