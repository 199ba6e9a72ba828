use Rattle.std.proofs.Common.{sym, ◌∙◌}
use Rattle.lower_envelope.proofs.Boundaries.{face_first, none_outer, outer_if}
use Rattle.lower_envelope.proofs.boundary.outer_boundary.Goals as goal

pub boundary_of-requires-clause-face : goal.boundary_of-requires-clause-face
boundary_of-requires-clause-face g c = face_first (g.R.Faced.faces c.args.records.now) c.in-Some.outer (sym c.face_after.ensures.after ∙ c.in-Some.is)

pub returns-in-Some : goal.returns-in-Some
returns-in-Some g c =
    outer_if (g.R.Darts.graph c.args.records.now) (g.R.Faced.faces c.args.records.now) c.in-Some.outer c.boundary_of.result (λ t. t.items) (sym c.face_after.ensures.after ∙ c.in-Some.is) c.boundary_of.ensures

pub returns-in-None : goal.returns-in-None
returns-in-None g c = none_outer (g.R.Darts.graph c.args.records.now) (g.R.Faced.faces c.args.records.now) c.new.result.items c.new.ensures.items (sym c.face_after.ensures.after ∙ c.in-None.is)
