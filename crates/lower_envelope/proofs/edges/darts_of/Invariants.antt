use Rattle.std.proofs.Common.{◌≡◌, filter, map, take}
use Rattle.lower_envelope.specs.Edges.{is_rightward, outward_in}
use Rattle.lower_envelope.proofs.edges.darts_of.Given as goal

abbrev pub invariant-loop-name : goal.invariant-loop-name
invariant-loop-name g l = l.darts.items ≡ filter (is_rightward (g.R.Darts.graph l.records)) (take l.name-index (map (outward_in l.which (g.R.Darts.graph l.records)) l.boundary))
