use Rattle.counted_looks.specs.declared.boundary_part.BoundaryPart.{BoundaryPart}
use Rattle.counted_looks.proofs.PartsSeen.{AreCyclesRead, cycles_left}
use Rattle.counted_looks.proofs.boundary.look_at_cycles.Given as goal

-- the cycles that were read were looked at
abbrev pub invariant-cycles : goal.invariant-cycles
invariant-cycles g l =
    let v = g.S.NameCalls.graph l.sight in
    record {
      kept : (k : _) → g.K.Looker.may_look v k l.fn.looker → g.K.Looker.may_look v k l.looker;
      still : (t : BoundaryPart) → g.K.Looker.has_seen v l.fn.looker t → g.K.Looker.has_seen v l.looker t;
      read : AreCyclesRead v (g.S.NameCalls.faces l.sight) (g.S.NameCalls.lists l.sight) l.fn.face (g.K.Looker.has_seen v l.looker) l.fn.steps l.steps l.at;
    }

abbrev pub decreases-cycles : goal.decreases-cycles
decreases-cycles g l = cycles_left (g.S.NameCalls.lists l.sight) l.fn.face l.at
