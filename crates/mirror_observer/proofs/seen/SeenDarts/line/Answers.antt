use Rattle.std.proofs.Common.{subst}
use Rattle.arr_notes.specs.CurvedView.{IsSoundView}
use Rattle.mirror_observer.proofs.seen.SeenDarts.line.Goals as goal

pub returns-clause-twins : goal.returns-clause-twins
returns-clause-twins c = let s : IsSoundView c.args.self.now = subst (λ w. IsSoundView w) c.self.view_is c.self.invariant.0 in s.map.graph.twinned.line c.args.d c.requires
