use Rattle.std.proofs.Common.{subst}
use Rattle.arr_notes.specs.CurvedView.{IsSoundView}
use Rattle.mirror_observer.proofs.seen.SeenFaced.face_after.Goals as goal

pub returns-clause-ascend : goal.returns-clause-ascend
returns-clause-ascend c =
    let s : IsSoundView c.args.self.now = subst (λ w. IsSoundView w) c.self.view_is c.self.invariant.0 in
    s.map.complete.faces_ascend
