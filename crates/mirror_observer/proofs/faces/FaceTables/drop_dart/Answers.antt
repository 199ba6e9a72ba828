use Rattle.std.proofs.Common.{◌∙◌, ap}
use Rattle.mirror_observer.specs.FaceTables.{faces_of}
use Rattle.mirror_observer.proofs.Entries.{removed}
use Rattle.mirror_observer.proofs.faces.FaceTables.drop_dart.Goals as goal

pub returns : goal.returns
returns c =
    let t = c.args.self.now in
    ap (λ ds. faces_of ds t.bare.entries t.cycles.entries t.faces.keys) (c.remove-cycle.ensures.entries ∙ removed c.args.d.0 t.cycle_of.entries)
