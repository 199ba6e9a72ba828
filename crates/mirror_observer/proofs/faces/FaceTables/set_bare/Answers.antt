use Rattle.std.proofs.Common.{◌∙◌, ap}
use Rattle.mirror_observer.specs.FaceTables.{faces_of}
use Rattle.mirror_observer.proofs.Entries.{inserted}
use Rattle.mirror_observer.proofs.faces.FaceTables.set_bare.Goals as goal

pub returns : goal.returns
returns c =
    let t = c.args.self.now in
    ap (λ vs. faces_of t.cycle_of.entries vs t.cycles.entries t.faces.keys) (c.in_ok-insert.ensures.entries ∙ inserted c.args.v.0 c.args.face t.bare.entries)
