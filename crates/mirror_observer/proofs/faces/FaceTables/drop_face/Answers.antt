use Rattle.std.proofs.Common.{◌∙◌, ap}
use Rattle.mirror_observer.specs.FaceTables.{faces_of}
use Rattle.mirror_observer.proofs.NameKeys.{name_removed}
use Rattle.mirror_observer.proofs.faces.FaceTables.drop_face.Goals as goal

pub returns : goal.returns
returns c =
    let t = c.args.self.now in
    ap (faces_of t.cycle_of.entries t.bare.entries t.cycles.entries) (c.remove-was_there.ensures.keys ∙ name_removed c.args.face.0 t.faces.keys)
