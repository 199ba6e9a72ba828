use Rattle.std.proofs.Common.{◌∙◌, [], ap, ap₂}
use Rattle.arr_notes.specs.FaceWriters.{moved_to}
use Rattle.mirror_observer.specs.FaceTables.{faces_in}
use Rattle.mirror_observer.proofs.MovedRows.{both_move}
use Rattle.mirror_observer.proofs.faces.FaceTables.move_all.Goals as goal

pub returns : goal.returns
returns c =
    let f = faces_in c.args.self.now in
    c.move_vertices.ensures
    ∙ ap₂ (λ vs s. moved_to [] vs c.args.face s) c.vertices.ensures (c.move_cycles.ensures ∙ ap (λ cs. moved_to cs [] c.args.face f) c.cycles.ensures)
    ∙ both_move c.args.face f c.args.moved.now.cycles c.args.moved.now.vertices
