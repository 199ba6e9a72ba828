use Rattle.std.proofs.Common.{◌∙◌, ap}
use Rattle.arr_notes.specs.FaceSteps.{step_faces, in_one}
use Rattle.arr_notes.specs.ViewChanges.{no_rows}
use Rattle.mirror_observer.specs.FaceTables.{faces_in}
use Rattle.mirror_observer.proofs.Changed.{edges_merged, tables_named}
use Rattle.mirror_observer.proofs.Entries.{removed}
use Rattle.mirror_observer.proofs.tables.Tables.merge_edge.Goals as goal

pub returns : goal.returns
returns c =
    let t = c.args.self.now in
    edges_merged t _ c.args.v c.args.d c.args.n c.requires (c.remove-entry.ensures.entries ∙ removed c.args.v.0 t.vertices.entries) c.merge-2.ensures c.lift.ensures
    (c.merge.ensures ∙ ap (λ m. step_faces no_rows (faces_in t.faces) (in_one c.args.n m)) c.twin_of-gone.ensures)

pub merge-requires-2-clause-named : goal.merge-requires-2-clause-named
merge-requires-2-clause-named c = tables_named c.args.self.now c.requires.standing
