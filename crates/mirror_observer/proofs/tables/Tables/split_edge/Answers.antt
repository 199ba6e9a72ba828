use Rattle.std.proofs.Common.{◌∙◌, ap}
use Rattle.arr_notes.specs.FaceSteps.{step_faces, in_two}
use Rattle.arr_notes.specs.NamedRows.{put}
use Rattle.arr_notes.specs.ViewChanges.{no_rows}
use Rattle.mirror_observer.specs.FaceTables.{faces_in}
use Rattle.mirror_observer.specs.Tables.{rows, numbers_in}
use Rattle.mirror_observer.proofs.Changed.{edge_split, tables_named}
use Rattle.mirror_observer.proofs.Entries.{inserted}
use Rattle.mirror_observer.proofs.tables.Tables.split_edge.Goals as goal

pub returns : goal.returns
returns c =
    let t = c.args.self.now in
    edge_split t _ c.args.d c.args.v c.args.p c.args.n c.args.m c.requires (c.in_ok-insert.ensures.entries ∙ inserted c.args.v.0 _ t.vertices.entries) c.in_ok-part.ensures
    (c.in_ok-lay.ensures ∙ ap (λ ks. put c.args.n.0 ks (rows numbers_in t.curves.entries)) c.in_ok-curves.ensures)
    (c.in_ok-part-2.ensures ∙ ap (λ x. step_faces no_rows (faces_in t.faces) (in_two c.args.d x c.args.n c.args.m)) c.twin_of-twin.ensures)

pub part-requires : goal.part-requires
part-requires c = record { named = tables_named c.args.self.now c.requires.standing; back = c.requires.standing.back; has = c.requires.fits.dart }
