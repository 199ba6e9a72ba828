use Rattle.std.proofs.Common.{◌∙◌, sym, ap}
use Rattle.arr_notes.specs.ViewRows.{bare_row}
use Rattle.mirror_observer.specs.FaceTables.{put_row}
use Rattle.mirror_observer.proofs.Entries.{inserted}
use Rattle.mirror_observer.proofs.fill_faces.keep_bare.Goals as goal

pub returns-in_ok-insert : goal.returns-in_ok-insert
returns-in_ok-insert c =
    let es = c.args.bare.now.entries in
    c.in_ok-insert.ensures.entries ∙ inserted c.args.row.now.name.0 c.in-Some.face es ∙ ap (λ o. put_row (bare_row c.args.row.now.name o) es) (sym c.in-Some.is)
