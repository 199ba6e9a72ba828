use Rattle.std.proofs.Common.{◌∙◌, sym, ap, option_map}
use Rattle.std.specs.Option.{option_copied}
use Rattle.slab_laws.specs.Tables.{row_at}
use Rattle.slab_laws.specs.View.{twin_in}
use Rattle.arr_notes.specs.CurvedView.{curves_or}
use Rattle.mirror_observer.specs.Tables.{rows, numbers_in, darts_of}
use Rattle.mirror_observer.specs.Reading.{curves_found}
use Rattle.mirror_observer.proofs.Entries.{found, rows_row}
use Rattle.mirror_observer.proofs.tables.Tables.curves.Goals as goal

pub returns-in_ok-copy-in-Some : goal.returns-in_ok-copy-in-Some
returns-in_ok-copy-in-Some c =
    let es = c.args.self.now.curves.entries in
    let other = row_at (rows numbers_in es) (twin_in (darts_of c.args.self.now.darts.entries) c.args.d).0 in
    ap numbers_in (c.in_ok-copy-in-Some.ensures ∙ c.as_slice.ensures)
    ∙ ap (λ o. curves_found (option_map numbers_in o) other) (sym (ap option_copied c.in-Some.is) ∙ c.get.ensures.value ∙ found es c.args.d.0)
    ∙ ap (λ o. curves_found o other) (sym (rows_row numbers_in es c.args.d.0))

pub returns-in_ok-other-in-None : goal.returns-in_ok-other-in-None
returns-in_ok-other-in-None c =
    let es = c.args.self.now.curves.entries in
    let t = twin_in (darts_of c.args.self.now.darts.entries) c.args.d in
    c.in_ok-other-in-None.ensures ∙ ap (λ z. curves_or (row_at (rows numbers_in es) z.0)) c.twin_of-twin.ensures
    ∙ ap (λ o. curves_found (option_map numbers_in o) (row_at (rows numbers_in es) t.0)) (sym (ap option_copied c.in-None.is) ∙ c.get.ensures.value ∙ found es c.args.d.0)
    ∙ ap (λ o. curves_found o (row_at (rows numbers_in es) t.0)) (sym (rows_row numbers_in es c.args.d.0))
