use Rattle.std.proofs.Common.{◌∙◌, sym, ap, option_map}
use Rattle.std.specs.Option.{option_copied}
use Rattle.arr_notes.specs.CurvedView.{curves_or}
use Rattle.mirror_observer.specs.Tables.{numbers_in}
use Rattle.mirror_observer.proofs.Entries.{found, rows_row}
use Rattle.mirror_observer.proofs.curves.along.Goals as goal

pub returns-in_ok-copy-in-Some : goal.returns-in_ok-copy-in-Some
returns-in_ok-copy-in-Some c =
    let es = c.args.curves.now.entries in
    ap numbers_in (c.in_ok-copy-in-Some.ensures ∙ c.as_slice.ensures)
    ∙ ap (λ o. curves_or (option_map numbers_in o)) (sym (ap option_copied c.in-Some.is) ∙ c.get.ensures.value ∙ found es c.args.d.0) ∙ ap curves_or (sym (rows_row numbers_in es c.args.d.0))

pub returns-in-None : goal.returns-in-None
returns-in-None c =
    let es = c.args.curves.now.entries in
    ap numbers_in c.new.ensures
    ∙ ap (λ o. curves_or (option_map numbers_in o)) (sym (ap option_copied c.in-None.is) ∙ c.get.ensures.value ∙ found es c.args.d.0) ∙ ap curves_or (sym (rows_row numbers_in es c.args.d.0))
