use Rattle.std.proofs.Common.{◌∙◌, sym, ap, option_map}
use Rattle.std.specs.Option.{option_copied_mut}
use Rattle.mirror_observer.specs.Lists.{left_from}
use Rattle.mirror_observer.specs.Tables.{rows, numbers_in}
use Rattle.mirror_observer.proofs.Entries.{found, ordered, written_row, untouched, rows_row}
use Rattle.mirror_observer.proofs.curves.remove_curve.Goals as goal

pub returns-in_ok-left-in-Some : goal.returns-in_ok-left-in-Some
returns-in_ok-left-in-Some c =
    let es = c.args.curves.now.entries in
    ap (rows numbers_in) (c.get_mut.follows.holds c.in_ok-left-in-Some.left).0
    ∙ written_row numbers_in c.args.d.0 (left_from c.args.curve.0) c.in-Some.list.now c.in_ok-left-in-Some.left es (ordered es c.get_mut.ensures.ordered)
    (sym (found es c.args.d.0) ∙ sym c.get_mut.ensures.value ∙ ap option_copied_mut c.in-Some.is)
    (c.in_ok-left-in-Some.ensures ∙ ap (λ ks. (left_from c.args.curve.0) (numbers_in ks)) c.as_slice.ensures)

pub returns-in-None : goal.returns-in-None
returns-in-None c =
    let es = c.args.curves.now.entries in
    ap (λ m. rows numbers_in m.entries) c.get_mut.follows.holds-at-none
    ∙ sym (untouched c.args.d.0 (left_from c.args.curve.0) (rows numbers_in es) (rows_row numbers_in es c.args.d.0 ∙ ap (option_map numbers_in) (sym (found es c.args.d.0) ∙ sym c.get_mut.ensures.value ∙ ap option_copied_mut c.in-None.is)))
