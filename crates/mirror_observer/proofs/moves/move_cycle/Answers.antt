use Rattle.std.proofs.Common.{◌∙◌, sym, ap}
use Rattle.std.specs.Option.{option_copied_mut}
use Rattle.mirror_observer.specs.FaceTables.{in_face}
use Rattle.mirror_observer.proofs.Entries.{found, ordered, written, untouched}
use Rattle.mirror_observer.proofs.moves.move_cycle.Goals as goal

pub returns-in-Some : goal.returns-in-Some
returns-in-Some c =
    let es = c.args.cycles.now.entries in
    (c.get_mut.follows.holds (in_face c.args.face c.in-Some.entry.now)).0
    ∙ written c.args.cycle.0 (in_face c.args.face) c.in-Some.entry.now es (ordered es c.get_mut.ensures.ordered) (sym (found es c.args.cycle.0) ∙ sym c.get_mut.ensures.value ∙ ap option_copied_mut c.in-Some.is)

pub returns-in_default : goal.returns-in_default
returns-in_default c =
    let es = c.args.cycles.now.entries in
    ap (λ m. m.entries) c.get_mut.follows.holds-at-none
    ∙ sym (untouched c.args.cycle.0 (in_face c.args.face) es (sym (found es c.args.cycle.0) ∙ sym c.get_mut.ensures.value ∙ ap option_copied_mut c.in_default.is))
