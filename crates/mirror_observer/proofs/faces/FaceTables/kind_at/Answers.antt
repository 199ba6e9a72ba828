use Rattle.std.proofs.Common.{◌∙◌, ap, sym, option_map}
use Rattle.slab_laws.specs.View.{kind_or}
use Rattle.mirror_observer.specs.FaceTables.{cycle_record}
use Rattle.mirror_observer.proofs.Entries.{found, rows_row}
use Rattle.mirror_observer.proofs.faces.FaceTables.kind_at.Goals as goal

pub returns-in-Some : goal.returns-in-Some
returns-in-Some c =
    let es = c.args.self.now.cycles.entries in
    ap (λ o. kind_or (option_map cycle_record o)) (sym c.in-Some.is ∙ c.copied.ensures ∙ c.get.ensures.value ∙ found es c.args.cycle.0) ∙ sym (ap kind_or (rows_row cycle_record es c.args.cycle.0))

pub returns-in-None : goal.returns-in-None
returns-in-None c =
    let es = c.args.self.now.cycles.entries in
    ap (λ o. kind_or (option_map cycle_record o)) (sym c.in-None.is ∙ c.copied.ensures ∙ c.get.ensures.value ∙ found es c.args.cycle.0) ∙ sym (ap kind_or (rows_row cycle_record es c.args.cycle.0))
