use Rattle.std.proofs.Common.{◌∙◌, sym, ap, option_map}
use Rattle.std.specs.Option.{option_copied}
use Rattle.slab_laws.specs.View.{pin_or}
use Rattle.mirror_observer.specs.Tables.{vertex_of}
use Rattle.mirror_observer.proofs.Entries.{found, rows_row}
use Rattle.mirror_observer.proofs.tables.Tables.pinned.Goals as goal

pub returns-in-Some : goal.returns-in-Some
returns-in-Some c =
    let es = c.args.self.now.vertices.entries in
    ap (λ o. pin_or (option_map vertex_of o)) (sym (ap option_copied c.in-Some.is) ∙ c.get.ensures.value ∙ found es c.args.v.0) ∙ ap pin_or (sym (rows_row vertex_of es c.args.v.0))

pub returns-in-None : goal.returns-in-None
returns-in-None c =
    let es = c.args.self.now.vertices.entries in
    ap (λ o. pin_or (option_map vertex_of o)) (sym (ap option_copied c.in-None.is) ∙ c.get.ensures.value ∙ found es c.args.v.0) ∙ ap pin_or (sym (rows_row vertex_of es c.args.v.0))
