use Rattle.std.proofs.Common.{◌∙◌, sym, ap, option_map}
use Rattle.slab_laws.specs.View.{source_or}
use Rattle.mirror_observer.specs.Tables.{dart_of}
use Rattle.mirror_observer.proofs.Readers.{source_is}
use Rattle.mirror_observer.proofs.darts.source_of.Goals as goal

pub returns-in-Some : goal.returns-in-Some
returns-in-Some c = ap (λ o. source_or (option_map dart_of o)) (sym c.in-Some.is ∙ c.entry_of.ensures) ∙ sym (source_is c.args.darts.now.entries c.args.d)

pub returns-in-None : goal.returns-in-None
returns-in-None c = ap (λ o. source_or (option_map dart_of o)) (sym c.in-None.is ∙ c.entry_of.ensures) ∙ sym (source_is c.args.darts.now.entries c.args.d)
