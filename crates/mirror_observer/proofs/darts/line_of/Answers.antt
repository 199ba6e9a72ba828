use Rattle.std.proofs.Common.{◌∙◌, sym, ap, is_some, option_map}
use Rattle.slab_laws.specs.View.{line_or}
use Rattle.mirror_observer.specs.Tables.{dart_of}
use Rattle.mirror_observer.proofs.Entries.{found}
use Rattle.mirror_observer.proofs.Readers.{line_is, is_has}
use Rattle.mirror_observer.proofs.darts.line_of.Goals as goal

pub index-requires : goal.index-requires
index-requires c = ap is_some (found c.args.darts.now.entries c.args.d.0) ∙ is_has c.args.darts.now.entries c.args.d c.requires

pub returns : goal.returns
returns c = ap (λ o. line_or (option_map dart_of o)) (sym c.index.ensures ∙ found c.args.darts.now.entries c.args.d.0) ∙ sym (line_is c.args.darts.now.entries c.args.d)
