use Rattle.std.proofs.Common.{◌∙◌, sym, ap, option_map}
use Rattle.slab_laws.specs.Tables.{name_after}
use Rattle.slab_laws.specs.View.{dart_id}
use Rattle.mirror_observer.specs.Tables.{dart_of}
use Rattle.mirror_observer.proofs.Entries.{names_rows}
use Rattle.mirror_observer.proofs.tables.Tables.dart_after.Goals as goal

pub returns : goal.returns
returns c = c.dart_beyond.ensures ∙ ap (λ ns. option_map dart_id (name_after ns (option_map (λ x. x.0) c.args.d))) (sym (names_rows dart_of c.args.self.now.darts.entries))
