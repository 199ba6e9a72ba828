use Rattle.std.proofs.Common.{◌∙◌, sym, ap, option_map}
use Rattle.slab_laws.specs.Tables.{name_after}
use Rattle.slab_laws.specs.View.{vertex_id}
use Rattle.mirror_observer.specs.Tables.{vertex_of}
use Rattle.mirror_observer.proofs.Entries.{names_rows}
use Rattle.mirror_observer.proofs.tables.Tables.vertex_after.Goals as goal

pub returns : goal.returns
returns c = c.vertex_beyond.ensures ∙ ap (λ ns. option_map vertex_id (name_after ns (option_map (λ x. x.0) c.args.v))) (sym (names_rows vertex_of c.args.self.now.vertices.entries))
