use Rattle.std.proofs.Common.{◌∙◌, refl}
use Rattle.mirror_observer.proofs.Changed.{vertex_removed}
use Rattle.mirror_observer.proofs.Entries.{removed}
use Rattle.mirror_observer.proofs.tables.Tables.remove_vertex.Goals as goal

pub returns : goal.returns
returns c = vertex_removed c.args.self.now _ refl c.args.v c.requires (c.remove-entry.ensures.entries ∙ removed c.args.v.0 c.args.self.now.vertices.entries) refl c.drop_bare.ensures
