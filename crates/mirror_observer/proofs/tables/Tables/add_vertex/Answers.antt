use Rattle.std.proofs.Common.{◌∙◌, refl}
use Rattle.mirror_observer.proofs.Changed.{vertex_added}
use Rattle.mirror_observer.proofs.Entries.{inserted}
use Rattle.mirror_observer.proofs.tables.Tables.add_vertex.Goals as goal

pub returns : goal.returns
returns c = vertex_added c.args.self.now _ refl c.args.v c.args.p c.args.face c.requires (c.in_ok-insert.ensures.entries ∙ inserted c.args.v.0 _ c.args.self.now.vertices.entries) refl c.in_ok-set_bare.ensures
