use Rattle.std.proofs.Common.{sym, ap, subst, ◌∙◌}
use Rattle.slab_laws.specs.View.{View, Faces, HasBareFace}
use Rattle.record_tests.proofs.ListsAsked.{bare_set, bare_there}
use Rattle.record_tests.proofs.records.chains.vertex_more.Goals as goal

pub returns-clause-lone : goal.returns-clause-lone
returns-clause-lone c =
    let laws = c.face_laws.ensures in
    record {
      bare = laws.isolated;
      ascend = laws.bare_ascend;
      darts = ap (λ (w : View). w.darts) c.add_vertex-vertex.ensures.graph ∙ ap (λ (w : View). w.darts) c.reserve.ensures.graph ∙ c.requires.lone.darts;
    }

pub returns-clause-bare : goal.returns-clause-bare
returns-clause-bare c v b = bare_set c.reserve.new.self c.add_vertex-vertex.new.self c.add_vertex-vertex.result c.args.face c.add_vertex-vertex.ensures.tables v (subst (λ (f : Faces). HasBareFace f v) (sym c.reserve.ensures.tables) b)

pub returns-clause-new : goal.returns-clause-new
returns-clause-new c = bare_there c.reserve.new.self c.add_vertex-vertex.new.self c.add_vertex-vertex.result c.args.face c.add_vertex-vertex.ensures.tables
