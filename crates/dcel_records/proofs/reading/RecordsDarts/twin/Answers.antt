use Rattle.dcel_records.proofs.Holding.{graph_seen}
use Rattle.std.proofs.Common.{sym, ap, subst, ◌∙◌}
use Rattle.slab_laws.specs.declared.names.DartId.{DartId}
use Rattle.slab_laws.specs.View.{HasDart, twin_in}
use Rattle.dcel_records.proofs.Holding.{dart_key, twin_is, twinned}
use Rattle.dcel_records.proofs.reading.RecordsDarts.twin.Goals as goal

pub index-requires : goal.index-requires
index-requires c = dart_key c.self.inside.vertices c.self.inside.darts _ (graph_seen c.self.inside _ c.self.view_is) c.args.d c.requires

pub returns-clause-twin : goal.returns-clause-twin
returns-clause-twin c = twin_is c.self.inside.vertices c.self.inside.darts _ (graph_seen c.self.inside _ c.self.view_is) c.args.d _ c.index.ensures

pub returns-clause-has : goal.returns-clause-has
returns-clause-has c =
    subst (λ (x : DartId). HasDart c.args.self.now.graph x)
    (sym (twin_is c.self.inside.vertices c.self.inside.darts _ (graph_seen c.self.inside _ c.self.view_is) c.args.d _ c.index.ensures))
    ((twinned c.self.inside.vertices c.self.inside.darts _ (graph_seen c.self.inside _ c.self.view_is) c.self.invariant.graph.rows).has c.args.d c.requires)

pub returns-clause-back : goal.returns-clause-back
returns-clause-back c =
    ap (twin_in c.args.self.now.graph) (twin_is c.self.inside.vertices c.self.inside.darts _ (graph_seen c.self.inside _ c.self.view_is) c.args.d _ c.index.ensures)
    ∙ (twinned c.self.inside.vertices c.self.inside.darts _ (graph_seen c.self.inside _ c.self.view_is) c.self.invariant.graph.rows).back c.args.d c.requires

pub returns-clause-other : goal.returns-clause-other
returns-clause-other c e =
    (twinned c.self.inside.vertices c.self.inside.darts _ (graph_seen c.self.inside _ c.self.view_is) c.self.invariant.graph.rows).other c.args.d c.requires
    (sym (twin_is c.self.inside.vertices c.self.inside.darts _ (graph_seen c.self.inside _ c.self.view_is) c.args.d _ c.index.ensures) ∙ e)
