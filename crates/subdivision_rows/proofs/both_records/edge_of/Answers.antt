use Rattle.std.proofs.Common.{sym, ap, ◌∙◌}
use Rattle.plane_graphs.specs.Graph.{Edge}
use Rattle.slab_laws.specs.Rows.{edge_place}
use Rattle.subdivision_rows.specs.Listed.{skeleton_in}
use Rattle.subdivision_rows.proofs.Items.{place}
use Rattle.subdivision_rows.proofs.DartLists.{dart_within, place_reads, place_within}
use Rattle.subdivision_rows.proofs.CurveLists.{edge_is, edge_turned}
use Rattle.subdivision_rows.proofs.both_records.edge_of.Goals as goal

pub index-requires : goal.index-requires
index-requires c = place c.rows.inside.lists.darts c.args.d.0 (dart_within c.rows.inside.lists c.args.rows.now c.rows.invariant c.rows.view_is c.args.d c.requires)

pub returns-clause-place : goal.returns-clause-place
returns-clause-place c =
    let x = place_reads c.rows.inside.lists c.args.rows.now c.rows.invariant c.rows.view_is c.args.d c.index.result.now c.requires c.index.ensures in
    x.2 ∙ ap (λ (e : Edge). edge_place (skeleton_in c.args.rows.now) e) (sym (edge_is c.rows.inside.lists c.args.rows.now c.rows.invariant c.rows.view_is c.args.d x.0 x.1))

pub returns-clause-below : goal.returns-clause-below
returns-clause-below c = place_within c.rows.inside.lists c.args.rows.now c.rows.invariant c.rows.view_is c.args.d c.index.result.now c.requires c.index.ensures

pub returns-clause-twin : goal.returns-clause-twin
returns-clause-twin c = ap (λ (e : Edge). edge_place (skeleton_in c.args.rows.now) e) (edge_turned c.rows.inside.lists c.args.rows.now c.rows.invariant c.rows.view_is c.args.d c.requires)
