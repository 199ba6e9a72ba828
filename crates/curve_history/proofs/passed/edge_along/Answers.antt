use Rattle.std.proofs.Common.{◌≡◌, true, sym, ◌∙◌}
use Rattle.std.proofs.lemmas.Bool.{false≢true}
use Rattle.slab_laws.specs.View.{dart_id}
use Rattle.curve_history.specs.DrawnRecords.{passes}
use Rattle.curve_history.specs.HistoryInMemory.{Says}
use Rattle.integers.proofs.Tests.{not_true}
use Rattle.curve_history.proofs.Walking.{seek, seek_on, says_here, not_found, less_on, at_node_on}
use Rattle.curve_history.proofs.passed.edge_along.Goals as goal

pub walk-init : goal.walk-init
walk-init g c = seek _ _ (λ i. Says c.args.edges.now i c.args.strand × (passes (g.R.Darts.graph c.args.records.now) (dart_id i) c.args.p.now ≡ true)) _ c.first-at.ensures

pub entry-requires : goal.entry-requires
entry-requires g c = at_node_on _ _ _ _ (c.laws.ensures.whole _) c.in-Some.is c.walk.invariant.here

pub is_abreast-requires-clause-has : goal.is_abreast-requires-clause-has
is_abreast-requires-clause-has g c = c.requires.darts c.entry.result.item (says_here _ _ _ _ _ (c.laws.ensures.whole _) c.in-Some.is c.walk.invariant.here c.entry.ensures)

pub returns-then-is_abreast-clause-some : goal.returns-then-is_abreast-clause-some
returns-then-is_abreast-clause-some g c = c.is_abreast.ensures.yes c.if-is_abreast.true

pub walk-smaller : goal.walk-smaller
walk-smaller g c = less_on _ _ _ _ _ (c.laws.ensures.whole _) c.in-Some.is c.walk.invariant.here c.after-at.ensures

pub walk-preserved : goal.walk-preserved
walk-preserved g c = seek_on _ _ _ (λ i. Says c.args.edges.now i c.args.strand × (passes (g.R.Darts.graph c.args.records.now) (dart_id i) c.args.p.now ≡ true)) _ _ _ (c.laws.ensures.whole _) c.in-Some.is c.walk.invariant c.entry.ensures (λ q. false≢true (sym (c.is_abreast.ensures.no c.if-is_abreast.false q.0) ∙ q.1)) c.after-at.ensures

pub returns-clause-none : goal.returns-clause-none
returns-clause-none g c = λ d s n. not_true (passes (g.R.Darts.graph c.args.records.now) d c.args.p.now) (λ q. not_found _ _ (λ i. Says c.args.edges.now i c.args.strand × (passes (g.R.Darts.graph c.args.records.now) (dart_id i) c.args.p.now ≡ true)) _ (c.laws.ensures.whole _) c.walk.invariant c.in_default.is d.0 (n, q) s)
