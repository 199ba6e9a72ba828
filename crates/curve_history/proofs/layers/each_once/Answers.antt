use Rattle.std.specs.Ordering.{nat_cmp}
use Rattle.std.proofs.lemmas.Cmp.{nat_cmp_total}
use Rattle.plane_graphs.proofs.Arranged.{arranged}
use Rattle.integers.proofs.Tests.{nat_exact, number_ties}
use Rattle.slab_laws.specs.declared.names.DartId.{DartId}
use Rattle.curve_history.proofs.Naming.{darts_same, darts_once}
use Rattle.curve_history.proofs.layers.each_once.Goals as goal

pub returns-clause-edges : goal.returns-clause-edges
returns-clause-edges c = darts_same c.args.edges.items c.dedup.new.self.items (arranged (λ (d : DartId). d.0) nat_cmp nat_cmp_total nat_exact c.args.edges.items c.sort_unstable.new.self.items c.sort_unstable.ensures.permutation _ c.dedup.new.self.items (λ x y. number_ties x.0 y.0) c.sort_unstable.ensures.sorted c.dedup.ensures.filtered)

pub returns-clause-once : goal.returns-clause-once
returns-clause-once c = darts_once c.args.edges.items c.dedup.new.self.items (arranged (λ (d : DartId). d.0) nat_cmp nat_cmp_total nat_exact c.args.edges.items c.sort_unstable.new.self.items c.sort_unstable.ensures.permutation _ c.dedup.new.self.items (λ x y. number_ties x.0 y.0) c.sort_unstable.ensures.sorted c.dedup.ensures.filtered)
