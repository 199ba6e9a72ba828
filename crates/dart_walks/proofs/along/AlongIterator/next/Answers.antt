use Rattle.std.proofs.Common.{length, sym, ap, ◌∙◌, arith}
use Rattle.slab_laws.specs.View.{View, next_in}
use Rattle.dart_walks.proofs.Turns.{ended, has_dart, still, gives, after}
use Rattle.dart_walks.proofs.along.AlongIterator.next.Goals as goal

pub next-requires : goal.next-requires
next-requires g c =
    let v : View = g.R.Darts.graph c.self.inside.graph.now in
    has_dart v (next_in v) c.self.inside.first c.self.inside.at c.self.invariant c.in-Some.dart c.in-Some.is

pub invariant_of-self : goal.invariant_of-self
invariant_of-self g c =
    let v : View = g.R.Darts.graph c.self.inside.graph.now in
    still v (next_in v) c.self.inside.first c.self.inside.at c.self.invariant c.in-Some.dart c.in-Some.is c.onward-self-inside.result (after (next_in v) c.self.inside.first c.in-Some.dart c.next.result c.next.ensures c.onward-self-inside.result c.onward-self-inside.ensures)

pub returns-clause-steps : goal.returns-clause-steps
returns-clause-steps g c =
    let v : View = g.R.Darts.graph c.self.inside.graph.now in
    sym c.self.view_is ∙ gives v (next_in v) c.self.inside.first c.self.inside.at c.self.invariant c.in-Some.dart c.in-Some.is c.onward-self-inside.result (after (next_in v) c.self.inside.first c.in-Some.dart c.next.result c.next.ensures c.onward-self-inside.result c.onward-self-inside.ensures)

pub returns-in_default-clause-steps : goal.returns-in_default-clause-steps
returns-in_default-clause-steps g c =
    let v : View = g.R.Darts.graph c.self.inside.graph.now in
    let e = sym c.self.view_is ∙ ended v (next_in v) c.self.inside.first c.self.inside.at c.self.invariant c.in_default.is in
    (e, e)

pub returns-clause-goes : goal.returns-clause-goes
returns-clause-goes g c =
    let v : View = g.R.Darts.graph c.self.inside.graph.now in
    let e = ap length (sym c.self.view_is ∙ gives v (next_in v) c.self.inside.first c.self.inside.at c.self.invariant c.in-Some.dart c.in-Some.is c.onward-self-inside.result (after (next_in v) c.self.inside.first c.in-Some.dart c.next.result c.next.ensures c.onward-self-inside.result c.onward-self-inside.ensures)) in
    record { on = λ f. (tt, tt, omega (arith, e)); keeps = tt; rests = λ f. tt }
