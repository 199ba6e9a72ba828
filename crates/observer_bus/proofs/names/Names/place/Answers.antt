use Rattle.std.proofs.Common.{rules, ◌≡◌, arith, sym, subst}
use Rattle.std.proofs.lemmas.Cmp.{nat_cmp_total}
use Rattle.std.specs.Ordering.{nat_cmp}
use Rattle.plane_graphs.specs.Ascending.{place, IsAscending}
use Rattle.plane_graphs.proofs.Ascending.{IsAscending-place}
use Rattle.observer_bus.proofs.names.Names.place.Goals as goal

pub invariant_of-self : goal.invariant_of-self
invariant_of-self c =
    let e : c.insert-placed.new.self.items ≡ place nat_cmp c.args.name c.self.inside.items.items = search rules in
    (omega (arith, c.insert-placed.ensures.capacity, c.self.invariant.0), subst (IsAscending nat_cmp) (sym e) (IsAscending-place nat_cmp nat_cmp_total c.args.name c.self.inside.items.items c.self.invariant.1))
