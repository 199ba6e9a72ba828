use Rattle.std.proofs.Common.{subst, sym}
use Rattle.polygon_sets.specs.ClosedBorders.{IsClosedBorder}
use Rattle.region_rings.specs.Rings.{AreRingsOf}
use Rattle.region_rings.proofs.HolesNested.{holes_nested}
use Rattle.region_rings.proofs.OneParts.{of_one_face}
use Rattle.region_rings.proofs.rings.rings_of.Goals as goal

pub unreachable-requires : goal.unreachable-requires
unreachable-requires c =
    let refused = rw c.in-Err-NotClosed.field-0-is at c.in-Err-NotClosed.ensures.error in
    refused (subst IsClosedBorder (sym c.darts.ensures) c.laws.ensures.closed)

pub returns-in-Ok-clause-nested : goal.returns-in-Ok-clause-nested
returns-in-Ok-clause-nested c = holes_nested c.args.region.now c.laws.ensures.boundary c.in-Ok.rings (subst (λ ds. AreRingsOf ds c.in-Ok.rings) c.darts.ensures c.in-Ok.ensures.rings)

pub returns-in-Ok-clause-one_face : goal.returns-in-Ok-clause-one_face
returns-in-Ok-clause-one_face c = of_one_face c.args.region.now c.in-Ok.rings (subst (λ ds. AreRingsOf ds c.in-Ok.rings) c.darts.ensures c.in-Ok.ensures.rings)
