use Rattle.std.proofs.Common.{ap, ◌∙◌}
use Rattle.ring_areas.specs.Fractions.{Fraction}
use Rattle.ring_areas.proofs.Whole.{whole_area}
use Rattle.ring_areas.proofs.rings.area_of.Goals as goal

pub returns-clause-whole : goal.returns-clause-whole
returns-clause-whole c = λ h. ap (λ (a : Fraction). a.denominator) c.in_ok-area.ensures ∙ whole_area c.args.ring.now h
