use Rattle.std.proofs.Common.{rules, ◌≡◌, List, false, sym, ap, ◌∙◌, slice_index_or}
use Rattle.exact_plane.specs.Point.{Point}
use Rattle.region_rings.specs.Holes.{ring_of}
use Rattle.region_rings.specs.Nesting.{goes_round}
use Rattle.region_rings.proofs.nesting.is_round.Goals as goal

pub returns-then-not-holes-ring : goal.returns-then-not-holes-ring
returns-then-not-holes-ring c =
    let outer : slice_index_or c.args.holes.now c.args.ring false ≡ false = search rules in
    let told : c.goes_round.result ≡ goes_round (ring_of c.args.points.now c.args.ends.now c.args.ring) c.args.point.now = c.goes_round.ensures ∙ ap (λ (ps : List Point). goes_round ps c.args.point.now) c.ring_in.ensures.value in
    (λ t. record { within = c.requires.ring; outer = outer; round = sym told ∙ t }, λ r. told ∙ r.round)
