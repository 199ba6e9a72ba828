use Rattle.std.proofs.Common.{◌≡◌, ◌-◌, ◌<◌, List, length, take, drop, arith, sym, ◌∙◌, subst}
use Rattle.exact_plane.specs.Point.{Point}
use Rattle.region_rings.specs.Holes.{ring_of}
use Rattle.region_rings.proofs.RingsCut.{ends_within}
use Rattle.region_rings.proofs.RingSides.{upto, ring_some}
use Rattle.region_rings.proofs.holes.ring_in.Goals as goal

pub part_of-requires-clause-end : goal.part_of-requires-clause-end
part_of-requires-clause-end c = let w = ends_within (length c.args.points.now) c.args.ends.now c.requires.cut c.args.ring c.requires.ring in let e = c.number_at-end.ensures in omega arith

pub part_of-requires-clause-start : goal.part_of-requires-clause-start
part_of-requires-clause-start c = let w = upto c.args.points.now c.args.ends.now c.requires.cut c.args.ring c.requires.ring in let e = c.number_at-end.ensures in let s = c.start_at-start.ensures in omega arith

pub returns : goal.returns
returns c =
    let points = c.args.points.now in
    let ends = c.args.ends.now in
    let is : c.part_of.result.now ≡ ring_of points ends c.args.ring = c.part_of.ensures ∙ (λ i. take (c.number_at-end.ensures i - c.start_at-start.ensures i) (drop (c.start_at-start.ensures i) points)) in
    record {
      value = is;
      some = subst (λ (ps : List Point). 0 < length ps) (sym is) (ring_some points ends c.requires.cut c.args.ring c.requires.ring);
    }
