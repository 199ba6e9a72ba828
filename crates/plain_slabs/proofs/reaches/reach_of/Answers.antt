use Rattle.std.proofs.Common.{ap, ◌∙◌}
use Rattle.plain_slabs.specs.PlaceTables.{points_upto}
use Rattle.plain_slabs.proofs.reaches.reach_of.Goals as goal

pub returns : goal.returns
returns c =
    λ k.
    record {
      edge = c.args.edge.now;
      first = (c.slab_after.ensures ∙ ap (points_upto c.args.points.now) c.lower.ensures.value) k;
      end = (c.slab_after-2.ensures ∙ ap (points_upto c.args.points.now) c.upper.ensures) k;
    }
