use Rattle.slab_laws.specs.Layers.{rows_of}
use Rattle.slab_laws.specs.Subdivision.{subdivision}
use Rattle.std.proofs.Common.{◌∙◌}
use Rattle.overlay_sweep.proofs.join.table_of.Goals as goal

pub returns : goal.returns
unfolding rows_of subdivision
returns c = λ w fit is from labelled i. record {
  curves = (c.of.ensures.curves ∙ c.in_ok-curves.ensures w fit is from) i;
  labels = (c.of.ensures.labels ∙ c.in_ok-labels.ensures w fit is from labelled) i;
}
