use Rattle.std.proofs.Common.{false, sym, ◌∙◌}
use Rattle.std.specs.Ordering.{is_lt}
use Rattle.std.proofs.lemmas.Bool.{not-true}
use Rattle.sweep_graphs.specs.Edges.{stretch_cmp}
use Rattle.overlay_sweep.proofs.Cuts.{stands}
use Rattle.overlay_sweep.proofs.known.stands_beyond.Goals as goal

pub returns-in-Some : goal.returns-in-Some
returns-in-Some c = λ h. stands (λ s. is_lt (stretch_cmp s c.args.bar.now)) false c.args.stretches.now c.args.place c.in-Some.stretch.now c.in-Some.ensures.lookup.0 c.in-Some.ensures.lookup.1 (sym c.comes_before.ensures ∙ not-true c.comes_before.result h)
