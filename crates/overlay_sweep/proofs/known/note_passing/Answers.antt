use Rattle.std.proofs.Common.{cond, sym, ap, ◌∙◌}
use Rattle.std.specs.Prelude.{Some, slice_set}
use Rattle.overlay_sweep.proofs.known.note_passing.Goals as goal

pub returns-then-ends_with : goal.returns-then-ends_with
returns-then-ends_with c = sym (ap (λ b. cond b c.args.passing.now.items (slice_set c.args.passing.now.items c.args.vertex (Some c.args.place))) (sym c.ends_with.ensures ∙ c.if-ends_with.true))

pub returns : goal.returns
returns c = sym (ap (λ b. cond b c.args.passing.now.items (slice_set c.args.passing.now.items c.args.vertex (Some c.args.place))) (sym c.ends_with.ensures ∙ c.if-ends_with.false))
