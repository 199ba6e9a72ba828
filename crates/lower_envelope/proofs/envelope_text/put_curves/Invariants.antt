use Rattle.std.proofs.Common.{◌≡◌, ◌++◌, take}
use Rattle.std.specs.Prelude.{flat_map}
use Rattle.slab_laws.specs.Text.{number}
use Rattle.lower_envelope.proofs.envelope_text.put_curves.Given as goal

abbrev pub invariant-loop-curve : goal.invariant-loop-curve
invariant-loop-curve l = l.out.items ≡ l.initial.out.items ++ flat_map (λ c. number c.0) (take l.curve-index l.curves)
