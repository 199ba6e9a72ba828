use Rattle.std.proofs.Common.{◌≡◌, map, take}
use Rattle.segment_remove.proofs.ends.names_of.Given as goal

abbrev pub invariant-loop-key : goal.invariant-loop-key
invariant-loop-key l = l.names.items ≡ map (λ k. k.name) (take l.key-index l.keys)
