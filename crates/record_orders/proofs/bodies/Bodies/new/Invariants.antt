use Rattle.std.proofs.Common.{◌≡◌, [], map, replicate}
use Rattle.record_orders.proofs.bodies.Bodies.new.Given as goal

abbrev pub invariant-loop : goal.invariant-loop
invariant-loop l = map (λ t. t.items) l.texts.items ≡ replicate l.counter []
