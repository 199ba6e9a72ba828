use Rattle.std.proofs.Common.{◌≡◌, ◌+◌, ◌<◌, ℕ, length, get_or}
use Rattle.slab_laws.specs.SpansDrawn.{drawn}
use Rattle.dart_orbits.specs.Around.{source_placed, IsFirstPlaced}
use Rattle.dart_orbits.specs.DartRows.{place_after}
use Rattle.dart_orbits.proofs.nexts.afters_of.Given as goal

abbrev pub invariant-loop-index : goal.invariant-loop-index
invariant-loop-index l = record {
  counted : length l.afters.items ≡ length l.darts;
  each : (i : ℕ) → i < l.index → get_or l.afters.items (get_or l.around i 0) 0 ≡ place_after (drawn l.points l.edges) (get_or l.around i 0);
  known : (i : ℕ) → l.index ≡ i + 1 → IsFirstPlaced l.darts l.around (source_placed l.darts l.around i) l.first;
}
