use Rattle.std.proofs.Common.{◌≡◌, ◌-◌, ◌++◌}
use Rattle.std.specs.Prelude.{flat_map}
use Rattle.slab_laws.specs.Darts.{Dart, target, darts}
use Rattle.slab_laws.specs.Sound.{skeleton_of, dart_in}
use Rattle.slab_laws.specs.Text.{number, index}
use Rattle.slab_laws.specs.View.{HasDart}
use Rattle.sound_views.specs.VertexRounds.{round}
use Rattle.arr_text.proofs.rounds.put_round.Given as goal

abbrev pub invariant-round : goal.invariant-round
invariant-round g l =
    let v = g.R.Darts.graph l.records in
    let ds = darts (skeleton_of v) in
    let write = λ (h : Dart). number (index (skeleton_of v) (target h)) in
    let d = dart_in v l.first in
    record {
      has : HasDart v l.dart;
      same : l.fn.out.items ++ flat_map write (round ds l.darts d d) ≡ l.out.items ++ flat_map write (round ds (l.darts - l.counter) d (dart_in v l.dart));
    }
