use Rattle.std.proofs.Common.{◌≡◌, ◌≢◌, false, cond, ap, ◌∙◌, rules}
use Rattle.std.specs.Prelude.{not}
use Rattle.polygon_sets.specs.OddVertices.{row_at}
use Rattle.polygon_sets.proofs.OddRows.{found, next_dart, none_odd}
use Rattle.polygon_sets.proofs.odd.first_odd.Goals.{then-dart-vertex+else-odd, else-dart-vertex}
use Rattle.polygon_sets.proofs.odd.first_odd.Goals as goal

pub returns-then-odd : goal.returns-then-odd
returns-then-odd c = found c.args.darts.now c.args.pieces.now c.requires.sources c.loop-dart.dart-index c.loop-dart.vertex c.loop-dart.odd c.loop-dart.invariant c.loop-dart-test.true (search rules) c.if-odd.true

pub loop-dart-preserved : goal.loop-dart-preserved
loop-dart-preserved c =
    let s = (row_at c.args.darts.now c.loop-dart.dart-index).source in
    let at : c.if-dart-vertex.vertex ≡ s = elim c.if-dart-vertex.branch [
      | then-dart-vertex+else-odd w ↦ w.vertex-is
      | else-dart-vertex w ↦ w.vertex-is ∙ search rules
    ] in
    let quiet : s ≢ c.loop-dart.vertex → c.loop-dart.odd ≡ false = elim c.if-dart-vertex.branch [
      | then-dart-vertex+else-odd w ↦ λ d. w.if-odd.false
      | else-dart-vertex w ↦ λ d. absurd (d (search rules))
    ] in
    next_dart c.args.darts.now c.args.pieces.now c.requires.sources c.loop-dart.dart-index c.loop-dart.vertex c.loop-dart.odd c.loop-dart.invariant c.if-dart-vertex.vertex c.changes-odd.result c.loop-dart-test.true at quiet (c.changes-odd.ensures ∙ ap (λ b. cond b (not c.loop-dart.odd) c.loop-dart.odd) c.is_odd.ensures)

pub returns-else-odd-2 : goal.returns-else-odd-2
returns-else-odd-2 c = none_odd c.args.darts.now c.args.pieces.now c.requires.sources c.loop-dart.dart-index c.loop-dart.vertex c.loop-dart.odd c.loop-dart.invariant c.loop-dart-test.false c.if-odd-2.false
