use Rattle.std.proofs.Common.{[], ap, subst, take, map}
use Rattle.std.specs.List.{AllByRecursion}
use Rattle.std.specs.List.Sorted.{IsStrictlyIncreasing}
use Rattle.std.proofs.lemmas.List.{take_all}
use Rattle.std.proofs.lemmas.List.Elements.{All-more, All-from_recursion, recursion_from_All}
use Rattle.plane_graphs.proofs.Loops.{gathered, all_gathered}
use Rattle.present_graphs.specs.Marks.{mark_of}
use Rattle.record_orders.specs.declared.darts.DartKey.{DartKey}
use Rattle.subdivision_rows.specs.ByName.{numbers_of}
use Rattle.plain_slabs.specs.ByName.{key_marks}
use Rattle.plain_slabs.proofs.ReadKeys.{forward_there}
use Rattle.plain_slabs.proofs.names.marks_of.Goals as goal

pub add_marks-requires : goal.add_marks-requires
add_marks-requires g c = (forward_there (g.R.Darts.graph c.args.records.now) c.requires.sound c.args.darts.now c.loop-dart.dart-index c.dart-item.result c.requires.darts c.loop-dart-test.true c.dart-item.is).has

pub loop-dart-init : goal.loop-dart-init
loop-dart-init g c = record { marks = ap (map mark_of) c.new-marks.ensures.items; ascend = tt }

pub loop-dart-preserved : goal.loop-dart-preserved
loop-dart-preserved g c =
    let cs = g.R.Curved.curve_list c.args.records.now in
    let ks = c.args.darts.now in
    let i = c.loop-dart.dart-index in
    let k = c.dart-item.result in
    let rises = λ (k : DartKey). IsStrictlyIncreasing (numbers_of cs k.name) in
    record {
      marks = gathered (key_marks cs) ks i k [] (map mark_of c.loop-dart.marks.items) _ c.loop-dart-test.true c.dart-item.is c.loop-dart.invariant.marks c.in_ok-add_marks.ensures.marks;
      ascend = recursion_from_All rises _ (All-more rises ks i k c.loop-dart-test.true (All-from_recursion rises (take i ks) c.loop-dart.invariant.ascend) (subst rises c.dart-item.is c.in_ok-add_marks.ensures.ascend));
    }

pub returns-clause-marks : goal.returns-clause-marks
returns-clause-marks g c = all_gathered (key_marks (g.R.Curved.curve_list c.args.records.now)) c.args.darts.now c.loop-dart.dart-index [] _ c.loop-dart-test.false c.loop-dart.invariant.marks

pub returns-clause-ascend : goal.returns-clause-ascend
returns-clause-ascend g c =
    subst (AllByRecursion (λ (k : DartKey). IsStrictlyIncreasing (numbers_of (g.R.Curved.curve_list c.args.records.now) k.name))) (take_all c.loop-dart.dart-index c.args.darts.now c.loop-dart-test.false) c.loop-dart.invariant.ascend
