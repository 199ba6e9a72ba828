use Rattle.std.proofs.Common.{get_or, ap, ◌∙◌}
use Rattle.std.proofs.lemmas.List.{get_or_default}
use Rattle.slab_laws.specs.View.{dart_id}
use Rattle.arr_text.specs.declared.darts.NumberedDart.{NumberedDart}
use Rattle.arr_text.proofs.Lines.{dart_item, all_edges, one_more, edge_part, part_there, part_none}
use Rattle.arr_text.proofs.edges.put_edges.Goals as goal
use Rattle.arr_text.proofs.edges.put_edges.Goals.{then-goes_up+in_ok-put_edge, else-goes_up}

-- what stands for a dart where there is none
no_dart : NumberedDart
no_dart = record { source = 0; target = 0; name = dart_id 0 }

pub put_edge-requires-clause-has : goal.put_edge-requires-clause-has
unfolding no_dart
put_edge-requires-clause-has g c =
    let ks = c.args.darts.now in
    let i = c.loop-dart.dart-index in
    (dart_item (g.R.Darts.graph c.args.records.now) (g.W.Words.curves c.args.records.now) c.requires.sound ks i (get_or ks i no_dart) c.requires.darts c.loop-dart-test.true (get_or_default ks i no_dart (get_or ks i no_dart) c.loop-dart-test.true)).0

pub put_edge-requires-clause-key : goal.put_edge-requires-clause-key
unfolding no_dart
put_edge-requires-clause-key g c =
    let ks = c.args.darts.now in
    let i = c.loop-dart.dart-index in
    (dart_item (g.R.Darts.graph c.args.records.now) (g.W.Words.curves c.args.records.now) c.requires.sound ks i (get_or ks i no_dart) c.requires.darts c.loop-dart-test.true (get_or_default ks i no_dart (get_or ks i no_dart) c.loop-dart-test.true)).1

pub loop-dart-preserved : goal.loop-dart-preserved
unfolding no_dart
loop-dart-preserved g c =
    let v = g.R.Darts.graph c.args.records.now in
    let cs = g.W.Words.curves c.args.records.now in
    let ks = c.args.darts.now in
    let i = c.loop-dart.dart-index in
    let k = get_or ks i no_dart in
    let is = get_or_default ks i no_dart k c.loop-dart-test.true in
    elim c.if-goes_up.branch [
      | then-goes_up+in_ok-put_edge w ↦
          one_more (edge_part v cs) ks i k c.args.out.now.items c.loop-dart.out.items c.if-goes_up.out.items c.loop-dart-test.true is c.loop-dart.invariant
          (part_there v cs k c.goes_up.result c.loop-dart.out.items c.if-goes_up.out.items c.goes_up.ensures w.if-goes_up.true (ap (λ o. o.items) w.out-is ∙ w.in_ok-put_edge.ensures))
      | else-goes_up w ↦
          one_more (edge_part v cs) ks i k c.args.out.now.items c.loop-dart.out.items c.if-goes_up.out.items c.loop-dart-test.true is c.loop-dart.invariant
          (part_none v cs k c.goes_up.result c.loop-dart.out.items c.if-goes_up.out.items c.goes_up.ensures w.if-goes_up.false (ap (λ o. o.items) w.out-is))
    ]

pub returns : goal.returns
returns g c =
    all_edges (g.R.Darts.graph c.args.records.now) (g.W.Words.curves c.args.records.now) c.requires.sound c.args.darts.now c.loop-dart.dart-index c.args.out.now.items c.loop-dart.out.items c.requires.darts c.loop-dart-test.false c.loop-dart.invariant
