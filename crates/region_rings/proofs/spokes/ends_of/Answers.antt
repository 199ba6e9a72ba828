use Rattle.std.proofs.Common.{◌++◌, map, take, length, refl, sym, ap, ◌∙◌, append-nil}
use Rattle.std.specs.List.{range_with_len}
use Rattle.dart_orbits.proofs.Ranges.{all_at}
use Rattle.region_rings.specs.Spokes.{out_spoke, in_spoke}
use Rattle.region_rings.proofs.SpokeLists.{one_out, one_in}
use Rattle.region_rings.proofs.spokes.ends_of.Goals as goal

pub loop-dart-preserved : goal.loop-dart-preserved
loop-dart-preserved c =
    one_out c.args.darts.now c.loop-dart.dart c.loop-dart-test.true c.index-darts-dart.result c.index-darts-dart.is c.spoke_to.result c.loop-dart.spokes.items c.push.new.self.items c.spoke_to.ensures c.loop-dart.invariant c.in_ok-push.ensures.items

pub loop-dart-2-init : goal.loop-dart-2-init
loop-dart-2-init c =
    all_at (out_spoke c.args.darts.now) (length c.args.darts.now) c.loop-dart.dart c.loop-dart.spokes.items c.loop-dart-test.false c.loop-dart.invariant
    ∙ sym (append-nil (map (out_spoke c.args.darts.now) (range_with_len 0 (length c.args.darts.now))))

pub loop-dart-2-preserved : goal.loop-dart-2-preserved
loop-dart-2-preserved c =
    one_in c.args.darts.now c.loop-dart-2.dart c.loop-dart-2-test.true c.index-darts-dart-in-loop-dart-2.result c.index-darts-dart-in-loop-dart-2.is c.spoke_to-in-loop-dart-2.result
    (map (out_spoke c.args.darts.now) (range_with_len 0 (length c.args.darts.now))) c.loop-dart-2.spokes.items c.push-in-loop-dart-2.new.self.items c.spoke_to-in-loop-dart-2.ensures c.loop-dart-2.invariant c.in_ok-push-2.ensures.items

pub returns : goal.returns
returns c =
    c.loop-dart-2.invariant
    ∙ ap (λ zs. map (out_spoke c.args.darts.now) (range_with_len 0 (length c.args.darts.now)) ++ zs) (all_at (in_spoke c.args.darts.now) (length c.args.darts.now) c.loop-dart-2.dart (take c.loop-dart-2.dart (map (in_spoke c.args.darts.now) (range_with_len 0 (length c.args.darts.now)))) c.loop-dart-2-test.false refl)
