use Rattle.std.proofs.Common.{sym, ◌∙◌, subst}
use Rattle.std.specs.Prelude.{Some, None}
use Rattle.plane_graphs.proofs.Lines.{point_is_proper}
use Rattle.plane_graphs.proofs.Lists.{clash}
use Rattle.sound_views.proofs.NamesMet.{no_dart_yet, dart_has, one_dart_more, fewer_darts, all_darts, darts_still}
use Rattle.slab_laws.specs.Sound.{edge_in}
use Rattle.face_location.proofs.SeenDarts.{IsFirstCleared, there, IsHigher, is_higher, still_cleared, now_cleared, past_cleared, off_edges}
use Rattle.face_location.proofs.below.edge_at_or_below.Goals as goal

pub loop-dart-init : goal.loop-dart-init
loop-dart-init g c = record { seen = tt; cleared = no_dart_yet (g.R.Darts.graph c.args.records.now) (IsFirstCleared (g.R.Darts.graph c.args.records.now) c.args.point.now None) }

pub is_first-requires : goal.is_first-requires
is_first-requires g c = dart_has (g.R.Darts.graph c.args.records.now) c.loop-dart.last c.in-Some.dart c.in-Some.ensures.ascend c.in-Some.ensures.after

pub passing_of-requires-clause-dart : goal.passing_of-requires-clause-dart
passing_of-requires-clause-dart g c = dart_has (g.R.Darts.graph c.args.records.now) c.loop-dart.last c.in-Some.dart c.in-Some.ensures.ascend c.in-Some.ensures.after

pub higher-requires-clause-highest : goal.higher-requires-clause-highest
higher-requires-clause-highest g c = there (g.R.Darts.graph c.args.records.now) c.args.point.now c.loop-dart.highest c.loop-dart.invariant.seen

pub loop-dart-smaller-in-Below : goal.loop-dart-smaller-in-Below
loop-dart-smaller-in-Below g c = fewer_darts (g.R.Darts.graph c.args.records.now) c.loop-dart.last c.in-Some.dart c.in-Some.ensures.ascend c.in-Some.ensures.after

pub loop-dart-preserved-in-Below : goal.loop-dart-preserved-in-Below
loop-dart-preserved-in-Below g c =
    let v = g.R.Darts.graph c.args.records.now in
    let q = c.args.point.now in
    let o = c.loop-dart.highest in
    let Q = point_is_proper q c.laws.ensures in
    let b = c.in-Below.ensures in
    let f = c.in-Below.forward in
    let h = subst (IsHigher v c.requires q Q f b.seen o) (sym c.higher.ensures) (is_higher v c.requires q Q f b.seen o c.loop-dart.invariant.seen) in
    record {
      seen = h.seen;
      cleared = one_dart_more v c.loop-dart.last c.in-Some.dart c.in-Some.ensures.ascend c.in-Some.ensures.after (IsFirstCleared v q (Some c.higher.result))
          (darts_still v (IsFirstCleared v q o) (IsFirstCleared v q (Some c.higher.result)) c.loop-dart.last (λ x k n. still_cleared v c.requires q Q f b.seen o c.higher.result h (edge_in v x) (k n)) c.loop-dart.invariant.cleared)
          (λ n. now_cleared v c.requires q Q f b.seen o c.higher.result c.in-Some.dart h b);
    }

pub loop-dart-smaller-in-Apart : goal.loop-dart-smaller-in-Apart
loop-dart-smaller-in-Apart g c = fewer_darts (g.R.Darts.graph c.args.records.now) c.loop-dart.last c.in-Some.dart c.in-Some.ensures.ascend c.in-Some.ensures.after

pub loop-dart-preserved-in-Apart : goal.loop-dart-preserved-in-Apart
loop-dart-preserved-in-Apart g c =
    let v = g.R.Darts.graph c.args.records.now in
    let q = c.args.point.now in
    record {
      seen = c.loop-dart.invariant.seen;
      cleared = one_dart_more v c.loop-dart.last c.in-Some.dart c.in-Some.ensures.ascend c.in-Some.ensures.after (IsFirstCleared v q c.loop-dart.highest) c.loop-dart.invariant.cleared
          (λ n. past_cleared v c.requires q (point_is_proper q c.laws.ensures) c.loop-dart.highest c.in-Some.dart c.in-Apart.ensures);
    }

pub loop-dart-smaller : goal.loop-dart-smaller
loop-dart-smaller g c = fewer_darts (g.R.Darts.graph c.args.records.now) c.loop-dart.last c.in-Some.dart c.in-Some.ensures.ascend c.in-Some.ensures.after

pub loop-dart-preserved : goal.loop-dart-preserved
loop-dart-preserved g c =
    let v = g.R.Darts.graph c.args.records.now in
    record {
      seen = c.loop-dart.invariant.seen;
      cleared = one_dart_more v c.loop-dart.last c.in-Some.dart c.in-Some.ensures.ascend c.in-Some.ensures.after (IsFirstCleared v c.args.point.now c.loop-dart.highest) c.loop-dart.invariant.cleared
          (λ n. clash n (sym c.if-is_first.ensures));
    }

pub returns : goal.returns
returns g c =
    let v = g.R.Darts.graph c.args.records.now in
    let q = c.args.point.now in
    off_edges v c.requires q (point_is_proper q c.laws.ensures) c.loop-dart.highest c.loop-dart.invariant.seen
    (all_darts v (IsFirstCleared v q c.loop-dart.highest) c.loop-dart.last (sym c.in_default.is ∙ c.dart_after.ensures.after) c.loop-dart.invariant.cleared)
