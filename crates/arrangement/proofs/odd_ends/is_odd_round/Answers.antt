use Rattle.std.proofs.Common.{◌≡◌, ◌≢◌, ◌<◌, ◌++◌, ◌∷◌, [], List, refl, sym, ◌∙◌, subst}
use Rattle.slab_laws.specs.declared.names.DartId.{DartId}
use Rattle.slab_laws.specs.View.{View, source_in}
use Rattle.arr_notes.specs.AfterAround.{after_in}
use Rattle.arr_notes.proofs.Names.{same_name, other_name}
use Rattle.rotation_order.proofs.Circuits.{left, read_after}
use Rattle.dart_walks.proofs.FaceWalks.{IsRoundSoFar, round_begins, round_ends, round_goes_on, round_nearer}
use Rattle.arrangement.proofs.OddEnds.{met_more, round_odd}
use Rattle.arrangement.proofs.odd_ends.is_odd_round.Goals as goal

pub ring-init : goal.ring-init
ring-init c = record { met = []; gone = round_begins c.args.records.now.graph c.requires.layer.sound c.args.first c.requires.first; sum = refl }

pub is_odd_edge-requires-clause-dart : goal.is_odd_edge-requires-clause-dart
is_odd_edge-requires-clause-dart c = c.ring.invariant.gone.out.0

pub twin-requires : goal.twin-requires
twin-requires c = c.ring.invariant.gone.out.0

pub returns-then-eq : goal.returns-then-eq
returns-then-eq c =
    let v : View = c.args.records.now.graph in
    let l = c.requires.layer in
    let i = c.ring.invariant in
    let is_after = read_after v c.ring.dart c.twin.result c.next-dart.result c.twin.ensures.twin c.next-dart.ensures in
    let back : after_in v c.ring.dart ≡ c.args.first = sym is_after ∙ same_name c.next-dart.result c.args.first c.eq.result c.eq.ensures c.if-eq.true in
    sym (met_more v c.args.history.now l i.met c.ring.dart c.ring.odd c.is_odd_edge.result c.changed-odd.result i.sum c.is_odd_edge.ensures c.changed-odd.ensures)
    ∙ round_odd v c.args.history.now l (source_in v c.args.first) (l.sound.linked.source c.args.first c.requires.first) (i.met ++ (c.ring.dart ∷ [])) (round_ends v l.sound c.args.first c.requires.first c.ring.dart i.met i.gone back)

pub ring-smaller : goal.ring-smaller
ring-smaller c =
    let v : View = c.args.records.now.graph in
    let l = c.requires.layer in
    let is_after = read_after v c.ring.dart c.twin.result c.next-dart.result c.twin.ensures.twin c.next-dart.ensures in
    let on : after_in v c.ring.dart ≢ c.args.first = λ e. other_name c.next-dart.result c.args.first c.eq.result c.eq.ensures c.if-eq.false (is_after ∙ e) in
    subst (λ (z : DartId). left v c.args.first (after_in v z) < left v c.args.first (after_in v c.ring.dart)) (sym is_after) (round_nearer v l.sound c.args.first c.requires.first c.ring.dart c.ring.invariant.met c.ring.invariant.gone on)

pub ring-preserved : goal.ring-preserved
ring-preserved c =
    let v : View = c.args.records.now.graph in
    let l = c.requires.layer in
    let i = c.ring.invariant in
    let is_after = read_after v c.ring.dart c.twin.result c.next-dart.result c.twin.ensures.twin c.next-dart.ensures in
    let on : after_in v c.ring.dart ≢ c.args.first = λ e. other_name c.next-dart.result c.args.first c.eq.result c.eq.ensures c.if-eq.false (is_after ∙ e) in
    record {
      met = i.met ++ (c.ring.dart ∷ []);
      gone = subst (λ (z : DartId). IsRoundSoFar v c.args.first z (i.met ++ (c.ring.dart ∷ []))) (sym is_after) (round_goes_on v l.sound c.args.first c.requires.first c.ring.dart i.met i.gone on);
      sum = met_more v c.args.history.now l i.met c.ring.dart c.ring.odd c.is_odd_edge.result c.changed-odd.result i.sum c.is_odd_edge.ensures c.changed-odd.ensures;
    }
