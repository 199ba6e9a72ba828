use Rattle.std.proofs.Common.{◌≡◌, true, false, ◌+◌, ◌++◌, ◌-◌, sym, ap, ◌∙◌, subst}
use Rattle.std.specs.Prelude.{flat_map}
use Rattle.slab_laws.specs.declared.names.DartId.{DartId}
use Rattle.slab_laws.specs.Darts.{Dart, target, darts}
use Rattle.slab_laws.specs.Rotation.{twin, next, same_dart}
use Rattle.slab_laws.specs.Sound.{skeleton_of, dart_in}
use Rattle.slab_laws.specs.Text.{number, index}
use Rattle.slab_laws.specs.declared.names.VertexId.{VertexId}
use Rattle.slab_laws.specs.View.{HasVertex, HasDart, point_in}
use Rattle.sound_views.specs.VertexRounds.{round}
use Rattle.sound_views.proofs.NamedDarts.{names_are_darts}
use Rattle.arr_notes.proofs.Names.{other_name}
use Rattle.arr_text.proofs.VertexNumbers.{number_within, written_number}
use Rattle.arr_text.proofs.Walks.{one_dart, two_darts, begun, walked, back_again, cut_off, round_none, round_on, round_end, turned}
use Rattle.arr_text.proofs.rounds.put_round.Goals as goal
use Rattle.arr_notes.proofs.Names.{same_name}

pub round-init : goal.round-init
round-init g c =
    let v = g.R.Darts.graph c.args.records.now in
    let ds = darts (skeleton_of v) in
    let write = λ (h : Dart). number (index (skeleton_of v) (target h)) in
    record { has = c.requires.first; same = begun (turned ds) (round ds) (round_none ds) (round_on ds) (round_end ds) write c.args.darts (dart_in v c.args.first) c.args.out.now.items }

pub put_index-requires : goal.put_index-requires
put_index-requires g c =
    let v = g.R.Darts.graph c.args.records.now in
    number_within v c.args.numbers.now c.requires.numbers c.target.result (subst (λ (w : VertexId). HasVertex v w) (sym c.target.ensures) (c.requires.sound.linked.source _ (c.requires.sound.twinned.has c.round.dart c.round.invariant.has)))

pub returns-then-eq : goal.returns-then-eq
returns-then-eq g c =
    let v = g.R.Darts.graph c.args.records.now in
    let s = c.requires.sound in
    let ds = darts (skeleton_of v) in
    let write = λ (h : Dart). number (index (skeleton_of v) (target h)) in
    let d = dart_in v c.args.first in
    let e = dart_in v c.round.dart in
    let back : twin e ≡ dart_in v c.twin.result = sym (ap (dart_in v) c.twin.ensures.twin ∙ names_are_darts.twin v c.round.dart s c.round.invariant.has) in
    let step : next ds (twin e) ≡ dart_in v c.next-dart.result = ap (next ds) back ∙ sym (ap (dart_in v) c.next-dart.ensures ∙ names_are_darts.next v c.twin.result s c.twin.ensures.has) in
    let has : HasDart v c.next-dart.result = subst (λ (x : DartId). HasDart v x) (sym c.next-dart.ensures) (s.linked.has c.twin.result c.twin.ensures.has) in
    let at : point_in v c.target.result ≡ target e = ap (point_in v) c.target.ensures ∙ sym (names_are_darts.target v c.round.dart s c.round.invariant.has) in
    let put = c.in_ok-put_index.ensures ∙ ap (λ bytes. c.round.out.items ++ bytes) (written_number v c.args.numbers.now c.requires.numbers c.target.result (subst (λ (w : VertexId). HasVertex v w) (sym c.target.ensures) (c.requires.sound.linked.source _ (c.requires.sound.twinned.has c.round.dart c.round.invariant.has))) (target e) at) in
    let again : same_dart ((turned ds) e) d ≡ true = ap (λ (x : Dart). same_dart x d) step ∙ one_dart v c.next-dart.result c.args.first (same_name c.next-dart.result c.args.first c.eq.result c.eq.ensures c.if-eq.true) in
    back_again (turned ds) (round ds) (round_none ds) (round_on ds) (round_end ds) write c.args.darts c.round.counter d e c.args.out.now.items c.round.out.items c.put_index.new.out.items c.round-test.true c.round.invariant.same put again

pub round-preserved : goal.round-preserved
round-preserved g c =
    let v = g.R.Darts.graph c.args.records.now in
    let s = c.requires.sound in
    let ds = darts (skeleton_of v) in
    let write = λ (h : Dart). number (index (skeleton_of v) (target h)) in
    let d = dart_in v c.args.first in
    let e = dart_in v c.round.dart in
    let back : twin e ≡ dart_in v c.twin.result = sym (ap (dart_in v) c.twin.ensures.twin ∙ names_are_darts.twin v c.round.dart s c.round.invariant.has) in
    let step : next ds (twin e) ≡ dart_in v c.next-dart.result = ap (next ds) back ∙ sym (ap (dart_in v) c.next-dart.ensures ∙ names_are_darts.next v c.twin.result s c.twin.ensures.has) in
    let has : HasDart v c.next-dart.result = subst (λ (x : DartId). HasDart v x) (sym c.next-dart.ensures) (s.linked.has c.twin.result c.twin.ensures.has) in
    let at : point_in v c.target.result ≡ target e = ap (point_in v) c.target.ensures ∙ sym (names_are_darts.target v c.round.dart s c.round.invariant.has) in
    let put = c.in_ok-put_index.ensures ∙ ap (λ bytes. c.round.out.items ++ bytes) (written_number v c.args.numbers.now c.requires.numbers c.target.result (subst (λ (w : VertexId). HasVertex v w) (sym c.target.ensures) (c.requires.sound.linked.source _ (c.requires.sound.twinned.has c.round.dart c.round.invariant.has))) (target e) at) in
    let other : same_dart ((turned ds) e) d ≡ false = ap (λ (x : Dart). same_dart x d) step ∙ two_darts v s c.next-dart.result c.args.first has c.requires.first (other_name c.next-dart.result c.args.first c.eq.result c.eq.ensures c.if-eq.false) in
    let on = walked (turned ds) (round ds) (round_none ds) (round_on ds) (round_end ds) write c.args.darts c.round.counter d e c.args.out.now.items c.round.out.items c.put_index.new.out.items c.round-test.true c.round.invariant.same put other in
    record {
      has = has;
      same = on ∙ ap (λ (x : Dart). c.put_index.new.out.items ++ flat_map write (round ds (c.args.darts - (c.round.counter + 1)) d x)) step;
    }

pub returns : goal.returns
returns g c =
    let v = g.R.Darts.graph c.args.records.now in
    let ds = darts (skeleton_of v) in
    let write = λ (h : Dart). number (index (skeleton_of v) (target h)) in
    cut_off (turned ds) (round ds) (round_none ds) (round_on ds) (round_end ds) write c.args.darts c.round.counter (dart_in v c.args.first) (dart_in v c.round.dart) c.args.out.now.items c.round.out.items c.round-test.false c.round.invariant.same
