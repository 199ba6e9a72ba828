use Rattle.std.proofs.Common.{◌≡◌, true, false, ◌+◌, ◌++◌, ◌-◌, sym, ap, ◌∙◌, subst}
use Rattle.std.specs.Prelude.{flat_map}
use Rattle.slab_laws.specs.declared.names.DartId.{DartId}
use Rattle.slab_laws.specs.Darts.{Dart, source, darts}
use Rattle.slab_laws.specs.Rotation.{next, same_dart}
use Rattle.slab_laws.specs.Sound.{skeleton_of, dart_in}
use Rattle.slab_laws.specs.Text.{number, index}
use Rattle.slab_laws.specs.declared.names.VertexId.{VertexId}
use Rattle.slab_laws.specs.View.{HasVertex, HasDart, point_in}
use Rattle.slab_laws.specs.Cycles.{trail}
use Rattle.sound_views.proofs.NamedDarts.{names_are_darts}
use Rattle.arr_notes.proofs.Names.{other_name}
use Rattle.arr_text.proofs.VertexNumbers.{number_within, written_number}
use Rattle.arr_text.proofs.Walks.{one_dart, two_darts, begun, walked, back_again, cut_off, trail_none, trail_on, trail_end}
use Rattle.arr_text.proofs.rounds.put_trail.Goals as goal
use Rattle.arr_notes.proofs.Names.{same_name}

pub trail-init : goal.trail-init
trail-init g c =
    let v = g.R.Darts.graph c.args.records.now in
    let ds = darts (skeleton_of v) in
    let write = λ (h : Dart). number (index (skeleton_of v) (source h)) in
    record { has = c.requires.first; same = begun (next ds) (trail ds) (trail_none ds) (trail_on ds) (trail_end ds) write c.args.darts (dart_in v c.args.first) c.args.out.now.items }

pub put_index-requires : goal.put_index-requires
put_index-requires g c =
    let v = g.R.Darts.graph c.args.records.now in
    number_within v c.args.numbers.now c.requires.numbers c.source.result (subst (λ (w : VertexId). HasVertex v w) (sym c.source.ensures) (c.requires.sound.linked.source c.trail.dart c.trail.invariant.has))

pub returns-then-eq : goal.returns-then-eq
returns-then-eq g c =
    let v = g.R.Darts.graph c.args.records.now in
    let s = c.requires.sound in
    let ds = darts (skeleton_of v) in
    let write = λ (h : Dart). number (index (skeleton_of v) (source h)) in
    let d = dart_in v c.args.first in
    let e = dart_in v c.trail.dart in
    let step : next ds e ≡ dart_in v c.next-dart.result = sym (ap (dart_in v) c.next-dart.ensures ∙ names_are_darts.next v c.trail.dart s c.trail.invariant.has) in
    let has : HasDart v c.next-dart.result = subst (λ (x : DartId). HasDart v x) (sym c.next-dart.ensures) (s.linked.has c.trail.dart c.trail.invariant.has) in
    let at : point_in v c.source.result ≡ source e = ap (point_in v) c.source.ensures ∙ sym (names_are_darts.source v c.trail.dart s c.trail.invariant.has) in
    let put = c.in_ok-put_index.ensures ∙ ap (λ bytes. c.trail.out.items ++ bytes) (written_number v c.args.numbers.now c.requires.numbers c.source.result (subst (λ (w : VertexId). HasVertex v w) (sym c.source.ensures) (c.requires.sound.linked.source c.trail.dart c.trail.invariant.has)) (source e) at) in
    let again : same_dart ((next ds) e) d ≡ true = ap (λ (x : Dart). same_dart x d) step ∙ one_dart v c.next-dart.result c.args.first (same_name c.next-dart.result c.args.first c.eq.result c.eq.ensures c.if-eq.true) in
    back_again (next ds) (trail ds) (trail_none ds) (trail_on ds) (trail_end ds) write c.args.darts c.trail.counter d e c.args.out.now.items c.trail.out.items c.put_index.new.out.items c.trail-test.true c.trail.invariant.same put again

pub trail-preserved : goal.trail-preserved
trail-preserved g c =
    let v = g.R.Darts.graph c.args.records.now in
    let s = c.requires.sound in
    let ds = darts (skeleton_of v) in
    let write = λ (h : Dart). number (index (skeleton_of v) (source h)) in
    let d = dart_in v c.args.first in
    let e = dart_in v c.trail.dart in
    let step : next ds e ≡ dart_in v c.next-dart.result = sym (ap (dart_in v) c.next-dart.ensures ∙ names_are_darts.next v c.trail.dart s c.trail.invariant.has) in
    let has : HasDart v c.next-dart.result = subst (λ (x : DartId). HasDart v x) (sym c.next-dart.ensures) (s.linked.has c.trail.dart c.trail.invariant.has) in
    let at : point_in v c.source.result ≡ source e = ap (point_in v) c.source.ensures ∙ sym (names_are_darts.source v c.trail.dart s c.trail.invariant.has) in
    let put = c.in_ok-put_index.ensures ∙ ap (λ bytes. c.trail.out.items ++ bytes) (written_number v c.args.numbers.now c.requires.numbers c.source.result (subst (λ (w : VertexId). HasVertex v w) (sym c.source.ensures) (c.requires.sound.linked.source c.trail.dart c.trail.invariant.has)) (source e) at) in
    let other : same_dart ((next ds) e) d ≡ false = ap (λ (x : Dart). same_dart x d) step ∙ two_darts v s c.next-dart.result c.args.first has c.requires.first (other_name c.next-dart.result c.args.first c.eq.result c.eq.ensures c.if-eq.false) in
    let on = walked (next ds) (trail ds) (trail_none ds) (trail_on ds) (trail_end ds) write c.args.darts c.trail.counter d e c.args.out.now.items c.trail.out.items c.put_index.new.out.items c.trail-test.true c.trail.invariant.same put other in
    record {
      has = has;
      same = on ∙ ap (λ (x : Dart). c.put_index.new.out.items ++ flat_map write (trail ds (c.args.darts - (c.trail.counter + 1)) d x)) step;
    }

pub returns : goal.returns
returns g c =
    let v = g.R.Darts.graph c.args.records.now in
    let ds = darts (skeleton_of v) in
    let write = λ (h : Dart). number (index (skeleton_of v) (source h)) in
    cut_off (next ds) (trail ds) (trail_none ds) (trail_on ds) (trail_end ds) write c.args.darts c.trail.counter (dart_in v c.args.first) (dart_in v c.trail.dart) c.args.out.now.items c.trail.out.items c.trail-test.false c.trail.invariant.same
