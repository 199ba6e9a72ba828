use Rattle.std.proofs.Common.{◌+◌, ◌∙◌, subst, sym, ap, get_or, drop}
use Rattle.std.specs.List.{position_or_len}
use Rattle.slab_laws.specs.declared.names.CycleKind.TheVariants.{Outer}
use Rattle.slab_laws.specs.Sound.{skeleton_of, dart_in}
use Rattle.slab_laws.specs.Text.{cycle_line}
use Rattle.slab_laws.specs.View.{dart_id, face_id}
use Rattle.record_orders.specs.declared.cycles.CycleKey.{CycleKey}
use Rattle.record_orders.specs.CycleKeys.{is_of_kind, same_face}
use Rattle.sound_views.proofs.RankedFaces.{cycle_of}
use Rattle.arr_text.specs.Parts.{letter_of}
use Rattle.arr_text.proofs.FaceBodies.{IsGaining, passed, gained}
use Rattle.arr_text.proofs.FaceNames.{key_at, key_has, key_within}
use Rattle.arr_text.proofs.faces.put_cycles.Goals.{then-is_of+in_ok-make_cycle_line+in_ok-append, else-is_of}
use Rattle.arr_text.proofs.faces.put_cycles.Goals as goal

-- what stands for a key where there is none
no_key : CycleKey
no_key = record { lead = dart_id 0; kind = Outer; face = face_id 0 }

pub make_cycle_line-requires : goal.make_cycle_line-requires
unfolding no_key
make_cycle_line-requires g c =
    let v = g.R.Darts.graph c.args.records.now in
    let f = g.R.Faced.faces c.args.records.now in record {
      sound = c.requires.stands.graph;
      numbers = c.requires.numbers;
      darts = c.requires.darts;
      lead = key_has v f c.requires.stands (get_or c.args.cycles.now c.loop-cycle.cycle-index no_key) (key_at v f c.requires.stands c.args.cycles.now c.loop-cycle.cycle-index no_key c.requires.cycles c.loop-cycle-test.true);
    }

pub append-requires : goal.append-requires
unfolding no_key
append-requires g c =
    key_within (g.R.Darts.graph c.args.records.now) (g.R.Faced.faces c.args.records.now) c.requires.stands c.args.cycles.now c.args.ranks.now c.loop-cycle.cycle-index no_key c.requires.cycles c.requires.ranks c.loop-cycle-test.true
    c.loop-cycle.bodies c.args.bodies.now c.rank_of.result c.rank_of.ensures c.loop-cycle.invariant.0 c.requires.bodies

pub loop-cycle-preserved : goal.loop-cycle-preserved
unfolding no_key
loop-cycle-preserved g c =
    let v = g.R.Darts.graph c.args.records.now in
    let passing = is_of_kind c.args.kind in
    let rank = λ (k : CycleKey). position_or_len (same_face k.face) c.args.ranks.now in
    let line = λ (k : CycleKey). cycle_line (skeleton_of v) (letter_of c.args.kind) (cycle_of (skeleton_of v) (dart_in v k.lead)) in
    let i = c.loop-cycle.cycle-index in
    let key = get_or c.args.cycles.now i no_key in
    let next = c.if-is_of.bodies in
    elim c.if-is_of.branch [
      | then-is_of+in_ok-make_cycle_line+in_ok-append w ↦
          gained passing rank line c.args.bodies.now c.loop-cycle.bodies next c.args.cycles.now i no_key w.rank_of.result w.deref.result.now c.loop-cycle-test.true (sym c.is_of.ensures ∙ w.if-is_of.true)
          (key_within v (g.R.Faced.faces c.args.records.now) c.requires.stands c.args.cycles.now c.args.ranks.now i no_key c.requires.cycles c.requires.ranks c.loop-cycle-test.true c.loop-cycle.bodies c.args.bodies.now w.rank_of.result w.rank_of.ensures c.loop-cycle.invariant.0 c.requires.bodies)
          w.rank_of.ensures (w.deref.ensures.value ∙ w.in_ok-make_cycle_line.ensures ∙ ap (λ t. cycle_line (skeleton_of v) t (cycle_of (skeleton_of v) (dart_in v key.lead))) w.letter_of.ensures) (w.bodies-is ∙ w.in_ok-append.ensures.appends) c.loop-cycle.invariant
      | else-is_of w ↦
          subst (λ bodies. IsGaining passing rank line c.args.bodies.now bodies c.args.cycles.now (drop (i + 1) c.args.cycles.now)) (sym w.bodies-is)
          (passed passing rank line c.args.bodies.now c.loop-cycle.bodies c.args.cycles.now i no_key c.loop-cycle-test.true (sym c.is_of.ensures ∙ w.if-is_of.false) c.loop-cycle.invariant)
    ]
