use Rattle.std.proofs.Common.{◌<◌, sym, subst}
use Rattle.slab_laws.specs.declared.names.DartId.{DartId}
use Rattle.slab_laws.specs.View.{View, IsOutOf, source_in}
use Rattle.arr_notes.specs.AfterAround.{after_in}
use Rattle.arr_notes.proofs.Names.{other_name}
use Rattle.rotation_order.proofs.Circuits.{left, nearer, after_out, read_after}
use Rattle.rotation_order.proofs.rounds.previous_around_source.Goals as goal

pub ring-preserved : goal.ring-preserved
ring-preserved g c =
    let v : View = g.R.Darts.graph c.args.records.now in
    subst (λ (z : DartId). IsOutOf v (source_in v c.args.d) z) (sym (read_after v c.ring.dart c.twin.result c.next-after.result c.twin.ensures.twin c.next-after.ensures))
    (after_out v c.requires.sound c.args.d c.requires.dart c.ring.dart c.ring.invariant)

pub ring-smaller : goal.ring-smaller
ring-smaller g c =
    let v : View = g.R.Darts.graph c.args.records.now in
    subst (λ (z : DartId). left v c.args.d (after_in v c.next-after.result) < left v c.args.d z) (read_after v c.ring.dart c.twin.result c.next-after.result c.twin.ensures.twin c.next-after.ensures)
    (nearer v c.requires.sound c.args.d c.requires.dart c.next-after.result (ring-preserved g c) (other_name c.next-after.result c.args.d c.eq.result c.eq.ensures c.if-eq.false))
