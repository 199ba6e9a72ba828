use Rattle.std.proofs.Common.{◌≡◌, sym, ◌∙◌}
use Rattle.slab_laws.specs.View.{View}
use Rattle.arr_notes.specs.AfterAround.{after_in}
use Rattle.arr_notes.proofs.Names.{same_name, other_name}
use Rattle.rotation_order.proofs.Circuits.{read_after}
use Rattle.edge_unlink.proofs.Rests.{rest_there, rest_none}
use Rattle.edge_unlink.proofs.rounds.rest_of.Goals as goal

pub returns-then-eq : goal.returns-then-eq
returns-then-eq g c =
    let v : View = g.R.Darts.graph c.args.records.now in
    let e : c.next-after.result ≡ after_in v c.args.d = read_after v c.args.d c.twin.result c.next-after.result c.twin.ensures.twin c.next-after.ensures in
    rest_none v c.requires.sound c.args.d c.requires.dart (sym e ∙ same_name c.next-after.result c.args.d c.eq.result c.eq.ensures c.if-eq.true)

pub returns-else-eq : goal.returns-else-eq
returns-else-eq g c =
    let v : View = g.R.Darts.graph c.args.records.now in
    rest_there v c.requires.sound c.args.d c.requires.dart c.next-after.result
    (read_after v c.args.d c.twin.result c.next-after.result c.twin.ensures.twin c.next-after.ensures)
    (other_name c.next-after.result c.args.d c.eq.result c.eq.ensures c.if-eq.false)
