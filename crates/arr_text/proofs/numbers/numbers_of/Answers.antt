use Rattle.std.proofs.Common.{get_or}
use Rattle.std.proofs.lemmas.List.{get_or_default}
use Rattle.arr_text.proofs.VertexNumbers.{one_more_told}
use Rattle.arr_text.proofs.numbers.numbers_of.Goals as goal

pub loop-place-preserved : goal.loop-place-preserved
loop-place-preserved c =
    let ks = c.args.vertices.now in
    let i = c.loop-place.place in
    let k = get_or ks i c.index-vertices-place.result in
    one_more_told ks i k c.loop-place.numbers.items c.write_at.new.table.items c.requires c.loop-place-test.true (get_or_default ks i c.index-vertices-place.result k c.loop-place-test.true) c.loop-place.invariant c.in_ok-write_at.ensures
