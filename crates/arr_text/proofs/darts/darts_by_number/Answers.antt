use Rattle.std.proofs.Common.{map, ap, ◌∙◌}
use Rattle.arr_text.specs.Numbers.{numbered_dart}
use Rattle.arr_text.proofs.NumberedDarts.{sorted_darts}
use Rattle.arr_text.proofs.darts.darts_by_number.Goals as goal

pub all_numbered-requires-clause-have : goal.all_numbered-requires-clause-have
all_numbered-requires-clause-have g c = rw c.deref.ensures.value c.in_ok-names.ensures.have

pub returns : goal.returns
returns g c =
    let v = g.R.Darts.graph c.args.records.now in
    sorted_darts v c.requires.sound c.in_ok-darts.darts.items c.sort_unstable.new.self.items (c.in_ok-darts.ensures ∙ ap (map (numbered_dart v)) (c.deref.ensures.value ∙ c.in_ok-names.ensures.names)) c.sort_unstable.ensures.permutation c.sort_unstable.ensures.sorted
