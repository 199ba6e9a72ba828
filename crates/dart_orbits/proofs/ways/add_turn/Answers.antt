use Rattle.std.proofs.Common.{sym, ◌++◌, List, subst}
use Rattle.std.specs.List.Sorted.{IsPermutation}
use Rattle.std.proofs.lemmas.List.Sorted.{IsPermutation-append_right}
use Rattle.dart_orbits.specs.declared.ways.Way.{Way}
use Rattle.dart_orbits.proofs.ways.add_turn.Goals as goal

pub returns-clause-all : goal.returns-clause-all
returns-clause-all c =
    let ws = c.args.ways.now.items in
    subst (λ (us : List Way). IsPermutation (ws ++ c.args.turn.now.items) us) (sym c.in_ok-append.ensures.items)
    (IsPermutation-append_right ws c.args.turn.now.items c.sort_unstable_by.new.self.items c.sort_unstable_by.ensures.permutation)
