use Rattle.std.proofs.Common.{ap, sym, ◌∙◌, ◌++◌, subst}
use Rattle.std.specs.List.Sorted.{IsPermutation}
use Rattle.dart_orbits.proofs.WayTurns.{begun, lengthened}
use Rattle.dart_orbits.proofs.ways.add_way.Goals as goal
use Rattle.dart_orbits.proofs.ways.add_way.Goals.{then-is_round_another+in_ok-add_turn, else-is_round_another}

pub returns : goal.returns
returns c =
    let ws = c.args.ways.now.items in
    let ts = c.args.turn.now.items in
    let us = c.if-is_round_another.ways.items in
    let vs = c.if-is_round_another.turn.items in
    elim c.if-is_round_another.branch [
      | then-is_round_another+in_ok-add_turn w ↦
          begun ws ts us vs c.push.new.self.items c.args.way
          (subst (IsPermutation (ws ++ ts)) (sym (ap (λ v. v.items) w.ways-is)) w.in_ok-add_turn.ensures.all)
          (ap (λ v. v.items) w.turn-is ∙ w.in_ok-add_turn.ensures.none)
          c.in_ok-push.ensures.items
      | else-is_round_another w ↦
          lengthened ws ts us vs c.push.new.self.items c.args.way (ap (λ v. v.items) w.ways-is) (ap (λ v. v.items) w.turn-is) c.in_ok-push.ensures.items
    ]
