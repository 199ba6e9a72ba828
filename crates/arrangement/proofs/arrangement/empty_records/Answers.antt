use Rattle.std.proofs.Common.{◌≤◌, sym, subst}
use Rattle.std.proofs.lemmas.Result.{IfOk-at_ok}
use Rattle.told_steps.proofs.MapsKept.{first_map}
use Rattle.arrangement.proofs.Layers.{first_layer, first_is_empty}
use Rattle.arrangement.proofs.arrangement.empty_records.Goals as goal

pub invariant_of-result : goal.invariant_of-result
invariant_of-result c =
    let history = c.unwrap-history.ensures in
    let e = c.new-2.ensures in
    let r = c.in_ok-records.ensures in
    (first_layer c.in_ok-records.records.graph c.unwrap-history.result c.in_ok-records.ensures.empty (IfOk-at_ok _ history e.curves) (IfOk-at_ok _ history e.names) (IfOk-at_ok _ history e.pieces) (subst (λ n. 1 ≤ n) (sym (IfOk-at_ok _ history e.next)) c.requires), (first_map c.in_ok-records.records r.empty r.tables r.returned, (tt, (λ e. cc, λ e. cc))))

pub returns : goal.returns
returns c =
    let history = c.unwrap-history.ensures in
    let e = c.new-2.ensures in
    first_is_empty c.in_ok-records.records.graph c.unwrap-history.result c.args.first c.in_ok-records.ensures.empty (IfOk-at_ok _ history e.names) (IfOk-at_ok _ history e.pieces) (IfOk-at_ok _ history e.next)
