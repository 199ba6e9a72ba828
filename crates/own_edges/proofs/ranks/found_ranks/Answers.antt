use Rattle.std.proofs.Common.{subst}
use Rattle.std.proofs.lemmas.Result.{IfOk-weaker}
use Rattle.face_ranks.specs.declared.order.Ranking.{Ranking}
use Rattle.face_ranks.specs.Ranks.{AreRankedAs}
use Rattle.own_edges.specs.RankTables.{AreRankedByKeys, AreRanksListed}
use Rattle.own_edges.proofs.RanksFound.{apart, all_ranked}
use Rattle.own_edges.proofs.ranks.found_ranks.Goals as goal

pub listed_keys-requires : goal.listed_keys-requires
listed_keys-requires c = subst (λ (r : Ranking). AreRankedAs r c.args.records.now) c.in-Listed.is c.requires.known

pub ranks_by_name-requires : goal.ranks_by_name-requires
ranks_by_name-requires c = apart c.args.records.now c.requires.map c.in_ok-walked_keys-in-Unknown.field-0.items c.in_ok-walked_keys-in-Unknown.ensures

pub ranks_by_name-requires-in-Listed : goal.ranks_by_name-requires-in-Listed
ranks_by_name-requires-in-Listed c = apart c.args.records.now c.requires.map c.in_ok-listed_keys-in-Listed.field-0.items c.in_ok-listed_keys-in-Listed.ensures

pub returns-in_ok-walked_keys-in-Unknown : goal.returns-in_ok-walked_keys-in-Unknown
returns-in_ok-walked_keys-in-Unknown c =
    let h = c.args.records.now in
    let ks = c.in_ok-walked_keys-in-Unknown in
    rw c.in-Unknown.is (IfOk-weaker c.ranks_by_name.result (λ v. AreRankedByKeys ks.field-0.items v.items) (λ v. AreRanksListed h v.items) (λ v r. all_ranked h c.requires.map ks.field-0.items ks.ensures v.items r) c.ranks_by_name.ensures)

pub returns-in_ok-listed_keys-in-Listed : goal.returns-in_ok-listed_keys-in-Listed
returns-in_ok-listed_keys-in-Listed c =
    let h = c.args.records.now in
    let ks = c.in_ok-listed_keys-in-Listed in
    rw c.in-Listed.is (IfOk-weaker c.ranks_by_name-in-Listed.result (λ v. AreRankedByKeys ks.field-0.items v.items) (λ v. AreRanksListed h v.items) (λ v r. all_ranked h c.requires.map ks.field-0.items ks.ensures v.items r) c.ranks_by_name-in-Listed.ensures)
