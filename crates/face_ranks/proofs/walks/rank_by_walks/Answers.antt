use Rattle.std.proofs.Common.{◌≡◌, ℕ, ◌+◌, is_lt, sym, ap, ◌∙◌, arith}
use Rattle.std.specs.Prelude.{◌==◌}
use Rattle.dcel_records.specs.declared.ranks.RankKey.{RankKey}
use Rattle.dcel_records.specs.RankOrders.{key_cmp}
use Rattle.dcel_records.specs.RecordsView.{lists_of, tables_of}
use Rattle.face_ranks.specs.OuterKeys.{outer_keys}
use Rattle.face_ranks.specs.Ranks.{place_from_one}
use Rattle.face_ranks.proofs.KeysCounted.{all_counted}
use Rattle.face_ranks.proofs.KeysWalked.{found_in, count_less, not_before_itself, keys_fit}
use Rattle.face_ranks.proofs.walks.rank_by_walks.Goals as goal

pub next_within-requires : goal.next_within-requires
next_within-requires c =
    let h = c.args.records.now in
    let ks = outer_keys h.graph (tables_of h) (lists_of h) in
    let own = c.in-Some.own in
    let m = found_in (λ (k : RankKey). c.args.face.0 == k.face.0) ks own (sym c.key_walked.ensures ∙ c.in-Some.is) in
    let a = count_less (λ (k : RankKey). is_lt (key_cmp k own)) ks own m (not_before_itself own) in
    let b = keys_fit h.graph (tables_of h) (lists_of h) in
    let d = c.count_walked.ensures in
    let e = c.counts-cycles.ensures.cycles in
    omega (arith, a, b, d, e)

pub returns-in-None : goal.returns-in-None
returns-in-None c =
    let h = c.args.records.now in
    ap (place_from_one (outer_keys h.graph (tables_of h) (lists_of h))) (sym c.in-None.is ∙ c.key_walked.ensures) ∙ all_counted h.graph (tables_of h) (lists_of h) c.requires.map.sound c.requires.map.darts c.args.face c.requires.face

pub returns-in-Some : goal.returns-in-Some
returns-in-Some c =
    let h = c.args.records.now in
    let turned : c.count_walked.result + 1 ≡ 1 + c.count_walked.result = omega arith in
    c.next_within.ensures ∙ turned ∙ ap (λ (n : ℕ). 1 + n) c.count_walked.ensures ∙ ap (place_from_one (outer_keys h.graph (tables_of h) (lists_of h))) (sym c.in-Some.is ∙ c.key_walked.ensures) ∙ all_counted h.graph (tables_of h) (lists_of h) c.requires.map.sound c.requires.map.darts c.args.face c.requires.face
