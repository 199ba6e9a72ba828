use Rattle.std.proofs.Common.{◌≡◌, ℕ, ◌<◌, length, take, drop, ◌++◌, get_or, List, sym, ap, ◌∙◌, subst}
use Rattle.std.specs.List.{range_with_len}
use Rattle.std.proofs.lemmas.List.{take_at}
use Rattle.std.proofs.lemmas.List.FromFn.{length-range_with_len}
use Rattle.plain_slabs.specs.MetNumbers.{AreBelow}
use Rattle.plain_slabs.proofs.numbers.least_of_classes.Goals as goal

-- the table as the call sees it
as_many : (seen table : List ℕ) (n : ℕ) → seen ≡ table → table ≡ range_with_len 0 n → length seen ≡ n
as_many seen table n e f = ap length (e ∙ f) ∙ length-range_with_len 0 n

pub settle-requires-clause-below : goal.settle-requires-clause-below
settle-requires-clause-below c = subst (λ n. AreBelow n c.args.links.now) (sym (as_many _ c.in_ok-table.table.items c.args.count c.deref_mut.ensures.value c.in_ok-table.ensures)) c.requires

pub settle-requires-clause-alone : goal.settle-requires-clause-alone
settle-requires-clause-alone c =
    let e = as_many _ c.in_ok-table.table.items c.args.count c.deref_mut.ensures.value c.in_ok-table.ensures in
    c.deref_mut.ensures.value ∙ c.in_ok-table.ensures ∙ ap (range_with_len 0) (sym e)

-- the vector after the call is what the call left
whole : (new seen old : List ℕ) (len n : ℕ) → length new ≡ length seen → seen ≡ old → len ≡ length old → take len (new ++ drop (length new) old) ≡ new
whole new seen old len n e f g = take_at new (drop (length new) old) len (e ∙ ap length f ∙ sym g)

pub returns-clause-length : goal.returns-clause-length
returns-clause-length c =
    let kept = c.settle.auto.table in
    ap length (whole c.settle.new.table _ c.in_ok-table.table.items c.in_ok-table.table.len c.args.count kept c.deref_mut.ensures.value c.in_ok-table.table.ok.0)
    ∙ kept ∙ as_many _ c.in_ok-table.table.items c.args.count c.deref_mut.ensures.value c.in_ok-table.ensures

pub returns-clause-least : goal.returns-clause-least
returns-clause-least c = λ k h.
    let kept = c.settle.auto.table in
    let n = as_many _ c.in_ok-table.table.items c.args.count c.deref_mut.ensures.value c.in_ok-table.ensures in
    ap (λ t. get_or t k 0) (whole c.settle.new.table _ c.in_ok-table.table.items c.in_ok-table.table.len c.args.count kept c.deref_mut.ensures.value c.in_ok-table.table.ok.0)
    ∙ c.settle.ensures k (subst (λ m. k < m) (sym n) h)
