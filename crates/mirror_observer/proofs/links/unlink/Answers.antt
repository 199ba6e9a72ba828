use Rattle.std.proofs.Common.{◌∙◌, sym, ap, subst}
use Rattle.arr_notes.specs.NamedRows.{del, each, edit}
use Rattle.arr_notes.proofs.RowLaws.{ascend-each}
use Rattle.slab_laws.specs.Tables.{names, NamesAscend}
use Rattle.mirror_observer.specs.Tables.{with_previous, diverted}
use Rattle.mirror_observer.specs.Standing.{IsLedByOne}
use Rattle.mirror_observer.proofs.Rewritten.{led_first, led_second}
use Rattle.mirror_observer.proofs.links.unlink.Goals as goal

pub redirect-requires : goal.redirect-requires
redirect-requires c = record { named = c.requires.named; led = led_first c.args.darts.now.entries c.requires.named c.requires.back c.args.d }

pub redirect-requires-2 : goal.redirect-requires-2
redirect-requires-2 c =
    let ds = c.args.darts.now.entries in
    let e = c.redirect.ensures ∙ (λ i. each (λ n e. diverted c.args.d (c.next_of-after_m.ensures i) e) ds) in
    record {
      named = subst (λ ts. NamesAscend (names ts)) (sym e) (ascend-each _ ds c.requires.named);
      led = subst (λ ts. IsLedByOne ts c.args.m) (sym e) (led_second ds c.requires.named c.requires.back c.args.d c.args.m c.requires.apart);
    }

pub returns : goal.returns
returns c =
    let ds = c.args.darts.now.entries in
    let e1 = c.redirect.ensures ∙ (λ i. each (λ n e. diverted c.args.d (c.next_of-after_m.ensures i) e) ds) in
    let e2 = c.redirect-2.ensures ∙ (λ i. each (λ n e. diverted c.args.m (c.next_of-after_d.ensures i) e) (e1 i)) in
    let e3 = c.precede.ensures ∙ (λ i. edit (c.next_of-after_m.ensures i).0 (with_previous (c.previous_of-before_d.ensures i)) (e2 i)) in
    let e4 = c.precede-2.ensures ∙ (λ i. edit (c.next_of-after_d.ensures i).0 (with_previous (c.previous_of-before_m.ensures i)) (e3 i)) in
    c.forget-2.ensures ∙ ap (del c.args.m.0) (c.forget.ensures ∙ ap (del c.args.d.0) e4)
