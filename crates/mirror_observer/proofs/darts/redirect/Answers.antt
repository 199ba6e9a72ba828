use Rattle.std.proofs.Common.{◌∙◌, sym, ap, ◌==◌}
use Rattle.std.proofs.lemmas.Bool.{false≢true}
use Rattle.arr_notes.proofs.Names.{same_name}
use Rattle.integers.proofs.Tests.{same_number}
use Rattle.mirror_observer.proofs.Redirected.{redirected_one, redirected_none}
use Rattle.mirror_observer.proofs.darts.redirect.Goals as goal

pub returns-then-eq : goal.returns-then-eq
returns-then-eq c =
    let ds = c.args.darts.now.entries in
    let b = c.previous_of-before.result in
    c.follow.ensures ∙ redirected_one ds c.requires.named c.args.x c.args.y b c.previous_of-before.ensures c.requires.led (sym c.next_of.ensures ∙ same_name c.next_of.result c.args.x c.eq.result c.eq.ensures c.if-eq.true)

pub returns-else-eq : goal.returns-else-eq
returns-else-eq c =
    let ds = c.args.darts.now.entries in
    let b = c.previous_of-before.result in
    redirected_none ds c.requires.named c.args.x c.args.y b c.previous_of-before.ensures c.requires.led
    (λ q. false≢true (sym c.if-eq.false ∙ c.eq.ensures ∙ ap (λ z. z.0 == c.args.x.0) (c.next_of.ensures ∙ q) ∙ same_number c.args.x.0))
