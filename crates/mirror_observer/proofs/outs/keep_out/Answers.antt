use Rattle.std.proofs.Common.{◌∙◌, sym, ap}
use Rattle.mirror_observer.specs.DartsOut.{put_out}
use Rattle.mirror_observer.proofs.Entries.{inserted}
use Rattle.mirror_observer.proofs.outs.keep_out.Goals as goal

pub returns-in_ok-insert : goal.returns-in_ok-insert
returns-in_ok-insert c =
    let os = c.args.outs.now.entries in
    c.in_ok-insert.ensures.entries ∙ inserted c.in-Some.entry.source.0 c.args.d os ∙ ap (λ o. put_out o c.args.d os) (sym c.in-Some.is ∙ c.entry_of.ensures)
