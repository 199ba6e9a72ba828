use Rattle.std.proofs.Common.{◌∙◌, ap}
use Rattle.mirror_observer.specs.Tables.{rows, numbers_in}
use Rattle.mirror_observer.proofs.Entries.{inserted, rows_put}
use Rattle.mirror_observer.proofs.curves.lay.Goals as goal

pub returns : goal.returns
returns c =
    let es = c.args.curves.now.entries in
    ap (rows numbers_in) (c.in_ok-insert.ensures.entries ∙ inserted c.args.d.0 c.args.list es) ∙ rows_put numbers_in c.args.d.0 c.args.list es
