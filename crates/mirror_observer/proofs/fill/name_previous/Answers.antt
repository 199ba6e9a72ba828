use Rattle.std.proofs.Common.{◌∙◌, sym, ap, subst, arith}
use Rattle.mirror_observer.specs.Tables.{rows, dart_of}
use Rattle.mirror_observer.specs.Standing.{IsOneToOne}
use Rattle.mirror_observer.proofs.Rewritten.{rows_preceded}
use Rattle.mirror_observer.proofs.Filling.{named_more, named_all}
use Rattle.mirror_observer.proofs.fill.name_previous.Goals as goal

pub loop-row-preserved : goal.loop-row-preserved
loop-row-preserved c =
    let ds = c.loop-row.darts.entries in
    let one : IsOneToOne (rows dart_of ds) = subst (λ rs. IsOneToOne rs) (c.requires.rows ∙ sym c.loop-row.invariant.rows) c.requires.once in
    record {
      rows = ap (rows dart_of) c.precede.ensures ∙ rows_preceded c.next_of-next.result c.row-item.result.name ds ∙ c.loop-row.invariant.rows;
      named = named_more c.args.list.now ds one c.loop-row.row-index c.row-item.result (omega arith) c.row-item.is c.loop-row.invariant.named c.precede.new.darts.entries c.next_of-next.result c.next_of-next.ensures c.precede.ensures;
    }

pub returns-clause-back : goal.returns-clause-back
returns-clause-back c = named_all c.args.list.now c.loop-row.darts.entries c.loop-row.row-index (omega arith) c.loop-row.invariant.named
