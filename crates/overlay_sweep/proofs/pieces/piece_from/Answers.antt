use Rattle.std.proofs.Common.{refl, sym, subst, length, ◌∙◌}
use Rattle.std.proofs.lemmas.Bool.{ltb-true}
use Rattle.plane_graphs.specs.Ascending.{Member}
use Rattle.plane_graphs.proofs.Sorting.{member_at}
use Rattle.sweep_graphs.specs.declared.trace.Stretch.{Stretch}
use Rattle.overlay_sweep.proofs.CurveRows.{along_out}
use Rattle.overlay_sweep.proofs.pieces.piece_from.Goals as goal

pub returns-in-Some : goal.returns-in-Some
returns-in-Some c =
    let xs = c.args.stretches.now in
    let s = c.in-Some.stretch.now in (
      s,
      subst (λ (x : Stretch). Member x xs) (sym c.in-Some.ensures.lookup.1) (member_at xs c.args.place s (ltb-true c.args.place (length xs) (sym c.in-Some.ensures.lookup.0))),
      along_out c.args.edge.now s (sym c.is_along.ensures ∙ c.if-is_along.true),
      refl,
    )
