use Rattle.std.proofs.Common.{◌∙◌, sym, subst}
use Rattle.mirror_observer.specs.Standing.{IsOneToOne}
use Rattle.mirror_observer.proofs.tables.Tables.of.Goals as goal

pub name_previous-requires-clause-once : goal.name_previous-requires-clause-once
name_previous-requires-clause-once c =
    let s = c.requires.map.graph in
    subst (λ rs. IsOneToOne rs) (sym (c.in_ok-darts.ensures ∙ c.darts.ensures.darts)) (record { has = s.linked.has; once = s.linked.once })
