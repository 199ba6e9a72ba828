use Rattle.std.proofs.Common.{◌∙◌, sym, ap, nat_cmp}
use Rattle.std.specs.BTreeMap.Range.{entries_between}
use Rattle.std.specs.declared.ops.Bound.TheVariants.{Unbounded}
use Rattle.mirror_observer.proofs.Beyond.{name_found, name_none}
use Rattle.mirror_observer.proofs.reading.name_beyond.Goals as goal

pub returns-in-Some : goal.returns-in-Some
returns-in-Some g c =
    let es = c.args.entries.now.entries in
    name_found c.args.name es _ _ (ap (λ b. entries_between nat_cmp b Unbounded es) (sym c.beyond-start.ensures) ∙ sym (c.range-rest.ensures.between tt) ∙ c.in-Some.ensures.steps)

pub returns-in-None : goal.returns-in-None
returns-in-None g c =
    let es = c.args.entries.now.entries in
    name_none c.args.name es (ap (λ b. entries_between nat_cmp b Unbounded es) (sym c.beyond-start.ensures) ∙ sym (c.range-rest.ensures.between tt) ∙ c.in-None.ensures.steps.0)
