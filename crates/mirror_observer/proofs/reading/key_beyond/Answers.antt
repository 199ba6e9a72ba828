use Rattle.std.proofs.Common.{◌∙◌, sym, ap, filter, nat_cmp}
use Rattle.std.specs.BTreeMap.Range.{range_contains}
use Rattle.std.specs.declared.ops.Bound.TheVariants.{Unbounded}
use Rattle.mirror_observer.proofs.Beyond.{key_found, key_none}
use Rattle.mirror_observer.proofs.reading.key_beyond.Goals as goal

pub returns-in-Some : goal.returns-in-Some
returns-in-Some c =
    let ks = c.args.keys.now.keys in
    key_found c.args.name ks _ _ (ap (λ b. filter (range_contains nat_cmp b Unbounded) ks) (sym c.beyond-start.ensures) ∙ sym (c.range-rest.ensures.between tt) ∙ c.in-Some.ensures.steps)

pub returns-in-None : goal.returns-in-None
returns-in-None c =
    let ks = c.args.keys.now.keys in
    key_none c.args.name ks (ap (λ b. filter (range_contains nat_cmp b Unbounded) ks) (sym c.beyond-start.ensures) ∙ sym (c.range-rest.ensures.between tt) ∙ c.in-None.ensures.steps.0)
