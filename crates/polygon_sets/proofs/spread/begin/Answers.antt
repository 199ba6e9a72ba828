use Rattle.std.proofs.Common.{arith, refl, ap, ◌∙◌, length, rules}
use Rattle.std.specs.Prelude.{None}
use Rattle.std.proofs.lemmas.List.{length-set}
use Rattle.polygon_sets.proofs.Spreading.{first_reached}
use Rattle.polygon_sets.proofs.spread.begin.Goals as goal

pub returns : goal.returns
returns c =
    let long = c.in_ok-resize.ensures.len in
    let old = c.resize.new.self.items in (
      ap length c.put_set.ensures ∙ length-set old 0 _ ∙ search rules,
      λ crossings. first_reached crossings c.args.faces old _ (search rules)
          (λ f h. c.in_ok-resize.ensures.by_index.1 f None refl (let e = c.new-sets.ensures.len in omega arith) (omega arith))
          c.requires c.put_set.ensures (search rules),
    )
