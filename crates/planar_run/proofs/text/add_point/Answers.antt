use Rattle.std.proofs.Common.{rules, ◌∙◌}
use Rattle.std.specs.Int.{w128}
use Rattle.std.proofs.lemmas.Int.{to_z-of_z}
use Rattle.planar_run.proofs.Printed.{three_put, three_short}
use Rattle.planar_run.proofs.text.add_point.Goals as goal

pub returns : goal.returns
returns c =
    let x = to_z-of_z w128 c.x.result (search rules) ∙ c.x.ensures in
    let y = to_z-of_z w128 c.y.result (search rules) ∙ c.y.ensures in
    let w = to_z-of_z w128 c.w.result (search rules) ∙ c.w.ensures.value in record {
      text = three_put c.args.reply.now _ _ _ _ _ _ _ _ _ _ _ x y w c.add_number.ensures.put c.add_text.ensures c.add_number-2.ensures.put c.add_text-2.ensures c.add_number-3.ensures.put;
      short = three_short c.args.reply.now _ _ _ _ _ c.add_number.ensures.short c.add_text.ensures c.add_number-2.ensures.short c.add_text-2.ensures c.add_number-3.ensures.short;
    }
