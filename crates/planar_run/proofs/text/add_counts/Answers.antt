use Rattle.std.proofs.Common.{[], ◌∷◌, ◌++◌, ap, ◌∙◌}
use Rattle.std.specs.Prelude.{codes, decimal}
use Rattle.planar_run.proofs.Printed.{eight}
use Rattle.planar_run.proofs.text.add_counts.Goals as goal
use Rattle.plane_graphs.proofs.Lists.{then_appended}

pub returns : goal.returns
returns c =
    let n = c.args.counts.now in
    let start = c.args.reply.now in
    let one = then_appended start _ _ _ (32 ∷ decimal n.vertices) c.add_text.ensures c.add_spaced.ensures.text in
    let two = then_appended start _ _ _ (32 ∷ decimal n.edges) one c.add_spaced-2.ensures.text in
    let three = then_appended start _ _ _ (32 ∷ decimal n.faces) two c.add_spaced-3.ensures.text in
    let four = then_appended start _ _ _ (32 ∷ decimal n.inner) three c.add_spaced-4.ensures.text in
    let five = then_appended start _ _ _ (32 ∷ decimal n.isolated) four c.add_spaced-5.ensures.text in
    let six = then_appended start _ _ _ (32 ∷ decimal n.curves) five c.add_spaced-6.ensures.text in
    let seven = then_appended start _ _ _ (10 ∷ []) six c.add_text-2.ensures in
    seven ∙ ap (λ xs. start ++ xs) (eight (codes "counts") (32 ∷ decimal n.vertices) (32 ∷ decimal n.edges) (32 ∷ decimal n.faces) (32 ∷ decimal n.inner) (32 ∷ decimal n.isolated) (32 ∷ decimal n.curves) (10 ∷ []))
