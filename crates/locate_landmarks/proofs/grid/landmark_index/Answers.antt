use Rattle.std.proofs.Common.{◌≡◌, ℕ, ℤ, ◌+◌, ◌*◌, ◌/◌, ◌%◌, to_z, of_z, arith, ◌∙◌, subst}
use Rattle.std.specs.Int.{w128}
use Rattle.std.proofs.lemmas.Int.{to_z-of_z}
use Rattle.locate_landmarks.specs.Grid.{grid_number, IsNearest}
use Rattle.locate_landmarks.proofs.grid.landmark_index.Goals as goal

pub returns-clause-nearest : goal.returns-clause-nearest
returns-clause-nearest c =
    let q = c.args.point.now in
    let k = c.nearest-column.result in
    let j = c.nearest-row.result in
    let column : k ≡ (k * 7 + j) / 7 = omega (arith, c.nearest-row.ensures.within) in
    let row : j ≡ (k * 7 + j) % 7 = omega (arith, c.nearest-row.ensures.within) in
    let x : to_z w128 (of_z w128 c.x.result) ≡ q.x = to_z-of_z w128 c.x.result (omega (arith, c.x.type_inv)) ∙ c.x.ensures in
    let y : to_z w128 (of_z w128 c.y.result) ≡ q.y = to_z-of_z w128 c.y.result (omega (arith, c.y.type_inv)) ∙ c.y.ensures in
    let w : to_z w128 (of_z w128 c.w.result) ≡ q.w = to_z-of_z w128 c.w.result (omega (arith, c.w.type_inv)) ∙ c.w.ensures.value in
    let u : to_z w128 (of_z w128 c.w-2.result) ≡ q.w = to_z-of_z w128 c.w-2.result (omega (arith, c.w-2.type_inv)) ∙ c.w-2.ensures.value in
    record {
      abscissa = subst (λ (n : ℕ). IsNearest q.x q.w (grid_number n)) column (subst (λ (z : ℤ). IsNearest q.x z (grid_number k)) w (subst (λ (z : ℤ). IsNearest z (to_z w128 (of_z w128 c.w.result)) (grid_number k)) x c.nearest-column.ensures.nearest));
      ordinate = subst (λ (n : ℕ). IsNearest q.y q.w (grid_number n)) row (subst (λ (z : ℤ). IsNearest q.y z (grid_number j)) u (subst (λ (z : ℤ). IsNearest z (to_z w128 (of_z w128 c.w-2.result)) (grid_number j)) y c.nearest-row.ensures.nearest));
    }
