use Rattle.std.proofs.Common.{◌≡◌, ◌≤◌, ◌*ℤ◌, ℤ, to_z, of_z, arith, sym, ap, ◌∙◌, subst}
use Rattle.std.specs.Int.{w64, w128}
use Rattle.std.specs.Prelude.{unsigned_abs, IsOk}
use Rattle.std.proofs.lemmas.Int.{ints, to_z-of_z, fits_signed_from_abs}
use Rattle.exact_plane.specs.declared.bounds.TheConstants.{MAX_COORDINATE}
use Rattle.exact_plane.specs.Point.{reduced}
use Rattle.locate_landmarks.specs.Grid.{grid_number}
use Rattle.locate_landmarks.proofs.Corners.{in_plane, point_ok, point_made}
use Rattle.locate_landmarks.proofs.course.corner_of.Goals as goal

pub unwrap-requires : goal.unwrap-requires
unwrap-requires c =
    let n = c.grid_number.result in
    let small : unsigned_abs n ≤ MAX_COORDINATE = omega (arith, ints, c.grid_number.ensures, c.requires) in
    let number : to_z w64 (of_z w64 n) ≡ n = to_z-of_z w64 n (fits_signed_from_abs w64 n (omega (arith, small))) in
    let x = to_z-of_z w128 c.x.result (omega (arith, c.x.type_inv)) ∙ c.x.ensures in
    let y =
    to_z-of_z w128 c.numerator-y.result (omega (arith, c.numerator-y.type_inv)) ∙ c.numerator-y.ensures ∙ ap (λ z. z *ℤ to_z w128 (of_z w128 c.w-w.result)) number in
    let w = to_z-of_z w128 c.w-w.result (omega (arith, c.w-w.type_inv)) ∙ c.w-w.ensures.value in
    subst IsOk (sym c.new.ensures.value) (point_ok _ _ _ (in_plane c.args.point.now c.laws.ensures.range n small _ _ _ x w y))

pub returns : goal.returns
returns c =
    let n = c.grid_number.result in
    let q = c.args.point.now in
    let small : unsigned_abs n ≤ MAX_COORDINATE = omega (arith, ints, c.grid_number.ensures, c.requires) in
    let number : to_z w64 (of_z w64 n) ≡ n = to_z-of_z w64 n (fits_signed_from_abs w64 n (omega (arith, small))) in
    let wide = λ (z : ℤ). to_z w128 (of_z w128 z) in
    let x : wide c.x.result ≡ q.x = to_z-of_z w128 c.x.result (omega (arith, c.x.type_inv)) ∙ c.x.ensures in
    let w : wide c.w-w.result ≡ q.w = to_z-of_z w128 c.w-w.result (omega (arith, c.w-w.type_inv)) ∙ c.w-w.ensures.value in
    let y : wide c.numerator-y.result ≡ grid_number c.args.row *ℤ q.w =
    to_z-of_z w128 c.numerator-y.result (omega (arith, c.numerator-y.type_inv)) ∙ c.numerator-y.ensures ∙ (λ i. (number ∙ c.grid_number.ensures) i *ℤ w i) in
    point_made (wide c.x.result) (wide c.numerator-y.result) (wide c.w-w.result) c.unwrap.result (sym c.new.ensures.value ∙ c.unwrap.ensures) ∙ (λ i. reduced (x i) (y i) (w i))
