use Rattle.std.proofs.Common.{rules, ◌≡◌, ◌∙◌, is_lt, unsigned_abs}
use Rattle.std.specs.Prelude.{pos, neg_ℤ}
use Rattle.integers.specs.Ratio.{ratio_cmp}
use Rattle.region_rings.proofs.Nests.{above_is}
use Rattle.region_rings.proofs.nesting.is_above.Goals as goal

pub returns : goal.returns
returns c =
    let x = c.args.left.0 in
    let y = c.args.left.1 in
    let z = c.args.right.0 in
    let w = c.args.right.1 in
    let is : c.is_lt.result ≡ is_lt (ratio_cmp y (pos (unsigned_abs x)) (neg_ℤ w) (pos (unsigned_abs z))) = search rules in
    is ∙ above_is x y z w c.requires.left c.requires.right
