use Rattle.std.proofs.lemmas.Nat.Gcd.{IsGcd-from_zero, IsGcd-from_mod}
use Rattle.integers.proofs.Gcd.{gcd-is, positive_gcd, gcd-le_first, gcd-le_second}
use Rattle.integers.proofs.divisor.greatest_common_divisor.Goals as goal

pub steps-preserved : goal.steps-preserved
steps-preserved c = λ g h. c.steps.invariant g (IsGcd-from_mod _ _ g h)

pub returns : goal.returns
returns c =
    let h = c.steps.invariant _ (IsGcd-from_zero _ _ c.steps-test.false) in
    record {
      value = gcd-is _ _ _ h;
      greatest = h;
      positive = positive_gcd _ _ _ h;
      within_first = gcd-le_first _ _ _ h;
      within_second = gcd-le_second _ _ _ h;
    }
