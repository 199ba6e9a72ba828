use Rattle.std.proofs.Common.{◌≡◌, ◌≤◌, true, false, get_or, arith, sym, ap, subst, ◌∙◌}
use Rattle.std.specs.Prelude.{option_map}
use Rattle.std.specs.Char.{is_ascii_digit}
use Rattle.std.specs.Str.{all_ascii_digits}
use Rattle.std.specs.Str.Parse.{digits_value}
use Rattle.std.proofs.lemmas.List.{take_all}
use Rattle.script_lines.specs.Number.{limited_size}
use Rattle.script_lines.proofs.Digits.{broken, all_more, value_more, few_fit, few_kept}
use Rattle.script_lines.proofs.number.few_digits.Goals as goal

pub returns-then-not-is_ascii_digit : goal.returns-then-not-is_ascii_digit
returns-then-not-is_ascii_digit c =
    let other : is_ascii_digit (get_or c.args.digits.now c.loop-digit.digit-index 0) ≡ false = sym c.is_ascii_digit.ensures.value ∙ c.if-not-is_ascii_digit.true in
    sym (ap (option_map limited_size) (broken c.args.digits.now c.loop-digit.digit-index c.loop-digit-test.true other))

pub overflow_mul-number : goal.overflow_mul-number
overflow_mul-number c = let few = few_fit c.args.digits.now c.loop-digit.digit-index c.loop-digit-test.true c.requires c.loop-digit.invariant.0 in omega (arith, c.loop-digit.invariant.1)

pub overflow_add-number : goal.overflow_add-number
overflow_add-number c =
    let few = few_fit c.args.digits.now c.loop-digit.digit-index c.loop-digit-test.true c.requires c.loop-digit.invariant.0 in
    let within : (48 ≤ get_or c.args.digits.now c.loop-digit.digit-index 0) × (get_or c.args.digits.now c.loop-digit.digit-index 0 ≤ 57) = c.if-not-is_ascii_digit.ensures.cases in
    omega (arith, c.loop-digit.invariant.1)

pub loop-digit-preserved : goal.loop-digit-preserved
loop-digit-preserved c =
    let ds = c.args.digits.now in
    let i = c.loop-digit.digit-index in
    let digit : is_ascii_digit (get_or c.args.digits.now c.loop-digit.digit-index 0) ≡ true = sym c.is_ascii_digit.ensures.value ∙ c.if-not-is_ascii_digit.false in
    let within : (48 ≤ get_or c.args.digits.now c.loop-digit.digit-index 0) × (get_or c.args.digits.now c.loop-digit.digit-index 0 ≤ 57) = c.if-not-is_ascii_digit.ensures.cases in
    let more = value_more ds i c.loop-digit-test.true within.0 within.1 in
    (all_more ds i c.loop-digit-test.true c.loop-digit.invariant.0 digit, omega (arith, c.loop-digit.invariant.1))

pub returns : goal.returns
returns c =
    let ds = c.args.digits.now in
    let every = take_all c.loop-digit.digit-index ds c.loop-digit-test.false in
    few_kept ds c.from-2.result c.requires (subst (λ xs. all_ascii_digits xs ≡ true) every c.loop-digit.invariant.0)
    (c.from-2.ensures ∙ c.loop-digit.invariant.1 ∙ ap (digits_value 10) every)
