-- A line that is too long is refused however much of it is kept.
use Rattle.std.proofs.Common.{◌≡◌, ℕ, ◌+◌, ◌<◌, ◌≤◌, Bool, true, false, ltb, List, length, take, refl, ap, arith}
use Rattle.std.proofs.lemmas.Bool.{lt-ltb, ltb-true, ltb-false}
use Rattle.std.proofs.lemmas.List.{length-take, take_all}
use Rattle.script_lines.specs.declared.command.TheConstants.{MAX_LINE}
use Rattle.script_lines.specs.Command.{command_of}

command_of-take : (xs : List ℕ) (long : Bool) → ltb MAX_LINE (length xs) ≡ long → command_of (take (MAX_LINE + 1) xs) ≡ command_of xs
command_of-take xs true e =
    let big : MAX_LINE < length xs = ltb-true MAX_LINE (length xs) e in
    let kept : ltb MAX_LINE (length (take (MAX_LINE + 1) xs)) ≡ true = lt-ltb MAX_LINE (length (take (MAX_LINE + 1) xs)) (omega (arith, length-take (MAX_LINE + 1) xs)) in
    rw (e, kept) refl
command_of-take xs false e =
    let small : length xs ≤ MAX_LINE = ltb-false MAX_LINE (length xs) e in
    ap command_of (take_all (MAX_LINE + 1) xs (omega arith))

-- a line and its first bytes, one more than a line may have, are the same command
pub cut_command : (xs : List ℕ) → command_of (take (MAX_LINE + 1) xs) ≡ command_of xs
cut_command xs = command_of-take xs (ltb MAX_LINE (length xs)) refl
