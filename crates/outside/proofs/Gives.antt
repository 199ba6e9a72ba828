-- What a source of told bytes gives.
use Rattle.std.proofs.Common.{◌≡◌, ℕ, ◌+◌, ◌-◌, ◌<◌, ◌≤◌, List, ◌++◌, length, take, drop, replicate, min, Some, sym, ap, ◌∙◌, arith}
use Rattle.std.proofs.Math.Seq.{take-append_seam}
use Rattle.std.proofs.lemmas.Grind.{common_steps}
use Rattle.std.proofs.lemmas.List.{drop-replicate, length-replicate, length-take, nil_from_length, take-append-drop, take-replicate, take_rest}
use Rattle.outside.specs.Bytes.{GivesCount}

-- the first n of the rest stand first in the buffer
pub GivesCount-front : (rest buffer : List ℕ) (n : ℕ) → n ≤ length rest → n ≤ length buffer → (0 < length buffer → n ≡ 0 → length rest ≡ 0) → GivesCount (Some rest) (Some (drop n rest)) n (take n rest ++ drop n buffer)
GivesCount-front rest buffer n of_rest of_buffer all =
    let len : length (take n rest) ≡ n = omega (arith, length-take n rest) in
    let size : length (take n rest ++ drop n buffer) ≡ length buffer = grind (arith, common_steps) in
    let taken : take n (take n rest ++ drop n buffer) ≡ take n rest = ap (λ (k : ℕ). take k (take n rest ++ drop n buffer)) (sym len) ∙ take-append_seam (take n rest) (drop n buffer) in
    record {
      bound = omega arith;
      front = rw taken (sym (take-append-drop n rest));
      ended = λ some. (λ none. nil_from_length rest (all (omega arith) none), λ nil. omega (arith, ap length nil));
    }

-- a source at a place of its bytes, whose rest is a slice of them
pub GivesCount-after : (bytes source rest piece buffer : List ℕ) (at n chunk : ℕ) → source ≡ bytes → rest ≡ drop at bytes → 0 < chunk → n ≡ min (min (length (take (length source - at) (drop at source))) chunk) (length buffer) → piece ≡ take n (take (length source - at) (drop at source)) → GivesCount (Some rest) (Some (drop (at + n) bytes)) n (piece ++ drop n buffer)
GivesCount-after bytes source rest piece buffer at n chunk same is some count front =
    let whole : take (length source - at) (drop at source) ≡ rest = take_rest source at ∙ ap (drop at) same ∙ sym is in
    let counted : n ≡ min (min (length rest) chunk) (length buffer) = rw (← whole) count in
    let first : piece ≡ take n rest = rw (← whole) front in
    let left : drop (at + n) bytes ≡ drop n rest = grind (arith, common_steps) in
    rw (first, left) (GivesCount-front rest buffer n (omega arith) (omega arith) (λ room none. omega arith))

-- a source of one byte
pub GivesCount-replicate : (n count byte : ℕ) (piece buffer : List ℕ) → count ≡ min n (length buffer) → piece ≡ replicate count byte → GivesCount (Some (replicate n byte)) (Some (replicate (n - count) byte)) count (piece ++ drop count buffer)
GivesCount-replicate n count byte piece buffer is front =
    let len : length (replicate n byte) ≡ n = length-replicate n byte in
    let first : piece ≡ take count (replicate n byte) = front ∙ sym (take-replicate count n byte (omega arith)) in
    rw (first, ← drop-replicate count n byte) (GivesCount-front (replicate n byte) buffer count (omega arith) (omega arith) (λ room none. omega arith))
