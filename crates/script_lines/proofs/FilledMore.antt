-- One more item in an array whose rest is filled.
use Rattle.std.proofs.Common.{◌≡◌, ◌<◌, ◌+◌, ◌-◌, ℕ, suc, List, [], ◌∷◌, ◌++◌, length, sym, ap, ◌∙◌, arith}
use Rattle.std.specs.Prelude.{replicate, set, take}
use Rattle.std.proofs.lemmas.List.{append_assoc, length-append, length-set, length-take-le, take_more_set}
use Rattle.std.proofs.Math.Seq.{set-append_seam}
use Rattle.script_lines.specs.Filled.{filled, IsFilled}

pub IsFilled-more : {A : Type 0} (most : ℕ) (filler : A) (array : List A) (count : ℕ) (item : A) → count < most → IsFilled most filler array count → IsFilled most filler (set array count item) (count + 1)
IsFilled-more most filler array count item h f =
    let xs = take count array in
    let long : length xs ≡ count = length-take-le count array (omega (arith, f.few, f.room)) in
    let more : take (count + 1) (set array count item) ≡ xs ++ item ∷ [] = take_more_set array count item (omega (arith, f.room, h)) in
    let rest = replicate (most - (count + 1)) filler in
    let longer : length (xs ++ item ∷ []) ≡ count + 1 = length-append xs (item ∷ []) ∙ omega (arith, long) in
    let was : array ≡ xs ++ filler ∷ rest = f.rest ∙ ap (λ n. xs ++ replicate n filler) {x = most - length xs} {y = suc (most - (count + 1))} (omega (arith, long, h)) in
    record {
      few = omega (arith, h);
      room = length-set array count item ∙ f.room;
      rest =
          ap (λ ys. set ys count item) was
          ∙ ap (λ n. set (xs ++ filler ∷ rest) n item) (sym long)
          ∙ set-append_seam xs filler rest item
          ∙ sym (append_assoc xs (item ∷ []) rest)
          ∙ ap (λ n. (xs ++ item ∷ []) ++ replicate (most - n) filler) (sym longer)
          ∙ ap (filled most filler) (sym more);
    }
