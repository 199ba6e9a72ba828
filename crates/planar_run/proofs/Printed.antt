-- Bytes that are put one after the other.
use Rattle.std.proofs.Common.{◌≡◌, ℕ, ◌+◌, ◌≤◌, List, [], ◌∷◌, ◌++◌, length, ap, ◌∙◌, append_assoc, arith}
use Rattle.std.specs.Prelude.{ℤ}
use Rattle.std.specs.Fmt.{signed_decimal}
use Rattle.std.proofs.lemmas.List.{append-nil, length-append}

pub eight : (a b c d e f g h : List ℕ) → (((((((a ++ b) ++ c) ++ d) ++ e) ++ f) ++ g) ++ h) ≡ (a ++ (b ++ (c ++ (d ++ (e ++ (f ++ (g ++ []))))))) ++ h
eight a b c d e f g h = simp (append_assoc, append-nil)

spaced_three : (start a b c : List ℕ) → ((((start ++ a) ++ 32 ∷ []) ++ b) ++ 32 ∷ []) ++ c ≡ start ++ (a ++ 32 ∷ b ++ 32 ∷ c)
spaced_three start a b c = simp append_assoc

-- three numbers with a space between them
pub three_put : (start one two three four five : List ℕ) (a b c x y w : ℤ) → a ≡ x → b ≡ y → c ≡ w → one ≡ start ++ signed_decimal a → two ≡ one ++ 32 ∷ [] → three ≡ two ++ signed_decimal b → four ≡ three ++ 32 ∷ [] → five ≡ four ++ signed_decimal c →
    five ≡ start ++ (signed_decimal x ++ 32 ∷ signed_decimal y ++ 32 ∷ signed_decimal w)
three_put start one two three four five a b c x y w p q r e f g h k =
    let last : four ≡ (((start ++ signed_decimal a) ++ 32 ∷ []) ++ signed_decimal b) ++ 32 ∷ [] = h ∙ ap (λ xs. xs ++ 32 ∷ []) (g ∙ ap (λ xs. xs ++ signed_decimal b) (f ∙ ap (λ xs. xs ++ 32 ∷ []) e)) in
    k ∙ ap (λ xs. xs ++ signed_decimal c) last ∙ spaced_three start (signed_decimal a) (signed_decimal b) (signed_decimal c) ∙ λ i. start ++ (signed_decimal (p i) ++ 32 ∷ signed_decimal (q i) ++ 32 ∷ signed_decimal (r i))

-- each number has at most forty digits
pub three_short : (start one two three four five : List ℕ) → length one ≤ length start + 40 → two ≡ one ++ 32 ∷ [] → length three ≤ length two + 40 → four ≡ three ++ 32 ∷ [] → length five ≤ length four + 40 → length five ≤ length start + 122
three_short start one two three four five a e b f c = let d = ap length e ∙ length-append one (32 ∷ []) in let g = ap length f ∙ length-append three (32 ∷ []) in omega arith
