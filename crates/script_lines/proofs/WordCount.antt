-- A line has no more words than bytes.
use Rattle.std.proofs.Common.{ℕ, suc, ◌≤◌, Bool, true, false, cond, eqb, List, [], ◌∷◌, length, arith}
use Rattle.std.specs.Prelude.{filter}
use Rattle.std.specs.List.{slice_split, onto_first}
use Rattle.script_lines.specs.Words.{is_word, words}

-- a byte in front of the first part makes at most one word more
length-onto_first : (b : ℕ) (parts : List (List ℕ)) → length (filter is_word (onto_first b parts)) ≤ suc (length (filter is_word parts))
length-onto_first b [] = omega arith
length-onto_first b ([] ∷ parts) = omega arith
length-onto_first b ((x ∷ xs) ∷ parts) = omega arith

one_byte : (space : Bool) (b n : ℕ) (parts : List (List ℕ)) → length (filter is_word parts) ≤ n → length (filter is_word (cond space ([] ∷ parts) (onto_first b parts))) ≤ suc n
one_byte true b n parts le = omega arith
one_byte false b n parts le = omega (arith, length-onto_first b parts)

pub length-words : (line : List ℕ) → length (words line) ≤ length line
length-words [] = omega arith
length-words (b ∷ more) = one_byte (eqb b 32) b (length more) (slice_split (λ b. eqb b 32) more) (length-words more)
