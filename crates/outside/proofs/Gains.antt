-- Writes one after the other.
use Rattle.std.proofs.Common.{◌≡◌, ℕ, List, [], ◌++◌, take, drop, Option, Some, None, ◌∷◌, sym, ap, ◌∙◌, append_assoc}
use Rattle.std.proofs.lemmas.List.{take-append-drop}
use Rattle.outside.specs.Bytes.{Gains}

pub Gains-more : (a b c : Option (List ℕ)) (xs ys : List ℕ) → Gains a b xs → Gains b c ys → Gains a c (xs ++ ys)
Gains-more None None c xs ys p q = q
Gains-more None (Some b) c xs ys p q = absurd cc
Gains-more (Some a) None c xs ys p q = absurd p
Gains-more (Some a) (Some b) None xs ys p q = absurd q
Gains-more (Some a) (Some b) (Some c) xs ys p q = q ∙ ap (λ (zs : List ℕ). zs ++ ys) p ∙ append_assoc a xs ys

-- the next n of the rest are done too
pub one_part_more : (bytes done rest left : List ℕ) (n : ℕ) → bytes ≡ done ++ rest → left ≡ drop n rest → bytes ≡ (done ++ take n rest) ++ left
one_part_more bytes done rest left n e f = e ∙ ap (λ (xs : List ℕ). done ++ xs) (sym (take-append-drop n rest)) ∙ sym (append_assoc done (take n rest) (drop n rest)) ∙ ap (λ (xs : List ℕ). (done ++ take n rest) ++ xs) (sym f)

-- of no bytes none are left
pub none_left : (bytes done rest : List ℕ) → bytes ≡ done ++ rest → bytes ≡ [] → rest ≡ []
none_left [] [] rest e none = sym e
none_left [] (x ∷ done) rest e none = cc
none_left (x ∷ bytes) done rest e none = cc
