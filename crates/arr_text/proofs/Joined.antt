-- Texts that are put one after the other.
use Rattle.std.proofs.Common.{◌≡◌, ℕ, ◌+◌, ◌<◌, List, [], ◌∷◌, ◌++◌, length, get_or, take, replicate, Result, Ok, Err, ap, sym, ◌∙◌, append_assoc}
use Rattle.std.specs.Prelude.{OnOk, flat_map}
use Rattle.std.proofs.lemmas.List.{append-nil, length-replicate, take_more}
use Rattle.std.proofs.lemmas.Grind.{flat_map-append}
use Rattle.std.specs.Fmt.{signed_decimal}
use Rattle.exact_plane.specs.Point.{Point}
use Rattle.slab_laws.specs.Text.{word, triple}
use Rattle.plane_graphs.proofs.Lists.{then_appended}

pub four_appended : (w x y z : List ℕ) → ((w ++ x) ++ y) ++ z ≡ w ++ (x ++ (y ++ z))
four_appended w x y z = simp append_assoc

-- and of the last one, which may find no memory
pub joined : {T E : Type 0} (r : Result T E) (x y z a b c : List ℕ) → y ≡ x ++ a → OnOk r (z ≡ y ++ b) → a ++ b ≡ c → OnOk r (z ≡ x ++ c)
joined (Ok t) x y z a b c e f g = then_appended x y z a b e f ∙ ap (λ (s : List ℕ). x ++ s) g
joined (Err t) x y z a b c e f g = f

pub said : {T E : Type 0} (r : Result T E) (x z a b : List ℕ) → OnOk r (z ≡ x ++ a) → a ≡ b → OnOk r (z ≡ x ++ b)
said (Ok t) x z a b f g = f ∙ ap (λ (s : List ℕ). x ++ s) g
said (Err t) x z a b f g = f

-- the three numbers of a point
pub triple_put : {T E : Type 0} (r : Result T E) (p : Point) (s a b z : List ℕ) → a ≡ s ++ word (signed_decimal p.x) → b ≡ a ++ word (signed_decimal p.y) → OnOk r (z ≡ b ++ word (signed_decimal p.w)) → OnOk r (z ≡ s ++ triple p)
unfolding triple word
triple_put r p s a b z e f g =
    let x : List ℕ = word (signed_decimal p.x) in
    let y : List ℕ = word (signed_decimal p.y) in
    let w : List ℕ = word (signed_decimal p.w) in
    joined r s b z (x ++ y) w (x ++ (y ++ w)) (then_appended s a b x y e f) g (append_assoc x y w)

-- one more word
pub one_more_word : {X : Type 0} (say : X → List ℕ) (says : List X → List (List ℕ)) (adds : (ys : List X) (y : X) → says (ys ++ (y ∷ [])) ≡ says ys ++ (say y ∷ [])) (xs : List X) (i : ℕ) (d : X) (out before next : List ℕ) → i < length xs → before ≡ out ++ flat_map word (says (take i xs)) → next ≡ before ++ word (say (get_or xs i d)) → next ≡ out ++ flat_map word (says (take (i + 1) xs))
one_more_word say says adds xs i d out before next l h n =
    let x = get_or xs i d in
    let put : flat_map word (says (take (i + 1) xs)) ≡ flat_map word (says (take i xs)) ++ word (say x) =
    ap (λ ys. flat_map word (says ys)) (take_more xs i d l) ∙ ap (flat_map word) (adds (take i xs) x) ∙ flat_map-append word (says (take i xs)) (say x ∷ []) ∙ ap (λ t. flat_map word (says (take i xs)) ++ t) (append-nil (word (say x))) in
    n
    ∙ ap (λ (t : List ℕ). t ++ word (say x)) h
    ∙ append_assoc out (flat_map word (says (take i xs))) (word (say x))
    ∙ ap (λ (t : List ℕ). out ++ t) (sym put)

-- there is room for each
pub as_many_rooms : {X : Type 0} (bodies : List (List ℕ)) (n : ℕ) (xs : List X) → bodies ≡ replicate n [] → n ≡ length xs → length bodies ≡ length xs
as_many_rooms bodies n xs e l = ap (λ bs. length bs) e ∙ length-replicate n [] ∙ l
