-- What is left where another entry stands for an entry.
use Rattle.std.proofs.Common.{◌≡◌, Bool, true, false, List, [], ◌∷◌, ◌++◌, refl}
use Rattle.std.specs.Prelude.{Contains}
use Rattle.std.specs.List.Sorted.{IsPermutation}
use Rattle.std.proofs.lemmas.List.Sorted.{IsPermutation-append_left, IsPermutation-cons, IsPermutation-middle, IsPermutation-sym, IsPermutation-to_front, IsPermutation-trans}
use Rattle.box_tree.specs.declared.entry.Entry.{Entry}
use Rattle.box_tree.specs.Entries.{IsRemoved, IsReplaced}
use Rattle.box_tree.proofs.Listed.{removed_beside}
use Rattle.box_tree.proofs.Moved.{into_second, swapped}
use Rattle.box_tree.proofs.Taken.{not_removed}

-- another one stands in the second list, or in the first
pub within_second : (o n : Entry) (l h h' : List Entry) → IsPermutation (n ∷ h) (o ∷ h') → IsPermutation (n ∷ (l ++ h)) (o ∷ (l ++ h'))
within_second o n l h h' p = IsPermutation-trans (n ∷ (l ++ h)) (l ++ o ∷ h') (o ∷ (l ++ h')) (into_second n l h (o ∷ h') p) (IsPermutation-middle l o h')

within_first : (o n : Entry) (l l' h : List Entry) → IsPermutation (n ∷ l) (o ∷ l') → IsPermutation (n ∷ (l ++ h)) (o ∷ (l' ++ h))
within_first o n l l' h p = IsPermutation-append_left h (n ∷ l) (o ∷ l') p

-- at the root, and at either side of it
pub replaced_top : (es : List Entry) (top o n : Entry) (rest : List Entry) → es ≡ top ∷ rest → top ≡ o → IsPermutation (n ∷ es) (o ∷ n ∷ rest)
replaced_top es top o n rest e s = rw (e, s) (IsPermutation-append_left rest (n ∷ o ∷ []) (o ∷ n ∷ []) (swapped n o))

pub replaced_high : (es : List Entry) (o n top : Entry) (l h h' : List Entry) (r : Bool) → es ≡ top ∷ (l ++ h) → IsReplaced o n h h' r → r ≡ true → IsPermutation (n ∷ es) (o ∷ top ∷ (l ++ h'))
replaced_high es o n top l h h' r e p t = rw e (within_second o n (top ∷ l) h h' (rw t at p))

pub replaced_low : (es : List Entry) (o n top : Entry) (l l' h : List Entry) (r : Bool) → es ≡ top ∷ (l ++ h) → IsReplaced o n l l' r → r ≡ true → IsPermutation (n ∷ es) (o ∷ top ∷ (l' ++ h))
replaced_low es o n top l l' h r e p t = rw e (within_second o n (top ∷ []) (l ++ h) (l' ++ h) (within_first o n l l' h (rw t at p)))

-- the other side has it, once the first has not
pub replaced_second_low : (es : List Entry) (o n top : Entry) (l l' h h' : List Entry) (r s : Bool) → es ≡ top ∷ (l ++ h) → IsReplaced o n h h' r → r ≡ false → IsReplaced o n l l' s → s ≡ true → IsPermutation (n ∷ es) (o ∷ top ∷ (l' ++ h'))
replaced_second_low es o n top l l' h h' r s e p f q y =
    let same = rw f at p in
    rw same.0 (replaced_low es o n top l l' h s e q y)

pub replaced_second_high : (es : List Entry) (o n top : Entry) (l l' h h' : List Entry) (r s : Bool) → es ≡ top ∷ (l ++ h) → IsReplaced o n l l' r → r ≡ false → IsReplaced o n h h' s → s ≡ true → IsPermutation (n ∷ es) (o ∷ top ∷ (l' ++ h'))
replaced_second_high es o n top l l' h h' r s e p f q y =
    let same = rw f at p in
    rw same.0 (replaced_high es o n top l h h' s e q y)

-- where none stands for it, none was taken out either
no_other : (o n : Entry) (before now : List Entry) (r : Bool) → IsReplaced o n before now r → r ≡ false → IsRemoved o before now false
no_other o n before now true p f = absurd (cc)
no_other o n before now false p f = p

pub not_replaced : (es : List Entry) (o n top : Entry) (l l' h h' : List Entry) (r s : Bool) → es ≡ top ∷ (l ++ h) → (top ≡ o → ⊥) → IsReplaced o n l l' r → r ≡ false → IsReplaced o n h h' s → s ≡ false → (top ∷ (l' ++ h') ≡ es) × (Contains es o → ⊥)
not_replaced es o n top l l' h h' r s e other p f q g = not_removed es o top l l' h h' false false e other (no_other o n l l' r p f) refl (no_other o n h h' s q g) refl

-- in the tree, or in the list beside it
pub replaced_in_root : (es : List Entry) (o n : Entry) (d r r' : List Entry) (b : Bool) → es ≡ d ++ r → IsReplaced o n r r' b → b ≡ true → IsPermutation (n ∷ es) (o ∷ (d ++ r'))
replaced_in_root es o n d r r' b e p t = rw e (within_second o n d r r' (rw t at p))

put_last : (o n : Entry) (d d' : List Entry) → IsPermutation d (o ∷ d') → IsPermutation (n ∷ d) (o ∷ (d' ++ n ∷ []))
put_last o n d d' p =
    IsPermutation-trans (n ∷ d) (n ∷ o ∷ d') (o ∷ (d' ++ n ∷ [])) (IsPermutation-cons n d (o ∷ d') p)
    (IsPermutation-trans (n ∷ o ∷ d') (o ∷ n ∷ d') (o ∷ (d' ++ n ∷ [])) (IsPermutation-append_left d' (n ∷ o ∷ []) (o ∷ n ∷ []) (swapped n o))
    (IsPermutation-cons o (n ∷ d') (d' ++ n ∷ []) (IsPermutation-sym (d' ++ n ∷ []) (n ∷ d') (IsPermutation-to_front d' n))))

pub replaced_beside : (es : List Entry) (o n : Entry) (d d' d'' r r' : List Entry) (b s : Bool) → es ≡ d ++ r → IsReplaced o n r r' b → b ≡ false → IsRemoved o d d' s → s ≡ true → d'' ≡ d' ++ n ∷ [] → IsPermutation (n ∷ es) (o ∷ (d'' ++ r'))
replaced_beside es o n d d' d'' r r' b s e p f q t m =
    let same = rw f at p in
    rw (e, same.0, m) (within_first o n d (d' ++ n ∷ []) r (put_last o n d d' (rw t at q)))

pub replaced_nowhere : (es : List Entry) (o n : Entry) (d d' r r' : List Entry) (b s : Bool) → es ≡ d ++ r → IsReplaced o n r r' b → b ≡ false → IsRemoved o d d' s → s ≡ false → IsRemoved o es (d' ++ r') false
replaced_nowhere es o n d d' r r' b s e p f q g = removed_beside es o d d' r r' false false e (no_other o n r r' b p f) refl (rw g at q)
