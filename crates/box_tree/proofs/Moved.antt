-- Entries that move between a node and its sides.
use Rattle.std.proofs.Common.{◌≡◌, List, [], ◌∷◌, ◌++◌, Option, Some, None}
use Rattle.std.specs.List.Sorted.{IsPermutation}
use Rattle.std.proofs.lemmas.List.Sorted.{IsPermutation-append_comm, IsPermutation-append_left, IsPermutation-append_right, IsPermutation-middle, IsPermutation-sym, IsPermutation-trans, IsPermutation-cons}
use Rattle.box_tree.specs.declared.entry.Entry.{Entry}
use Rattle.box_tree.specs.Entries.{IsPlaced}

-- an entry taken out of the second list, out of both together
pub out_of_second : (e : Entry) (l h h' : List Entry) → IsPermutation h (e ∷ h') → IsPermutation (l ++ h) (e ∷ (l ++ h'))
out_of_second e l h h' p = IsPermutation-trans (l ++ h) (l ++ e ∷ h') (e ∷ (l ++ h')) (IsPermutation-append_right l h (e ∷ h') p) (IsPermutation-middle l e h')

pub out_of_first : (e : Entry) (l l' h : List Entry) → IsPermutation l (e ∷ l') → IsPermutation (l ++ h) (e ∷ (l' ++ h))
out_of_first e l l' h p = IsPermutation-append_left h l (e ∷ l') p

-- and out of a list that another entry leads
pub out_behind : (e top : Entry) (xs xs' : List Entry) → IsPermutation xs (e ∷ xs') → IsPermutation (top ∷ xs) (e ∷ top ∷ xs')
out_behind e top xs xs' p = out_of_second e (top ∷ []) xs xs' p

pub into_second : (e : Entry) (l h h' : List Entry) → IsPermutation (e ∷ h) h' → IsPermutation (e ∷ (l ++ h)) (l ++ h')
into_second e l h h' p = IsPermutation-sym (l ++ h') (e ∷ (l ++ h)) (out_of_second e l h' h (IsPermutation-sym (e ∷ h) h' p))

pub into_first : (e : Entry) (l l' h : List Entry) → IsPermutation (e ∷ l) l' → IsPermutation (e ∷ (l ++ h)) (l' ++ h)
into_first e l l' h p = IsPermutation-append_left h (e ∷ l) l' p

-- one of two entries stays on top, and the other goes into the rest
pub placed : (entry old top lower : Entry) (xs xs' : List Entry) → IsPermutation (entry ∷ old ∷ []) (top ∷ lower ∷ []) → IsPermutation (lower ∷ xs) xs' → IsPermutation (entry ∷ old ∷ xs) (top ∷ xs')
placed entry old top lower xs xs' both p =
    IsPermutation-trans (entry ∷ old ∷ xs) (top ∷ lower ∷ xs) (top ∷ xs') (IsPermutation-append_left xs (entry ∷ old ∷ []) (top ∷ lower ∷ []) both) (IsPermutation-cons top (lower ∷ xs) xs' p)

-- and one of the rest is left over
placed_but_one : (entry old top lower left : Entry) (xs xs' : List Entry) → IsPermutation (entry ∷ old ∷ []) (top ∷ lower ∷ []) → IsPermutation (lower ∷ xs) (left ∷ xs') → IsPermutation (entry ∷ old ∷ xs) (left ∷ top ∷ xs')
placed_but_one entry old top lower left xs xs' both p =
    IsPermutation-trans (entry ∷ old ∷ xs) (top ∷ left ∷ xs') (left ∷ top ∷ xs') (placed entry old top lower xs (left ∷ xs') both p) (IsPermutation-append_left xs' (top ∷ left ∷ []) (left ∷ top ∷ []) (IsPermutation-append_comm (top ∷ []) (left ∷ [])))

pub swapped : (a b : Entry) → IsPermutation (a ∷ b ∷ []) (b ∷ a ∷ [])
swapped a b = IsPermutation-append_comm (a ∷ []) (b ∷ [])

-- a newcomer to a node whose higher side, or lower side, takes the smaller one, or hands one back
pub placed_high : (es : List Entry) (entry old top lower : Entry) (l h h' : List Entry) (r : Option Entry) → es ≡ old ∷ (l ++ h) → IsPermutation (entry ∷ old ∷ []) (top ∷ lower ∷ []) → IsPlaced lower h h' r → IsPlaced entry es (top ∷ (l ++ h')) r
placed_high es entry old top lower l h h' None e both p = rw e (placed entry old top lower (l ++ h) (l ++ h') both (into_second lower l h h' p))
placed_high es entry old top lower l h h' (Some left) e both p =
    let into = into_second lower l h (left ∷ h') p in
    rw e (placed_but_one entry old top lower left (l ++ h) (l ++ h') both (IsPermutation-trans (lower ∷ (l ++ h)) (l ++ left ∷ h') (left ∷ (l ++ h')) into (IsPermutation-middle l left h')))

pub placed_low : (es : List Entry) (entry old top lower : Entry) (l l' h : List Entry) (r : Option Entry) → es ≡ old ∷ (l ++ h) → IsPermutation (entry ∷ old ∷ []) (top ∷ lower ∷ []) → IsPlaced lower l l' r → IsPlaced entry es (top ∷ (l' ++ h)) r
placed_low es entry old top lower l l' h None e both p = rw e (placed entry old top lower (l ++ h) (l' ++ h) both (into_first lower l l' h p))
placed_low es entry old top lower l l' h (Some left) e both p = rw e (placed_but_one entry old top lower left (l ++ h) (l' ++ h) both (into_first lower l (left ∷ l') h p))
