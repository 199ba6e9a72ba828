-- Entries beside the tree.
use Rattle.std.proofs.Common.{◌≡◌, ◌∙◌, sym, true, false, ℕ, ◌+◌, ◌<◌, ◌≤◌, Bool, List, [], ◌∷◌, ◌++◌, Some, None, inl, inr, length, take, get_or, refl, ap, append_assoc}
use Rattle.std.proofs.lemmas.List.{take_all, get_or_default}
use Rattle.std.proofs.lemmas.List.Elements.{All-contains, All-more, All-same, Contains-append_cases}
use Rattle.std.proofs.lemmas.List.Sorted.{IsPermutation-swap_remove}
use Rattle.std.specs.Prelude.{Contains}
use Rattle.std.specs.List.{All, swap_remove}
use Rattle.std.specs.List.Sorted.{IsPermutation}
use Rattle.exact_plane.specs.declared.whole_parts.BoundingBox.{BoundingBox}
use Rattle.box_tree.specs.declared.entry.Entry.{Entry}
use Rattle.box_tree.specs.Entries.{names_meeting, IsPlaced, IsRemoved}
use Rattle.box_tree.proofs.Moved.{into_second, out_of_first, out_of_second}
use Rattle.box_tree.proofs.Pruned.{names_append}

-- a newcomer to the tree, and none is left over
pub placed_in_root : (es : List Entry) (entry : Entry) (d r r' : List Entry) → es ≡ d ++ r → IsPlaced entry r r' None → IsPermutation (entry ∷ es) (d ++ r')
placed_in_root es entry d r r' e p = rw e (into_second entry d r r' p)

-- or one comes into the list
pub placed_beside : (es : List Entry) (entry left : Entry) (d d' r r' : List Entry) → es ≡ d ++ r → IsPlaced entry r r' (Some left) → d' ≡ d ++ left ∷ [] → IsPermutation (entry ∷ es) (d' ++ r')
placed_beside es entry left d d' r r' e p q = rw (e, q, append_assoc d (left ∷ []) r') (into_second entry d r (left ∷ r') p)

pub removed_in_root : (es : List Entry) (entry : Entry) (d r r' : List Entry) (b : Bool) → es ≡ d ++ r → IsRemoved entry r r' b → b ≡ true → IsPermutation es (entry ∷ (d ++ r'))
removed_in_root es entry d r r' b e p t = rw e (out_of_second entry d r r' (rw t at p))

in_neither : (entry : Entry) (d r : List Entry) → (Contains d entry → ⊥) → (Contains r entry → ⊥) → Contains (d ++ r) entry → ⊥
in_neither entry d r a b there =
    elim (Contains-append_cases d r entry there) [
      | inl x ↦ a x
      | inr x ↦ b x
    ]

beside : (entry : Entry) (d d' r : List Entry) (s : Bool) → (Contains r entry → ⊥) → IsRemoved entry d d' s → IsRemoved entry (d ++ r) (d' ++ r) s
beside entry d d' r true absent q = out_of_first entry d d' r q
beside entry d d' r false absent q = (ap (λ x. x ++ r) q.0, in_neither entry d r q.1 absent)

-- the list is asked once the tree hasn't it
pub removed_beside : (es : List Entry) (entry : Entry) (d d' r r' : List Entry) (b s : Bool) → es ≡ d ++ r → IsRemoved entry r r' b → b ≡ false → IsRemoved entry d d' s → IsRemoved entry es (d' ++ r') s
removed_beside es entry d d' r r' b s e p n q =
    let same = rw n at p in
    rw (e, same.0) (beside entry d d' r s same.1 q)

abbrev IsOther : Entry → Entry → Type 0
IsOther entry e = e ≡ entry → ⊥

-- the list loses the entry at a place, which is that one
pub taken_out : (es before now : List Entry) (i : ℕ) (x y entry : Entry) → es ≡ before → i < length es → x ≡ get_or es i x → y ≡ get_or es i y → y ≡ entry → now ≡ swap_remove es i x → IsPermutation before (entry ∷ now)
taken_out es before now i x y entry e h p q t n =
    let same : x ≡ entry = p ∙ (get_or_default es i x y h ∙ (sym q ∙ t)) in
    rw (← e, n, ← same) (IsPermutation-swap_remove es i x h p)

-- one place more at which it isn't
pub other_more : (es : List Entry) (i : ℕ) (y entry : Entry) → i < length es → All (IsOther entry) (take i es) → y ≡ get_or es i y → (y ≡ entry → ⊥) → All (IsOther entry) (take (i + 1) es)
other_more es i y entry h all q other = All-more (IsOther entry) es i y h all (λ t. other (q ∙ t))

-- it is at none
pub none_left : (es before : List Entry) (i : ℕ) (entry : Entry) → es ≡ before → length es ≤ i → All (IsOther entry) (take i es) → (es ≡ before) × (Contains before entry → ⊥)
none_left es before i entry e h all =
    let none = All-same (IsOther entry) es (take i es) (sym (take_all i es h)) all in
    (e, λ there. All-contains (IsOther entry) es entry none (rw e there) refl)

-- what two questions add, one after the other
pub added_by_two : (es : List Entry) (area : BoundingBox) (before one two : List ℕ) (d r : List Entry) → es ≡ d ++ r → one ≡ before ++ names_meeting area d → two ≡ one ++ names_meeting area r → two ≡ before ++ names_meeting area es
added_by_two es area before one two d r e p q =
    rw (e, q, p, names_append area d r) (append_assoc before (names_meeting area d) (names_meeting area r))
