-- What is asked of entries, and what becomes of them.
use Rattle.std.specs.Prelude.{◌≡◌, ◌≤ℤ◌, ℕ, ℤ, Bool, true, false, not, ◌&&◌, List, [], ◌∷◌, nat_eq, map, Option, Some, None, Contains}
use Rattle.std.specs.List.{All, filter}
use Rattle.std.specs.List.Sorted.{IsPermutation}
use Rattle.exact_plane.specs.declared.whole_parts.BoundingBox.{BoundingBox}
use Rattle.box_tree.specs.declared.entry.Entry.{Entry}
use Rattle.exact_plane.specs.Boxes.{are_apart, are_same_boxes, IsWithin}

-- the same name and box
abbrev pub is_same : Entry → Entry → Bool
is_same a b = nat_eq a.name b.name && are_same_boxes a.bounds b.bounds

-- the entry's box has a point in common with the box
abbrev pub is_met : BoundingBox → Entry → Bool
is_met area e = not (are_apart area e.bounds)

-- the names of the entries whose boxes meet the box, in the entries' order (de Berg and others: windowing query)
abbrev pub names_meeting : BoundingBox → List Entry → List ℕ
names_meeting area es = map (λ e. e.name) (filter (is_met area) es)

-- each entry whose box meets the box, and isn't wholly below the floor, was seen
abbrev pub AreSeen : (Entry → Type 0) → BoundingBox → ℤ → List Entry → Type 0
AreSeen seen area floor es = All (λ e. is_met area e ≡ true → floor ≤ℤ e.bounds.greatest.y → seen e) es

-- each entry whose box meets the box is known
abbrev pub AreKnown : (Entry → Type 0) → BoundingBox → List Entry → Type 0
AreKnown known area es = All (λ e. is_met area e ≡ true → known e) es

-- each entry's box lies within the box
abbrev pub AllWithin : BoundingBox → List Entry → Type 0
AllWithin cover es = All (λ e. IsWithin e.bounds cover) es

-- no entry's box goes below the ordinate
abbrev pub AllAbove : ℤ → List Entry → Type 0
AllAbove y es = All (λ e. y ≤ℤ e.bounds.least.y) es

abbrev pub is_empty_list : List Entry → Bool
is_empty_list [] = true
is_empty_list (e ∷ es) = false

-- the pair has the two
abbrev pub IsEither : Entry → Entry → Entry × Entry → Type 0
IsEither a b p = IsPermutation (b ∷ a ∷ []) (p.0 ∷ p.1 ∷ [])

-- the entry was taken in, but for one that was left over
abbrev pub IsPlaced : Entry → List Entry → List Entry → Option Entry → Type 0
IsPlaced e before now None = IsPermutation (e ∷ before) now
IsPlaced e before now (Some left) = IsPermutation (e ∷ before) (left ∷ now)

-- the first entry was taken out, where there was one
abbrev pub IsPopped : List Entry → List Entry → Option Entry → Type 0
IsPopped [] now None = now ≡ []
IsPopped [] now (Some e) = ⊥
IsPopped (first ∷ rest) now None = ⊥
IsPopped (first ∷ rest) now (Some e) = (e ≡ first) × IsPermutation rest now

-- the entry was taken out once, or it was not there
abbrev pub IsRemoved : Entry → List Entry → List Entry → Bool → Type 0
IsRemoved e before now true = IsPermutation before (e ∷ now)
IsRemoved e before now false = (now ≡ before) × (Contains before e → ⊥)

-- the second entry stands for the first, once, or the first was not there
abbrev pub IsReplaced : Entry → Entry → List Entry → List Entry → Bool → Type 0
IsReplaced old new before now true = IsPermutation (new ∷ before) (old ∷ now)
IsReplaced old new before now false = (now ≡ before) × (Contains before old → ⊥)
