-- Boxes that cover a node's entries.
use Rattle.std.proofs.Common.{◌≡◌, zero, suc, true, false, List, [], ◌∷◌, ◌++◌, inl, inr, Option, Some, None, arith}
use Rattle.std.proofs.lemmas.Int.{ints, clamps}
use Rattle.std.proofs.lemmas.List.Elements.{All-cons, All-append, All-tail, All-weaker, All-contains, Contains-append_cases}
use Rattle.std.proofs.lemmas.List.Sorted.{All-permutation}
use Rattle.std.specs.Prelude.{Contains}
use Rattle.exact_plane.specs.declared.whole_parts.BoundingBox.{BoundingBox}
use Rattle.box_tree.specs.declared.entry.Entry.{Entry}
use Rattle.exact_plane.specs.Boxes.{covering, exceeds, IsWithin}
use Rattle.box_tree.specs.Entries.{AllWithin, IsPlaced}

pub within_trans : (a b c : BoundingBox) → IsWithin a b → IsWithin b c → IsWithin a c
within_trans a b c p q =
    let p0 = p.left in
    let p1 = p.right in
    let p2 = p.below in
    let p3 = p.above in
    let q0 = q.left in
    let q1 = q.right in
    let q2 = q.below in
    let q3 = q.above in
    record { left = omega (arith, ints); right = omega (arith, ints); below = omega (arith, ints); above = omega (arith, ints) }

pub within_covering_first : (a b : BoundingBox) → IsWithin a (covering a b)
within_covering_first a b =
    record { left = omega (arith, ints, clamps); right = omega (arith, ints, clamps); below = omega (arith, ints, clamps); above = omega (arith, ints, clamps) }

pub within_covering_second : (a b : BoundingBox) → IsWithin b (covering a b)
within_covering_second a b =
    record { left = omega (arith, ints, clamps); right = omega (arith, ints, clamps); below = omega (arith, ints, clamps); above = omega (arith, ints, clamps) }

pub all_within_wider : (b c : BoundingBox) (es : List Entry) → IsWithin b c → AllWithin b es → AllWithin c es
all_within_wider b c es q all = All-weaker (λ e. IsWithin e.bounds b) (λ e. IsWithin e.bounds c) (λ e p. within_trans e.bounds b c p q) es all

-- the node's box grows by the newcomer's
pub all_within_more : (cover : BoundingBox) (entry : Entry) (es : List Entry) → AllWithin cover es → AllWithin (covering cover entry.bounds) (entry ∷ es)
all_within_more cover entry es all =
    let now = covering cover entry.bounds in
    All-cons (λ e. IsWithin e.bounds now) entry es (within_covering_second cover entry.bounds) (all_within_wider cover now es (within_covering_first cover entry.bounds) all)

-- but for an entry that was handed back
pub all_within_placed : (cover : BoundingBox) (entry : Entry) (es es' : List Entry) (r : Option Entry) → AllWithin cover (entry ∷ es) → IsPlaced entry es es' r → AllWithin cover es'
all_within_placed cover entry es es' None all p = All-permutation (λ e. IsWithin e.bounds cover) (entry ∷ es) es' p all
all_within_placed cover entry es es' (Some left) all p =
    All-tail (λ e. IsWithin e.bounds cover) left es' (All-permutation (λ e. IsWithin e.bounds cover) (entry ∷ es) (left ∷ es') p all)

-- the node's box is made anew, by the entry, the lower side and the higher side
pub all_within_anew : (middle now : BoundingBox) (entry : Entry) (l h : List Entry) → IsWithin entry.bounds middle → AllWithin middle l → IsWithin middle now → AllWithin now h → AllWithin now (entry ∷ l ++ h)
all_within_anew middle now entry l h first low grown high =
    All-cons (λ e. IsWithin e.bounds now) entry (l ++ h) (within_trans entry.bounds middle now first grown) (All-append (λ e. IsWithin e.bounds now) l h (all_within_wider middle now l grown low) high)

covered : (a b : BoundingBox) → IsWithin a b → exceeds b a ≡ false
covered a b p =
    let p0 = p.left in
    let p1 = p.right in
    let p2 = p.below in
    let p3 = p.above in
    grind (arith, ints)

-- an entry whose box isn't covered isn't there
pub not_there : (cover : BoundingBox) (entry : Entry) (es : List Entry) → AllWithin cover es → exceeds cover entry.bounds ≡ true → Contains es entry → ⊥
not_there cover entry es all f there =
    let p = All-contains (λ e. IsWithin e.bounds cover) es entry all there in
    let t = covered entry.bounds cover p in
    grind arith

only : (t x : Entry) → Contains (t ∷ []) x → t ≡ x
only t x (zero, p, e) = e
only t x (suc k, p, e) = absurd (omega arith)

-- an entry that is no part is not there
pub in_no_part : (top entry : Entry) (l h : List Entry) → (top ≡ entry → ⊥) → (Contains l entry → ⊥) → (Contains h entry → ⊥) → Contains (top ∷ l ++ h) entry → ⊥
in_no_part top entry l h not_top not_low not_high there =
    elim (Contains-append_cases (top ∷ []) (l ++ h) entry there) [
      | inl a ↦ not_top (only top entry a)
      | inr b ↦ elim (Contains-append_cases l h entry b) [
        | inl a ↦ not_low a
        | inr a ↦ not_high a
      ]
    ]
