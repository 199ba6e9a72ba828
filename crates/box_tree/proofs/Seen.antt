-- What a visitor has seen of entries, part by part.
use Rattle.std.proofs.Common.{◌≡◌, ◌∙◌, sym, true, false, ℤ, ◌≤ℤ◌, ◌<ℤ◌, ℕ, ◌+◌, ◌<◌, ◌≤◌, List, [], ◌∷◌, ◌++◌, length, take, get_or, arith}
use Rattle.std.proofs.lemmas.Int.{ints}
use Rattle.std.proofs.lemmas.List.{take_all}
use Rattle.std.proofs.lemmas.List.Elements.{All-nil, All-cons, All-head, All-tail, All-append, All-weaker, All-more, All-same}
use Rattle.exact_plane.specs.declared.whole_parts.BoundingBox.{BoundingBox}
use Rattle.std.specs.List.{All}
use Rattle.box_tree.specs.declared.entry.Entry.{Entry}
use Rattle.exact_plane.specs.Boxes.{are_apart, IsWithin}
use Rattle.box_tree.specs.Entries.{is_met, AllWithin, AreKnown, AreSeen}
use Rattle.box_tree.proofs.Pruned.{not_met}

pub All-left : (P : Entry → Type 0) (xs ys : List Entry) → All P (xs ++ ys) → All P xs
All-left P [] ys all = All-nil P
All-left P (x ∷ xs) ys all = All-cons P x xs (All-head P x (xs ++ ys) all) (All-left P xs ys (All-tail P x (xs ++ ys) all))

pub All-right : (P : Entry → Type 0) (xs ys : List Entry) → All P (xs ++ ys) → All P ys
All-right P [] ys all = all
All-right P (x ∷ xs) ys all = All-right P xs ys (All-tail P x (xs ++ ys) all)

abbrev IsSeen : (Entry → Type 0) → BoundingBox → ℤ → Entry → Type 0
IsSeen seen area floor e = is_met area e ≡ true → floor ≤ℤ e.bounds.greatest.y → seen e

abbrev IsKnown : (Entry → Type 0) → BoundingBox → Entry → Type 0
IsKnown known area e = is_met area e ≡ true → known e

contrary : {A : Type 0} (area : BoundingBox) (e : Entry) → is_met area e ≡ false → is_met area e ≡ true → A
contrary area e unmet met =
    let k : false ≡ true = sym unmet ∙ met in
    absurd (cc)

beneath : {A : Type 0} (a b floor : ℤ) → a ≤ℤ b → b <ℤ floor → floor ≤ℤ a → A
beneath a b floor p q r = absurd (omega (arith, ints))

-- nothing is there to be seen where the cover doesn't meet the box
pub seen_apart : (seen : Entry → Type 0) (area cover : BoundingBox) (floor : ℤ) (es : List Entry) → AllWithin cover es → are_apart area cover ≡ true → AreSeen seen area floor es
seen_apart seen area cover floor es all f =
    All-weaker (λ e. IsWithin e.bounds cover) (IsSeen seen area floor) (λ e w met above. contrary area e (not_met area cover e w f) met) es all

-- nor where it is below the floor
pub seen_below : (seen : Entry → Type 0) (area cover : BoundingBox) (floor : ℤ) (es : List Entry) → AllWithin cover es → cover.greatest.y <ℤ floor → AreSeen seen area floor es
seen_below seen area cover floor es all f =
    All-weaker (λ e. IsWithin e.bounds cover) (IsSeen seen area floor) (λ e w met above. beneath e.bounds.greatest.y cover.greatest.y floor w.above f above) es all

within_itself : (e : Entry) → AllWithin e.bounds (e ∷ [])
within_itself e =
    All-cons (λ x. IsWithin x.bounds e.bounds) e [] (record { left = omega (arith, ints); right = omega (arith, ints); below = omega (arith, ints); above = omega (arith, ints) }) (All-nil (λ x. IsWithin x.bounds e.bounds))

-- one entry
pub seen_one : (seen : Entry → Type 0) (area : BoundingBox) (floor : ℤ) (e : Entry) → seen e → AreSeen seen area floor (e ∷ [])
seen_one seen area floor e s = All-cons (IsSeen seen area floor) e [] (λ met above. s) (All-nil (IsSeen seen area floor))

pub seen_one_apart : (seen : Entry → Type 0) (area : BoundingBox) (floor : ℤ) (e : Entry) → are_apart area e.bounds ≡ true → AreSeen seen area floor (e ∷ [])
seen_one_apart seen area floor e f =
    seen_apart seen area e.bounds floor (e ∷ []) (within_itself e) f

pub seen_one_below : (seen : Entry → Type 0) (area : BoundingBox) (floor : ℤ) (e : Entry) → e.bounds.greatest.y <ℤ floor → AreSeen seen area floor (e ∷ [])
seen_one_below seen area floor e f =
    seen_below seen area e.bounds floor (e ∷ []) (within_itself e) f

pub rise : (a b c : ℤ) → a ≤ℤ b → b ≤ℤ c → a ≤ℤ c
rise a b c p q = omega (arith, ints)

-- what was seen stays seen, and the floor rises
pub seen_still : (seen seen' : Entry → Type 0) (area : BoundingBox) (floor floor' : ℤ) (es : List Entry) → ((e : Entry) → seen e → seen' e) → floor ≤ℤ floor' → AreSeen seen area floor es → AreSeen seen' area floor' es
seen_still seen seen' area floor floor' es still rises all =
    All-weaker (IsSeen seen area floor) (IsSeen seen' area floor') (λ e s met above. still e (s met (rise floor floor' e.bounds.greatest.y rises above))) es all

-- the parts of a node
pub seen_of_node : (seen : Entry → Type 0) (area : BoundingBox) (floor : ℤ) (es : List Entry) (e : Entry) (l h : List Entry) → es ≡ e ∷ (l ++ h) → AreSeen seen area floor (e ∷ []) → AreSeen seen area floor l → AreSeen seen area floor h → AreSeen seen area floor es
seen_of_node seen area floor es e l h is first low high =
    rw is (All-cons (IsSeen seen area floor) e (l ++ h) (All-head (IsSeen seen area floor) e [] first) (All-append (IsSeen seen area floor) l h low high))

-- the parts of what is known
pub known_top : (known : Entry → Type 0) (area : BoundingBox) (es : List Entry) (e : Entry) (l h : List Entry) → es ≡ e ∷ (l ++ h) → AreKnown known area es → AreKnown known area (e ∷ [])
known_top known area es e l h is all =
    All-cons (IsKnown known area) e [] (All-head (IsKnown known area) e (l ++ h) (rw is at all)) (All-nil (IsKnown known area))

pub known_low : (known : Entry → Type 0) (area : BoundingBox) (es : List Entry) (e : Entry) (l h : List Entry) → es ≡ e ∷ (l ++ h) → AreKnown known area es → AreKnown known area l
known_low known area es e l h is all =
    All-left (IsKnown known area) l h (All-tail (IsKnown known area) e (l ++ h) (rw is at all))

pub known_high : (known : Entry → Type 0) (area : BoundingBox) (es : List Entry) (e : Entry) (l h : List Entry) → es ≡ e ∷ (l ++ h) → AreKnown known area es → AreKnown known area h
known_high known area es e l h is all =
    All-right (IsKnown known area) l h (All-tail (IsKnown known area) e (l ++ h) (rw is at all))

-- the list beside the tree, and the tree
pub seen_of_two : (seen seen' : Entry → Type 0) (area : BoundingBox) (floor floor' : ℤ) (es d r : List Entry) → es ≡ d ++ r → ((e : Entry) → seen e → seen' e) → floor ≤ℤ floor' → AreSeen seen area floor d → AreSeen seen' area floor' r → AreSeen seen' area floor' es
seen_of_two seen seen' area floor floor' es d r is still rises first rest =
    rw is (All-append (IsSeen seen' area floor') d r (seen_still seen seen' area floor floor' d still rises first) rest)

pub known_first : (known : Entry → Type 0) (area : BoundingBox) (es d r : List Entry) → es ≡ d ++ r → AreKnown known area es → AreKnown known area d
known_first known area es d r is all = All-left (IsKnown known area) d r (rw is at all)

pub known_rest : (known : Entry → Type 0) (area : BoundingBox) (es d r : List Entry) → es ≡ d ++ r → AreKnown known area es → AreKnown known area r
known_rest known area es d r is all = All-right (IsKnown known area) d r (rw is at all)

-- one entry more of a list
pub seen_more : (seen seen' : Entry → Type 0) (area : BoundingBox) (floor floor' : ℤ) (es : List Entry) (i : ℕ) (d : Entry) → i < length es → ((x : Entry) → seen x → seen' x) → floor ≤ℤ floor' → AreSeen seen area floor (take i es) → AreSeen seen' area floor' (get_or es i d ∷ []) → AreSeen seen' area floor' (take (i + 1) es)
seen_more seen seen' area floor floor' es i d h still rises before one =
    All-more (IsSeen seen' area floor') es i d h (seen_still seen seen' area floor floor' (take i es) still rises before) (All-head (IsSeen seen' area floor') (get_or es i d) [] one)

-- the whole list
pub seen_all : (seen : Entry → Type 0) (area : BoundingBox) (floor : ℤ) (es : List Entry) (i : ℕ) → length es ≤ i → AreSeen seen area floor (take i es) → AreSeen seen area floor es
seen_all seen area floor es i h all =
    All-same (IsSeen seen area floor) es (take i es) (sym (take_all i es h)) all
