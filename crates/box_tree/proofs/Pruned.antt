-- What a question passes over has no entry that meets.
use Rattle.std.proofs.Common.{◌≡◌, ◌∙◌, ℕ, append_assoc, true, false, List, [], ◌∷◌, ◌++◌, refl, ap, arith}
use Rattle.std.proofs.lemmas.Int.{ints}
use Rattle.std.proofs.lemmas.List.{map-append}
use Rattle.std.proofs.lemmas.List.Elements.{filter-append, All-head, All-tail}
use Rattle.std.specs.List.{filter}
use Rattle.exact_plane.specs.declared.whole_parts.BoundingBox.{BoundingBox}
use Rattle.box_tree.specs.declared.entry.Entry.{Entry}
use Rattle.exact_plane.specs.Boxes.{are_apart, IsWithin}
use Rattle.box_tree.specs.Entries.{is_met, names_meeting, AllWithin}

apart : (area b cover : BoundingBox) → IsWithin b cover → are_apart area cover ≡ true → are_apart area b ≡ true
apart area b cover w f =
    let left = w.left in
    let right = w.right in
    let below = w.below in
    let above = w.above in
    grind (arith, ints)

-- an entry whose cover doesn't meet the box doesn't meet it
pub not_met : (area cover : BoundingBox) (e : Entry) → IsWithin e.bounds cover → are_apart area cover ≡ true → is_met area e ≡ false
not_met area cover e w f = rw (apart area e.bounds cover w f) refl

pub none_met : (area cover : BoundingBox) (es : List Entry) → AllWithin cover es → are_apart area cover ≡ true → filter (is_met area) es ≡ []
none_met area cover [] w f = refl
none_met area cover (e ∷ es) w f =
    rw (not_met area cover e (All-head (λ x. IsWithin x.bounds cover) e es w) f) (none_met area cover es (All-tail (λ x. IsWithin x.bounds cover) e es w) f)

pub no_names : (area cover : BoundingBox) (es : List Entry) → AllWithin cover es → are_apart area cover ≡ true → names_meeting area es ≡ []
no_names area cover es w f = rw (none_met area cover es w f) refl

pub names_append : (area : BoundingBox) (xs ys : List Entry) → names_meeting area (xs ++ ys) ≡ names_meeting area xs ++ names_meeting area ys
names_append area xs ys = rw (filter-append (is_met area) xs ys) (map-append (λ e. e.name) (filter (is_met area) xs) (filter (is_met area) ys))

-- the names of a node's entries that meet, side by side
names_of_node : (area : BoundingBox) (e : Entry) (l h : List Entry) → names_meeting area (e ∷ (l ++ h)) ≡ names_meeting area (e ∷ []) ++ (names_meeting area l ++ names_meeting area h)
names_of_node area e l h = names_append area (e ∷ []) (l ++ h) ∙ ap (λ z. names_meeting area (e ∷ []) ++ z) (names_append area l h)

-- what three questions add, one after the other
pub added_by_three : (area : BoundingBox) (before one two three : List ℕ) (es : List Entry) (e : Entry) (l h : List Entry) → es ≡ e ∷ (l ++ h) → one ≡ before ++ names_meeting area (e ∷ []) → two ≡ one ++ names_meeting area l → three ≡ two ++ names_meeting area h → three ≡ before ++ names_meeting area es
added_by_three area before one two three es e l h is p q r =
    let names = names_of_node area e l h in
    rw (is, names, r, q, p) (append_assoc (before ++ names_meeting area (e ∷ [])) (names_meeting area l) (names_meeting area h) ∙ append_assoc before (names_meeting area (e ∷ [])) (names_meeting area l ++ names_meeting area h))
