-- When two entries are one.
use Rattle.std.proofs.Common.{◌≡◌, ◌∙◌, sym, ap, refl, Bool, true, false}
use Rattle.std.specs.Bool.{Decides}
use Rattle.std.proofs.lemmas.Bool.Decides.{Decides-like, Decides-and, Decides-eqb, Decides-int_eq, not_from_Decides}
use Rattle.exact_plane.specs.declared.whole_parts.BoundingBox.{BoundingBox}
use Rattle.exact_plane.specs.declared.whole_parts.WholeParts.{WholeParts}
use Rattle.box_tree.specs.declared.entry.Entry.{Entry}
use Rattle.exact_plane.specs.Boxes.{are_same_places, are_same_boxes}
use Rattle.box_tree.specs.Entries.{is_same}

place_from : (a b : WholeParts) → (a.x ≡ b.x) × (a.y ≡ b.y) → a ≡ b
place_from a b p =
    let whole : ◌≡◌ {A = WholeParts} (record { x = a.x; y = a.y }) b = rw (p.0, p.1) refl in
    whole

same_place : (a b : WholeParts) → Decides (are_same_places a b) (a ≡ b)
same_place a b =
    Decides-like (are_same_places a b) (place_from a b) (λ e. (ap (λ x. x.x) e, ap (λ x. x.y) e))
    (Decides-and _ _ (Decides-int_eq a.x b.x) (Decides-int_eq a.y b.y))

box_from : (a b : BoundingBox) → (a.least ≡ b.least) × (a.greatest ≡ b.greatest) → a ≡ b
box_from a b p =
    let whole : ◌≡◌ {A = BoundingBox} (record { least = a.least; greatest = a.greatest }) b = rw (p.0, p.1) refl in
    whole

same_box : (a b : BoundingBox) → Decides (are_same_boxes a b) (a ≡ b)
same_box a b =
    Decides-like (are_same_boxes a b) (box_from a b) (λ e. (ap (λ x. x.least) e, ap (λ x. x.greatest) e))
    (Decides-and _ _ (same_place a.least b.least) (same_place a.greatest b.greatest))

entry_from : (a b : Entry) → (a.name ≡ b.name) × (a.bounds ≡ b.bounds) → a ≡ b
entry_from a b p =
    let whole : ◌≡◌ {A = Entry} (record { name = a.name; bounds = a.bounds }) b = rw (p.0, p.1) refl in
    whole

pub same_entry : (a b : Entry) → Decides (is_same a b) (a ≡ b)
same_entry a b =
    Decides-like (is_same a b) (entry_from a b) (λ e. (ap (λ x. x.name) e, ap (λ x. x.bounds) e))
    (Decides-and _ _ (Decides-eqb a.name b.name) (same_box a.bounds b.bounds))

pub told_same : (a b : Entry) (r : Bool) → r ≡ is_same a b → r ≡ true → a ≡ b
told_same a b r is e = (same_entry a b).0 (sym is ∙ e)

pub told_other : (a b : Entry) (r : Bool) → r ≡ is_same a b → r ≡ false → a ≡ b → ⊥
told_other a b r is e = not_from_Decides (is_same a b) (same_entry a b) (sym is ∙ e)
