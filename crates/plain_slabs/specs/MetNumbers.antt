-- Links between numbers, and the table in which the two numbers of a link meet.
--     AreBelow n links      every number of the links is below n
--     met table link      the table, where the two entries of the link are the lesser of both
--     AgreesOn table link      both entries of the link are one
use Rattle.std.specs.Prelude.{ℕ, List, ◌≡◌, ◌<◌, min, slice_index, slice_set}
use Rattle.std.specs.List.{All}
use Rattle.slab_laws.specs.declared.classes.Link.{Link}

-- both numbers of each link are below n
abbrev pub AreBelow : ℕ → List (Link ℕ) → Type 0
AreBelow n links = All (λ l. (l.one < n) × (l.other < n)) links

-- the table with the lesser of the link's two entries at both its numbers (this project)
unfoldable pub met : List ℕ → Link ℕ → List ℕ
met table l =
    let low : ℕ = min (slice_index table l.one) (slice_index table l.other) in
    slice_set (slice_set table l.one low) l.other low

-- the table gives both numbers of the link one entry
abbrev pub AgreesOn : List ℕ → Link ℕ → Type 0
AgreesOn table l = slice_index table l.one ≡ slice_index table l.other
