-- Darts by their ends, the faces on their sides, and which sets change there.
use Rattle.std.specs.Prelude.{◌<◌, ℕ, Bool, false, not, cond, List, length, slice_index_or}
use Rattle.polygon_sets.specs.declared.crossings.Inside.{Inside}
use Rattle.polygon_sets.specs.declared.crossings.Crossing.{Crossing}

-- no set holds the face
abbrev pub neither : Inside
neither = record { red = false; blue = false }

-- what stands where there is no dart
abbrev pub no_crossing : Crossing
no_crossing = record { source = 0; target = 0; left = 0; right = 0; red = false; blue = false }

-- the dart at a place
abbrev pub crossing_at : List Crossing → ℕ → Crossing
crossing_at cs k = slice_index_or cs k no_crossing

-- a set changes where its pieces are odd in number (even-odd rule: Foley, van Dam and others, Computer Graphics)
abbrev pub turned : Bool → Bool → Bool
turned odd b = cond odd (not b) b

-- the sets on the right, by those on the left
abbrev pub crossed : Crossing → Inside → Inside
crossed c i = record { red = turned c.red i.red; blue = turned c.blue i.blue }

-- the faces on both sides are among so many
pub record IsWithin (faces : ℕ) (c : Crossing) : Type 0 where
  pub left : c.left < faces
  pub right : c.right < faces

-- and so of each dart
abbrev pub AreWithin : ℕ → List Crossing → Type 0
AreWithin faces cs = (k : ℕ) → k < length cs → IsWithin faces (crossing_at cs k)

-- both ends are among so many points
abbrev pub AreBetween : ℕ → List Crossing → Type 0
AreBetween points cs = (k : ℕ) → k < length cs → ((crossing_at cs k).source < points) × ((crossing_at cs k).target < points)
