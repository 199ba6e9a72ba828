-- Ranges of slabs, and of each slab the outermost edge whose range has it.
use Rattle.std.specs.Prelude.{◌≡◌, ◌⊎◌, ◌+◌, ◌<◌, ◌≤◌, ◌/◌, ◌%◌, ◌==◌, ◌&&◌, ◌||◌, ℕ, pos, Bool, true, false, cond, List, length, slice_index_or, Option, Some, None}
use lib.Dec.{leb, ltb}
use Rattle.exact_plane.specs.Span.{Span}
use Rattle.plane_graphs.specs.Ascending.{Member}
use Rattle.slab_laws.specs.Skeleton.{left_of}
use Rattle.slab_laws.specs.SpansDrawn.{edge_of}
use Rattle.envelope_laws.specs.declared.which.Which.{Which}
use Rattle.envelope_laws.specs.Envelopes.{outside_of}
use Rattle.lower_envelope.specs.declared.slabs.Stretch.{Stretch}

-- what stands where no edge does
abbrev pub nowhere : Span
nowhere = record { lower = record { x = pos 0; y = pos 0; w = pos 0 }; upper = record { x = pos 0; y = pos 0; w = pos 0 }; line = record { a = pos 0; b = pos 0; c = pos 0 } }

abbrev pub span_at : List Span → ℕ → Span
span_at edges i = slice_index_or edges i nowhere

-- none is vertical
abbrev pub AreSlanted : List Span → Type 0
AreSlanted edges = (i : ℕ) → i < length edges → left_of (span_at edges i).lower (span_at edges i).upper ≡ true

-- the first of two is further out
abbrev pub further_at : Which → List Span → ℕ → ℕ → Bool
further_at w edges a b = outside_of w (edge_of (span_at edges a)) (edge_of (span_at edges b))

-- what stands for slabs are places of edges
abbrev pub ArePlaces : List Span → List (Option ℕ) → Type 0
ArePlaces edges slabs = (i a : ℕ) → slice_index_or slabs i None ≡ Some a → a < length edges

-- ---- an order `out` of places
abbrev pub is_new : (ℕ → ℕ → Bool) → Option ℕ → ℕ → Bool
is_new out None b = true
is_new out (Some a) b = out b a

-- what stands after b was offered
abbrev pub offered : (ℕ → ℕ → Bool) → Option ℕ → ℕ → ℕ
offered out None b = b
offered out (Some a) b = cond (out b a) b a

abbrev pub joined : (ℕ → ℕ → Bool) → Option ℕ → Option ℕ → Option ℕ
joined out o None = o
joined out o (Some b) = Some (offered out o b)

-- b was offered to the slabs that pass the test, and to no others
abbrev pub IsOffered : (ℕ → ℕ → Bool) → (ℕ → Bool) → ℕ → List (Option ℕ) → List (Option ℕ) → Type 0
IsOffered out test b old new = (i : ℕ) → slice_index_or new i None ≡ cond (test i) (Some (offered out (slice_index_or old i None) b)) (slice_index_or old i None)

-- what stands for its pair was offered to each slab
abbrev pub AreJoined : (ℕ → ℕ → Bool) → List (Option ℕ) → List (Option ℕ) → List (Option ℕ) → Type 0
AreJoined out pairs old new = (i : ℕ) → i < length old → slice_index_or new i None ≡ joined out (slice_index_or old i None) (slice_index_or pairs (i / 2) None)

-- ---- ranges
-- the range has the slab
abbrev pub covers : Stretch → ℕ → Bool
covers s i = leb s.low i && ltb i s.high

-- the slab is the range's first, and odd, or its last, and even
abbrev pub ends_at : Stretch → ℕ → Bool
ends_at s i = ((s.low % 2 == 1) && (i == s.low)) || ((s.high % 2 == 1) && (i + 1 == s.high))

-- the pairs of slabs in the rest of the range
abbrev pub inner : Stretch → Stretch
inner s = record { place = s.place; low = s.low / 2 + s.low % 2; high = s.high / 2 }

abbrev pub is_proper : Stretch → Bool
is_proper s = ltb s.low s.high

pub record IsWithin (edges : List Span) (count : ℕ) (s : Stretch) : Type 0 where
  pub place : s.place < length edges
  pub some : s.low < s.high
  pub high : s.high ≤ count

abbrev pub AreWithin : List Span → ℕ → List Stretch → Type 0
AreWithin edges count ss = (s : Stretch) → Member s ss → IsWithin edges count s

-- of the edges whose ranges pass the test none comes before itself, of two one comes first, or they are one, and what comes before another comes before what that comes before
pub record IsTurn (out : ℕ → ℕ → Bool) (test : Stretch → Bool) (ss : List Stretch) : Type 0 where
  pub once : (s : Stretch) → Member s ss → test s ≡ true → out s.place s.place ≡ false
  pub total : (s t : Stretch) → Member s ss → Member t ss → test s ≡ true → test t ≡ true → (out s.place t.place ≡ true) ⊎ ((out t.place s.place ≡ true) ⊎ ((x : ℕ) → out x t.place ≡ true → out x s.place ≡ true))
  pub trans : (s t u : Stretch) → Member s ss → Member t ss → Member u ss → test s ≡ true → test t ≡ true → test u ≡ true → out s.place t.place ≡ true → out t.place u.place ≡ true → out s.place u.place ≡ true

-- so it is of the edges of each slab
abbrev pub AreInTurn : (ℕ → ℕ → Bool) → List Stretch → Type 0
AreInTurn out ss = (i : ℕ) → IsTurn out (λ s. covers s i) ss

-- of the ranges that pass the test it has the outermost edge; none, where none passes
pub record IsBestOf (out : ℕ → ℕ → Bool) (test : Stretch → Bool) (ss : List Stretch) (b : ℕ) : Type 0 where
  pub one : Stretch
  pub in' : Member one ss
  pub passes : test one ≡ true
  pub place : one.place ≡ b
  pub none : (s : Stretch) → Member s ss → test s ≡ true → out s.place b ≡ false

abbrev pub IsBest : (ℕ → ℕ → Bool) → (Stretch → Bool) → List Stretch → Option ℕ → Type 0
IsBest out test ss None = (s : Stretch) → Member s ss → test s ≡ false
IsBest out test ss (Some b) = IsBestOf out test ss b

-- so it is of each slab, of the ranges that pass the test there
abbrev pub AreBest : (ℕ → ℕ → Bool) → (Stretch → ℕ → Bool) → List Stretch → List (Option ℕ) → Type 0
AreBest out test ss slabs = (i : ℕ) → IsBest out (λ s. test s i) ss (slice_index_or slabs i None)
