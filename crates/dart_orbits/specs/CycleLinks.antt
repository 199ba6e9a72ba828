-- The links between the darts of a cycle, and its least dart, by their places.
use Rattle.std.specs.Prelude.{◌≡◌, ◌==◌, ◌<◌, ℕ, List, map, length, slice_index, slice_index_or}
use Rattle.std.specs.List.{position_or_len, range_with_len}
use Rattle.slab_laws.specs.declared.classes.Link.{Link}
use Rattle.slab_laws.specs.Rows.{dart_place, lead_list}
use Rattle.slab_laws.specs.Skeleton.{Skeleton}

-- the place k and the place that follows it (this project)
abbrev pub link_at : List ℕ → ℕ → Link ℕ
link_at nexts k = record { one = k; other = slice_index nexts k }

-- each place with the place that follows it (this project)
abbrev pub place_links : List ℕ → List (Link ℕ)
place_links nexts = map (link_at nexts) (range_with_len 0 (length nexts))

-- the places of the least darts of all cycles, ascending (this project)
abbrev pub cycle_leads : Skeleton → List ℕ
cycle_leads g = map (dart_place g) (lead_list g)

-- ---- tables by least darts
-- numbers below another
abbrev pub AreBelow : ℕ → List ℕ → Type 0
AreBelow n ks = (i : ℕ) → i < length ks → slice_index_or ks i 0 < n

-- at each of the first n numbers stands its place among all (this project)
abbrev pub TellPlaces : List ℕ → ℕ → List ℕ → Type 0
TellPlaces ks n places = (i : ℕ) → i < n → slice_index_or places (slice_index_or ks i 0) 0 ≡ position_or_len (λ k. slice_index_or ks i 0 == k) ks
