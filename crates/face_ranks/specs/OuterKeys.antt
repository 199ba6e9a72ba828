-- The keys by which faces are ranked: one for each outer cycle.
use Rattle.std.specs.Prelude.{◌≡◌, List, Bool, map, filter}
use Rattle.slab_laws.specs.declared.names.CycleId.{CycleId}
use Rattle.slab_laws.specs.Darts.{source, target}
use Rattle.slab_laws.specs.FaceLists.{Lists}
use Rattle.slab_laws.specs.FacesSound.{lead_in}
use Rattle.slab_laws.specs.Kinds.{is_outer}
use Rattle.slab_laws.specs.Tables.{names}
use Rattle.slab_laws.specs.View.{View, Faces, cycle_id, kind_in, face_in}
use Rattle.dcel_records.specs.declared.ranks.RankKey.{RankKey}
use Rattle.dcel_records.specs.RecordsView.{RecordsView, tables_of, lists_of}

-- the ends of the least dart of a cycle, and the cycle's face (this project)
abbrev pub cycle_rank_key : View → Faces → Lists → CycleId → RankKey
cycle_rank_key v f l c = record { source = source (lead_in v (l.dart_on c)); target = target (lead_in v (l.dart_on c)); face = face_in f c }

abbrev pub is_outer_in : Faces → CycleId → Bool
is_outer_in f c = is_outer (kind_in f c)

-- those of the outer cycles among some
abbrev pub outer_keys_of : View → Faces → Lists → List CycleId → List RankKey
outer_keys_of v f l cs = map (cycle_rank_key v f l) (filter (is_outer_in f) cs)

-- those of all outer cycles, in the order of the names (this project)
abbrev pub outer_keys : View → Faces → Lists → List RankKey
outer_keys v f l = outer_keys_of v f l (map cycle_id (names f.cycles))

-- those keys are listed in the records (this project)
abbrev pub AreKeysListed : RecordsView → Type 0
AreKeysListed h = h.ranks.order ≡ outer_keys h.graph (tables_of h) (lists_of h)
