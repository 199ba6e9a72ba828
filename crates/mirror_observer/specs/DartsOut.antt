-- Darts by the vertices that they leave, so that a reader looks for none.
use Rattle.std.specs.Prelude.{◌≡◌, ℕ, List, Option, Some, None, IsSome}
use Rattle.slab_laws.specs.declared.names.DartId.{DartId}
use Rattle.slab_laws.specs.declared.names.VertexId.{VertexId}
use Rattle.slab_laws.specs.Tables.{row_at}
use Rattle.slab_laws.specs.View.{IsOutOf}
use Rattle.arr_notes.specs.NamedRows.{put}
use Rattle.mirror_observer.specs.declared.tables.DartEntry.{DartEntry}
use Rattle.mirror_observer.specs.Tables.{darts_of}

-- of each vertex that a dart leaves one such dart is known, and of no other vertex any (this project)
pub record AreOuts (ds : List (ℕ × DartEntry)) (os : List (ℕ × DartId)) : Type 0 where
  pub out : (v : VertexId) (d : DartId) → row_at os v.0 ≡ Some d → IsOutOf (darts_of ds) v d
  pub known : (v : VertexId) (d : DartId) → IsOutOf (darts_of ds) v d → IsSome (row_at os v.0)

-- the dart is known by the source of its entry, where it has one
abbrev pub put_out : Option DartEntry → DartId → List (ℕ × DartId) → List (ℕ × DartId)
put_out None d os = os
put_out (Some e) d os = put e.source.0 d os
