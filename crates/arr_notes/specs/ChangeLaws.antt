-- What tables and views say after each change (this project).
use Rattle.std.specs.Prelude.{Bool}
use Rattle.exact_plane.specs.Point.{Point}
use Rattle.slab_laws.specs.declared.names.DartId.{DartId}
use Rattle.slab_laws.specs.declared.names.VertexId.{VertexId}
use Rattle.slab_laws.specs.Sound.{IsNamed}
use Rattle.slab_laws.specs.View.{View, DartRecord, HasVertex, HasDart}
use Rattle.arr_notes.specs.ViewChanges.{no_rows, with_vertex, without_vertex, with_pin, with_pair, without_pair, with_next, with_source, redirect}

-- ---- tables

-- ---- views
-- without rows no name has a record
abbrev pub NothingIsThere : Type 0
NothingIsThere = ((w : VertexId) → ¬ HasVertex no_rows w) × ((d : DartId) → ¬ HasDart no_rows d)

-- each change keeps names ascending
pub record AreNamesKept (v : View) : Type 0 where
  pub vertex : (w : VertexId) (p : Point) → IsNamed (with_vertex v w p)
  pub vertex_less : (w : VertexId) → IsNamed (without_vertex v w)
  pub pin : (w : VertexId) (b : Bool) → IsNamed (with_pin v w b)
  pub pair : (d m : DartId) (r s : DartRecord) → IsNamed (with_pair v d m r s)
  pub pair_less : (d m : DartId) → IsNamed (without_pair v d m)
  pub next : (d n : DartId) → IsNamed (with_next v d n)
  pub source : (d : DartId) (w : VertexId) → IsNamed (with_source v d w)
  pub redirected : (x y : DartId) → IsNamed (redirect v x y)
