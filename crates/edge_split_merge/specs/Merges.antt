-- When two edges may become one, and the change that tells of it.
use Rattle.std.specs.Prelude.{◌≡◌}
use Rattle.slab_laws.specs.declared.names.DartId.{DartId}
use Rattle.slab_laws.specs.declared.names.VertexId.{VertexId}
use Rattle.slab_laws.specs.View.{View}
use Rattle.arr_notes.specs.declared.change.Change.{Change}
use Rattle.arr_notes.specs.declared.change.Change.TheVariants.{MergeEdge}
use Rattle.sound_changes.specs.ChangeFits.{FitsMerge}

-- two edges on one line end at w, one coming in from its lower end and one going on to its upper, and no other (CGAL manual, `merge_edge`)
abbrev pub CanMerge : View → VertexId → Type 0
CanMerge v w = (d : DartId) × (n : DartId) × FitsMerge v w d n

-- the change tells of two edges in one: that of d, which came into w from its lower end, and that of n, which went on to the upper (this project)
abbrev pub TellsOfMerge : View → Change → VertexId → Type 0
TellsOfMerge v c w = (d : DartId) × (n : DartId) × FitsMerge v w d n × (c ≡ MergeEdge w d n)
