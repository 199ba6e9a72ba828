-- Cycles by names: the classes that next makes of the names of darts.
use Rattle.std.specs.Prelude.{◌==◌, nat_lt, Bool, List, map}
use Rattle.slab_laws.specs.declared.names.DartId.{DartId}
use Rattle.slab_laws.specs.declared.classes.Link.{Link}
use Rattle.slab_laws.specs.Classes.{classes, class_of}
use Rattle.slab_laws.specs.Tables.{names}
use Rattle.slab_laws.specs.View.{View, dart_id, next_in}

abbrev pub same_name : DartId → DartId → Bool
same_name d e = d.0 == e.0

abbrev pub lower_name : DartId → DartId → Bool
lower_name d e = nat_lt d.0 e.0

-- the names of the darts that have records
abbrev pub dart_names : View → List DartId
dart_names v = map dart_id (names v.darts)

-- each with the one that follows
abbrev pub name_links : View → List (Link DartId)
name_links v = map (λ d. record { one = d; other = next_in v d }) (dart_names v)

-- one name for all darts of a cycle, by what the table says alone (CGAL manual, connected component of the boundary; by names: this project)
unfoldable pub cycle_label : View → DartId → DartId
cycle_label v d = class_of same_name (classes same_name lower_name (name_links v)) d
