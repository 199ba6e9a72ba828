use Rattle.std.specs.Prelude.{◌≡◌, map, filter}
use Rattle.slab_laws.specs.View.{kind_in}
use Rattle.dcel_records.specs.RecordsView.{lists_of, tables_of}
use Rattle.listed_faces.specs.FaceParts.{is_kind}
use Rattle.counted_looks.proofs.PartsSeen.{cycles_left}
use Rattle.arrangement.proofs.FacesRead.{AreCyclesRead}
use Rattle.arrangement.proofs.faces.kept_boundaries.Given as goal

-- of the cycles that were read, those of the kind were taken
abbrev pub invariant-cycles : goal.invariant-cycles
invariant-cycles l = AreCyclesRead (lists_of l.records) l.fn.face (λ done. l.found.items ≡ map (lists_of l.records).dart_on (filter (λ c. is_kind l.kind (kind_in (tables_of l.records) c)) done)) l.at

abbrev pub decreases-cycles : goal.decreases-cycles
decreases-cycles l = cycles_left (lists_of l.records) l.fn.face l.at
