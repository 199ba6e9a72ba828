use Rattle.std.specs.Prelude.{◌≡◌}
use Rattle.dcel_records.specs.RecordsView.{lists_of}
use Rattle.counted_looks.proofs.PartsSeen.{isolated_left}
use Rattle.arrangement.proofs.FacesRead.{AreIsolatedRead}
use Rattle.arrangement.proofs.faces.listed_isolated.Given as goal

-- the vertices that were read were taken
abbrev pub invariant-vertices : goal.invariant-vertices
invariant-vertices l = AreIsolatedRead (lists_of l.records) l.fn.face (λ done. l.found.items ≡ done) l.at

abbrev pub decreases-vertices : goal.decreases-vertices
decreases-vertices l = isolated_left (lists_of l.records) l.fn.face l.at
