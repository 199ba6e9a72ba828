-- The counter is over the ledger that its blank was made for.
use Rattle.layer_tests.proofs.layers.zones.is_overlap_told.Given as goal

abbrev pub ghosts-zone_counted : goal.ghosts-zone_counted
ghosts-zone_counted g a = record { name = a.blank.name; parts = a.blank.parts }
