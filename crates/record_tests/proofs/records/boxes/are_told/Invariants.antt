-- The counter is over the ledger that its blank was made for.
use Rattle.record_tests.proofs.records.boxes.are_told.Given as goal

abbrev pub ghosts-is_outside : goal.ghosts-is_outside
ghosts-is_outside a = record { name = a.blank.name; parts = a.blank.parts }
