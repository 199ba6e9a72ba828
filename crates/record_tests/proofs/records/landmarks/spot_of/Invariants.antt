use Rattle.record_tests.proofs.records.landmarks.spot_of.Given as goal

abbrev pub ghosts-spot_counted : goal.ghosts-spot_counted
ghosts-spot_counted a = record { name = a.blank.name; parts = a.blank.parts }
