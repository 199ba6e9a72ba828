use Rattle.arrangement.proofs.layer_records.mapped_spot.Given as goal

abbrev pub ghosts-mapped_counted : goal.ghosts-mapped_counted
ghosts-mapped_counted a = record { name = a.blank.name; parts = a.blank.parts }
