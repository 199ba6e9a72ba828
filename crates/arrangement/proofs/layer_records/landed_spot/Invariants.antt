use Rattle.arrangement.proofs.layer_records.landed_spot.Given as goal

abbrev pub ghosts-landed_counted : goal.ghosts-landed_counted
ghosts-landed_counted a = record { name = a.blank.name; parts = a.blank.parts }
