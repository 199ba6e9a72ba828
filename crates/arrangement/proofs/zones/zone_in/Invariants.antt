use Rattle.arrangement.proofs.zones.zone_in.Given as goal

abbrev pub ghosts-zone_counted : goal.ghosts-zone_counted
ghosts-zone_counted a = record { name = a.blank.name; parts = a.blank.parts }
