use Rattle.locate_landmarks.proofs.landmarks.spot_of.Given as goal

abbrev pub ghosts-climb_counted : goal.ghosts-climb_counted
ghosts-climb_counted a = record { name = a.blank.name; parts = a.blank.parts }
