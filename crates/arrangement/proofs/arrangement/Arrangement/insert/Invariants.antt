use Rattle.arrangement.proofs.arrangement.Arrangement.insert.Given as goal

abbrev pub ghosts-insert_counted : goal.ghosts-insert_counted
ghosts-insert_counted g a = record { name = a.blank.name; parts = a.blank.parts }
