use Rattle.arrangement.proofs.arrangement.Arrangement.insert_path.Given as goal

abbrev pub ghosts-insert_path_counted : goal.ghosts-insert_path_counted
ghosts-insert_path_counted g a = record { name = a.blank.name; parts = a.blank.parts }
