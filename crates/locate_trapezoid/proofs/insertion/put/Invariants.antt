use Rattle.locate_trapezoid.proofs.insertion.put.Given as goal

abbrev pub ghosts-put_vertex : goal.ghosts-put_vertex
ghosts-put_vertex a = record { name = a.blank.name; parts = a.blank.parts }
