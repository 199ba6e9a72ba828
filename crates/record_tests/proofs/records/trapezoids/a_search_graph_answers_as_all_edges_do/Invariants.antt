use Rattle.record_tests.proofs.records.trapezoids.a_search_graph_answers_as_all_edges_do.Given as goal

abbrev pub ghosts-are_alike : goal.ghosts-are_alike
ghosts-are_alike g a = record { name = a.blank.name; parts = a.blank.parts }
