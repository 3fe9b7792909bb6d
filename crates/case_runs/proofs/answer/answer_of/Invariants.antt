use Rattle.case_runs.proofs.answer.answer_of.Given as goal

abbrev pub ghosts-answered : goal.ghosts-answered
ghosts-answered g a = record { name = a.blank.name; parts = a.blank.parts }
