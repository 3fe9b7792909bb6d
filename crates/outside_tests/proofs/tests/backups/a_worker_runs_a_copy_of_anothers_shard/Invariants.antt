use Rattle.outside_tests.proofs.tests.backups.a_worker_runs_a_copy_of_anothers_shard.Given as goal

abbrev pub ghosts-answered : goal.ghosts-answered
ghosts-answered b a = record { name = a.blank.name; parts = a.blank.parts }
