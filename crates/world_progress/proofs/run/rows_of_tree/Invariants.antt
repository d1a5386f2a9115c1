use Rattle.world_progress.proofs.run.rows_of_tree.Given as goal

abbrev pub ghosts-counted_rows : goal.ghosts-counted_rows
ghosts-counted_rows g a = record { name = a.blank.name; parts = a.blank.parts }
