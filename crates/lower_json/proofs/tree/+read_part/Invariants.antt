use Rattle.lower_json.proofs.tree.+read_part.Given as goal

abbrev pub decreases-read_part : goal.decreases-read_part
decreases-read_part l = l.levels
