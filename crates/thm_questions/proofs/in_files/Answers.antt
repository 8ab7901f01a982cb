use Rattle.thm_questions.specs.Theorems.{nodes_in}
use Rattle.thm_questions.proofs.Files.{in_files}
use Rattle.thm_questions.proofs.Tree.{below, of_expr, of_pat, of_path, of_type}
use Rattle.thm_questions.proofs.in_files.Goals as goal

pub returns-clause-types : goal.returns-clause-types
returns-clause-types c = λ a area p w t. in_files area p w (of_type a (nodes_in area) p.left (below a (nodes_in area) p.left) t p)

pub returns-clause-paths : goal.returns-clause-paths
returns-clause-paths c = λ a area p w x. in_files area p w ((of_path a (nodes_in area) p.left (below a (nodes_in area) p.left) x).alone p)

pub returns-clause-pats : goal.returns-clause-pats
returns-clause-pats c = λ a area p w x. in_files area p w (of_pat a (nodes_in area) p.left (below a (nodes_in area) p.left) x p)

pub returns-clause-exprs : goal.returns-clause-exprs
returns-clause-exprs c = λ a area p w e. in_files area p w ((of_expr a (nodes_in area) p.left (below a (nodes_in area) p.left) e).expr p)
