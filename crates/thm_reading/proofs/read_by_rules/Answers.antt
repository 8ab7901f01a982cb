use Rattle.thm_reading.proofs.Tree.{below, of_expr, of_pat, of_path, of_type}
use Rattle.thm_reading.proofs.read_by_rules.Goals as goal

pub returns-clause-types : goal.returns-clause-types
returns-clause-types c = λ a p t. of_type a p.left (below a p.left) t p

pub returns-clause-paths : goal.returns-clause-paths
returns-clause-paths c = λ a p x. (of_path a p.left (below a p.left) x).alone p

pub returns-clause-use_trees : goal.returns-clause-use_trees
returns-clause-use_trees c = λ a p x. (of_path a p.left (below a p.left) x).use_tree p

pub returns-clause-pats : goal.returns-clause-pats
returns-clause-pats c = λ a p x. of_pat a p.left (below a p.left) x p

pub returns-clause-exprs : goal.returns-clause-exprs
returns-clause-exprs c = λ a p e. (of_expr a p.left (below a p.left) e).expr p
