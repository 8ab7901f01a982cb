use Rattle.thm_frame.proofs.Tree.{below, of_expr, of_pat, of_path, of_type}
use Rattle.thm_frame.proofs.framed.Goals as goal

pub returns-clause-types : goal.returns-clause-types
returns-clause-types c = λ a area p w t. of_type a area p.left (below a area p.left) t p w

pub returns-clause-paths : goal.returns-clause-paths
returns-clause-paths c = λ a area p w x. (of_path a area p.left (below a area p.left) x).alone p w

pub returns-clause-pats : goal.returns-clause-pats
returns-clause-pats c = λ a area p w x. of_pat a area p.left (below a area p.left) x p w

pub returns-clause-exprs : goal.returns-clause-exprs
returns-clause-exprs c = λ a area p w e. (of_expr a area p.left (below a area p.left) e).expr p w
