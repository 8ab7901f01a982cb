use Rattle.thm_questions.proofs.Tree.{below, of_expr, of_pat, of_path, of_type}
use Rattle.thm_questions.proofs.at_nodes.Goals as goal

pub returns-clause-types : goal.returns-clause-types
returns-clause-types c = λ a area p t h. (of_type a area p.left (below a area p.left) t p).there h.0 h.1

pub returns-clause-paths : goal.returns-clause-paths
returns-clause-paths c = λ a area p x h. ((of_path a area p.left (below a area p.left) x).alone p).there h.0 h.1

pub returns-clause-pats : goal.returns-clause-pats
returns-clause-pats c = λ a area p x h. (of_pat a area p.left (below a area p.left) x p).there h.0 h.1

pub returns-clause-exprs : goal.returns-clause-exprs
returns-clause-exprs c = λ a area p e h. ((of_expr a area p.left (below a area p.left) e).expr p).there h.0 h.1
