use Rattle.thm_questions.proofs.Bodies.{everywhere}
use Rattle.thm_questions.proofs.Tree.{below, of_expr, of_pat, of_path, of_type}
use Rattle.thm_questions.proofs.by_list.Goals as goal

pub returns-clause-types : goal.returns-clause-types
returns-clause-types c = λ a b p t. (of_type a (everywhere a) p.left (below a (everywhere a) p.left) t p).same b

pub returns-clause-paths : goal.returns-clause-paths
returns-clause-paths c = λ a b p x. ((of_path a (everywhere a) p.left (below a (everywhere a) p.left) x).alone p).same b

pub returns-clause-pats : goal.returns-clause-pats
returns-clause-pats c = λ a b p x. (of_pat a (everywhere a) p.left (below a (everywhere a) p.left) x p).same b

pub returns-clause-exprs : goal.returns-clause-exprs
returns-clause-exprs c = λ a b p e. ((of_expr a (everywhere a) p.left (below a (everywhere a) p.left) e).expr p).same b
