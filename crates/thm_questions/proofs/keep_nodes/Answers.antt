use Rattle.thm_questions.proofs.Bodies.{alike_there, bodies_keep, keeps}
use Rattle.thm_questions.proofs.Tree.{below, of_expr, of_pat, of_path, of_type}
use Rattle.thm_questions.proofs.keep_nodes.Goals as goal

pub returns-clause-lists : goal.returns-clause-lists
returns-clause-lists c = λ a area b h qs k l. alike_there a area b h qs k l

pub returns-clause-types : goal.returns-clause-types
returns-clause-types c = λ a area b h p t in_p l. keeps a area b h (of_type a area p.left (below a area p.left) t p) in_p.0 in_p.1 l

pub returns-clause-paths : goal.returns-clause-paths
returns-clause-paths c = λ a area b h p x in_p l. keeps a area b h ((of_path a area p.left (below a area p.left) x).alone p) in_p.0 in_p.1 l

pub returns-clause-pats : goal.returns-clause-pats
returns-clause-pats c = λ a area b h p x in_p l. keeps a area b h (of_pat a area p.left (below a area p.left) x p) in_p.0 in_p.1 l

pub returns-clause-exprs : goal.returns-clause-exprs
returns-clause-exprs c = λ a area b h p e in_p l. keeps a area b h ((of_expr a area p.left (below a area p.left) e).expr p) in_p.0 in_p.1 l

pub returns-clause-bodies : goal.returns-clause-bodies
returns-clause-bodies c = λ a area b h item p q ps e in_p in_q l. bodies_keep a area b h item p q ps e in_p in_q l
