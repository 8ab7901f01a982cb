use Rattle.thm_reading.proofs.One.{one_arg, one_bounds, one_expr, one_own, one_pat_kind, one_path, one_plain, one_stmt, one_type_kind}
use Rattle.thm_reading.proofs.One.{one_use_tree, one_value}
use Rattle.std.proofs.Common.{refl}
use Rattle.thm_reading.proofs.OneFormals.{one_formals}
use Rattle.thm_reading.proofs.one_tree_by_rules.Goals as goal

pub returns-clause-types : goal.returns-clause-types
returns-clause-types c = λ a p s k x y. one_type_kind a

pub returns-clause-paths : goal.returns-clause-paths
returns-clause-paths c = λ a p in_macro leading ss u x y. one_path a

pub returns-clause-use_trees : goal.returns-clause-use_trees
returns-clause-use_trees c = λ a p leading ss u x y. one_use_tree a

pub returns-clause-args : goal.returns-clause-args
returns-clause-args c = λ a p k x y. one_arg a

pub returns-clause-bounds : goal.returns-clause-bounds
returns-clause-bounds c = λ a p bs x y. one_bounds a

pub returns-clause-pats : goal.returns-clause-pats
returns-clause-pats c = λ a p s k x y. one_pat_kind a

pub returns-clause-exprs : goal.returns-clause-exprs
returns-clause-exprs c = λ a p s k x y. one_expr a

pub returns-clause-values : goal.returns-clause-values
returns-clause-values c = λ a p s k d x y. one_value a refl

pub returns-clause-blocks : goal.returns-clause-blocks
returns-clause-blocks c = λ a p m b x y. one_own a

pub returns-clause-plain_blocks : goal.returns-clause-plain_blocks
returns-clause-plain_blocks c = λ a p b x y. one_plain a

pub returns-clause-stmts : goal.returns-clause-stmts
returns-clause-stmts c = λ a p s k d x y. one_stmt a refl

pub returns-clause-formals : goal.returns-clause-formals
returns-clause-formals c = λ a p bare x y z. one_formals a
