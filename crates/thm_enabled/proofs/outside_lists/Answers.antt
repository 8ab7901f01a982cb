use Rattle.thm_enabled.proofs.Allowed.{ByRules}
use Rattle.thm_enabled.proofs.Bodies.{outside_bodies}
use Rattle.thm_enabled.proofs.Theorems.{outside_asked}
use Rattle.thm_enabled.proofs.outside_lists.Goals as goal

pub returns-clause-exprs : goal.returns-clause-exprs
returns-clause-exprs c = let laws : ByRules = record {
  types = c.read_by_rules.ensures.types;
  paths = c.read_by_rules.ensures.paths;
  pats = c.read_by_rules.ensures.pats;
  exprs = c.read_by_rules.ensures.exprs;
  one_type = c.one_tree_by_rules.ensures.types;
  one_path = c.one_tree_by_rules.ensures.paths;
  one_pat = c.one_tree_by_rules.ensures.pats;
  one_expr = c.one_tree_by_rules.ensures.exprs;
  formals = c.formals_by_rules.ensures;
  one_formals = c.one_tree_by_rules.ensures.formals;
} in outside_asked laws

pub returns-clause-bodies : goal.returns-clause-bodies
returns-clause-bodies c = let laws : ByRules = record {
  types = c.read_by_rules.ensures.types;
  paths = c.read_by_rules.ensures.paths;
  pats = c.read_by_rules.ensures.pats;
  exprs = c.read_by_rules.ensures.exprs;
  one_type = c.one_tree_by_rules.ensures.types;
  one_path = c.one_tree_by_rules.ensures.paths;
  one_pat = c.one_tree_by_rules.ensures.pats;
  one_expr = c.one_tree_by_rules.ensures.exprs;
  formals = c.formals_by_rules.ensures;
  one_formals = c.one_tree_by_rules.ensures.formals;
} in outside_bodies laws
