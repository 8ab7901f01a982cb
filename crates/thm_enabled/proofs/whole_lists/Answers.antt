use Rattle.thm_enabled.proofs.Allowed.{ByRules}
use Rattle.thm_enabled.proofs.Theorems.{exprs_asked, paths_asked, pats_asked, types_asked}
use Rattle.thm_enabled.proofs.whole_lists.Goals as goal

pub returns-clause-types : goal.returns-clause-types
returns-clause-types c = let laws : ByRules = record {
  types = c.read_by_rules.ensures.types;
  paths = c.read_by_rules.ensures.paths;
  pats = c.read_by_rules.ensures.pats;
  exprs = c.read_by_rules.ensures.exprs;
  one_type = c.one_tree_by_rules.ensures.types;
  one_path = c.one_tree_by_rules.ensures.paths;
  one_pat = c.one_tree_by_rules.ensures.pats;
  one_expr = c.one_tree_by_rules.ensures.exprs;
  formals = c.formals_by_rules.ensures;
  one_formals = c.one_tree_by_rules.ensures.formals;
} in types_asked laws

pub returns-clause-paths : goal.returns-clause-paths
returns-clause-paths c = let laws : ByRules = record {
  types = c.read_by_rules.ensures.types;
  paths = c.read_by_rules.ensures.paths;
  pats = c.read_by_rules.ensures.pats;
  exprs = c.read_by_rules.ensures.exprs;
  one_type = c.one_tree_by_rules.ensures.types;
  one_path = c.one_tree_by_rules.ensures.paths;
  one_pat = c.one_tree_by_rules.ensures.pats;
  one_expr = c.one_tree_by_rules.ensures.exprs;
  formals = c.formals_by_rules.ensures;
  one_formals = c.one_tree_by_rules.ensures.formals;
} in paths_asked laws

pub returns-clause-pats : goal.returns-clause-pats
returns-clause-pats c = let laws : ByRules = record {
  types = c.read_by_rules.ensures.types;
  paths = c.read_by_rules.ensures.paths;
  pats = c.read_by_rules.ensures.pats;
  exprs = c.read_by_rules.ensures.exprs;
  one_type = c.one_tree_by_rules.ensures.types;
  one_path = c.one_tree_by_rules.ensures.paths;
  one_pat = c.one_tree_by_rules.ensures.pats;
  one_expr = c.one_tree_by_rules.ensures.exprs;
  formals = c.formals_by_rules.ensures;
  one_formals = c.one_tree_by_rules.ensures.formals;
} in pats_asked laws

pub returns-clause-exprs : goal.returns-clause-exprs
returns-clause-exprs c = let laws : ByRules = record {
  types = c.read_by_rules.ensures.types;
  paths = c.read_by_rules.ensures.paths;
  pats = c.read_by_rules.ensures.pats;
  exprs = c.read_by_rules.ensures.exprs;
  one_type = c.one_tree_by_rules.ensures.types;
  one_path = c.one_tree_by_rules.ensures.paths;
  one_pat = c.one_tree_by_rules.ensures.pats;
  one_expr = c.one_tree_by_rules.ensures.exprs;
  formals = c.formals_by_rules.ensures;
  one_formals = c.one_tree_by_rules.ensures.formals;
} in exprs_asked laws
