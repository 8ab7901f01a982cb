-- Where a tree is lowered, made names stay apart: what the one induction says of its parts.
use Rattle.std.proofs.Common.{Option}
use Rattle.hir_env.specs.ResolvedTree.{Binder, Constant, OptionArgs, OptionExpr, OptionPat, OptionPath, OptionType, Type_}
use Rattle.hir_lower_builder.specs.Lower.{args_part, lower_constant, lower_part, lower_path, lower_rooted, lower_top, lower_type}
use Rattle.hir_lower_builder.specs.Lower.{present_type, type_part}
use Rattle.thm_logic.proofs.Apart.{Apart}
use Rattle.thm_logic.proofs.AsApart.{apart_graded}
use Rattle.thm_logic.proofs.GradedTree as graded
use Rattle.thm_logic.proofs.Logic.{Correct}

pub one_type_apart : (b : Option Binder) (t : Type_) → Correct (lower_type b t) Apart
one_type_apart b t = graded.type_graded apart_graded b t

pub type_apart : (b : Option Binder) (t : OptionType) → Correct (type_part b t) Apart
type_apart b t = graded.part_graded apart_graded b t

pub present_type_apart : (t : OptionType) → Correct (present_type t) Apart
present_type_apart t = graded.present_graded apart_graded t

pub lower_path_apart : (p : OptionPath) → Correct (lower_path p) Apart
lower_path_apart p = (graded.path_graded apart_graded p).claim

pub args_apart : (as' : OptionArgs) → Correct (args_part as') Apart
args_apart as' = (graded.args_graded apart_graded as').claim

pub a_constant_apart : (c : Constant) → Correct (lower_constant c) Apart
a_constant_apart c = graded.constant_graded apart_graded c

pub rooted_apart : (c : Constant) → Correct (lower_rooted c) Apart
rooted_apart c = graded.rooted_graded apart_graded c

pub top_apart : (p : OptionPat) → Correct (lower_top p) Apart
top_apart p = graded.top_graded apart_graded p

pub part_apart : (e : OptionExpr) → Correct (lower_part e) Apart
part_apart e = graded.expr_part_graded apart_graded e
