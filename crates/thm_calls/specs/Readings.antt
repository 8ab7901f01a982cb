-- What each public call takes from its environment, of what it is handed. No clause of its contract speaks of anything else that the
-- environment answers.
use Rattle.std.specs.Prelude.{Bool, List, Option}
use Rattle.hir_base.specs.declared.node.AstPtr.{AstPtr}
use Rattle.hir_base.specs.declared.node.HirFileId.{HirFileId}
use Rattle.hir_syntax.specs.declared.ast.Expr.{Expr as AstExpr}
use Rattle.hir_syntax.specs.declared.ast.Path.{Path as AstPath, out-Path}
use Rattle.hir_syntax.specs.declared.params.ParamList.{ParamList as AstParamList}
use Rattle.hir_syntax.specs.declared.types.Type_.{Type_ as AstType_}
use Rattle.hir_store.specs.declared.ids.DefWithBodyId.{DefWithBodyId}
use Rattle.hir_store.specs.declared.ids.ModuleId.{ModuleId}
use Rattle.hir_env.specs.ResolvedTree.{OptionExpr, OptionPath, OptionType}
use Rattle.hir_env.specs.Answers.{Answers}
use Rattle.hir_env.specs.Wrapped.{AstConstArg}
use Rattle.hir_env.specs.declared.ctx.ImplTrait.{ImplTrait}
use Rattle.hir_env.specs.declared.ctx.LoweringMode.{LoweringMode}
use Rattle.hir_env.specs.declared.ctx.LowerCtx.{LowerCtx}
use Rattle.spec_data.specs.Data.{OptionArgsData}
use Rattle.spec_data.specs.Segments.{first_trait}
use Rattle.hir_lower.specs.Beside.{args_of_named}
use Rattle.hir_lower.specs.Inputs.{BodyInput, body_input, const_input, path_input, path_rctx}
use Rattle.hir_lower.specs.Means.{whole_type}
use Rattle.hir_lower.specs.Roots.{outside_body, type_rctx}

-- `lower_body`

-- what it is handed, except for memory and environment
pub record BodyCall : Type 0 where
  pub owner : DefWithBodyId
  pub node : AstPtr
  pub file_id : HirFileId
  pub inside : ModuleId
  pub params : Option AstParamList
  pub body : Option AstExpr
  pub is_async : Bool
  pub is_gen : Bool

-- in the order of its parameters
abbrev pub body_call : DefWithBodyId → AstPtr → HirFileId → ModuleId → Option AstParamList → Option AstExpr → Bool → Bool → BodyCall
body_call owner node file inside ps e is_async is_gen = record {
  owner = owner;
  node = node;
  file_id = file;
  inside = inside;
  params = ps;
  body = e;
  is_async = is_async;
  is_gen = is_gen;
}

abbrev pub body_reading : BodyCall → Answers → BodyInput
body_reading c env = body_input env c.owner c.node c.file_id c.inside c.params c.body c.is_async c.is_gen

-- `lower_type_ref`

abbrev pub type_reading : HirFileId → ModuleId → Option AstType_ → Answers → OptionType
type_reading file inside t env = whole_type (type_rctx env file inside) t

-- `lower_const_arg` and `lower_path`, at the place of the collector, which is where it was made to read

abbrev pub const_reading_at : LowerCtx → AstConstArg → Answers → OptionExpr
const_reading_at p x env = const_input env p x

abbrev pub const_reading : HirFileId → ModuleId → LoweringMode → AstConstArg → Answers → OptionExpr
const_reading file inside mode x env = const_reading_at (outside_body env file inside mode) x env

-- the path, and what is written behind the segments that bear its names
pub record PathReading : Type 0 where
  pub read : OptionPath
  pub arguments : List OptionArgsData

-- where an `impl` becomes this
abbrev pub path_reading_at : LowerCtx → ImplTrait → AstPath → Answers → PathReading
path_reading_at p impl x env = let ss = (out-Path x).segs in record {
  read = path_input env p impl x;
  arguments = args_of_named (path_rctx env p impl) (first_trait ss) ss;
}

abbrev pub path_reading : HirFileId → ModuleId → LoweringMode → ImplTrait → AstPath → Answers → PathReading
path_reading file inside mode impl x env = path_reading_at (outside_body env file inside mode) impl x env
