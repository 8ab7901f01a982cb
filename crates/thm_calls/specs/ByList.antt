-- How long what a call promised of its result holds, with the list of what is asked for it: as long as that is answered alike.
use Rattle.std.specs.Prelude.{List, [], ◌∷◌, ◌++◌, Option, Some, None}
use Rattle.hir_base.specs.declared.node.HirFileId.{HirFileId}
use Rattle.hir_syntax.specs.declared.ast.Path.{Path as AstPath, out-Path}
use Rattle.hir_syntax.specs.declared.ast.PathSegment.{PathSegment as AstSegment, out-PathSegment}
use Rattle.hir_syntax.specs.declared.items.Fn.{Fn}
use Rattle.hir_syntax.specs.declared.items.GenericParam.{GenericParam}
use Rattle.hir_syntax.specs.declared.items.Impl.{Impl}
use Rattle.hir_syntax.specs.declared.items.Trait.{Trait}
use Rattle.hir_syntax.specs.declared.items.TypeAlias.{TypeAlias}
use Rattle.hir_syntax.specs.declared.items.WherePred.{WherePred}
use Rattle.hir_syntax.specs.declared.types.PathType.{PathType as AstPathType, out-PathType}
use Rattle.hir_syntax.specs.declared.types.Type_.{Type_ as AstType_}
use Rattle.hir_store.specs.declared.ids.FunctionId.{FunctionId}
use Rattle.hir_store.specs.declared.ids.GenericDefId.{GenericDefId}
use Rattle.hir_store.specs.declared.ids.GenericDefId.TheVariants as definition
use Rattle.hir_store.specs.declared.ids.ImplId.{ImplId}
use Rattle.hir_store.specs.declared.ids.ItemContainerId.{ItemContainerId}
use Rattle.hir_store.specs.declared.ids.ModuleId.{ModuleId}
use Rattle.hir_store.specs.declared.ids.TraitId.{TraitId}
use Rattle.hir_store.specs.declared.ids.TypeAliasId.{TypeAliasId}
use Rattle.hir_env.specs.Answers.{Answers}
use Rattle.hir_env.specs.Paths.{inside_constant}
use Rattle.hir_env.specs.ResolveCtx.{ResolveCtx}
use Rattle.hir_env.specs.Wrapped.{AstConstArg}
use Rattle.hir_env.specs.declared.ctx.ImplTrait.{ImplTrait}
use Rattle.hir_env.specs.declared.ctx.LoweringMode.{LoweringMode}
use Rattle.hir_env.specs.declared.ctx.LoweringMode.TheVariants.{Analysis}
use Rattle.spec_data.specs.Segments.{all_but_first, first_trait, named_among}
use Rattle.thm_frame.specs.Questions.{AllAlike, Question, of_expansion_limit}
use Rattle.thm_questions.specs.Lists.{body_questions, path_questions, questions, segment_questions, type_questions}
use Rattle.thm_questions.specs.Parts.{of_each, of_option}
use Rattle.thm_item_questions.specs.Lists.{alias_questions, function_questions, generics_questions, impl_questions, trait_questions}
use Rattle.hir_lower_callbacks.specs.ResolveCtxs.{rctx_at}
use Rattle.hir_lower.specs.Beside.{in_projection, segments_in}
use Rattle.hir_lower.specs.Formals.{outside_place}
use Rattle.hir_lower.specs.Items.{read_alias, read_function, read_generics, read_impl, read_trait}
use Rattle.hir_lower.specs.Roots.{becoming, body_rctx, outside_body, type_rctx}
use Rattle.thm_calls.specs.Promises.{AliasPromise, BodyPromise, ConstPromise, FunctionPromise, GenericsPromise, ImplPromise}
use Rattle.thm_calls.specs.Promises.{PathPromise, TraitPromise, TypePromise}
use Rattle.thm_calls.specs.Readings.{BodyCall, body_reading, const_reading, path_reading, type_reading}

-- what is asked for a call, of what it is handed

abbrev pub body_call_asks : BodyCall → Answers → List Question
body_call_asks c a = let p = (body_rctx a c.owner c.file_id c.inside c.is_async).place in
    body_questions a c.owner p (outside_place p) c.params c.body

abbrev pub type_call_asks : HirFileId → ModuleId → Option AstType_ → Answers → List Question
type_call_asks file inside t a = of_expansion_limit ∷ of_option (type_questions (type_rctx a file inside)) t

abbrev pub const_call_asks : HirFileId → ModuleId → LoweringMode → AstConstArg → Answers → List Question
const_call_asks file inside mode x a =
    of_expansion_limit ∷ of_option (questions (rctx_at a (inside_constant (outside_body a file inside mode)))) x

-- of a path also what is asked for what is written behind the segments that bear its names

abbrev pub segments_ask : ResolveCtx → List (Option AstSegment) → List Question
segments_ask at ss = of_each (segment_questions at) (named_among ss)

abbrev pub in_front_asks : ResolveCtx → List (Option AstSegment) → List Question
in_front_asks at (Some s ∷ ss) = of_option (type_questions (in_projection at)) (out-PathSegment s).ty
in_front_asks at _ = []

abbrev pub beside_asks : ResolveCtx → Option AstPathType → List (Option AstSegment) → List Question
beside_asks at None ss = segments_ask at ss
beside_asks at (Some t) ss = in_front_asks at ss
    ++ (segments_ask (in_projection at) (segments_in (out-PathType t).path) ++ segments_ask at (all_but_first ss))

abbrev pub path_call_asks : HirFileId → ModuleId → LoweringMode → ImplTrait → AstPath → Answers → List Question
path_call_asks file inside mode impl x a =
    let at = rctx_at a (becoming (outside_body a file inside mode) impl) in let ss = (out-Path x).segs in
    of_expansion_limit ∷ (path_questions at x ++ beside_asks at (first_trait ss) ss)

-- an alias in the module of what contains it

abbrev pub generics_call_asks : HirFileId → ModuleId → LoweringMode → GenericDefId → Option (List GenericParam) → Option (List WherePred)
    → Answers → List Question
generics_call_asks file inside mode def ps ws a = generics_questions a (outside_body a file inside mode) def ps ws

abbrev pub impl_call_asks : HirFileId → ModuleId → ImplId → Impl → Answers → List Question
impl_call_asks file inside id x a = impl_questions a (outside_body a file inside Analysis) (definition.ImplId id) x

abbrev pub trait_call_asks : HirFileId → ModuleId → TraitId → Trait → Answers → List Question
trait_call_asks file inside id x a = trait_questions a (outside_body a file inside Analysis) (definition.TraitId id) x

abbrev pub alias_call_asks : HirFileId → ItemContainerId → TypeAliasId → TypeAlias → Answers → List Question
alias_call_asks file container id x a =
    alias_questions a (outside_body a file (a.module_of container) Analysis) (definition.TypeAliasId id) container x

abbrev pub function_call_asks : HirFileId → ModuleId → FunctionId → Fn → Answers → List Question
function_call_asks file inside id x a = function_questions a (outside_body a file inside Analysis) (definition.FunctionId id) x

-- what is so of an outcome by the one is so of it by the other
abbrev pub Passes : {R : Type 0} → (R → Type 0) → (R → Type 0) → Type 0
Passes {R} before after = (r : R) → before r → after r

-- All that is promised of an outcome by the one environment is so of it by each other one that answers that alike.

abbrev pub BodyLastsByList : Type 0
BodyLastsByList = (a b : Answers) (c : BodyCall) → AllAlike a b (body_call_asks c a)
    → Passes (BodyPromise (body_reading c a)) (BodyPromise (body_reading c b))

abbrev pub TypeRefLastsByList : Type 0
TypeRefLastsByList = (a b : Answers) (file : HirFileId) (inside : ModuleId) (t : Option AstType_)
    → AllAlike a b (type_call_asks file inside t a)
    → Passes (TypePromise (type_reading file inside t a)) (TypePromise (type_reading file inside t b))

abbrev pub ConstArgLastsByList : Type 0
ConstArgLastsByList = (a b : Answers) (file : HirFileId) (inside : ModuleId) (mode : LoweringMode) (x : AstConstArg)
    → AllAlike a b (const_call_asks file inside mode x a)
    → Passes (ConstPromise (const_reading file inside mode x a)) (ConstPromise (const_reading file inside mode x b))

abbrev pub PathLastsByList : Type 0
PathLastsByList = (a b : Answers) (file : HirFileId) (inside : ModuleId) (mode : LoweringMode) (impl : ImplTrait) (x : AstPath)
    → AllAlike a b (path_call_asks file inside mode impl x a)
    → Passes (PathPromise x (path_reading file inside mode impl x a)) (PathPromise x (path_reading file inside mode impl x b))

abbrev pub GenericParamsLastByList : Type 0
GenericParamsLastByList = (a b : Answers) (file : HirFileId) (inside : ModuleId) (mode : LoweringMode) (def : GenericDefId)
    (ps : Option (List GenericParam)) (ws : Option (List WherePred)) → AllAlike a b (generics_call_asks file inside mode def ps ws a)
    → Passes (GenericsPromise def (read_generics a file inside mode def ps ws))
    (GenericsPromise def (read_generics b file inside mode def ps ws))

abbrev pub ImplLastsByList : Type 0
ImplLastsByList = (a b : Answers) (file : HirFileId) (inside : ModuleId) (id : ImplId) (x : Impl)
    → AllAlike a b (impl_call_asks file inside id x a)
    → Passes (ImplPromise id (read_impl a file inside id x)) (ImplPromise id (read_impl b file inside id x))

abbrev pub TraitLastsByList : Type 0
TraitLastsByList = (a b : Answers) (file : HirFileId) (inside : ModuleId) (id : TraitId) (x : Trait)
    → AllAlike a b (trait_call_asks file inside id x a)
    → Passes (TraitPromise id (read_trait a file inside id x)) (TraitPromise id (read_trait b file inside id x))

abbrev pub TypeAliasLastsByList : Type 0
TypeAliasLastsByList = (a b : Answers) (file : HirFileId) (container : ItemContainerId) (id : TypeAliasId) (x : TypeAlias)
    → AllAlike a b (alias_call_asks file container id x a)
    → Passes (AliasPromise id (read_alias a file container id x)) (AliasPromise id (read_alias b file container id x))

abbrev pub FunctionLastsByList : Type 0
FunctionLastsByList = (a b : Answers) (file : HirFileId) (inside : ModuleId) (id : FunctionId) (x : Fn)
    → AllAlike a b (function_call_asks file inside id x a)
    → Passes (FunctionPromise id (read_function a file inside id x)) (FunctionPromise id (read_function b file inside id x))
