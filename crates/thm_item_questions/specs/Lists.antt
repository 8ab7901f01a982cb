-- The list of what reading an item asks of an environment. Of a disabled parameter its condition alone is asked, and of a part that isn't
-- read nothing.
use Rattle.std.specs.Prelude.{Bool, true, false, List, [], ◌∷◌, ◌++◌, Option, Some, None, option_map, Result, Ok, Err}
use Rattle.hir_syntax.specs.declared.ast.ElseBranch.TheOpen.{TypeKind-F}
use Rattle.hir_syntax.specs.declared.ast.Lifetime.{Lifetime as AstLifetime}
use Rattle.hir_syntax.specs.declared.items.Fn.{Fn as AstFn}
use Rattle.hir_syntax.specs.declared.items.GenericParam.{GenericParam as AstGenericParam}
use Rattle.hir_syntax.specs.declared.items.GenericParam.TheVariants as param
use Rattle.hir_syntax.specs.declared.items.Impl.{Impl as AstImpl}
use Rattle.hir_syntax.specs.declared.items.Trait.{Trait as AstTrait}
use Rattle.hir_syntax.specs.declared.items.TypeAlias.{TypeAlias as AstTypeAlias}
use Rattle.hir_syntax.specs.declared.items.WherePred.{WherePred as AstWherePred}
use Rattle.hir_syntax.specs.declared.params.ParamList.{ParamList as AstParamList}
use Rattle.hir_syntax.specs.declared.params.SelfParam.{SelfParam as AstSelfParam}
use Rattle.hir_syntax.specs.declared.types.Param.{Param as AstParam, out-Param}
use Rattle.hir_syntax.specs.declared.types.TypeBound.{TypeBound as AstTypeBound}
use Rattle.hir_syntax.specs.declared.types.TypeKind.{out-TypeKind}
use Rattle.hir_syntax.specs.declared.types.Type_.{Type_ as AstType}
use Rattle.hir_store.specs.declared.ids.CfgId.{CfgId}
use Rattle.hir_store.specs.declared.ids.GenericDefId.{GenericDefId}
use Rattle.hir_store.specs.declared.ids.ItemContainerId.{ItemContainerId}
use Rattle.hir_store.specs.declared.type_ref.LifetimeRef.{LifetimeRef}
use Rattle.hir_store.specs.declared.type_ref.LifetimeRef.TheVariants as lifetime
use Rattle.hir_env.specs.ResolvedTree.{Lifetime}
use Rattle.hir_env.specs.Answers.{Answers}
use Rattle.hir_env.specs.Paths.{inside_constant, lifetime_of}
use Rattle.hir_env.specs.ResolveCtx.{ResolveCtx}
use Rattle.hir_env.specs.TypeLayers.{TypeKindLayer}
use Rattle.hir_env.specs.Whole.{written}
use Rattle.hir_env.specs.Wrapped.{AstConstArg, AstRetType}
use Rattle.hir_env.specs.NodeMap.{Site}
use Rattle.hir_env.specs.ResolveCtx.{site_of}
use Rattle.hir_env.specs.declared.ctx.LowerCtx.{LowerCtx}
use Rattle.hir_lower_item.specs.Answering.{at_place, in_arguments, in_bounds, in_opaque, in_output, in_plain, in_self_bounds, in_target}
use Rattle.hir_lower_item.specs.Answering.{param_pointer}
use Rattle.thm_frame.specs.Theorems.{rctx, with_limit}
use Rattle.thm_frame.specs.Questions.{Question, of_cfg, of_expansion_limit, of_module}
use Rattle.thm_questions.specs.Asked.{own_site}
use Rattle.thm_questions.specs.Lists.{bound_questions, path_questions, questions, type_questions}
use Rattle.thm_questions.specs.Parts.{of_each, of_option}
use Rattle.thm_item_frame.specs.Theorems.{in_container}

-- a condition, and behind it what is asked where it doesn't disable

abbrev pub where_enabled : Result (Unit {0}) CfgId → List Question → List Question
where_enabled (Ok _) qs = qs
where_enabled (Err by) qs = []

abbrev pub behind_cfg : Answers → Site → List Question → List Question
behind_cfg a s qs = of_cfg s ∷ where_enabled (a.cfg s) qs

-- a lifetime that has no name makes no parameter, and its bounds aren't read

abbrev pub where_named : LifetimeRef → List Question → List Question
where_named (lifetime.Named n) qs = qs
where_named _ qs = []

abbrev pub where_parameter : Option Lifetime → List Question → List Question
where_parameter None qs = []
where_parameter (Some l) qs = where_named l.lifetime qs

-- parts

abbrev pub types_in : ResolveCtx → Option AstType → List Question
types_in at t = of_option (type_questions at) t

abbrev pub bounds_in : ResolveCtx → List AstTypeBound → List Question
bounds_in at bs = of_each (bound_questions at) bs

abbrev pub constant_in : ResolveCtx → AstConstArg → List Question
constant_in at x = of_option (questions (at_place inside_constant at)) x

abbrev pub ret_in : ResolveCtx → Option AstRetType → List Question
ret_in at r = of_option (types_in at) r

-- what is generic

abbrev pub kept_param_in : ResolveCtx → GenericDefId → AstGenericParam → List Question
kept_param_in at def (param.TypeParam id range n bs d) = types_in (at_place in_plain at) d ++ bounds_in (at_place (in_bounds def) at) bs
kept_param_in at def (param.ConstParam id range n t d) =
    types_in (at_place in_plain at) t ++ of_option (constant_in (at_place in_plain at)) d
kept_param_in at def (param.LifetimeParam id range l bs) =
    where_parameter (option_map (lifetime_of (in_plain at.place)) l) (bounds_in (at_place (in_bounds def) at) bs)

abbrev pub param_in : ResolveCtx → GenericDefId → AstGenericParam → List Question
param_in at def x = behind_cfg at.answers (site_of (param_pointer at.place x)) (kept_param_in at def x)

-- one of nothing isn't read
abbrev pub predicate_of_in : ResolveCtx → GenericDefId → Option AstType → Option AstLifetime → List AstTypeBound → List Question
predicate_of_in at def (Some t) l bs = type_questions (at_place in_target at) t ++ bounds_in (at_place (in_bounds def) at) bs
predicate_of_in at def None (Some l) bs = bounds_in (at_place (in_bounds def) at) bs
predicate_of_in at def None None bs = []

abbrev pub predicate_in : ResolveCtx → GenericDefId → AstWherePred → List Question
predicate_in at def x = predicate_of_in at def x.ty x.lifetime x.bounds

abbrev pub generics_in : ResolveCtx → GenericDefId → Option (List AstGenericParam) → Option (List AstWherePred) → List Question
generics_in at def ps ws = of_option (of_each (param_in at def)) ps ++ of_option (of_each (predicate_in at def)) ws

-- functions

abbrev pub receiver_in : ResolveCtx → GenericDefId → AstSelfParam → List Question
receiver_in at def x = behind_cfg at.answers (own_site at.place x.id) (types_in (at_place (in_arguments def) at) x.ty)

-- the type of a variadic one isn't read
abbrev pub argument_of_in : ResolveCtx → Bool → Option AstType → List Question
argument_of_in at true t = []
argument_of_in at false t = types_in at t

abbrev pub argument_in : ResolveCtx → GenericDefId → AstParam → List Question
argument_in at def x = let level = out-Param x in
    behind_cfg at.answers (own_site at.place level.id) (argument_of_in (at_place (in_arguments def) at) level.variadic level.ty)

abbrev pub receivers_in : ResolveCtx → GenericDefId → Option AstParamList → List Question
receivers_in at def x = of_option (λ x. of_option (receiver_in at def) x.self_) x

abbrev pub arguments_in : ResolveCtx → GenericDefId → Option AstParamList → List Question
arguments_in at def x = of_option (λ x. of_each (argument_in at def) x.params) x

abbrev pub function_in : ResolveCtx → GenericDefId → AstFn → List Question
function_in at def x = generics_in at def x.generics x.where_
    ++ (receivers_in at def x.params ++ (arguments_in at def x.params ++ ret_in (at_place in_output at) x.ret))

-- other items

-- a trait that isn't written as a path isn't read
abbrev pub trait_by_in : ResolveCtx → TypeKindLayer written → List Question
trait_by_in at (TypeKind-F.PathType x) = of_option (path_questions at) x
trait_by_in at _ = []

abbrev pub trait_of_in : ResolveCtx → Option AstType → List Question
trait_of_in at t = of_option (λ t. trait_by_in at (out-TypeKind t.kind)) t

abbrev pub impl_in : ResolveCtx → GenericDefId → AstImpl → List Question
impl_in at def x = types_in (at_place in_plain at) x.self_ty
    ++ (trait_of_in (at_place in_opaque at) x.trait_ ++ generics_in at def x.generics x.where_)

abbrev pub trait_in : ResolveCtx → GenericDefId → AstTrait → List Question
trait_in at def x = bounds_in (at_place (in_self_bounds def) at) x.bounds ++ generics_in at def x.generics x.where_

abbrev pub alias_in : ResolveCtx → GenericDefId → AstTypeAlias → List Question
alias_in at def x = bounds_in (at_place in_opaque at) x.bounds
    ++ (generics_in at def x.generics x.where_ ++ types_in (at_place in_opaque at) x.ty)

-- where as many calls may be entered as the environment says

abbrev pub generics_questions : Answers → LowerCtx → GenericDefId → Option (List AstGenericParam) → Option (List AstWherePred)
    → List Question
generics_questions a p def ps ws = of_expansion_limit ∷ generics_in (rctx (with_limit p a) a) def ps ws

abbrev pub function_questions : Answers → LowerCtx → GenericDefId → AstFn → List Question
function_questions a p def x = of_expansion_limit ∷ function_in (rctx (with_limit p a) a) def x

abbrev pub impl_questions : Answers → LowerCtx → GenericDefId → AstImpl → List Question
impl_questions a p def x = of_expansion_limit ∷ impl_in (rctx (with_limit p a) a) def x

abbrev pub trait_questions : Answers → LowerCtx → GenericDefId → AstTrait → List Question
trait_questions a p def x = of_expansion_limit ∷ trait_in (rctx (with_limit p a) a) def x

-- in the module of what an alias stands in
abbrev pub alias_questions : Answers → LowerCtx → GenericDefId → ItemContainerId → AstTypeAlias → List Question
alias_questions a p def container x =
    of_expansion_limit ∷ of_module container ∷ alias_in (rctx (in_container a container (with_limit p a)) a) def x
