-- The nodes of an item about which something may be asked.
use Rattle.std.specs.Prelude.{List, [], ◌∷◌, ◌++◌, Option}
use Rattle.hir_base.specs.declared.node.NodeId.{NodeId}
use Rattle.hir_syntax.specs.declared.ast.ElseBranch.TheOpen.{TypeKind-F}
use Rattle.hir_syntax.specs.declared.items.Fn.{Fn as AstFn}
use Rattle.hir_syntax.specs.declared.items.GenericParam.{GenericParam as AstGenericParam}
use Rattle.hir_syntax.specs.declared.items.GenericParam.TheVariants as param
use Rattle.hir_syntax.specs.declared.items.Impl.{Impl as AstImpl}
use Rattle.hir_syntax.specs.declared.items.Trait.{Trait as AstTrait}
use Rattle.hir_syntax.specs.declared.items.TypeAlias.{TypeAlias as AstTypeAlias}
use Rattle.hir_syntax.specs.declared.items.WherePred.{WherePred as AstWherePred}
use Rattle.hir_syntax.specs.declared.params.ParamList.{ParamList as AstParamList}
use Rattle.hir_syntax.specs.declared.params.SelfParam.{SelfParam as AstSelfParam}
use Rattle.hir_syntax.specs.declared.types.Param.{Param as AstParam, out-Param}
use Rattle.hir_syntax.specs.declared.types.TypeBound.{TypeBound as AstTypeBound}
use Rattle.hir_syntax.specs.declared.types.TypeKind.{out-TypeKind}
use Rattle.hir_syntax.specs.declared.types.Type_.{Type_ as AstType}
use Rattle.hir_env.specs.TypeLayers.{TypeKindLayer}
use Rattle.hir_env.specs.Whole.{written}
use Rattle.hir_env.specs.Wrapped.{AstConstArg, AstRetType}
use Rattle.thm_questions.specs.Nodes.{bound_nodes_of, nodes_of, path_nodes_of, type_nodes_of}
use Rattle.thm_questions.specs.Parts.{of_each, of_option}

abbrev pub types_nodes : Option AstType → List NodeId
types_nodes t = of_option type_nodes_of t

abbrev pub bounds_nodes : List AstTypeBound → List NodeId
bounds_nodes bs = of_each bound_nodes_of bs

abbrev pub constant_nodes : AstConstArg → List NodeId
constant_nodes x = of_option nodes_of x

abbrev pub ret_nodes : Option AstRetType → List NodeId
ret_nodes r = of_option types_nodes r

-- what is generic: the node of a parameter, and those in it

abbrev pub param_node : AstGenericParam → NodeId
param_node (param.TypeParam id range n bs d) = id
param_node (param.ConstParam id range n t d) = id
param_node (param.LifetimeParam id range l bs) = id

abbrev pub in_param : AstGenericParam → List NodeId
in_param (param.TypeParam id range n bs d) = types_nodes d ++ bounds_nodes bs
in_param (param.ConstParam id range n t d) = types_nodes t ++ of_option constant_nodes d
in_param (param.LifetimeParam id range l bs) = bounds_nodes bs

abbrev pub param_nodes : AstGenericParam → List NodeId
param_nodes x = param_node x ∷ in_param x

abbrev pub predicate_nodes : AstWherePred → List NodeId
predicate_nodes x = types_nodes x.ty ++ bounds_nodes x.bounds

abbrev pub generics_nodes : Option (List AstGenericParam) → Option (List AstWherePred) → List NodeId
generics_nodes ps ws = of_option (of_each param_nodes) ps ++ of_option (of_each predicate_nodes) ws

-- functions

abbrev pub receiver_nodes : AstSelfParam → List NodeId
receiver_nodes x = x.id ∷ types_nodes x.ty

abbrev pub argument_nodes : AstParam → List NodeId
argument_nodes x = (out-Param x).id ∷ types_nodes (out-Param x).ty

abbrev pub receivers_nodes : Option AstParamList → List NodeId
receivers_nodes x = of_option (λ x. of_option receiver_nodes x.self_) x

abbrev pub arguments_nodes : Option AstParamList → List NodeId
arguments_nodes x = of_option (λ x. of_each argument_nodes x.params) x

-- without its body
abbrev pub function_nodes : AstFn → List NodeId
function_nodes x = generics_nodes x.generics x.where_ ++ (receivers_nodes x.params ++ (arguments_nodes x.params ++ ret_nodes x.ret))

-- other items

abbrev pub trait_by_nodes : TypeKindLayer written → List NodeId
trait_by_nodes (TypeKind-F.PathType x) = of_option path_nodes_of x
trait_by_nodes _ = []

abbrev pub trait_of_nodes : Option AstType → List NodeId
trait_of_nodes t = of_option (λ t. trait_by_nodes (out-TypeKind t.kind)) t

-- of an `impl` without what is in it
abbrev pub impl_nodes : AstImpl → List NodeId
impl_nodes x = types_nodes x.self_ty ++ (trait_of_nodes x.trait_ ++ generics_nodes x.generics x.where_)

abbrev pub trait_nodes : AstTrait → List NodeId
trait_nodes x = bounds_nodes x.bounds ++ generics_nodes x.generics x.where_

abbrev pub alias_nodes : AstTypeAlias → List NodeId
alias_nodes x = bounds_nodes x.bounds ++ (generics_nodes x.generics x.where_ ++ types_nodes x.ty)
