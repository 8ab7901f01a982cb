-- How long what a call promised of its result holds, by the nodes of what it is handed: as long as all that may be asked about them, and
-- in their modules, is answered alike, and so is what is asked for the call about no node and in no module.
use Rattle.std.specs.Prelude.{◌≡◌, true, List, [], ◌∷◌, ◌++◌, Option, Some, None}
use Rattle.hir_base.specs.declared.node.HirFileId.{HirFileId}
use Rattle.hir_base.specs.declared.node.NodeId.{NodeId}
use Rattle.hir_syntax.specs.declared.ast.Path.{Path as AstPath, out-Path}
use Rattle.hir_syntax.specs.declared.ast.PathSegment.{PathSegment as AstSegment, out-PathSegment}
use Rattle.hir_syntax.specs.declared.items.Fn.{Fn}
use Rattle.hir_syntax.specs.declared.items.GenericParam.{GenericParam}
use Rattle.hir_syntax.specs.declared.items.Impl.{Impl}
use Rattle.hir_syntax.specs.declared.items.Trait.{Trait}
use Rattle.hir_syntax.specs.declared.items.TypeAlias.{TypeAlias}
use Rattle.hir_syntax.specs.declared.items.WherePred.{WherePred}
use Rattle.hir_syntax.specs.declared.types.PathType.{PathType as AstPathType, out-PathType}
use Rattle.hir_syntax.specs.declared.types.Type_.{Type_ as AstType_}
use Rattle.hir_store.specs.declared.ids.FunctionId.{FunctionId}
use Rattle.hir_store.specs.declared.ids.GenericDefId.{GenericDefId}
use Rattle.hir_store.specs.declared.ids.ImplId.{ImplId}
use Rattle.hir_store.specs.declared.ids.ItemContainerId.{ItemContainerId}
use Rattle.hir_store.specs.declared.ids.ModuleId.{ModuleId}
use Rattle.hir_store.specs.declared.ids.TraitId.{TraitId}
use Rattle.hir_store.specs.declared.ids.TypeAliasId.{TypeAliasId}
use Rattle.hir_env.specs.Answers.{Answers}
use Rattle.hir_env.specs.Wrapped.{AstConstArg}
use Rattle.hir_env.specs.declared.ctx.ImplTrait.{ImplTrait}
use Rattle.hir_env.specs.declared.ctx.LoweringMode.{LoweringMode}
use Rattle.spec_data.specs.Segments.{all_but_first, first_trait, named_among}
use Rattle.thm_frame.specs.Questions.{AllAlike, Question}
use Rattle.thm_questions.specs.Areas.{AgreesAtNodes, AllThere, NodeArea, elsewhere}
use Rattle.thm_questions.specs.Nodes.{formals_nodes, nodes_of, path_nodes_of, segment_nodes_of, type_nodes_of}
use Rattle.thm_questions.specs.Parts.{of_each, of_option}
use Rattle.thm_item_questions.specs.Nodes.{alias_nodes, function_nodes, generics_nodes, impl_nodes, trait_nodes}
use Rattle.hir_lower.specs.Beside.{segments_in}
use Rattle.hir_lower.specs.Items.{read_alias, read_function, read_generics, read_impl, read_trait}
use Rattle.thm_calls.specs.ByList.{Passes, alias_call_asks, body_call_asks, const_call_asks, function_call_asks, generics_call_asks}
use Rattle.thm_calls.specs.ByList.{impl_call_asks, path_call_asks, trait_call_asks, type_call_asks}
use Rattle.thm_calls.specs.Promises.{AliasPromise, BodyPromise, ConstPromise, FunctionPromise, GenericsPromise, ImplPromise}
use Rattle.thm_calls.specs.Promises.{PathPromise, TraitPromise, TypePromise}
use Rattle.thm_calls.specs.Readings.{BodyCall, body_reading, const_reading, path_reading, type_reading}

-- the nodes of a path, with those of what is written behind the segments that bear its names

abbrev pub segments_nodes : List (Option AstSegment) → List NodeId
segments_nodes ss = of_each segment_nodes_of (named_among ss)

abbrev pub in_front_nodes : List (Option AstSegment) → List NodeId
in_front_nodes (Some s ∷ ss) = of_option type_nodes_of (out-PathSegment s).ty
in_front_nodes _ = []

abbrev pub beside_nodes : Option AstPathType → List (Option AstSegment) → List NodeId
beside_nodes None ss = segments_nodes ss
beside_nodes (Some t) ss = in_front_nodes ss ++ (segments_nodes (segments_in (out-PathType t).path) ++ segments_nodes (all_but_first ss))

abbrev pub path_call_nodes : AstPath → List NodeId
path_call_nodes x = let ss = (out-Path x).segs in path_nodes_of x ++ beside_nodes (first_trait ss) ss

-- nodes of a file are there, and so is the module that they are read in
abbrev pub IsIn : {a : Answers} → NodeArea a → HirFileId → ModuleId → List NodeId → Type 0
IsIn area file inside ns = (area.inside inside ≡ true) × AllThere area file ns

-- another environment that answers alike what may be asked there, and what of a list is asked elsewhere
abbrev pub Agrees : {a : Answers} → NodeArea a → Answers → List Question → Type 0
Agrees {a} area b qs = AgreesAtNodes area b × AllAlike a b (elsewhere qs)

abbrev pub BodyLastsAtNodes : Type 0
BodyLastsAtNodes = (a : Answers) (area : NodeArea a) (b : Answers) (c : BodyCall) → Agrees area b (body_call_asks c a)
    → IsIn area c.file_id c.inside (of_option nodes_of c.body) → IsIn area c.file_id c.inside (formals_nodes c.params)
    → Passes (BodyPromise (body_reading c a)) (BodyPromise (body_reading c b))

abbrev pub TypeRefLastsAtNodes : Type 0
TypeRefLastsAtNodes = (a : Answers) (area : NodeArea a) (b : Answers) (file : HirFileId) (inside : ModuleId) (t : Option AstType_)
    → Agrees area b (type_call_asks file inside t a) → IsIn area file inside (of_option type_nodes_of t)
    → Passes (TypePromise (type_reading file inside t a)) (TypePromise (type_reading file inside t b))

abbrev pub ConstArgLastsAtNodes : Type 0
ConstArgLastsAtNodes = (a : Answers) (area : NodeArea a) (b : Answers) (file : HirFileId) (inside : ModuleId) (mode : LoweringMode)
    (x : AstConstArg) → Agrees area b (const_call_asks file inside mode x a) → IsIn area file inside (of_option nodes_of x)
    → Passes (ConstPromise (const_reading file inside mode x a)) (ConstPromise (const_reading file inside mode x b))

abbrev pub PathLastsAtNodes : Type 0
PathLastsAtNodes = (a : Answers) (area : NodeArea a) (b : Answers) (file : HirFileId) (inside : ModuleId) (mode : LoweringMode)
    (impl : ImplTrait) (x : AstPath) → Agrees area b (path_call_asks file inside mode impl x a)
    → IsIn area file inside (path_call_nodes x)
    → Passes (PathPromise x (path_reading file inside mode impl x a)) (PathPromise x (path_reading file inside mode impl x b))

abbrev pub GenericParamsLastAtNodes : Type 0
GenericParamsLastAtNodes = (a : Answers) (area : NodeArea a) (b : Answers) (file : HirFileId) (inside : ModuleId) (mode : LoweringMode)
    (def : GenericDefId) (ps : Option (List GenericParam)) (ws : Option (List WherePred))
    → Agrees area b (generics_call_asks file inside mode def ps ws a) → IsIn area file inside (generics_nodes ps ws)
    → Passes (GenericsPromise def (read_generics a file inside mode def ps ws))
    (GenericsPromise def (read_generics b file inside mode def ps ws))

abbrev pub ImplLastsAtNodes : Type 0
ImplLastsAtNodes = (a : Answers) (area : NodeArea a) (b : Answers) (file : HirFileId) (inside : ModuleId) (id : ImplId) (x : Impl)
    → Agrees area b (impl_call_asks file inside id x a) → IsIn area file inside (impl_nodes x)
    → Passes (ImplPromise id (read_impl a file inside id x)) (ImplPromise id (read_impl b file inside id x))

abbrev pub TraitLastsAtNodes : Type 0
TraitLastsAtNodes = (a : Answers) (area : NodeArea a) (b : Answers) (file : HirFileId) (inside : ModuleId) (id : TraitId) (x : Trait)
    → Agrees area b (trait_call_asks file inside id x a) → IsIn area file inside (trait_nodes x)
    → Passes (TraitPromise id (read_trait a file inside id x)) (TraitPromise id (read_trait b file inside id x))

-- an alias is read in the module of what contains it
abbrev pub TypeAliasLastsAtNodes : Type 0
TypeAliasLastsAtNodes = (a : Answers) (area : NodeArea a) (b : Answers) (file : HirFileId) (container : ItemContainerId)
    (id : TypeAliasId) (x : TypeAlias) → Agrees area b (alias_call_asks file container id x a)
    → IsIn area file (a.module_of container) (alias_nodes x)
    → Passes (AliasPromise id (read_alias a file container id x)) (AliasPromise id (read_alias b file container id x))

abbrev pub FunctionLastsAtNodes : Type 0
FunctionLastsAtNodes = (a : Answers) (area : NodeArea a) (b : Answers) (file : HirFileId) (inside : ModuleId) (id : FunctionId) (x : Fn)
    → Agrees area b (function_call_asks file inside id x a) → IsIn area file inside (function_nodes x)
    → Passes (FunctionPromise id (read_function a file inside id x)) (FunctionPromise id (read_function b file inside id x))
