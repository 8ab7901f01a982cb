-- What is asked for a call, and how long what it promised of its result holds: as long as that is answered alike.
use Rattle.std.specs.Prelude.{◌≡◌, true, List, Option}
use Rattle.hir_base.specs.declared.node.HirFileId.{HirFileId}
use Rattle.hir_syntax.specs.declared.ast.Path.{Path as AstPath}
use Rattle.hir_syntax.specs.declared.types.Type_.{Type_ as AstType_}
use Rattle.hir_syntax.specs.declared.items.Fn.{Fn}
use Rattle.hir_syntax.specs.declared.items.GenericParam.{GenericParam}
use Rattle.hir_syntax.specs.declared.items.Impl.{Impl}
use Rattle.hir_syntax.specs.declared.items.Trait.{Trait}
use Rattle.hir_syntax.specs.declared.items.TypeAlias.{TypeAlias}
use Rattle.hir_syntax.specs.declared.items.WherePred.{WherePred}
use Rattle.hir_store.specs.declared.ids.FunctionId.{FunctionId}
use Rattle.hir_store.specs.declared.ids.GenericDefId.{GenericDefId}
use Rattle.hir_store.specs.declared.ids.ImplId.{ImplId}
use Rattle.hir_store.specs.declared.ids.ItemContainerId.{ItemContainerId}
use Rattle.hir_store.specs.declared.ids.ModuleId.{ModuleId}
use Rattle.hir_store.specs.declared.ids.TraitId.{TraitId}
use Rattle.hir_store.specs.declared.ids.TypeAliasId.{TypeAliasId}
use Rattle.hir_env.specs.Answers.{Answers}
use Rattle.hir_env.specs.Wrapped.{AstConstArg}
use Rattle.hir_env.specs.declared.ctx.ImplTrait.{ImplTrait}
use Rattle.hir_env.specs.declared.ctx.LoweringMode.{LoweringMode}
use Rattle.thm_frame.specs.Questions.{AllAlike, AllIn, Area, Framed, Question}
use Rattle.hir_lower.specs.Items.{read_alias, read_function, read_generics, read_impl, read_trait}
use Rattle.thm_calls.specs.Readings.{BodyCall, body_reading, const_reading, path_reading, type_reading}
use Rattle.thm_calls.specs.Promises.{AliasPromise, BodyPromise, ConstPromise, FunctionPromise, GenericsPromise, ImplPromise}
use Rattle.thm_calls.specs.Promises.{PathPromise, TraitPromise, TypePromise}

-- a file and a module of the area
abbrev pub AreIn : {a : Answers} → Area a → HirFileId → ModuleId → Type 0
AreIn area file inside = (area.file file ≡ true) × (area.inside inside ≡ true)

-- with the module of what contains an alias, as this environment says
abbrev pub HolderIsIn : {a : Answers} → Area a → HirFileId → ItemContainerId → Type 0
HolderIsIn {a} area file container = AreIn area file (a.module_of container)

-- what a call takes from its environment is the same of each that answers alike what is asked of one

abbrev pub BodyFramed : Type 0
BodyFramed = (a : Answers) (area : Area a) (c : BodyCall) → AreIn area c.file_id c.inside → Framed area (body_reading c) a

abbrev pub TypeRefFramed : Type 0
TypeRefFramed = (a : Answers) (area : Area a) (file : HirFileId) (inside : ModuleId) → AreIn area file inside → (t : Option AstType_)
    → Framed area (type_reading file inside t) a

abbrev pub ConstArgFramed : Type 0
ConstArgFramed = (a : Answers) (area : Area a) (file : HirFileId) (inside : ModuleId) → AreIn area file inside → (mode : LoweringMode)
    (x : AstConstArg) → Framed area (const_reading file inside mode x) a

abbrev pub PathFramed : Type 0
PathFramed = (a : Answers) (area : Area a) (file : HirFileId) (inside : ModuleId) → AreIn area file inside → (mode : LoweringMode)
    (impl : ImplTrait) (x : AstPath) → Framed area (path_reading file inside mode impl x) a

abbrev pub GenericParamsFramed : Type 0
GenericParamsFramed = (a : Answers) (area : Area a) (file : HirFileId) (inside : ModuleId) → AreIn area file inside
    → (mode : LoweringMode) (def : GenericDefId) (ps : Option (List GenericParam)) (ws : Option (List WherePred))
    → Framed area (λ b. read_generics b file inside mode def ps ws) a

abbrev pub ImplFramed : Type 0
ImplFramed = (a : Answers) (area : Area a) (file : HirFileId) (inside : ModuleId) → AreIn area file inside → (id : ImplId) (x : Impl)
    → Framed area (λ b. read_impl b file inside id x) a

abbrev pub TraitFramed : Type 0
TraitFramed = (a : Answers) (area : Area a) (file : HirFileId) (inside : ModuleId) → AreIn area file inside → (id : TraitId) (x : Trait)
    → Framed area (λ b. read_trait b file inside id x) a

abbrev pub TypeAliasFramed : Type 0
TypeAliasFramed = (a : Answers) (area : Area a) (file : HirFileId) (container : ItemContainerId) → HolderIsIn area file container
    → (id : TypeAliasId) (x : TypeAlias) → Framed area (λ b. read_alias b file container id x) a

abbrev pub FunctionFramed : Type 0
FunctionFramed = (a : Answers) (area : Area a) (file : HirFileId) (inside : ModuleId) → AreIn area file inside
    → (id : FunctionId) (x : Fn) → Framed area (λ b. read_function b file inside id x) a

-- Each outcome of which it is so by what this environment says, with what is asked of it for that, all of it in this area: each other
-- environment that answers these questions alike has it so of the same outcomes.
pub record Lasting {R : Type 0} {a : Answers} (area : Area a) (promised : Answers → R → Type 0) : Type 0 where
  pub asked : List Question
  pub there : AllIn area asked
  pub lasts : (b : Answers) → AllAlike a b asked → (r : R) → promised a r → promised b r

abbrev pub Lasts : {R : Type 0} {a : Answers} → Area a → (Answers → R → Type 0) → Answers → Type 0
Lasts area promised _ = Lasting area promised

-- so is all that the contract of a call promises of an outcome

abbrev pub BodyLasts : Type 0
BodyLasts = (a : Answers) (area : Area a) (c : BodyCall) → AreIn area c.file_id c.inside
    → Lasts area (λ b. BodyPromise (body_reading c b)) a

abbrev pub TypeRefLasts : Type 0
TypeRefLasts = (a : Answers) (area : Area a) (file : HirFileId) (inside : ModuleId) → AreIn area file inside → (t : Option AstType_)
    → Lasts area (λ b. TypePromise (type_reading file inside t b)) a

abbrev pub ConstArgLasts : Type 0
ConstArgLasts = (a : Answers) (area : Area a) (file : HirFileId) (inside : ModuleId) → AreIn area file inside → (mode : LoweringMode)
    (x : AstConstArg) → Lasts area (λ b. ConstPromise (const_reading file inside mode x b)) a

abbrev pub PathLasts : Type 0
PathLasts = (a : Answers) (area : Area a) (file : HirFileId) (inside : ModuleId) → AreIn area file inside → (mode : LoweringMode)
    (impl : ImplTrait) (x : AstPath) → Lasts area (λ b. PathPromise x (path_reading file inside mode impl x b)) a

abbrev pub GenericParamsLast : Type 0
GenericParamsLast = (a : Answers) (area : Area a) (file : HirFileId) (inside : ModuleId) → AreIn area file inside
    → (mode : LoweringMode) (def : GenericDefId) (ps : Option (List GenericParam)) (ws : Option (List WherePred))
    → Lasts area (λ b. GenericsPromise def (read_generics b file inside mode def ps ws)) a

abbrev pub ImplLasts : Type 0
ImplLasts = (a : Answers) (area : Area a) (file : HirFileId) (inside : ModuleId) → AreIn area file inside → (id : ImplId) (x : Impl)
    → Lasts area (λ b. ImplPromise id (read_impl b file inside id x)) a

abbrev pub TraitLasts : Type 0
TraitLasts = (a : Answers) (area : Area a) (file : HirFileId) (inside : ModuleId) → AreIn area file inside → (id : TraitId) (x : Trait)
    → Lasts area (λ b. TraitPromise id (read_trait b file inside id x)) a

abbrev pub TypeAliasLasts : Type 0
TypeAliasLasts = (a : Answers) (area : Area a) (file : HirFileId) (container : ItemContainerId) → HolderIsIn area file container
    → (id : TypeAliasId) (x : TypeAlias) → Lasts area (λ b. AliasPromise id (read_alias b file container id x)) a

abbrev pub FunctionLasts : Type 0
FunctionLasts = (a : Answers) (area : Area a) (file : HirFileId) (inside : ModuleId) → AreIn area file inside
    → (id : FunctionId) (x : Fn) → Lasts area (λ b. FunctionPromise id (read_function b file inside id x)) a
