-- Store, source map and faults of a lowered body are one result of its tree.
use Rattle.std.specs.Prelude.{◌≡◌, ℕ, Bool, true, false, List, [], ◌∷◌, ◌++◌, length, Option, Some, None, Ok}
use Rattle.std.specs.Prelude.{slice_get}
use Rattle.hir_store.specs.Stored.{Stored, Store, SourceMap, store_of, map_of}
use Rattle.hir_store.specs.StoreSink.{pat_id, record_root, root_at, type_id}
use Rattle.hir_store.specs.declared.hir.CoroutineKind.{CoroutineKind}
use Rattle.hir_store.specs.declared.hir.CoroutineSource.TheVariants as source
use Rattle.hir_store.specs.declared.hir.Statement.{Statement}
use Rattle.hir_store.specs.declared.ids.BindingId.{BindingId}
use Rattle.hir_store.specs.declared.ids.ExprId.{ExprId}
use Rattle.hir_store.specs.declared.ids.PatId.{PatId}
use Rattle.hir_env.specs.ResolvedTree as tree
use Rattle.hir_env.specs.ResolvedTree.{Formals, OptionExpr, SelfFormal}
use Rattle.spec_data.specs.Tops.{Tops}
use Rattle.hir_lower_builder.specs.Builder.{Builder, new_builder}
use Rattle.hir_lower_builder.specs.Pats.{new_binding}
use Rattle.thm_body_result.specs.Blocks.{blocks_of_part, blocks_of_tops}
use Rattle.thm_body_result.specs.Definitions.{DefinitionsAre}
use Rattle.thm_body_result.specs.Diagnostics.{Faults, body_faults}
use Rattle.thm_body_result.specs.Formals.{Given, Received, formals_read, lower_body}
use Rattle.thm_body_result.specs.Leads.{Mapping, Mappings, No, OneBindingMapping, OneUnled, OwnedBy, ◌&◌, label_mappings, Covers}
use Rattle.thm_body_result.specs.Leads.{CoversLabels}
use Rattle.thm_body_result.specs.Leads.{CoversBindings, LeadBack, MapLeads, OwnersAre}
use Rattle.thm_body_result.specs.Room.{body_size, formals_data}
use Rattle.thm_body_result.specs.Size.{calls_led, led_by, placed_owners, sources_led, target_leads, targets_led}
use Rattle.thm_body_result.specs.Corresponds.{Open, Absent, CorrespondsBefore, CorrespondsPart}
use Rattle.thm_body_result.specs.CorrespondsPreludes.{IsCoroutine, Named, CorrespondsHanded, CorrespondsLets, CorrespondsSelfLet}
use Rattle.thm_body_result.specs.CorrespondsWhole.{CorrespondsTop}

-- what stands for a body and its parameters

-- no pattern makes the binding of `self`, and nothing is wrong about it
abbrev pub CorrespondsSelf : Store → SelfFormal → Option BindingId → Mappings
CorrespondsSelf store tree.no_self o = Absent o
CorrespondsSelf store (tree.disabled_self at by) o = Absent o
CorrespondsSelf store (tree.self_formal at u _) o = λ ws.
    (b : BindingId) × (o ≡ Some b) × (slice_get store.bindings b.0 ≡ Some (new_binding u)) × OneBindingMapping b ws

abbrev pub CorrespondsTops : Store → SourceMap → Open → Tops → List PatId → Mappings
CorrespondsTops store source_map rs [] is = λ ws. (is ≡ []) × No ws
CorrespondsTops store source_map rs (p ∷ ps) is =
    CorrespondsBefore false (λ i. CorrespondsTop store source_map rs p i) (λ others. CorrespondsTops store source_map rs ps others) is

abbrev pub CorrespondsGiven : Store → SourceMap → Open → Bool → Formals → Received → Mappings
CorrespondsGiven store source_map rs skipped f given =
    CorrespondsSelf store f.receiver given.0 & CorrespondsTops store source_map rs (formals_read skipped f.formals) given.1

-- A plain body is handed what was written. What the outside hands the arguments of a coroutine to is `self` in front of it, and behind
-- it a pattern for each other parameter; in it `self` is what a `let` makes it. The coroutine owns what is bound in it.
abbrev pub CorrespondsBody : Store → SourceMap → Open → Option CoroutineKind → Bool → Formals → OptionExpr → Given → ExprId → Mappings
CorrespondsBody store source_map rs None skipped f e given i = λ ws. (given.1 ≡ given.0)
    × (CorrespondsGiven store source_map rs skipped f given.0 & CorrespondsPart store source_map rs e i) ws
CorrespondsBody store source_map rs (Some kind) skipped f e given i = λ ws. (body : ExprId) × (begin : List Statement) × (xs : List Named)
    × (lets : List Statement) × (block : ExprId) × IsCoroutine store source_map kind source.Fn (begin ++ lets) body block i
    × (CorrespondsSelf store f.receiver given.0.0
    & OwnedBy i (CorrespondsTops store source_map rs (formals_read skipped f.formals) given.1.1 & CorrespondsPart store source_map rs e body
    & CorrespondsSelfLet store source_map f.receiver given.1.0 begin
    & CorrespondsLets store source_map xs (formals_data skipped f.formals) given.1.1 lets & OneUnled block & OneUnled i)
    & CorrespondsHanded store source_map xs (formals_data skipped f.formals) given.0.1) ws

-- What is stored where one body was lowered, behind its parameters, which may be one of a function that is a coroutine, and may be skipped.
-- To the one root belongs all that is stored, each with its source, as many expressions and bindings as the tree becomes, and patterns,
-- types and lifetimes from just those of its nodes that become one, and patterns that are made up for those of parameters. The root stands
-- for the tree, and each expression is what a written one became, or a missing one for an absent or disabled part, or in front of a tuple
-- with a leading comma, or what is called for a range, or the turn of a `while` or the break in it, or the block in a coroutine, or the
-- coroutine of a closure or a function or a name that is read in front of its body, or is made up for the condition of a `while`, a `for`,
-- a `?` or a `try`; each label is what a written one or a `try` became, and there are as many; each binding is that of a name of a top
-- pattern, or of `self`, or of a name that is made up or that a parameter is handed in by, has the patterns that make it, and is owned by
-- the innermost closure, coroutine, `const` block, length or argument around it, or by nothing, as its way says and as it is counted. The
-- source map leads from each written expression and label to what it became, and from nowhere else; the nodes of patterns, types and
-- lifetimes lead to them, except for patterns that are made up or assigned to, and of other nodes those of calls do, each to the last
-- pattern or type that is stored by then, for which the call stands. The assignee expression, where it is no place, leads to its pattern by
-- a map of its own, and so does the node of a call that is the assignee expression.
-- Behind the faults that the body owes as a whole come those of what is read of the tree, in the order of lowering. The blocks with
-- numbers are those of the tree, in the order of entering.
pub record OneResult (store : Store) (source_map : SourceMap) (owed : Faults) (kind : Option CoroutineKind) (skipped : Bool) (f : Formals)
    (given : Given) (e : OptionExpr) : Type 0 where
  pub root : ExprId
  pub only : store.roots ≡ root_at store root ∷ []
  pub expr_sources : length source_map.expr_sources ≡ length store.exprs
  pub label_sources : length source_map.label_sources ≡ length store.labels
  pub pat_sources : source_map.pat_sources ≡ (body_size kind skipped f e).pats
  pub type_sources : source_map.type_sources ≡ (body_size kind skipped f e).types
  pub lifetime_sources : source_map.lifetime_sources ≡ (body_size kind skipped f e).lifetimes
  pub exprs : length store.exprs ≡ (body_size kind skipped f e).exprs
  pub bindings : length store.bindings ≡ (body_size kind skipped f e).bindings
  pub owners : store.binding_owners ≡ placed_owners 0 (body_size kind skipped f e).owners
  pub pats : length store.pats ≡ length (body_size kind skipped f e).pats
  pub types : length store.types ≡ length (body_size kind skipped f e).types
  pub lifetimes : length store.lifetimes ≡ length (body_size kind skipped f e).lifetimes
  pub pat_map : source_map.pat_map ≡ led_by pat_id 0 (body_size kind skipped f e).pat_leads []
  pub pat_mappings : let leads = (body_size kind skipped f e).pat_leads in
      LeadBack (λ i. i.0) source_map.pat_map (sources_led leads) (calls_led leads)
  pub target_map : source_map.target_map ≡ targets_led pat_id 0 (body_size kind skipped f e).pat_leads []
  pub target_mappings : let leads = target_leads (body_size kind skipped f e).pat_leads in
      LeadBack (λ i. i.0) source_map.target_map (sources_led leads) (calls_led leads)
  pub types_map : source_map.types_map ≡ led_by type_id 0 (body_size kind skipped f e).type_leads []
  pub type_mappings : let leads = (body_size kind skipped f e).type_leads in
      LeadBack (λ i. i.0) source_map.types_map source_map.type_sources (calls_led leads)
  pub lifetime_mappings : LeadBack (λ i. i.0) source_map.lifetime_map source_map.lifetime_sources []
  pub definitions : DefinitionsAre store.pats (length store.bindings) source_map.binding_definitions
  pub mappings : List Mapping
  pub corresponds : CorrespondsBody store source_map [] kind skipped f e given root mappings
  pub covers : Covers mappings 0 (length store.exprs)
  pub covers_labels : CoversLabels mappings 0 (length store.labels)
  pub covers_bindings : CoversBindings mappings 0 (length store.bindings)
  pub owner_mappings : OwnersAre store.binding_owners mappings
  pub leads : MapLeads source_map mappings
  pub labels : length store.labels ≡ label_mappings mappings
  pub faults : source_map.diagnostics ≡ owed ++ body_faults skipped [] f e
  pub blocks : source_map.block_scopes ≡ blocks_of_tops (formals_read skipped f.formals) ++ blocks_of_part e

-- fresh, except for these faults
abbrev pub fresh_owing : ℕ → Faults → Builder
fresh_owing limit owed = let b = new_builder limit in record b { stored = record b.stored { diagnostics = owed } }

-- where a root is being lowered
abbrev pub in_root_of : Builder → Builder
in_root_of b = record b { in_root = true }

abbrev pub with_root : ExprId → Stored → Stored
with_root root s = (record_root root s).1

-- so it is where a body is lowered first, and is the root
abbrev pub OneResults : Type 0
OneResults = (limit : ℕ) (owed : Faults) (kind : Option CoroutineKind) (skipped : Bool) (f : Formals) (e : OptionExpr) (given : Given)
    (id : ExprId) (new : Builder) → lower_body kind skipped f e (in_root_of (fresh_owing limit owed)) ≡ (Ok (given, id), new)
    → OneResult (store_of (with_root id new.stored)) (map_of (with_root id new.stored)) owed kind skipped f given e
