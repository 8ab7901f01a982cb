-- What a lowered constant and a lowered body are, in words of meaning.
use Rattle.std.specs.Prelude.{◌≡◌, ◌<◌, ◌≤◌, ◌⊎◌, ◌+◌, ℕ, Bool, true, false, List, [], ◌∷◌, ◌++◌, length, map, option_map, Option}
use Rattle.std.specs.Prelude.{Some, None, option_and_then, slice_get}
use Rattle.hir_base.specs.declared.node.AstPtr.{AstPtr}
use Rattle.hir_syntax.specs.declared.ast.Expr.{Expr as AstExpr}
use Rattle.hir_syntax.specs.declared.ast.Path.{Path as AstPath, out-Path}
use Rattle.hir_syntax.specs.declared.types.Type_.{Type_ as AstType_}
use Rattle.hir_store.specs.Pointers.{Pointer}
use Rattle.hir_store.specs.Stored.{Store, SourceMap, Stored, store_of, map_of}
use Rattle.hir_store.specs.Arenas.{with_entry}
use Rattle.hir_store.specs.StoreSink.{Extends, root_at, type_id}
use Rattle.hir_store.specs.declared.ids.TypeRefId.{TypeRefId}
use Rattle.hir_store.specs.declared.hir.CoroutineKind.{CoroutineKind}
use Rattle.hir_store.specs.declared.type_ref.TypeBound.{TypeBound}
use Rattle.hir_store.specs.declared.type_ref.TypeRef.{TypeRef}
use Rattle.hir_store.specs.declared.type_ref.TypeRef.TheVariants as ty
use Rattle.hir_store.specs.declared.ids.BindingId.{BindingId}
use Rattle.hir_store.specs.declared.ids.ExprId.{ExprId}
use Rattle.hir_store.specs.declared.ids.PatId.{PatId}
use Rattle.hir_store.specs.declared.pat.Binding.{Binding}
use Rattle.hir_store.specs.declared.roots.ExprRoot.{ExprRoot}
use Rattle.hir_store.specs.declared.path.Path.{Path}
use Rattle.hir_store.specs.declared.ids.DefWithBodyId.{DefWithBodyId}
use Rattle.hir_store.specs.declared.ids.DefWithBodyId.TheVariants as owner
use Rattle.hir_store.specs.declared.ids.ItemContainerId.{ItemContainerId}
use Rattle.hir_store.specs.declared.ids.ItemContainerId.TheVariants as container
use Rattle.hir_store.specs.declared.diagnostics.MissingBodyItemKind.{MissingBodyItemKind}
use Rattle.hir_store.specs.declared.diagnostics.MissingBodyItemKind.TheVariants as kind
use Rattle.hir_store.specs.declared.diagnostics.ExpressionStoreDiagnostics.TheVariants.{MissingBody}
use Rattle.hir_env.specs.ResolveCtx.{ResolveCtx}
use Rattle.hir_env.specs.declared.ctx.ImplTrait.{ImplTrait}
use Rattle.hir_env.specs.declared.ctx.ImplTrait.TheVariants as mode
use Rattle.hir_lower_builder.specs.Generics.{predicates_of, unnamed_param}
use Rattle.hir_lower_builder.specs.declared.generics.GenericLists.{GenericLists}
use Rattle.hir_env.specs.Answering.{in_file}
use Rattle.hir_env.specs.ResolvedTree as tree
use Rattle.hir_env.specs.ResolvedTree.{Formals, OptionExpr, OptionPath, OptionType, SelfFormal}
use Rattle.hir_env.specs.Whole.{resolved_path, expr_part, type_part}
use Rattle.spec_data.specs.Data.{path_names}
use Rattle.spec_data.specs.Patterns.{written_pat}
use Rattle.spec_data.specs.Preludes.{formal_patterns}
use Rattle.spec_data.specs.Reading.{stored_pat, stored_path, stored_type}
use Rattle.spec_data.specs.Written.{written_path, written_type}
use Rattle.spec_data.specs.Segments.{PlainTrait, Whole, first_trait, named_segments, segment_name}
use Rattle.spec_data.specs.Tops.{Tops}
use Rattle.spec_semantics.specs.Inner.{Inside, all_inners, all_of, part_bodies, path_bodies, path_inner_bodies, tops_bodies}
use Rattle.spec_semantics.specs.Inner.{type_inner_bodies}
use Rattle.spec_semantics.specs.Inner.{of_present as of_some}
use Rattle.spec_semantics.specs.Same.{SameBodies, SameCoroutine, SameMeaning}
use Rattle.thm_semantics.specs.Reached.{Spread, of_each, reached_to}
use Rattle.thm_logic.specs.Keeps.{IsHanded, IsOfTwo, IsOneOf, Mapped, Paired, times_bound, times_labelled}
use Rattle.thm_logic.specs.Calls.{Expansions}
use Rattle.thm_body_result.specs.Blocks.{blocks_of_part, blocks_of_type_part, blocks_of_whole}
use Rattle.thm_body_result.specs.Diagnostics.{Faults, part_diagnostics, type_part_faults, whole_faults}
use Rattle.thm_body_result.specs.Theorems.{Grown, Reaches, Settled}
use Rattle.thm_body_result.specs.Room.{size_part, type_part_size, whole_size}
use Rattle.thm_body_result.specs.Size.{owned, placed_owners}
use Rattle.thm_body_result.specs.Leads.{OwnedBy, OwnersAre, Mapping, Mappings}
use Rattle.thm_body_result.specs.Corresponds.{CorrespondsPart, TypePartMappings, WholeMappings}
use Rattle.thm_body_result.specs.Bodies.{grade_body}
use Rattle.thm_body_result.specs.Expanded as emitted
use Rattle.thm_body_result.specs.StoredData.{DataAdded}
use Rattle.thm_logic.specs.Grades.{grade_expr_part, grade_part, grade_whole}
use Rattle.thm_item_result.specs.Answers.{parameter_type}
use Rattle.hir_store.specs.declared.param.Param.{Param}
use Rattle.hir_lower.specs.Data.{data_in, data_in_path, data_in_type}
use Rattle.hir_lower.specs.Formals.{formals_read}
use Rattle.thm_type_result.specs.Unrun.{unrun_in, unrun_in_path, unrun_in_pats, unrun_in_type}
use Rattle.thm_type_result.specs.Named.{TypesSpread, of_exprs, of_pats, of_pats_alone, of_types_alone}
use Rattle.thm_type_result.specs.Pats.{BindingsCame, PatsSpread, of_types, pats_reached}
use Rattle.thm_type_result.specs.Roots.{RootsOf}
use Rattle.thm_type_result.specs.Reached.{of_path, of_present, types_reached}
use Rattle.thm_type_result.specs.Reached.{of_each as of_all}

-- What is so of a root in a later store. Its expression does what the tree does; it stands for the tree, and owns each binding that
-- nothing in it owns; each expression that came with it is what a written one became, or a missing one for an absent or disabled part or
-- in front of a tuple with a leading comma, or what is called for a range, or the block in a coroutine, the coroutine of a closure or a
-- name that is read in front of its body, or a further node of a `while`, a `for`, a `?` or a `try`; where the source map led by then it
-- leads still, or by the ways of the tree; each label and each binding more is what a written one became, or of a made name, and there are
-- as many, and what owns each binding is what its way says; each number that it reaches, or that one does which it holds and doesn't run,
-- is reached once, and is one that lowering it gave out, and so is each type that the expressions and patterns reach that came with it,
-- and each pattern that the expressions and types do.
pub record Lives (old new later : Stored) (i : ExprId) (e : OptionExpr) : Type 0 where
  pub same : SameMeaning (store_of later) (map_of later) i e
  pub mappings : List Mapping
  pub corresponds : OwnedBy i (CorrespondsPart (store_of later) (map_of later) [] e i) mappings
  pub reaches : Reaches old new mappings
  pub owner_mappings : OwnersAre new.bindings.owners mappings
  pub reached_once : (depth : ℕ) → length later.exprs.entries ≤ depth
      → Spread (length old.exprs.entries) (length new.exprs.entries)
      (of_each (reached_to (store_of later) depth) (i ∷ unrun_in (store_of later) i))
  pub types_reached_once : TypesSpread old new later (λ f. [])
  pub pats_reached_once : PatsSpread old new later []

-- the macro calls that are entered, each behind what else was expanded for it, in the order of lowering
abbrev pub expanded_in : OptionExpr → Expansions
expanded_in e = grade_expr_part emitted.expansions e

abbrev pub expanded_in_path : OptionPath → Expansions
expanded_in_path p = grade_whole emitted.expansions p

abbrev pub expanded_in_type : OptionType → Expansions
expanded_in_type t = grade_part emitted.expansions t

abbrev pub expanded_in_body : Option CoroutineKind → Bool → Formals → OptionExpr → Expansions
expanded_in_body kind skipped f e = grade_body emitted.expansions emitted.bodies_expanded kind skipped f e

-- What lowering a root leaves. It is the last of the recorded roots, to which all belongs that was stored since the one before:
-- as many expressions, labels and bindings as the tree becomes, and patterns, types and lifetimes from just those of its nodes that
-- become one. The patterns that came make bindings that came, each owned by the innermost closure, coroutine, `const` block, length or
-- argument around it, or, in none of these, by the root, as `lives` says, and by its number, as `owners` does. Behind the faults,
-- the blocks and the macro calls that were noted before come those of the tree, in the order of lowering.
pub record Rooted (old new : Stored) (i : ExprId) (e : OptionExpr) : Type 0 where
  pub lives : (later : Stored) → Extends new later → Settled new later → Lives old new later i e
  pub grown : Grown (owned (size_part e)) old new
  pub stored_data : DataAdded (data_in e) old new
  pub owners : new.bindings.owners ≡ old.bindings.owners ++ placed_owners (length old.exprs.entries) (owned (size_part e)).owners
  pub roots : new.roots ≡ old.roots ++ root_at (store_of new) i ∷ []
  pub bindings_came : BindingsCame old new
  pub faults : new.diagnostics ≡ old.diagnostics ++ part_diagnostics [] e
  pub blocks : new.block_scopes ≡ old.block_scopes ++ blocks_of_part e
  pub expansions : new.expansions ≡ old.expansions ++ expanded_in e
  pub paired : Paired new
  pub mapped : Mapped old → Mapped new

-- what a lowered body does that is the root: what the written one does, or, where that is one of a function with `async` or `gen`, it
-- makes its coroutine
abbrev pub DoesBody : Option CoroutineKind → Store → SourceMap → List PatId → ExprId → SelfFormal → Tops → OptionExpr → Type 0
DoesBody None store source_map formals root self ps e = SameMeaning store source_map root e
DoesBody (Some kind) store source_map formals root self ps e = SameCoroutine store source_map formals root kind self ps e

-- The one recorded root does what the written body does. It and what it and the patterns that the outside hands its arguments to hold and
-- don't run reach each expression in one way only. The expressions and patterns reach each type in one way only.
pub record HasBody (kind : Option CoroutineKind) (store : Store) (source_map : SourceMap) (formals : List PatId) (self : SelfFormal)
    (ps : Tops) (e : OptionExpr) : Type 0 where
  pub root : ExprRoot
  pub only : store.roots ≡ root ∷ []
  pub same : DoesBody kind store source_map formals root.root self ps e
  pub reached_once : (depth : ℕ) → length store.exprs ≤ depth
      → Spread 0 (length store.exprs)
      (of_each (reached_to store depth) (unrun_in_pats store formals ++ root.root ∷ unrun_in store root.root))
  pub types_reached_once : (depth : ℕ) → length store.types ≤ depth → let l = of_types_alone (types_reached store.types depth) in
      Spread 0 (length store.types) (of_exprs l store.exprs ++ of_pats l store.pats)

-- the made name of this number is of two bindings, of which one is a formal parameter
pub record IsHandedTo (k : ℕ) (store : Store) (formals : List PatId) : Type 0 where
  pub formal : IsOneOf k store formals
  pub two : IsOfTwo k store.bindings store.labels

-- Each name that lowering makes up is of one binding or label at most, or of two bindings, of which one is a formal parameter: of a
-- closure with `async` or `gen`, or of the function.
abbrev pub MadeOnce : Store → List PatId → Type 0
MadeOnce store formals = (k : ℕ) → (times_bound k store.bindings + times_labelled k store.labels ≤ 1)
    ⊎ (IsHanded k store ⊎ IsHandedTo k store formals)

-- paths and types

-- with all that the environment says of them
abbrev pub whole_path : ResolveCtx → AstPath → OptionPath
whole_path at x = tree.some_path (resolved_path at x)

abbrev pub whole_type : ResolveCtx → Option AstType_ → OptionType
whole_type at t = type_part at t

-- what is read back of a stored path in each later store
abbrev pub ReadsBack : Stored → Option Path → OptionPath → Type 0
ReadsBack new r p = (later : Stored) → Extends new later → option_map (stored_path (store_of later) (map_of later)) r ≡ written_path p

-- Its names are those of the written segments that bear one, where no use tree stands around it or its trait, no segment of
-- either is missing, and its trait has no qualified type.
abbrev pub BearsNames : Stored → AstPath → Option Path → Type 0
BearsNames new x None = Unit {0}
BearsNames new x (Some p) = (later : Stored) → Extends new later → Whole x → PlainTrait (first_trait (out-Path x).segs)
    → map Some (path_names (stored_path (store_of later) (map_of later) p)) ≡ map segment_name (named_segments x)

-- one type more, to which its node leads from now on
pub record AddsType (old new : Stored) (i : TypeRefId) (ty : TypeRef) (at : Pointer) : Type 0 where
  pub number : i ≡ type_id (length old.types.entries)
  pub added : new ≡ record old { types = with_entry type_id old.types ty (Some at) }

abbrev pub NoRoomForType : Stored → Type 0
NoRoomForType old = old.types.limit ≤ length old.types.entries

-- the number that the next parameter of the lists gets; lists that aren't there have none
abbrev pub next_param : Option GenericLists → ℕ
next_param None = 0
next_param (Some l) = length l.type_or_consts

-- what an `impl` with these bounds becomes, behind these lists of parameters
abbrev pub becomes : ImplTrait → Option GenericLists → List TypeBound → TypeRef
becomes mode.Error lists bounds = ty.Error
becomes mode.Opaque lists bounds = ty.ImplTrait bounds
becomes (mode.Argument def) lists bounds = parameter_type def (next_param lists)

-- a parameter more, which an `impl` became, with a predicate for each of its bounds
abbrev pub with_impl : TypeRefId → List TypeBound → GenericLists → GenericLists
with_impl target bounds l = record l {
  type_or_consts = l.type_or_consts ++ unnamed_param ∷ [];
  where_predicates = l.where_predicates ++ predicates_of target bounds;
}

-- the lists behind it, where there are any
abbrev pub lists_behind : ImplTrait → Option GenericLists → TypeRefId → List TypeBound → Option GenericLists
lists_behind mode.Error lists target bounds = lists
lists_behind mode.Opaque lists target bounds = lists
lists_behind (mode.Argument def) None target bounds = None
lists_behind (mode.Argument def) (Some l) target bounds = Some (with_impl target bounds l)

-- no type more, or no parameter more
abbrev pub NoRoomForImpl : Stored → Option GenericLists → Type 0
NoRoomForImpl old None = NoRoomForType old
NoRoomForImpl old (Some l) = NoRoomForType old ⊎ (4294967295 ≤ length l.type_or_consts)

-- one type more fits, and so does one parameter more
abbrev pub RoomForType : Stored → Type 0
RoomForType old = length old.types.entries < old.types.limit

abbrev pub RoomForImpl : Stored → Option GenericLists → Type 0
RoomForImpl old None = RoomForType old
RoomForImpl old (Some l) = RoomForType old × (length l.type_or_consts < 4294967295)

-- What stands in a later store for the constants of a lowered path or type, by the mappings of its tree: as for the tree of a root.
pub record ConstantsLive (old new later : Stored) (stand : Mappings) : Type 0 where
  pub mappings : List Mapping
  pub corresponds : stand mappings
  pub reaches : Reaches old new mappings
  pub owner_mappings : OwnersAre new.bindings.owners mappings

-- What lowering a path to r leaves: types and lifetimes from just those of its nodes that become one, and its constants. Those are
-- roots, also where r is none; behind the faults, the blocks and the macro calls that were noted before come theirs, in the order of
-- lowering. In each later store each body inside r does what the written one does; r and the expressions and patterns that came reach
-- each type in one way only, and none that was stored before; so do the expressions and types that came reach each pattern. The patterns
-- that came make bindings that came, each owned by the innermost closure, coroutine, `const` block, length or argument around it, as
-- `lives` says, and by its number, as `owners` does.
pub record PathRooted (old new : Stored) (r : Option Path) (p : OptionPath) : Type 0 where
  pub inner : (later : Stored) → Extends new later
      → SameBodies (store_of later) (map_of later) (of_some (path_inner_bodies (store_of later)) r) (path_bodies p)
  pub lives : (later : Stored) → Extends new later → Settled new later
      → ConstantsLive old new later (WholeMappings (store_of later) (map_of later) [] p)
  pub roots : (later : Stored) → Extends new later → RootsOf [] old new later (whole_size p).inner
  pub faults : new.diagnostics ≡ old.diagnostics ++ whole_faults [] p
  pub blocks : new.block_scopes ≡ old.block_scopes ++ blocks_of_whole p
  pub expansions : new.expansions ≡ old.expansions ++ expanded_in_path p
  pub types_reached_once : (later : Stored) → Extends new later → TypesSpread old new later (λ f. of_present (of_path f) r)
  pub pats_reached_once : (later : Stored) → Extends new later → PatsSpread old new later []
  pub inside_reached_once : (later : Stored) → Extends new later → (depth : ℕ) → length later.exprs.entries ≤ depth
      → Spread (length old.exprs.entries) (length new.exprs.entries)
      (of_each (reached_to (store_of later) depth) (unrun_in_path (store_of later) r))
  pub bindings_came : BindingsCame old new
  pub grown : Grown (whole_size p) old new
  pub stored_data : DataAdded (data_in_path p) old new
  pub owners : new.bindings.owners ≡ old.bindings.owners ++ placed_owners (length old.exprs.entries) (whole_size p).owners
  pub paired : Paired new
  pub mapped : Mapped old → Mapped new

-- what is read back of a stored type in each later store
abbrev pub TypeReadsBack : Stored → TypeRefId → OptionType → Type 0
TypeReadsBack new i t = (later : Stored) → Extends new later → stored_type (store_of later) (map_of later) i ≡ written_type t

-- What lowering a type to i leaves: types and lifetimes from just those of its nodes that become one, and its constants. Those are roots;
-- behind the faults, the blocks and the macro calls that were noted before come theirs, in the order of lowering. In each later store
-- each body inside i does what the written one does; i and the expressions and patterns that came reach each type in one way only, and
-- none that was stored before; so do the expressions and types that came reach each pattern. The patterns that came make bindings that
-- came, each owned by the innermost body around it, as `lives` says, and by its number, as `owners` does.
pub record TypeRooted (old new : Stored) (i : TypeRefId) (t : OptionType) : Type 0 where
  pub inner : (later : Stored) → Extends new later
      → SameBodies (store_of later) (map_of later) (type_inner_bodies (store_of later) i) (part_bodies t)
  pub lives : (later : Stored) → Extends new later → Settled new later
      → ConstantsLive old new later (TypePartMappings (store_of later) (map_of later) [] t)
  pub roots : (later : Stored) → Extends new later → RootsOf [] old new later (type_part_size t).inner
  pub faults : new.diagnostics ≡ old.diagnostics ++ type_part_faults [] t
  pub blocks : new.block_scopes ≡ old.block_scopes ++ blocks_of_type_part t
  pub expansions : new.expansions ≡ old.expansions ++ expanded_in_type t
  pub types_reached_once : (later : Stored) → Extends new later → TypesSpread old new later (λ f. f i)
  pub pats_reached_once : (later : Stored) → Extends new later → PatsSpread old new later []
  pub inside_reached_once : (later : Stored) → Extends new later → (depth : ℕ) → length later.exprs.entries ≤ depth
      → Spread (length old.exprs.entries) (length new.exprs.entries)
      (of_each (reached_to (store_of later) depth) (unrun_in_type (store_of later) i))
  pub bindings_came : BindingsCame old new
  pub grown : Grown (type_part_size t) old new
  pub stored_data : DataAdded (data_in_type t) old new
  pub owners : new.bindings.owners ≡ old.bindings.owners ++ placed_owners (length old.exprs.entries) (type_part_size t).owners
  pub paired : Paired new
  pub mapped : Mapped old → Mapped new

-- bodies of items

-- statics and constants of modules and constants of impls must have a body
abbrev pub required_body : DefWithBodyId → ItemContainerId → Option MissingBodyItemKind
required_body (owner.StaticId _) (container.ModuleId _) = Some kind.Static
required_body (owner.ConstId _) (container.ModuleId _) = Some kind.Const
required_body (owner.ConstId _) (container.ImplId _) = Some kind.AssocConst
required_body _ _ = None

abbrev pub body_fault : Option MissingBodyItemKind → OptionExpr → Option MissingBodyItemKind
body_fault k tree.no_expr = k
body_fault k (tree.some_expr e) = None

abbrev pub unless_skipped : Bool → OptionExpr → OptionExpr
unless_skipped true e = tree.no_expr
unless_skipped false e = e

-- a skipped body is no coroutine
abbrev pub kind_unless_skipped : Bool → Option CoroutineKind → Option CoroutineKind
kind_unless_skipped true kind = None
kind_unless_skipped false kind = kind

-- the body that an item has: of a skipped item it is absent
abbrev pub body_read : ResolveCtx → DefWithBodyId → Option AstExpr → OptionExpr
body_read at owner body = unless_skipped (at.answers.skip owner) (expr_part at body)

-- a body that is missing where it must be there
abbrev pub missing_fault : Pointer → Option MissingBodyItemKind → Faults
missing_fault node None = []
missing_fault node (Some k) = MissingBody node k ∷ []

-- the fault that an item owes, which is none where it is skipped
abbrev pub owed_faults : Bool → Pointer → Option MissingBodyItemKind → OptionExpr → Faults
owed_faults true node k e = []
owed_faults false node k e = missing_fault node (body_fault k e)

abbrev pub body_owes : ResolveCtx → DefWithBodyId → AstPtr → Option AstExpr → Faults
body_owes at owner node body =
    owed_faults (at.answers.skip owner) (in_file at.place node) (required_body owner (at.answers.container owner)) (expr_part at body)

-- parameters of items

-- the binding of a `self` that no condition disables
abbrev pub receiver_read : SelfFormal → Option Binding
receiver_read (tree.self_formal at u _) = Some (record { name = u.name; mode = u.mode; hygiene = u.hygiene; problems = None })
receiver_read _ = None

-- the bodies inside stored patterns
unfoldable pub pats_inner_bodies : Store → List PatId → List Inside
pats_inner_bodies store ps = all_of (all_inners store).pat ps

-- what the outside hands the arguments to: what was written, or, where the body is a coroutine, names, each at the node of a pattern
abbrev pub AreHandedIn : Option CoroutineKind → Store → SourceMap → List (Param PatId) → Tops → Type 0
AreHandedIn None store source_map params ps = map (λ p. p.formal) params ≡ map (λ p. p.user_written) params
AreHandedIn (Some kind) store source_map params ps =
    map (λ p. stored_pat store source_map p.formal) params ≡ formal_patterns (map written_pat ps)

-- the same of `self`: where the body is a coroutine it is a binding of the same name in front of it
abbrev pub IsSelfHandedIn : Option CoroutineKind → Store → Option (Param BindingId) → SelfFormal → Type 0
IsSelfHandedIn None store receiver self = option_map (λ p. p.formal) receiver ≡ option_map (λ p. p.user_written) receiver
IsSelfHandedIn (Some kind) store receiver self =
    option_and_then (λ p. slice_get store.bindings p.formal.0) receiver ≡ receiver_read self

-- Each parameter is read back as the written pattern, in order, and `self` is its binding. Each body inside these patterns, which
-- is a constant or an end of a range in one of their paths, does what the written one in its place does. The patterns that the outside
-- hands its arguments to and the expressions and types reach each pattern in one way only.
pub record HasParams (kind : Option CoroutineKind) (store : Store) (source_map : SourceMap) (params : List (Param PatId))
    (receiver : Option (Param BindingId)) (skipped : Bool) (formals : Formals) : Type 0 where
  pub patterns : map (λ p. stored_pat store source_map p.user_written) params ≡ map written_pat (formals_read skipped formals.formals)
  pub binding : option_and_then (λ p. slice_get store.bindings p.user_written.0) receiver ≡ receiver_read formals.receiver
  pub inner : SameBodies store source_map (pats_inner_bodies store (map (λ p. p.user_written) params))
      (tops_bodies (formals_read skipped formals.formals))
  pub pats_reached_once : (depth : ℕ) → length store.pats ≤ depth → let l = of_pats_alone (pats_reached store.pats depth) in
      Spread 0 (length store.pats)
      (of_all l.pats (map (λ p. p.formal) params) ++ (of_exprs l store.exprs ++ of_types l store.types))
  pub handed_in : AreHandedIn kind store source_map params (formals_read skipped formals.formals)
  pub handed_self : IsSelfHandedIn kind store receiver formals.receiver
