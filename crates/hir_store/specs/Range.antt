-- Which entries an entry names, and that they exist.
use Rattle.std.specs.Prelude.{◌≡◌, ℕ, suc, ◌≤◌, max, List, length, slice_get, Option, Some}
use Rattle.hir_store.specs.Arenas.{past, past_option}
use Rattle.hir_store.specs.Stored.{Stored, Store, SourceMap, store_of}
use Rattle.hir_store.specs.Past.{Past, Within, past_arg, past_arms, past_binding, past_bound, past_bounds, past_each, past_generic}
use Rattle.hir_store.specs.Past.{past_pat, past_pat_fields, past_pat_id, past_pat_ids, past_pats, past_statement, past_statements}
use Rattle.hir_store.specs.Past.{past_lifetime_id, past_path, past_present, past_type, past_type_id, past_type_ids}
use Rattle.hir_store.specs.Past.{past_type_options, past_use_args}
use Rattle.hir_store.specs.declared.hir.Expr.{Expr}
use Rattle.hir_store.specs.declared.hir.Expr.TheVariants as hir
use Rattle.hir_store.specs.declared.hir.Array.TheVariants as array
use Rattle.hir_store.specs.declared.hir.Statement.{Statement}
use Rattle.hir_store.specs.declared.hir.MatchArm.{MatchArm}
use Rattle.hir_store.specs.declared.pat.Pat.{Pat}
use Rattle.hir_store.specs.declared.pat.Pat.TheVariants as pat
use Rattle.hir_store.specs.declared.pat.RecordFieldPat.{RecordFieldPat}
use Rattle.hir_store.specs.declared.ids.BindingId.{BindingId}
use Rattle.hir_store.specs.declared.ids.PatId.{PatId}
use Rattle.hir_store.specs.declared.hir.RecordLitField.{RecordLitField}
use Rattle.hir_store.specs.declared.hir.RecordSpread.{RecordSpread}
use Rattle.hir_store.specs.declared.hir.RecordSpread.TheVariants as spread
use Rattle.hir_store.specs.declared.roots.ExprRoot.{ExprRoot}
use Rattle.hir_store.specs.declared.ids.ExprId.{ExprId}
use Rattle.hir_store.specs.declared.ids.LabelId.{LabelId}
use Rattle.hir_store.specs.declared.ids.TypeRefId.{TypeRefId}
use Rattle.hir_store.specs.declared.ids.LifetimeRefId.{LifetimeRefId}
use Rattle.hir_store.specs.declared.path.Path.{Path}
use Rattle.hir_store.specs.declared.path.GenericArg.{GenericArg}
use Rattle.hir_store.specs.declared.path.GenericArgs.{GenericArgs}
use Rattle.hir_store.specs.declared.path.AssociatedTypeBinding.{AssociatedTypeBinding}
use Rattle.hir_store.specs.declared.type_ref.ConstRef.{ConstRef}
use Rattle.hir_store.specs.declared.type_ref.UseArgRef.{UseArgRef}
use Rattle.hir_store.specs.declared.type_ref.TypeBound.{TypeBound}
use Rattle.hir_store.specs.declared.type_ref.TypeRef.{TypeRef}

-- the least number above those that are named, for each arena

abbrev pub past_expr : ExprId → ℕ
past_expr id = suc id.0

abbrev pub past_label : LabelId → ℕ
past_label id = suc id.0

abbrev pub past_field : RecordLitField → ℕ
past_field f = suc f.expr.0

abbrev pub past_spread : RecordSpread → ℕ
past_spread (spread.Expr id) = suc id.0
past_spread _ = 0

abbrev pub past_root : ExprRoot → ℕ
past_root r = max (suc r.root.0) r.exprs_end.0

abbrev pub pats_end : ExprRoot → ℕ
pats_end r = r.pats_end.0

abbrev pub bindings_end : ExprRoot → ℕ
bindings_end r = r.bindings_end.0

-- the expressions that an expression names
abbrev pub exprs_in : Expr → ℕ
exprs_in (hir.Path p hygiene) = (past_path p).exprs
exprs_in (hir.If c t e) = max (suc c.0) (max (suc t.0) (past_option past_expr e))
exprs_in (hir.Let p e) = suc e.0
exprs_in (hir.Block is_unsafe label id ss tail) = max (past_statements ss).exprs (past_option past_expr tail)
exprs_in (hir.Const c) = suc c.expr.0
exprs_in (hir.Loop b label source) = suc b.0
exprs_in (hir.Call f es) = max (suc f.0) (past past_expr es)
exprs_in (hir.Match e arms) = max (suc e.0) (past_arms arms).exprs
exprs_in (hir.Break label e) = past_option past_expr e
exprs_in (hir.MethodCall receiver name generics es) =
    max (suc receiver.0) (max (past_present past_generic generics).exprs (past past_expr es))
exprs_in (hir.RecordLit p fields spread) = max (past_path p).exprs (max (past past_field fields) (past_spread spread))
exprs_in (hir.Field e name) = suc e.0
exprs_in (hir.UnaryOp op e) = suc e.0
exprs_in (hir.BinaryOp op lhs rhs) = max (suc lhs.0) (suc rhs.0)
exprs_in (hir.Assignment target value) = suc value.0
exprs_in (hir.Index base index) = max (suc base.0) (suc index.0)
exprs_in (hir.Ref rawness mutability e) = suc e.0
exprs_in (hir.Closure args arg_types ret_type body kind capture) = suc body.0
exprs_in (hir.Tuple es) = past past_expr es
exprs_in (hir.Array (array.ElementList es)) = past past_expr es
exprs_in (hir.Array (array.Repeat e c)) = max (suc e.0) (suc c.expr.0)
exprs_in (hir.Return e) = past_option past_expr e
exprs_in (hir.Become e) = suc e.0
exprs_in (hir.Yield e) = past_option past_expr e
exprs_in (hir.Yeet e) = past_option past_expr e
exprs_in (hir.Await e) = suc e.0
exprs_in (hir.Cast e type_ref) = suc e.0
exprs_in _ = 0

-- the labels that it names
abbrev pub labels_in : Expr → ℕ
labels_in (hir.Block is_unsafe label id ss tail) = past_option past_label label
labels_in (hir.Loop b label source) = past_option past_label label
labels_in (hir.Continue label) = past_option past_label label
labels_in (hir.Break label e) = past_option past_label label
labels_in _ = 0

-- the types and the lifetimes that it names
abbrev pub types_in : Expr → ℕ
types_in (hir.Path p hygiene) = (past_path p).types
types_in (hir.Block is_unsafe label id ss tail) = (past_statements ss).types
types_in (hir.Match e arms) = (past_arms arms).types
types_in (hir.MethodCall receiver name generics es) = (past_present past_generic generics).types
types_in (hir.RecordLit p fields spread) = (past_path p).types
types_in (hir.Closure args arg_types ret_type body kind capture) =
    max (past_type_options arg_types).types (past_present past_type_id ret_type).types
types_in (hir.Cast e type_ref) = suc type_ref.0
types_in (hir.OffsetOf container fields) = suc container.0
types_in _ = 0

abbrev pub lifetimes_in : Expr → ℕ
lifetimes_in (hir.Path p hygiene) = (past_path p).lifetimes
lifetimes_in (hir.Block is_unsafe label id ss tail) = (past_statements ss).lifetimes
lifetimes_in (hir.Match e arms) = (past_arms arms).lifetimes
lifetimes_in (hir.MethodCall receiver name generics es) = (past_present past_generic generics).lifetimes
lifetimes_in (hir.RecordLit p fields spread) = (past_path p).lifetimes
lifetimes_in _ = 0

-- the patterns that it names
abbrev pub pats_in : Expr → ℕ
pats_in (hir.Path p hygiene) = (past_path p).pats
pats_in (hir.Let p e) = suc p.0
pats_in (hir.Block is_unsafe label id ss tail) = (past_statements ss).pats
pats_in (hir.Match e arms) = (past_arms arms).pats
pats_in (hir.MethodCall receiver name generics es) = (past_present past_generic generics).pats
pats_in (hir.RecordLit p fields spread) = (past_path p).pats
pats_in (hir.Assignment target value) = suc target.0
pats_in (hir.Closure args arg_types ret_type body kind capture) = (past_pat_ids args).pats
pats_in _ = 0

-- the bindings that a pattern names
abbrev pub bindings_in : Pat → ℕ
bindings_in (pat.Bind id subpat) = suc id.0
bindings_in _ = 0

-- what is named exists

abbrev pub HasNone : Stored → Unit {0} → Type 0
HasNone s _ = Unit {0}

abbrev pub HasExpr : Stored → ExprId → Type 0
HasExpr s id = suc id.0 ≤ length s.exprs.entries

abbrev pub HasExprOption : Stored → Option ExprId → Type 0
HasExprOption s o = past_option past_expr o ≤ length s.exprs.entries

abbrev pub HasExprs : Stored → List ExprId → Type 0
HasExprs s ids = past past_expr ids ≤ length s.exprs.entries

abbrev pub HasFields : Stored → List RecordLitField → Type 0
HasFields s fs = past past_field fs ≤ length s.exprs.entries

abbrev pub HasSpread : Stored → RecordSpread → Type 0
HasSpread s r = past_spread r ≤ length s.exprs.entries

abbrev pub HasLabel : Stored → LabelId → Type 0
HasLabel s id = suc id.0 ≤ length s.labels.entries

abbrev pub HasLabelOption : Stored → Option LabelId → Type 0
HasLabelOption s o = past_option past_label o ≤ length s.labels.entries

-- what this lies past exists
abbrev pub Has : Stored → Past → Type 0
Has s p = Within (store_of s) p

abbrev pub HasStatementOption : Stored → Option Statement → Type 0
HasStatementOption s o = Has s (past_present past_statement o)

abbrev pub HasStatements : Stored → List Statement → Type 0
HasStatements s ss = Has s (past_statements ss)

abbrev pub HasArms : Stored → List MatchArm → Type 0
HasArms s arms = Has s (past_arms arms)

abbrev pub HasPat : Stored → PatId → Type 0
HasPat s id = suc id.0 ≤ length s.pats.entries

abbrev pub HasPatOption : Stored → Option PatId → Type 0
HasPatOption s o = Has s (past_present past_pat_id o)

abbrev pub HasPats : Stored → List PatId → Type 0
HasPats s ids = Has s (past_pat_ids ids)

abbrev pub HasPatFields : Stored → List RecordFieldPat → Type 0
HasPatFields s fs = Has s (past_pat_fields fs)

abbrev pub HasBindingId : Stored → BindingId → Type 0
HasBindingId s id = suc id.0 ≤ length s.bindings.entries

abbrev pub HasType : Stored → TypeRefId → Type 0
HasType s id = suc id.0 ≤ length s.types.entries

abbrev pub HasTypeOption : Stored → Option TypeRefId → Type 0
HasTypeOption s o = Has s (past_present past_type_id o)

abbrev pub HasTypes : Stored → List TypeRefId → Type 0
HasTypes s ids = Has s (past_type_ids ids)

abbrev pub HasConst : Stored → ConstRef → Type 0
HasConst s c = HasExpr s c.expr

abbrev pub HasLifetime : Stored → LifetimeRefId → Type 0
HasLifetime s id = suc id.0 ≤ length s.lifetimes.entries

abbrev pub HasLifetimeOption : Stored → Option LifetimeRefId → Type 0
HasLifetimeOption s o = Has s (past_present past_lifetime_id o)

abbrev pub HasArgsOption : Stored → Option GenericArgs → Type 0
HasArgsOption s o = Has s (past_present past_generic o)

abbrev pub HasBinding : Stored → AssociatedTypeBinding → Type 0
HasBinding s b = Has s (past_binding b)

abbrev pub HasBound : Stored → TypeBound → Type 0
HasBound s b = Has s (past_bound b)

abbrev pub HasBounds : Stored → List TypeBound → Type 0
HasBounds s bs = Has s (past_bounds bs)

abbrev pub HasUseArgs : Stored → List UseArgRef → Type 0
HasUseArgs s as' = Has s (past_use_args as')

abbrev pub HasPath : Stored → Path → Type 0
HasPath s p = Has s (past_path p)

abbrev pub HasPathOption : Stored → Option Path → Type 0
HasPathOption s o = Has s (past_present past_path o)

-- the parts of a type
abbrev pub HasTypeParts : Stored → TypeRef → Type 0
HasTypeParts s t = Has s (past_type t)

-- the parts of a pattern
abbrev pub HasPatParts : Stored → Pat → Type 0
HasPatParts s p = Has s (past_pat p) × (bindings_in p ≤ length s.bindings.entries)

-- the parts of an expression
abbrev pub HasParts : Stored → Expr → Type 0
HasParts s e =
    (exprs_in e ≤ length s.exprs.entries) × (labels_in e ≤ length s.labels.entries)
    × (types_in e ≤ length s.types.entries) × (lifetimes_in e ≤ length s.lifetimes.entries)
    × (pats_in e ≤ length s.pats.entries)

-- what is named in the entry at each place is no more than the place
abbrev pub NamesEarlier : {A : Type 0} → (A → ℕ) → List A → Type 0
NamesEarlier {A = A} named xs = (n : ℕ) (x : A) → slice_get xs n ≡ Some x → named x ≤ n

-- each pattern up to the target of an assignment names only expressions in front of the assignment
abbrev pub TargetsEarlier : List Expr → List Pat → Type 0
TargetsEarlier es ps = (n : ℕ) (target : PatId) (value : ExprId) → slice_get es n ≡ Some (hir.Assignment target value)
    → (i : ℕ) (p : Pat) → i ≤ target.0 → slice_get ps i ≡ Some p → (past_pat p).exprs ≤ n

-- each entry names only earlier entries of its own kind
pub record StoreDescends (es : List Expr) (ts : List TypeRef) (ps : List Pat) : Type 0 where
  pub exprs : NamesEarlier exprs_in es
  pub types : NamesEarlier (λ t. (past_type t).types) ts
  pub pats : NamesEarlier (λ p. (past_pat p).pats) ps
  pub targets : TargetsEarlier es ps

-- every number in the store is in range, and none leads forward
pub record StoreInRange (s : Store) : Type 0 where
  pub exprs : past exprs_in s.exprs ≤ length s.exprs
  pub labels : past labels_in s.exprs ≤ length s.labels
  pub types : past types_in s.exprs ≤ length s.types
  pub lifetimes : past lifetimes_in s.exprs ≤ length s.lifetimes
  pub pats : past pats_in s.exprs ≤ length s.pats
  pub of_types : Within s (past_each past_type s.types)
  pub of_pats : Within s (past_pats s.pats)
  pub bindings : past bindings_in s.pats ≤ length s.bindings
  pub owners : past (past_option past_expr) s.binding_owners ≤ length s.exprs
  pub roots : past past_root s.roots ≤ length s.exprs
  pub pats_ends : past pats_end s.roots ≤ length s.pats
  pub bindings_ends : past bindings_end s.roots ≤ length s.bindings
  pub descends : StoreDescends s.exprs s.types s.pats

-- the patterns that make bindings
abbrev pub past_definition : PatId → ℕ
past_definition p = suc p.0

abbrev pub past_definitions : List (List PatId) → ℕ
past_definitions pss = past (past past_definition) pss

-- every number in what is stored so far is in range, except for the ways to what is stored
abbrev pub InRangeSoFar : Stored → Type 0
InRangeSoFar s =
    StoreInRange (store_of s)
    × (past (λ e. past_expr e.0) s.field_map_back ≤ length s.exprs.entries)
    × (past (λ e. suc e.0.0) s.pat_field_map_back ≤ length s.pats.entries)
    × (past_definitions s.bindings.definitions ≤ length s.pats.entries)
    × (past (λ mapping. suc mapping.1.0) s.target_map ≤ length s.pats.entries)

-- every number in the source map is one of the store, and each entry has its source
pub record MapInRange (s : Store) (m : SourceMap) : Type 0 where
  pub expr_sources : length m.expr_sources ≡ length s.exprs
  pub label_sources : length m.label_sources ≡ length s.labels
  pub pat_sources : length m.pat_sources ≡ length s.pats
  pub type_sources : length m.type_sources ≡ length s.types
  pub lifetime_sources : length m.lifetime_sources ≡ length s.lifetimes
  pub exprs : past (λ mapping. past_expr mapping.1) m.expr_map ≤ length s.exprs
  pub labels : past (λ mapping. past_label mapping.1) m.label_map ≤ length s.labels
  pub pats : past (λ mapping. suc mapping.1.0) m.pat_map ≤ length s.pats
  pub targets : past (λ mapping. suc mapping.1.0) m.target_map ≤ length s.pats
  pub fields : past (λ e. past_expr e.0) m.field_map_back ≤ length s.exprs
  pub pat_fields : past (λ e. suc e.0.0) m.pat_field_map_back ≤ length s.pats
  pub as_many_bindings : length m.binding_definitions ≡ length s.bindings
  pub definitions : past_definitions m.binding_definitions ≤ length s.pats
  pub types : past (λ mapping. suc mapping.1.0) m.types_map ≤ length s.types
  pub lifetimes : past (λ mapping. suc mapping.1.0) m.lifetime_map ≤ length s.lifetimes

pub record InRange (s : Store) (m : SourceMap) : Type 0 where
  pub store : StoreInRange s
  pub source_map : MapInRange s m

-- no arena is shorter in `new` than in `old`
abbrev pub Grows : Stored → Stored → Type 0
Grows old new =
    (length old.exprs.entries ≤ length new.exprs.entries) × (length old.labels.entries ≤ length new.labels.entries)
    × (length old.types.entries ≤ length new.types.entries) × (length old.lifetimes.entries ≤ length new.lifetimes.entries)
    × (length old.pats.entries ≤ length new.pats.entries) × (length old.bindings.entries ≤ length new.bindings.entries)
