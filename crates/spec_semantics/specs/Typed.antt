-- Small bodies of forms with types and arguments, and what they do.
use Rattle.std.specs.Prelude.{false, ℕ, List, [], ◌∷◌, map, Option, Some, option_map}
use Rattle.hir_store.specs.Generics.{of_args}
use Rattle.hir_store.specs.Stored.{Store, SourceMap}
use Rattle.hir_store.specs.declared.hir.Expr.TheVariants as hir
use Rattle.hir_store.specs.declared.ids.TypeRefId.{TypeRefId}
use Rattle.hir_store.specs.declared.name.Name.{Name}
use Rattle.hir_store.specs.declared.name.Name.TheVariants as name
use Rattle.hir_store.specs.declared.path.GenericArg.TheVariants as arg
use Rattle.hir_store.specs.declared.path.GenericArgsParentheses.TheVariants as parens
use Rattle.hir_store.specs.declared.type_ref.TypeRef.{TypeRef}
use Rattle.hir_store.specs.declared.type_ref.TypeRef.TheVariants as ty
use Rattle.hir_env.specs.ResolvedTree as tree
use Rattle.hir_env.specs.ResolvedTree.{OptionExpr, OptionType}
use Rattle.spec_data.specs.Data as datum
use Rattle.spec_data.specs.Data.{TypeData, OptionArgsData}
use Rattle.spec_semantics.specs.Run.{reply, Event, Oracle, method_call, cast, offset_of}
use Rattle.spec_semantics.specs.Syntax.{written_body}
use Rattle.spec_semantics.specs.Store.{stored_body}
use Rattle.spec_semantics.specs.Same.{Ending, ended}
use Rattle.spec_semantics.specs.Small.{at, StoredExprs, only, from, id, event_of, Does}
use Rattle.spec_semantics.specs.Forms.{name_a, stored_a, reads_a, name_m}
use Rattle.spec_semantics.specs.Examples.{no}

-- types, each with the node that it came from, where it came from one
abbrev pub StoredTypes : Type 0
StoredTypes = List (TypeRef × Option ℕ)

-- a body as it is written, and expressions and types, of which this expression is the body as it is stored
pub record TypedExample : Type 0 where
  pub written : OptionExpr
  pub nodes : StoredExprs
  pub types : StoredTypes
  pub root : ℕ

abbrev pub store_with : TypedExample → Store
store_with x = record (only x.nodes) { types = map (λ t. t.0) x.types }

abbrev pub map_with : TypedExample → SourceMap
map_with x = record (from x.nodes) { type_sources = map (λ t. option_map at t.1) x.types }

-- as it is written and as it is stored
pub record BothDoTyped (x : TypedExample) (answers : Oracle) (es : List Event) (end : Ending) : Type 0 where
  pub written : Does (written_body x.written) 0 answers es end
  pub stored : Does (stored_body (store_with x) (map_with x) (id x.root)) 0 answers es end

abbrev pub type_number : ℕ → TypeRefId
type_number n = record { 0 = n }

-- `!`, at node 3, and what it is
abbrev pub never : OptionType
never = tree.some_type (tree.leaf_type (at 3) tree.never_leaf)

abbrev pub stored_never : StoredTypes
stored_never = (ty.Never, Some 3) ∷ []

abbrev pub never_data : TypeData
never_data = datum.typed (Some (at 3)) datum.never_shape

-- `a as !`

abbrev pub cast_to_never : TypedExample
cast_to_never = record {
  written = tree.some_expr (tree.cast_expr (at 0) (tree.some_expr name_a) never);
  nodes = (stored_a, Some 1) ∷ (hir.Cast (id 0) (type_number 0), Some 0) ∷ [];
  types = stored_never;
  root = 1;
}

-- The operand is read, and its value is cast to the type.
abbrev pub CastsToItsType : Type 0
CastsToItsType = BothDoTyped cast_to_never (no 11 ∷ no 12 ∷ [])
    (reads_a ∷ event_of (cast never_data) (reply 11 ∷ []) 0 ∷ [])
    (ended (reply 12))

-- `offset_of!(!, m.n)`

abbrev pub name_n : Name
name_n = name.Text (110 ∷ [])

abbrev pub offset_in_never : TypedExample
offset_in_never = record {
  written = tree.some_expr (tree.offset_of_expr (at 0) never (name_m ∷ name_n ∷ []));
  nodes = (hir.OffsetOf (type_number 0) (name_m ∷ name_n ∷ []), Some 0) ∷ [];
  types = stored_never;
  root = 0;
}

-- It is one event without operands, of the type and the names in their order.
abbrev pub NamesAnOffset : Type 0
NamesAnOffset = BothDoTyped offset_in_never (no 11 ∷ [])
    (event_of (offset_of never_data (name_m ∷ name_n ∷ [])) [] 0 ∷ [])
    (ended (reply 11))

-- `a.m::<!>()`

abbrev pub method_of_never : TypedExample
method_of_never = record {
  written = tree.some_expr (tree.method_call_expr (at 0) (tree.some_expr name_a) name_m tree.no_exprs
      (tree.some_arg_list (tree.more_args (tree.type_arg never) tree.no_args)));
  nodes = (stored_a, Some 1)
      ∷ (hir.MethodCall (id 0) name_m (Some (of_args (arg.Type_ (type_number 0) ∷ []) false [] parens.No)) [], Some 0)
      ∷ [];
  types = stored_never;
  root = 1;
}

-- the list of that type alone
abbrev pub never_alone : OptionArgsData
never_alone = datum.some_args
    (datum.args_data (datum.more_arguments (datum.type_argument never_data) datum.no_arguments) false datum.no_bindings parens.No)

-- The receiver is read, and the method of that name is called with these arguments.
abbrev pub CallsWithArguments : Type 0
CallsWithArguments = BothDoTyped method_of_never (no 11 ∷ no 12 ∷ [])
    (reads_a ∷ event_of (method_call name_m never_alone) (reply 11 ∷ []) 0 ∷ [])
    (ended (reply 12))
