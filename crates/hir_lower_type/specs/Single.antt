-- What an argument gives by itself, before it stands in the lists.
use Rattle.std.specs.Prelude.{◌≡◌, [], None, Ok, Err}
use Rattle.hir_store.specs.Past.{Past, join, nothing, past_arg, past_binding}
use Rattle.hir_store.specs.Range.{Has}
use Rattle.hir_store.specs.Stored.{Stored}
use Rattle.hir_store.specs.declared.error.StoreError.TheVariants.{Memory}
use Rattle.hir_store.specs.declared.path.GenericArg.TheVariants as arg
use Rattle.hir_env.specs.ResolvedTree as tree
use Rattle.hir_env.specs.ResolvedTree.{Arg}
use Rattle.hir_lower_builder.specs.Lower.{args_part, lower_bounds, lower_constant, present_type, type_part}
use Rattle.hir_lower_builder.specs.Lowering.{Checked, Lowering, ◌>>=◌, pure}
use Rattle.hir_lower_builder.specs.Types.{add_arg, add_binding, binding_form, lower_lifetime, past_lists}
use Rattle.hir_lower_builder.specs.declared.args.ArgLists.{ArgLists}
use Rattle.hir_lower_type.specs.declared.one_arg.OneArg.{OneArg}
use Rattle.hir_lower_type.specs.declared.one_arg.OneArg.TheVariants as one

-- the lists with it, behind the others
abbrev pub with_one : ArgLists → OneArg → ArgLists
with_one l one.Skipped = l
with_one l (one.Arg a) = add_arg l a
with_one l (one.Binding b) = add_binding l b

abbrev pub past_one : OneArg → Past
past_one one.Skipped = nothing
past_one (one.Arg a) = past_arg a
past_one (one.Binding b) = past_binding b

-- the lists with what was found, or else the fault, unless memory ends
abbrev pub IsBehind : ArgLists → Checked OneArg → Checked ArgLists → Type 0
IsBehind l (Ok o) (Ok m) = (m ≡ with_one l o) × (past_lists m ≡ join (past_lists l) (past_one o))
IsBehind l (Ok o) (Err e) = e ≡ Memory
IsBehind l (Err e) r = r ≡ Err e

abbrev pub HasOne : Stored → OneArg → Type 0
HasOne s o = Has s (past_one o)

abbrev pub single_arg : Arg → Lowering OneArg
single_arg tree.skipped_arg = pure one.Skipped
single_arg (tree.type_arg t) = do
  id ← type_part None t
  pure (one.Arg (arg.Type_ id))
single_arg (tree.lifetime_arg l) = do
  id ← lower_lifetime l
  pure (one.Arg (arg.Lifetime id))
single_arg (tree.const_arg c) = do
  x ← lower_constant c
  pure (one.Arg (arg.Const x))
single_arg (tree.assoc_arg name as' dots t bs) = do
  b ← binding_form name dots (args_part as') (present_type t) (lower_bounds [] bs)
  pure (one.Binding b)
