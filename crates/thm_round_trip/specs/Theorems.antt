-- What lowering stores for a path, a type, a list of arguments, a pattern or the assignee expression reads back, in what is stored by
-- then and in all that is stored later, as what is written.
use Rattle.std.specs.Prelude.{◌≡◌, ◌||◌, Bool, None, Option, map, option_map, Ok}
use Rattle.hir_store.specs.Pointers.{Pointer}
use Rattle.hir_store.specs.Stored.{Stored, store_of, map_of}
use Rattle.hir_store.specs.StoreSink.{Extends}
use Rattle.hir_store.specs.declared.hir.CoroutineKind.{CoroutineKind}
use Rattle.hir_store.specs.declared.ids.ExprId.{ExprId}
use Rattle.hir_store.specs.declared.ids.PatId.{PatId}
use Rattle.hir_store.specs.declared.ids.TypeRefId.{TypeRefId}
use Rattle.hir_store.specs.declared.path.GenericArgs.{GenericArgs}
use Rattle.hir_store.specs.declared.path.Path.{Path as HirPath}
use Rattle.hir_env.specs.ResolvedTree.{OptionExpr, OptionType, OptionPath, OptionArgs, OptionPat, Params, Target, coroutine_closure_expr}
use Rattle.hir_lower_builder.specs.Builder.{Builder}
use Rattle.hir_lower_builder.specs.Lower.{type_part, lower, lower_part, lower_path, args_part, lower_top, lower_target}
use Rattle.thm_logic.specs.Keeps.{Paired, formals_of}
use Rattle.spec_data.specs.Written.{written_type, written_path, written_args}
use Rattle.spec_data.specs.Patterns.{written_pat}
use Rattle.spec_data.specs.Preludes.{formal_patterns}
use Rattle.spec_data.specs.Reading.{stored_type, stored_path, stored_args, stored_pat}
use Rattle.spec_data.specs.Targets.{target_data}
use Rattle.spec_data.specs.Tops.{params_tops}
use Rattle.spec_data.specs.Yields.{yields_in}

-- none is answered where the path is absent or refused
abbrev pub PathTheorem : Type 0
PathTheorem = (p : OptionPath) (o o' : Builder) (r : Option HirPath) → Paired o.stored → lower_path p o ≡ (Ok r, o')
    → (final : Stored) → Extends o'.stored final → option_map (stored_path (store_of final) (map_of final)) r ≡ written_path p

abbrev pub TypeTheorem : Type 0
TypeTheorem = (t : OptionType) (o o' : Builder) (i : TypeRefId) → Paired o.stored → type_part None t o ≡ (Ok i, o')
    → (final : Stored) → Extends o'.stored final → stored_type (store_of final) (map_of final) i ≡ written_type t

abbrev pub ArgsTheorem : Type 0
ArgsTheorem = (a : OptionArgs) (o o' : Builder) (r : Option GenericArgs) → Paired o.stored → args_part a o ≡ (Ok r, o')
    → (final : Stored) → Extends o'.stored final → stored_args (store_of final) (map_of final) r ≡ written_args a

abbrev pub PatTheorem : Type 0
PatTheorem = (p : OptionPat) (o o' : Builder) (i : PatId) → Paired o.stored → lower_top p o ≡ (Ok i, o')
    → (final : Stored) → Extends o'.stored final → stored_pat (store_of final) (map_of final) i ≡ written_pat p

abbrev pub TargetTheorem : Type 0
TargetTheorem = (t : Target) (o o' : Builder) (i : PatId) → Paired o.stored → lower_target t o ≡ (Ok i, o')
    → (final : Stored) → Extends o'.stored final → stored_pat (store_of final) (map_of final) i ≡ target_data t

-- what a closure whose body is a coroutine is handed its arguments by
abbrev pub FormalsTheorem : Type 0
FormalsTheorem = (at : Pointer) (kind : CoroutineKind) (moves : Bool) (ps : Params) (t : OptionType) (e : OptionExpr) (o o' : Builder)
    (i : ExprId) → Paired o.stored → lower (coroutine_closure_expr at kind moves ps t e) o ≡ (Ok i, o')
    → (final : Stored) → Extends o'.stored final
    → map (λ p. stored_pat (store_of final) (map_of final) p) (formals_of (store_of final) i.0)
    ≡ formal_patterns (map written_pat (params_tops ps))

-- A `yield` is noted exactly where one stands in it, and in none of the bodies inside it.
abbrev pub YieldsTheorem : Type 0
YieldsTheorem = (e : OptionExpr) (b c : Builder) (i : ExprId) → Paired b.stored → lower_part e b ≡ (Ok i, c)
    → c.yields ≡ (b.yields || yields_in e)
