-- What the defaults of parameters hold, and where they come from.
use Rattle.std.proofs.Common.{◌≡◌, ◌∙◌, refl, sym, ap, subst, ◌+◌, length, [], ◌∷◌, Option, Some, None, false, Ok, Err}
use Rattle.std.specs.Prelude.{option_map}
use Rattle.hir_store.specs.Generics.{of_args}
use Rattle.hir_store.specs.Stored.{Stored, map_of, store_of}
use Rattle.hir_store.specs.StoreSink.{Extends}
use Rattle.hir_store.specs.declared.path.GenericArg.TheVariants as arg
use Rattle.hir_store.specs.declared.path.GenericArgs.{GenericArgs}
use Rattle.hir_store.specs.declared.path.GenericArgsParentheses.TheVariants as parens
use Rattle.hir_store.specs.declared.type_ref.ConstRef.{ConstRef}
use Rattle.hir_env.specs.ResolvedTree as tree
use Rattle.hir_env.specs.ResolvedTree.{Constant, OptionArgs, OptionType}
use Rattle.hir_env.specs.NodeMap.{Site}
use Rattle.spec_data.specs.Data as datum
use Rattle.spec_data.specs.Data.{ArgsData, ArgumentsData, OptionArgsData}
use Rattle.spec_data.specs.Reading.{stored_constant}
use Rattle.spec_data.specs.Written.{constant_site}
use Rattle.spec_semantics.specs.Inner.{part_bodies}
use Rattle.hir_lower_builder.specs.Builder.{Builder}
use Rattle.hir_lower_builder.specs.Lowering.{Checked, go_on, pure}
use Rattle.hir_lower_builder.specs.Lower.{lower_constant, present_type}
use Rattle.hir_lower_builder.specs.Types.{add_arg, no_lists, yielded}
use Rattle.hir_lower_item.specs.Lower.{present_constant}
use Rattle.thm_logic.specs.Keeps.{Paired}
use Rattle.thm_logic.proofs.Logic.{Correct, correct_in_store}
use Rattle.thm_round_trip.proofs.Generics.{args_roll}
use Rattle.thm_round_trip.proofs.Layers.{within}
use Rattle.thm_round_trip.proofs.Now.{answered}
use Rattle.thm_round_trip.proofs.Tree.{list_reads}
use Rattle.thm_semantics.proofs.HeldTree.{constant_holds, part_holds}
use Rattle.thm_semantics.proofs.HeldTypes.{a_constant}
use Rattle.thm_semantics.proofs.Holding.{Holds, a_type, holds_none, holds_one, maybe}
use Rattle.thm_item_generics.specs.Fold.{default_bodies, default_site}

pub present_holds : (t : OptionType) → Correct (present_type t) (Holds (maybe a_type) (part_bodies t))
present_holds tree.no_type = holds_none None (λ r. refl)
present_holds (tree.some_type t) = holds_one Some (λ r i. refl) (part_holds None (tree.some_type t))

pub default_holds : (c : Option Constant) → Correct (present_constant c) (Holds (maybe a_constant) (default_bodies c))
default_holds None = holds_none None (λ r. refl)
default_holds (Some c) = holds_one Some (λ r x. refl) (constant_holds c)

-- the node of a constant, as that of an argument that is alone in its list

abbrev alone : Constant → OptionArgs
alone c = tree.some_arg_list (tree.more_args (tree.const_arg c) tree.no_args)

abbrev first_argument : ArgumentsData → Option Site
first_argument (datum.more_arguments (datum.constant_argument s) as') = s
first_argument (datum.more_arguments (datum.type_argument t) as') = None
first_argument (datum.more_arguments (datum.lifetime_argument l) as') = None
first_argument datum.no_arguments = None

abbrev argument_in : ArgsData → Option Site
argument_in (datum.args_data as' self bs ps) = first_argument as'

abbrev site_in : OptionArgsData → Option Site
site_in datum.no_args = None
site_in (datum.some_args a) = argument_in a

-- a list of what came of the constant
abbrev listed : Checked ConstRef × Builder → Checked (Option GenericArgs) × Builder
listed r =
    let s = go_on r.0 r.1 (λ x. pure (add_arg no_lists (arg.Const x))) in
    let t = go_on s.0 s.1 (λ m. pure m) in
    go_on t.0 t.1 (λ l. pure (yielded l))

constant_read : (c : Constant) (b b' : Builder) (x : ConstRef) → Paired b.stored → lower_constant c b ≡ (Ok x, b') → (final : Stored)
    → Extends b'.stored final → stored_constant (store_of final) (map_of final) x ≡ constant_site c
constant_read c b b' x paired is final pre =
    let list = of_args (arg.Const x ∷ []) false [] parens.No in
    let row = answered (correct_in_store (list_reads (alone c))) b b' (Some list) paired (ap listed is) final pre in
    let r = within final (length final.types.entries + length final.pats.entries) in
    sym (ap argument_in (args_roll (store_of final) (map_of final) r (arg.Const x ∷ []) false [] parens.No))
    ∙ ap site_in (row.rel.is (length final.types.entries + length final.pats.entries) row.entries)

-- a constant that was lowered, and what is read of it
abbrev DefaultIs : Option Constant → Builder → Checked (Option ConstRef) → Builder → Type 0
DefaultIs c b (Ok d) b' = (final : Stored) → Extends b'.stored final → option_map (stored_constant (store_of final) (map_of final)) d
    ≡ default_site c
DefaultIs c b (Err e) b' = Unit {0}

pub default_read : (c : Option Constant) (b b' : Builder) (d : Option ConstRef) → Paired b.stored → present_constant c b ≡ (Ok d, b')
    → (final : Stored) → Extends b'.stored final → option_map (stored_constant (store_of final) (map_of final)) d ≡ default_site c
default_read c b b' d paired is = subst (λ r. DefaultIs c b r.0 r.1) is (by c)
  where
    of_constant : (c : Constant) (o : Checked ConstRef) (e : Builder) → lower_constant c b ≡ (o, e)
        → let p = go_on o e (λ x. pure (Some x)) in DefaultIs (Some c) b p.0 p.1
    of_constant c (Ok x) e was = λ final pre. ap Some (constant_read c b e x paired was final pre)
    of_constant c (Err f) e was = tt

    by : (c : Option Constant) → DefaultIs c b (present_constant c b).0 (present_constant c b).1
    by None = λ final pre. refl
    by (Some c) = of_constant c (lower_constant c b).0 (lower_constant c b).1 refl
