-- What small bodies of forms with types and arguments do, computed.
use Rattle.std.proofs.Common.{◌≡◌, ◌∷◌, [], false, refl, ap}
use Rattle.hir_store.specs.Generics.{of_args}
use Rattle.hir_store.specs.declared.path.GenericArg.TheVariants as arg
use Rattle.hir_store.specs.declared.path.GenericArgsParentheses.TheVariants.{No}
use Rattle.hir_store.specs.declared.path.AssociatedTypeBinding.TheFolds.{fold-roll-GenericArgs}
use Rattle.spec_data.specs.Data as datum
use Rattle.spec_data.specs.Data.{ArgsData, BindingData}
use Rattle.spec_data.specs.Reading as reading
use Rattle.spec_data.specs.Reading.{stored_path, stored_type, stored_args, args_layer, Readers, readers}
use Rattle.spec_semantics.specs.Run.{reply, ends, event, ◌>>=◌, method_call}
use Rattle.spec_semantics.specs.Catching.{loop, block}
use Rattle.spec_semantics.specs.Store.{run_store, run_to}
use Rattle.spec_semantics.specs.Small.{event_of}
use Rattle.spec_semantics.specs.Forms.{reads_a, name_m}
use Rattle.spec_semantics.specs.Typed.{CastsToItsType, NamesAnOffset, CallsWithArguments, type_number, method_of_never, store_with}
use Rattle.spec_semantics.specs.Typed.{map_with}

pub casts_to_its_type : CastsToItsType
unfolding ends event ◌>>=◌ loop block run_store run_to stored_path stored_type readers
casts_to_its_type = record { written = record { events = refl; ends = refl }; stored = record { events = refl; ends = refl } }

pub names_an_offset : NamesAnOffset
unfolding ends event ◌>>=◌ loop block run_store run_to stored_type readers
names_an_offset = record { written = record { events = refl; ends = refl }; stored = record { events = refl; ends = refl } }

-- the list of one type, read by one step
one_type : (r : Readers)
    → args_layer (store_with method_of_never) (map_with method_of_never) r (of_args (arg.Type_ (type_number 0) ∷ []) false [] No)
    ≡ datum.args_data (datum.more_arguments (datum.type_argument (r.type (type_number 0))) datum.no_arguments) false datum.no_bindings No
unfolding args_layer
one_type r =
    let store = store_with method_of_never in
    let source_map = map_with method_of_never in
    fold-roll-GenericArgs BindingData ArgsData (reading.binding_step store source_map r) (reading.args_step store source_map r)
    (record { args = arg.Type_ (type_number 0) ∷ []; has_self_type = false; bindings = []; parenthesized = No })

pub calls_with_arguments : CallsWithArguments
unfolding ends event ◌>>=◌ loop block run_store run_to stored_path stored_args readers
calls_with_arguments = record {
  written = record { events = refl; ends = refl };
  stored = record {
    events = ap (λ d. reads_a ∷ event_of (method_call name_m (datum.some_args d)) (reply 11 ∷ []) 0 ∷ [])
        (one_type (readers (store_with method_of_never) (map_with method_of_never) 1));
    ends = refl;
  };
}
