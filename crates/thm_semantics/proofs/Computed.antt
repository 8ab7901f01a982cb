-- What small bodies become, computed.
use Rattle.std.proofs.Common.{refl}
use Rattle.hir_store.specs.StoreSink as store_sink
use Rattle.hir_lower_builder.specs.Calls.{define_form, inside_macro, track, track_gone}
use Rattle.hir_lower_builder.specs.Lowering.{alloc_expr, report, enter_block, open_label, close, jump_target, point, record_expansion}
use Rattle.hir_lower_builder.specs.Lowering.{point_field, alloc_type, open_barrier, close_barrier, enter_root, outside_root, record_root}
use Rattle.hir_lower_builder.specs.Lowering.{count_def, leave_root, open_macro}
use Rattle.hir_lower_builder.specs.Paths.{whole, segment_args_form}
use Rattle.hir_lower_builder.specs.Lower.{missing, if_form, loop_form, call_form, path_form, continue_form, break_form, block_form}
use Rattle.hir_lower_builder.specs.Lower.{labelled}
use Rattle.hir_lower_builder.specs.Lower.{called_form, uncalled_form, paren_form}
use Rattle.hir_lower_builder.specs.Lower.{iteration_form, method_call_form, record_form, record_contents, field_form}
use Rattle.hir_lower_builder.specs.Lower.{operands_form, value_form, list_form, cast_form, offset_of_form, constant_form}
use Rattle.hir_lower_builder.specs.Lower.{repeat_form, const_form, closure_form, coroutine_block_form, coroutine_form, param_form}
use Rattle.hir_lower_builder.specs.Lower.{yield_form}
use Rattle.hir_lower_builder.specs.Lowering.{bindings_end, own, owning}
use Rattle.hir_lower_builder.specs.Lowering.{alloc_desugared_pat, point_target}
use Rattle.hir_lower_builder.specs.Preludes as preludes
use Rattle.hir_lower_builder.specs.Lowering.{alloc_desugared, made_number, open_try, try_target}
use Rattle.hir_lower_builder.specs.Made.{flow_arm_form, item_call_form, made_bind_form, made_path_form, question_form, residual_form}
use Rattle.hir_lower_builder.specs.Made.{held_form, hold_form, try_block_form, typed_try_form, value_or_unit, wrapped_form}
use Rattle.hir_lower_builder.specs.Made.{done_arm_form, for_form, for_iteration_form, gives_arm_form, made_loop_form, made_reference_form}
use Rattle.hir_lower_builder.specs.Made.{next_form}
use Rattle.hir_lower_builder.specs.Forms.{coroutine_around_form, operand_form}
use Rattle.hir_lower_builder.specs.Types.{array_type_form}
use Rattle.hir_lower_builder.specs.Lowering.{alloc_pat, alloc_binding, define, set_problem, track_yield}
use Rattle.hir_lower_builder.specs.Forms.{let_form, match_form, arm_form, assign_form, let_stmt_form}
use Rattle.hir_lower_builder.specs.Pats.{use_name, settle, bind_form, elements_form, path_pat_form, tuple_pat_form}
use Rattle.hir_lower_builder.specs.Ranges.{range_form, inner_form, before_form, literal_limit_form}
use Rattle.hir_lower_builder.specs.Targets.{alloc_target, place_form, path_target_form, tuple_target_form}
use Rattle.thm_semantics.specs.Examples.{ExampleIsStored, TypedAreStored, PatternedAreStored, ExamplesAreStored}
use Rattle.thm_semantics.specs.Examples.{ArmsAreStored, ConstantsAreStored, ForsAreStored, QuestionsAreStored, RangesAreStored}
use Rattle.thm_semantics.specs.Examples.{ClosuresAreStored, CoroutinesAreStored, CoroutineClosuresAreStored, TriesAreStored}
use Rattle.thm_semantics.specs.Functions.{coroutine_function, in_function}
use Rattle.thm_semantics.specs.Examples.{CallsAreStored, DefinitionsAreStored, FunctionIsStored, OtherNamesAreStored, WhilesAreStored}

pub example_is_stored : ExampleIsStored
unfolding alloc_expr store_sink.alloc_expr enter_block open_label store_sink.alloc_label close jump_target
    if_form loop_form call_form path_form whole segment_args_form break_form block_form labelled
example_is_stored = (refl, refl, refl)

typed_are_stored : TypedAreStored
unfolding alloc_expr store_sink.alloc_expr alloc_type store_sink.alloc_type path_form whole segment_args_form method_call_form cast_form
    offset_of_form array_type_form constant_form owning bindings_end own store_sink.own open_barrier close_barrier enter_root leave_root
    record_root store_sink.record_root outside_root
typed_are_stored = (
  ((refl, refl, refl), (refl, refl)),
  ((refl, refl, refl), (refl, refl)),
  ((refl, refl, refl), (refl, refl)),
  ((refl, refl, refl), (refl, refl)),
  ((refl, refl, refl), (refl, refl)),
)

-- a pattern in an arm, with the fault of a disabled one
arms_are_stored : ArmsAreStored
unfolding alloc_expr store_sink.alloc_expr alloc_pat store_sink.alloc_pat alloc_binding store_sink.alloc_binding define store_sink.define
    set_problem store_sink.set_problem report store_sink.report enter_block path_form whole segment_args_form block_form labelled
    use_name settle bind_form match_form arm_form let_stmt_form
arms_are_stored by = (((refl, refl, refl), (refl, refl, refl)), ((refl, refl, refl), (refl, refl, refl)))

ranges_are_stored : RangesAreStored
unfolding alloc_expr store_sink.alloc_expr path_form whole segment_args_form range_form open_barrier close_barrier enter_root leave_root
    record_root store_sink.record_root outside_root inner_form before_form literal_limit_form
ranges_are_stored i = (
  ((refl, refl, refl), (refl, refl, refl)),
  ((refl, refl, refl), (refl, refl, refl)),
  ((refl, refl, refl), (refl, refl, refl)),
  (refl, (refl, refl, refl)),
)

patterned_are_stored : PatternedAreStored
unfolding alloc_expr store_sink.alloc_expr alloc_pat store_sink.alloc_pat alloc_binding store_sink.alloc_binding define store_sink.define
    set_problem store_sink.set_problem enter_block path_form whole segment_args_form block_form labelled use_name settle bind_form
    let_form match_form let_stmt_form assign_form place_form path_target_form tuple_target_form elements_form range_form
    alloc_desugared_pat store_sink.alloc_desugared_pat alloc_target point_target store_sink.point_target
patterned_are_stored = (
  (λ e. ((refl, refl, refl), (refl, refl, refl))),
  ((refl, refl, refl), (refl, refl, refl)),
  ((refl, refl, refl), (refl, refl, refl)),
  ((refl, refl, refl), (refl, refl, refl)),
  ((refl, refl, refl), (refl, refl, refl)),
  arms_are_stored,
  ranges_are_stored,
)

whiles_are_stored : WhilesAreStored
unfolding alloc_expr store_sink.alloc_expr alloc_pat store_sink.alloc_pat enter_block open_label store_sink.alloc_label close jump_target
    alloc_desugared store_sink.alloc_desugared alloc_binding store_sink.alloc_binding define store_sink.define made_number point
    store_sink.point
    loop_form iteration_form held_form hold_form made_bind_form made_path_form path_form whole segment_args_form continue_form break_form
    block_form labelled settle match_form arm_form let_form paren_form operands_form use_name bind_form set_problem store_sink.set_problem
whiles_are_stored = (
  ((refl, refl, refl), (refl, refl, refl)),
  ((refl, refl, refl), (refl, refl, refl)),
  ((refl, refl, refl), (refl, refl, refl)),
  ((refl, refl, refl), (refl, refl, refl)),
  ((refl, refl, refl), (refl, refl, refl)),
  ((refl, refl, refl), (refl, refl, refl)),
)

questions_are_stored : QuestionsAreStored
unfolding alloc_expr store_sink.alloc_expr alloc_desugared store_sink.alloc_desugared alloc_pat store_sink.alloc_pat alloc_binding
    store_sink.alloc_binding
    define store_sink.define made_number try_target path_form whole segment_args_form missing question_form item_call_form flow_arm_form
    made_bind_form made_path_form residual_form
questions_are_stored = (
  ((refl, refl, refl), (refl, refl, refl)),
  ((refl, refl, refl), (refl, refl, refl)),
  ((refl, refl, refl), (refl, refl, refl)),
  ((refl, refl, refl), (refl, refl, refl)),
)

tries_are_stored : TriesAreStored
unfolding alloc_expr store_sink.alloc_expr alloc_desugared store_sink.alloc_desugared alloc_pat store_sink.alloc_pat alloc_binding
    store_sink.alloc_binding
    define store_sink.define alloc_type store_sink.alloc_type made_number try_target open_try store_sink.alloc_label enter_block
    store_sink.enter_block
    close open_label jump_target path_form whole segment_args_form missing question_form item_call_form flow_arm_form made_bind_form
    made_path_form residual_form try_block_form typed_try_form wrapped_form value_or_unit block_form labelled loop_form break_form
    continue_form
tries_are_stored = (
  ((refl, refl, refl), (refl, refl, refl)),
  ((refl, refl, refl), (refl, refl, refl)),
  ((refl, refl, refl), (refl, refl, refl)),
  ((refl, refl, refl), (refl, refl, refl)),
  ((refl, refl, refl), (refl, refl, refl)),
  ((refl, refl, refl), (refl, refl, refl)),
  (refl, refl, refl),
  (refl, refl, refl),
  (refl, refl, refl),
  (refl, refl, refl),
  (((refl, refl, refl), (refl, refl, refl)), refl, refl),
  (((refl, refl, refl), (refl, refl, refl)), refl, refl),
  (refl, refl, refl),
  (refl, refl, refl),
  (refl, refl, refl),
)

fors_are_stored : ForsAreStored
unfolding alloc_expr store_sink.alloc_expr alloc_desugared store_sink.alloc_desugared alloc_pat store_sink.alloc_pat alloc_binding
    store_sink.alloc_binding
    define store_sink.define set_problem store_sink.set_problem made_number enter_block open_label store_sink.alloc_label close jump_target
    path_form whole segment_args_form report store_sink.report missing use_name for_form for_iteration_form made_loop_form next_form
    done_arm_form gives_arm_form made_reference_form
    item_call_form made_bind_form made_path_form bind_form settle block_form labelled loop_form break_form continue_form operand_form
fors_are_stored = (
  ((refl, refl, refl), (refl, refl, refl)),
  ((refl, refl, refl), (refl, refl, refl)),
  ((refl, refl, refl), (refl, refl, refl)),
  ((refl, refl, refl), (refl, refl, refl)),
  ((refl, refl, refl), (refl, refl, refl)),
  ((refl, refl, refl), (refl, refl, refl)),
  ((refl, refl, refl), (refl, refl, refl)),
  (refl, refl, refl),
)

constants_are_stored : ConstantsAreStored
unfolding alloc_expr store_sink.alloc_expr alloc_desugared store_sink.alloc_desugared alloc_pat store_sink.alloc_pat alloc_binding
    store_sink.alloc_binding
    define store_sink.define made_number try_target open_try store_sink.alloc_label enter_block store_sink.enter_block report
    store_sink.report
    close open_label jump_target path_form whole segment_args_form missing question_form item_call_form flow_arm_form made_bind_form
    made_path_form residual_form try_block_form wrapped_form value_or_unit block_form labelled loop_form break_form
    repeat_form const_form constant_form owning bindings_end own store_sink.own open_barrier close_barrier enter_root leave_root record_root
    store_sink.record_root outside_root
constants_are_stored = (
  (refl, refl, refl),
  (refl, refl, refl),
  (refl, refl, refl),
  ((refl, refl, refl), (refl, refl, refl)),
)

closures_are_stored : ClosuresAreStored
unfolding alloc_expr store_sink.alloc_expr alloc_pat store_sink.alloc_pat alloc_binding store_sink.alloc_binding define store_sink.define
    set_problem store_sink.set_problem alloc_type store_sink.alloc_type report store_sink.report enter_block open_label
    store_sink.alloc_label close
    jump_target use_name settle bind_form block_form labelled loop_form break_form value_form repeat_form constant_form open_barrier
    close_barrier track_yield enter_root leave_root record_root store_sink.record_root outside_root closure_form param_form yield_form
    owning bindings_end own store_sink.own
closures_are_stored = (
  (λ by. (((refl, refl, refl), (refl, refl, refl)), refl, refl)),
  (refl, refl, refl),
  (refl, refl, refl),
  (refl, refl, refl),
  (refl, refl, refl),
)

coroutines_are_stored : CoroutinesAreStored
unfolding alloc_expr store_sink.alloc_expr alloc_desugared store_sink.alloc_desugared alloc_pat store_sink.alloc_pat alloc_binding
    store_sink.alloc_binding
    define store_sink.define made_number try_target open_try store_sink.alloc_label enter_block store_sink.enter_block report
    store_sink.report
    close open_label jump_target path_form whole segment_args_form missing question_form item_call_form flow_arm_form made_bind_form
    made_path_form residual_form try_block_form wrapped_form value_or_unit block_form labelled loop_form break_form continue_form
    value_form yield_form track_yield open_barrier close_barrier closure_form coroutine_block_form coroutine_form
    coroutine_around_form owning bindings_end own store_sink.own
coroutines_are_stored = (
  (λ k. ((refl, refl, refl), (refl, refl, refl), (refl, refl, refl))),
  (refl, refl, refl),
  (refl, refl, refl),
  (refl, refl, refl),
  ((refl, refl, refl), (refl, refl, refl)),
  ((refl, refl, refl), (refl, refl, refl)),
)

other_names_are_stored : OtherNamesAreStored
unfolding alloc_expr store_sink.alloc_expr alloc_pat store_sink.alloc_pat alloc_desugared_pat store_sink.alloc_desugared_pat alloc_binding
    store_sink.alloc_binding define store_sink.define set_problem store_sink.set_problem path_form whole segment_args_form missing use_name
    settle bind_form param_form open_barrier close_barrier owning bindings_end own store_sink.own preludes.coroutine_closure_form
    preludes.within_form preludes.let_param preludes.handed_in preludes.own_name_of preludes.pat_source preludes.alloc_beside
    preludes.handed_form preludes.name_form preludes.two_lets_form preludes.handed_between preludes.made_coroutine_form
other_names_are_stored k h = (
  (((refl, refl, refl), (refl, refl, refl)), refl, refl),
  (((refl, refl, refl), (refl, refl, refl)), refl, refl),
  (((refl, refl, refl), (refl, refl, refl)), refl, refl),
)

coroutine_closures_are_stored : CoroutineClosuresAreStored
unfolding alloc_expr store_sink.alloc_expr alloc_pat store_sink.alloc_pat alloc_desugared_pat store_sink.alloc_desugared_pat alloc_binding
    store_sink.alloc_binding alloc_type store_sink.alloc_type define store_sink.define set_problem store_sink.set_problem report
    store_sink.report
    enter_block open_label store_sink.alloc_label close jump_target made_number path_form whole segment_args_form missing use_name settle
    bind_form elements_form path_pat_form tuple_pat_form block_form labelled loop_form break_form cast_form array_type_form
    constant_form param_form open_barrier close_barrier enter_root leave_root record_root store_sink.record_root outside_root owning
    bindings_end own store_sink.own
    preludes.coroutine_closure_form preludes.within_form preludes.let_param preludes.handed_in preludes.own_name_of preludes.pat_source
    preludes.alloc_beside preludes.handed_form preludes.name_form preludes.let_form preludes.two_lets_form preludes.handed_by_name
    preludes.handed_between preludes.made_coroutine_form
coroutine_closures_are_stored = (
  (λ k h. (
    (((refl, refl, refl), (refl, refl, refl)), refl, refl),
    (((refl, refl, refl), (refl, refl, refl)), refl, refl),
    (((refl, refl, refl), (refl, refl, refl)), refl, refl),
  )),
  other_names_are_stored,
  (λ k by. (((refl, refl, refl), (refl, refl, refl)), refl, refl)),
  (λ k. (
    (((refl, refl, refl), (refl, refl, refl)), refl, refl),
    (((refl, refl, refl), (refl, refl, refl)), refl, refl),
    (((refl, refl, refl), (refl, refl, refl)), refl, refl),
  )),
)

function_is_stored : FunctionIsStored
unfolding alloc_expr store_sink.alloc_expr alloc_pat store_sink.alloc_pat alloc_desugared_pat store_sink.alloc_desugared_pat alloc_binding
    store_sink.alloc_binding define store_sink.define set_problem store_sink.set_problem enter_block made_number path_form whole
    segment_args_form use_name settle bind_form elements_form tuple_pat_form block_form labelled owning bindings_end own store_sink.own
    in_function coroutine_function preludes.let_self preludes.binding_of preludes.rebind_form preludes.let_param preludes.handed_in
    preludes.own_name_of preludes.pat_source preludes.alloc_beside preludes.handed_form preludes.name_form preludes.let_form
    preludes.two_lets_form preludes.handed_by_name preludes.handed_between preludes.made_coroutine_form
function_is_stored k mode h = (refl, (refl, refl, refl), (refl, refl, refl))

calls_are_stored : CallsAreStored
unfolding alloc_expr store_sink.alloc_expr report store_sink.report record_expansion store_sink.record_expansion point store_sink.point
    track track_gone
    called_form uncalled_form paren_form call_form path_form whole segment_args_form
calls_are_stored = (
  (refl, refl, refl),
  (refl, refl, refl),
  (refl, refl, refl),
)

definitions_are_stored : DefinitionsAreStored
unfolding alloc_expr store_sink.alloc_expr report store_sink.report record_expansion store_sink.record_expansion point
    store_sink.point track
    called_form paren_form enter_block open_label store_sink.alloc_label close jump_target loop_form break_form block_form labelled
    define_form count_def inside_macro open_macro
definitions_are_stored = (
  (refl, refl, refl),
  (refl, refl, refl),
  (refl, refl, refl),
  (refl, refl, refl),
  (refl, refl, refl),
  (refl, refl, refl),
  (refl, refl, refl),
  (refl, refl, refl),
  (refl, refl, refl),
)

pub examples_are_stored : ExamplesAreStored
unfolding alloc_expr store_sink.alloc_expr report store_sink.report track_gone enter_block store_sink.enter_block open_label
    store_sink.alloc_label close
    jump_target missing if_form loop_form call_form path_form whole segment_args_form continue_form break_form block_form labelled
    operands_form value_form list_form method_call_form yield_form track_yield
    record_form record_contents field_form point_field store_sink.point_field
examples_are_stored = (
  (refl, refl, refl),
  (refl, refl, refl),
  (refl, refl, refl),
  (refl, refl, refl),
  (refl, refl, refl),
  (refl, refl, refl),
  (refl, refl, refl),
  (refl, refl, refl),
  (refl, refl, refl),
  (refl, refl, refl),
  (refl, refl, refl),
  (refl, refl, refl),
  (refl, refl, refl),
  (refl, refl, refl),
  (refl, refl, refl),
  (refl, refl, refl),
  (refl, refl, refl),
  (refl, refl, refl),
  (refl, refl, refl),
  (refl, refl, refl),
  (refl, refl, refl),
  (refl, refl, refl),
  (refl, refl, refl),
  (refl, refl, refl),
  (refl, refl, refl),
  (refl, refl, refl),
  (refl, refl, refl),
  (refl, refl, refl),
  (refl, refl, refl),
  (refl, refl, refl),
  (refl, refl, refl),
  (refl, refl, refl),
  (refl, refl, refl),
  typed_are_stored,
  patterned_are_stored,
  whiles_are_stored,
  questions_are_stored,
  tries_are_stored,
  fors_are_stored,
  constants_are_stored,
  closures_are_stored,
  coroutines_are_stored,
  coroutine_closures_are_stored,
  function_is_stored,
  calls_are_stored,
  definitions_are_stored,
)
