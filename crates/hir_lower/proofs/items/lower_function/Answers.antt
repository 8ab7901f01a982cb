use Rattle.std.proofs.Common.{refl}
use Rattle.hir_store.specs.Past.{Within}
use Rattle.hir_store.specs.declared.ids.GenericDefId.TheVariants as definition
use Rattle.hir_lower_builder.specs.Builder.{new_builder}
use Rattle.hir_lower_item.specs.Kinds.{of_kinds}
use Rattle.hir_lower_item.specs.Lower.{lower_function}
use Rattle.thm_item_generics.specs.AskedFold.{asked_in_function}
use Rattle.thm_item_generics.proofs.AskedTheorems.{items_ask}
use Rattle.thm_item_generics.specs.Fold.{tracked_in_function}
use Rattle.thm_item_generics.specs.Tracked.{by_kind}
use Rattle.thm_item_generics.proofs.Theorems.{items_make}
use Rattle.thm_item_result.specs.Answers.{FunctionReads}
use Rattle.thm_item_result.specs.Inside.{HoldsOnce, held_by_function, with_held_params}
use Rattle.thm_item_result.specs.ItemResult.{ItemResult}
use Rattle.thm_item_result.specs.Numbers.{past_params}
use Rattle.thm_item_result.specs.Once.{ReachesOnce, named_by_function, with_params}
use Rattle.thm_item_result.specs.Parts.{function_parts}
use Rattle.thm_item_result.specs.Stored.{data_of_item}
use Rattle.thm_item_result.specs.Sizes.{ItemFitsIn}
use Rattle.thm_item_result.proofs.ResolvedTree.{functions_read}
use Rattle.thm_item_result.proofs.Apart.{items_apart}
use Rattle.thm_item_result.proofs.Data.{first_items_store}
use Rattle.thm_item_result.proofs.Fitting.{fitting_items}
use Rattle.thm_item_result.proofs.Took.{refused_items}
use Rattle.thm_item_result.proofs.Inside.{functions_hold_once}
use Rattle.thm_item_result.proofs.Once.{functions_once}
use Rattle.thm_item_result.proofs.Whole.{item_results}
use Rattle.thm_body_result.specs.StoredData.{ReadsAs}
use Rattle.hir_lower.specs.ItemParams.{ParamsAre}
use Rattle.hir_lower.specs.Items.{read_function, signature}
use Rattle.hir_lower.proofs.ItemNumbers.{params_exist}
use Rattle.hir_lower.proofs.ItemMeanings.{from_if, item_too_large, made_once_if, nothing_stored, params_are, reads_if}
use Rattle.hir_lower.proofs.items.lower_function.Goals as goal

pub returns-clause-result : goal.returns-clause-result
returns-clause-result g c =
    let env = g.E.LowerEnv.answers c.args.db.now in
    let def = definition.FunctionId c.args.id in
    let x = read_function env c.args.item.file_id c.args.inside c.args.id c.args.item.value.now in
    from_if (lower_function def x) of_kinds 4294967295 (λ r. signature r.3 r.4 r.5 r.6) (λ r. r.2) (λ r. r.0) (λ r. r.1)
    (λ ps s m a. ItemResult s m (function_parts def x)) (λ b a is. (item_results def).4 x 4294967295 b a is)
    c.function_steps.result c.function_steps.ensures.made

pub returns-clause-stored : goal.returns-clause-stored
returns-clause-stored g c =
    let env = g.E.LowerEnv.answers c.args.db.now in
    let def = definition.FunctionId c.args.id in
    let x = read_function env c.args.item.file_id c.args.inside c.args.id c.args.item.value.now in
    from_if (lower_function def x) of_kinds 4294967295 (λ r. signature r.3 r.4 r.5 r.6) (λ r. r.2) (λ r. r.0) (λ r. r.1)
    (λ ps s m a. ReadsAs (data_of_item (function_parts def x)) s m) (λ b a is. (first_items_store def).4 x 4294967295 b a is)
    c.function_steps.result c.function_steps.ensures.made

pub returns-clause-params : goal.returns-clause-params
returns-clause-params g c =
    let env = g.E.LowerEnv.answers c.args.db.now in
    let def = definition.FunctionId c.args.id in
    let x = read_function env c.args.item.file_id c.args.inside c.args.id c.args.item.value.now in
    let n = tracked_in_function def x in
    let asks = asked_in_function def x in
    from_if (lower_function def x) of_kinds 4294967295 (λ r. signature r.3 r.4 r.5 r.6) (λ r. r.2) (λ r. r.0) (λ r. r.1)
    (λ ps s m a. ParamsAre s m n (by_kind n) (asks 0).asks ps)
    (λ b a is. params_are n (by_kind n) asks 4294967295 b (of_kinds b.tracks) ((items_make def).4 x 4294967295 b a is)
    ((items_ask def).4 x (new_builder 4294967295) b a (nothing_stored 4294967295) is) refl)
    c.function_steps.result c.function_steps.ensures.made

pub returns-clause-reads : goal.returns-clause-reads
returns-clause-reads g c =
    let env = g.E.LowerEnv.answers c.args.db.now in
    let def = definition.FunctionId c.args.id in
    let x = read_function env c.args.item.file_id c.args.inside c.args.id c.args.item.value.now in
    reads_if (lower_function def x) of_kinds 4294967295 (λ r. signature r.3 r.4 r.5 r.6) (λ r. r.2) (λ r. r.0) (λ r. r.1)
    (λ s m a. FunctionReads s m x a.args a.ret a.has_self a.has_variadic) (functions_read def x)
    c.function_steps.result c.function_steps.ensures.made

pub returns-clause-too_large : goal.returns-clause-too_large
returns-clause-too_large g c = λ is.
    let env = g.E.LowerEnv.answers c.args.db.now in
    let def = definition.FunctionId c.args.id in
    let x = read_function env c.args.item.file_id c.args.inside c.args.id c.args.item.value.now in
    item_too_large (function_parts def x) (lower_function def x) 4294967295 ((refused_items def).4 x) (c.function_steps.ensures.full is)

pub returns-clause-made_once : goal.returns-clause-made_once
returns-clause-made_once g c =
    let env = g.E.LowerEnv.answers c.args.db.now in
    let def = definition.FunctionId c.args.id in
    let x = read_function env c.args.item.file_id c.args.inside c.args.id c.args.item.value.now in
    made_once_if (lower_function def x) of_kinds 4294967295 (λ r. signature r.3 r.4 r.5 r.6) (λ r. r.2) (λ r. r.0) (λ r. r.1)
    ((items_apart def).4 x) c.function_steps.result c.function_steps.ensures.made

pub returns-clause-fits : goal.returns-clause-fits
returns-clause-fits g c =
    let env = g.E.LowerEnv.answers c.args.db.now in
    let def = definition.FunctionId c.args.id in
    let x = read_function env c.args.item.file_id c.args.inside c.args.id c.args.item.value.now in
    from_if (lower_function def x) of_kinds 4294967295 (λ r. signature r.3 r.4 r.5 r.6) (λ r. r.2) (λ r. r.0) (λ r. r.1)
    (λ ps s m a. ItemFitsIn 4294967295 (function_parts def x)) (λ b a is. (fitting_items def).4 x 4294967295 b a is)
    c.function_steps.result c.function_steps.ensures.made

pub returns-clause-params_in_range : goal.returns-clause-params_in_range
returns-clause-params_in_range g c =
    let env = g.E.LowerEnv.answers c.args.db.now in
    let def = definition.FunctionId c.args.id in
    let x = read_function env c.args.item.file_id c.args.inside c.args.id c.args.item.value.now in
    let n = tracked_in_function def x in
    let asks = asked_in_function def x in
    from_if (lower_function def x) of_kinds 4294967295 (λ r. signature r.3 r.4 r.5 r.6) (λ r. r.2) (λ r. r.0) (λ r. r.1)
    (λ ps s m a. Within s (past_params ps))
    (λ b a is. params_exist n (by_kind n) asks 4294967295 b (of_kinds b.tracks)
    ((item_results def).4 x 4294967295 b a is).expr_sources ((items_make def).4 x 4294967295 b a is)
    ((items_ask def).4 x (new_builder 4294967295) b a (nothing_stored 4294967295) is) refl)
    c.function_steps.result c.function_steps.ensures.made

pub returns-clause-reached_once : goal.returns-clause-reached_once
returns-clause-reached_once g c =
    let env = g.E.LowerEnv.answers c.args.db.now in
    let def = definition.FunctionId c.args.id in
    let x = read_function env c.args.item.file_id c.args.inside c.args.id c.args.item.value.now in
    from_if (lower_function def x) of_kinds 4294967295 (λ r. signature r.3 r.4 r.5 r.6) (λ r. r.2) (λ r. r.0) (λ r. r.1)
    (λ ps s m a. ReachesOnce s (with_params s m ps (named_by_function a.args a.ret))) (λ b a is. functions_once def x 4294967295 b a is)
    c.function_steps.result c.function_steps.ensures.made

pub returns-clause-inside_reached_once : goal.returns-clause-inside_reached_once
returns-clause-inside_reached_once g c =
    let env = g.E.LowerEnv.answers c.args.db.now in
    let def = definition.FunctionId c.args.id in
    let x = read_function env c.args.item.file_id c.args.inside c.args.id c.args.item.value.now in
    from_if (lower_function def x) of_kinds 4294967295 (λ r. signature r.3 r.4 r.5 r.6) (λ r. r.2) (λ r. r.0) (λ r. r.1)
    (λ ps s m a. HoldsOnce s (with_held_params s m ps (held_by_function a.args a.ret)))
    (λ b a is. functions_hold_once def x 4294967295 b a is)
    c.function_steps.result c.function_steps.ensures.made
