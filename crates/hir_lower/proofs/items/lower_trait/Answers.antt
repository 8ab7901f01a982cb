use Rattle.std.proofs.Common.{refl}
use Rattle.hir_store.specs.Past.{Within}
use Rattle.hir_store.specs.declared.ids.GenericDefId.TheVariants as definition
use Rattle.hir_lower_builder.specs.Builder.{new_builder}
use Rattle.hir_lower_item.specs.Lower.{lower_trait}
use Rattle.thm_item_generics.specs.AskedFold.{asked_in_trait}
use Rattle.thm_item_generics.proofs.AskedTheorems.{items_ask}
use Rattle.thm_item_generics.specs.Fold.{tracked_in_trait}
use Rattle.thm_item_generics.specs.Tracked.{all_early}
use Rattle.thm_item_generics.proofs.Theorems.{items_make}
use Rattle.thm_item_result.specs.Inside.{HoldsOnce, none_held, with_held_params}
use Rattle.thm_item_result.specs.ItemResult.{ItemResult}
use Rattle.thm_item_result.specs.Numbers.{past_params}
use Rattle.thm_item_result.specs.Once.{ReachesOnce, none_named, with_params}
use Rattle.thm_item_result.specs.Parts.{trait_parts}
use Rattle.thm_item_result.specs.Stored.{data_of_item}
use Rattle.thm_item_result.specs.Sizes.{ItemFitsIn}
use Rattle.thm_item_result.proofs.Apart.{items_apart}
use Rattle.thm_item_result.proofs.Data.{first_items_store}
use Rattle.thm_item_result.proofs.Fitting.{fitting_items}
use Rattle.thm_item_result.proofs.Took.{refused_items}
use Rattle.thm_item_result.proofs.Inside.{traits_hold_once}
use Rattle.thm_item_result.proofs.Once.{traits_once}
use Rattle.thm_item_result.proofs.Whole.{item_results}
use Rattle.thm_body_result.specs.StoredData.{ReadsAs}
use Rattle.hir_lower.specs.ItemParams.{ParamsAre}
use Rattle.hir_lower.specs.Items.{as_tracked, read_trait}
use Rattle.hir_lower.proofs.ItemNumbers.{params_exist}
use Rattle.hir_lower.proofs.ItemMeanings.{from_if, item_too_large, made_once_if, nothing_stored, params_are}
use Rattle.hir_lower.proofs.items.lower_trait.Goals as goal

pub returns-clause-result : goal.returns-clause-result
returns-clause-result g c =
    let env = g.E.LowerEnv.answers c.args.db.now in
    let def = definition.TraitId c.args.id in
    let x = read_trait env c.args.item.file_id c.args.inside c.args.id c.args.item.value.now in
    from_if (lower_trait def x) as_tracked 4294967295 (λ r. tt) (λ r. r.2) (λ r. r.0) (λ r. r.1)
    (λ ps s m a. ItemResult s m (trait_parts def x)) (λ b a is. (item_results def).1 x 4294967295 b a is)
    c.trait_steps.result c.trait_steps.ensures.made

pub returns-clause-stored : goal.returns-clause-stored
returns-clause-stored g c =
    let env = g.E.LowerEnv.answers c.args.db.now in
    let def = definition.TraitId c.args.id in
    let x = read_trait env c.args.item.file_id c.args.inside c.args.id c.args.item.value.now in
    from_if (lower_trait def x) as_tracked 4294967295 (λ r. tt) (λ r. r.2) (λ r. r.0) (λ r. r.1)
    (λ ps s m a. ReadsAs (data_of_item (trait_parts def x)) s m) (λ b a is. (first_items_store def).1 x 4294967295 b a is)
    c.trait_steps.result c.trait_steps.ensures.made

pub returns-clause-params : goal.returns-clause-params
returns-clause-params g c =
    let env = g.E.LowerEnv.answers c.args.db.now in
    let def = definition.TraitId c.args.id in
    let x = read_trait env c.args.item.file_id c.args.inside c.args.id c.args.item.value.now in
    let n = tracked_in_trait def x in
    let asks = asked_in_trait def x in
    from_if (lower_trait def x) as_tracked 4294967295 (λ r. tt) (λ r. r.2) (λ r. r.0) (λ r. r.1)
    (λ ps s m a. ParamsAre s m n (all_early n) (asks 0).asks ps)
    (λ b a is. params_are n (all_early n) asks 4294967295 b (as_tracked b.tracks) ((items_make def).1 x 4294967295 b a is)
    ((items_ask def).1 x (new_builder 4294967295) b a (nothing_stored 4294967295) is) refl)
    c.trait_steps.result c.trait_steps.ensures.made

pub returns-clause-too_large : goal.returns-clause-too_large
returns-clause-too_large g c = λ is.
    let env = g.E.LowerEnv.answers c.args.db.now in
    let def = definition.TraitId c.args.id in
    let x = read_trait env c.args.item.file_id c.args.inside c.args.id c.args.item.value.now in
    item_too_large (trait_parts def x) (lower_trait def x) 4294967295 ((refused_items def).1 x) (c.trait_steps.ensures.full is)

pub returns-clause-made_once : goal.returns-clause-made_once
returns-clause-made_once g c =
    let env = g.E.LowerEnv.answers c.args.db.now in
    let def = definition.TraitId c.args.id in
    let x = read_trait env c.args.item.file_id c.args.inside c.args.id c.args.item.value.now in
    made_once_if (lower_trait def x) as_tracked 4294967295 (λ r. tt) (λ r. r.2) (λ r. r.0) (λ r. r.1)
    ((items_apart def).1 x) c.trait_steps.result c.trait_steps.ensures.made

pub returns-clause-fits : goal.returns-clause-fits
returns-clause-fits g c =
    let env = g.E.LowerEnv.answers c.args.db.now in
    let def = definition.TraitId c.args.id in
    let x = read_trait env c.args.item.file_id c.args.inside c.args.id c.args.item.value.now in
    from_if (lower_trait def x) as_tracked 4294967295 (λ r. tt) (λ r. r.2) (λ r. r.0) (λ r. r.1)
    (λ ps s m a. ItemFitsIn 4294967295 (trait_parts def x)) (λ b a is. (fitting_items def).1 x 4294967295 b a is)
    c.trait_steps.result c.trait_steps.ensures.made

pub returns-clause-params_in_range : goal.returns-clause-params_in_range
returns-clause-params_in_range g c =
    let env = g.E.LowerEnv.answers c.args.db.now in
    let def = definition.TraitId c.args.id in
    let x = read_trait env c.args.item.file_id c.args.inside c.args.id c.args.item.value.now in
    let n = tracked_in_trait def x in
    let asks = asked_in_trait def x in
    from_if (lower_trait def x) as_tracked 4294967295 (λ r. tt) (λ r. r.2) (λ r. r.0) (λ r. r.1)
    (λ ps s m a. Within s (past_params ps))
    (λ b a is. params_exist n (all_early n) asks 4294967295 b (as_tracked b.tracks)
    ((item_results def).1 x 4294967295 b a is).expr_sources ((items_make def).1 x 4294967295 b a is)
    ((items_ask def).1 x (new_builder 4294967295) b a (nothing_stored 4294967295) is) refl)
    c.trait_steps.result c.trait_steps.ensures.made

pub returns-clause-reached_once : goal.returns-clause-reached_once
returns-clause-reached_once g c =
    let env = g.E.LowerEnv.answers c.args.db.now in
    let def = definition.TraitId c.args.id in
    let x = read_trait env c.args.item.file_id c.args.inside c.args.id c.args.item.value.now in
    from_if (lower_trait def x) as_tracked 4294967295 (λ r. tt) (λ r. r.2) (λ r. r.0) (λ r. r.1)
    (λ ps s m a. ReachesOnce s (with_params s m ps none_named)) (λ b a is. traits_once def x 4294967295 b a is)
    c.trait_steps.result c.trait_steps.ensures.made

pub returns-clause-inside_reached_once : goal.returns-clause-inside_reached_once
returns-clause-inside_reached_once g c =
    let env = g.E.LowerEnv.answers c.args.db.now in
    let def = definition.TraitId c.args.id in
    let x = read_trait env c.args.item.file_id c.args.inside c.args.id c.args.item.value.now in
    from_if (lower_trait def x) as_tracked 4294967295 (λ r. tt) (λ r. r.2) (λ r. r.0) (λ r. r.1)
    (λ ps s m a. HoldsOnce s (with_held_params s m ps none_held)) (λ b a is. traits_hold_once def x 4294967295 b a is)
    c.trait_steps.result c.trait_steps.ensures.made
