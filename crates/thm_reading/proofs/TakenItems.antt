-- Which items `for` and `?` take is what the rules say, and nothing else is.
use Rattle.std.proofs.Common.{◌≡◌, ◌↔◌, ◌∙◌, refl, Option, Some, None}
use Rattle.hir_store.specs.declared.ids.LangItemId.{LangItemId}
use Rattle.hir_env.specs.declared.lang.LangItems.{LangItems}
use Rattle.hir_env.specs.ResolvedTree.{ForItems, QuestionItems}
use Rattle.hir_env.specs.Answering.{for_items, for_items_if, items_if, question_items}
use Rattle.thm_reading.specs.Decided as rule
use Rattle.thm_reading.specs.Decided.{ForItemsAs, QuestionItemsAs}
use Rattle.thm_reading.proofs.Decided.{by_both}

-- `for`

for_without_next : (i g d : Option LangItemId) → for_items_if i None g d ≡ None
for_without_next None g d = refl
for_without_next (Some i) g d = refl

for_without_some : (i n d : Option LangItemId) → for_items_if i n None d ≡ None
for_without_some None n d = refl
for_without_some (Some i) None d = refl
for_without_some (Some i) (Some n) d = refl

for_without_none : (i n g : Option LangItemId) → for_items_if i n g None ≡ None
for_without_none None n g = refl
for_without_none (Some i) None g = refl
for_without_none (Some i) (Some n) None = refl
for_without_none (Some i) (Some n) (Some g) = refl

-- `?`

question_without_continue : (b s : Option LangItemId) (items : LangItems) → items_if b None s items ≡ None
question_without_continue None s items = refl
question_without_continue (Some b) s items = refl

question_without_break : (b g : Option LangItemId) (items : LangItems) → items_if b g None items ≡ None
question_without_break None g items = refl
question_without_break (Some b) None items = refl
question_without_break (Some b) (Some g) items = refl

module _ (items : LangItems) where
  for_as : (i n g d : Option LangItemId) → items.into_iter_into_iter ≡ i → items.iterator_next ≡ n → items.option_some ≡ g
      → items.option_none ≡ d → ForItemsAs items (for_items_if i n g d)
  for_as None n g d h1 h2 h3 h4 = rule.no_into_iter h1
  for_as (Some i) None g d h1 h2 h3 h4 = rule.no_next h2
  for_as (Some i) (Some n) None d h1 h2 h3 h4 = rule.no_some h3
  for_as (Some i) (Some n) (Some g) None h1 h2 h3 h4 = rule.no_none h4
  for_as (Some i) (Some n) (Some g) (Some d) h1 h2 h3 h4 = rule.all_four h1 h2 h3 h4

  its_for : (x : Option ForItems) → ForItemsAs items x → for_items items ≡ x
  its_for _ (rule.all_four h1 h2 h3 h4) = λ i. for_items_if (h1 i) (h2 i) (h3 i) (h4 i)
  its_for _ (rule.no_into_iter h) = λ i. for_items_if (h i) items.iterator_next items.option_some items.option_none
  its_for _ (rule.no_next h) = (λ i. for_items_if items.into_iter_into_iter (h i) items.option_some items.option_none)
      ∙ for_without_next items.into_iter_into_iter items.option_some items.option_none
  its_for _ (rule.no_some h) = (λ i. for_items_if items.into_iter_into_iter items.iterator_next (h i) items.option_none)
      ∙ for_without_some items.into_iter_into_iter items.iterator_next items.option_none
  its_for _ (rule.no_none h) = (λ i. for_items_if items.into_iter_into_iter items.iterator_next items.option_some (h i))
      ∙ for_without_none items.into_iter_into_iter items.iterator_next items.option_some

  pub for_items_decided : (x : Option ForItems) → (for_items items ≡ x) ↔ ForItemsAs items x
  for_items_decided = by_both (ForItemsAs items) (for_items items)
      (for_as items.into_iter_into_iter items.iterator_next items.option_some items.option_none refl refl refl refl) its_for

  question_as : (b g s : Option LangItemId) → items.try_trait_branch ≡ b → items.control_flow_continue ≡ g
      → items.control_flow_break ≡ s → QuestionItemsAs items (items_if b g s items)
  question_as None g s h1 h2 h3 = rule.no_branch h1
  question_as (Some b) None s h1 h2 h3 = rule.no_continue h2
  question_as (Some b) (Some g) None h1 h2 h3 = rule.no_break h3
  question_as (Some b) (Some g) (Some s) h1 h2 h3 = rule.all_three h1 h2 h3

  its_question : (x : Option QuestionItems) → QuestionItemsAs items x → question_items items ≡ x
  its_question _ (rule.all_three h1 h2 h3) = λ i. items_if (h1 i) (h2 i) (h3 i) items
  its_question _ (rule.no_branch h) = λ i. items_if (h i) items.control_flow_continue items.control_flow_break items
  its_question _ (rule.no_continue h) = (λ i. items_if items.try_trait_branch (h i) items.control_flow_break items)
      ∙ question_without_continue items.try_trait_branch items.control_flow_break items
  its_question _ (rule.no_break h) = (λ i. items_if items.try_trait_branch items.control_flow_continue (h i) items)
      ∙ question_without_break items.try_trait_branch items.control_flow_continue items

  pub question_items_decided : (x : Option QuestionItems) → (question_items items ≡ x) ↔ QuestionItemsAs items x
  question_items_decided = by_both (QuestionItemsAs items) (question_items items)
      (question_as items.try_trait_branch items.control_flow_continue items.control_flow_break refl refl refl) its_question
