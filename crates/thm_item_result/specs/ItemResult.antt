-- Store and source map of an item that is lowered by itself are one result of its parts.
use Rattle.std.specs.Prelude.{◌≡◌, ℕ, ◌≤◌, List, [], ◌++◌, length, Ok}
use Rattle.hir_store.specs.StoreSink.{pat_id, type_id}
use Rattle.hir_store.specs.Stored.{Store, SourceMap, store_of, map_of}
use Rattle.hir_lower_builder.specs.Builder.{Builder, new_builder}
use Rattle.hir_lower_builder.specs.Lowering.{Lowering}
use Rattle.thm_semantics.specs.Reached.{Spread}
use Rattle.thm_body_result.specs.Definitions.{DefinitionsAre}
use Rattle.thm_body_result.specs.Leads.{Mapping, Covers, CoversBindings, CoversLabels, MapLeads, LeadBack, OwnersAre}
use Rattle.thm_body_result.specs.Size.{calls_led, led_by, placed_owners, sources_led, target_leads, targets_led}
use Rattle.thm_body_result.specs.Expanded.{expansions}
use Rattle.thm_body_result.specs.Lists.{blocks, faults}
use Rattle.thm_type_result.specs.Named.{of_exprs, of_pats, of_pats_alone, of_types_alone}
use Rattle.thm_type_result.specs.Pats.{of_types, pats_reached}
use Rattle.thm_type_result.specs.Reached.{types_reached}
use Rattle.thm_type_result.specs.Roots.{RootsAre, lengths_of, no_lengths}
use Rattle.thm_item_result.specs.Parts.{Part}
use Rattle.thm_item_result.specs.Items.{OfItems}
use Rattle.thm_item_result.specs.Sizes.{parts_size}
use Rattle.thm_item_result.specs.Emitted.{ItemMappings, grade_item}

-- What is stored where one item was lowered. There are patterns, types and lifetimes from just those nodes of its parts that become one,
-- in the order in which they are read, types that come from no node, and as many expressions, labels and bindings as the bodies inside
-- them become, and nothing besides. Each body inside is a root, in the order in which they are done, also one that nothing reaches.
-- Nodes of patterns, types and lifetimes lead to them, except for patterns that are made up or assigned to, those of expressions and labels
-- to what they became, and the assignee expression and is no place to its pattern, by a map of its own; of other nodes those of calls alone
-- lead anywhere. However deep one looks, expressions and patterns together reach no type in two ways, types and expressions no pattern.
-- Each binding is that of a name of a top pattern in these bodies, or of a name that is made up or that a parameter is handed in by, has
-- the patterns that make it, and is owned by the innermost closure, coroutine, `const` block, length or argument around it, as its way
-- says and as it is counted. The entered blocks, the faults and the macro calls that are entered are those of the parts, in their
-- order.
pub record ItemResult (store : Store) (source_map : SourceMap) (xs : List Part) : Type 0 where
  pub exprs : length store.exprs ≡ (parts_size xs).exprs
  pub labels : length store.labels ≡ (parts_size xs).labels
  pub bindings : length store.bindings ≡ (parts_size xs).bindings
  pub owners : store.binding_owners ≡ placed_owners 0 (parts_size xs).owners
  pub pats : length store.pats ≡ length (parts_size xs).pats
  pub types : length store.types ≡ length (parts_size xs).types
  pub lifetimes : length store.lifetimes ≡ length (parts_size xs).lifetimes
  pub expr_sources : length source_map.expr_sources ≡ length store.exprs
  pub label_sources : length source_map.label_sources ≡ length store.labels
  pub pat_sources : source_map.pat_sources ≡ (parts_size xs).pats
  pub type_sources : source_map.type_sources ≡ (parts_size xs).types
  pub lifetime_sources : source_map.lifetime_sources ≡ (parts_size xs).lifetimes
  pub pat_map : source_map.pat_map ≡ led_by pat_id 0 (parts_size xs).pat_leads []
  pub pat_mappings : let leads = (parts_size xs).pat_leads in
      LeadBack (λ i. i.0) source_map.pat_map (sources_led leads) (calls_led leads)
  pub target_map : source_map.target_map ≡ targets_led pat_id 0 (parts_size xs).pat_leads []
  pub target_mappings : let leads = target_leads (parts_size xs).pat_leads in
      LeadBack (λ i. i.0) source_map.target_map (sources_led leads) (calls_led leads)
  pub types_map : source_map.types_map ≡ led_by type_id 0 (parts_size xs).type_leads []
  pub type_mappings : let leads = (parts_size xs).type_leads in
      LeadBack (λ i. i.0) source_map.types_map source_map.type_sources (calls_led leads)
  pub lifetime_mappings : LeadBack (λ i. i.0) source_map.lifetime_map source_map.lifetime_sources []
  pub definitions : DefinitionsAre store.pats (length store.bindings) source_map.binding_definitions
  pub mappings : List Mapping
  pub corresponds : ItemMappings store source_map [] xs mappings
  pub covers : Covers mappings 0 (length store.exprs)
  pub covers_labels : CoversLabels mappings 0 (length store.labels)
  pub covers_bindings : CoversBindings mappings 0 (length store.bindings)
  pub owner_mappings : OwnersAre store.binding_owners mappings
  pub leads : MapLeads source_map mappings
  -- of the entry functions `ReachesOnce` implies this: it says so of the same, together with all that is answered
  pub types_reached_once : (depth : ℕ) → length store.types ≤ depth → let l = of_types_alone (types_reached store.types depth) in
      Spread 0 (length store.types) (of_exprs l store.exprs ++ of_pats l store.pats)
  pub pats_reached_once : (depth : ℕ) → length store.pats ≤ depth → let l = of_pats_alone (pats_reached store.pats depth) in
      Spread 0 (length store.pats) (of_exprs l store.exprs ++ of_types l store.types)
  pub roots : RootsAre store source_map [] no_lengths (lengths_of store) store.roots (parts_size xs).inner
  pub blocks : source_map.block_scopes ≡ grade_item blocks xs []
  pub faults : source_map.diagnostics ≡ grade_item faults xs []
  pub expansions : source_map.expansions ≡ grade_item expansions xs

-- so it is where an item is lowered first
abbrev pub FirstResult : {A : Type 0} → List Part → Lowering A → Type 0
FirstResult {A} xs p = (limit : ℕ) (new : Builder) (a : A) → p (new_builder limit) ≡ (Ok a, new)
    → ItemResult (store_of new.stored) (map_of new.stored) xs

abbrev pub ItemResults : Type 0
ItemResults = OfItems (λ A xs p. FirstResult xs p)
