-- Store and source map of a type that is lowered by itself are one result of its tree.
use Rattle.std.specs.Prelude.{◌≡◌, ℕ, ◌≤◌, List, [], ◌++◌, length, None, Ok, Err}
use Rattle.hir_store.specs.StoreSink.{pat_id, type_id}
use Rattle.hir_store.specs.Stored.{Store, SourceMap, store_of, map_of}
use Rattle.hir_store.specs.declared.error.StoreError.{StoreError}
use Rattle.hir_store.specs.declared.ids.TypeRefId.{TypeRefId}
use Rattle.hir_env.specs.ResolvedTree.{OptionType}
use Rattle.spec_data.specs.Written.{written_type}
use Rattle.spec_data.specs.Reading.{stored_type}
use Rattle.hir_lower_builder.specs.Builder.{Builder, new_builder}
use Rattle.hir_lower_builder.specs.Lower.{type_part}
use Rattle.thm_semantics.specs.Reached.{Spread, of_each, reached_to}
use Rattle.thm_body_result.specs.Definitions.{DefinitionsAre}
use Rattle.thm_body_result.specs.Leads.{Mapping, Covers, CoversBindings, CoversLabels, MapLeads, LeadBack, OwnersAre}
use Rattle.spec_semantics.specs.Inner.{part_bodies, type_inner_bodies}
use Rattle.spec_semantics.specs.Same.{SameBodies}
use Rattle.thm_body_result.specs.Blocks.{blocks_of_type_part}
use Rattle.thm_body_result.specs.Diagnostics.{type_part_faults}
use Rattle.thm_body_result.specs.Room.{Short, type_part_size}
use Rattle.thm_body_result.specs.Size.{calls_led, led_by, placed_owners, sources_led, target_leads, targets_led}
use Rattle.thm_body_result.specs.Corresponds.{TypePartMappings}
use Rattle.thm_type_result.specs.Named.{of_exprs, of_pats, of_pats_alone, of_types_alone}
use Rattle.thm_type_result.specs.Pats.{of_types, pats_reached}
use Rattle.thm_type_result.specs.Reached.{types_reached}
use Rattle.thm_type_result.specs.Roots.{RootsAre, lengths_of, no_lengths}
use Rattle.thm_type_result.specs.Unrun.{unrun_in_type}

-- What is stored where one type was lowered. It reads back as what is written, and each body inside it does what the written one does.
-- There are patterns, types and lifetimes from just those of its nodes that become one, in the order of lowering, patterns that are made
-- up for those of parameters, and as many expressions, labels and bindings as the bodies inside it become, and nothing besides. Each
-- body inside is a root, in the order in which they are done, also one that the type doesn't reach. Nodes of patterns, types and
-- lifetimes lead to them, except for patterns that are made up or assigned to, those of expressions and labels to what they became, and
-- the assignee expression and is no place to its pattern, by a map of its own; of other nodes those of calls alone lead anywhere. However
-- deep one looks, the type, all expressions and all patterns together reach no type in two ways, types and expressions no pattern, and
-- what the type holds and doesn't run no expression. Each binding is that of a name of a top pattern in these bodies, or of a name that
-- is made up or that a parameter is handed in by, has the patterns that make it, and is owned by the innermost closure, coroutine,
-- `const` block, length or argument around it, as its way says and as it is counted. The faults and the entered blocks are those of
-- these bodies, in the order of lowering.
pub record TypeResult (store : Store) (source_map : SourceMap) (i : TypeRefId) (t : OptionType) : Type 0 where
  pub reads_back : stored_type store source_map i ≡ written_type t
  pub inner : SameBodies store source_map (type_inner_bodies store i) (part_bodies t)
  pub exprs : length store.exprs ≡ (type_part_size t).exprs
  pub labels : length store.labels ≡ (type_part_size t).labels
  pub bindings : length store.bindings ≡ (type_part_size t).bindings
  pub owners : store.binding_owners ≡ placed_owners 0 (type_part_size t).owners
  pub pats : length store.pats ≡ length (type_part_size t).pats
  pub types : length store.types ≡ length (type_part_size t).types
  pub lifetimes : length store.lifetimes ≡ length (type_part_size t).lifetimes
  pub expr_sources : length source_map.expr_sources ≡ length store.exprs
  pub label_sources : length source_map.label_sources ≡ length store.labels
  pub pat_sources : source_map.pat_sources ≡ (type_part_size t).pats
  pub type_sources : source_map.type_sources ≡ (type_part_size t).types
  pub lifetime_sources : source_map.lifetime_sources ≡ (type_part_size t).lifetimes
  pub pat_map : source_map.pat_map ≡ led_by pat_id 0 (type_part_size t).pat_leads []
  pub pat_mappings : let leads = (type_part_size t).pat_leads in
      LeadBack (λ i. i.0) source_map.pat_map (sources_led leads) (calls_led leads)
  pub target_map : source_map.target_map ≡ targets_led pat_id 0 (type_part_size t).pat_leads []
  pub target_mappings : let leads = target_leads (type_part_size t).pat_leads in
      LeadBack (λ i. i.0) source_map.target_map (sources_led leads) (calls_led leads)
  pub types_map : source_map.types_map ≡ led_by type_id 0 (type_part_size t).type_leads []
  pub type_mappings : let leads = (type_part_size t).type_leads in
      LeadBack (λ i. i.0) source_map.types_map source_map.type_sources (calls_led leads)
  pub lifetime_mappings : LeadBack (λ i. i.0) source_map.lifetime_map source_map.lifetime_sources []
  pub definitions : DefinitionsAre store.pats (length store.bindings) source_map.binding_definitions
  pub mappings : List Mapping
  pub corresponds : TypePartMappings store source_map [] t mappings
  pub covers : Covers mappings 0 (length store.exprs)
  pub covers_labels : CoversLabels mappings 0 (length store.labels)
  pub covers_bindings : CoversBindings mappings 0 (length store.bindings)
  pub owner_mappings : OwnersAre store.binding_owners mappings
  pub leads : MapLeads source_map mappings
  pub types_reached_once : (depth : ℕ) → length store.types ≤ depth
      → let f = types_reached store.types depth in let l = of_types_alone f in
      Spread 0 (length store.types) (f i ++ (of_exprs l store.exprs ++ of_pats l store.pats))
  pub inside_reached_once : (depth : ℕ) → length store.exprs ≤ depth
      → Spread 0 (length store.exprs) (of_each (reached_to store depth) (unrun_in_type store i))
  pub pats_reached_once : (depth : ℕ) → length store.pats ≤ depth → let l = of_pats_alone (pats_reached store.pats depth) in
      Spread 0 (length store.pats) (of_exprs l store.exprs ++ of_types l store.types)
  pub roots : RootsAre store source_map [] no_lengths (lengths_of store) store.roots (type_part_size t).inner
  pub blocks : source_map.block_scopes ≡ blocks_of_type_part t
  pub faults : source_map.diagnostics ≡ type_part_faults [] t

-- so it is where a type is lowered first
abbrev pub TypeResults : Type 0
TypeResults = (limit : ℕ) (t : OptionType) (i : TypeRefId) (new : Builder)
    → type_part None t (new_builder limit) ≡ (Ok i, new) → TypeResult (store_of new.stored) (map_of new.stored) i t

-- more of some sort than an arena may hold, or what counts too far
abbrev pub TypeTooLarge : ℕ → OptionType → Type 0
TypeTooLarge limit t = Short (type_part_size t) (new_builder limit)

-- only such a type is refused
abbrev pub RefusedTypes : Type 0
RefusedTypes = (limit : ℕ) (t : OptionType) (fault : StoreError) (new : Builder)
    → type_part None t (new_builder limit) ≡ (Err fault, new) → TypeTooLarge limit t
