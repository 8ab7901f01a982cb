-- A small `while`, worked out.
use Rattle.std.proofs.Common.{refl, List, []}
use Rattle.hir_store.specs.Stored.{Store, SourceMap}
use Rattle.hir_store.specs.declared.ids.ExprId.{ExprId}
use Rattle.spec_semantics.specs.Small.{at}
use Rattle.thm_body_result.specs.Leads.{Mapping}
use Rattle.thm_body_result.specs.Corresponds.{Corresponds}
use Rattle.thm_body_result.specs.ExampleWhiles.{BindsItsCondition, KeepsItsCondition, Whiles, while_let, while_one}
use Rattle.thm_body_result.proofs.OwnerRows.{both}
use Rattle.thm_body_result.proofs.Rows.{literal_stored}

binds : (store : Store) (source_map : SourceMap) (i : ExprId) (ws : List Mapping) → Corresponds store source_map [] while_one i ws
    → BindsItsCondition store source_map i ws
binds store source_map i ws h =
    let around = h.7.first in
    let literal = around.4.first in
    let behind = around.4.second in
    let bind = behind.first in
    let made = behind.second.first in
    let block = behind.second.second in
    let rest = h.7.second in
    let body = rest.first.5 in
    let ends = rest.second in
    let condition_mappings = both around.4.is literal.2.1 (both behind.is bind.3 (both behind.second.is made.1 block.1)) in
    let body_mappings = both body.is body.first.1.1 body.second in
    let end_mappings = both ends.is ends.first (both ends.second.is ends.second.first ends.second.second) in
    record {
      condition = h.0;
      body = h.1;
      loops = record { iteration = h.3; out = h.2; whole = h.4.stored; branches = h.5.stored; leaves = h.6.stored };
      literal = around.0;
      binds = around.2;
      binding = bind.0;
      number = around.1;
      made = around.3;
      block = block.0.stored;
      block_from = block.0.source;
      is_one = literal_stored store source_map (at 1) _ around.0 around.4.left literal;
      is_name = bind.1.stored;
      from_none = bind.1.source;
      is_plain = bind.2;
      reads = made.0.stored;
      reads_from = made.0.source;
      mappings = both h.7.is condition_mappings (both rest.is body_mappings end_mappings);
    }

keeps : (store : Store) (source_map : SourceMap) (i : ExprId) (ws : List Mapping) → Corresponds store source_map [] while_let i ws
    → KeepsItsCondition store i
keeps store source_map i ws h =
    let condition = h.7.first in
    let value = condition.3.second in
    record {
      condition = h.0;
      body = h.1;
      loops = record { iteration = h.3; out = h.2; whole = h.4.stored; branches = h.5.stored; leaves = h.6.stored };
      binds = condition.0;
      literal = condition.1;
      is_let = condition.2.stored;
      is_one = literal_stored store source_map (at 1) _ condition.1 value.left value.first;
    }

pub whiles : Whiles
whiles = record { binds = binds; keeps = keeps; names = refl; no_name = refl; owned = refl }
