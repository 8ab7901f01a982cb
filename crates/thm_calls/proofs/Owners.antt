-- What is decided by the item that a body is of is what the rules allow, and they allow nothing else.
use Rattle.std.proofs.Common.{◌≡◌, refl, Bool, true, false, Option}
use Rattle.hir_store.specs.declared.diagnostics.AwaitLocation.{AwaitLocation}
use Rattle.hir_store.specs.declared.diagnostics.MissingBodyItemKind.{MissingBodyItemKind}
use Rattle.hir_store.specs.declared.ids.DefWithBodyId.{DefWithBodyId}
use Rattle.hir_store.specs.declared.ids.DefWithBodyId.TheVariants as owner
use Rattle.hir_store.specs.declared.ids.ItemContainerId.{ItemContainerId}
use Rattle.hir_store.specs.declared.ids.ItemContainerId.TheVariants as holder
use Rattle.hir_lower.specs.Formals.{are_read}
use Rattle.hir_lower.specs.Means.{required_body}
use Rattle.hir_lower.specs.Roots.{await_location}
use Rattle.thm_calls.specs.ByRules as rule
use Rattle.thm_calls.specs.ByRules.{AreReadAs, AwaitsAs, NeedsAs}

pub awaits_said : (is_async : Bool) (item : DefWithBodyId) → AwaitsAs is_async item (await_location is_async item)
awaits_said true item = rule.in_async
awaits_said false (owner.FunctionId f) = rule.in_function
awaits_said false (owner.StaticId s) = rule.in_static
awaits_said false (owner.ConstId k) = rule.in_const
awaits_said false (owner.VariantId v) = rule.in_variant

pub one_awaits : {is_async : Bool} {item : DefWithBodyId} {x y : Option AwaitLocation} → AwaitsAs is_async item x → AwaitsAs is_async item y
    → x ≡ y
one_awaits rule.in_async rule.in_async = refl
one_awaits rule.in_function rule.in_function = refl
one_awaits rule.in_static rule.in_static = refl
one_awaits rule.in_const rule.in_const = refl
one_awaits rule.in_variant rule.in_variant = refl

pub are_read_said : (skipped : Bool) (item : DefWithBodyId) → AreReadAs skipped item (are_read skipped item)
are_read_said true item = rule.of_skipped
are_read_said false (owner.FunctionId f) = rule.of_function
are_read_said false (owner.StaticId s) = rule.of_static
are_read_said false (owner.ConstId k) = rule.of_const
are_read_said false (owner.VariantId v) = rule.of_variant

pub one_are_read : {skipped : Bool} {item : DefWithBodyId} {x y : Bool} → AreReadAs skipped item x → AreReadAs skipped item y → x ≡ y
one_are_read rule.of_skipped rule.of_skipped = refl
one_are_read rule.of_function rule.of_function = refl
one_are_read rule.of_static rule.of_static = refl
one_are_read rule.of_const rule.of_const = refl
one_are_read rule.of_variant rule.of_variant = refl

pub needs_said : (item : DefWithBodyId) (c : ItemContainerId) → NeedsAs item c (required_body item c)
needs_said (owner.FunctionId f) c = rule.any_function
needs_said (owner.VariantId v) c = rule.any_variant
needs_said (owner.StaticId s) (holder.ModuleId m) = rule.static_in_module
needs_said (owner.StaticId s) (holder.ImplId i) = rule.static_in_impl
needs_said (owner.StaticId s) (holder.TraitId t) = rule.static_in_trait
needs_said (owner.StaticId s) (holder.ExternBlockId b) = rule.static_in_extern_block
needs_said (owner.ConstId k) (holder.ModuleId m) = rule.const_in_module
needs_said (owner.ConstId k) (holder.ImplId i) = rule.const_in_impl
needs_said (owner.ConstId k) (holder.TraitId t) = rule.const_in_trait
needs_said (owner.ConstId k) (holder.ExternBlockId b) = rule.const_in_extern_block

pub one_needs : {item : DefWithBodyId} {c : ItemContainerId} {x y : Option MissingBodyItemKind} → NeedsAs item c x → NeedsAs item c y
    → x ≡ y
one_needs rule.any_function rule.any_function = refl
one_needs rule.any_variant rule.any_variant = refl
one_needs rule.static_in_module rule.static_in_module = refl
one_needs rule.static_in_impl rule.static_in_impl = refl
one_needs rule.static_in_trait rule.static_in_trait = refl
one_needs rule.static_in_extern_block rule.static_in_extern_block = refl
one_needs rule.const_in_module rule.const_in_module = refl
one_needs rule.const_in_impl rule.const_in_impl = refl
one_needs rule.const_in_trait rule.const_in_trait = refl
one_needs rule.const_in_extern_block rule.const_in_extern_block = refl
