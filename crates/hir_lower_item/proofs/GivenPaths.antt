-- What the path of a coroutine's trait names exists.
use Rattle.std.proofs.Common.{arith, ◌≡◌, ◌∙◌, sym, ap, subst, [], ◌∷◌, Some, None, false}
use Rattle.hir_store.specs.Stored.{Stored}
use Rattle.hir_store.specs.Range.{Has, HasType}
use Rattle.hir_store.specs.Generics.{of_binding}
use Rattle.hir_store.specs.Past.{Past, join, nothing, past_generic, past_path, past_type_id}
use Rattle.hir_store.specs.declared.hir.CoroutineKind.{CoroutineKind}
use Rattle.hir_store.specs.declared.ids.TypeRefId.{TypeRefId}
use Rattle.hir_store.specs.declared.path.GenericArgsParentheses.TheVariants.{No}
use Rattle.hir_store.specs.declared.path.Path.{Path}
use Rattle.hir_store.proofs.Past.{binding_roll, generic_roll}
use Rattle.hir_lower_item.specs.Lower.{coroutine_path, given_args, given_name}

given_past : (k : CoroutineKind) (t : TypeRefId)
    → past_generic (given_args k t) ≡ join nothing (join (join nothing (join (past_type_id t) nothing)) nothing)
given_past k t =
    let b = of_binding (given_name k) None (Some t) [] in
    generic_roll [] false (b ∷ []) No ∙ ap (λ p. join nothing (join p nothing)) (binding_roll (given_name k) None (Some t) [])

given_has : (k : CoroutineKind) (s : Stored) (t : TypeRefId) → HasType s t → Has s (past_path (coroutine_path k t))
given_has k s t h =
    let within : Past → Type 0 = λ p. Has s (join nothing (join nothing (join nothing (join p nothing)))) in
    subst within (sym (given_past k t)) (omega arith, omega (arith, h), omega arith, omega arith)

pub path_has : (k : CoroutineKind) (s : Stored) (t : TypeRefId) (p : Path) → p ≡ coroutine_path k t → HasType s t → Has s (past_path p)
path_has k s t p e h = let within : Path → Type 0 = λ q. Has s (past_path q) in subst within (sym e) (given_has k s t h)
