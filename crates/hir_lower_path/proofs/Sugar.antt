-- What the arguments `(A) -> C` name exists.
use Rattle.std.proofs.Common.{arith, ◌∙◌, sym, ap, subst, List, [], ◌∷◌, Some, None, Ok, false}
use Rattle.std.proofs.lemmas.Grind.{common_steps}
use Rattle.hir_store.specs.Stored.{Stored}
use Rattle.hir_store.specs.Range.{Has, HasType, HasTypes, HasArgsOption}
use Rattle.hir_store.specs.Generics.{of_binding}
use Rattle.hir_store.specs.Past.{join, nothing, past_args}
use Rattle.hir_store.specs.declared.ids.TypeRefId.{TypeRefId}
use Rattle.hir_store.specs.declared.path.GenericArg.TheVariants as arg
use Rattle.hir_store.specs.declared.path.GenericArgsParentheses.TheVariants.{ParenSugar}
use Rattle.hir_store.specs.declared.type_ref.TypeRef.TheVariants as ty
use Rattle.hir_store.proofs.Past.{binding_roll, generic_roll}
use Rattle.hir_lower_builder.specs.Builder.{Builder}
use Rattle.hir_lower_builder.specs.Lowering.{Lowering, Lowers, alloc_type}
use Rattle.hir_lower_builder.specs.Paths.{output_name, parens_form, sugared_args}

pub sugared_has : (s : Stored) (t o : TypeRefId) → HasType s t → HasType s o → HasArgsOption s (Some (sugared_args t o))
sugared_has s t o h k =
    let b = of_binding output_name None (Some o) [] in
    let all = generic_roll (arg.Type_ t ∷ []) false (b ∷ []) ParenSugar
    ∙ ap (λ p. join (past_args (arg.Type_ t ∷ [])) (join p nothing)) (binding_roll output_name None (Some o) []) in
    subst (Has s) (sym all) (omega arith, omega (arith, h, k), omega arith, omega arith)

-- the types, their tuple, and then what is answered
pub parens_lower : (types : Lowering (List TypeRefId)) (output : Lowering TypeRefId) (b1 b2 b3 b4 : Builder)
    (ts : List TypeRefId) (t o : TypeRefId)
    → Lowers HasTypes types b1 (Ok ts) b2 → Lowers HasType (alloc_type (ty.Tuple ts) None) b2 (Ok t) b3 → Lowers HasType output b3 (Ok o) b4
    → Lowers HasArgsOption (parens_form types output) b1 (Ok (Some (sugared_args t o))) b4
unfolding parens_form
parens_lower types output b1 b2 b3 b4 ts t o h i j = grind (arith, common_steps, sugared_has)
