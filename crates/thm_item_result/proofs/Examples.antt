-- What small items are answered with is counted.
use Rattle.std.proofs.Common.{◌≡◌, ◌∙◌, refl, ap, ℕ, false, [], ◌∷◌, ◌++◌}
use Rattle.hir_store.specs.StoreSink.{expr_id, type_id}
use Rattle.hir_store.specs.declared.path.GenericArg.TheVariants as arg
use Rattle.hir_store.specs.declared.path.GenericArgsParentheses.TheVariants as parens
use Rattle.hir_store.specs.declared.ids.GenericDefId.{GenericDefId}
use Rattle.hir_store.specs.Generics.{of_args}
use Rattle.spec_semantics.specs.Inner.{by_itself, of_args as held_of_args}
use Rattle.thm_semantics.proofs.HeldArgs.{args_roll as held_args}
use Rattle.thm_type_result.specs.Reached.{of_args as named_of_args, types_reached}
use Rattle.thm_type_result.specs.Unrun.{exprs_of, unruns}
use Rattle.thm_type_result.proofs.Numbers.{args_roll}
use Rattle.thm_item_result.specs.Examples.{CountsArguments, CountsParts, part_store, part_types, small_store, small_types}

pub counts_arguments : CountsArguments
unfolding types_reached unruns
counts_arguments def at = record {
  types = ap (λ ks. 3 ∷ 2 ∷ ((ks ++ []) ++ []))
      (args_roll (types_reached (small_types def at) 3) (arg.Type_ (type_id 1) ∷ []) false [] parens.No);
  exprs = ap (λ is. exprs_of ((is ++ []) ++ []))
      (held_args (unruns (small_store def at) 4) (arg.Type_ (type_id 1) ∷ []) false [] parens.No);
}

-- what one constant as an argument names, and what it holds

module _ (def : GenericDefId) where
  names_none : (e : ℕ)
      → named_of_args (types_reached (part_types def) 8) (of_args (arg.Const (record { expr = expr_id e }) ∷ []) false [] parens.No) ≡ []
  names_none e = args_roll (types_reached (part_types def) 8) (arg.Const (record { expr = expr_id e }) ∷ []) false [] parens.No

  holds_it : (e : ℕ)
      → held_of_args (unruns (part_store def) 14) (of_args (arg.Const (record { expr = expr_id e }) ∷ []) false [] parens.No)
      ≡ ((by_itself (expr_id e) ∷ (unruns (part_store def) 14).expr (expr_id e)) ++ []) ++ []
  holds_it e = held_args (unruns (part_store def) 14) (arg.Const (record { expr = expr_id e }) ∷ []) false [] parens.No

-- of two bounds
both : {A B : Type 0} (f : A → A → B) {a b c d : A} → a ≡ b → c ≡ d → f a c ≡ f b d
both f {b = b} {c = c} p q = ap (λ x. f x c) p ∙ ap (f b) q

pub counts_parts : CountsParts
unfolding types_reached unruns
counts_parts def = record {
  types = both (λ ks ls. 1 ∷ 0 ∷ 4 ∷ 3 ∷ 6 ∷ 5 ∷ 7 ∷ ((ks ++ []) ++ (8 ∷ ((ls ++ []) ++ [])))) (names_none def 4) (names_none def 5);
  exprs = both (λ is js. exprs_of (by_itself (expr_id 0) ∷ by_itself (expr_id 1) ∷ by_itself (expr_id 2) ∷ by_itself (expr_id 3)
      ∷ ((is ++ []) ++ ((js ++ []) ++ [])))) (holds_it def 4) (holds_it def 5);
  alias_types = ap (λ ks. 7 ∷ (((ks ++ []) ++ []) ++ (1 ∷ 0 ∷ []))) (names_none def 4);
  alias_exprs = ap (λ is. exprs_of (((is ++ []) ++ []) ++ (by_itself (expr_id 0) ∷ []))) (holds_it def 4);
  impl_types = ap (λ ks. 1 ∷ 0 ∷ 7 ∷ (ks ++ [])) (names_none def 4);
  impl_exprs = ap (λ is. exprs_of (by_itself (expr_id 0) ∷ (is ++ []))) (holds_it def 4);
  return_types = refl;
  return_exprs = refl;
}
