-- What stands for a constant, an end of a range in a type, a whole pattern, and the whole of the assignee expression.
use Rattle.std.specs.Prelude.{[], ◌∷◌}
use Rattle.hir_store.specs.Stored.{Store, SourceMap}
use Rattle.hir_store.specs.declared.ids.PatId.{PatId}
use Rattle.hir_lower_scope.specs.ScopeRibs.{barrier_rib}
use Rattle.hir_env.specs.ResolvedTree.{Constant, Limit, OptionPat, Target}
use Rattle.thm_body_result.specs.Leads.{Mappings}
use Rattle.thm_body_result.specs.Corresponds.{Open, ReadsAsTarget, SomeConst, SomeExpr, CorrespondsConstant, CorrespondsLimit}
use Rattle.thm_body_result.specs.Corresponds.{CorrespondsPatPart}
use Rattle.thm_body_result.specs.Corresponds.{CorrespondsTarget, WithNames}

module _ (store : Store) (source_map : SourceMap) where
  -- a constant, whatever its number
  abbrev pub ConstantMappings : Open → Constant → Mappings
  ConstantMappings rs c = SomeConst (λ n. CorrespondsConstant store source_map rs c n)

  -- an end of a range in a type, which is a body of its own
  abbrev pub LimitMappings : Open → Limit → Mappings
  LimitMappings rs l = SomeExpr (λ i. CorrespondsLimit store source_map (barrier_rib ∷ rs) l i)

  -- a top pattern, before which no name has a use
  abbrev pub CorrespondsTop : Open → OptionPat → PatId → Mappings
  CorrespondsTop rs p i = WithNames store source_map p (λ ks. CorrespondsPatPart store source_map ks rs p [] i) i

  abbrev pub CorrespondsAssigned : Open → Target → PatId → Mappings
  CorrespondsAssigned rs t i = ReadsAsTarget store source_map t (CorrespondsTarget store source_map rs t i) i
