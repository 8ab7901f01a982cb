-- How a search goes from one context to the one that it was made in.
use Rattle.std.specs.Prelude.{◌≡◌, ℕ, zero, suc, Option, Some, None}
use Rattle.hir_store.specs.declared.ids.CtxId.{CtxId}
use Rattle.hir_env.specs.Answers.{Contexts}
use Rattle.hir_lower_scope.specs.ScopeRibs.{Sought}
use Rattle.hir_lower_scope.specs.declared.found.Wanted.{Wanted}

abbrev pub sought_of : Wanted → Sought
sought_of w = record { hygiene = w.hygiene; context = w.context }

module _ (contexts : Contexts) where
  -- Its macro is the one that its context came from.
  abbrev pub Asked : Wanted → Type 0
  Asked w = by w.context
    where
      by : Option CtxId → Type 0
      by None = w.outer ≡ None
      by (Some c) = w.outer ≡ contexts.outer_macro c

  -- the context that so many were made in, one in the other
  abbrev pub out : ℕ → CtxId → CtxId
  out zero c = c
  out (suc k) c = out k (contexts.parent c)

  -- so many contexts out it is one that came from no macro
  abbrev pub EndsAfter : ℕ → Option CtxId → Type 0
  EndsAfter k None = Unit {0}
  EndsAfter k (Some c) = contexts.outer_macro (out k c) ≡ None
