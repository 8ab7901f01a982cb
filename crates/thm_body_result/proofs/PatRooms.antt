-- That names are settled stores nothing.
use Rattle.std.proofs.Common.{ℕ, suc, List, [], ◌∷◌}
use Rattle.hir_store.specs.declared.ids.BindingId.{BindingId}
use Rattle.hir_lower_builder.specs.Pats as forms
use Rattle.hir_lower_builder.specs.Pats.{Key, SideOutput, Table}
use Rattle.thm_body_result.specs.Size.{nothing}
use Rattle.thm_body_result.proofs.Rooms.{Takes, takes_end, takes_pure, takes_problem}

settle_from_takes : (tracks : SideOutput) (number : ℕ) (es : List (Key × BindingId)) → Takes nothing (forms.settle_from tracks number es)
settle_from_takes tracks number [] = takes_pure tt
settle_from_takes tracks number (e ∷ es) = takes_end (takes_problem _ _) (λ u. settle_from_takes tracks (suc number) es)

pub settle_takes : (t : Table) → Takes nothing (forms.settle t)
unfolding forms.settle
settle_takes t = settle_from_takes t.tracked 0 t.bindings
