-- Steps that make a parameter, by what holds of steps that store nothing.
use Rattle.std.proofs.Common.{ℕ, nat_lt, length, Bool, true, false}
use Rattle.hir_store.specs.declared.generics.LifetimeParamData.{LifetimeParamData}
use Rattle.hir_store.specs.declared.generics.TypeOrConstParamData.{TypeOrConstParamData}
use Rattle.hir_lower_builder.specs.Generics.{with_lifetime_param, with_param}
use Rattle.hir_lower_builder.specs.Lowering.{add_lifetime_param, add_param, lifetime_counted, track_down, param_numbered, pure}
use Rattle.thm_logic.proofs.Tracked.{correct_tracked, correct_with_tracks}
use Rattle.thm_logic.proofs.Steps.{Correct, Rel, correct_count_out}

numbered : (x : TypeOrConstParamData) (k : ℕ) (room : Bool) {R : Rel ℕ} → Correct (pure k) R → Correct (param_numbered x k room) R
numbered x k true h = correct_tracked (with_param x) h
numbered x k false {R = R} h = correct_count_out R

pub correct_param : (x : TypeOrConstParamData) {R : Rel ℕ} → ((k : ℕ) → Correct (pure k) R) → Correct (add_param x) R
unfolding add_param
correct_param x h = correct_with_tracks (λ n. let k = length n.generics.type_or_consts in numbered x k (nat_lt k 4294967295) (h k))

counted : (x : LifetimeParamData) (room : Bool) {R : Rel (Unit {0})} → Correct (pure tt) R → Correct (lifetime_counted x room) R
unfolding track_down
counted x true h = correct_tracked (with_lifetime_param x) h
counted x false {R = R} h = correct_count_out R

pub correct_lifetime_param : (x : LifetimeParamData) {R : Rel (Unit {0})} → Correct (pure tt) R → Correct (add_lifetime_param x) R
unfolding add_lifetime_param
correct_lifetime_param x h = correct_with_tracks (λ n. counted x (nat_lt (length n.generics.lifetimes) 4294967295) h)
