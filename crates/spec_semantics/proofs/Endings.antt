-- How small bodies end, computed.
use Rattle.std.proofs.Common.{◌≡◌, ◌⊎◌, inl, inr, nat_eq, true≢false, [], refl, ap, subst}
use Rattle.spec_data.specs.Reading.{stored_path}
use Rattle.spec_semantics.specs.Run.{ends, event, ◌>>=◌}
use Rattle.spec_semantics.specs.Catching.{loop, block}
use Rattle.spec_semantics.specs.Store.{run_store, run_to}
use Rattle.spec_semantics.specs.Jumps.{Enclosed, EnclosedTo}
use Rattle.spec_semantics.specs.Small.{number}
use Rattle.spec_semantics.specs.Same.{Ending, ended, stray_break, stray_continue, left}
use Rattle.spec_semantics.specs.Endings.{MissingEndsTheLoop, StraysWithItsValue, StrayIsNoValue, InnerLabelHides, ContinuesPastTheBlock}
use Rattle.spec_semantics.specs.Endings.{AnswersNoPastTheEnd, ValueEndsTheLoop, ForeignIsNotEnclosed}

pub missing_ends_the_loop : MissingEndsTheLoop
unfolding ends event ◌>>=◌ loop block run_store run_to stored_path
missing_ends_the_loop = record { written = record { events = refl; ends = refl }; stored = record { events = refl; ends = refl } }

pub strays_with_its_value : StraysWithItsValue
unfolding ends event ◌>>=◌ loop block run_store run_to stored_path
strays_with_its_value = record { written = record { events = refl; ends = refl }; stored = record { events = refl; ends = refl } }

pub inner_label_hides : InnerLabelHides
unfolding ends event ◌>>=◌ loop block run_store run_to stored_path
inner_label_hides = record { written = record { events = refl; ends = refl }; stored = record { events = refl; ends = refl } }

pub continues_past_the_block : ContinuesPastTheBlock
unfolding ends event ◌>>=◌ loop block run_store run_to stored_path
continues_past_the_block = record { written = record { events = refl; ends = refl }; stored = record { events = refl; ends = refl } }

pub answers_no_past_the_end : AnswersNoPastTheEnd
unfolding ends event ◌>>=◌ loop block run_store run_to stored_path
answers_no_past_the_end = record { written = record { events = refl; ends = refl }; stored = record { events = refl; ends = refl } }

abbrev with_value : Ending → Type 0
with_value (ended v) = Unit {0}
with_value (stray_break v) = ⊥
with_value stray_continue = ⊥
with_value (left x) = ⊥

pub stray_is_no_value : StrayIsNoValue
unfolding ends event ◌>>=◌ run_store run_to stored_path
stray_is_no_value h = let e = h.endings 0 [] in subst with_value e tt

pub value_ends_the_loop : ValueEndsTheLoop
unfolding ends loop
value_ends_the_loop fuel v w = refl

not_the_other : (number 1 ≡ number 0) ⊎ ⊥ → ⊥
not_the_other (inl e) = true≢false (ap (λ n. nat_eq n.0 1) e)
not_the_other (inr h) = h

pub foreign_is_not_enclosed : ForeignIsNotEnclosed
unfolding Enclosed EnclosedTo
foreign_is_not_enclosed = (λ h. h, λ h. not_the_other h.1)
