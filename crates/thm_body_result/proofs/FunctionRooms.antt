-- How much a function that is a coroutine stores.
use Rattle.std.proofs.Common.{◌≡◌, ◌∙◌, refl, sym, ap, subst, Bool, List, [], ◌++◌, Option, Some, None}
use Rattle.std.proofs.Common.{option_map}
use Rattle.std.proofs.lemmas.Option.{none-some}
use Rattle.hir_store.specs.Bindings.{without_problem}
use Rattle.hir_store.specs.Stored.{Stored}
use Rattle.hir_store.specs.StoreSink.{Extends}
use Rattle.hir_store.proofs.Extending.{extends_refl, extends_trans}
use Rattle.hir_store.specs.declared.hir.CoroutineKind.{CoroutineKind}
use Rattle.hir_store.specs.declared.hir.CoroutineSource.TheVariants as source
use Rattle.hir_store.specs.declared.ids.BindingId.{BindingId}
use Rattle.hir_store.specs.declared.pat.Binding.{Binding}
use Rattle.hir_env.specs.ResolvedTree as tree
use Rattle.hir_env.specs.ResolvedTree.{Formal, Formals, OptionExpr, SelfFormal}
use Rattle.spec_data.specs.Data.{PatData}
use Rattle.hir_lower_builder.specs.declared.preludes.Prelude.{Prelude}
use Rattle.hir_lower_builder.specs.Lower.{lower_part}
use Rattle.hir_lower_builder.specs.Pats.{new_binding}
use Rattle.hir_lower_builder.specs.Preludes as forms
use Rattle.hir_lower_builder.specs.Preludes.{binding_of, let_params, let_self}
use Rattle.thm_logic.proofs.Always.{correct_always}
use Rattle.thm_logic.proofs.Keeping.{any, lets_any, made_coroutine_any, part_any}
use Rattle.thm_logic.proofs.Preludes.{LetSelf, binding_at, correct_let_self}
use Rattle.thm_logic.proofs.Frames.{Frame}
use Rattle.thm_logic.proofs.Steps.{Correct, Mark, correct_as, correct_bind, correct_pure}
use Rattle.thm_round_trip.proofs.Preludes.{HandIn, all_handed, lets_now}
use Rattle.thm_body_result.specs.Formals.{coroutine_body, each_formal, in_function, lower_self}
use Rattle.thm_body_result.specs.PreludeRoom.{handed_size, prelude_size, self_let_size}
use Rattle.thm_body_result.specs.Room.{formals_data, self_size}
use Rattle.thm_body_result.specs.Size.{Size, a_binding, a_pat, an_expr, nothing, owned, ◌∪◌}
use Rattle.thm_body_result.proofs.ClosureRooms.{owning_takes}
use Rattle.thm_body_result.proofs.CoroutineRooms.{Unknown, Written, written_lasts}
use Rattle.thm_body_result.proofs.Formals.{HasSelf, each_now, formals_read_as, self_known, self_lasts}
use Rattle.thm_body_result.proofs.Knowing.{Now, TakesIf, owning_now, takes_always, takes_any, takes_if_end, takes_if_then}
use Rattle.thm_body_result.proofs.Knowing.{takes_now}
use Rattle.thm_body_result.proofs.Last.{Last, in_exprs, last_then, made_coroutine_last}
use Rattle.thm_body_result.proofs.LastStored.{hands_pure, last_hands}
use Rattle.thm_body_result.proofs.PreludeRooms.{Froms, froms_last, hand_from, let_params_take, lower_handed_takes, made_coroutine_takes}
use Rattle.thm_body_result.proofs.PreludeRooms.{name_takes}
use Rattle.thm_body_result.proofs.Rooms.{Takes, takes_begin, takes_binding, takes_define, takes_end, takes_pat, takes_pure, takes_then}
use Rattle.thm_body_result.proofs.Took.{Room}

-- `self`

rebind_takes : (x : Binding) → Takes (a_binding ∪ (a_pat None ∪ an_expr)) (forms.rebind_form x)
unfolding forms.rebind_form
rebind_takes x = takes_then (takes_binding _) (λ i. takes_then (takes_pat _ None)
    (λ p. takes_begin (takes_define i p) (λ u. takes_end (name_takes x.name x.hygiene) (λ e. takes_pure _))))

-- where there is such a binding
rebound_takes : (b : BindingId) (o : Option Binding) (y : Binding) → option_map without_problem o ≡ Some y
    → Takes (a_binding ∪ (a_pat None ∪ an_expr)) (forms.rebound b o)
rebound_takes b None y h = absurd (none-some y h)
rebound_takes b (Some x) y h = rebind_takes x

bound_takes : (b : BindingId) (y : Binding)
    → TakesIf (λ s. (later : Stored) → Extends s later → option_map without_problem (binding_at b later) ≡ Some y)
    (a_binding ∪ (a_pat None ∪ an_expr)) (let_self (Some b))
unfolding let_self binding_of
bound_takes b y = record {
  takes = λ c d h.
      (takes_end (rebound_takes b (binding_at b c.stored) y (h c.stored (extends_refl c.stored))) (λ x. takes_pure _)).takes c d;
}

absent_takes : (o : Option BindingId) → TakesIf (λ s. o ≡ None) nothing (let_self o)
unfolding let_self
absent_takes None = takes_any (takes_pure _)
absent_takes (Some b) = record { takes = λ c d h. absurd (none-some b (sym h)) }

let_self_takes : (r : SelfFormal) (o : Option BindingId) → TakesIf (HasSelf r o) (self_let_size r) (let_self o)
let_self_takes tree.no_self o = absent_takes o
let_self_takes (tree.disabled_self at by) o = absent_takes o
let_self_takes (tree.self_formal at u w) o = record {
  takes = λ c d h.
      let size = a_binding ∪ (a_pat None ∪ an_expr) in
      subst (λ k. Room size c (let_self k c).0 (let_self k c).1) (sym h.1) ((bound_takes h.0 (new_binding u)).takes c d h.2);
}

-- in the coroutine

module _ (kind : CoroutineKind) (skipped : Bool) (self : Option BindingId) (fs : List Formal) (e : OptionExpr) where
  abbrev shapes : List PatData
  shapes = formals_data skipped fs

  pub in_function_last : Last (λ x. x.1.1) (in_function kind skipped self fs e)
  unfolding in_function
  in_function_last = last_then (each_formal skipped [] fs) (λ ps. last_then (lower_part e) (λ i. last_then (let_self self)
      (λ begun. last_then (let_params begun.1 ps)
      (λ l. last_hands in_exprs (made_coroutine_last kind source.Fn l.lets i) (λ c. hands_pure in_exprs _ refl)))))

  -- the parameters, once they are stored
  formals_known : Correct (each_formal skipped [] fs) (Now (λ ps. Written ps shapes))
  formals_known = correct_as (correct_always (each_now skipped [] fs))
      (λ final ps m m' is g row. record { now = formals_read_as skipped fs row })

  none_handed : (o : Option BindingId) (final : Stored) (ps : List Frame) (m m' : Mark) (r : Option BindingId × Prelude)
      → LetSelf o final ps m m' r → r.1.handed ≡ []
  none_handed None final ps m m' r row = ap (λ z. z.1.handed) row.0
  none_handed (Some b) final ps m m' r row = ap (λ z. z.1.handed) row.is

  -- how each is handed in, once the coroutine is stored
  pub handed_known : Correct (in_function kind skipped self fs e) (Now (λ x. Froms x.1.0 shapes))
  unfolding in_function
  handed_known = correct_as
      (correct_bind (correct_always (each_now skipped [] fs)) (λ ps. correct_bind (correct_always (part_any e))
      (λ i. correct_bind (correct_always (correct_let_self self)) (λ begun. correct_bind (correct_always (lets_now begun.1 ps))
      (λ l. correct_bind (correct_always (made_coroutine_any kind source.Fn l.lets i))
      (λ c. correct_pure ((begun.0, ps), (l.handed, c))))))))
      (λ final ps m m' x g row.
      let two = row.second in let three = two.second in let four = three.second in let five = four.second in
      let begun = three.one in let l = four.one in
      let written = formals_read_as skipped fs row.first in
      let to_prelude = extends_trans two.first.stays three.first.stays in
      let to_end = extends_trans four.first.stays five.first.stays in
      let before = written_lasts row.one shapes row.middle.stored three.middle.stored to_prelude written in
      let behind = written_lasts row.one shapes three.middle.stored five.middle.stored to_end before in
      let all = all_handed begun.1 row.one shapes final ps three.middle four.middle l (four.first.rel.each shapes before) in
      let handed = all.handed ∙ ap (λ hs. hs ++ all.more) (none_handed self final ps two.middle three.middle begun three.first.rel) in
      let hand = subst (λ hs. HandIn hs row.one shapes) (sym handed) all.hand in
      rw (five.second.is, five.second.still) (record { now = hand_from l.handed row.one shapes five.middle.stored hand behind }))

  in_function_takes : (r : SelfFormal) {n k : Size} → Takes n (each_formal skipped [] fs) → Takes k (lower_part e)
      → TakesIf (HasSelf r self) (n ∪ (k ∪ (self_let_size r ∪ (prelude_size shapes ∪ (an_expr ∪ an_expr)))))
      (in_function kind skipped self fs e)
  unfolding in_function
  in_function_takes r hf he = takes_now {R = λ ps s. HasSelf r self s × Written ps shapes s}
      (λ ps s t f h k. (self_lasts r self s t f h, k)) (takes_any hf) formals_known (λ ps.
      takes_if_then {Q = λ s. HasSelf r self s × Written ps shapes s}
      (λ s t f h. (self_lasts r self s t f h.0, written_lasts ps shapes s t f h.1))
      (takes_any he) (part_any e) (λ i.
      takes_if_then {Q = Written ps shapes} (λ s t f h. written_lasts ps shapes s t f h.1)
      (record { takes = λ c d h. (let_self_takes r self).takes c d h.0 }) (any (correct_let_self self)) (λ begun.
      takes_if_then {Q = Unknown} (λ s t f h. tt)
      (let_params_take begun.1 ps shapes) (lets_any begun.1 ps) (λ l.
      takes_any (takes_end (made_coroutine_takes kind source.Fn l.lets i) (λ c. takes_pure _))))))

-- the whole

module _ (kind : CoroutineKind) (skipped : Bool) (f : Formals) (e : OptionExpr) where
  abbrev written_data : List PatData
  written_data = formals_data skipped f.formals

  pub coroutine_body_takes : {n k : Size} → Takes (self_size f.receiver) (lower_self f.receiver)
      → Takes n (each_formal skipped [] f.formals) → Takes k (lower_part e)
      → Takes (self_size f.receiver
      ∪ (owned (n ∪ (k ∪ (self_let_size f.receiver ∪ (prelude_size written_data ∪ (an_expr ∪ an_expr))))) ∪ handed_size written_data))
      (coroutine_body kind skipped f e)
  unfolding coroutine_body
  coroutine_body_takes hs hf he = takes_always {P = Unknown} (λ s. tt) (takes_now (λ o s t f h k. k)
      (takes_any {P = Unknown} hs) (self_known f.receiver) (λ o.
      takes_now (λ x s t f h k. k) (owning_takes (in_function_last kind skipped o f.formals e)
      (in_function_takes kind skipped o f.formals e f.receiver hf he))
      (owning_now (λ x. x.1.1) (λ x. froms_last x.1.0 written_data) (handed_known kind skipped o f.formals e)) (λ x.
      takes_if_end (lower_handed_takes [] x.1.0 written_data) (λ ps. takes_pure _))))
