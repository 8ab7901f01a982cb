-- What a function that is a coroutine becomes stands for it.
use Rattle.std.proofs.Common.{arith, ◌≡◌, ◌∙◌, refl, sym, ap, subst, Bool, length, length-append, map, List, [], ◌∷◌, ◌++◌}
use Rattle.std.proofs.Common.{slice_get, Option, Some, None, option_map}
use Rattle.std.proofs.lemmas.Option.{none-some, same_Some}
use Rattle.hir_store.specs.Arenas.{Prefix}
use Rattle.hir_store.specs.Bindings.{binding_id, without_problem}
use Rattle.hir_store.specs.Stored.{Stored, store_of, map_of}
use Rattle.hir_store.specs.StoreSink.{Extends}
use Rattle.hir_store.proofs.Arenas.{prefix_push, prefix_refl, prefix_trans}
use Rattle.hir_store.proofs.Extending.{extends_owner, extends_refl, extends_trans}
use Rattle.hir_store.specs.declared.hir.CoroutineKind.{CoroutineKind}
use Rattle.hir_store.specs.declared.hir.CoroutineSource.TheVariants as source
use Rattle.hir_store.specs.declared.hir.Statement.{Statement}
use Rattle.hir_store.specs.declared.ids.BindingId.{BindingId}
use Rattle.hir_store.specs.declared.ids.ExprId.{ExprId}
use Rattle.hir_store.specs.declared.ids.PatId.{PatId}
use Rattle.hir_store.specs.declared.pat.Binding.{Binding}
use Rattle.hir_store.specs.declared.pat.Pat.TheVariants as pat
use Rattle.hir_env.specs.ResolvedTree as tree
use Rattle.hir_env.specs.ResolvedTree.{Formal, Formals, OptionExpr, SelfFormal}
use Rattle.spec_data.specs.Data.{PatData}
use Rattle.hir_lower_builder.specs.declared.preludes.Prelude.{Prelude}
use Rattle.hir_lower_builder.specs.Lower.{lower_part}
use Rattle.hir_lower_builder.specs.Pats.{new_binding}
use Rattle.hir_lower_builder.specs.Preludes as forms
use Rattle.hir_lower_builder.specs.Preludes.{bound_anew, let_self}
use Rattle.thm_logic.proofs.Always.{correct_always}
use Rattle.thm_logic.proofs.Frames.{Frame, ribs}
use Rattle.thm_logic.proofs.Keeping.{any, part_any}
use Rattle.thm_logic.proofs.Logic as logic
use Rattle.thm_logic.proofs.PatSteps as pats
use Rattle.thm_logic.proofs.PatSteps.{defining, with_pat}
use Rattle.thm_logic.proofs.Preludes.{Emitted, binding_at, correct_binding_of, correct_let_self}
use Rattle.thm_logic.proofs.Steps as steps
use Rattle.thm_logic.proofs.Steps.{Mark}
use Rattle.thm_body_result.specs.Formals.{InFunction, coroutine_body, each_formal, formals_read, in_function, lower_self}
use Rattle.thm_body_result.specs.Leads.{OneBindingMapping, OneUnled, Mappings, ◌&◌}
use Rattle.thm_body_result.specs.OneResult.{CorrespondsBody, CorrespondsSelf, CorrespondsTops}
use Rattle.thm_body_result.specs.Room.{formals_data}
use Rattle.thm_body_result.specs.Corresponds.{CorrespondsPart}
use Rattle.thm_body_result.specs.CorrespondsPreludes.{IsCoroutine, PatFound, CorrespondsHanded, CorrespondsLets, CorrespondsRead}
use Rattle.thm_body_result.specs.CorrespondsPreludes.{CorrespondsSelfLet, let_from}
use Rattle.thm_body_result.specs.CorrespondsPreludes.{the_name}
use Rattle.thm_body_result.proofs.CoroutineRooms.{written_lasts}
use Rattle.thm_body_result.proofs.Formals.{HasSelf, each_now, formals_read_as, self_known, self_lasts}
use Rattle.thm_body_result.proofs.FunctionRooms.{handed_known}
use Rattle.thm_body_result.proofs.Lasting.{Correct, correct_as, correct_bind, correct_both, correct_counted, correct_owning, correct_pure}
use Rattle.thm_body_result.proofs.Lasting.{in_prefix, keeping, settled_as, unchanged_behind}
use Rattle.thm_body_result.proofs.Leading.{Shown, moved_bind, moved_to, shown_after, shown_as, shown_before, shown_binding}
use Rattle.thm_body_result.proofs.Leading.{shown_both, shown_none}
use Rattle.thm_body_result.proofs.OwnedMappings.{shown_owned}
use Rattle.thm_body_result.proofs.PatStanding.{Behind}
use Rattle.thm_body_result.proofs.PreludeRooms.{froms_last}
use Rattle.thm_body_result.proofs.PreludeStanding.{ShowsIf, handed_stand, lets_stand, made_coroutine_corresponds, name_corresponds, named}
use Rattle.thm_body_result.proofs.PreludeStanding.{pat_found}
use Rattle.thm_body_result.proofs.Standing.{Of, Shows, moved_pure}
use Rattle.thm_body_result.proofs.TreeParts.{behind_none}

-- `self`

-- it is bound anew, like this
abbrev Anew : Binding → Stored → Option BindingId → List Statement → Mappings
Anew y final o ss = λ ws. (b : BindingId) × (q : PatId) × (e : ExprId) × (o ≡ Some b) × (ss ≡ let_from q e ∷ [])
    × PatFound (store_of final) (map_of final) q (pat.Bind b None) None × (slice_get final.bindings.entries b.0 ≡ Some y)
    × (OneBindingMapping b & CorrespondsRead (store_of final) (map_of final) (the_name y.name y.hygiene) e) ws

rebind_corresponds : (x : Binding) → Correct (forms.rebind_form x) (Shows (λ final rs r. Anew (bound_anew x) final (Some r.0) r.1))
unfolding forms.rebind_form
rebind_corresponds x = steps.correct_as
    (steps.correct_bind (pats.correct_alloc_binding (bound_anew x)) (λ b.
    steps.correct_bind (pats.correct_alloc_pat (pat.Bind b None) None) (λ q. steps.correct_bind (pats.correct_define b q)
    (λ u. steps.correct_bind (name_corresponds x.name x.hygiene) (λ e. steps.correct_pure (b, forms.let_from q e ∷ []))))))
    (λ final ps m m' r g row.
    let b = row.one in
    let between = row.middle.stored in
    let two = row.second.first in
    let q = row.second.one in
    let three = row.second.second in
    let four = three.second in
    let before = m.stored.bindings.entries in
    let y = bound_anew x in
    let number = row.first.number ∙ row.first.last in
    let is = three.first.stored ∙ ap (defining b q) two.stored in
    let whole = is ∙ ap (λ s. defining b q (with_pat (pat.Bind b None) None s)) row.first.stored in
    let here = logic.in_prefix before y b.0 number (prefix_refl (before ++ y ∷ [])) in
    let more = ap (λ s. length s.bindings.entries) row.first.stored ∙ length-append before (y ∷ []) in
    let binds = moved_bind b None None q between (two.number ∙ two.last) (omega (arith, number, more)) in
    let settled : Prefix before three.middle.stored.bindings.entries =
    subst (λ s. Prefix before s.bindings.entries) (sym whole) (prefix_push before y) in
    let there = in_prefix four.first.settled b.0 y (ap (λ s. slice_get s.bindings.entries b.0) whole ∙ here) in
    rw (four.second.is, four.second.still) (record {
      settled = prefix_trans settled four.first.settled;
      rel = λ k.
          let stays = k.at b.0 y (omega (arith, number)) there in
          let name = (four.first.rel (unchanged_behind settled k)).shown in
          record {
            shown = shown_as (shown_both (shown_before (shown_binding y b number row.first.stored) (moved_to is binds)) name)
                (λ ws z. (b, q, four.one, refl, refl, pat_found refl two, stays, z));
          };
    }))

-- where there is a binding of that number
record Rebounds (x : Option Binding) (final : Stored) (ps : List Frame) (m m' : Mark) (r : BindingId × List Statement) : Type 0 where
  shown : (z : Binding) → x ≡ Some z → Shown (Anew (bound_anew z) final (Some r.0) r.1) m.stored m'.stored

rebound_corresponds : (b : BindingId) (x : Option Binding) → Correct (forms.rebound b x) (Rebounds x)
rebound_corresponds b None =
    correct_as (correct_pure (b, [])) (λ final ps m m' r g row. record { shown = λ z e. absurd (none-some z e) })
rebound_corresponds b (Some x) = correct_as (rebind_corresponds x) (λ final ps m m' r g row. record {
  shown = λ z e. subst (λ k. Shown (Anew (bound_anew k) final (Some r.0) r.1) m.stored m'.stored) (same_Some x z e) row.shown;
})

emitted_bound : (b : BindingId) → Correct (forms.binding_of b) (Emitted (binding_at b))
emitted_bound b = keeping (correct_binding_of b)
    (λ final ps m m' a row. settled_as m.stored m'.stored (ap (λ x. x.stored.bindings) row.still))

-- what is there has these parts
there_is : (o : Option Binding) (y : Binding) → option_map without_problem o ≡ Some y → (z : Binding) × (o ≡ Some z) × (bound_anew z ≡ y)
there_is None y e = absurd (none-some y e)
there_is (Some z) y e = (z, refl, same_Some (without_problem z) y e)

-- the prelude with that `let`, which hands in nothing
abbrev Begun : (Option BindingId → List Statement → Mappings) → Option BindingId × Prelude → Mappings
Begun S a = λ ws. (a.1.handed ≡ []) × S a.0 a.1.lets ws

some_self_corresponds : (b : BindingId) (y : Binding) → Correct (let_self (Some b))
    (ShowsIf (λ s. option_map without_problem (binding_at b s) ≡ Some y) (λ final rs a. Begun (Anew y final) a))
unfolding let_self
some_self_corresponds b y = correct_as
    (correct_bind (emitted_bound b)
    (λ x. correct_bind (rebound_corresponds b x) (λ r. correct_pure (Some r.0, record { handed = []; lets = r.1 }))))
    (λ final ps m m' a g row. let two = row.second in rw two.second.is (record {
      shown = λ known.
          let found = there_is (binding_at b m.stored) y known in
          let one = two.first.shown found.0 (row.first.is ∙ found.1) in
          let all = shown_after (moved_pure row.first.still) (shown_before one (moved_pure two.second.still)) in
          shown_as all (λ ws z. (refl, subst (λ k. Anew k final (Some two.one.0) two.one.1 ws) found.2 z));
    }))

-- where there is none
no_self_corresponds : (S : Stored → Option BindingId → List Statement → Mappings) → ((final : Stored) → S final None [] [])
    → (o : Option BindingId) → Correct (let_self o) (ShowsIf (λ s. o ≡ None) (λ final rs a. Begun (S final) a))
unfolding let_self
no_self_corresponds S h None = correct_as (correct_pure (None, forms.no_prelude)) (λ final ps m m' a g row. rw row.is (record {
  shown = λ known. shown_none (moved_pure row.still) (refl, h final);
}))
no_self_corresponds S h (Some b) = correct_as
    (correct_bind (emitted_bound b)
    (λ x. correct_bind (rebound_corresponds b x) (λ r. correct_pure (Some r.0, record { handed = []; lets = r.1 }))))
    (λ final ps m m' a g row. record { shown = λ known. absurd (none-some b (sym known)) })

let_self_corresponds : (r : SelfFormal) (o : Option BindingId) → Correct (let_self o)
    (ShowsIf (HasSelf r o) (λ final rs a. Begun (CorrespondsSelfLet (store_of final) (map_of final) r) a))
let_self_corresponds tree.no_self o =
    no_self_corresponds (λ final. CorrespondsSelfLet (store_of final) (map_of final) tree.no_self) (λ final. (refl, refl, refl)) o
let_self_corresponds (tree.disabled_self at by) o =
    no_self_corresponds (λ final. CorrespondsSelfLet (store_of final) (map_of final) (tree.disabled_self at by))
    (λ final. (refl, refl, refl)) o
let_self_corresponds (tree.self_formal at u w) None = correct_as (no_self_corresponds (λ final o ss ws. Unit {0}) (λ final. tt) None)
    (λ final ps m m' a g row. record { shown = λ known. absurd (none-some known.0 known.1) })
let_self_corresponds (tree.self_formal at u w) (Some b) =
    correct_as (some_self_corresponds b (new_binding u)) (λ final ps m m' a g row. record {
      shown = λ known.
          let there = known.2 m.stored (extends_refl m.stored) in
          let same = sym (same_Some b known.0 known.1) in
          row.shown (subst (λ k. option_map without_problem (binding_at k m.stored) ≡ Some (new_binding u)) same there);
    })

-- in the coroutine

-- the parameters but `self`, the body, and in front of that the `let`s
abbrev In : CoroutineKind → SelfFormal → Bool → List Formal → OptionExpr → Of InFunction
In kind r skipped fs e final rs x = λ ws. (body : ExprId) × (begin : List Statement) × (lets : List Statement) × (block : ExprId)
    × IsCoroutine (store_of final) (map_of final) kind source.Fn (begin ++ lets) body block x.1.1
    × (CorrespondsTops (store_of final) (map_of final) rs (formals_read skipped fs) x.0.1
    & CorrespondsPart (store_of final) (map_of final) rs e body
    & CorrespondsSelfLet (store_of final) (map_of final) r x.0.0 begin
    & CorrespondsLets (store_of final) (map_of final) (map named x.1.0) (formals_data skipped fs) x.0.1 lets & OneUnled block
    & OneUnled x.1.1) ws

module _ (kind : CoroutineKind) (r : SelfFormal) (skipped : Bool) (self : Option BindingId) (fs : List Formal) (e : OptionExpr) where
  abbrev shapes : List PatData
  shapes = formals_data skipped fs

  in_function_corresponds : Correct (each_formal skipped [] fs)
      (Shows (λ final rs is. Behind [] (CorrespondsTops (store_of final) (map_of final) rs (formals_read skipped fs)) is))
      → Correct (lower_part e) (Shows (λ final rs i. CorrespondsPart (store_of final) (map_of final) rs e i))
      → Correct (in_function kind skipped self fs e) (ShowsIf (HasSelf r self) (In kind r skipped fs e))
  unfolding in_function
  in_function_corresponds hf he = correct_as
      (correct_bind (correct_both hf (correct_always (each_now skipped [] fs))) (λ is.
      correct_bind (correct_both he (correct_always (part_any e))) (λ i.
      correct_bind (correct_both (let_self_corresponds r self) (correct_always (any (correct_let_self self)))) (λ begun.
      correct_bind (lets_stand begun.1 is shapes) (λ l.
      correct_bind (made_coroutine_corresponds kind source.Fn l.lets i) (λ c. correct_pure ((begun.0, is), (l.handed, c))))))))
      (λ final ps m m' x g row.
      let two = row.second in let three = two.second in let four = three.second in let five = four.second in
      let inside = extends_trans row.first.other.stays two.first.other.stays in
      let written = formals_read_as skipped fs row.first.other in
      let to_prelude = extends_trans two.first.other.stays three.first.other.stays in
      let before = written_lasts row.one shapes row.middle.stored three.middle.stored to_prelude written in
      let tops = behind_none (CorrespondsTops (store_of final) (map_of final) (ribs ps) (formals_read skipped fs)) row.first.one.shown in
      let made = shown_before five.first.shown (moved_pure five.second.still) in
      let front = shown_both (four.first.shown before) made in
      rw five.second.is (record {
        shown = λ known.
            let own = three.first.one.shown (self_lasts r self m.stored two.middle.stored inside known) in
            shown_as (shown_both tops (shown_both two.first.one.shown (shown_both own front))) (λ ws z.
            let rest = z.second in
            let inner = rest.second in
            let begun = inner.first in
            let lets = inner.second.first in
            let last = inner.second.second in
            let coroutine = subst (λ ss. IsCoroutine (store_of final) (map_of final) kind source.Fn ss two.one last.0 five.one) lets.3
            last.1 in
            let none = lets.2 ∙ ap (λ hs. hs ++ lets.0) begun.0 in
            let these = subst (λ hs. CorrespondsLets (store_of final) (map_of final) (map named hs) shapes row.one lets.1 inner.second.left)
            (sym none) lets.5 in (
              two.one,
              three.one.1.lets,
              lets.1,
              last.0,
              coroutine,
              record {
                left = z.left;
                right = z.right;
                is = z.is;
                first = z.first;
                second = record {
                  left = rest.left;
                  right = rest.right;
                  is = rest.is;
                  first = rest.first;
                  second = record {
                    left = inner.left;
                    right = inner.right;
                    is = inner.is;
                    first = begun.1;
                    second = record {
                      left = inner.second.left;
                      right = inner.second.right;
                      is = inner.second.is;
                      first = these;
                      second = last.2;
                    };
                  };
                };
              },
            ));
      }))

-- the whole

module _ (kind : CoroutineKind) (skipped : Bool) (f : Formals) (e : OptionExpr) where
  abbrev written_data : List PatData
  written_data = formals_data skipped f.formals

  pub coroutine_body_corresponds : Correct (lower_self f.receiver) (Shows (λ final rs o. CorrespondsSelf (store_of final) f.receiver o))
      → Correct (each_formal skipped [] f.formals)
      (Shows (λ final rs is. Behind [] (CorrespondsTops (store_of final) (map_of final) rs (formals_read skipped f.formals)) is))
      → Correct (lower_part e) (Shows (λ final rs i. CorrespondsPart (store_of final) (map_of final) rs e i))
      → Correct (coroutine_body kind skipped f e)
      (Shows (λ final rs x. CorrespondsBody (store_of final) (map_of final) rs (Some kind) skipped f e x.0 x.1))
  unfolding coroutine_body
  coroutine_body_corresponds hs hf he = correct_as
      (correct_bind (correct_both hs (self_known f.receiver)) (λ self.
      correct_bind (correct_counted (correct_owning (λ x. x.1.1)
      (correct_both (in_function_corresponds kind f.receiver skipped self f.formals e hf he) (handed_known kind skipped self f.formals e))))
      (λ x. correct_bind (handed_stand [] x.1.0 written_data) (λ is. correct_pure (((self, is), x.0), x.1.1)))))
      (λ final ps m m' x g row.
      let two = row.second in let three = two.second in
      let own = two.first.row in
      let start = binding_id row.middle.bindings in
      let root = two.one.1.1 in
      let in_it = own.first.one.shown row.first.other.now in
      let inside = shown_owned start root two.first.counted in_it (ap (λ k. k.stored) own.is) in
      let later = subst (λ k. Extends own.left.stored k.stored) (sym own.is) (extends_owner own.left.stored start root) in
      let from = froms_last two.one.1.0 written_data own.left.stored two.middle.stored later own.first.other.now in
      let hands = CorrespondsHanded (store_of final) (map_of final) (map named two.one.1.0) written_data in
      let formals = behind_none hands (three.first.shown from) in
      let behind = shown_before formals (moved_pure three.second.still) in
      rw three.second.is (record {
        shown = shown_as (shown_both row.first.one.shown (shown_both inside behind)) (λ ws z.
            let rest = z.second in
            let x = rest.first.2 in (
              x.0,
              x.1,
              map named two.one.1.0,
              x.2,
              x.3,
              x.4,
              record {
                left = z.left;
                right = z.right;
                is = z.is;
                first = z.first;
                second = record {
                  left = rest.left;
                  right = rest.right;
                  is = rest.is;
                  first = (rest.first.0, rest.first.1, x.5);
                  second = rest.second;
                };
              },
            ));
      }))
