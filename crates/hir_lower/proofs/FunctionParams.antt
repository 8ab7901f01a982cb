-- What the parameters of a function with `async` or `gen` are: as they are written, in its coroutine, and the names by which the outside
-- hands them in.
use Rattle.std.proofs.Common.{arith, ◌≡◌, ◌∙◌, refl, sym, ap, subst, ℕ, ◌+◌, ◌≤◌, Bool, List, [], ◌++◌, Option, Some, None}
use Rattle.hir_store.specs.Bindings.{binding_id}
use Rattle.hir_store.specs.Stored.{Stored, store_of, map_of}
use Rattle.hir_store.specs.StoreSink.{Extends}
use Rattle.hir_store.specs.declared.hir.CoroutineKind.{CoroutineKind}
use Rattle.hir_store.specs.declared.hir.CoroutineSource.TheVariants as source
use Rattle.hir_store.specs.declared.ids.BindingId.{BindingId}
use Rattle.hir_store.specs.declared.ids.ExprId.{ExprId}
use Rattle.hir_store.proofs.Extending.{extends_owner, extends_trans}
use Rattle.hir_env.specs.ResolvedTree as tree
use Rattle.hir_env.specs.ResolvedTree.{Formal, Formals, OptionExpr, SelfFormal}
use Rattle.spec_data.specs.Data.{PatData}
use Rattle.spec_data.specs.Preludes.{formal_patterns}
use Rattle.hir_lower_builder.specs.Lower.{lower_part}
use Rattle.hir_lower_builder.specs.Pats.{new_binding}
use Rattle.hir_lower_builder.specs.Preludes.{let_self}
use Rattle.hir_lower_builder.specs.declared.preludes.Prelude.{Prelude}
use Rattle.spec_semantics.specs.Inner.{all_of}
use Rattle.spec_semantics.specs.Same.{SameCoroutine}
use Rattle.thm_round_trip.proofs.Params.{pats_in}
use Rattle.thm_round_trip.proofs.Preludes.{HandIn, ReadAs, all_handed, formals_now, lets_now}
use Rattle.thm_logic.proofs.Always.{correct_always}
use Rattle.thm_logic.proofs.ApartTree.{part_apart}
use Rattle.thm_logic.proofs.Frames.{Frame}
use Rattle.thm_logic.proofs.Owning.{correct_owning}
use Rattle.thm_logic.proofs.PatSteps.{correct_alloc_binding}
use Rattle.thm_logic.proofs.Preludes.{correct_let_self, correct_made_coroutine}
use Rattle.thm_logic.proofs.Steps.{Correct, Mark, Rel, correct_as, correct_bind, correct_both, correct_pure}
use Rattle.thm_logic.proofs.Steps.{correct_report}
use Rattle.thm_semantics.specs.Functions as meant
use Rattle.thm_semantics.proofs.Functions.{ParamsAre, SelfIs, function_same}
use Rattle.thm_semantics.proofs.Holding.{SameIn, inners_in, same_ids}
use Rattle.thm_body_result.specs.Formals as forms
use Rattle.thm_body_result.specs.Formals.{Given, InFunction, coroutine_body, each_formal, formals_read, lower_self}
use Rattle.thm_body_result.specs.Room.{formals_data}
use Rattle.thm_body_result.proofs.Formals.{each_now}
use Rattle.hir_lower.proofs.ParamBodies.{each_hold, read_bodies, self_any}

-- it does what is written

self_is : (s : SelfFormal) → Correct (lower_self s) (SelfIs s)
self_is tree.no_self = correct_as (correct_pure None) (λ final ps m m' o g row. row.is)
self_is (tree.disabled_self at by) =
    correct_as (correct_bind (correct_report _) (λ u. correct_pure None)) (λ final ps m m' o g row. row.second.is)
self_is (tree.self_formal at u w) =
    correct_as (correct_bind (correct_alloc_binding (new_binding u)) (λ i. correct_pure (Some i)))
    (λ final ps m m' o g row. record { id = row.one; is = row.second.is; found = rw row.first.number row.first.here })

params_are : (skipped : Bool) (fs : List Formal) → Correct (each_formal skipped [] fs) (ParamsAre (formals_read skipped fs))
params_are skipped fs = correct_as (correct_both (each_now skipped [] fs) (each_hold skipped fs []))
    (λ final ps m m' is g row. let made = row.other in record {
      reads = ap (pats_in final) row.one.is ∙ row.one.reads;
      same = λ d le. same_ids final (read_bodies skipped fs) (ap (all_of (inners_in final d).pat) made.is) (made.rel.same d le);
    })

module _ (kind : CoroutineKind) (skipped : Bool) (f : Formals) (e : OptionExpr) where
  -- the words of meaning for it
  as_function : coroutine_body kind skipped f e
      ≡ meant.coroutine_function kind (each_formal skipped [] f.formals) (lower_part e) (lower_self f.receiver)
  unfolding coroutine_body forms.in_function meant.coroutine_function meant.in_function
  as_function = refl

  abbrev FunctionDoes : Rel (Given × ExprId)
  FunctionDoes final ps m m' r = ps ≡ []
      → SameCoroutine (store_of final) (map_of final) r.0.0.1 r.1 kind f.receiver (formals_read skipped f.formals) e

  pub function_does : Correct (coroutine_body kind skipped f e) FunctionDoes
  function_does = subst (λ p. Correct p FunctionDoes) (sym as_function)
      (function_same kind f.receiver (formals_read skipped f.formals) e (self_is f.receiver) (params_are skipped f.formals))

-- its parameters

-- no parameter is handed in yet
record NoneYet (final : Stored) (ps : List Frame) (m m' : Mark) (begun : Option BindingId × Prelude) : Type 0 where
  none : begun.1.handed ≡ []

none_yet : (o : Option BindingId) → Correct (let_self o) NoneYet
none_yet None = correct_as (correct_let_self None)
    (λ final ps m m' begun g row. record { none = ap (λ (z : Option BindingId × Prelude). z.1.handed) row.0 })
none_yet (Some id) = correct_as (correct_let_self (Some id))
    (λ final ps m m' begun g row. record { none = ap (λ (z : Option BindingId × Prelude). z.1.handed) row.is })

module _ (skipped : Bool) (fs : List Formal) where
  abbrev written : List PatData
  written = formals_data skipped fs

  record InFunctionReads (final : Stored) (ps : List Frame) (m m' : Mark) (x : InFunction) : Type 0 where
    hands : HandIn x.1.0 x.0.1 written
    reads : ReadAs m'.stored x.0.1 written
    same : (d : ℕ) → m'.nodes + m'.entries ≤ d → SameIn final (all_of (inners_in final d).pat x.0.1) (read_bodies skipped fs)

  in_function_reads : (kind : CoroutineKind) (self : Option BindingId) (e : OptionExpr)
      → Correct (forms.in_function kind skipped self fs e) InFunctionReads
  unfolding forms.in_function
  in_function_reads kind self e = correct_as
      (correct_bind (correct_always (params_are skipped fs)) (λ is. correct_bind (correct_always (part_apart e))
      (λ body. correct_bind (correct_always (none_yet self)) (λ begun. correct_bind (correct_always (lets_now begun.1 is))
      (λ l. correct_bind (correct_always (correct_made_coroutine kind source.Fn l.lets body))
      (λ c. correct_pure ((begun.0, is), (l.handed, c))))))))
      (λ final ps m m' x g row.
      let two = row.second in let three = two.second in let four = three.second in let five = four.second in
      let to_lets = extends_trans two.first.stays three.first.stays in
      let to_end = extends_trans four.first.stays five.first.stays in
      let read : ReadAs row.middle.stored row.one written = λ later ext. (row.first.always later ext).reads in
      let all = all_handed three.one.1 row.one written final ps three.middle four.middle four.one
      (four.first.rel.each written (λ later ext. read later (extends_trans to_lets ext))) in
      let handed : four.one.handed ≡ all.more = all.handed ∙ ap (λ h. h ++ all.more) three.first.rel.none in
      let last : ReadAs five.middle.stored row.one written =
      λ later ext. read later (extends_trans to_lets (extends_trans to_end ext)) in
      rw (five.second.is, five.second.still) (record {
        hands = subst (λ xs. HandIn xs row.one written) (sym handed) all.hand;
        reads = last;
        same = λ d le. row.first.rel.same d (omega (arith, le, row.after.nodes, row.after.entries));
      }))

-- As they are written, with the bodies inside of them, and as the outside hands them in.
pub record FunctionReads (skipped : Bool) (fs : List Formal) (final : Stored) (ps : List Frame) (m m' : Mark) (r : Given × ExprId)
    : Type 0 where
  pub patterns : pats_in final r.0.1.1 ≡ formals_data skipped fs
  pub formals : pats_in final r.0.0.1 ≡ formal_patterns (formals_data skipped fs)
  pub same : (d : ℕ) → m'.nodes + m'.entries ≤ d → SameIn final (all_of (inners_in final d).pat r.0.1.1) (read_bodies skipped fs)

pub function_reads : (kind : CoroutineKind) (skipped : Bool) (f : Formals) (e : OptionExpr)
    → Correct (coroutine_body kind skipped f e) (FunctionReads skipped f.formals)
unfolding coroutine_body
function_reads kind skipped f e = correct_as
    (correct_bind (self_any f.receiver) (λ self. correct_bind
    (correct_always (correct_owning (λ x. x.1.1) (in_function_reads skipped f.formals kind self e)))
    (λ x. correct_bind (correct_always (formals_now [] x.1.0)) (λ is. correct_pure (((self, is), x.0), x.1.1)))))
    (λ final ps m m' r g row.
    let two = row.second in
    let three = two.second in
    let own = two.first.rel in
    let x = two.one in
    let left = own.left.stored in
    let start = binding_id row.middle.bindings in
    let owned : Extends left two.middle.stored =
    subst (λ k. Extends left k.stored) (sym own.is) (extends_owner left start x.1.1) in
    let now = three.first.rel in
    let to_end = extends_trans owned (extends_trans three.first.stays three.first.lasts) in
    rw (three.second.is, three.second.still) (record {
      patterns = own.first.reads final to_end;
      formals = ap (pats_in final) now.ids ∙ now.reads x.0.1 (formals_data skipped f.formals) own.first.hands
          (λ later ext. own.first.reads later (extends_trans owned ext));
      same = λ d le.
          let nodes = ap (λ (k : Mark). k.nodes) own.is in
          let entries = ap (λ (k : Mark). k.entries) own.is in
          own.first.same d (omega (arith, le, nodes, entries, two.after.nodes, two.after.entries));
    }))
