-- A function with `async` or `gen` makes its coroutine, which binds its parameters, `self` first, and then runs its body.
use Rattle.std.proofs.Common.{◌≡◌, ◌∙◌, refl, sym, ap, subst, ℕ, zero, suc, ◌+◌, ◌≤◌, List, [], ◌∷◌, ◌++◌, length, map, append-nil}
use Rattle.std.proofs.Common.{append_assoc, Option, Some, None, option_map, arith}
use Rattle.std.proofs.lemmas.Option.{none-some, same_Some, slice_get-map}
use Rattle.hir_store.specs.Bindings.{without_problem}
use Rattle.hir_store.specs.Names.{IsWritten}
use Rattle.hir_store.specs.Pointers.{Pointer}
use Rattle.hir_store.specs.Stored.{Stored, store_of, map_of}
use Rattle.hir_store.specs.StoreSink.{Extends}
use Rattle.hir_store.specs.declared.hir.CoroutineKind.{CoroutineKind}
use Rattle.hir_store.specs.declared.hir.CoroutineSource.TheVariants as source
use Rattle.hir_store.specs.declared.hir.Statement.{Statement}
use Rattle.hir_store.specs.declared.ids.BindingId.{BindingId}
use Rattle.hir_store.specs.declared.ids.CfgId.{CfgId}
use Rattle.hir_store.specs.declared.ids.ExprId.{ExprId}
use Rattle.hir_store.specs.declared.ids.PatId.{PatId}
use Rattle.hir_store.specs.declared.pat.Binding.{Binding}
use Rattle.hir_store.proofs.Extending.{extends_trans}
use Rattle.hir_env.specs.ResolvedTree as tree
use Rattle.hir_env.specs.ResolvedTree.{OptionExpr, SelfFormal, Use}
use Rattle.spec_data.specs.Data.{pat_at}
use Rattle.spec_data.specs.Patterns.{written_pat}
use Rattle.spec_data.specs.Reading.{readers}
use Rattle.spec_data.specs.Tops.{Tops}
use Rattle.hir_lower_builder.specs.declared.preludes.Prelude.{Prelude}
use Rattle.hir_lower_builder.specs.Lower.{lower_part}
use Rattle.hir_lower_builder.specs.Lowering.{Lowering}
use Rattle.hir_lower_builder.specs.Pats.{new_binding}
use Rattle.hir_lower_builder.specs.Preludes.{bound_anew, no_prelude}
use Rattle.spec_semantics.specs.Inner.{all_of, bodies_in, inner_bodies, inners, prelude_body}
use Rattle.spec_semantics.specs.Inner.{pat_part_bodies, tops_bodies}
use Rattle.spec_semantics.specs.Limits.{stored_inside, written_inner}
use Rattle.spec_semantics.specs.Prelude.{binds_alone, hands_in, hands_in_self, reads_name, self_pattern}
use Rattle.spec_semantics.specs.Same.{SameBody, SameCoroutine}
use Rattle.thm_round_trip.proofs.Layers.{within}
use Rattle.thm_round_trip.proofs.Made.{pat_in_full}
use Rattle.thm_round_trip.proofs.Names.{found_in}
use Rattle.thm_round_trip.proofs.Params.{pats_in}
use Rattle.thm_round_trip.proofs.PatTree.{top_now}
use Rattle.thm_round_trip.proofs.Preludes.{BindEach, formals_now}
use Rattle.thm_logic.proofs.Always.{Always, correct_always}
use Rattle.thm_logic.proofs.Frames.{Frame}
use Rattle.thm_logic.proofs.Logic.{grows_trans}
use Rattle.thm_logic.proofs.Owning.{correct_owning}
use Rattle.thm_logic.proofs.PatSteps.{correct_alloc_binding}
use Rattle.thm_logic.proofs.Preludes.{LetSelf, MadeCoroutine, NameRead, Rebound, ReboundAs, binding_at, correct_let_self}
use Rattle.thm_logic.proofs.Preludes.{correct_made_coroutine, self_prelude}
use Rattle.thm_logic.proofs.Steps.{Answers, Both, Correct, Grows, InStore, Mark, Rel, correct_as, correct_bind, correct_both}
use Rattle.thm_logic.proofs.Steps.{correct_in_store, correct_pure}
use Rattle.thm_semantics.specs.Functions.{FunctionHeadline, InFunction, Received, coroutine_function, in_function, lower_receiver}
use Rattle.thm_semantics.specs.Functions.{lower_tops}
use Rattle.thm_semantics.proofs.Arguments.{Rising}
use Rattle.thm_semantics.proofs.Blocks.{part_walk}
use Rattle.thm_semantics.proofs.From.{from_written, grouped}
use Rattle.thm_semantics.proofs.Handing.{DoesEach, HandsNow, bind_layer_is, each_in, hands_now, numbers_handed, one_let}
use Rattle.thm_semantics.proofs.HeldPreludes.{PreludeDoes, SelfDoes, coroutine_holds, coroutine_is, formals_made, making_is}
use Rattle.thm_semantics.proofs.HeldPreludes.{no_self_does, prelude_does}
use Rattle.thm_semantics.proofs.HeldTree.{body_holds, top_holds}
use Rattle.thm_semantics.proofs.Holding.{Holds, SameIn, an_expr, inners_in, same_append}
use Rattle.thm_semantics.proofs.Induction.{part_fine}
use Rattle.thm_semantics.proofs.Preludes.{let_runs, name_holds, name_jumps, number_written}
use Rattle.thm_semantics.proofs.Senses.{Runs, base_of, goes_within, one, under_refl, wider_of}
use Rattle.thm_semantics.proofs.Unmade.{all_of as entries_of}

-- `self`

-- what is so of it, in each store that goes on
pub record BoundAs (u : Use) (final : Stored) (o : Option BindingId) : Type 0 where
  pub id : BindingId
  pub is : o ≡ Some id
  pub found : found_in final id ≡ Some (new_binding u)

abbrev pub SelfIs : SelfFormal → Rel (Option BindingId)
SelfIs (tree.self_formal at u _) final ps m m' o = BoundAs u final o
SelfIs tree.no_self final ps m m' o = o ≡ None
SelfIs (tree.disabled_self at by) final ps m m' o = o ≡ None

module _ (u : Use) (w : IsWritten u.name) {y : Binding} (same : bound_anew y ≡ new_binding u) {final : Stored} {ps : List Frame}
    {m m' : Mark} {r : BindingId × List Statement} (row : ReboundAs y final ps m m' r) where
  self_found : found_in final r.0 ≡ Some (new_binding u)
  self_found = rw row.binding.number row.binding.here ∙ ap Some same

  self_read : NameRead u.name u.hygiene final ps row.defined m' row.value
  self_read = subst (λ z. NameRead z.name z.hygiene final ps row.defined m' row.value) same row.read

  self_reads : (d : ℕ) → row.matched.entries ≤ d → (within final d).pat row.pattern ≡ self_pattern u
  unfolding readers
  self_reads zero le = let more = row.matches.entries in absurd (omega (arith, le, more))
  self_reads (suc d) le = let at = row.matches in
      rw (at.number, at.here, at.from) (rw self_found (ap (pat_at None)
      (bind_layer_is final (within final d) u.name u.hygiene u.mode w)))

  self_holds : (d : ℕ) → (inners_in final d).pat row.pattern ≡ []
  unfolding inners
  self_holds zero = refl
  self_holds (suc d) = let at = row.matches in rw (at.number, at.here) refl

  self_does : (at : Pointer) → m'.entries ≤ entries_of final → SelfDoes (tree.self_formal at u w) final m'.nodes (self_prelude r.1)
  self_does at stored = subst (λ ks. SelfDoes (tree.self_formal at u w) final m'.nodes (self_prelude ks)) (sym row.is) (record {
    none = refl;
    runs = λ fuel d le rest tail s behind.
        from_written (grouped (reads_name u.name u.hygiene) (λ v. binds_alone (self_pattern u) (v ∷ [])) (λ b. s))
        (let_runs fuel d rest tail behind row.pattern (self_pattern u) self_read le (number_written u.name w)
        (pat_in_full final row.pattern (self_pattern u) (self_reads (entries_of final)
        (omega (arith, stored, row.to_defined.entries, row.to_end.entries)))) (record { whole = refl; part = refl }));
    jumps = λ ls d le rest h. (name_jumps self_read ls d le, tt, h);
    holds = λ d. let r = inners_in final d in
        one_let (r.pat row.pattern) (r.expr row.value) (name_holds self_read d) ∙ self_holds d;
  })

-- a parameter that isn't there
disabled_does : (at : Pointer) (by : CfgId) (final : Stored) (nodes : ℕ) → SelfDoes (tree.disabled_self at by) final nodes no_prelude
disabled_does at by final nodes = record {
  none = refl;
  runs = λ fuel d le rest tail s behind. behind;
  jumps = λ ls d le rest h. h;
  holds = λ d. refl;
}

-- where there is one
self_lets : (at : Pointer) (u : Use) (w : IsWritten u.name) (id : BindingId) (x : Option Binding) (final : Stored) (ps : List Frame)
    (m m' : Mark) (r : BindingId × List Statement) → option_map without_problem x ≡ Some (new_binding u)
    → Rebound id x final ps m m' r → m'.entries ≤ entries_of final → SelfDoes (tree.self_formal at u w) final m'.nodes (self_prelude r.1)
self_lets at u w id None final ps m m' r e row stored = absurd (none-some (new_binding u) e)
self_lets at u w id (Some y) final ps m m' r e row stored = self_does u w (same_Some (bound_anew y) (new_binding u) e) row at stored

-- by what is so of it then
pub self_begins : (self : SelfFormal) (o : Option BindingId) (final : Stored) (ps : List Frame) (j k m m' : Mark)
    (begun : Option BindingId × Prelude) → SelfIs self m.stored ps j k o → LetSelf o final ps m m' begun → m'.entries ≤ entries_of final
    → SelfDoes self final m'.nodes begun.1
self_begins tree.no_self o final ps j k m m' begun is row stored =
    let none = subst (λ z. LetSelf z final ps m m' begun) is row in
    subst (λ z. SelfDoes tree.no_self final m'.nodes z.1) (sym none.0) (no_self_does final m'.nodes)
self_begins (tree.disabled_self at by) o final ps j k m m' begun is row stored =
    let none = subst (λ z. LetSelf z final ps m m' begun) is row in
    subst (λ z. SelfDoes (tree.disabled_self at by) final m'.nodes z.1) (sym none.0) (disabled_does at by final m'.nodes)
self_begins (tree.self_formal at u w) o final ps j k m m' begun is row stored =
    let lets = subst (λ z. LetSelf z final ps m m' begun) is.is row in
    let found = sym (slice_get-map without_problem m.stored.bindings.entries is.id.0) ∙ is.found in
    subst (λ z. SelfDoes (tree.self_formal at u w) final m'.nodes z.1) (sym lets.is)
    (self_lets at u w is.id (binding_at is.id m.stored) final ps m m' lets.anew found lets.made stored)

-- what is in it

-- what is so of the other parameters
pub record ParamsAre (ts : Tops) (final : Stored) (ps : List Frame) (m m' : Mark) (is : List PatId) : Type 0 where
  pub reads : pats_in final is ≡ map written_pat ts
  pub same : (d : ℕ) → m'.nodes + m'.entries ≤ d → SameIn final (all_of (inners_in final d).pat is) (tops_bodies ts)

abbrev pub BodyRel : OptionExpr → Rel ExprId
BodyRel e = Both (Runs one (part_walk e)) (Holds an_expr (bodies_in e))

record FunctionRow (kind : CoroutineKind) (ts : Tops) (e : OptionExpr) (self : Option BindingId) (final : Stored) (ps : List Frame)
    (m m' : Mark) (x : InFunction) : Type 0 where
  params : List PatId
  body : ExprId
  begun : Option BindingId × Prelude
  prelude : Prelude
  coroutine : ExprId
  is : x ≡ ((begun.0, params), (prelude.handed, coroutine))
  after_params : Mark
  after_body : Mark
  after_self : Mark
  after_prelude : Mark
  to_body : Grows after_params after_body
  to_self : Grows after_body after_self
  to_prelude : Grows after_self after_prelude
  to_end : Grows after_prelude m'
  in_params : Always (ParamsAre ts) final ps m after_params params
  in_body : Always (BodyRel e) final ps after_params after_body body
  in_self : Always (InStore (LetSelf self)) final ps after_body after_self begun
  in_prelude : Always (HandsNow begun.1 params) final ps after_self after_prelude prelude
  made : MadeCoroutine kind source.Fn prelude.lets body final ps after_prelude m' coroutine

correct_in_function : (kind : CoroutineKind) (ts : Tops) (e : OptionExpr) (self : Option BindingId) {p : Lowering (List PatId)}
    → Correct p (ParamsAre ts) → Correct (in_function kind p (lower_part e) self) (FunctionRow kind ts e self)
unfolding in_function
correct_in_function kind ts e self hp = correct_as
    (correct_bind (correct_always hp) (λ is. correct_bind (correct_always (correct_both (part_fine e) (body_holds e)))
    (λ body. correct_bind (correct_always (correct_in_store (correct_let_self self))) (λ begun. correct_bind
    (correct_always (hands_now begun.1 is)) (λ l. correct_bind (correct_made_coroutine kind source.Fn l.lets body)
    (λ c. correct_pure ((begun.0, is), (l.handed, c))))))))
    (λ final ps m m' x g row.
    let two = row.second in let three = two.second in let four = three.second in let five = four.second in
    rw five.second.still (record {
      params = row.one;
      body = two.one;
      begun = three.one;
      prelude = four.one;
      coroutine = five.one;
      is = five.second.is;
      after_params = row.middle;
      after_body = two.middle;
      after_self = three.middle;
      after_prelude = four.middle;
      to_body = two.before;
      to_self = three.before;
      to_prelude = four.before;
      to_end = five.before;
      in_params = row.first;
      in_body = two.first;
      in_self = three.first;
      in_prelude = four.first;
      made = five.first;
    }))

-- that it does what is written

module _ (kind : CoroutineKind) (self : SelfFormal) (ts : Tops) (e : OptionExpr) (o : Option BindingId) (final : Stored) (k m m' : Mark)
    (x : InFunction) (row : FunctionRow kind ts e o final [] m m' x)
    (receiver : (s : Stored) → Extends m.stored s → SelfIs self s [] k m o)
    (nodes : m'.nodes ≤ length final.exprs.entries) (entries : m'.entries ≤ entries_of final) (formals : List PatId)
    (binds : BindEach final formals x.1.0) where
  begins : SelfDoes self final row.after_self.nodes row.begun.1
  begins = self_begins self o final [] k m row.after_body row.after_self row.begun
      (receiver row.after_body.stored (extends_trans row.in_params.stays row.in_body.stays)) row.in_self.rel.rel row.in_self.rel.entries

  hand : DoesEach row.begun.1 row.params (map written_pat ts) final row.after_self row.after_prelude row.prelude
  hand = row.in_prelude.rel.each (map written_pat ts)
      (λ later f. (row.in_params.always later (extends_trans row.in_body.stays (extends_trans row.in_self.stays f))).reads)
      (each_in final row.params ts row.in_params.rel.reads)

  handed_alone : row.prelude.handed ≡ hand.more
  handed_alone = hand.handed ∙ ap (λ hs. hs ++ hand.more) begins.none

  does : PreludeDoes final row.after_prelude.nodes (numbers_handed row.prelude.handed) row.params row.prelude.lets
      (λ s. hands_in_self self (hands_in 0 (map written_pat ts) s))
  does = prelude_does begins row.to_prelude.nodes hand

  coroutine_runs : SameBody (store_of final) (stored_inside (store_of final) (map_of final)
      (record { expr = row.made.block; formals = formals })) row.made.block (written_inner (prelude_body self ts e))
  coroutine_runs = coroutine_is row.made (base_of row.after_params) [] tt refl formals row.after_self.names
      (numbers_handed row.prelude.handed)
      (formals_made final formals x.1.0 binds ∙ ap (λ z. numbers_handed z.1.0) row.is)
      (subst (λ hs. Rising row.after_self.names (numbers_handed hs)) (sym handed_alone) hand.rising) does
      (goes_within (wider_of (under_refl (base_of row.after_params)) (omega (arith, row.to_self.nodes, row.to_prelude.nodes)))
      row.in_body.rel.one)
      (omega (arith, nodes, row.made.to_end.nodes))

  contents : (d : ℕ) → row.after_prelude.nodes + row.after_prelude.entries ≤ d
      → let r = inners_in final d in SameIn final (all_of r.pat row.params ++ r.expr row.body) (tops_bodies ts ++ bodies_in e)
  contents d le =
      let r = inners_in final d in
      let near = grows_trans row.to_self row.to_prelude in
      let far = grows_trans row.to_body near in
      same_append final (all_of r.pat row.params) (r.expr row.body) (tops_bodies ts) (bodies_in e)
      (row.in_params.rel.same d (omega (arith, le, far.nodes, far.entries)))
      (row.in_body.rel.other.same d (omega (arith, le, near.nodes, near.entries)))

  same_made : SameCoroutine (store_of final) (map_of final) formals row.coroutine kind self ts e
  unfolding inner_bodies
  same_made = record {
    body = making_is row.made (base_of m) [] tt refl nodes;
    inner = coroutine_holds row.made (tops_bodies ts ++ bodies_in e) formals (numbers_handed row.prelude.handed)
        (prelude_body self ts e) does coroutine_runs contents (length final.exprs.entries + entries_of final)
        (omega (arith, nodes, entries));
  }

-- Of the whole function, where nothing is open around it.
abbrev pub FunctionIs : CoroutineKind → SelfFormal → Tops → OptionExpr → Rel ((Received × Received) × ExprId)
FunctionIs kind self ts e final ps m m' r = ps ≡ [] → SameCoroutine (store_of final) (map_of final) r.0.0.1 r.1 kind self ts e

pub function_same : (kind : CoroutineKind) (self : SelfFormal) (ts : Tops) (e : OptionExpr) {p : Lowering (List PatId)}
    {s : Lowering (Option BindingId)} → Correct s (SelfIs self) → Correct p (ParamsAre ts)
    → Correct (coroutine_function kind p (lower_part e) s) (FunctionIs kind self ts e)
unfolding coroutine_function
function_same kind self ts e {p = p} hs hp = correct_as
    (correct_in_store (correct_bind (correct_always hs)
    (λ o. correct_bind (correct_owning (λ x. x.1.1) (correct_in_function kind ts e o hp)) (λ x. correct_bind (formals_now [] x.1.0)
    (λ is. correct_pure (((o, is), x.0), x.1.1))))))
    (λ final ps m m' r g stored none.
    let row = stored.rel in
    let two = row.second in
    let own = two.first in
    let three = two.second in
    let last = three.second in
    let f = three.first in
    let o = row.one in
    let x = two.one in
    let nodes_are : two.middle.nodes ≡ own.left.nodes = ap (λ z. z.nodes) own.is in
    let entries_are : two.middle.entries ≡ own.left.entries = ap (λ z. z.entries) own.is in
    let inside = subst (λ qs. FunctionRow kind ts e o final qs row.middle own.left x) none own.first in
    let self_is : (t : Stored) → Extends row.middle.stored t → SelfIs self t [] m row.middle o =
    λ t ext. subst (λ qs. SelfIs self t qs m row.middle o) none (row.first.always t ext) in
    let made = same_made kind self ts e o final m row.middle own.left x inside self_is
    (omega (arith, stored.nodes, nodes_are, two.after.nodes)) (omega (arith, stored.entries, entries_are, two.after.entries)) three.one
    (subst (λ is. BindEach final is x.1.0) (sym f.ids) f.binds) in
    subst (λ z. SameCoroutine (store_of final) (map_of final) z.0.0.1 z.1 kind self ts e) (sym last.is)
    (subst (λ z. SameCoroutine (store_of final) (map_of final) three.one z kind self ts e) (sym (ap (λ z. z.1.1) inside.is)) made))

-- parameters that no condition disables

receiver_is : (self : SelfFormal) → Correct (lower_receiver self) (SelfIs self)
receiver_is tree.no_self = correct_as (correct_pure None) (λ final ps m m' o g row. row.is)
receiver_is (tree.disabled_self at by) = correct_as (correct_pure None) (λ final ps m m' o g row. row.is)
receiver_is (tree.self_formal at u w) =
    correct_as (correct_bind (correct_alloc_binding (new_binding u)) (λ i. correct_pure (Some i)))
    (λ final ps m m' o g row. record { id = row.one; is = row.second.is; found = rw row.first.number row.first.here })

-- these behind those that there were
record TopsAre (done : List PatId) (ts : Tops) (final : Stored) (ps : List Frame) (m m' : Mark) (is : List PatId) : Type 0 where
  new : List PatId
  ids : is ≡ done ++ new
  are : ParamsAre ts final ps m m' new

tops_are : (ts : Tops) (done : List PatId) → Correct (lower_tops done ts) (TopsAre done ts)
tops_are [] done = correct_as (correct_pure done) (λ final ps m m' is g row. record {
  new = [];
  ids = row.is ∙ sym (append-nil done);
  are = record { reads = refl; same = λ d le. tt };
})
tops_are (t ∷ ts) done = correct_as (correct_bind (correct_both (top_now t) (top_holds t)) (λ i. tops_are ts (done ++ i ∷ [])))
    (λ final ps m m' is g row. let rest = row.second in record {
      new = row.one ∷ rest.new;
      ids = rest.ids ∙ append_assoc done (row.one ∷ []) rest.new;
      are = record {
        reads = λ j. row.first.one.is j ∷ rest.are.reads j;
        same = λ d le. let r = inners_in final d in
            same_append final (r.pat row.one) (all_of r.pat rest.new) (pat_part_bodies t) (tops_bodies ts)
            (row.first.other.same d (omega (arith, le, row.after.nodes, row.after.entries))) (rest.are.same d le);
      };
    })

params_are : (ts : Tops) → Correct (lower_tops [] ts) (ParamsAre ts)
params_are ts = correct_as (tops_are ts [])
    (λ final ps m m' is g row. subst (ParamsAre ts final ps m m') (sym row.ids) row.are)

pub function_headline : FunctionHeadline
function_headline kind self ps e b b' formals i l final x =
    let h = (function_same kind self ps e (receiver_is self) (params_are ps)).holds final [] b l.none_open in
    let r : Answers (FunctionIs kind self ps e) final [] b b' (((l.receiver, formals), l.written), i) = rw l.is at h in
    r.in_final l.paired x refl
