-- What stands in front of the body of a coroutine that a closure or a function has, and what the outside hands its arguments to.
use Rattle.std.proofs.Common.{◌≡◌, ◌∙◌, ℕ, suc, Bool, true, false, slice_get, map, List, [], ◌∷◌, Option, Some, None, Ok}
use Rattle.std.proofs.Common.{refl, ap, subst}
use Rattle.hir_store.specs.Bindings.{without_problem}
use Rattle.hir_store.specs.Stored.{Stored}
use Rattle.hir_store.specs.declared.hir.CoroutineKind.{CoroutineKind}
use Rattle.hir_store.specs.declared.hir.CoroutineSource.{CoroutineSource}
use Rattle.hir_store.specs.declared.hir.CoroutineSource.TheVariants as source
use Rattle.hir_store.specs.declared.hir.Expr.TheVariants as hir
use Rattle.hir_store.specs.declared.hir.Statement.{Statement}
use Rattle.hir_store.specs.declared.ids.BindingId.{BindingId}
use Rattle.hir_store.specs.declared.ids.ExprId.{ExprId}
use Rattle.hir_store.specs.declared.ids.HygieneId.{HygieneId}
use Rattle.hir_store.specs.declared.ids.PatId.{PatId}
use Rattle.hir_store.specs.declared.ids.TypeRefId.{TypeRefId}
use Rattle.hir_store.specs.declared.name.Name.{Name}
use Rattle.hir_store.specs.declared.name.Name.TheVariants.{Generated}
use Rattle.hir_store.specs.declared.pat.Binding.{Binding}
use Rattle.hir_store.specs.declared.pat.Pat.TheVariants as pat
use Rattle.hir_lower_builder.specs.declared.closures.ClosureParams.{ClosureParams}
use Rattle.hir_lower_builder.specs.declared.preludes.Handed.{Handed}
use Rattle.hir_lower_builder.specs.declared.preludes.OwnName.{OwnName}
use Rattle.hir_lower_builder.specs.declared.preludes.Prelude.{Prelude}
use Rattle.hir_lower_builder.specs.declared.preludes.Within.{Within}
use Rattle.hir_lower_builder.specs.Forms.{ExprSteps, root_hygiene}
use Rattle.hir_lower_builder.specs.Lowering.{Lowering}
use Rattle.hir_lower_builder.specs.Preludes as forms
use Rattle.hir_lower_builder.specs.Preludes.{add_handed, bound_anew, coroutine_of, handed_as, handed_binding, let_from, name_path}
use Rattle.hir_lower_builder.specs.Preludes.{no_prelude}
use Rattle.hir_lower_builder.specs.Preludes.{own_in}
use Rattle.thm_logic.proofs.Frames.{Frame}
use Rattle.thm_logic.proofs.MadeSteps.{MadeNumber, correct_made_number}
use Rattle.thm_logic.proofs.PatSteps.{AllocatedBinding, AllocatedPat, PatWrites, correct_alloc_beside, correct_alloc_binding}
use Rattle.thm_logic.proofs.PatSteps.{correct_alloc_pat, correct_define, defining, put_made_pat, source_in, with_new_binding}
use Rattle.thm_logic.proofs.Logic.{grows_refl}
use Rattle.thm_logic.proofs.Steps.{Mark, mark, Grows, Rel, Correct, Allocated, kept_still}
use Rattle.thm_logic.proofs.Steps.{correct_alloc, correct_as, correct_bind, correct_pure}

-- what is told of what is stored

pub record Emitted {A : Type 0} (emits : Stored → A) (final : Stored) (ps : List Frame) (m m' : Mark) (a : A) : Type 0 where
  pub is : a ≡ emits m.stored
  pub still : m' ≡ m

pub correct_emitted : {A : Type 0} (emits : Stored → A) → Correct (λ b. (Ok (emits b.stored), b)) (Emitted emits)
correct_emitted emits = record {
  holds = λ final ps b r. record {
    kept = kept_still b;
    grows = grows_refl (mark b);
    in_final = λ d pre. record { is = refl; still = refl };
  };
}

-- the name of a stored pattern as a whole
abbrev pub own_at : PatId → Stored → Option OwnName
own_at p s = own_in s (slice_get s.pats.entries p.0)

pub correct_own_name_of : (p : PatId) → Correct (forms.own_name_of p) (Emitted (own_at p))
unfolding forms.own_name_of
correct_own_name_of p = correct_emitted (own_at p)

abbrev pub binding_at : BindingId → Stored → Option Binding
binding_at i s = slice_get s.bindings.entries i.0

pub correct_binding_of : (i : BindingId) → Correct (forms.binding_of i) (Emitted (binding_at i))
unfolding forms.binding_of
correct_binding_of i = correct_emitted (binding_at i)

-- names that are handed in

-- What binds the name by which a parameter is handed in, alone.
pub record HandedBind (x : Handed) (final : Stored) (ps : List Frame) (m m' : Mark) (p : PatId) : Type 0 where
  pub binding : BindingId
  pub number : p.0 ≡ m.pats
  pub here : slice_get final.pats.entries m.pats ≡ Some (pat.Bind binding None)
  pub from : slice_get final.pats.sources m.pats ≡ Some (source_in m.stored x.pat)
  pub is : binding.0 ≡ m.bindings
  pub bound : slice_get (map without_problem final.bindings.entries) m.bindings ≡ Some (handed_binding x)
  pub pats : m'.pats ≡ suc m.pats
  pub bindings : m'.bindings ≡ suc m.bindings
  pub entries : m'.entries ≡ suc m.entries
  pub nodes : m'.nodes ≡ m.nodes
  pub labels : m'.labels ≡ m.labels
  pub types : m'.types ≡ m.types
  pub lifetimes : m'.lifetimes ≡ m.lifetimes
  pub names : m'.names ≡ m.names
  pub stored : m'.stored
      ≡ defining binding p (put_made_pat (pat.Bind binding None) (source_in m.stored x.pat) (with_new_binding (handed_binding x) m.stored))

pub correct_handed : (x : Handed) → Correct (forms.handed_form x) (HandedBind x)
unfolding forms.handed_form
correct_handed x = correct_as (correct_bind (correct_alloc_binding (handed_binding x))
    (λ i. correct_bind (correct_alloc_beside (pat.Bind i None) x.pat) (λ p. correct_bind (correct_define i p) (λ u. correct_pure p))))
    (λ final ps m m' q g row. let one = row.first in let two = row.second.first in let three = row.second.second.first in
    let last = row.second.second.second in let counts_are = three.counts_are in
    let source : source_in row.middle.stored x.pat ≡ source_in m.stored x.pat = ap (λ s. source_in s x.pat) one.stored in
    rw (last.is, last.still) (record {
      binding = row.one;
      number = two.number ∙ one.pats;
      here = subst (λ k. slice_get final.pats.entries k ≡ Some (pat.Bind row.one None)) one.pats two.here;
      from = subst (λ k. slice_get final.pats.sources k ≡ Some (source_in m.stored x.pat)) one.pats (two.from ∙ ap Some source);
      is = one.number;
      bound = one.here;
      pats = ap (λ c. c.2) counts_are ∙ (two.next ∙ ap suc one.pats);
      bindings = ap (λ c. c.3) counts_are ∙ (two.bindings ∙ one.next);
      entries = ap (λ c. c.6) counts_are ∙ (two.entries ∙ ap suc one.entries);
      nodes = ap (λ c. c.0) counts_are ∙ (two.nodes ∙ one.nodes);
      labels = ap (λ c. c.1) counts_are ∙ (two.labels ∙ one.labels);
      types = ap (λ c. c.4) counts_are ∙ (two.types ∙ one.types);
      lifetimes = ap (λ c. c.5) counts_are ∙ (two.lifetimes ∙ one.lifetimes);
      names = ap (λ c. c.7) counts_are ∙ (two.names ∙ one.names);
      stored = three.stored ∙ ap (defining row.one row.second.one)
          (two.stored ∙ (λ j. put_made_pat (pat.Bind row.one None) (source j) (one.stored j)));
    }))

-- a name that is read, which comes from no node
abbrev pub NameRead : Name → HygieneId → Rel ExprId
NameRead n h = Allocated (hir.Path (name_path n) h) None

pub correct_name : (n : Name) (h : HygieneId) → Correct (forms.name_form n h) (NameRead n h)
unfolding forms.name_form
correct_name n h = correct_alloc (hir.Path (name_path n) h) None

-- `let`s

-- of the pattern, by the name
pub record LetOf (x : Handed) (p : PatId) (final : Stored) (ps : List Frame) (m m' : Mark) (ss : List Statement) : Type 0 where
  pub value : ExprId
  pub is : ss ≡ let_from p value ∷ []
  pub read : NameRead x.name x.hygiene final ps m m' value

pub correct_let : (x : Handed) (p : PatId) → Correct (forms.let_form x p) (LetOf x p)
unfolding forms.let_form
correct_let x p = correct_as (correct_bind (correct_name x.name x.hygiene) (λ e. correct_pure (let_from p e ∷ [])))
    (λ final ps m m' ss g row. rw row.second.still (record { value = row.one; is = row.second.is; read = row.first }))

-- of a name in between, and then of the pattern
pub record LetsOf (x : Handed) (p : PatId) (final : Stored) (ps : List Frame) (m m' : Mark) (ss : List Statement) : Type 0 where
  pub between : PatId
  pub first : ExprId
  pub second : ExprId
  pub is : ss ≡ let_from between first ∷ let_from p second ∷ []
  pub bound : Mark
  pub once : Mark
  pub to_bound : Grows m bound
  pub to_once : Grows bound once
  pub to_end : Grows once m'
  pub binds : HandedBind x final ps m bound between
  pub read : NameRead x.name x.hygiene final ps bound once first
  pub again : NameRead x.name x.hygiene final ps once m' second

pub correct_lets : (x : Handed) (p : PatId) → Correct (forms.two_lets_form x p) (LetsOf x p)
unfolding forms.two_lets_form
correct_lets x p = correct_as (correct_bind (correct_handed x) (λ q. correct_bind (correct_name x.name x.hygiene)
    (λ e. correct_bind (correct_name x.name x.hygiene) (λ f. correct_pure (let_from q e ∷ let_from p f ∷ [])))))
    (λ final ps m m' ss g row. let two = row.second in let three = two.second in rw three.second.still (record {
      between = row.one;
      first = two.one;
      second = three.one;
      is = three.second.is;
      bound = row.middle;
      once = two.middle;
      to_bound = row.before;
      to_once = two.before;
      to_end = three.before;
      binds = row.first;
      read = two.first;
      again = three.first;
    }))

-- parameters

-- one parameter more, of which the `let`s are so
pub record OneMore (done : Prelude) (x : Handed) (R : Rel (List Statement)) (final : Stored) (ps : List Frame) (m m' : Mark) (l : Prelude)
    : Type 0 where
  pub lets : List Statement
  pub is : l ≡ add_handed done x lets
  pub made : R final ps m m' lets

by_name : (done : Prelude) (p : PatId) (x : Handed) → Correct (forms.handed_by_name done p x) (OneMore done x (LetOf x p))
unfolding forms.handed_by_name
by_name done p x = correct_as (correct_bind (correct_let x p) (λ ss. correct_pure (add_handed done x ss)))
    (λ final ps m m' l g row. rw row.second.still (record { lets = row.one; is = row.second.is; made = row.first }))

between : (done : Prelude) (p : PatId) (x : Handed) → Correct (forms.handed_between done p x) (OneMore done x (LetsOf x p))
unfolding forms.handed_between
between done p x = correct_as (correct_bind (correct_lets x p) (λ ss. correct_pure (add_handed done x ss)))
    (λ final ps m m' l g row. rw row.second.still (record { lets = row.one; is = row.second.is; made = row.first }))

-- by its own name
abbrev pub HandedOwn : Prelude → PatId → Bool → Handed → Rel Prelude
HandedOwn done p true x = OneMore done x (LetOf x p)
HandedOwn done p false x = OneMore done x (LetsOf x p)

own_handed : (done : Prelude) (p : PatId) (alone : Bool) (x : Handed) → Correct (forms.handed_own done p alone x) (HandedOwn done p alone x)
own_handed done p true x = by_name done p x
own_handed done p false x = between done p x

-- by the next name that is made up
pub record HandedMade (done : Prelude) (p : PatId) (final : Stored) (ps : List Frame) (m m' : Mark) (l : Prelude) : Type 0 where
  pub number : ℕ
  pub numbered : Mark
  pub to_numbered : Grows m numbered
  pub to_end : Grows numbered m'
  pub next : MadeNumber final ps m numbered number
  pub more : let x = handed_as (Generated number) root_hygiene p in OneMore done x (LetsOf x p) final ps numbered m' l

abbrev pub HandedIn : Prelude → PatId → Option OwnName → Rel Prelude
HandedIn done p (Some own) = HandedOwn done p own.is_alone (handed_as own.name own.hygiene p)
HandedIn done p None = HandedMade done p

correct_handed_in : (done : Prelude) (p : PatId) (own : Option OwnName) → Correct (forms.handed_in done p own) (HandedIn done p own)
unfolding forms.handed_in
correct_handed_in done p (Some own) = own_handed done p own.is_alone (handed_as own.name own.hygiene p)
correct_handed_in done p None =
    correct_as (correct_bind correct_made_number (λ n. between done p (handed_as (Generated n) root_hygiene p)))
    (λ final ps m m' l g row. record {
      number = row.one;
      numbered = row.middle;
      to_numbered = row.before;
      to_end = row.after;
      next = row.first;
      more = row.second;
    })

-- as what is stored says
pub record LetParam (done : Prelude) (p : PatId) (final : Stored) (ps : List Frame) (m m' : Mark) (l : Prelude) : Type 0 where
  pub handed : HandedIn done p (own_at p m.stored) final ps m m' l

pub correct_let_param : (done : Prelude) (p : PatId) → Correct (forms.let_param done p) (LetParam done p)
unfolding forms.let_param
correct_let_param done p = correct_as (correct_bind (correct_own_name_of p) (λ own. correct_handed_in done p own))
    (λ final ps m m' l g row. record {
      handed = subst (λ own. HandedIn done p own final ps m m' l) row.first.is
          (subst (λ k. HandedIn done p row.one final ps k m' l) row.first.still row.second);
    })

-- coroutines

-- the block with the `let`s in front of the body, and the coroutine around it
pub record MadeCoroutine (which : CoroutineKind) (from : CoroutineSource) (lets : List Statement) (body : ExprId)
    (final : Stored) (ps : List Frame) (m m' : Mark) (c : ExprId) : Type 0 where
  pub block : ExprId
  pub left : Mark
  pub to_block : Grows m left
  pub to_end : Grows left m'
  pub inside : Allocated (hir.Block false None None lets (Some body)) None final ps m left block
  pub made : Allocated (coroutine_of which from block) None final ps left m' c

pub correct_made_coroutine : (which : CoroutineKind) (from : CoroutineSource) (lets : List Statement) (body : ExprId)
    → Correct (forms.made_coroutine_form which from lets body) (MadeCoroutine which from lets body)
unfolding forms.made_coroutine_form
correct_made_coroutine which from lets body = correct_as (correct_bind (correct_alloc (hir.Block false None None lets (Some body)) None)
    (λ b. correct_alloc (coroutine_of which from b) None))
    (λ final ps m m' c g row. record {
      block = row.one;
      left = row.middle;
      to_block = row.before;
      to_end = row.after;
      inside = row.first;
      made = row.second;
    })

-- what is answered of the parameters, what it returns, its prelude and its coroutine
abbrev pub within_of : ClosureParams → Option TypeRefId → Prelude → ExprId → Within
within_of l t p c = record { arg_types = l.arg_types; ret = t; handed = p.handed; coroutine = c }

-- The parameters, what the closure returns, its body, what hands the parameters in, and the coroutine.
pub record WithinRow (P : Rel ClosureParams) (T : Rel (Option TypeRefId)) (S : Rel ExprId) (L : List PatId → Rel Prelude)
    (C : List Statement → ExprId → Rel ExprId) (final : Stored) (ps : List Frame) (m m' : Mark) (w : Within) : Type 0 where
  pub params : ClosureParams
  pub ret : Option TypeRefId
  pub body : ExprId
  pub prelude : Prelude
  pub coroutine : ExprId
  pub is : w ≡ within_of params ret prelude coroutine
  pub after_params : Mark
  pub after_ret : Mark
  pub after_body : Mark
  pub after_prelude : Mark
  pub to_params : Grows m after_params
  pub to_ret : Grows after_params after_ret
  pub to_body : Grows after_ret after_body
  pub to_prelude : Grows after_body after_prelude
  pub to_end : Grows after_prelude m'
  pub in_params : P final ps m after_params params
  pub in_ret : T final ps after_params after_ret ret
  pub in_body : S final ps after_ret after_body body
  pub in_prelude : L params.args final ps after_body after_prelude prelude
  pub made : C prelude.lets body final ps after_prelude m' coroutine

module _ (which : CoroutineKind) {p : Lowering ClosureParams} {t : Lowering (Option TypeRefId)} {e : ExprSteps}
    {P : Rel ClosureParams} {T : Rel (Option TypeRefId)} {S : Rel ExprId} {L : List PatId → Rel Prelude}
    {C : List Statement → ExprId → Rel ExprId} where
  pub correct_within : Correct p P → Correct t T → Correct e S → ((is : List PatId) → Correct (forms.let_params no_prelude is) (L is))
      → ((ss : List Statement) (i : ExprId) → Correct (forms.made_coroutine_form which source.Closure ss i) (C ss i))
      → Correct (forms.within_form which p t e) (WithinRow P T S L C)
  unfolding forms.within_form
  correct_within hp ht he hl hc = correct_as
      (correct_bind hp (λ l. correct_bind ht (λ r. correct_bind he (λ i. correct_bind (hl l.args)
      (λ k. correct_bind (hc k.lets i) (λ c. correct_pure (within_of l r k c)))))))
      (λ final ps m m' w g row.
      let two = row.second in let three = two.second in let four = three.second in let five = four.second in
      rw five.second.still (record {
        params = row.one;
        ret = two.one;
        body = three.one;
        prelude = four.one;
        coroutine = five.one;
        is = five.second.is;
        after_params = row.middle;
        after_ret = two.middle;
        after_body = three.middle;
        after_prelude = four.middle;
        to_params = row.before;
        to_ret = two.before;
        to_body = three.before;
        to_prelude = four.before;
        to_end = five.before;
        in_params = row.first;
        in_ret = two.first;
        in_body = three.first;
        in_prelude = four.first;
        made = five.first;
      }))

-- `self`

-- its binding once more, which comes from no node, and the `let` of it
pub record ReboundAs (x : Binding) (final : Stored) (ps : List Frame) (m m' : Mark) (r : BindingId × List Statement) : Type 0 where
  pub pattern : PatId
  pub value : ExprId
  pub bound : Mark
  pub matched : Mark
  pub defined : Mark
  pub to_bound : Grows m bound
  pub to_matched : Grows bound matched
  pub to_defined : Grows matched defined
  pub to_end : Grows defined m'
  pub binding : AllocatedBinding (bound_anew x) final ps m bound r.0
  pub matches : AllocatedPat (pat.Bind r.0 None) None final ps bound matched pattern
  pub defines : PatWrites (defining r.0 pattern) final ps matched defined tt
  pub read : NameRead x.name x.hygiene final ps defined m' value
  pub is : r.1 ≡ let_from pattern value ∷ []

correct_rebind : (x : Binding) → Correct (forms.rebind_form x) (ReboundAs x)
unfolding forms.rebind_form
correct_rebind x = correct_as (correct_bind (correct_alloc_binding (bound_anew x))
    (λ i. correct_bind (correct_alloc_pat (pat.Bind i None) None) (λ p. correct_bind (correct_define i p)
    (λ u. correct_bind (correct_name x.name x.hygiene) (λ e. correct_pure (i, let_from p e ∷ []))))))
    (λ final ps m m' r g row.
    let two = row.second in let three = two.second in let four = three.second in rw (four.second.is, four.second.still) (record {
      pattern = two.one;
      value = four.one;
      bound = row.middle;
      matched = two.middle;
      defined = three.middle;
      to_bound = row.before;
      to_matched = two.before;
      to_defined = three.before;
      to_end = four.before;
      binding = row.first;
      matches = two.first;
      defines = three.first;
      read = four.first;
      is = refl;
    }))

-- where there is a binding of that number
abbrev pub Rebound : BindingId → Option Binding → Rel (BindingId × List Statement)
Rebound id None = λ final ps m m' r. (r ≡ (id, [])) × (m' ≡ m)
Rebound id (Some x) = ReboundAs x

correct_rebound : (id : BindingId) (x : Option Binding) → Correct (forms.rebound id x) (Rebound id x)
correct_rebound id None = correct_as (correct_pure (id, [])) (λ final ps m m' r g row. (row.is, row.still))
correct_rebound id (Some x) = correct_rebind x

-- the prelude that it begins
abbrev pub self_prelude : List Statement → Prelude
self_prelude ss = record { handed = []; lets = ss }

pub record LetsSelf (id : BindingId) (final : Stored) (ps : List Frame) (m m' : Mark) (r : Option BindingId × Prelude) : Type 0 where
  pub anew : BindingId × List Statement
  pub is : r ≡ (Some anew.0, self_prelude anew.1)
  pub made : Rebound id (binding_at id m.stored) final ps m m' anew

-- where there is one
abbrev pub LetSelf : Option BindingId → Rel (Option BindingId × Prelude)
LetSelf None = λ final ps m m' r. (r ≡ (None, no_prelude)) × (m' ≡ m)
LetSelf (Some id) = LetsSelf id

pub correct_let_self : (self : Option BindingId) → Correct (forms.let_self self) (LetSelf self)
unfolding forms.let_self
correct_let_self None = correct_as (correct_pure (None, no_prelude)) (λ final ps m m' r g row. (row.is, row.still))
correct_let_self (Some id) = correct_as (correct_bind (correct_binding_of id)
    (λ x. correct_bind (correct_rebound id x) (λ r. correct_pure (Some r.0, self_prelude r.1))))
    (λ final ps m m' r g row. let two = row.second in rw two.second.still (record {
      anew = two.one;
      is = two.second.is;
      made = subst (λ x. Rebound id x final ps m two.middle two.one) row.first.is
          (subst (λ k. Rebound id row.one final ps k two.middle two.one) row.first.still two.first);
    }))
