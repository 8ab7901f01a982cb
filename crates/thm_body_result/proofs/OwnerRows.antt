-- What owns the bindings of small trees.
use Rattle.std.proofs.Common.{◌≡◌, ◌∙◌, ap, subst, suc, ℕ, Bool, false, map, List, [], ◌∷◌, ◌++◌, Option, Some, None}
use Rattle.hir_store.specs.Stored.{Store, SourceMap}
use Rattle.hir_store.specs.declared.hir.CoroutineKind.{CoroutineKind}
use Rattle.hir_store.specs.declared.hir.Statement.{Statement}
use Rattle.hir_store.specs.declared.ids.BindingId.{BindingId}
use Rattle.hir_store.specs.declared.ids.ExprId.{ExprId}
use Rattle.hir_store.specs.declared.ids.PatId.{PatId}
use Rattle.hir_store.specs.declared.ids.TypeRefId.{TypeRefId}
use Rattle.hir_store.specs.declared.type_ref.ConstRef.{ConstRef}
use Rattle.hir_lower_scope.specs.ScopeRibs.{barrier_rib}
use Rattle.hir_env.specs.ResolvedTree as tree
use Rattle.hir_env.specs.ResolvedTree.{OptionArgs, OptionPath}
use Rattle.spec_data.specs.Data.{PatData}
use Rattle.spec_data.specs.Patterns.{written_pat}
use Rattle.spec_data.specs.Examples.{whole}
use Rattle.spec_semantics.specs.Small.{at}
use Rattle.thm_body_result.specs.Formals.{Given}
use Rattle.thm_body_result.specs.Leads.{Mapping, binding_mapping, expr_mapping, unled_mapping, mapping_after, owned_mapping}
use Rattle.thm_body_result.specs.OneResult.{CorrespondsBody}
use Rattle.thm_body_result.specs.Corresponds.{ArgsMappings, Open, PresentTypeMappings, ReadsAsType, Corresponds, CorrespondsConstant}
use Rattle.thm_body_result.specs.Corresponds.{CorrespondsParams}
use Rattle.thm_body_result.specs.Corresponds.{WholeMappings}
use Rattle.thm_body_result.specs.CorrespondsMade.{StoredParams}
use Rattle.thm_body_result.specs.CorrespondsPreludes.{Named, CorrespondsHanded, CorrespondsLets}
use Rattle.thm_body_result.specs.CorrespondsWhole.{CorrespondsTop}
use Rattle.thm_body_result.specs.Examples.{braces, closure_of, let_x, letter, lets_x, literal_part, param_x, self_and_x, with_argument}
use Rattle.thm_body_result.specs.Examples.{x_at}
use Rattle.thm_body_result.specs.ExampleOwners.{HasMappings, OwnersStand}
use Rattle.thm_body_result.specs.ExamplePreludes.{coroutine_closure_of, only, plain_x}
use Rattle.thm_body_result.proofs.PreludeRows.{single}

-- those of the one, and those of the other
pub both : {ws ls rs us vs : List Mapping} → ws ≡ ls ++ rs → ls ≡ us → rs ≡ vs → ws ≡ us ++ vs
both is e f = is ∙ (λ j. e j ++ f j)

-- the same where an expression owns what nothing in it owns
owned : (i : ExprId) {ws us vs : List Mapping} → ws ≡ map (owned_mapping i) us → us ≡ vs → ws ≡ map (owned_mapping i) vs
owned i e f = e ∙ ap (λ us. map (owned_mapping i) us) f

module _ (store : Store) (source_map : SourceMap) (rs : Open) where
  -- a name that is bound
  top : (n : ℕ) (q : PatId) (ws : List Mapping) → CorrespondsTop store source_map rs (tree.some_pat (x_at n)) q ws
      → (b : BindingId) × (ws ≡ binding_mapping b None ∷ [])
  top n q ws h = let y = h.2 in (y.0, both y.3.is y.3.first.1 y.3.second.1)

  -- no type
  untyped : (y : Option TypeRefId) (ws : List Mapping)
      → ReadsAsType store source_map tree.no_type (PresentTypeMappings store source_map rs tree.no_type) y ws → ws ≡ []
  untyped y ws h = both h.is h.first h.second.1

  -- `{ let x; }`
  block : (i : ExprId) (ws : List Mapping) → Corresponds store source_map rs (braces let_x) i ws
      → (b : BindingId) × (ws ≡ binding_mapping b None ∷ expr_mapping (at 9) i ∷ [])
  block i ws h =
      let c = h.5.first.6 in
      let p = c.first in
      let t = p.second in
      let x = top 8 h.5.first.0 p.left p.first in
      let no_type = untyped h.5.first.1 t.left t.first in
      let parts = both p.is x.1 (both t.is no_type (both t.second.is t.second.first.1 t.second.second.1)) in
      (x.0, both h.5.is (both c.is parts c.second.1.1) h.5.second)

  -- `x` between bars
  params : (l : StoredParams) (ws : List Mapping) → CorrespondsParams store source_map rs param_x l ws
      → (b : BindingId) × (ws ≡ binding_mapping b None ∷ [])
  params l ws h =
      let c = h.4 in
      let x = top 8 h.0 c.first.left c.first.first in
      (x.0, both c.is (both c.first.is x.1 (untyped h.1 c.first.right c.first.second)) c.second.1)

module _ (store : Store) (source_map : SourceMap) (rs : Open) where
  -- `|| { let x; }`
  closure : (i : ExprId) (ws : List Mapping) → Corresponds store source_map rs (closure_of tree.no_params lets_x) i ws
      → (b : BindingId) × (inner : ExprId) × (ws ≡ binding_mapping b (Some i) ∷ expr_mapping (at 9) inner ∷ expr_mapping (at 5) i ∷ [])
  closure i ws x =
      let h = x.2.4 in
      let t = h.second in
      let e = t.second in
      let b = block store source_map (barrier_rib ∷ rs) x.2.2 e.left e.first in
      let no_type = untyped store source_map (barrier_rib ∷ rs) x.2.1 t.left t.first in
      (b.0, x.2.2, owned i x.1 (both h.is h.first.1 (both t.is no_type (both e.is b.1 e.second))))

  -- `{ let x; }` as a length or an argument
  constant : (n : ConstRef) (ws : List Mapping) → CorrespondsConstant store source_map rs (tree.constant lets_x) n ws
      → (b : BindingId) × (ws ≡ binding_mapping b (Some n.expr) ∷ expr_mapping (at 9) n.expr ∷ [])
  constant n ws c = let b = block store source_map (barrier_rib ∷ rs) n.expr c.0 c.2 in (b.0, owned n.expr c.1 b.1)

-- closures, constants

of_closures : HasMappings (closure_of param_x (tree.some_expr (closure_of tree.no_params lets_x))) (λ i ws.
    (b : BindingId) × (c : BindingId) × (block : ExprId) × (inner : ExprId)
    × (ws ≡ binding_mapping b (Some i) ∷ binding_mapping c (Some inner) ∷ expr_mapping (at 9) block ∷ expr_mapping (at 5) inner
    ∷ expr_mapping (at 5) i ∷ []))
of_closures store source_map i ws x =
    let h = x.2.4 in
    let t = h.second in
    let e = t.second in
    let p = params store source_map (barrier_rib ∷ []) x.2.0 h.left h.first in
    let no_type = untyped store source_map (barrier_rib ∷ []) x.2.1 t.left t.first in
    let k = closure store source_map (barrier_rib ∷ []) x.2.2 e.left e.first in
    (p.0, k.0, k.1, x.2.2, owned i x.1 (both h.is p.1 (both t.is no_type (both e.is k.2 e.second))))

-- `{ let x; }` between angle brackets
abbrev arguments : OptionArgs
arguments = tree.some_arg_list (tree.more_args (tree.const_arg (tree.constant lets_x)) tree.no_args)

abbrev path : OptionPath
path = whole (tree.name_segment (letter 97) tt (tree.segment_args arguments tree.no_parens false)) []

arguments_own : (store : Store) (source_map : SourceMap) (ws : List Mapping) → ArgsMappings store source_map [] arguments ws
    → (b : BindingId) × (block : ExprId) × (ws ≡ binding_mapping b (Some block) ∷ expr_mapping (at 9) block ∷ [])
arguments_own store source_map ws h =
    let c = constant store source_map [] h.first.0 h.left h.first.1 in
    (c.0, h.first.0.expr, both h.is c.1 h.second)

path_owns : (store : Store) (source_map : SourceMap) (ws : List Mapping) → WholeMappings store source_map [] path ws
    → (b : BindingId) × (block : ExprId) × (ws ≡ binding_mapping b (Some block) ∷ expr_mapping (at 9) block ∷ [])
path_owns store source_map ws h =
    let c = arguments_own store source_map h.first.second.left h.first.second.first in
    (c.0, c.1, both h.is (both h.first.is h.first.first (both h.first.second.is c.2 h.first.second.second)) h.second)

of_argument : HasMappings with_argument (λ i ws.
    (b : BindingId) × (block : ExprId) × (ws ≡ binding_mapping b (Some block) ∷ expr_mapping (at 9) block ∷ expr_mapping (at 2) i ∷ []))
of_argument store source_map i ws h =
    let p = path_owns store source_map h.left h.first in
    (p.0, p.1, both h.is p.2 h.second.2.1)

of_const : HasMappings (tree.const_expr (at 2) (tree.constant lets_x)) (λ i ws.
    (b : BindingId) × (block : ExprId) × (ws ≡ binding_mapping b (Some i) ∷ expr_mapping (at 9) block ∷ expr_mapping (at 2) i ∷ []))
of_const store source_map i ws x =
    let h = x.2.2 in
    let c = h.first in
    let b = block store source_map (barrier_rib ∷ []) x.2.0.expr c.0 c.2 in
    (b.0, x.2.0.expr, owned i x.1 (both h.is (c.1 ∙ ap (λ vs. map (mapping_after (at 2)) vs) b.1) h.second))

-- coroutines

module _ (store : Store) (source_map : SourceMap) (n : ℕ) where
  abbrev shape : PatData
  shape = written_pat (tree.some_pat (x_at n))

  -- the one name that is read in front of the body, and the one pattern that the outside hands it to
  handed_one : (xs : List Named) (is fs : List PatId) (ss : List Statement) (ws vs : List Mapping)
      → CorrespondsLets store source_map xs (shape ∷ []) is ss ws → CorrespondsHanded store source_map xs (shape ∷ []) fs vs
      → (read : ExprId) × (formal : BindingId) × (ws ≡ unled_mapping read ∷ []) × (vs ≡ binding_mapping formal None ∷ [])
  handed_one xs is fs ss ws vs h k =
      let one = single store source_map shape xs is ss ws h in
      let lets = subst (λ js. CorrespondsLets store source_map (one.0 ∷ []) (shape ∷ []) js ss ws) one.3
      (subst (λ ys. CorrespondsLets store source_map ys (shape ∷ []) is ss ws) one.2 h) in
      let handed = subst (λ ys. CorrespondsHanded store source_map ys (shape ∷ []) fs vs) one.2 k in
      let own = lets.4.first in
      let bind = handed.3.first in
      (own.0, bind.0, both lets.4.is own.2.1 lets.4.second.1, both handed.3.is bind.3 handed.3.second.1)

of_coroutine_closure : (kind : CoroutineKind) (moves : Bool)
    → HasMappings (coroutine_closure_of kind moves (only plain_x) (literal_part 1)) (λ i ws. (b : BindingId) × (formal : BindingId)
    × (body : ExprId) × (read : ExprId) × (block : ExprId) × (coroutine : ExprId) × (suc coroutine.0 ≡ i.0)
    × (ws ≡ binding_mapping b (Some coroutine) ∷ expr_mapping (at 1) body ∷ unled_mapping read ∷ unled_mapping block
    ∷ unled_mapping coroutine
    ∷ binding_mapping formal (Some i) ∷ expr_mapping (at 0) i ∷ []))
of_coroutine_closure kind moves store source_map i ws x =
    let h = x.2 in
    let all = h.11 in
    let within = all.first.2 in
    let t = within.second in
    let e = t.second in
    let front = e.second in
    let behind = all.second in
    let p = params store source_map (barrier_rib ∷ []) h.0 within.left within.first in
    let no_type = untyped store source_map (barrier_rib ∷ []) h.1 t.left t.first in
    let l = handed_one store source_map 8 h.3 h.0.0 h.7 h.4 front.left behind.left front.first behind.first in
    let made = both front.is l.2 (both front.second.is front.second.first front.second.second) in
    let parts = both within.is p.1 (both t.is no_type (both e.is e.first.2.1 made)) in
    let whole = both all.is (owned h.6 all.first.1 parts) (both behind.is l.3 behind.second) in
    (p.0, l.1, h.2, l.0, h.5, h.6, h.9, owned i x.1 whole)

of_function : (kind : CoroutineKind) (store : Store) (source_map : SourceMap) (given : Given) (i : ExprId) (ws : List Mapping)
    → CorrespondsBody store source_map [] (Some kind) false self_and_x (literal_part 3) given i ws
    → (outer : BindingId) × (b : BindingId) × (inner : BindingId) × (formal : BindingId) × (body : ExprId) × (own : ExprId)
    × (read : ExprId) × (block : ExprId) × (given.0.0 ≡ Some outer) × (given.1.0 ≡ Some inner)
    × (ws ≡ binding_mapping outer None ∷ binding_mapping b (Some i) ∷ expr_mapping (at 3) body ∷ binding_mapping inner (Some i)
    ∷ unled_mapping own
    ∷ unled_mapping read ∷ unled_mapping block ∷ unled_mapping i ∷ binding_mapping formal None ∷ [])
of_function kind store source_map given i ws h =
    let all = h.6 in
    let own = all.first in
    let behind = all.second in
    let within = behind.first.2 in
    let tops = within.first in
    let e = within.second in
    let s = e.second in
    let again = s.first in
    let front = s.second in
    let p = top store source_map [] 2 tops.0 tops.3.left tops.3.first in
    let l = handed_one store source_map 2 h.2 given.1.1 given.0.1 h.3 front.left behind.right front.first behind.second in
    let made = both front.is l.2 (both front.second.is front.second.first front.second.second) in
    let begun = both again.7.is again.7.first again.7.second.1 in
    let parts = both within.is (both tops.3.is p.1 tops.3.second.1) (both e.is e.first.2.1 (both s.is begun made)) in
    let whole = both all.is own.3 (both behind.is (owned i behind.first.1 parts) l.3) in
    (own.0, p.0, again.0, l.1, h.0, again.2, l.0, h.4, own.1, again.3, whole)

pub owners_stand : OwnersStand
owners_stand = record {
  of_closures = of_closures;
  of_argument = of_argument;
  of_const = of_const;
  of_coroutine_closure = of_coroutine_closure;
  of_function = of_function;
}
