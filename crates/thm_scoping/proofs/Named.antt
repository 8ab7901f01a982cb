-- What an entry of a store names stands in front of it, read off from what lies past all that it names.
use Rattle.std.proofs.Common.{arith, ◌≡◌, ◌∙◌, refl, sym, ap, subst, ◌<◌, ◌≤◌, ℕ, zero, suc, max, List, [], ◌∷◌, ◌++◌, length, map, take}
use Rattle.std.proofs.Common.{Option, Some, None, option_to_list, slice_get, true}
use Rattle.std.specs.List.{flat_map}
use Rattle.hir_store.specs.Arenas.{past}
use Rattle.hir_store.specs.Parts.{Parts, no_parts, type_and, lifetime_and, args_and, and_then, inside_args, of_arg, of_args, of_binding}
use Rattle.hir_store.specs.Parts.{of_bound, of_each, of_present, of_type, of_use}
use Rattle.hir_store.specs.Past as of
use Rattle.hir_store.specs.Past.{join, past_arg_lists, past_args, past_arms, past_binding, past_bindings, past_bounds, past_generic}
use Rattle.hir_store.specs.Past.{past_pat, past_pat_fields, past_pat_id, past_pat_ids, past_path, past_present, past_statement}
use Rattle.hir_store.specs.Past.{past_statements, past_type_id}
use Rattle.hir_store.specs.Range.{past_definition, past_expr, pats_in as pats_named}
use Rattle.hir_store.specs.Stored.{Store}
use Rattle.hir_store.specs.declared.hir.Expr.{Expr}
use Rattle.hir_store.specs.declared.hir.Expr.TheVariants as hir
use Rattle.hir_store.specs.declared.hir.MatchArm.{MatchArm}
use Rattle.hir_store.specs.declared.hir.Statement.{Statement}
use Rattle.hir_store.specs.declared.hir.Statement.TheVariants as statement
use Rattle.hir_store.specs.declared.ids.ExprId.{ExprId}
use Rattle.hir_store.specs.declared.ids.PatId.{PatId}
use Rattle.hir_store.specs.declared.ids.TypeRefId.{TypeRefId}
use Rattle.hir_store.specs.declared.name.Name.TheVariants.{Missing}
use Rattle.hir_store.specs.declared.pat.Pat.{Pat}
use Rattle.hir_store.specs.declared.pat.Pat.TheVariants as pat
use Rattle.hir_store.specs.declared.pat.RecordFieldPat.{RecordFieldPat}
use Rattle.hir_store.specs.declared.path.AssociatedTypeBinding.{AssociatedTypeBinding}
use Rattle.hir_store.specs.declared.path.AssociatedTypeBinding.TheFolds as folds
use Rattle.hir_store.specs.declared.path.AssociatedTypeBinding.TheOpen.{AssociatedTypeBinding-F, GenericArgs-F}
use Rattle.hir_store.specs.declared.path.AssociatedTypeBinding.TheViews.{out-AssociatedTypeBinding, out-GenericArgs}
use Rattle.hir_store.specs.declared.path.AssociatedTypeBinding.TheViews.{out-roll-AssociatedTypeBinding, out-roll-GenericArgs}
use Rattle.hir_store.specs.declared.path.AssociatedTypeBinding.TheViews.{roll-AssociatedTypeBinding, roll-GenericArgs}
use Rattle.hir_store.specs.declared.path.GenericArg.{GenericArg}
use Rattle.hir_store.specs.declared.path.GenericArg.TheVariants as arg
use Rattle.hir_store.specs.declared.path.GenericArgs.{GenericArgs}
use Rattle.hir_store.specs.declared.path.GenericArgsParentheses.TheVariants.{No}
use Rattle.hir_store.specs.declared.path.Path.{Path}
use Rattle.hir_store.specs.declared.path.Path.TheVariants.{BarePath, Normal, LangItem}
use Rattle.hir_store.specs.declared.type_ref.TypeBound.{TypeBound}
use Rattle.hir_store.specs.declared.type_ref.TypeBound.TheVariants as bound
use Rattle.hir_store.specs.declared.type_ref.UseArgRef.{UseArgRef}
use Rattle.hir_store.specs.declared.type_ref.UseArgRef.TheVariants as use_arg
use Rattle.hir_store.proofs.PartLemmas.{binding_out as parts_of_binding, inside_out as parts_of_args}
use Rattle.hir_walks.specs.Exprs.{arg_constant, arm_pat, args_constants, constants_in, expr_pats, exprs_at, exprs_in_pat, own_constants}
use Rattle.hir_walks.specs.Exprs.{pat_exprs, path_constants, statement_pats}
use Rattle.hir_walks.specs.Pats.{AllBelow, Descends, field_pat, of_found, pat_children, pats_in, pats_to, with_parts}

abbrev pub EachBelow : ℕ → List ExprId → Type 0
EachBelow n [] = Unit {0}
EachBelow n (e ∷ es) = (e.0 < n) × EachBelow n es

pub each_below : (n : ℕ) (es : List ExprId) → past past_expr es ≤ n → EachBelow n es
each_below n [] le = tt
each_below n (e ∷ es) le = (omega (arith, le), each_below n es (omega (arith, le)))

pub all_below : (n : ℕ) (is : List PatId) → past past_definition is ≤ n → AllBelow n is
all_below n [] le = tt
all_below n (i ∷ is) le = (omega (arith, le), all_below n is (omega (arith, le)))

past_both : {A : Type 0} (f : A → ℕ) (xs ys : List A) → past f (xs ++ ys) ≡ max (past f xs) (past f ys)
past_both f [] ys = omega arith
past_both f (x ∷ xs) ys = let more = past_both f xs ys in omega (arith, more)

-- the constants among arguments

abbrev named : Parts → ℕ
named ps = past past_expr (constants_in ps)

named_both : (ps qs : Parts) → named (and_then ps qs) ≡ max (named ps) (named qs)
named_both no_parts qs = omega arith
named_both (type_and t ps) qs = named_both ps qs
named_both (lifetime_and l ps) qs = named_both ps qs
named_both (args_and a inside ps) qs =
    let rest = named_both ps qs in
    let first = past_both past_expr (own_constants a) (constants_in inside ++ constants_in (and_then ps qs)) in
    let second = past_both past_expr (constants_in inside) (constants_in (and_then ps qs)) in
    let before = past_both past_expr (own_constants a) (constants_in inside ++ constants_in ps) in
    let between = past_both past_expr (constants_in inside) (constants_in ps) in
    omega (arith, rest, first, second, before, between)

-- types, lifetimes and bounds have none
none_in_each : {A : Type 0} (f : A → Parts) → ((x : A) → named (f x) ≡ 0) → (xs : List A) → named (of_each f xs) ≡ 0
none_in_each f none [] = refl
none_in_each f none (x ∷ xs) =
    let both = named_both (f x) (of_each f xs) in
    let one = none x in
    let more = none_in_each f none xs in
    omega (arith, both, one, more)

none_in_arg : (a : GenericArg) → named (of_arg a) ≡ 0
none_in_arg (arg.Type_ t) = refl
none_in_arg (arg.Lifetime l) = refl
none_in_arg (arg.Const c) = refl

none_in_use : (u : UseArgRef) → named (of_use u) ≡ 0
none_in_use (use_arg.Name n) = refl
none_in_use (use_arg.Lifetime l) = refl

none_in_bound : (b : TypeBound) → named (of_bound b) ≡ 0
none_in_bound (bound.Path t modifier) = refl
none_in_bound (bound.ForLifetime names t) = refl
none_in_bound (bound.Lifetime l) = refl
none_in_bound (bound.Use us) = none_in_each of_use none_in_use us
none_in_bound bound.Error = refl

own_named : (as' : List GenericArg) → past past_expr (flat_map arg_constant as') ≤ (past_args as').exprs
own_named [] = omega arith
own_named (arg.Type_ t ∷ as') = let more = own_named as' in omega (arith, more)
own_named (arg.Lifetime l ∷ as') = let more = own_named as' in omega (arith, more)
own_named (arg.Const c ∷ as') = let more = own_named as' in omega (arith, more)

-- Arguments and bindings, each in one level of the other.

abbrev mapped : {A B C D : Type 0} → (A → C) → (B → D) → List A → List C
mapped {A} {B} {C} {D} f g xs =
    (folds.map-GenericArgs A B C D f g (record { args = []; has_self_type = true; bindings = xs; parenthesized = No })).bindings

abbrev one_mapped : {A B C D : Type 0} → (A → C) → (B → D) → Option B → Option D
one_mapped {A} {B} {C} {D} f g x =
    (folds.map-AssociatedTypeBinding A B C D f g (record { name = Missing; args = x; type_ref = None; bounds = [] })).args

joined_is : (xs : List AssociatedTypeBinding) → of.joined (mapped past_binding past_generic xs) ≡ past_bindings xs
joined_is [] = refl
joined_is (x ∷ xs) = ap (join (past_binding x)) (joined_is xs)

present_is : (x : Option GenericArgs)
    → past_present (λ p. p) (one_mapped past_binding past_generic x) ≡ past_present past_generic x
present_is None = refl
present_is (Some x) = refl

past_of_args : (a : GenericArgs) → let o = out-GenericArgs a in past_generic a ≡ join (past_args o.args) (past_bindings o.bindings)
unfolding past_generic past_binding
past_of_args a =
    folds.fold_out-GenericArgs of.Past of.Past of.binding_step of.args_step a
    ∙ ap (join (past_args (out-GenericArgs a).args)) (joined_is (out-GenericArgs a).bindings)

past_of_binding : (b : AssociatedTypeBinding) → let o = out-AssociatedTypeBinding b in
    past_binding b ≡ join (past_present past_generic o.args) (join (past_present past_type_id o.type_ref) (past_bounds o.bounds))
unfolding past_generic past_binding
past_of_binding b =
    let o = out-AssociatedTypeBinding b in
    folds.fold_out-AssociatedTypeBinding of.Past of.Past of.binding_step of.args_step b
    ∙ ap (λ p. join p (join (past_present past_type_id o.type_ref) (past_bounds o.bounds))) (present_is o.args)

abbrev ArgsNamed : GenericArgs → Type 0
ArgsNamed a = named (of_args a) ≤ (past_generic a).exprs

abbrev BindingNamed : AssociatedTypeBinding → Type 0
BindingNamed b = named (of_binding b) ≤ (past_binding b).exprs

-- of arguments and bindings as they are in one level
abbrev BindingsIn : GenericArgs-F AssociatedTypeBinding GenericArgs → Type 0
BindingsIn o = named (of_each of_binding o.bindings) ≤ (past_bindings o.bindings).exprs

abbrev ArgsIn : AssociatedTypeBinding-F AssociatedTypeBinding GenericArgs → Type 0
ArgsIn o = named (of_present of_args o.args) ≤ (past_present past_generic o.args).exprs

args_level : (a : GenericArgs) → BindingsIn (out-GenericArgs a) → ArgsNamed a
args_level a inner =
    let o = out-GenericArgs a in
    let own = own_named o.args in
    let inside = ap named (parts_of_args a) in
    let split = named_both (of_each of_arg o.args) (of_each of_binding o.bindings) in
    let none = none_in_each of_arg none_in_arg o.args in
    let first = past_both past_expr (own_constants a) (constants_in (inside_args a) ++ []) in
    let second = past_both past_expr (constants_in (inside_args a)) [] in
    let whole = ap (λ p. p.exprs) (past_of_args a) in
    omega (arith, own, inside, split, none, first, second, whole, inner)

type_none : (t : Option TypeRefId) → named (of_present of_type t) ≡ 0
type_none None = refl
type_none (Some t) = refl

binding_level : (b : AssociatedTypeBinding) → ArgsIn (out-AssociatedTypeBinding b) → BindingNamed b
binding_level b inner =
    let o = out-AssociatedTypeBinding b in
    let is = ap named (parts_of_binding b) in
    let first = named_both (of_present of_args o.args) (and_then (of_present of_type o.type_ref) (of_each of_bound o.bounds)) in
    let second = named_both (of_present of_type o.type_ref) (of_each of_bound o.bounds) in
    let none = type_none o.type_ref in
    let nothing = none_in_each of_bound none_in_bound o.bounds in
    let whole = ap (λ p. p.exprs) (past_of_binding b) in
    omega (arith, is, first, second, none, nothing, whole, inner)

module _ {E E' : Type 0} (f : E → AssociatedTypeBinding) (g : E' → GenericArgs) (hf : (e : E) → BindingNamed (f e))
    (hg : (e : E') → ArgsNamed (g e)) where
  bindings_in : (es : List E) → named (of_each of_binding (mapped f g es)) ≤ (past_bindings (mapped f g es)).exprs
  bindings_in [] = omega arith
  bindings_in (e ∷ es) =
      let both = named_both (of_binding (f e)) (of_each of_binding (mapped f g es)) in
      let one = hf e in
      let more = bindings_in es in
      omega (arith, both, one, more)

  args_in : (o : Option E') → named (of_present of_args (one_mapped f g o)) ≤ (past_present past_generic (one_mapped f g o)).exprs
  args_in None = omega arith
  args_in (Some e) = hg e

binding_named : {E E' : Type 0} (y : AssociatedTypeBinding-F E E') (f : E → AssociatedTypeBinding) (g : E' → GenericArgs)
    → ((e : E) → BindingNamed (f e)) → ((e : E') → ArgsNamed (g e))
    → BindingNamed (roll-AssociatedTypeBinding (folds.map-AssociatedTypeBinding E E' AssociatedTypeBinding GenericArgs f g y))
binding_named {E} {E'} y f g hf hg =
    let x = folds.map-AssociatedTypeBinding E E' AssociatedTypeBinding GenericArgs f g y in
    binding_level (roll-AssociatedTypeBinding x)
    (subst (λ o. ArgsIn o) (sym (out-roll-AssociatedTypeBinding x)) (args_in f g hf hg y.args))

args_named : {E E' : Type 0} (y : GenericArgs-F E E') (f : E → AssociatedTypeBinding) (g : E' → GenericArgs)
    → ((e : E) → BindingNamed (f e)) → ((e : E') → ArgsNamed (g e))
    → ArgsNamed (roll-GenericArgs (folds.map-GenericArgs E E' AssociatedTypeBinding GenericArgs f g y))
args_named {E} {E'} y f g hf hg =
    let x = folds.map-GenericArgs E E' AssociatedTypeBinding GenericArgs f g y in
    args_level (roll-GenericArgs x) (subst (λ o. BindingsIn o) (sym (out-roll-GenericArgs x)) (bindings_in f g hf hg y.bindings))

every_args : (a : GenericArgs) → ArgsNamed a
every_args = folds.ind-GenericArgs BindingNamed ArgsNamed
    (λ x y is. subst (λ z. BindingNamed (roll-AssociatedTypeBinding z)) is (binding_named y (λ e. e.0) (λ e. e.0) (λ e. e.1) (λ e. e.1)))
    (λ x y is. subst (λ z. ArgsNamed (roll-GenericArgs z)) is (args_named y (λ e. e.0) (λ e. e.0) (λ e. e.1) (λ e. e.1)))

lists_named : (ls : List (Option GenericArgs)) → past past_expr (flat_map args_constants ls) ≤ (past_arg_lists ls).exprs
lists_named [] = omega arith
lists_named (None ∷ ls) = let more = lists_named ls in omega (arith, more)
lists_named (Some a ∷ ls) =
    let both = past_both past_expr (args_constants (Some a)) (flat_map args_constants ls) in
    let one = every_args a in
    let more = lists_named ls in
    omega (arith, both, one, more)

path_named : (p : Path) → past past_expr (path_constants p) ≤ (past_path p).exprs
path_named (BarePath p) = omega arith
path_named (Normal p) = let lists = lists_named p.generic_args in omega (arith, lists)
path_named (LangItem i) = omega arith

-- the expressions that a pattern names

side_named : (o : Option ExprId) → past past_expr (option_to_list o) ≤ (past_present of.past_expr_id o).exprs
side_named None = omega arith
side_named (Some e) = omega arith

pat_named : (p : Pat) → past past_expr (pat_exprs p) ≤ (past_pat p).exprs
pat_named pat.Missing = omega arith
pat_named pat.Wild = omega arith
pat_named pat.Rest = omega arith
pat_named pat.NotNull = omega arith
pat_named (pat.Bind id subpat) = omega arith
pat_named (pat.Path p h) = path_named p
pat_named (pat.TupleStruct p ellipsis ps) = let one = path_named p in omega (arith, one)
pat_named (pat.Tuple ellipsis ps) = omega arith
pat_named (pat.Record p fs ellipsis) = let one = path_named p in omega (arith, one)
pat_named (pat.Or ps) = omega arith
pat_named (pat.Slice before middle behind) = omega arith
pat_named (pat.Ref m p) = omega arith
pat_named (pat.Box p) = omega arith
pat_named (pat.Deref p) = omega arith
pat_named (pat.Lit e) = omega arith
pat_named (pat.Range op low high) =
    let both = past_both past_expr (option_to_list low) (option_to_list high) in
    let first = side_named low in
    let last = side_named high in
    omega (arith, both, first, last)
pat_named (pat.Expr e) = omega arith

-- the patterns that a pattern names

ids_named : (ps : List PatId) → past past_definition ps ≡ (past_pat_ids ps).pats
ids_named [] = refl
ids_named (p ∷ ps) = let more = ids_named ps in omega (arith, more)

fields_named : (fs : List RecordFieldPat) → past past_definition (map field_pat fs) ≡ (past_pat_fields fs).pats
fields_named [] = refl
fields_named (f ∷ fs) = let more = fields_named fs in omega (arith, more)

one_named : (o : Option PatId) → past past_definition (option_to_list o) ≡ (past_present past_pat_id o).pats
one_named None = refl
one_named (Some p) = omega arith

pub parts_named : (p : Pat) → past past_definition (pat_children p) ≤ (past_pat p).pats
parts_named pat.Missing = omega arith
parts_named pat.Wild = omega arith
parts_named pat.Rest = omega arith
parts_named pat.NotNull = omega arith
parts_named (pat.Bind id subpat) = let one = one_named subpat in omega (arith, one)
parts_named (pat.Path p h) = omega arith
parts_named (pat.TupleStruct p ellipsis ps) = let more = ids_named ps in omega (arith, more)
parts_named (pat.Tuple ellipsis ps) = let more = ids_named ps in omega (arith, more)
parts_named (pat.Record p fs ellipsis) = let more = fields_named fs in omega (arith, more)
parts_named (pat.Or ps) = let more = ids_named ps in omega (arith, more)
parts_named (pat.Slice before middle behind) =
    let first = past_both past_definition before (option_to_list middle ++ behind) in
    let second = past_both past_definition (option_to_list middle) behind in
    let one = ids_named before in
    let two = one_named middle in
    let three = ids_named behind in
    omega (arith, first, second, one, two, three)
parts_named (pat.Ref m p) = omega arith
parts_named (pat.Box p) = omega arith
parts_named (pat.Deref p) = omega arith
parts_named (pat.Lit e) = omega arith
parts_named (pat.Range op low high) = omega arith
parts_named (pat.Expr e) = omega arith

-- the patterns that an expression names

statement_named : (s : Statement) → past past_definition (statement_pats s) ≤ (past_statement s).pats
statement_named (statement.Let p t i e) = omega arith
statement_named (statement.Expr e semi) = omega arith
statement_named statement.Item = omega arith
statement_named (statement.MacroDef d) = omega arith

statements_named : (ss : List Statement) → past past_definition (flat_map statement_pats ss) ≤ (past_statements ss).pats
statements_named [] = omega arith
statements_named (s ∷ ss) =
    let both = past_both past_definition (statement_pats s) (flat_map statement_pats ss) in
    let one = statement_named s in
    let more = statements_named ss in
    omega (arith, both, one, more)

arms_named : (arms : List MatchArm) → past past_definition (map arm_pat arms) ≤ (past_arms arms).pats
arms_named [] = omega arith
arms_named (a ∷ arms) = let more = arms_named arms in omega (arith, more)

pub expr_pats_named : (f : Expr) → past past_definition (expr_pats f) ≤ pats_named f
expr_pats_named (hir.Let p e) = omega arith
expr_pats_named (hir.Block is_unsafe label id ss tail) = statements_named ss
expr_pats_named (hir.Match e arms) = arms_named arms
expr_pats_named (hir.Assignment target value) = omega arith
expr_pats_named (hir.Closure args arg_types ret_type body kind capture) = let ids = ids_named args in omega (arith, ids)
expr_pats_named f = omega arith

-- all patterns that are inside one

all_append : (n : ℕ) (is js : List PatId) → AllBelow n is → AllBelow n js → AllBelow n (is ++ js)
all_append n [] js p q = q
all_append n (i ∷ is) js p q = (p.0, all_append n is js p.1 q)

all_take : (n k : ℕ) (is : List PatId) → AllBelow n is → AllBelow n (take k is)
all_take n zero is below = tt
all_take n (suc k) [] below = tt
all_take n (suc k) (i ∷ is) below = (below.0, all_take n k is below.1)

all_more : (m n : ℕ) (is : List PatId) → m ≤ n → AllBelow m is → AllBelow n is
all_more m n [] le below = tt
all_more m n (i ∷ is) le below = (omega (arith, le, below.0), all_more m n is le below.1)

all_each : (f : PatId → List PatId) (n : ℕ) → ((j : PatId) → j.0 < n → AllBelow n (f j)) → (js : List PatId) → AllBelow n js
    → AllBelow n (flat_map f js)
all_each f n all [] below = tt
all_each f n all (j ∷ js) below = all_append n (f j) (flat_map f js) (all j below.0) (all_each f n all js below.1)

module _ (store : Store) where
  all_parts : (f : PatId → List PatId) (n : ℕ) → ((j : PatId) → j.0 < n → AllBelow n (f j)) → Descends store → (i : PatId) → i.0 < n
      → (o : Option Pat) → slice_get store.pats i.0 ≡ o → AllBelow n (with_parts store i f o)
  all_parts f n all descends i less None is = tt
  all_parts f n all descends i less (Some p) is =
      (less, all_each f n all (pat_children p) (all_more i.0 n (pat_children p) (omega (arith, less)) (descends i p is)))

  all_within : Descends store → (d n : ℕ) (i : PatId) → i.0 < n → AllBelow n (pats_to store d i)
  unfolding pats_to
  all_within descends zero n i less = tt
  all_within descends (suc d) n i less =
      all_parts (pats_to store d) n (λ j lower. all_within descends d n j lower) descends i less (slice_get store.pats i.0) refl

  -- the expressions that the patterns before one name
  module _ (n m : ℕ) (earlier : (i : ℕ) (p : Pat) → i < m → slice_get store.pats i ≡ Some p → (past_pat p).exprs ≤ n) where
    found_named : (i : PatId) → i.0 < m → (o : Option Pat) → slice_get store.pats i.0 ≡ o → past past_expr (of_found pat_exprs o) ≤ n
    found_named i less None is = omega arith
    found_named i less (Some p) is =
        let one = pat_named p in
        let le = earlier i.0 p less is in
        omega (arith, one, le)

    pats_named_exprs : (is : List PatId) → AllBelow m is → past past_expr (flat_map (exprs_at store) is) ≤ n
    pats_named_exprs [] below = omega arith
    pats_named_exprs (i ∷ is) below =
        let both = past_both past_expr (exprs_at store i) (flat_map (exprs_at store) is) in
        let one = found_named i below.0 (slice_get store.pats i.0) refl in
        let more = pats_named_exprs is below.1 in
        omega (arith, both, one, more)

  pub target_named : Descends store → (n : ℕ) (t : PatId)
      → ((i : ℕ) (p : Pat) → i ≤ t.0 → slice_get store.pats i ≡ Some p → (past_pat p).exprs ≤ n) → EachBelow n (exprs_in_pat store t)
  target_named descends n t earlier = each_below n (exprs_in_pat store t)
      (pats_named_exprs n (suc t.0) (λ i p less is. earlier i p (omega (arith, less)) is) (pats_in store t)
      (all_take (suc t.0) (length store.pats) (pats_to store (length store.pats) t)
      (all_within descends (length store.pats) (suc t.0) t (omega arith))))
