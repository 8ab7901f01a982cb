-- What lists and arguments name.
use Rattle.std.proofs.Common.{arith, ◌≡◌, ◌∙◌, refl, sym, ap, Bool, true}
use Rattle.std.proofs.Common.{List, [], ◌∷◌, ◌++◌, Option, Some, None}
use Rattle.hir_store.specs.declared.hir.MatchArm.{MatchArm}
use Rattle.hir_store.specs.declared.hir.Statement.{Statement}
use Rattle.hir_store.specs.declared.pat.RecordFieldPat.{RecordFieldPat}
use Rattle.hir_store.specs.declared.ids.PatId.{PatId}
use Rattle.hir_store.specs.declared.ids.TypeRefId.{TypeRefId}
use Rattle.hir_store.specs.declared.name.Name.{Name}
use Rattle.hir_store.specs.declared.name.Name.TheVariants.{Missing}
use Rattle.hir_store.specs.declared.type_ref.UseArgRef.{UseArgRef}
use Rattle.hir_store.specs.declared.type_ref.TypeBound.{TypeBound}
use Rattle.hir_store.specs.declared.path.GenericArg.{GenericArg}
use Rattle.hir_store.specs.declared.path.GenericArgs.{GenericArgs}
use Rattle.hir_store.specs.declared.path.GenericArg.TheVariants as arg
use Rattle.hir_store.specs.declared.path.GenericArgsParentheses.{GenericArgsParentheses}
use Rattle.hir_store.specs.declared.path.GenericArgsParentheses.TheVariants.{No}
use Rattle.hir_store.specs.declared.path.AssociatedTypeBinding.{AssociatedTypeBinding}
use Rattle.hir_store.specs.declared.path.AssociatedTypeBinding.TheFolds as folds
use Rattle.hir_store.specs.declared.path.AssociatedTypeBinding.TheViews.{out-GenericArgs}
use Rattle.hir_store.specs.Generics.{of_args, of_binding, self_first}
use Rattle.hir_store.specs.Past as of
use Rattle.hir_store.specs.Past.{Past, join}

same_past : {p q : Past} → p.exprs ≡ q.exprs → p.types ≡ q.types → p.lifetimes ≡ q.lifetimes → p.pats ≡ q.pats → p ≡ q
same_past exprs types lifetimes pats =
    λ j. record { exprs = exprs j; types = types j; lifetimes = lifetimes j; pats = pats j }

pub join_assoc : (p q r : Past) → join p (join q r) ≡ join (join p q) r
join_assoc p q r = same_past (omega arith) (omega arith) (omega arith) (omega arith)

pub join_across : (p q r s : Past) → join (join p q) (join r s) ≡ join (join p r) (join q s)
join_across p q r s = same_past (omega arith) (omega arith) (omega arith) (omega arith)

pub join_nothing : (p : Past) → join p of.nothing ≡ join of.nothing p
join_nothing p = same_past (omega arith) (omega arith) (omega arith) (omega arith)

pub each_push : {A : Type 0} (past : A → Past) (xs : List A) (x : A)
    → of.past_each past (xs ++ x ∷ []) ≡ join (of.past_each past xs) (past x)
each_push past [] x = join_nothing (past x)
each_push past (y ∷ xs) x =
    ap (join (past y)) (each_push past xs x) ∙ join_assoc (past y) (of.past_each past xs) (past x)

pub each_append : {A : Type 0} (past : A → Past) (xs ys : List A)
    → of.past_each past (xs ++ ys) ≡ join (of.past_each past xs) (of.past_each past ys)
each_append past [] ys = same_past (omega arith) (omega arith) (omega arith) (omega arith)
each_append past (x ∷ xs) ys =
    ap (join (past x)) (each_append past xs ys) ∙ join_assoc (past x) (of.past_each past xs) (of.past_each past ys)

pub type_ids_push : (xs : List TypeRefId) (x : TypeRefId)
    → of.past_type_ids (xs ++ x ∷ []) ≡ join (of.past_type_ids xs) (of.past_type_id x)
type_ids_push = each_push of.past_type_id

pub type_options_push : (xs : List (Option TypeRefId)) (x : Option TypeRefId)
    → of.past_type_options (xs ++ x ∷ []) ≡ join (of.past_type_options xs) (of.past_present of.past_type_id x)
type_options_push = each_push (of.past_present of.past_type_id)

pub pat_ids_push : (xs : List PatId) (x : PatId)
    → of.past_pat_ids (xs ++ x ∷ []) ≡ join (of.past_pat_ids xs) (of.past_pat_id x)
pat_ids_push = each_push of.past_pat_id

pub pat_fields_push : (xs : List RecordFieldPat) (x : RecordFieldPat)
    → of.past_pat_fields (xs ++ x ∷ []) ≡ join (of.past_pat_fields xs) (of.past_pat_field x)
pat_fields_push = each_push of.past_pat_field

pub statements_push : (xs : List Statement) (x : Statement)
    → of.past_statements (xs ++ x ∷ []) ≡ join (of.past_statements xs) (of.past_statement x)
statements_push = each_push of.past_statement

pub statements_append : (xs ys : List Statement)
    → of.past_statements (xs ++ ys) ≡ join (of.past_statements xs) (of.past_statements ys)
statements_append = each_append of.past_statement

pub arms_push : (xs : List MatchArm) (x : MatchArm) → of.past_arms (xs ++ x ∷ []) ≡ join (of.past_arms xs) (of.past_arm x)
arms_push = each_push of.past_arm

pub args_push : (xs : List GenericArg) (x : GenericArg) → of.past_args (xs ++ x ∷ []) ≡ join (of.past_args xs) (of.past_arg x)
args_push = each_push of.past_arg

pub bindings_push : (xs : List AssociatedTypeBinding) (x : AssociatedTypeBinding)
    → of.past_bindings (xs ++ x ∷ []) ≡ join (of.past_bindings xs) (of.past_binding x)
bindings_push = each_push of.past_binding

pub bounds_push : (xs : List TypeBound) (x : TypeBound) → of.past_bounds (xs ++ x ∷ []) ≡ join (of.past_bounds xs) (of.past_bound x)
bounds_push = each_push of.past_bound

pub use_args_push : (xs : List UseArgRef) (x : UseArgRef)
    → of.past_use_args (xs ++ x ∷ []) ≡ join (of.past_use_args xs) (of.past_use_arg x)
use_args_push = each_push of.past_use_arg

pub arg_lists_push : (xs : List (Option GenericArgs)) (x : Option GenericArgs)
    → of.past_arg_lists (xs ++ x ∷ []) ≡ join (of.past_arg_lists xs) (of.past_present of.past_generic x)
arg_lists_push = each_push (of.past_present of.past_generic)

-- arguments and bindings, each in one level of the other

abbrev mapped : {A B C D : Type 0} → (A → C) → (B → D) → List A → List C
mapped {A} {B} {C} {D} f g xs =
    (folds.map-GenericArgs A B C D f g (record { args = []; has_self_type = true; bindings = xs; parenthesized = No })).bindings

joined_is : (xs : List AssociatedTypeBinding) → of.joined (mapped of.past_binding of.past_generic xs) ≡ of.past_bindings xs
joined_is [] = refl
joined_is (x ∷ xs) = ap (join (of.past_binding x)) (joined_is xs)

abbrev one_mapped : {A B C D : Type 0} → (A → C) → (B → D) → Option B → Option D
one_mapped {A} {B} {C} {D} f g x =
    (folds.map-AssociatedTypeBinding A B C D f g (record { name = Missing; args = x; type_ref = None; bounds = [] })).args

present_is : (x : Option GenericArgs)
    → of.past_present (λ p. p) (one_mapped of.past_binding of.past_generic x) ≡ of.past_present of.past_generic x
present_is None = refl
present_is (Some x) = refl

pub generic_roll : (args : List GenericArg) (self : Bool) (bindings : List AssociatedTypeBinding) (parens : GenericArgsParentheses)
    → of.past_generic (of_args args self bindings parens) ≡ join (of.past_args args) (of.past_bindings bindings)
unfolding of.past_generic of.past_binding
generic_roll args self bindings parens =
    folds.fold-roll-GenericArgs Past Past of.binding_step of.args_step
    (record { args = args; has_self_type = self; bindings = bindings; parenthesized = parens })
    ∙ ap (join (of.past_args args)) (joined_is bindings)

pub binding_roll : (name : Name) (args : Option GenericArgs) (ty : Option TypeRefId) (bounds : List TypeBound)
    → of.past_binding (of_binding name args ty bounds)
    ≡ join (of.past_present of.past_generic args) (join (of.past_present of.past_type_id ty) (of.past_bounds bounds))
unfolding of.past_generic of.past_binding
binding_roll name args ty bounds =
    folds.fold-roll-AssociatedTypeBinding Past Past of.binding_step of.args_step
    (record { name = name; args = args; type_ref = ty; bounds = bounds })
    ∙ ap (λ p. join p (join (of.past_present of.past_type_id ty) (of.past_bounds bounds))) (present_is args)

generic_out : (a : GenericArgs)
    → of.past_generic a ≡ join (of.past_args (out-GenericArgs a).args) (of.past_bindings (out-GenericArgs a).bindings)
unfolding of.past_generic of.past_binding
generic_out a =
    folds.fold_out-GenericArgs Past Past of.binding_step of.args_step a
    ∙ ap (join (of.past_args (out-GenericArgs a).args)) (joined_is (out-GenericArgs a).bindings)

pub self_alone_past : (ty : TypeRefId) → of.past_generic (self_first ty None) ≡ join (of.past_type_id ty) of.nothing
self_alone_past ty = generic_roll (arg.Type_ ty ∷ []) true [] No ∙ same_past (omega arith) (omega arith) (omega arith) (omega arith)

pub self_before_past : (ty : TypeRefId) (a : GenericArgs)
    → of.past_generic (self_first ty (Some a)) ≡ join (of.past_type_id ty) (of.past_generic a)
self_before_past ty a =
    let o = out-GenericArgs a in
    generic_roll (arg.Type_ ty ∷ o.args) true o.bindings o.parenthesized
    ∙ (sym (join_assoc (of.past_type_id ty) (of.past_args o.args) (of.past_bindings o.bindings))
    ∙ ap (join (of.past_type_id ty)) (sym (generic_out a)))
