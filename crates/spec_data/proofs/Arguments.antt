-- A list keeps of its arguments what is one, and of its bindings what is one.
use Rattle.std.proofs.Common.{◌≡◌, ◌∙◌, refl, sym, ap, subst, List, [], ◌∷◌, Option, Some, None, Bool, true, false}
use Rattle.std.specs.Prelude.{◌&&◌, not, if◌then◌else◌, map, is_some}
use Rattle.hir_syntax.specs.declared.ast.Name.{Name as AstName}
use Rattle.hir_syntax.specs.declared.ast.Lifetime.{Lifetime as AstLifetime}
use Rattle.hir_syntax.specs.declared.types.GenericArg.{GenericArg as AstGenericArg, out-GenericArg}
use Rattle.hir_syntax.specs.declared.ast.ElseBranch.TheOpen.{GenericArg-F}
use Rattle.hir_syntax.specs.declared.types.AssocTypeArg.{AssocTypeArg as AstAssocTypeArg, out-AssocTypeArg}
use Rattle.hir_env.specs.ResolveCtx.{ResolveCtx}
use Rattle.hir_env.specs.Wrapped.{AstGenericArgList}
use Rattle.hir_env.specs.declared.ctx.LowerCtx.{LowerCtx}
use Rattle.hir_env.specs.ResolvedTree.{OptionArgs, OptionType, Args, Bounds}
use Rattle.hir_env.specs.TypeLayers.{GenericArgLayer}
use Rattle.hir_env.specs.Paths as of
use Rattle.hir_env.specs.Whole.{written, reader, into, read_generic_arg, resolved_arg, resolved_assoc_arg, resolved_arg_list}
use Rattle.hir_env.proofs.PathLevels.{arg_is_level, assoc_arg_is_level}
use Rattle.spec_data.specs.Data.{ArgumentData, ArgumentsData, BindingData, BindingsData}
use Rattle.spec_data.specs.Written.{arguments_of, argument_of, put_argument, bindings_of, binding_of, put_binding}
use Rattle.spec_data.specs.Arguments.{argument_corresponds, arguments_among, kept_args, binding_corresponds, put_written, bindings_among}
use Rattle.spec_data.specs.Arguments.{kept_bindings}
use Rattle.spec_data.specs.Arguments.{arguments_in, bindings_in}

abbrev holds : Bool → Type 0
holds true = Unit {0}
holds false = ⊥

clash : true ≡ false → ⊥
clash h = subst holds h tt

-- one

binding_is_none : (params : Bool) (n : Option AstName) (a : OptionArgs) (dots : Bool) (t : OptionType) (bs : Bounds)
    → argument_of (of.binding_of params n a dots t bs) ≡ None
binding_is_none true n a dots t bs = refl
binding_is_none false None a dots t bs = refl
binding_is_none false (Some n) a dots t bs = refl

assoc_is_none : (at : ResolveCtx) (b : AstAssocTypeArg) → argument_of (resolved_assoc_arg at b) ≡ None
assoc_is_none at b = ap argument_of (assoc_arg_is_level at b)
    ∙ binding_is_none (out-AssocTypeArg b).params (out-AssocTypeArg b).name _ _ _ _

lifetime_is : (p : LowerCtx) (l : Option AstLifetime) → is_some (argument_of (of.lifetime_arg_of p l)) ≡ is_some l
lifetime_is p None = refl
lifetime_is p (Some l) = refl

argument_is : (at : ResolveCtx) (a : AstGenericArg) → is_some (argument_of (resolved_arg at a)) ≡ argument_corresponds (out-GenericArg a)
argument_is at a = ap (λ x. is_some (argument_of x)) (arg_is_level at a) ∙ by (out-GenericArg a)
  where
    by : (x : GenericArgLayer written)
        → is_some (argument_of (of.generic_arg_step at.answers (reader at.answers (into at)) x at.place)) ≡ argument_corresponds x
    by (GenericArg-F.TypeArg x) = refl
    by (GenericArg-F.AssocTypeArg b) = ap is_some (assoc_is_none at b)
    by (GenericArg-F.LifetimeArg x) = lifetime_is at.place x.lifetime
    by (GenericArg-F.ConstArg x) = refl

binding_is : (params : Bool) (n : Option AstName) (a : OptionArgs) (dots : Bool) (t : OptionType) (bs : Bounds)
    → is_some (binding_of (of.binding_of params n a dots t bs)) ≡ (not params && is_some n)
binding_is true n a dots t bs = refl
binding_is false None a dots t bs = refl
binding_is false (Some n) a dots t bs = refl

assoc_is : (at : ResolveCtx) (b : AstAssocTypeArg) → is_some (binding_of (resolved_assoc_arg at b)) ≡ binding_corresponds b
assoc_is at b = ap (λ x. is_some (binding_of x)) (assoc_arg_is_level at b)
    ∙ binding_is (out-AssocTypeArg b).params (out-AssocTypeArg b).name _ _ _ _

lifetime_binds : (p : LowerCtx) (l : Option AstLifetime) → binding_of (of.lifetime_arg_of p l) ≡ None
lifetime_binds p None = refl
lifetime_binds p (Some l) = refl

-- all

put_one : {A : Type 0} (f : A → Option ArgumentData) (a : A) (as' : List A) (xs : ArgumentsData) (b : Bool) → is_some (f a) ≡ b
    → map Some (arguments_in xs) ≡ map f as' → map Some (arguments_in (put_argument (f a) xs)) ≡ map f (if b then a ∷ as' else as')
put_one f a as' xs b h e = by (f a) refl b h
  where
    by : (x : Option ArgumentData) → f a ≡ x → (b : Bool) → is_some x ≡ b
        → map Some (arguments_in (put_argument x xs)) ≡ map f (if b then a ∷ as' else as')
    by None k false g = e
    by (Some x) k true g = λ j. sym k j ∷ e j
    by None k true g = absurd (clash (sym g))
    by (Some x) k false g = absurd (clash g)

put_bound : {A : Type 0} (f : A → Option BindingData) (a : A) (as' : List A) (xs : BindingsData) (b : Bool) → is_some (f a) ≡ b
    → map Some (bindings_in xs) ≡ map f as' → map Some (bindings_in (put_binding (f a) xs)) ≡ map f (if b then a ∷ as' else as')
put_bound f a as' xs b h e = by (f a) refl b h
  where
    by : (x : Option BindingData) → f a ≡ x → (b : Bool) → is_some x ≡ b
        → map Some (bindings_in (put_binding x xs)) ≡ map f (if b then a ∷ as' else as')
    by None k false g = e
    by (Some x) k true g = λ j. sym k j ∷ e j
    by None k true g = absurd (clash (sym g))
    by (Some x) k false g = absurd (clash g)

abbrev listed : ResolveCtx → List AstGenericArg → Args
listed at as' = of.generic_args_of (read_generic_arg at.answers (into at)) as' at.place

all_arguments : (at : ResolveCtx) (as' : List AstGenericArg)
    → map Some (arguments_in (arguments_of (listed at as'))) ≡ map (λ a. argument_of (resolved_arg at a)) (arguments_among as')
all_arguments at [] = refl
all_arguments at (a ∷ as') = put_one (λ x. argument_of (resolved_arg at x)) a (arguments_among as') (arguments_of (listed at as'))
    (argument_corresponds (out-GenericArg a)) (argument_is at a) (all_arguments at as')

abbrev bound : ResolveCtx → AstAssocTypeArg → Option BindingData
bound at b = binding_of (resolved_assoc_arg at b)

one_binding : (at : ResolveCtx) (a : AstGenericArg) (bs : List AstAssocTypeArg) (xs : BindingsData)
    → map Some (bindings_in xs) ≡ map (bound at) bs
    → map Some (bindings_in (put_binding (binding_of (resolved_arg at a)) xs)) ≡ map (bound at) (put_written (out-GenericArg a) bs)
one_binding at a bs xs e = ap (λ x. map Some (bindings_in (put_binding (binding_of x) xs))) (arg_is_level at a) ∙ by (out-GenericArg a)
  where
    by : (x : GenericArgLayer written)
        → map Some (bindings_in (put_binding (binding_of (of.generic_arg_step at.answers (reader at.answers (into at)) x at.place)) xs))
        ≡ map (bound at) (put_written x bs)
    by (GenericArg-F.TypeArg x) = e
    by (GenericArg-F.AssocTypeArg b) = put_bound (bound at) b bs xs (binding_corresponds b) (assoc_is at b) e
    by (GenericArg-F.LifetimeArg x) = ap (λ y. map Some (bindings_in (put_binding y xs))) (lifetime_binds at.place x.lifetime) ∙ e
    by (GenericArg-F.ConstArg x) = e

all_bindings : (at : ResolveCtx) (as' : List AstGenericArg)
    → map Some (bindings_in (bindings_of (listed at as'))) ≡ map (bound at) (bindings_among as')
all_bindings at [] = refl
all_bindings at (a ∷ as') = one_binding at a (bindings_among as') (bindings_of (listed at as')) (all_bindings at as')

pub argument_theorem : (at : ResolveCtx) (l : AstGenericArgList)
    → (map Some (arguments_in (arguments_of (resolved_arg_list at l))) ≡ map (λ a. argument_of (resolved_arg at a)) (kept_args l))
    × (map Some (bindings_in (bindings_of (resolved_arg_list at l))) ≡ map (λ b. binding_of (resolved_assoc_arg at b)) (kept_bindings l))
argument_theorem at l = (all_arguments at l, all_bindings at l)
