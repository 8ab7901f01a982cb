-- Arguments read back from their list.
use Rattle.std.proofs.Common.{◌≡◌, ◌∙◌, ap, arith, refl, subst, sym, Bool, List, [], ◌∷◌, ◌++◌, length, slice_get, true}
use Rattle.std.proofs.Common.{Option, Some, None, option_and_then, option_map}
use Rattle.std.proofs.lemmas.List.{append-nil, append_assoc, length-append}
use Rattle.hir_store.specs.Generics.{of_args, of_binding}
use Rattle.hir_store.specs.declared.ids.TypeRefId.{TypeRefId}
use Rattle.hir_store.specs.declared.name.Name.{Name}
use Rattle.hir_store.specs.declared.name.Name.TheVariants.{Missing}
use Rattle.hir_store.specs.declared.path.AssociatedTypeBinding.{AssociatedTypeBinding}
use Rattle.hir_store.specs.declared.path.AssociatedTypeBinding.TheFolds as folds
use Rattle.hir_store.specs.declared.path.AssociatedTypeBinding.TheOpen.{AssociatedTypeBinding-F, GenericArgs-F}
use Rattle.hir_store.specs.declared.path.AssociatedTypeBinding.TheViews.{roll-AssociatedTypeBinding, roll-GenericArgs}
use Rattle.hir_store.specs.declared.path.GenericArg.{GenericArg}
use Rattle.hir_store.specs.declared.path.GenericArgs.{GenericArgs}
use Rattle.hir_store.specs.declared.path.GenericArgsParentheses.{GenericArgsParentheses}
use Rattle.hir_store.specs.declared.path.GenericArgsParentheses.TheVariants.{No}
use Rattle.hir_store.specs.declared.type_ref.TypeBound.{TypeBound}
use Rattle.thm_result_json.specs.Arguments.{Behind, FlatArgs, FlatBinding, all_bindings, all_from, args_behind, args_from, args_step}
use Rattle.thm_result_json.specs.Arguments.{binding_behind, binding_from, binding_step, bindings_from, flat_list, last_of, args_of_flat}

-- lists

then_map : {A B : Type 0} (f : A → B) (o : Option A) → option_and_then (λ x. Some (f x)) o ≡ option_map f o
then_map f None = refl
then_map f (Some x) = refl

abbrev pushed : List GenericArgs → FlatArgs → Option (List GenericArgs)
pushed made a = option_map (λ x. made ++ x ∷ []) (args_from made a)

then_same : {A B : Type 0} (f g : A → Option B) (o : Option A) → ((x : A) → f x ≡ g x) → option_and_then f o ≡ option_and_then g o
then_same f g None h = refl
then_same f g (Some x) h = h x

then_then : {A B C : Type 0} (f : A → Option B) (g : B → Option C) (o : Option A)
    → option_and_then (λ x. option_and_then g (f x)) o ≡ option_and_then g (option_and_then f o)
then_then f g None = refl
then_then f g (Some x) = refl

from_more : (made : List GenericArgs) (xs : List FlatArgs) (a : FlatArgs)
    → all_from made (xs ++ a ∷ []) ≡ option_and_then (λ m. pushed m a) (all_from made xs)
from_more made [] a = then_map (λ x. made ++ x ∷ []) (args_from made a)
from_more made (x ∷ xs) a =
    then_same (λ y. all_from (made ++ y ∷ []) (xs ++ a ∷ [])) (λ y. option_and_then (λ m. pushed m a) (all_from (made ++ y ∷ []) xs))
    (args_from made x) (λ y. from_more (made ++ y ∷ []) xs a)
    ∙ then_then (λ y. all_from (made ++ y ∷ []) xs) (λ m. pushed m a) (args_from made x)

get_end : {A : Type 0} (xs : List A) (x : A) (later : List A) → slice_get (xs ++ x ∷ [] ++ later) (length xs) ≡ Some x
get_end [] x later = refl
get_end (y ∷ xs) x later = get_end xs x later

last_end : {A : Type 0} (xs : List A) (x : A) → last_of (xs ++ x ∷ []) ≡ Some x
last_end [] x = refl
last_end (y ∷ []) x = refl
last_end (y ∷ z ∷ xs) x = last_end (z ∷ xs) x

-- what stands in front, and what was made of it
record Built (before : List FlatArgs) (made : List GenericArgs) : Type 0 where
  is : all_from [] before ≡ Some made
  as_many : length made ≡ length before

built_more : {before : List FlatArgs} {made : List GenericArgs} (a : FlatArgs) (g : GenericArgs) → Built before made
    → args_from made a ≡ Some g → Built (before ++ a ∷ []) (made ++ g ∷ [])
built_more {before} {made} a g b reads = record {
  is = from_more [] before a ∙ (ap (option_and_then (λ m. pushed m a)) b.is ∙ ap (option_map (λ x. made ++ x ∷ [])) reads);
  as_many = omega (arith, b.as_many, length-append made (g ∷ []), length-append before (a ∷ []));
}

-- What stands there now reads back, and the binding does by that and by what comes later.
record ReadsBinding (b : AssociatedTypeBinding) (made : List GenericArgs) (r : List FlatArgs × FlatBinding) : Type 0 where
  now : List GenericArgs
  more : List GenericArgs
  extends : now ≡ made ++ more
  built : Built r.0 now
  reads : (later : List GenericArgs) → binding_from (now ++ later) r.1 ≡ Some b

record ReadsBindings (bs : List AssociatedTypeBinding) (made : List GenericArgs) (r : List FlatArgs × List FlatBinding) : Type 0 where
  now : List GenericArgs
  more : List GenericArgs
  extends : now ≡ made ++ more
  built : Built r.0 now
  reads : (later : List GenericArgs) → bindings_from (now ++ later) r.1 ≡ Some bs

record ReadsArgs (a : GenericArgs) (made : List GenericArgs) (r : List FlatArgs × FlatArgs) : Type 0 where
  now : List GenericArgs
  more : List GenericArgs
  extends : now ≡ made ++ more
  built : Built r.0 now
  reads : args_from now r.1 ≡ Some a

abbrev BindingReads : AssociatedTypeBinding → Type 0
BindingReads b = (before : List FlatArgs) (made : List GenericArgs) → Built before made → ReadsBinding b made (binding_behind b before)

abbrev ArgsRead : GenericArgs → Type 0
ArgsRead a = (before : List FlatArgs) (made : List GenericArgs) → Built before made → ReadsArgs a made (args_behind a before)

-- one level

abbrev mapped : {A B C D : Type 0} → (A → C) → (B → D) → List A → List C
mapped {A} {B} {C} {D} f g xs =
    (folds.map-GenericArgs A B C D f g (record { args = []; has_self_type = true; bindings = xs; parenthesized = No })).bindings

abbrev one_mapped : {A B C D : Type 0} → (A → C) → (B → D) → Option B → Option D
one_mapped {A} {B} {C} {D} f g x =
    (folds.map-AssociatedTypeBinding A B C D f g (record { name = Missing; args = x; type_ref = None; bounds = [] })).args

module _ {E E' : Type 0} (f : E → AssociatedTypeBinding) (g : E' → GenericArgs) (hf : (e : E) → BindingReads (f e))
    (hg : (e : E') → ArgsRead (g e)) where
  binding_reads_at : (name : Name) (o : Option E') (type_ref : Option TypeRefId) (bounds : List TypeBound) (before : List FlatArgs)
      (made : List GenericArgs) → Built before made
      → ReadsBinding (of_binding name (one_mapped f g o) type_ref bounds) made
      (binding_step (record {
        name = name;
        args = one_mapped binding_behind args_behind (one_mapped f g o);
        type_ref = type_ref;
        bounds = bounds;
      }) before)
  binding_reads_at name None type_ref bounds before made b =
      record { now = made; more = []; extends = sym (append-nil made); built = b; reads = λ later. refl }
  binding_reads_at name (Some e) type_ref bounds before made b =
      let t = hg e before made b in
      record {
        now = t.now ++ g e ∷ [];
        more = t.more ++ g e ∷ [];
        extends = ap (λ m. m ++ g e ∷ []) t.extends ∙ append_assoc made t.more (g e ∷ []);
        built = built_more (args_behind (g e) before).1 (g e) t.built t.reads;
        reads = λ later. ap (λ n. binding_from (t.now ++ g e ∷ [] ++ later)
            (record { name = name; args = Some n; type_ref = type_ref; bounds = bounds })) (sym t.built.as_many)
            ∙ ap (λ x. option_map (λ args. of_binding name args type_ref bounds) (option_map (λ a. Some a) x))
            (get_end t.now (g e) later);
      }

  bindings_read : (es : List E) (before : List FlatArgs) (made : List GenericArgs) → Built before made
      → ReadsBindings (mapped f g es) made (all_bindings (mapped binding_behind args_behind (mapped f g es)) before)
  bindings_read [] before made b =
      record { now = made; more = []; extends = sym (append-nil made); built = b; reads = λ later. refl }
  bindings_read (e ∷ es) before made b =
      let t = hf e before made b in
      let u = bindings_read es (binding_behind (f e) before).0 t.now t.built in
      let rest = (all_bindings (mapped binding_behind args_behind (mapped f g es)) (binding_behind (f e) before).0).1 in
      let first = (binding_behind (f e) before).1 in
      record {
        now = u.now;
        more = t.more ++ u.more;
        extends = u.extends ∙ (ap (λ m. m ++ u.more) t.extends ∙ append_assoc made t.more u.more);
        built = u.built;
        reads = λ later.
            ap (λ o. option_and_then (λ x. option_map (λ xs. x ∷ xs) (bindings_from (u.now ++ later) rest)) o)
            (ap (λ m. binding_from (m ++ later) first) u.extends
            ∙ (ap (λ m. binding_from m first) (append_assoc t.now u.more later) ∙ t.reads (u.more ++ later)))
            ∙ ap (option_map (λ xs. f e ∷ xs)) (u.reads later);
      }

  args_read_at : (args : List GenericArg) (self : Bool) (es : List E) (parens : GenericArgsParentheses) (before : List FlatArgs)
      (made : List GenericArgs) → Built before made
      → ReadsArgs (roll-GenericArgs (record { args = args; has_self_type = self; bindings = mapped f g es; parenthesized = parens })) made
      (args_step (record {
        args = args;
        has_self_type = self;
        bindings = mapped binding_behind args_behind (mapped f g es);
        parenthesized = parens;
      }) before)
  args_read_at args self es parens before made b =
      let u = bindings_read es before made b in
      let own = (all_bindings (mapped binding_behind args_behind (mapped f g es)) before).1 in
      record {
        now = u.now;
        more = u.more;
        extends = u.extends;
        built = u.built;
        reads = ap (option_map (λ bs. of_args args self bs parens))
            (ap (λ m. bindings_from m own) (sym (append-nil u.now)) ∙ u.reads []);
      }

-- all levels

binding_reads : {E E' : Type 0} (y : AssociatedTypeBinding-F E E') (f : E → AssociatedTypeBinding) (g : E' → GenericArgs)
    → ((e : E) → BindingReads (f e)) → ((e : E') → ArgsRead (g e))
    → BindingReads (roll-AssociatedTypeBinding (folds.map-AssociatedTypeBinding E E' AssociatedTypeBinding GenericArgs f g y))
unfolding args_behind binding_behind
binding_reads {E} {E'} y f g hf hg before made b =
    let x = folds.map-AssociatedTypeBinding E E' AssociatedTypeBinding GenericArgs f g y in
    subst (λ r. ReadsBinding (roll-AssociatedTypeBinding x) made (r before))
    (sym (folds.fold-roll-AssociatedTypeBinding (Behind FlatBinding) (Behind FlatArgs) binding_step args_step x))
    (binding_reads_at f g hf hg y.name y.args y.type_ref y.bounds before made b)

args_reads : {E E' : Type 0} (y : GenericArgs-F E E') (f : E → AssociatedTypeBinding) (g : E' → GenericArgs)
    → ((e : E) → BindingReads (f e)) → ((e : E') → ArgsRead (g e))
    → ArgsRead (roll-GenericArgs (folds.map-GenericArgs E E' AssociatedTypeBinding GenericArgs f g y))
unfolding args_behind binding_behind
args_reads {E} {E'} y f g hf hg before made b =
    let x = folds.map-GenericArgs E E' AssociatedTypeBinding GenericArgs f g y in
    subst (λ r. ReadsArgs (roll-GenericArgs x) made (r before))
    (sym (folds.fold-roll-GenericArgs (Behind FlatBinding) (Behind FlatArgs) binding_step args_step x))
    (args_read_at f g hf hg y.args y.has_self_type y.bindings y.parenthesized before made b)

args_read : (a : GenericArgs) → ArgsRead a
args_read = folds.ind-GenericArgs BindingReads ArgsRead
    (λ x y is. subst (λ z. BindingReads (roll-AssociatedTypeBinding z)) is (binding_reads y (λ e. e.0) (λ e. e.0) (λ e. e.1) (λ e. e.1)))
    (λ x y is. subst (λ z. ArgsRead (roll-GenericArgs z)) is (args_reads y (λ e. e.0) (λ e. e.0) (λ e. e.1) (λ e. e.1)))

-- the arguments are the last of their list
pub flat_back : (a : GenericArgs) → args_of_flat (flat_list a) ≡ Some a
flat_back a =
    let t = args_read a [] [] (record { is = refl; as_many = refl }) in
    ap (option_and_then last_of) ((built_more (args_behind a []).1 a t.built t.reads).is) ∙ last_end t.now a
