-- What is stored for types, bounds and arguments reads back: a line for each kind, of what its parts read back as.
use Rattle.std.proofs.Common.{◌≡◌, ◌∙◌, refl, sym, ap, ℕ, ◌≤◌, Bool, true, false, List, [], ◌∷◌, ◌++◌, append-nil, append_assoc, arith}
use Rattle.std.specs.Prelude.{map, Option, Some, None, option_map}
use Rattle.hir_store.specs.Pointers.{Pointer}
use Rattle.hir_store.specs.Stored.{Stored, store_of, map_of}
use Rattle.hir_store.specs.Generics.{of_binding}
use Rattle.hir_store.specs.declared.ids.TypeRefId.{TypeRefId}
use Rattle.hir_store.specs.declared.ids.LifetimeRefId.{LifetimeRefId}
use Rattle.hir_store.specs.declared.hir.Mutability.{Mutability}
use Rattle.hir_store.specs.declared.name.Name.{Name}
use Rattle.hir_store.specs.declared.path.GenericArg.{GenericArg}
use Rattle.hir_store.specs.declared.path.GenericArg.TheVariants as arg
use Rattle.hir_store.specs.declared.path.GenericArgs.{GenericArgs}
use Rattle.hir_store.specs.declared.path.GenericArgsParentheses.TheVariants as parens
use Rattle.hir_store.specs.declared.path.AssociatedTypeBinding.{AssociatedTypeBinding}
use Rattle.hir_store.specs.declared.type_ref.ConstRef.{ConstRef}
use Rattle.hir_store.specs.declared.type_ref.TypeRef.TheVariants as ty
use Rattle.hir_store.specs.declared.type_ref.TypeBound.{TypeBound}
use Rattle.hir_store.specs.declared.type_ref.TypeBound.TheVariants as bound
use Rattle.hir_store.specs.declared.type_ref.UseArgRef.{UseArgRef}
use Rattle.hir_store.specs.declared.type_ref.UseArgRef.TheVariants as use_arg
use Rattle.hir_env.specs.declared.ctx.ImplTrait.{ImplTrait}
use Rattle.hir_env.specs.declared.ctx.ImplTrait.TheVariants as becomes
use Rattle.hir_env.specs.NodeMap.{Site}
use Rattle.hir_env.specs.ResolvedTree as tree
use Rattle.hir_env.specs.ResolvedTree.{Lifetime, Binder, FnHead, UseRead, TypeLeaf, TypeUnary}
use Rattle.hir_lower_builder.specs.declared.args.ArgLists.{ArgLists}
use Rattle.hir_lower_builder.specs.Lowering.{Lowering, ◌>>=◌, pure, alloc_type}
use Rattle.hir_lower_builder.specs.Paths.{parens_form, segment_args_form, or_else, or_notation, sugared_args, output_name}
use Rattle.hir_lower_builder.specs.Types.{error_type, unit_type, lower_lifetime, lower_lifetime_option, lower_use, lower_uses}
use Rattle.hir_lower_builder.specs.Types.{stored_leaf_type, over_form, tuple_type_form, ref_type_form, stored_fn}
use Rattle.hir_lower_builder.specs.Types.{array_type_form}
use Rattle.hir_lower_builder.specs.Types.{fn_type_form}
use Rattle.hir_lower_builder.specs.Types.{impl_type_form, dyn_type_form, yielded, binding_form, add_arg, add_binding, no_lists}
use Rattle.thm_logic.proofs.Frames.{Frame}
use Rattle.thm_logic.proofs.Tracked.{correct_becoming, correct_tracked}
use Rattle.thm_logic.proofs.Steps.{Mark, Rel, Correct, correct_bind, correct_as, correct_pure}
use Rattle.thm_logic.proofs.TypeSteps.{correct_alloc_type, correct_alloc_lifetime}
use Rattle.spec_data.specs.Data as datum
use Rattle.spec_data.specs.Data.{LifetimeData, TypeData, typed, OptionTypeData, TypesData, OptionArgsData, no_args}
use Rattle.spec_data.specs.Data.{some_args}
use Rattle.spec_data.specs.Data.{args_data, ArgumentsData, BindingData, BindingsData, BoundsData}
use Rattle.spec_data.specs.Written as written
use Rattle.spec_data.specs.Reading as reading
use Rattle.spec_data.specs.Reading.{Readers}
use Rattle.thm_round_trip.proofs.Layers.{a_constant}
use Rattle.thm_round_trip.proofs.Layers.{Layer, a_lifetime, maybe_lifetime, a_use, many_uses, a_type, types_before, maybe_type}
use Rattle.thm_round_trip.proofs.Layers.{a_bound, a_shape, many_bounds, arguments_before, a_binding, bindings_before, a_list, within, Reads}
use Rattle.thm_round_trip.proofs.Layers.{value0, value1, Pushed, pushed_all, none_read, more_read, type_at, type0, type1, type2}
use Rattle.thm_round_trip.proofs.Generics.{args_roll, binding_roll}

-- lifetimes

pub lifetime_reads : (l : Lifetime) → Correct (lower_lifetime l) (Reads a_lifetime (written.lifetime_data l))
unfolding lower_lifetime
lifetime_reads l = correct_tracked _ (correct_as (correct_alloc_lifetime l.lifetime (Some l.pointer))
    (λ final ps m m' i g at. record { is = λ d le. rw (at.number, at.here, at.from) refl }))

pub lifetime_option_reads : (l : Option Lifetime)
    → Correct (lower_lifetime_option l) (Reads maybe_lifetime (option_map written.lifetime_data l))
lifetime_option_reads None = value0 {l = maybe_lifetime} None (λ final r. refl)
lifetime_option_reads (Some l) = value1 {k = maybe_lifetime} Some Some (lifetime_reads l) (λ final r a. refl)

use_reads : (u : UseRead) → Correct (lower_use u) (Reads a_use (written.use_data u))
use_reads (tree.used_name n) = value0 {l = a_use} (use_arg.Name n) (λ final r. refl)
use_reads (tree.used_lifetime l) = value1 {k = a_use} use_arg.Lifetime datum.lifetime_used (lifetime_reads l) (λ final r a. refl)

uses_pushed : (us : List UseRead) (done : List UseArgRef)
    → Correct (lower_uses done us) (Pushed done (Reads many_uses (map written.use_data us)))
uses_pushed [] done = none_read many_uses (λ final r. refl) done
uses_pushed (u ∷ us) done =
    more_read {l = a_use} {ls = many_uses} (λ x xs. x ∷ xs) (λ final r a as'. refl) (use_reads u) (uses_pushed us) done

pub uses_bound_reads : (us : List UseRead)
    → Correct (lower_uses [] us >>= (λ xs. pure (bound.Use xs))) (Reads a_bound (datum.use_bound (map written.use_data us)))
uses_bound_reads us = value1 {k = a_bound} bound.Use datum.use_bound (pushed_all (uses_pushed us [])) (λ final r a. refl)

-- types

pub error_type_reads : Correct error_type (Reads a_type written.absent_data)
unfolding error_type
error_type_reads = type0 ty.Error None (λ final r. refl)

pub unit_type_reads : Correct unit_type (Reads a_type written.unit_data)
unfolding unit_type
unit_type_reads = type0 (ty.Tuple []) None (λ final r. refl)

pub leaf_reads : (at : Pointer) (l : TypeLeaf)
    → Correct (alloc_type (stored_leaf_type l) (Some at)) (Reads a_type (typed (Some at) (written.leaf_shape l)))
leaf_reads at tree.never_leaf = type0 ty.Never (Some at) (λ final r. refl)
leaf_reads at tree.infer_leaf = type0 ty.Placeholder (Some at) (λ final r. refl)

pub over_reads : {x : TypeData} {p : Lowering TypeRefId} (at : Pointer) (u : TypeUnary) → Correct p (Reads a_type x)
    → Correct (over_form at u p) (Reads a_type (typed (Some at) (written.unary_shape u x)))
unfolding over_form
over_reads at (tree.pointer_to m) h = type1 (Some at) (λ t. ty.RawPtr t m) (datum.pointer_shape m) h (λ final r a. refl)
over_reads at tree.slice_of h = type1 (Some at) ty.Slice datum.slice_shape h (λ final r a. refl)

-- the length is lowered first
pub array_reads : {x : TypeData} {y : Option Site} {p : Lowering ConstRef} {q : Lowering TypeRefId} (at : Pointer)
    → Correct p (Reads a_constant y) → Correct q (Reads a_type x)
    → Correct (array_type_form at p q) (Reads a_type (typed (Some at) (datum.array_shape x y)))
unfolding array_type_form
array_reads at h k = type2 (Some at) (λ n t. ty.Array (record { ty = t; len = n })) (λ y x. datum.array_shape x y) h k
    (λ final r a b. refl)

pub tuple_reads : {x : TypesData} {p : Lowering (List TypeRefId)} (at : Pointer) → Correct p (Reads (types_before datum.no_types) x)
    → Correct (tuple_type_form at p) (Reads a_type (typed (Some at) (datum.tuple_shape x)))
unfolding tuple_type_form
tuple_reads at h = type1 (Some at) ty.Tuple datum.tuple_shape h (λ final r a. refl)

pub ref_reads : {x : TypeData} {y : Option LifetimeData} {p : Lowering TypeRefId} {q : Lowering (Option LifetimeRefId)} (at : Pointer)
    (m : Mutability) → Correct p (Reads a_type x) → Correct q (Reads maybe_lifetime y)
    → Correct (ref_type_form at m p q) (Reads a_type (typed (Some at) (datum.reference_shape x y m)))
unfolding ref_type_form
ref_reads at m h k = type2 (Some at) (λ t l. ty.Reference (record { ty = t; lifetime = l; mutability = m }))
    (λ x y. datum.reference_shape x y m) h k (λ final r a b. refl)

-- what it answers stands behind its parameters, and is lowered before them
types_append : (final : Stored) (r : Readers) (ts us : List TypeRefId) (behind : TypesData)
    → types_before behind final r (ts ++ us) ≡ types_before (types_before behind final r us) final r ts
types_append final r [] us behind = refl
types_append final r (t ∷ ts) us behind = ap (datum.more_types (r.type t)) (types_append final r ts us behind)

pub fn_reads : {x : TypeData} {y : TypesData} {p : Lowering (List TypeRefId)} {q : Lowering TypeRefId}
    (at : Pointer) (b : Option Binder) (h : FnHead)
    → Correct q (Reads a_type x) → Correct p (Reads (types_before (datum.more_types x datum.no_types)) y)
    → Correct (fn_type_form at b h p q) (Reads a_type (typed (Some at) (datum.fn_shape h b y)))
unfolding fn_type_form
fn_reads {x = x} at b h ret params =
    correct_as (correct_bind ret (λ t. correct_bind params (λ ts. correct_alloc_type (stored_fn b h (ts ++ t ∷ [])) (Some at))))
    (λ final ps m m' i g row. let s = row.second in
    type_at s.second (λ d le. ap (datum.fn_shape h b)
    (types_append final (within final d) s.one (row.one ∷ []) datum.no_types
    ∙ (ap (λ t. types_before (datum.more_types t datum.no_types) final (within final d) s.one)
    (row.first.is d (omega (le, s.before.entries, arith)))
    ∙ s.first.is d le))))

pub impl_reads : {x : BoundsData} {p : Lowering (List TypeBound)} (at : Pointer) (mode : ImplTrait) → Correct p (Reads many_bounds x)
    → Correct (impl_type_form at mode p) (Reads a_type (typed (Some at) (written.impl_shape_of mode x)))
unfolding impl_type_form
impl_reads at becomes.Error h = type1 (Some at) (λ bs. ty.Error) (λ x. datum.error_shape) h (λ final r a. refl)
impl_reads at becomes.Opaque h = type1 (Some at) ty.ImplTrait datum.impl_shape h (λ final r a. refl)
impl_reads {x = x} at (becomes.Argument def) h = correct_as
    (correct_bind h (λ bs. correct_becoming at (becomes.Argument def) bs (λ t is.
    type0 {x = written.impl_shape_of (becomes.Argument def) x} t (Some at) (λ final r. ap (a_shape final r) is.1))))
    (λ final ps m m' i g row. record { is = row.second.is })

pub dyn_reads : {x : BoundsData} {p : Lowering (List TypeBound)} (at : Pointer) → Correct p (Reads many_bounds x)
    → Correct (dyn_type_form at p) (Reads a_type (typed (Some at) (datum.dyn_shape x)))
unfolding dyn_type_form
dyn_reads at h = type1 (Some at) ty.DynTrait datum.dyn_shape h (λ final r a. refl)

pub present_reads : {x : TypeData} {p : Lowering TypeRefId} → Correct p (Reads a_type x)
    → Correct (p >>= (λ t. pure (Some t))) (Reads maybe_type (datum.some_type x))
present_reads h = value1 {k = maybe_type} Some datum.some_type h (λ final r a. refl)

pub types_none : (behind : TypesData) (done : List TypeRefId) → Correct (pure done) (Pushed done (Reads (types_before behind) behind))
types_none behind done = none_read (types_before behind) (λ final r. refl) done

pub types_more : {x : TypeData} {y : TypesData} {p : Lowering TypeRefId} {q : List TypeRefId
    → Lowering (List TypeRefId)} (behind : TypesData)
    → Correct p (Reads a_type x) → ((done : List TypeRefId) → Correct (q done) (Pushed done (Reads (types_before behind) y)))
    → (done : List TypeRefId)
    → Correct (p >>= (λ t. q (done ++ t ∷ []))) (Pushed done (Reads (types_before behind) (datum.more_types x y)))
types_more behind h k done = more_read {l = a_type} {ls = types_before behind} datum.more_types (λ final r a as'. refl) h k done

-- bounds

pub lifetime_bound_reads : (l : Lifetime)
    → Correct (lower_lifetime l >>= (λ i. pure (bound.Lifetime i))) (Reads a_bound (datum.lifetime_bound (written.lifetime_data l)))
lifetime_bound_reads l = value1 {k = a_bound} bound.Lifetime datum.lifetime_bound (lifetime_reads l) (λ final r a. refl)

pub bounds_none : (done : List TypeBound) → Correct (pure done) (Pushed done (Reads many_bounds datum.no_bounds))
bounds_none done = none_read many_bounds (λ final r. refl) done

pub bounds_more : {x : datum.BoundData} {y : BoundsData} {p : Lowering TypeBound} {q : List TypeBound → Lowering (List TypeBound)}
    → Correct p (Reads a_bound x) → ((done : List TypeBound) → Correct (q done) (Pushed done (Reads many_bounds y)))
    → (done : List TypeBound) → Correct (p >>= (λ b. q (done ++ b ∷ []))) (Pushed done (Reads many_bounds (datum.more_bounds x y)))
bounds_more h k done = more_read {l = a_bound} {ls = many_bounds} datum.more_bounds (λ final r a as'. refl) h k done

-- lists of arguments, which grow in two

pub record Grown (l : ArgLists) (f : ArgumentsData → ArgumentsData) (g : BindingsData → BindingsData)
    (final : Stored) (ps : List Frame) (m m' : Mark) (r : ArgLists) : Type 0 where
  pub args : List GenericArg
  pub bindings : List AssociatedTypeBinding
  pub args_are : r.args ≡ l.args ++ args
  pub bindings_are : r.bindings ≡ l.bindings ++ bindings
  pub args_read : (d : ℕ) → m'.entries ≤ d → (x : ArgumentsData) → arguments_before x final (within final d) args ≡ f x
  pub bindings_read : (d : ℕ) → m'.entries ≤ d → (y : BindingsData) → bindings_before y final (within final d) bindings ≡ g y

pub skipped_grown : (l : ArgLists) → Correct (pure l) (Grown l (λ x. x) (λ y. y))
skipped_grown l = correct_as (correct_pure l) (λ final ps m m' r g row. rw row.is (record {
  args = [];
  bindings = [];
  args_are = sym (append-nil l.args);
  bindings_are = sym (append-nil l.bindings);
  args_read = λ d le x. refl;
  bindings_read = λ d le y. refl;
}))

-- an argument of one part
pub argument_grown : {A D : Type 0} {k : Layer A D} {x : D} {p : Lowering A} (l : ArgLists) (con : A → GenericArg) (f : D
    → datum.ArgumentData)
    → Correct p (Reads k x)
    → ((final : Stored) (r : Readers) (a : A) → reading.argument_layer (store_of final) (map_of final) r (con a) ≡ f (k final r a))
    → Correct (p >>= (λ a. pure (add_arg l (con a)))) (Grown l (λ y. datum.more_arguments (f x) y) (λ y. y))
argument_grown l con f h e = correct_as (correct_bind h (λ a. correct_pure (add_arg l (con a))))
    (λ final ps m m' r g row. rw (row.second.is, row.second.still) (record {
      args = con row.one ∷ [];
      bindings = [];
      args_are = refl;
      bindings_are = sym (append-nil l.bindings);
      args_read = λ d le y. ap (λ z. datum.more_arguments z y) (e final (within final d) row.one ∙ ap f (row.first.is d le));
      bindings_read = λ d le y. refl;
    }))

or_notation_read : (final : Stored) (r : Readers) (a : Option GenericArgs) (dots : Bool)
    → a_list final r (or_notation a dots) ≡ written.first_list (a_list final r a) (written.notation dots)
or_notation_read final r None false = refl
or_notation_read final r None true = ap some_args (args_roll (store_of final) (map_of final) r [] false [] parens.ReturnTypeNotation)
or_notation_read final r (Some a) dots = refl

pub binding_reads : {x : OptionArgsData} {y : OptionTypeData} {z : BoundsData} {p : Lowering (Option GenericArgs)}
    {q : Lowering (Option TypeRefId)} {s : Lowering (List TypeBound)} (n : Name) (dots : Bool)
    → Correct p (Reads a_list x) → Correct q (Reads maybe_type y) → Correct s (Reads many_bounds z)
    → Correct (binding_form n dots p q s) (Reads a_binding (datum.binding_data n (written.first_list x (written.notation dots)) y z))
unfolding binding_form
binding_reads {x = x} {y = y} {z = z} n dots hp hq hs =
    correct_as (correct_bind hp (λ a. correct_bind hq (λ t. correct_bind hs
    (λ bs. correct_pure (of_binding n (or_notation a dots) t bs)))))
    (λ final ps m m' r g row. let s = row.second in let u = s.second in rw (u.second.is, u.second.still) (record {
      is = λ d le. binding_roll (store_of final) (map_of final) (within final d) n (or_notation row.one dots) s.one u.one
          ∙ (λ j. datum.binding_data n
          ((or_notation_read final (within final d) row.one dots
          ∙ ap (λ v. written.first_list v (written.notation dots))
          (row.first.is d (omega (le, s.before.entries, u.before.entries, arith)))) j)
          (s.first.is d (omega (le, u.before.entries, arith)) j) (u.first.is d le j));
    }))

pub binding_grown : {x : BindingData} {p : Lowering AssociatedTypeBinding} (l : ArgLists) → Correct p (Reads a_binding x)
    → Correct (p >>= (λ b. pure (add_binding l b))) (Grown l (λ w. w) (λ w. datum.more_bindings x w))
binding_grown l h = correct_as (correct_bind h (λ b. correct_pure (add_binding l b)))
    (λ final ps m m' r g row. rw (row.second.is, row.second.still) (record {
      args = [];
      bindings = row.one ∷ [];
      args_are = sym (append-nil l.args);
      bindings_are = refl;
      args_read = λ d le w. refl;
      bindings_read = λ d le w. ap (λ b. datum.more_bindings b w) (row.first.is d le);
    }))

-- all that a list yields
pub record Listed (l : ArgLists) (x : ArgumentsData) (y : BindingsData)
    (final : Stored) (ps : List Frame) (m m' : Mark) (r : ArgLists) : Type 0 where
  pub args : List GenericArg
  pub bindings : List AssociatedTypeBinding
  pub args_are : r.args ≡ l.args ++ args
  pub bindings_are : r.bindings ≡ l.bindings ++ bindings
  pub args_read : (d : ℕ) → m'.entries ≤ d → arguments_before datum.no_arguments final (within final d) args ≡ x
  pub bindings_read : (d : ℕ) → m'.entries ≤ d → bindings_before datum.no_bindings final (within final d) bindings ≡ y

pub none_listed : (l : ArgLists) → Correct (pure l) (Listed l datum.no_arguments datum.no_bindings)
none_listed l = correct_as (skipped_grown l) (λ final ps m m' r g row. record {
  args = row.args;
  bindings = row.bindings;
  args_are = row.args_are;
  bindings_are = row.bindings_are;
  args_read = λ d le. row.args_read d le datum.no_arguments;
  bindings_read = λ d le. row.bindings_read d le datum.no_bindings;
})

arguments_append : (final : Stored) (r : Readers) (as' bs : List GenericArg) (behind : ArgumentsData)
    → arguments_before behind final r (as' ++ bs) ≡ arguments_before (arguments_before behind final r bs) final r as'
arguments_append final r [] bs behind = refl
arguments_append final r (a ∷ as') bs behind =
    ap (datum.more_arguments (reading.argument_layer (store_of final) (map_of final) r a)) (arguments_append final r as' bs behind)

bindings_append : (final : Stored) (r : Readers) (as' bs : List AssociatedTypeBinding) (behind : BindingsData)
    → bindings_before behind final r (as' ++ bs) ≡ bindings_before (bindings_before behind final r bs) final r as'
bindings_append final r [] bs behind = refl
bindings_append final r (a ∷ as') bs behind =
    ap (datum.more_bindings (reading.binding_layer (store_of final) (map_of final) r a)) (bindings_append final r as' bs behind)

pub more_listed : {f : ArgumentsData → ArgumentsData} {g : BindingsData → BindingsData} {x : ArgumentsData} {y : BindingsData}
    {p : Lowering ArgLists} {q : ArgLists → Lowering ArgLists} (l : ArgLists)
    → Correct p (Grown l f g) → ((k : ArgLists) → Correct (q k) (Listed k x y)) → Correct (p >>= q) (Listed l (f x) (g y))
more_listed {f = f} {g = g} l h k = correct_as (correct_bind h k) (λ final ps m m' r grows row.
    let one = row.first in let rest = row.second in record {
      args = one.args ++ rest.args;
      bindings = one.bindings ++ rest.bindings;
      args_are = rest.args_are ∙ (ap (λ as'. as' ++ rest.args) one.args_are ∙ append_assoc l.args one.args rest.args);
      bindings_are = rest.bindings_are
          ∙ (ap (λ bs. bs ++ rest.bindings) one.bindings_are ∙ append_assoc l.bindings one.bindings rest.bindings);
      args_read = λ d le. arguments_append final (within final d) one.args rest.args datum.no_arguments
          ∙ (one.args_read d (omega (le, row.after.entries, arith)) _ ∙ ap f (rest.args_read d le));
      bindings_read = λ d le. bindings_append final (within final d) one.bindings rest.bindings datum.no_bindings
          ∙ (one.bindings_read d (omega (le, row.after.entries, arith)) _ ∙ ap g (rest.bindings_read d le));
    })

yielded_read : (final : Stored) (r : Readers) (as' : List GenericArg) (bs : List AssociatedTypeBinding)
    → a_list final r (yielded (record { args = as'; bindings = bs }))
    ≡ written.yielded (arguments_before datum.no_arguments final r as') (bindings_before datum.no_bindings final r bs)
yielded_read final r [] [] = refl
yielded_read final r [] (b ∷ bs) = ap some_args (args_roll (store_of final) (map_of final) r [] false (b ∷ bs) parens.No)
yielded_read final r (a ∷ as') [] = ap some_args (args_roll (store_of final) (map_of final) r (a ∷ as') false [] parens.No)
yielded_read final r (a ∷ as') (b ∷ bs) = ap some_args (args_roll (store_of final) (map_of final) r (a ∷ as') false (b ∷ bs) parens.No)

pub list_reads : {x : ArgumentsData} {y : BindingsData} {p : Lowering ArgLists} → Correct p (Listed no_lists x y)
    → Correct (p >>= (λ l. pure (yielded l))) (Reads a_list (written.yielded x y))
list_reads h = correct_as (correct_bind h (λ l. correct_pure (yielded l)))
    (λ final ps m m' r g row. let one = row.first in rw (row.second.is, row.second.still) (record {
      is = λ d le. (λ j. a_list final (within final d) (yielded (record { args = one.args_are j; bindings = one.bindings_are j })))
          ∙ (yielded_read final (within final d) one.args one.bindings
          ∙ (λ j. written.yielded (one.args_read d le j) (one.bindings_read d le j)));
    }))

-- what stands behind a name

pub parens_reads : {x : TypesData} {y : TypeData} {p : Lowering (List TypeRefId)} {q : Lowering TypeRefId}
    → Correct p (Reads (types_before datum.no_types) x) → Correct q (Reads a_type y)
    → Correct (parens_form p q) (Reads a_list (written.function_args x y))
unfolding parens_form
parens_reads {x = x} {y = y} hp hq =
    correct_as (correct_bind hp (λ ts. correct_bind (correct_alloc_type (ty.Tuple ts) None) (λ t. correct_bind hq
    (λ o. correct_pure (Some (sugared_args t o))))))
    (λ final ps m m' r g row. let s = row.second in let u = s.second in rw (u.second.is, u.second.still) (record {
      is = λ d le.
          let tuple = type_at {m0 = m} s.first (λ n ge. ap datum.tuple_shape (row.first.is n ge)) in
          ap some_args (args_roll (store_of final) (map_of final) (within final d) (arg.Type_ s.one ∷ []) false
          (of_binding output_name None (Some u.one) [] ∷ []) parens.ParenSugar
          ∙ (λ j. args_data
          (datum.more_arguments (datum.type_argument (tuple.is d (omega (le, u.before.entries, arith)) j)) datum.no_arguments) false
          (datum.more_bindings ((binding_roll (store_of final) (map_of final) (within final d) output_name None (Some u.one) []
          ∙ ap (λ t. datum.binding_data output_name no_args (datum.some_type t) datum.no_bounds) (u.first.is d le)) j) datum.no_bindings)
          parens.ParenSugar));
    }))

-- the next is lowered where nothing is there
abbrev OrElse : Option GenericArgs → OptionArgsData → Rel (Option GenericArgs)
OrElse None y final ps m m' r = Reads a_list y final ps m m' r
OrElse (Some a) y final ps m m' r = (r ≡ Some a) × (m' ≡ m)

or_else_reads : {y : OptionArgsData} {q : Lowering (Option GenericArgs)} (a : Option GenericArgs) → Correct q (Reads a_list y)
    → Correct (or_else a q) (OrElse a y)
or_else_reads None h = h
or_else_reads (Some a) h = correct_as (correct_pure (Some a)) (λ final ps m m' r g row. (row.is, row.still))

pub segment_args_reads : {x y : OptionArgsData} {p q : Lowering (Option GenericArgs)} (dots : Bool)
    → Correct p (Reads a_list x) → Correct q (Reads a_list y)
    → Correct (segment_args_form p q dots) (Reads a_list (written.first_list x (written.first_list y (written.notation dots))))
unfolding segment_args_form
segment_args_reads {x = x} {y = y} dots hp hq =
    correct_as (correct_bind hp (λ a. correct_bind (or_else_reads a hq) (λ r. correct_pure (or_notation r dots))))
    (λ final ps m m' r g row. let s = row.second in rw (s.second.is, s.second.still) (record {
      is = λ d le. go final ps row.middle s.middle row.one s.one s.first d le (row.first.is d (omega (le, s.before.entries, arith)));
    }))
  where
    go : (final : Stored) (ps : List Frame) (m m' : Mark) (a r : Option GenericArgs) → OrElse a y final ps m m' r → (d : ℕ) → m'.entries ≤ d
        → a_list final (within final d) a ≡ x
        → a_list final (within final d) (or_notation r dots) ≡ written.first_list x (written.first_list y (written.notation dots))
    go final ps m m' None r h d le e =
        or_notation_read final (within final d) r dots
        ∙ (ap (λ v. written.first_list v (written.notation dots)) (h.is d le)
        ∙ ap (λ v. written.first_list v (written.first_list y (written.notation dots))) e)
    go final ps m m' (Some a) r h d le e =
        ap (λ v. a_list final (within final d) (or_notation v dots)) h.0
        ∙ ap (λ v. written.first_list v (written.first_list y (written.notation dots))) e
