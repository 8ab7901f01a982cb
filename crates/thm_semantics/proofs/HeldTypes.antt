-- What is stored for types, bounds and arguments holds what their parts hold.
use Rattle.std.proofs.Common.{◌≡◌, ◌∙◌, refl, sym, ap, Bool, true, false, if◌then◌else◌, List, [], ◌∷◌, ◌++◌, append-nil, append_assoc}
use Rattle.std.proofs.Common.{ℕ, ◌+◌, ◌≤◌, Option, Some, None, arith}
use Rattle.hir_store.specs.Pointers.{Pointer}
use Rattle.hir_store.specs.Stored.{Stored}
use Rattle.hir_store.specs.Generics.{of_binding as binding_of_parts}
use Rattle.hir_store.specs.declared.hir.Mutability.{Mutability}
use Rattle.hir_store.specs.declared.ids.PatId.{PatId}
use Rattle.hir_store.specs.declared.ids.TypeRefId.{TypeRefId}
use Rattle.hir_store.specs.declared.name.Name.{Name}
use Rattle.hir_store.specs.declared.path.AssociatedTypeBinding.{AssociatedTypeBinding}
use Rattle.hir_store.specs.declared.path.GenericArg.{GenericArg}
use Rattle.hir_store.specs.declared.path.GenericArg.TheVariants as arg
use Rattle.hir_store.specs.declared.path.GenericArgs.{GenericArgs}
use Rattle.hir_store.specs.declared.path.GenericArgsParentheses.TheVariants as parens
use Rattle.hir_store.specs.declared.path.Path.{Path as HirPath}
use Rattle.hir_store.specs.declared.type_ref.ConstRef.{ConstRef}
use Rattle.hir_store.specs.declared.type_ref.TypeBound.{TypeBound}
use Rattle.hir_store.specs.declared.type_ref.TypeBound.TheVariants as bound
use Rattle.hir_store.specs.declared.type_ref.TypeRef.TheVariants as ty
use Rattle.hir_env.specs.declared.ctx.ImplTrait.{ImplTrait}
use Rattle.hir_env.specs.declared.ctx.ImplTrait.TheVariants as becomes
use Rattle.hir_env.specs.ResolvedTree as tree
use Rattle.hir_env.specs.ResolvedTree.{Binder, FnHead, Lifetime, TypeLeaf, TypeUnary}
use Rattle.spec_data.specs.Data.{OptionArgsData}
use Rattle.spec_data.specs.Rule.{is_list}
use Rattle.hir_lower_builder.specs.declared.args.ArgLists.{ArgLists}
use Rattle.hir_lower_builder.specs.Lowering.{Lowering, ◌>>=◌, pure, alloc_type}
use Rattle.hir_lower_builder.specs.Paths.{parens_form, segment_args_form, or_else, or_notation, sugared_args, output_name}
use Rattle.hir_lower_builder.specs.Types.{TypeSteps, error_type, unit_type, lower_lifetime, lower_lifetime_option}
use Rattle.hir_lower_builder.specs.Types.{stored_leaf_type, stored_over_type, over_form, tuple_type_form, array_type_form, ref_type_form}
use Rattle.hir_lower_builder.specs.Types.{path_or_error, path_type_form, stored_fn, fn_type_form, impl_type_form, dyn_type_form}
use Rattle.hir_lower_builder.specs.Types.{pattern_type_form}
use Rattle.hir_lower_builder.specs.Types.{yielded, binding_form, add_arg, add_binding, no_lists, stored_path_bound, path_bound_of}
use Rattle.hir_lower_builder.specs.Types.{path_bound_form}
use Rattle.spec_semantics.specs.Inner.{Bodies, Inners, all_of, of_present, of_constant, of_arg, of_bound, of_list, of_path, of_type}
use Rattle.spec_semantics.specs.Inner.{if_opaque}
use Rattle.thm_round_trip.proofs.Layers.{a_list, within, Reads}
use Rattle.thm_logic.proofs.Frames.{Frame}
use Rattle.thm_logic.proofs.Steps.{Mark, Grows, Rel, Correct, correct_bind, correct_as, correct_both, correct_pure}
use Rattle.thm_logic.proofs.Steps.{correct_alloc_type}
use Rattle.thm_logic.proofs.Tracked.{correct_becoming}
use Rattle.thm_logic.proofs.TypeAny.{lifetime_any, lifetime_option_any}
use Rattle.thm_semantics.proofs.Holding.{SameIn, inners_in, same_append, same_ids, same_bodies, Ids, nothing, a_type, each, maybe, Holds}
use Rattle.thm_semantics.proofs.Holding.{a_type_pat}
use Rattle.thm_semantics.proofs.Holding.{holds_behind, type_held, type0, type1}
use Rattle.thm_semantics.proofs.HeldArgs.{all_append, of_binding, args_roll, binding_roll}

-- what is held besides types: by a constant, a path, arguments, bounds

abbrev pub a_constant : Ids ConstRef
a_constant r c = of_constant r c

abbrev pub a_path : Ids (Option HirPath)
a_path r p = of_present (of_path r) p

abbrev pub some_args : Ids (Option GenericArgs)
some_args r a = of_list r a

abbrev pub a_bound : Ids TypeBound
a_bound r b = of_bound r b

abbrev pub an_arg : Ids GenericArg
an_arg r a = of_arg r a

abbrev pub a_binding : Ids AssociatedTypeBinding
a_binding r b = of_binding r b

-- a lifetime holds nothing
pub lifetime_held : (l : Lifetime) → Correct (lower_lifetime l) (Holds nothing [])
lifetime_held l = correct_as (lifetime_any l) (λ final ps m m' i g row. record { same = λ d le. tt })

-- types

pub error_held : Correct error_type (Holds a_type [])
unfolding error_type
error_held = type0 ty.Error None (λ r. refl)

pub unit_held : Correct unit_type (Holds a_type [])
unfolding unit_type
unit_held = type0 (ty.Tuple []) None (λ r. refl)

pub leaf_held : (at : Pointer) (l : TypeLeaf) → Correct (alloc_type (stored_leaf_type l) (Some at)) (Holds a_type [])
leaf_held at tree.never_leaf = type0 ty.Never (Some at) (λ r. refl)
leaf_held at tree.infer_leaf = type0 ty.Placeholder (Some at) (λ r. refl)

over_is : (u : TypeUnary) (r : Inners) (t : TypeRefId) → of_type r (stored_over_type u t) ≡ r.type t
over_is (tree.pointer_to m) r t = refl
over_is tree.slice_of r t = refl

path_is : (r : Inners) (p : Option HirPath) → of_type r (path_or_error p) ≡ a_path r p
path_is r None = refl
path_is r (Some p) = refl

module _ (at : Pointer) {es : Bodies} where
  pub over_held : {p : TypeSteps} (u : TypeUnary) → Correct p (Holds a_type es) → Correct (over_form at u p) (Holds a_type es)
  unfolding over_form
  over_held u h = type1 (Some at) (stored_over_type u) (over_is u) h

  pub tuple_held : {p : Lowering (List TypeRefId)} → Correct p (Holds (each a_type) es) → Correct (tuple_type_form at p) (Holds a_type es)
  unfolding tuple_type_form
  tuple_held h = type1 (Some at) ty.Tuple (λ r ts. refl) h

  -- the length is lowered first
  pub array_held : {fs : Bodies} {n : Lowering ConstRef} {t : TypeSteps} → Correct n (Holds a_constant fs) → Correct t (Holds a_type es)
      → Correct (array_type_form at n t) (Holds a_type (es ++ fs))
  unfolding array_type_form
  array_held {fs = fs} h k = correct_as
      (correct_bind h (λ n. correct_bind k (λ t. correct_alloc_type (ty.Array (record { ty = t; len = n })) (Some at))))
      (λ final ps m m' i g row. let s = row.second in type_held s.second (λ d le.
      let r = inners_in final d in same_append final (r.type s.one) (of_constant r row.one) es fs (s.first.same d le)
      (row.first.same d (omega (le, s.before.nodes, s.before.entries, arith)))))

  -- what stands behind it is a pattern of the type
  pub pattern_type_held : {fs : Bodies} {t : TypeSteps} {p : Lowering PatId} → Correct t (Holds a_type es)
      → Correct p (Holds a_type_pat fs) → Correct (pattern_type_form at t p) (Holds a_type (es ++ fs))
  unfolding pattern_type_form
  pattern_type_held {fs = fs} h k = correct_as
      (correct_bind h (λ t. correct_bind k (λ p. correct_alloc_type (ty.Pattern t p) (Some at))))
      (λ final ps m m' i g row. let s = row.second in type_held s.second (λ d le. let r = inners_in final d in
      same_append final (r.type row.one) (r.type_pat s.one) es fs
      (row.first.same d (omega (le, s.before.nodes, s.before.entries, arith))) (s.first.same d le)))

  pub path_type_held : {p : Lowering (Option HirPath)} → Correct p (Holds a_path es) → Correct (path_type_form at p) (Holds a_type es)
  unfolding path_type_form
  path_type_held h = type1 (Some at) path_or_error path_is h

  -- nothing is in the lifetime
  pub ref_held : (m : Mutability) (l : Option Lifetime) {t : TypeSteps} → Correct t (Holds a_type es)
      → Correct (ref_type_form at m t (lower_lifetime_option l)) (Holds a_type es)
  unfolding ref_type_form
  ref_held mutability l h = correct_as
      (correct_bind h (λ t. correct_bind (lifetime_option_any l)
      (λ o. correct_alloc_type (ty.Reference (record { ty = t; lifetime = o; mutability = mutability })) (Some at))))
      (λ final ps m m' i g row. let s = row.second in type_held s.second (λ d le.
      row.first.same d (omega (le, s.before.nodes, s.before.entries, arith))))

  -- what it answers stands behind its parameters, and is lowered before them
  pub fn_held : {fs : Bodies} (b : Option Binder) (h : FnHead) {ts : Lowering (List TypeRefId)} {t : TypeSteps}
      → Correct ts (Holds (each a_type) es) → Correct t (Holds a_type fs) → Correct (fn_type_form at b h ts t) (Holds a_type (es ++ fs))
  unfolding fn_type_form
  fn_held {fs = fs} b head params ret = correct_as
      (correct_bind ret (λ t. correct_bind params (λ ts. correct_alloc_type (stored_fn b head (ts ++ t ∷ [])) (Some at))))
      (λ final ps m m' i g row. let s = row.second in type_held s.second (λ d le.
      let r = inners_in final d in
      same_ids final (es ++ fs) (all_append r.type s.one (row.one ∷ [])
      ∙ ap (λ is. all_of r.type s.one ++ is) (append-nil (r.type row.one)))
      (same_append final (all_of r.type s.one) (r.type row.one) es fs (s.first.same d le)
      (row.first.same d (omega (le, s.before.nodes, s.before.entries, arith))))))

  pub dyn_held : {bs : Lowering (List TypeBound)} → Correct bs (Holds (each a_bound) es) → Correct (dyn_type_form at bs) (Holds a_type es)
  unfolding dyn_type_form
  dyn_held h = type1 (Some at) ty.DynTrait (λ r bs. refl) h

  -- the bounds of an `impl` that is an error or a parameter aren't held
  pub impl_held : (mode : ImplTrait) {bs : Lowering (List TypeBound)} → Correct bs (Holds (each a_bound) es)
      → Correct (impl_type_form at mode bs) (Holds a_type (if_opaque mode es))
  unfolding impl_type_form
  impl_held becomes.Error h = holds_behind h (λ bs. type0 ty.Error (Some at) (λ r. refl))
  impl_held becomes.Opaque h = type1 (Some at) ty.ImplTrait (λ r bs. refl) h
  impl_held (becomes.Argument def) h = holds_behind h (λ bs. correct_becoming at (becomes.Argument def) bs
      (λ t is. type0 t (Some at) (λ r. ap (of_type r) is.1)))

-- a bound whose path is refused holds nothing

path_bound_is : (may : Bool) (b : Binder) (r : Inners) (t : TypeRefId) → of_bound r (stored_path_bound may b t) ≡ r.type t
path_bound_is may [] r t = refl
path_bound_is may (n ∷ ns) r t = refl

-- where the path became this
record FromPath (es : Bodies) (o : Option HirPath) (final : Stored) (ps : List Frame) (m m' : Mark) (b : TypeBound) : Type 0 where
  rel : (n : Mark) → Holds a_path es final ps n m o → Holds a_bound es final ps m m' b

bound_of_held : {es : Bodies} (at : Pointer) (may : Bool) (binder : Binder) (o : Option HirPath)
    → Correct (path_bound_of at may binder o) (FromPath es o)
bound_of_held at may binder None = correct_as (correct_pure bound.Error)
    (λ final ps m m' b g row. rw (row.is, row.still) (record { rel = λ n h. record { same = h.same } }))
bound_of_held {es = es} at may binder (Some p) = correct_as
    (correct_bind (correct_alloc_type (ty.Path p) (Some at)) (λ i. correct_pure (stored_path_bound may binder i)))
    (λ final ps m m' b g row. rw (row.second.is, row.second.still) (record {
      rel = λ n h. let t = type_held {ps = ps} {n = m} row.first h.same in record {
        same = λ d le. same_ids final es (path_bound_is may binder (inners_in final d) row.one) (t.same d le);
      };
    }))

pub path_bound_held : {es : Bodies} (at : Pointer) (may : Bool) (binder : Binder) {p : Lowering (Option HirPath)}
    → Correct p (Holds a_path es) → Correct (path_bound_form at may binder p) (Holds a_bound es)
unfolding path_bound_form
path_bound_held at may binder h = correct_as (correct_bind h (λ o. bound_of_held at may binder o))
    (λ final ps m m' b g row. let t = row.second.rel m row.first in record { same = t.same })

-- lists of arguments, which grow in two

pub record Grown (l : ArgLists) (es fs : Bodies) (final : Stored) (ps : List Frame) (m m' : Mark) (r : ArgLists) : Type 0 where
  pub args : List GenericArg
  pub bindings : List AssociatedTypeBinding
  pub args_are : r.args ≡ l.args ++ args
  pub bindings_are : r.bindings ≡ l.bindings ++ bindings
  pub args_hold : Holds (each an_arg) es final ps m m' args
  pub bindings_hold : Holds (each a_binding) fs final ps m m' bindings

pub grown_none : (l : ArgLists) → Correct (pure l) (Grown l [] [])
grown_none l = correct_as (correct_pure l) (λ final ps m m' r g row. rw row.is (record {
  args = [];
  bindings = [];
  args_are = sym (append-nil l.args);
  bindings_are = sym (append-nil l.bindings);
  args_hold = record { same = λ d le. tt };
  bindings_hold = record { same = λ d le. tt };
}))

pub grown_arg : {A : Type 0} {ids : Ids A} {es : Bodies} {p : Lowering A} (l : ArgLists) (con : A → GenericArg)
    → ((r : Inners) (a : A) → of_arg r (con a) ≡ ids r a) → Correct p (Holds ids es)
    → Correct (p >>= (λ a. pure (add_arg l (con a)))) (Grown l es [])
grown_arg {es = es} l con e h = correct_as (correct_bind h (λ a. correct_pure (add_arg l (con a))))
    (λ final ps m m' r g row. rw (row.second.is, row.second.still) (record {
      args = con row.one ∷ [];
      bindings = [];
      args_are = refl;
      bindings_are = sym (append-nil l.bindings);
      args_hold = record {
        same = λ d le. let r = inners_in final d in
            same_ids final es (append-nil (of_arg r (con row.one)) ∙ e r row.one) (row.first.same d le);
      };
      bindings_hold = record { same = λ d le. tt };
    }))

pub grown_binding : {fs : Bodies} {p : Lowering AssociatedTypeBinding} (l : ArgLists) → Correct p (Holds a_binding fs)
    → Correct (p >>= (λ b. pure (add_binding l b))) (Grown l [] fs)
grown_binding {fs = fs} l h = correct_as (correct_bind h (λ b. correct_pure (add_binding l b)))
    (λ final ps m m' r g row. rw (row.second.is, row.second.still) (record {
      args = [];
      bindings = row.one ∷ [];
      args_are = sym (append-nil l.args);
      bindings_are = refl;
      args_hold = record { same = λ d le. tt };
      bindings_hold = record {
        same = λ d le. same_ids final fs (append-nil (of_binding (inners_in final d) row.one)) (row.first.same d le);
      };
    }))

pub grown_more : {es fs es' fs' : Bodies} {p : Lowering ArgLists} {q : ArgLists → Lowering ArgLists} (l : ArgLists)
    → Correct p (Grown l es fs) → ((k : ArgLists) → Correct (q k) (Grown k es' fs'))
    → Correct (p >>= q) (Grown l (es ++ es') (fs ++ fs'))
grown_more {es = es} {fs = fs} {es' = es'} {fs' = fs'} l h k = correct_as (correct_bind h k) (λ final ps m m' r g row.
    let one = row.first in let rest = row.second in record {
      args = one.args ++ rest.args;
      bindings = one.bindings ++ rest.bindings;
      args_are = rest.args_are ∙ (ap (λ as'. as' ++ rest.args) one.args_are ∙ append_assoc l.args one.args rest.args);
      bindings_are = rest.bindings_are
          ∙ (ap (λ bs. bs ++ rest.bindings) one.bindings_are ∙ append_assoc l.bindings one.bindings rest.bindings);
      args_hold = record {
        same = λ d le. let r = inners_in final d in same_ids final (es ++ es') (all_append (of_arg r) one.args rest.args)
            (same_append final (all_of (of_arg r) one.args) (all_of (of_arg r) rest.args) es es'
            (one.args_hold.same d (omega (le, row.after.nodes, row.after.entries, arith))) (rest.args_hold.same d le));
      };
      bindings_hold = record {
        same = λ d le. let r = inners_in final d in same_ids final (fs ++ fs') (all_append (of_binding r) one.bindings rest.bindings)
            (same_append final (all_of (of_binding r) one.bindings) (all_of (of_binding r) rest.bindings) fs fs'
            (one.bindings_hold.same d (omega (le, row.after.nodes, row.after.entries, arith))) (rest.bindings_hold.same d le));
      };
    })

yielded_is : (r : Inners) (as' : List GenericArg) (bs : List AssociatedTypeBinding)
    → of_list r (yielded (record { args = as'; bindings = bs })) ≡ all_of (of_arg r) as' ++ all_of (of_binding r) bs
yielded_is r [] [] = refl
yielded_is r [] (b ∷ bs) = args_roll r [] false (b ∷ bs) parens.No
yielded_is r (a ∷ as') [] = args_roll r (a ∷ as') false [] parens.No
yielded_is r (a ∷ as') (b ∷ bs) = args_roll r (a ∷ as') false (b ∷ bs) parens.No

pub yielded_held : {es fs : Bodies} {p : Lowering ArgLists} → Correct p (Grown no_lists es fs)
    → Correct (p >>= (λ l. pure (yielded l))) (Holds some_args (es ++ fs))
yielded_held {es = es} {fs = fs} h = correct_as (correct_bind h (λ l. correct_pure (yielded l)))
    (λ final ps m m' r g row. let one = row.first in rw (row.second.is, row.second.still) (record {
      same = λ d le. let r = inners_in final d in
          same_ids final (es ++ fs) ((λ j. of_list r (yielded (record { args = one.args_are j; bindings = one.bindings_are j })))
          ∙ yielded_is r one.args one.bindings)
          (same_append final (all_of (of_arg r) one.args) (all_of (of_binding r) one.bindings) es fs
          (one.args_hold.same d le) (one.bindings_hold.same d le));
    }))

or_notation_is : (r : Inners) (a : Option GenericArgs) (dots : Bool) → of_list r (or_notation a dots) ≡ of_list r a
or_notation_is r None false = refl
or_notation_is r None true = args_roll r [] false [] parens.ReturnTypeNotation
or_notation_is r (Some a) dots = refl

pub binding_held : {es fs gs : Bodies} (n : Name) (dots : Bool) {p : Lowering (Option GenericArgs)} {q : Lowering (Option TypeRefId)}
    {s : Lowering (List TypeBound)} → Correct p (Holds some_args es) → Correct q (Holds (maybe a_type) fs)
    → Correct s (Holds (each a_bound) gs) → Correct (binding_form n dots p q s) (Holds a_binding (es ++ (fs ++ gs)))
unfolding binding_form
binding_held {es = es} {fs = fs} {gs = gs} n dots hp hq hs =
    correct_as (correct_bind hp (λ a. correct_bind hq (λ t. correct_bind hs
    (λ bs. correct_pure (binding_of_parts n (or_notation a dots) t bs)))))
    (λ final ps m m' r g row. let s = row.second in let u = s.second in rw (u.second.is, u.second.still) (record {
      same = λ d le. let r = inners_in final d in
          let others = of_present r.type s.one ++ all_of (of_bound r) u.one in
          same_ids final (es ++ (fs ++ gs)) (binding_roll r n (or_notation row.one dots) s.one u.one
          ∙ ap (λ is. is ++ others) (or_notation_is r row.one dots))
          (same_append final (of_list r row.one) others es (fs ++ gs)
          (row.first.same d (omega (le, s.before.nodes, s.before.entries, u.before.nodes, u.before.entries, arith)))
          (same_append final (of_present r.type s.one) (all_of (of_bound r) u.one) fs gs
          (s.first.same d (omega (le, u.before.nodes, u.before.entries, arith))) (u.first.same d le)));
    }))

-- what stands behind a name

sugared_is : (r : Inners) (t o : TypeRefId) → of_list r (Some (sugared_args t o)) ≡ r.type t ++ r.type o
sugared_is r t o =
    args_roll r (arg.Type_ t ∷ []) false (binding_of_parts output_name None (Some o) [] ∷ []) parens.ParenSugar
    ∙ (λ j. append-nil (r.type t) j ++ (append-nil (of_binding r (binding_of_parts output_name None (Some o) []))
    ∙ (binding_roll r output_name None (Some o) [] ∙ append-nil (r.type o))) j)

pub parens_held : {es fs : Bodies} {p : Lowering (List TypeRefId)} {q : TypeSteps} → Correct p (Holds (each a_type) es)
    → Correct q (Holds a_type fs) → Correct (parens_form p q) (Holds some_args (es ++ fs))
unfolding parens_form
parens_held {es = es} {fs = fs} hp hq = correct_as
    (correct_bind hp (λ ts. correct_bind (correct_alloc_type (ty.Tuple ts) None) (λ t. correct_bind hq
    (λ o. correct_pure (Some (sugared_args t o))))))
    (λ final ps m m' r g row. let s = row.second in let u = s.second in rw (u.second.is, u.second.still) (record {
      same = λ d le. let r = inners_in final d in
          let tuple = type_held {ps = ps} {n = m} s.first row.first.same in
          same_ids final (es ++ fs) (sugared_is r s.one u.one) (same_append final (r.type s.one) (r.type u.one) es fs
          (tuple.same d (omega (le, u.before.nodes, u.before.entries, arith))) (u.first.same d le));
    }))

-- Of `<..>` and `(A) -> C` the first that yields any: whether the first does is in its data.

abbrev OrElse : Option GenericArgs → Bodies → Rel (Option GenericArgs)
OrElse None fs final ps m m' r = Holds some_args fs final ps m m' r
OrElse (Some a) fs final ps m m' r = (r ≡ Some a) × (m' ≡ m)

or_else_held : {fs : Bodies} {q : Lowering (Option GenericArgs)} (a : Option GenericArgs) → Correct q (Holds some_args fs)
    → Correct (or_else a q) (OrElse a fs)
or_else_held None h = h
or_else_held (Some a) h = correct_as (correct_pure (Some a)) (λ final ps m m' r g row. (row.is, row.still))

pub segment_args_held : {es fs : Bodies} {x : OptionArgsData} {p q : Lowering (Option GenericArgs)} (dots : Bool)
    → Correct p (Reads a_list x) → Correct p (Holds some_args es) → Correct q (Holds some_args fs)
    → Correct (segment_args_form p q dots) (Holds some_args (if is_list x then es else fs))
unfolding segment_args_form
segment_args_held {es = es} {fs = fs} {x = x} dots says hp hq = correct_as
    (correct_bind (correct_both says hp) (λ a. correct_bind (or_else_held a hq) (λ r. correct_pure (or_notation r dots))))
    (λ final ps m m' r g row. let s = row.second in rw (s.second.is, s.second.still) (record {
      same = λ d le. let r = inners_in final d in
          same_ids final (if is_list x then es else fs) (or_notation_is r s.one dots)
          (same_bodies final (of_list r s.one) (ap (λ y. if is_list y then es else fs)
          (row.first.one.is row.middle.entries (omega arith)))
          (go final ps m row.middle s.middle row.one s.one row.first.other s.before s.first d le));
    }))
  where
    go : (final : Stored) (ps : List Frame) (m0 m m' : Mark) (a r : Option GenericArgs) → Holds some_args es final ps m0 m a → Grows m m'
        → OrElse a fs final ps m m' r → (d : ℕ) → m'.nodes + m'.entries ≤ d
        → SameIn final (of_list (inners_in final d) r) (if is_list (a_list final (within final m.entries) a) then es else fs)
    go final ps m0 m m' None r h g k d le = k.same d le
    go final ps m0 m m' (Some a) r h g k d le =
        same_ids final es (ap (of_list (inners_in final d)) k.0) (h.same d (omega (le, g.nodes, g.entries, arith)))
