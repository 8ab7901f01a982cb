-- What lowering an item answers holds bodies that do what the written ones do.
use Rattle.std.proofs.Common.{◌≡◌, ◌∙◌, refl, false, subst, sym, arith, append-nil, List, [], ◌∷◌, ◌++◌, Option, Some, None}
use Rattle.hir_store.specs.Pointers.{Pointer}
use Rattle.hir_store.specs.Generics.{of_binding}
use Rattle.hir_store.specs.Stored.{Stored}
use Rattle.hir_store.specs.declared.hir.CoroutineKind.{CoroutineKind}
use Rattle.hir_store.specs.declared.hir.Mutability.{Mutability}
use Rattle.hir_store.specs.declared.ids.GenericDefId.{GenericDefId}
use Rattle.hir_store.specs.declared.ids.TypeRefId.{TypeRefId}
use Rattle.hir_store.specs.declared.path.GenericArgsParentheses.TheVariants as parens
use Rattle.hir_store.specs.declared.path.Path.{Path as HirPath}
use Rattle.hir_store.specs.declared.type_ref.TraitBoundModifier.TheVariants as modifier
use Rattle.hir_store.specs.declared.type_ref.TraitRef.{TraitRef}
use Rattle.hir_store.specs.declared.type_ref.TypeBound.{TypeBound}
use Rattle.hir_store.specs.declared.type_ref.TypeBound.TheVariants as bound
use Rattle.hir_store.specs.declared.type_ref.TypeRef.TheVariants as ty
use Rattle.hir_env.specs.ResolvedTree as tree
use Rattle.hir_env.specs.ResolvedTree.{Bound, Bounds, Lifetime, OptionRet, OptionType, Type_}
use Rattle.hir_env.specs.TypeLayers.{PathTypeReading}
use Rattle.spec_semantics.specs.Inner.{Bodies, Inners, of_args, of_present, of_type, bound_bodies, bounds_bodies, part_bodies}
use Rattle.hir_lower_builder.specs.Lowering.{Lowering, ◌>>=◌, alloc_type, pure}
use Rattle.hir_lower_builder.specs.Lower.{lower_bound, lower_bounds, lower_type, present_type, type_part}
use Rattle.hir_lower_item.specs.declared.function.Signature.{Signature}
use Rattle.hir_lower_item.specs.Items as item
use Rattle.hir_lower_item.specs.Items.{Alias, Argument, Function, Impl, Receiver}
use Rattle.hir_lower_item.specs.Lower as steps
use Rattle.thm_logic.proofs.Frames.{Frame}
use Rattle.thm_logic.proofs.Steps.{Correct, Mark, correct_as, correct_bind, correct_pure, correct_alloc_type}
use Rattle.thm_logic.proofs.TypeAny.{lifetime_any, lifetime_option_any, uses_any}
use Rattle.thm_round_trip.proofs.Layers.{Pushed, pushed_all}
use Rattle.thm_semantics.proofs.HeldArgs.{of_binding as held_in_binding, args_roll, binding_roll}
use Rattle.thm_semantics.proofs.HeldForms.{some_pushed}
use Rattle.thm_semantics.proofs.HeldTree.{part_holds, path_holds}
use Rattle.thm_semantics.proofs.HeldTypes.{a_bound, a_path, path_bound_held, unit_held}
use Rattle.thm_semantics.proofs.Holding.{Holds, Ids, a_type, each, holds_behind, holds_none, holds_one, maybe, more_held, none_held}
use Rattle.thm_semantics.proofs.Holding.{inners_in, same_append, same_ids, type0, type_held}
use Rattle.thm_logic.proofs.Apart.{report_apart}
use Rattle.thm_item_result.specs.Answers.{arguments_bodies, output_bodies, receiver_bodies, trait_bodies}
use Rattle.thm_item_result.proofs.Reading.{bind_assoc, bind_pure}
use Rattle.thm_item_result.proofs.ReadsBack.{generics_apart, missing_apart, reports_apart}

-- a trait

abbrev pub a_trait : Ids (Option TraitRef)
a_trait r t = of_present (λ t. r.type t.path) t

-- what becomes of the path
record FromPath (es : Bodies) (o : Option HirPath) (final : Stored) (ps : List Frame) (m m' : Mark) (t : Option TraitRef) : Type 0 where
  rel : (n : Mark) → Holds a_path es final ps n m o → Holds a_trait es final ps m m' t

stored_holds : {es : Bodies} (at : Pointer) (o : Option HirPath) → Correct (steps.stored_trait at o) (FromPath es o)
stored_holds at None = correct_as (correct_pure None)
    (λ final ps m m' t g row. rw (row.is, row.still) (record { rel = λ n h. record { same = h.same } }))
stored_holds {es = es} at (Some p) = correct_as
    (correct_bind (correct_alloc_type (ty.Path p) (Some at)) (λ i. correct_pure (Some (record { path = i }))))
    (λ final ps m m' t g row. rw (row.second.is, row.second.still) (record {
      rel = λ n h. let i = type_held {ps = ps} {n = m} row.first h.same in record { same = λ d le. i.same d le };
    }))

trait_holds : (x : Option PathTypeReading) → Correct (steps.lower_trait_ref x) (Holds a_trait (trait_bodies x))
trait_holds None = holds_none None (λ r. refl)
trait_holds (Some x) = correct_as (correct_bind (path_holds x.path) (λ o. stored_holds x.pointer o))
    (λ final ps m m' t g row. let i = row.second.rel m row.first in record { same = i.same })

-- implementations and aliases

abbrev pub impl_holder : Ids (TypeRefId × Option TraitRef)
impl_holder r a = r.type a.0 ++ a_trait r a.1

pub impl_holds : (def : GenericDefId) (x : Impl)
    → Correct (steps.lower_impl def x) (Holds impl_holder (part_bodies x.self_type ++ trait_bodies x.trait_))
impl_holds def x = correct_as (correct_bind (part_holds None x.self_type) (λ self. correct_bind (trait_holds x.trait_)
    (λ t. correct_bind (generics_apart def x.generics) (λ u. correct_pure (self, t)))))
    (λ final ps m m' a g row. let s = row.second in let u = s.second in rw (u.second.is, u.second.still) (record {
      same = λ d le. let r = inners_in final d in
          same_append final (r.type row.one) (a_trait r s.one) (part_bodies x.self_type) (trait_bodies x.trait_)
          (row.first.same d (omega (le, s.before.nodes, s.before.entries, u.before.nodes, u.before.entries, arith)))
          (s.first.same d (omega (le, u.before.nodes, u.before.entries, arith)));
    }))

bound_holds : (b : Bound) → Correct (lower_bound b) (Holds a_bound (bound_bodies b))
bound_holds tree.error_bound = holds_none bound.Error (λ r. refl)
bound_holds (tree.path_bound at p may binder) = path_bound_held at may binder (path_holds p)
bound_holds (tree.lifetime_bound l) = holds_behind (lifetime_any l) (λ i. holds_none (bound.Lifetime i) (λ r. refl))
bound_holds (tree.use_bound us) = holds_behind (uses_any [] us) (λ xs. holds_none (bound.Use xs) (λ r. refl))

bounds_hold : (bs : Bounds) (done : List TypeBound)
    → Correct (lower_bounds done bs) (Pushed done (Holds (each a_bound) (bounds_bodies bs)))
bounds_hold tree.no_bounds done = none_held a_bound done
bounds_hold (tree.more_bounds b bs) done = more_held (bound_holds b) (bounds_hold bs) done

type_holds : (t : Type_) → Correct (lower_type None t) (Holds a_type (part_bodies (tree.some_type t)))
type_holds t = part_holds None (tree.some_type t)

present_holds : (t : OptionType) → Correct (present_type t) (Holds (maybe a_type) (part_bodies t))
present_holds tree.no_type = holds_none None (λ r. refl)
present_holds (tree.some_type t) = holds_one Some (λ r i. refl) (type_holds t)

abbrev pub alias_holder : Ids (List TypeBound × Option TypeRefId)
alias_holder r a = each a_bound r a.0 ++ maybe a_type r a.1

pub alias_holds : (def : GenericDefId) (x : Alias)
    → Correct (steps.lower_alias def x) (Holds alias_holder (bounds_bodies x.bounds ++ part_bodies x.type_))
alias_holds def x = correct_as (correct_bind (pushed_all (bounds_hold x.bounds [])) (λ bs. correct_bind (generics_apart def x.generics)
    (λ u. correct_bind (present_holds x.type_) (λ t. correct_bind (missing_apart x.missing) (λ v. correct_pure (bs, t))))))
    (λ final ps m m' a g row. let s = row.second in let u = s.second in let v = u.second in rw (v.second.is, v.second.still) (record {
      same = λ d le. let r = inners_in final d in
          same_append final (each a_bound r row.one) (maybe a_type r u.one) (bounds_bodies x.bounds) (part_bodies x.type_)
          (row.first.same d (omega (
            le,
            s.before.nodes,
            s.before.entries,
            u.before.nodes,
            u.before.entries,
            v.before.nodes,
            v.before.entries,
            arith,
          )))
          (u.first.same d (omega (le, v.before.nodes, v.before.entries, arith)));
    }))

-- functions

self_held : Correct (alloc_type steps.self_path None) (Holds a_type [])
self_held = type0 steps.self_path None (λ r. refl)

self_holds : (borrow : Option Mutability) (l : Option Lifetime) → Correct (steps.self_form borrow l) (Holds a_type [])
self_holds None l = correct_as (correct_bind self_held (λ self. correct_bind (lifetime_option_any l) (λ id. correct_pure self)))
    (λ final ps m m' a g row. let s = row.second in rw (s.second.is, s.second.still) (record {
      same = λ d le. row.first.same d (omega (le, s.before.nodes, s.before.entries, arith));
    }))
self_holds (Some m) l = correct_as (correct_bind self_held (λ self. correct_bind (lifetime_option_any l)
    (λ id. correct_alloc_type (ty.Reference (record { ty = self; lifetime = id; mutability = m })) None)))
    (λ final ps m m' i g row. let s = row.second in type_held {ps = ps} {n = m} s.second
    (λ d le. row.first.same d (omega (le, s.before.nodes, s.before.entries, arith))))

receiver_holds : (x : Receiver) → Correct (steps.lower_receiver x) (Holds (maybe a_type) (receiver_bodies x))
receiver_holds item.no_receiver = holds_none None (λ r. refl)
receiver_holds (item.disabled_receiver at by) = holds_behind (report_apart _) (λ u. holds_none None (λ r. refl))
receiver_holds (item.typed_receiver t) = holds_one Some (λ r i. refl) (type_holds t)
receiver_holds (item.self_receiver borrow l) = holds_one Some (λ r i. refl) (self_holds borrow l)

-- lists of types that go on behind these
abbrev GoesOn : List TypeRefId → Bodies → Lowering (List TypeRefId) → Type 0
GoesOn done es p = Correct p (Pushed done (Holds (each a_type) es))

arguments_hold : (xs : List Argument) (done : List TypeRefId) → GoesOn done (arguments_bodies xs) (steps.argument_types done xs)
arguments_hold [] done = none_held a_type done
arguments_hold (item.disabled_argument at by ∷ xs) done = arguments_hold xs done
arguments_hold (item.variadic_argument ∷ xs) done = arguments_hold xs done
arguments_hold (item.argument t ∷ xs) done =
    some_pushed {ids = a_type} (holds_one Some (λ r i. refl) (part_holds None t)) (λ ts. arguments_hold xs ts) done

-- behind the faults of all
behind_reports : (xs : List Argument) (done : List TypeRefId)
    → GoesOn done (arguments_bodies xs) (steps.report_each xs >>= (λ u. steps.argument_types done xs))
behind_reports xs done = correct_as (correct_bind (reports_apart xs) (λ u. arguments_hold xs done))
    (λ final ps m m' r g row. let s = row.second in record { new = s.new; is = s.is; rel = record { same = s.rel.same } })

input_holds : (r : Receiver) (xs : List Argument) → GoesOn [] (receiver_bodies r ++ arguments_bodies xs) (steps.input_types r xs)
input_holds r xs = some_pushed {ids = a_type} {q = λ ts. steps.report_each xs >>= (λ u. steps.argument_types ts xs)} (receiver_holds r)
    (λ ts. behind_reports xs ts) []

-- the path of a coroutine's trait holds what it gives
pub path_holds_given : (r : Inners) (k : CoroutineKind) (given : TypeRefId)
    → of_type r (ty.Path (steps.coroutine_path k given)) ≡ r.type given
path_holds_given r k given =
    let b = of_binding (steps.given_name k) None (Some given) [] in
    append-nil (of_args r (steps.given_args k given))
    ∙ (args_roll r [] false (b ∷ []) parens.No ∙ (append-nil (held_in_binding r b)
    ∙ (binding_roll r (steps.given_name k) None (Some given) [] ∙ append-nil (r.type given))))

coroutine_holds : {es : Bodies} {p : Lowering TypeRefId} (k : CoroutineKind) → Correct p (Holds a_type es)
    → Correct (p >>= (λ given. alloc_type (ty.Path (steps.coroutine_path k given)) None
    >>= (λ i. alloc_type (ty.ImplTrait (bound.Path i modifier.None ∷ [])) None))) (Holds a_type es)
coroutine_holds {es = es} k h = correct_as (correct_bind h (λ given. correct_bind
    (correct_alloc_type (ty.Path (steps.coroutine_path k given)) None)
    (λ i. correct_alloc_type (ty.ImplTrait (bound.Path i modifier.None ∷ [])) None)))
    (λ final ps m m' i g row. let s = row.second in
    let t = type_held {ps = ps} {n = m} s.first (λ d le. same_ids final es (path_holds_given (inners_in final d) k row.one)
    (row.first.same d le)) in
    type_held {ps = ps} {n = m} s.second (λ d le. same_ids final es (append-nil ((inners_in final d).type s.one)) (t.same d le)))

given_holds : {es : Bodies} {p : Lowering TypeRefId} (k : CoroutineKind) → Correct p (Holds a_type es)
    → Correct (p >>= (λ given. steps.answer_form (Some k) (Some given))) (Holds (maybe a_type) es)
given_holds {es = es} {p = p} k h = subst (λ q. Correct q (Holds (maybe a_type) es))
    (bind_assoc p (λ given. steps.coroutine_form k (Some given)) (λ i. pure (Some i)))
    (holds_one Some (λ r i. refl) (coroutine_holds k h))

output_holds : (k : Option CoroutineKind) (r : OptionRet) → Correct (steps.output_type k r) (Holds (maybe a_type) (output_bodies r))
output_holds None tree.no_ret = holds_none None (λ r. refl)
output_holds None (tree.some_ret t) = let p = type_part None t >>= (λ i. pure (Some i)) in
    subst (λ q. Correct q (Holds (maybe a_type) (part_bodies t))) (sym (bind_pure p)) (holds_one Some (λ r i. refl) (part_holds None t))
output_holds (Some k) tree.no_ret = holds_one Some (λ r i. refl) (coroutine_holds k unit_held)
output_holds (Some k) (tree.some_ret t) = subst (λ q. Correct q (Holds (maybe a_type) (part_bodies t)))
    (sym (bind_assoc (type_part None t) (λ i. pure (Some i)) (steps.answer_form (Some k)))) (given_holds k (part_holds None t))

abbrev pub function_holder : Ids Signature
function_holder r a = each a_type r a.args ++ maybe a_type r a.ret

pub function_holds : (def : GenericDefId) (x : Function) → Correct (steps.lower_function def x)
    (Holds function_holder ((receiver_bodies x.receiver ++ arguments_bodies x.arguments) ++ output_bodies x.ret))
function_holds def x = correct_as (correct_bind (generics_apart def x.generics) (λ u. correct_bind
    (pushed_all (input_holds x.receiver x.arguments)) (λ args. correct_bind (output_holds x.kind x.ret) (λ ret. correct_pure
    (record { args = args; ret = ret; has_self = steps.is_received x.receiver; has_variadic = steps.any_variadic x.arguments })))))
    (λ final ps m m' a g row. let s = row.second in let u = s.second in rw (u.second.is, u.second.still) (record {
      same = λ d le. let r = inners_in final d in
          same_append final (each a_type r s.one) (maybe a_type r u.one) (receiver_bodies x.receiver ++ arguments_bodies x.arguments)
          (output_bodies x.ret) (s.first.same d (omega (le, u.before.nodes, u.before.entries, arith))) (u.first.same d le);
    }))
