-- What lowering an item answers reads back as what is written.
use Rattle.std.proofs.Common.{◌≡◌, ◌∙◌, refl, sym, ap, subst, arith, ℕ, ◌≤◌, false, List, [], ◌∷◌, Option, Some, None}
use Rattle.std.specs.Prelude.{option_map, Bool}
use Rattle.hir_store.specs.Pointers.{Pointer}
use Rattle.hir_store.specs.Stored.{Store, SourceMap, Stored, map_of, store_of}
use Rattle.hir_store.specs.Generics.{of_binding}
use Rattle.hir_store.specs.declared.diagnostics.ExpressionStoreDiagnostics.{ExpressionStoreDiagnostics}
use Rattle.hir_store.specs.declared.diagnostics.ExpressionStoreDiagnostics.TheVariants.{InactiveCode}
use Rattle.hir_store.specs.declared.diagnostics.MissingBodyItemKind.{MissingBodyItemKind}
use Rattle.hir_store.specs.declared.hir.CoroutineKind.{CoroutineKind}
use Rattle.hir_store.specs.declared.hir.CoroutineKind.TheVariants as coroutine
use Rattle.hir_store.specs.declared.hir.Mutability.{Mutability}
use Rattle.hir_store.specs.declared.ids.GenericDefId.{GenericDefId}
use Rattle.hir_store.specs.declared.ids.TypeRefId.{TypeRefId}
use Rattle.hir_store.specs.declared.path.GenericArgsParentheses.TheVariants as parens
use Rattle.hir_store.specs.declared.path.Path.{Path as HirPath}
use Rattle.hir_store.specs.declared.path.PathKind.TheVariants as kind
use Rattle.hir_store.specs.declared.type_ref.TraitBoundModifier.TheVariants as modifier
use Rattle.hir_store.specs.declared.type_ref.TraitRef.{TraitRef}
use Rattle.hir_store.specs.declared.type_ref.TypeBound.{TypeBound}
use Rattle.hir_store.specs.declared.type_ref.TypeBound.TheVariants as bound
use Rattle.hir_store.specs.declared.type_ref.TypeRef.TheVariants as ty
use Rattle.hir_env.specs.ResolvedTree as tree
use Rattle.hir_env.specs.ResolvedTree.{Lifetime, OptionRet}
use Rattle.hir_env.specs.TypeLayers.{PathTypeReading}
use Rattle.spec_data.specs.Data as datum
use Rattle.spec_data.specs.Data.{BoundsData, OptionTypeData, PathData, TypeData, TypesData, typed}
use Rattle.spec_data.specs.Reading.{Readers, names_beside, path_layer}
use Rattle.spec_data.specs.Rule.{PathRead, data_of}
use Rattle.spec_data.specs.Written as written
use Rattle.spec_data.specs.Written.{bounds_data, lifetime_data, written_option_type, written_type}
use Rattle.hir_lower_builder.specs.Lowering.{Lowering, ◌>>=◌, alloc_type, pure, report}
use Rattle.hir_lower_builder.specs.Lower.{push_some, type_part}
use Rattle.hir_lower_item.specs.declared.function.Signature.{Signature}
use Rattle.hir_lower_item.specs.Items as item
use Rattle.hir_lower_item.specs.Items.{Alias, Argument, Function, Generics, Impl, Receiver}
use Rattle.hir_lower_item.specs.Lower as steps
use Rattle.thm_logic.proofs.Frames.{Frame}
use Rattle.thm_logic.proofs.Steps.{Correct, Mark, Rel, correct_as, correct_bind, correct_pure}
use Rattle.thm_logic.proofs.TypeSteps.{AllocatedType, correct_alloc_type}
use Rattle.thm_round_trip.proofs.Generics.{args_roll, binding_roll}
use Rattle.thm_round_trip.proofs.Layers.{Layer, Pushed, Reads, a_type, many_bounds, maybe_type, pushed_all, type0, type2, type_at}
use Rattle.thm_round_trip.proofs.Layers.{types_before, value0, within}
use Rattle.thm_round_trip.proofs.Tree.{bounds_read, part_reads, path_reads, type_reads}
use Rattle.thm_round_trip.proofs.Tree as back
use Rattle.thm_round_trip.proofs.Types.{lifetime_option_reads, present_reads, types_more, types_none, unit_type_reads}
use Rattle.thm_round_trip.proofs.Walk.{Answers, matches_read}
use Rattle.thm_logic.proofs.Apart.{Apart, pure_apart, report_apart, then_apart}
use Rattle.thm_item_result.specs.Answers.{arguments_data, borrowed_data, coroutine_data, coroutine_path_data, output_data, receiver_data}
use Rattle.thm_item_result.specs.Answers.{keeps_self, keeps_variadic, self_data, trait_data}
use Rattle.thm_item_result.proofs.Apart.{items_stand_apart}
use Rattle.thm_item_result.proofs.Reading.{bind_assoc, bind_pure}
use Rattle.thm_item_result.proofs.Words.{same_self, same_variadic}

-- the parameters, whatever is in them
pub generics_apart : (def : GenericDefId) (g : Generics) → Correct (steps.lower_generics def g) Apart
generics_apart def g = ((items_stand_apart def).0 g).apart

-- a trait

abbrev pub maybe_trait : Layer (Option TraitRef) (Option TypeData)
maybe_trait final r t = option_map (λ t. r.type t.path) t

-- what is stored of a path
record TraitStored (at : Pointer) (p : HirPath) (final : Stored) (ps : List Frame) (m m' : Mark) (t : Option TraitRef) : Type 0 where
  number : TypeRefId
  is : t ≡ Some (record { path = number })
  stored : AllocatedType (ty.Path p) (Some at) final ps m m' number

abbrev TraitBy : Pointer → Option HirPath → Rel (Option TraitRef)
TraitBy at None final ps m m' t = t ≡ None
TraitBy at (Some p) final ps m m' t = TraitStored at p final ps m m' t

trait_stored : (at : Pointer) (o : Option HirPath) → Correct (steps.stored_trait at o) (TraitBy at o)
trait_stored at None = correct_as (correct_pure None) (λ final ps m m' t g row. row.is)
trait_stored at (Some p) =
    correct_as (correct_bind (correct_alloc_type (ty.Path p) (Some at)) (λ i. correct_pure (Some (record { path = i }))))
    (λ final ps m m' t g row. rw row.second.still (record { number = row.one; is = row.second.is; stored = row.first }))

pub trait_reads : (x : Option PathTypeReading) → Correct (steps.lower_trait_ref x) (Reads maybe_trait (trait_data x))
trait_reads None = value0 {l = maybe_trait} None (λ final r. refl)
trait_reads (Some x) = correct_as (correct_bind (path_reads x.path) (λ o. trait_stored x.pointer o))
    (λ final ps m m' t g row.
    record { is = λ d le. go final ps row.middle m' (written.path_of x.path) row.one t row.first.is row.second d le })
  where
    go : (final : Stored) (ps : List Frame) (m m' : Mark) (y : Option PathRead) (o : Option HirPath) (t : Option TraitRef)
        → Answers final m.entries y o → TraitBy x.pointer o final ps m m' t → (d : ℕ) → m'.entries ≤ d
        → maybe_trait final (within final d) t
        ≡ option_map (λ z. typed (Some x.pointer) (datum.path_shape z)) (option_map data_of y)
    go final ps m m' None None t h row d le = ap (maybe_trait final (within final d)) row
    go final ps m m' None (Some p) t h row d le = absurd h
    go final ps m m' (Some z) None t h row d le = absurd h
    go final ps m m' (Some z) (Some p) t h row d le =
        let i = type_at {m0 = m} row.stored (λ n ge. ap datum.path_shape (matches_read final m.entries z p h n ge)) in
        ap (maybe_trait final (within final d)) row.is ∙ ap Some (i.is d le)

-- implementations and aliases

abbrev pub impl_answer : Layer (TypeRefId × Option TraitRef) (TypeData × Option TypeData)
impl_answer final r a = (r.type a.0, maybe_trait final r a.1)

pub impl_reads : (def : GenericDefId) (x : Impl)
    → Correct (steps.lower_impl def x) (Reads impl_answer (written_type x.self_type, trait_data x.trait_))
impl_reads def x = correct_as (correct_bind (part_reads None x.self_type) (λ self. correct_bind (trait_reads x.trait_)
    (λ t. correct_bind (generics_apart def x.generics) (λ u. correct_pure (self, t)))))
    (λ final ps m m' a g row. let s = row.second in let u = s.second in rw (u.second.is, u.second.still) (record {
      is = λ d le. λ j. (
        row.first.is d (omega (le, s.before.entries, u.before.entries, arith)) j,
        s.first.is d (omega (le, u.before.entries, arith)) j,
      );
    }))

abbrev pub alias_answer : Layer (List TypeBound × Option TypeRefId) (BoundsData × OptionTypeData)
alias_answer final r a = (many_bounds final r a.0, maybe_type final r a.1)

pub missing_apart : (f : Option (Pointer × MissingBodyItemKind)) → Correct (steps.report_missing f) Apart
missing_apart None = pure_apart tt
missing_apart (Some f) = report_apart _

pub alias_reads : (def : GenericDefId) (x : Alias)
    → Correct (steps.lower_alias def x) (Reads alias_answer (bounds_data x.bounds, written_option_type x.type_))
alias_reads def x = correct_as (correct_bind (pushed_all (bounds_read x.bounds [])) (λ bs. correct_bind (generics_apart def x.generics)
    (λ u. correct_bind (back.present_reads x.type_) (λ t. correct_bind (missing_apart x.missing) (λ v. correct_pure (bs, t))))))
    (λ final ps m m' a g row. let s = row.second in let u = s.second in let v = u.second in rw (v.second.is, v.second.still) (record {
      is = λ d le. λ j. (
        row.first.is d (omega (le, s.before.entries, u.before.entries, v.before.entries, arith)) j,
        u.first.is d (omega (le, v.before.entries, arith)) j,
      );
    }))

-- what a function is given

self_stored : Correct (alloc_type steps.self_path None) (Reads a_type self_data)
self_stored = type0 steps.self_path None (λ final r. refl)

pub self_reads : (borrow : Option Mutability) (l : Option Lifetime)
    → Correct (steps.self_form borrow l) (Reads a_type (borrowed_data borrow (option_map lifetime_data l)))
self_reads None l = correct_as (correct_bind self_stored (λ self. correct_bind (lifetime_option_reads l) (λ id. correct_pure self)))
    (λ final ps m m' a g row. let s = row.second in rw (s.second.is, s.second.still) (record {
      is = λ d le. row.first.is d (omega (le, s.before.entries, arith));
    }))
self_reads (Some m) l = type2 None (λ t i. ty.Reference (record { ty = t; lifetime = i; mutability = m }))
    (λ x y. datum.reference_shape x y m) self_stored (lifetime_option_reads l) (λ final r a b. refl)

pub reports_apart : (xs : List Argument) → Correct (steps.report_each xs) Apart
reports_apart [] = pure_apart tt
reports_apart (item.disabled_argument at by ∷ xs) = then_apart (report_apart _) (λ u. reports_apart xs)
reports_apart (item.variadic_argument ∷ xs) = reports_apart xs
reports_apart (item.argument t ∷ xs) = reports_apart xs

-- lists of types that go on behind these
abbrev GoesOn : List TypeRefId → TypesData → Lowering (List TypeRefId) → Type 0
GoesOn done x p = Correct p (Pushed done (Reads (types_before datum.no_types) x))

-- behind one that is there
one_behind : {x : TypeData} {y : TypesData} {p : Lowering TypeRefId} (q : List TypeRefId → Lowering (List TypeRefId))
    → Correct p (Reads a_type x) → ((done : List TypeRefId) → GoesOn done y (q done)) → (done : List TypeRefId)
    → GoesOn done (datum.more_types x y) ((p >>= (λ i. pure (Some i))) >>= (λ o. q (push_some done o)))
one_behind {x = x} {y = y} {p = p} q h k done = subst (λ r. GoesOn done (datum.more_types x y) r)
    (sym (bind_assoc p (λ i. pure (Some i)) (λ o. q (push_some done o)))) (types_more datum.no_types h k done)

arguments_read : (xs : List Argument) (done : List TypeRefId) → GoesOn done (arguments_data xs) (steps.argument_types done xs)
arguments_read [] done = types_none datum.no_types done
arguments_read (item.disabled_argument at by ∷ xs) done = arguments_read xs done
arguments_read (item.variadic_argument ∷ xs) done = arguments_read xs done
arguments_read (item.argument t ∷ xs) done =
    one_behind (λ ts. steps.argument_types ts xs) (part_reads None t) (λ ts. arguments_read xs ts) done

-- behind the faults of all
behind_reports : (xs : List Argument) (done : List TypeRefId)
    → GoesOn done (arguments_data xs) (steps.report_each xs >>= (λ u. steps.argument_types done xs))
behind_reports xs done = correct_as (correct_bind (reports_apart xs) (λ u. arguments_read xs done))
    (λ final ps m m' r g row. let s = row.second in record { new = s.new; is = s.is; rel = record { is = s.rel.is } })

-- none in front of these
none_behind : (xs : List Argument) → GoesOn [] (arguments_data xs) (steps.report_each xs >>= (λ u. steps.argument_types [] xs))
none_behind xs = behind_reports xs []

behind_report : (d : ExpressionStoreDiagnostics) {x : TypesData} {q : Lowering (List TypeRefId)} → GoesOn [] x q
    → GoesOn [] x (report d >>= (λ u. q))
behind_report d h = correct_as (correct_bind (report_apart d) (λ u. h))
    (λ final ps m m' r g row. let s = row.second in record { new = s.new; is = s.is; rel = record { is = s.rel.is } })

input_reads : (r : Receiver) (xs : List Argument) → GoesOn [] (receiver_data r (arguments_data xs)) (steps.input_types r xs)
input_reads item.no_receiver xs = none_behind xs
input_reads (item.disabled_receiver at by) xs = subst (λ q. GoesOn [] (arguments_data xs) q)
    (sym (bind_assoc (report (InactiveCode at by)) (λ u. pure None)
    (λ self. steps.report_each xs >>= (λ u. steps.argument_types (push_some [] self) xs))))
    (behind_report (InactiveCode at by) (none_behind xs))
input_reads (item.typed_receiver t) xs =
    one_behind (λ ts. steps.report_each xs >>= (λ u. steps.argument_types ts xs)) (type_reads None t) (λ ts. behind_reports xs ts) []
input_reads (item.self_receiver borrow l) xs =
    one_behind (λ ts. steps.report_each xs >>= (λ u. steps.argument_types ts xs)) (self_reads borrow l) (λ ts. behind_reports xs ts) []

-- what a function returns

-- the path of the trait of a coroutine, in the words of the steps
abbrev named_path : CoroutineKind → TypeData → PathData
named_path k given =
    let b = datum.binding_data (steps.given_name k) datum.no_args (datum.some_type given) datum.no_bounds in
    let a = datum.args_data datum.no_arguments false (datum.more_bindings b datum.no_bindings) parens.No in
    let beside = datum.no_args ∷ (datum.no_args ∷ (datum.some_args a ∷ [])) in
    datum.path_data kind.Abs datum.no_type (names_beside (steps.trait_names k) beside) false

same_path : (k : CoroutineKind) (given : TypeData) → named_path k given ≡ coroutine_path_data k given
same_path coroutine.Async given = refl
same_path coroutine.Gen given = refl
same_path coroutine.AsyncGen given = refl

coroutine_path_reads : (store : Store) (source_map : SourceMap) (r : Readers) (k : CoroutineKind) (given : TypeRefId) (x : TypeData)
    → r.type given ≡ x → path_layer store source_map r (steps.coroutine_path k given) ≡ coroutine_path_data k x
coroutine_path_reads store source_map r k given x e =
    ap (λ a. datum.path_data kind.Abs datum.no_type (names_beside (steps.trait_names k)
    (datum.no_args ∷ (datum.no_args ∷ (datum.some_args a ∷ [])))) false)
    (args_roll store source_map r [] false (of_binding (steps.given_name k) None (Some given) [] ∷ []) parens.No
    ∙ ap (λ b. datum.args_data datum.no_arguments false (datum.more_bindings b datum.no_bindings) parens.No)
    (binding_roll store source_map r (steps.given_name k) None (Some given) []
    ∙ ap (λ t. datum.binding_data (steps.given_name k) datum.no_args (datum.some_type t) datum.no_bounds) e))
    ∙ same_path k x

-- the path of its trait, with what it gives
pub given_path_reads : {x : TypeData} {p : Lowering TypeRefId} (k : CoroutineKind) → Correct p (Reads a_type x)
    → Correct (p >>= (λ given. alloc_type (ty.Path (steps.coroutine_path k given)) None))
    (Reads a_type (typed None (datum.path_shape (coroutine_path_data k x))))
given_path_reads {x = x} k h =
    correct_as (correct_bind h (λ given. correct_alloc_type (ty.Path (steps.coroutine_path k given)) None))
    (λ final ps m m' i g row. type_at row.second (λ n ge. ap datum.path_shape
    (coroutine_path_reads (store_of final) (map_of final) (within final n) k row.one x (row.first.is n ge))))

pub coroutine_reads : {x : TypeData} {p : Lowering TypeRefId} (k : CoroutineKind) → Correct p (Reads a_type x)
    → Correct (p >>= (λ given. alloc_type (ty.Path (steps.coroutine_path k given)) None
    >>= (λ i. alloc_type (ty.ImplTrait (bound.Path i modifier.None ∷ [])) None))) (Reads a_type (coroutine_data k x))
coroutine_reads {x = x} k h = correct_as (correct_bind h (λ given. correct_bind
    (correct_alloc_type (ty.Path (steps.coroutine_path k given)) None)
    (λ i. correct_alloc_type (ty.ImplTrait (bound.Path i modifier.None ∷ [])) None)))
    (λ final ps m m' i g row. let s = row.second in
    let t = type_at {m0 = m} s.first (λ n ge. ap datum.path_shape
    (coroutine_path_reads (store_of final) (map_of final) (within final n) k row.one x (row.first.is n ge))) in
    type_at s.second (λ n ge.
    ap (λ z. datum.impl_shape (datum.more_bounds (datum.path_bound z modifier.None) datum.no_bounds)) (t.is n ge)))

-- of what stands there
given_reads : {x : TypeData} {p : Lowering TypeRefId} (k : CoroutineKind) → Correct p (Reads a_type x)
    → Correct (p >>= (λ given. steps.answer_form (Some k) (Some given))) (Reads maybe_type (datum.some_type (coroutine_data k x)))
given_reads {x = x} {p = p} k h = subst (λ q. Correct q (Reads maybe_type (datum.some_type (coroutine_data k x))))
    (bind_assoc p (λ given. steps.coroutine_form k (Some given)) (λ i. pure (Some i))) (present_reads (coroutine_reads k h))

output_reads : (k : Option CoroutineKind) (r : OptionRet) → Correct (steps.output_type k r) (Reads maybe_type (output_data k r))
output_reads None tree.no_ret = value0 {l = maybe_type} None (λ final r. refl)
output_reads None (tree.some_ret t) = let p = type_part None t >>= (λ i. pure (Some i)) in
    subst (λ q. Correct q (Reads maybe_type (datum.some_type (written_type t)))) (sym (bind_pure p)) (present_reads (part_reads None t))
output_reads (Some k) tree.no_ret = present_reads (coroutine_reads k unit_type_reads)
output_reads (Some k) (tree.some_ret t) =
    subst (λ q. Correct q (Reads maybe_type (datum.some_type (coroutine_data k (written_type t)))))
    (sym (bind_assoc (type_part None t) (λ i. pure (Some i)) (steps.answer_form (Some k))))
    (given_reads k (part_reads None t))

-- functions

abbrev pub function_answer : Layer Signature (TypesData × OptionTypeData × Bool × Bool)
function_answer final r a =
    (types_before datum.no_types final r a.args, maybe_type final r a.ret, a.has_self, a.has_variadic)

abbrev pub function_data : Function → TypesData × OptionTypeData × Bool × Bool
function_data x = (
  receiver_data x.receiver (arguments_data x.arguments),
  output_data x.kind x.ret,
  keeps_self x.receiver,
  keeps_variadic x.arguments,
)

pub function_reads : (def : GenericDefId) (x : Function)
    → Correct (steps.lower_function def x) (Reads function_answer (function_data x))
function_reads def x = correct_as (correct_bind (generics_apart def x.generics) (λ u. correct_bind
    (pushed_all (input_reads x.receiver x.arguments)) (λ args. correct_bind (output_reads x.kind x.ret) (λ ret. correct_pure
    (record { args = args; ret = ret; has_self = steps.is_received x.receiver; has_variadic = steps.any_variadic x.arguments })))))
    (λ final ps m m' a g row. let s = row.second in let u = s.second in rw (u.second.is, u.second.still) (record {
      is = λ d le. λ j. (
        s.first.is d (omega (le, u.before.entries, arith)) j,
        u.first.is d le j,
        same_self x.receiver j,
        same_variadic x.arguments j,
      );
    }))
