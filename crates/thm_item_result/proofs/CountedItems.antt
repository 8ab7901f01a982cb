-- What an item is answered with, and its parameters and predicates, is counted once: the steps of each item.
use Rattle.std.proofs.Common.{arith, ◌+◌, ◌≤◌, List, [], ◌∷◌, ◌++◌, Option, Some, None}
use Rattle.hir_store.specs.Pointers.{Pointer}
use Rattle.hir_store.specs.declared.diagnostics.MissingBodyItemKind.{MissingBodyItemKind}
use Rattle.hir_store.specs.declared.hir.CoroutineKind.{CoroutineKind}
use Rattle.hir_store.specs.declared.hir.Mutability.{Mutability}
use Rattle.hir_store.specs.declared.ids.GenericDefId.{GenericDefId}
use Rattle.hir_store.specs.declared.ids.LifetimeRefId.{LifetimeRefId}
use Rattle.hir_store.specs.declared.ids.TypeRefId.{TypeRefId}
use Rattle.hir_store.specs.declared.path.Path.{Path as HirPath}
use Rattle.hir_store.specs.declared.type_ref.TraitRef.{TraitRef}
use Rattle.hir_store.specs.declared.type_ref.TypeBound.{TypeBound}
use Rattle.hir_env.specs.ResolvedTree as tree
use Rattle.hir_env.specs.ResolvedTree.{Bounds, Lifetime, OptionRet}
use Rattle.hir_env.specs.TypeLayers.{PathTypeReading}
use Rattle.hir_lower_builder.specs.Lowering.{Lowering, ◌>>=◌}
use Rattle.hir_lower_builder.specs.Lower.{lower_bounds, push_some}
use Rattle.hir_lower_item.specs.Items as item
use Rattle.hir_lower_item.specs.Items.{Alias, Argument, Function, Impl, Receiver, Trait}
use Rattle.hir_lower_item.specs.Lower as steps
use Rattle.spec_data.specs.Fold.{tracked_in_output, tracked_in_whole}
use Rattle.spec_data.specs.Tracking.{Tracking, none as nothing, of_lifetime_option}
use Rattle.thm_generics.proofs.Logic as parts
use Rattle.thm_generics.proofs.Steps.{tracks_type}
use Rattle.thm_generics.proofs.TypeForms.{lifetime_option_tracks, unit_tracks}
use Rattle.thm_generics.proofs.Tree.{type_tracked, whole_tracked}
use Rattle.thm_item_result.proofs.Costs.{Cost, Meter, a_bound, a_trait, a_type, bounds, each_append, free, maybe_type, types}
use Rattle.thm_item_result.proofs.Counting.{Counts, Sort, counts_as, counts_beside, counts_kept, counts_pure, counts_then, part_counts}
use Rattle.thm_item_result.proofs.CountedSteps.{Leaves, bound_counts, fault_counts, generics_count, nothing_counts, present_counts}
use Rattle.thm_item_result.proofs.CountedSteps.{self_counts, type_counts}

-- what is noted

stored_tracks : (at : Pointer) (p : Option HirPath) → parts.SideOutput nothing (steps.stored_trait at p)
stored_tracks at None = parts.tracks_pure None
stored_tracks at (Some p) = parts.tracks_begin (tracks_type _ _) (λ id. parts.tracks_pure _)

abbrev trait_tracking : Option PathTypeReading → Tracking
trait_tracking None = nothing
trait_tracking (Some x) = tracked_in_whole x.path

trait_tracks : (x : Option PathTypeReading) → parts.SideOutput (trait_tracking x) (steps.lower_trait_ref x)
trait_tracks None = parts.tracks_pure None
trait_tracks (Some x) = parts.tracks_end (whole_tracked x.path) (λ p. stored_tracks x.pointer p)

borrowed_tracks : (borrow : Option Mutability) (self : TypeRefId) (l : Option LifetimeRefId)
    → parts.SideOutput nothing (steps.borrowed borrow self l)
borrowed_tracks None self l = parts.tracks_pure self
borrowed_tracks (Some m) self l = tracks_type _ None

self_tracks : (borrow : Option Mutability) (l : Option Lifetime) → parts.SideOutput (of_lifetime_option l) (steps.self_form borrow l)
self_tracks borrow l = parts.tracks_begin (tracks_type steps.self_path None) (λ self.
    parts.tracks_end (lifetime_option_tracks l) (λ id. borrowed_tracks borrow self id))

ret_tracks : (r : OptionRet) → parts.SideOutput (tracked_in_output r) (steps.present_ret r)
ret_tracks tree.no_ret = parts.tracks_pure None
ret_tracks (tree.some_ret t) = parts.tracks_end (type_tracked None t) (λ i. parts.tracks_pure (Some i))

unit_or_tracks : (t : Option TypeRefId) → parts.SideOutput nothing (steps.or_unit t)
unit_or_tracks None = unit_tracks
unit_or_tracks (Some t) = parts.tracks_pure t

answer_tracks : (k : Option CoroutineKind) (t : Option TypeRefId) → parts.SideOutput nothing (steps.answer_form k t)
answer_tracks None t = parts.tracks_pure t
answer_tracks (Some k) t = parts.tracks_begin (parts.tracks_begin (unit_or_tracks t)
    (λ given. parts.tracks_begin (tracks_type _ None) (λ p. tracks_type _ None))) (λ i. parts.tracks_pure (Some i))

output_tracks : (k : Option CoroutineKind) (r : OptionRet) → parts.SideOutput (tracked_in_output r) (steps.output_type k r)
output_tracks k r = parts.tracks_end (ret_tracks r) (λ t. answer_tracks k t)

-- what costs that is answered

abbrev pub by_impl : TypeRefId → Option TraitRef → Cost
by_impl self trait_ q = q.types self + a_trait trait_ q

abbrev pub by_alias : List TypeBound → Option TypeRefId → Cost
by_alias bs ty q = bounds bs q + maybe_type ty q

abbrev pub by_function : List TypeRefId → Option TypeRefId → Cost
by_function args ret q = types args q + maybe_type ret q

module _ (S : Sort) (L : Leaves S) where
  -- implementations, traits and aliases

  pub impl_counts : (def : GenericDefId) (x : Impl) → Counts S free (λ a. by_impl a.0 a.1) (steps.lower_impl def x)
  impl_counts def x = counts_then S (type_counts S L x.self_type) (λ self.
      counts_then S (counts_beside S (a_type self) (part_counts S (L.trait_is x.trait_) (trait_tracks x.trait_))) (λ t.
      counts_then S (counts_kept S (by_impl self t) (generics_count S L def x.generics)) (λ u.
      counts_pure S (self, t) (λ q. omega arith))))

  pub trait_counts : (def : GenericDefId) (x : Trait) → Counts S free (λ a. free) (steps.lower_trait def x)
  trait_counts def x = counts_then S (self_counts S L def x.bounds) (λ u. generics_count S L def x.generics)

  missing_counts : (f : Option (Pointer × MissingBodyItemKind)) → Counts S free (λ a. free) (steps.report_missing f)
  missing_counts None = nothing_counts S tt
  missing_counts (Some f) = fault_counts S L _

  bounds_count : (done : List TypeBound) (bs : Bounds) → Counts S (bounds done) bounds (lower_bounds done bs)
  bounds_count done tree.no_bounds = counts_pure S done (λ q. omega arith)
  bounds_count done (tree.more_bounds b bs) = counts_then S (counts_beside S (bounds done) (bound_counts S L b)) (λ y.
      counts_as S (λ q. let e = each_append (λ b. a_bound b q) done (y ∷ []) in omega (arith, e)) (λ a q. omega arith)
      (bounds_count (done ++ y ∷ []) bs))

  pub alias_counts : (def : GenericDefId) (x : Alias) → Counts S free (λ a. by_alias a.0 a.1) (steps.lower_alias def x)
  alias_counts def x = counts_then S (bounds_count [] x.bounds) (λ bs.
      counts_then S (counts_kept S (bounds bs) (generics_count S L def x.generics)) (λ u.
      counts_then S (counts_beside S (bounds bs) (present_counts S L x.type_)) (λ t.
      counts_then S (counts_kept S (by_alias bs t) (missing_counts x.missing)) (λ v.
      counts_pure S (bs, t) (λ q. omega arith)))))

  -- functions

  report_counts : (x : Argument) → Counts S free (λ a. free) (steps.report_inactive x)
  report_counts (item.disabled_argument at by) = fault_counts S L _
  report_counts item.variadic_argument = nothing_counts S tt
  report_counts (item.argument t) = nothing_counts S tt

  reports_count : (xs : List Argument) → Counts S free (λ a. free) (steps.report_each xs)
  reports_count [] = nothing_counts S tt
  reports_count (x ∷ xs) = counts_then S (report_counts x) (λ u. reports_count xs)

  receiver_counts : (r : Receiver) → Counts S free maybe_type (steps.lower_receiver r)
  receiver_counts item.no_receiver = counts_pure S None (λ q. omega arith)
  receiver_counts (item.disabled_receiver at by) = counts_then S (fault_counts S L _) (λ u. counts_pure S None (λ q. omega arith))
  receiver_counts (item.typed_receiver t) =
      counts_then S (type_counts S L (tree.some_type t)) (λ i. counts_pure S (Some i) (λ q. omega arith))
  receiver_counts (item.self_receiver borrow l) =
      counts_then S (part_counts S (L.self_is borrow l) (self_tracks borrow l)) (λ i. counts_pure S (Some i) (λ q. omega arith))

  argument_counts : (x : Argument) → Counts S free maybe_type (steps.argument_type x)
  argument_counts (item.disabled_argument at by) = counts_pure S None (λ q. omega arith)
  argument_counts item.variadic_argument = counts_pure S None (λ q. omega arith)
  argument_counts (item.argument t) = counts_then S (type_counts S L t) (λ i. counts_pure S (Some i) (λ q. omega arith))

  pushed_less : (done : List TypeRefId) (t : Option TypeRefId) (q : Meter) → types (push_some done t) q ≤ types done q + maybe_type t q
  pushed_less done None q = omega arith
  pushed_less done (Some t) q = let e = each_append q.types done (t ∷ []) in omega (arith, e)

  -- one more than these, and what comes after
  pushed_then : {B : Type 0} {now : B → Cost} {p : Lowering (Option TypeRefId)} (done : List TypeRefId)
      (k : List TypeRefId → Lowering B) → Counts S free maybe_type p → ((ts : List TypeRefId) → Counts S (types ts) now (k ts))
      → Counts S (types done) now (p >>= (λ t. k (push_some done t)))
  pushed_then done k h g = counts_then S (counts_beside S (types done) h)
      (λ t. counts_as S (λ q. pushed_less done t q) (λ a q. omega arith) (g (push_some done t)))

  arguments_count : (xs : List Argument) (done : List TypeRefId) → Counts S (types done) types (steps.argument_types done xs)
  arguments_count [] done = counts_pure S done (λ q. omega arith)
  arguments_count (x ∷ xs) done =
      pushed_then done (λ ts. steps.argument_types ts xs) (argument_counts x) (λ ts. arguments_count xs ts)

  inputs_count : (r : Receiver) (xs : List Argument) → Counts S free types (steps.input_types r xs)
  inputs_count r xs = pushed_then [] (λ ts. steps.report_each xs >>= (λ u. steps.argument_types ts xs)) (receiver_counts r)
      (λ ts. counts_then S (counts_kept S (types ts) (reports_count xs)) (λ u. arguments_count xs ts))

  pub function_counts : (def : GenericDefId) (x : Function)
      → Counts S free (λ a. by_function a.args a.ret) (steps.lower_function def x)
  function_counts def x = counts_then S (generics_count S L def x.generics) (λ u. counts_then S (inputs_count x.receiver x.arguments)
      (λ args. counts_then S (counts_beside S (types args) (part_counts S (L.output_is x.kind x.ret) (output_tracks x.kind x.ret)))
      (λ ret. counts_pure S _ (λ q. omega arith))))
