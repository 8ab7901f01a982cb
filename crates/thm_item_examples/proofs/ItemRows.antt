-- Small traits, implementations and aliases, computed.
use Rattle.std.proofs.Common.{◌≡◌, ◌∙◌, refl, ap, ℕ, codes, List, [], ◌∷◌, Option, Some, None}
use Rattle.hir_syntax.specs.declared.ast.ElseBranch.TheOpen.{TypeKind-F}
use Rattle.hir_syntax.specs.declared.ast.PathSegment.{PathSegment as AstPathSegment}
use Rattle.hir_syntax.specs.declared.types.TypeKind.{out-roll-TypeKind}
use Rattle.hir_syntax.specs.declared.types.Type_.{Type_ as AstType}
use Rattle.hir_store.specs.Pointers.{Pointer}
use Rattle.hir_store.specs.declared.diagnostics.MissingBodyItemKind.{MissingBodyItemKind}
use Rattle.hir_store.specs.declared.ids.GenericDefId.{GenericDefId}
use Rattle.hir_store.specs.declared.ids.ItemContainerId.{ItemContainerId}
use Rattle.hir_store.specs.declared.ids.ItemContainerId.TheVariants as holder
use Rattle.hir_env.specs.ResolvedTree as tree
use Rattle.hir_env.specs.ResolvedTree.{Bounds, OptionType, Segment, Type_}
use Rattle.hir_env.specs.ResolveCtx.{ResolveCtx}
use Rattle.hir_env.specs.TypeLayers.{PathTypeReading, TypeKindLayer}
use Rattle.hir_env.specs.Whole.{resolved_segment, written}
use Rattle.hir_lower_item.specs.Answering.{resolved_alias, resolved_generics, resolved_impl, at_place, in_bounds, in_opaque, in_plain}
use Rattle.hir_lower_item.specs.Answering.{in_self_bounds}
use Rattle.hir_lower_item.specs.Answering.{in_target, missing_type, required_type, trait_by, trait_of}
use Rattle.hir_lower_item.specs.Items as item
use Rattle.hir_lower_item.specs.Items.{Alias, Generics, Impl, Trait}
use Rattle.spec_data.specs.Trees.{bare_segment, impl_at, never_at, pointer, type_at}
use Rattle.spec_data.proofs.Trees.{never_is, path_made, segment_made}
use Rattle.thm_item_examples.specs.Trees.{broken_named, enabled, path_at, trait_at, with_impl}
use Rattle.thm_item_examples.specs.Read.{alias_seen, impl_seen, trait_read}
use Rattle.thm_item_examples.specs.Expected.{text}
use Rattle.thm_item_examples.specs.ItemRows.{AliasesAreRead, ImplementationsAreRead, OtherTraitsAreNone, TraitsAreRead}
use Rattle.thm_item_examples.specs.ItemRows.{impl_of, never_of_b, t_of_a, with_type}
use Rattle.thm_item_examples.proofs.Levels.{aliased}
use Rattle.thm_item_examples.proofs.Small.{a_at, around_is, b_at, b_in, impl_b, inside_in, inside_is, one, trait_a, trait_b}

module _ (at : ResolveCtx) (def : GenericDefId) where
  abbrev pub bound_at : ResolveCtx
  bound_at = at_place (in_bounds def) (enabled at)

  abbrev opaque_at : ResolveCtx
  opaque_at = at_place in_opaque (enabled at)

  abbrev plainly : ResolveCtx
  plainly = at_place in_plain (enabled at)

  abbrev self_at : ResolveCtx
  self_at = at_place (in_self_bounds def) (enabled at)

  abbrev nothing : Generics
  nothing = record { params = []; predicates = [] }

  -- `<T: A>`, and with `where !: B`
  abbrev t_by : Bounds → List item.Param
  t_by bs = item.type_param (text (codes "T")) tree.no_type bs ∷ []

  abbrev both_by : Bounds → Type_ → Bounds → Generics
  both_by bs t cs = record { params = t_by bs; predicates = item.of_type t None cs ∷ [] }

  abbrev pub both : Generics
  both = both_by (one (a_at bound_at 7)) (tree.leaf_type (pointer at 1) tree.never_leaf) (one (b_at bound_at 2))

  pub both_are : resolved_generics (enabled at) def (Some t_of_a) (Some never_of_b) ≡ both
  both_are = λ i. both_by (one (trait_a bound_at 7 i)) (never_is (at_place in_target (enabled at)) 1 i) (one (trait_b bound_at 2 i))

  -- the trait of an `impl`

  -- by one level of it
  trait_kind : (n : ℕ) (k : TypeKindLayer written) → trait_of opaque_at (Some (type_at n k)) ≡ trait_by opaque_at (pointer at n) k
  trait_kind n k = ap (trait_by opaque_at (pointer at n)) (out-roll-TypeKind k)

  trait_path : (n : ℕ) (s : AstPathSegment) {x : Segment} → resolved_segment opaque_at s ≡ x
      → trait_of opaque_at (Some (path_at n s))
      ≡ Some (record { pointer = pointer at n; path = tree.some_path (aliased opaque_at x) })
  trait_path n s h = trait_kind n _
      ∙ (ap (λ p. Some (record { pointer = pointer at n; path = tree.some_path p })) (path_made opaque_at _)
      ∙ ap (λ x. Some (record { pointer = pointer at n; path = tree.some_path (aliased opaque_at x) })) h)

  -- what is read of the whole

  abbrev impl_with : OptionType → Option PathTypeReading → Generics → Impl
  impl_with t u g = record { self_type = t; trait_ = u; generics = g }

  -- for `!`, of a trait that is read so
  for_never : (t : AstType) {u : Option PathTypeReading} → trait_of opaque_at (Some t) ≡ u
      → impl_seen def (resolved_impl (enabled at) def (impl_of (Some (never_at 3)) (Some t) None None))
      ≡ impl_seen def (impl_with (tree.some_type (tree.leaf_type (pointer at 3) tree.never_leaf)) u nothing)
  for_never t h = λ i. impl_seen def (impl_with (tree.some_type (never_is plainly 3 i)) (h i) nothing)

  abbrev alias_with : Bounds → Generics → OptionType → Option (Pointer × MissingBodyItemKind) → Alias
  alias_with bs g t m = record { bounds = bs; generics = g; type_ = t; missing = m }

  -- with a type, and without one
  typed_in : (c : ItemContainerId)
      → alias_seen def (resolved_alias (enabled at) def c (with_type at def (Some (impl_at 8 (bare_segment (codes "B"))))))
      ≡ alias_seen def (alias_with (one (inside_in opaque_at)) both (tree.some_type (b_in opaque_at 8)) None)
  typed_in c = λ i. alias_seen def
      (alias_with (one (inside_is opaque_at i)) (both_are i) (tree.some_type (impl_b opaque_at 8 i)) None)

  abbrev owed : ItemContainerId → Option (Pointer × MissingBodyItemKind)
  owed c = missing_type (pointer at 0) None (required_type c)

  typeless_in : (c : ItemContainerId)
      → alias_seen def (resolved_alias (enabled at) def c (with_type at def None))
      ≡ alias_seen def (alias_with (one (inside_in opaque_at)) both tree.no_type (owed c))
  typeless_in c = λ i. alias_seen def (alias_with (one (inside_is opaque_at i)) (both_are i) tree.no_type (owed c))

abbrev trait_with : Bounds → Generics → Trait
trait_with bs g = record { bounds = bs; generics = g }

pub reads_traits : TraitsAreRead
reads_traits at def = record {
  bounded = λ i. trait_read def (trait_with (one (trait_a (self_at at def) 3 i)) (nothing at def));
  whole = λ i. trait_read def (trait_with (one (inside_is (self_at at def) i)) (both_are at def i));
  boundless = λ i. trait_read def
      (trait_with tree.no_bounds (record { params = t_by at def (one (trait_a (bound_at at def) 7 i)); predicates = [] }));
}

pub reads_implementations : ImplementationsAreRead
reads_implementations at def = record {
  whole = λ i. impl_seen def (impl_with at def (tree.some_type (never_is (plainly at def) 3 i))
      (trait_path at def 4 with_impl (around_is (opaque_at at def)) i) (both_are at def i));
  lacking = refl;
  of_impl = λ i. impl_seen def (impl_with at def (tree.some_type (impl_b (plainly at def) 3 i)) None (nothing at def));
}

pub reads_other_traits_as_none : OtherTraitsAreNone
reads_other_traits_as_none at def = record {
  never = for_never at def _ (trait_kind at def 4 TypeKind-F.NeverType);
  parens = for_never at def _ (trait_kind at def 4 (TypeKind-F.ParenType (Some (path_at 4 with_impl))));
  dyn_ = for_never at def _ (trait_kind at def 4 (TypeKind-F.DynTraitType (trait_at 4 with_impl ∷ [])));
  pathless = for_never at def _ (trait_kind at def 4 (TypeKind-F.PathType None));
  refused = for_never at def _ (trait_path at def 4 broken_named (segment_made (opaque_at at def) _));
}

pub reads_aliases : AliasesAreRead
reads_aliases at def m i t e = record {
  in_module = typed_in at def (holder.ModuleId m);
  in_impl = typed_in at def (holder.ImplId i);
  in_trait = typed_in at def (holder.TraitId t);
  in_extern = typed_in at def (holder.ExternBlockId e);
  lacks_in_module = typeless_in at def (holder.ModuleId m);
  lacks_in_impl = typeless_in at def (holder.ImplId i);
  lacks_in_trait = typeless_in at def (holder.TraitId t);
  lacks_in_extern = typeless_in at def (holder.ExternBlockId e);
}
