-- How the parts of an item are read, one after another: what is claimed of steps that read some parts, and of what an item makes beside
-- them that is known what it reads back as.
use Rattle.std.proofs.Common.{◌≡◌, subst, List, [], ◌∷◌, ◌++◌, append-nil, Option, Some, None}
use Rattle.hir_store.specs.Pointers.{Pointer}
use Rattle.hir_store.specs.Stored.{Stored}
use Rattle.hir_store.specs.declared.diagnostics.ExpressionStoreDiagnostics.{ExpressionStoreDiagnostics}
use Rattle.hir_store.specs.declared.generics.LifetimeParamData.{LifetimeParamData}
use Rattle.hir_store.specs.declared.generics.TypeOrConstParamData.{TypeOrConstParamData}
use Rattle.hir_store.specs.declared.generics.WherePredicate.{WherePredicate}
use Rattle.hir_store.specs.declared.hir.CoroutineKind.{CoroutineKind}
use Rattle.hir_store.specs.declared.hir.Mutability.{Mutability}
use Rattle.hir_store.specs.declared.ids.LifetimeRefId.{LifetimeRefId}
use Rattle.hir_store.specs.declared.ids.TypeRefId.{TypeRefId}
use Rattle.hir_store.specs.declared.type_ref.LifetimeRef.{LifetimeRef}
use Rattle.hir_store.specs.declared.type_ref.TraitBoundModifier.TheVariants as modifier
use Rattle.hir_store.specs.declared.type_ref.TypeBound.TheVariants as bound
use Rattle.hir_store.specs.declared.type_ref.TypeRef.{TypeRef}
use Rattle.hir_store.specs.declared.type_ref.TypeRef.TheVariants as type
use Rattle.hir_env.specs.declared.ctx.LifetimeScope.TheVariants as scope
use Rattle.hir_env.specs.ResolvedTree as tree
use Rattle.hir_env.specs.ResolvedTree.{Bound, Constant, Lifetime, OptionPath, OptionType, Type_}
use Rattle.spec_data.specs.Data.{Shape, TypeData, error_shape, no_types, tuple_shape}
use Rattle.spec_data.specs.Reading.{Readers}
use Rattle.spec_data.specs.Written.{unit_data, written_type}
use Rattle.hir_lower_builder.specs.Generics.{naming}
use Rattle.hir_lower_builder.specs.Lowering.{Lowering, ◌>>=◌, pure, add_lifetime_param, add_param, add_predicate, alloc_lifetime}
use Rattle.hir_lower_builder.specs.Lowering.{alloc_type}
use Rattle.hir_lower_builder.specs.Lowering.{track_down, report}
use Rattle.hir_lower_builder.specs.Lower.{lower_bound, lower_constant, lower_path, lower_type, type_part}
use Rattle.hir_lower_builder.specs.Types.{error_type, lower_lifetime, lower_lifetime_option, unit_type}
use Rattle.hir_lower_item.specs.Lower as steps
use Rattle.hir_lower_item.specs.Lower.{stored_trait}
use Rattle.thm_round_trip.proofs.Layers.{a_shape}
use Rattle.thm_item_result.specs.Parts as part
use Rattle.thm_item_result.specs.Parts.{Part, coroutine_parts, lifetime_parts, self_parts, type_parts}
use Rattle.thm_item_result.proofs.Reading as reading
use Rattle.thm_item_result.proofs.Reading.{Patternless, Reading}

-- a path with what a coroutine gives, and an `impl` of it
abbrev pub coroutine_of : CoroutineKind → TypeRefId → Lowering TypeRefId
coroutine_of k given = alloc_type (type.Path (steps.coroutine_path k given)) None
    >>= (λ p. alloc_type (type.ImplTrait (bound.Path p modifier.None ∷ [])) None)

pub record Walk : Type 2 where
  -- of steps that read these parts, in front of others, and of those that read nothing else
  pub Reads : {A : Type 0} → List Part → Lowering A → Type 1
  pub Claim : {A : Type 0} → List Part → Lowering A → Type 0
  pub whole : {A : Type 0} {xs : List Part} {p : Lowering A} → Reads xs p → Claim xs p
  pub none : {A : Type 0} (a : A) → Reads [] (pure a)
  pub next : {A B : Type 0} {xs ys : List Part} {p : Lowering A} {f : A → Lowering B} → Reads xs p → ((a : A) → Reads ys (f a))
      → Reads (xs ++ ys) (p >>= f)
  -- what is noted besides
  pub predicate : (x : WherePredicate) → Reads [] (add_predicate x)
  pub named_in_bound : (l : LifetimeRef) → Reads [] (track_down (naming scope.Bound l))
  -- of each part
  pub type_is : (t : Type_) → Reads (part.type_read t ∷ []) (lower_type None t)
  -- what reads back so by itself
  pub made_is : (t : TypeRef) (shape : Shape) → Patternless t → ((final : Stored) (r : Readers) → a_shape final r t ≡ shape)
      → Reads (part.type_made shape ∷ []) (alloc_type t None)
  pub bound_is : (b : Bound) → Reads (part.bound_read b ∷ []) (lower_bound b)
  pub trait_is : (at : Pointer) (p : OptionPath) → Reads (part.trait_read at p ∷ []) (lower_path p >>= stored_trait at)
  pub constant_is : (c : Constant) → Reads (part.constant_read c ∷ []) (lower_constant c)
  pub lifetime_is : (l : Lifetime) → Reads (part.lifetime_read l ∷ []) (lower_lifetime l)
  pub made_lifetime_is : (l : LifetimeRef) → Reads (part.lifetime_made l ∷ []) (alloc_lifetime l None)
  pub fault_is : (d : ExpressionStoreDiagnostics) → Reads (part.fault_emitted d ∷ []) (report d)
  pub param_is : (x : TypeOrConstParamData) → Reads (part.param_made ∷ []) (add_param x)
  pub lifetime_param_is : (x : LifetimeParamData) → Reads (part.lifetime_param_made ∷ []) (add_lifetime_param x)
  -- what reads back so by what stands in it
  pub self_is : (borrow : Option Mutability) (l : Option Lifetime) → Reads (self_parts borrow l) (steps.self_form borrow l)
  pub coroutine_is : (k : CoroutineKind) (t : OptionType)
      → Reads (type_parts t ++ coroutine_parts k (written_type t)) (type_part None t >>= coroutine_of k)
  pub unit_coroutine_is : (k : CoroutineKind)
      → Reads (part.type_made (tuple_shape no_types) ∷ coroutine_parts k unit_data) (unit_type >>= coroutine_of k)

module _ (W : Walk) where
  -- nothing is read in what comes after
  pub ends : {A B : Type 0} {xs : List Part} {p : Lowering A} {f : A → Lowering B} → W.Reads xs p → ((a : A) → W.Reads [] (f a))
      → W.Reads xs (p >>= f)
  ends {xs = xs} {p = p} {f = f} h k = subst (λ ys. W.Reads ys (p >>= f)) (append-nil xs) (W.next h k)

  -- so it is of what comes of an answer by itself
  pub maps : {A B : Type 0} {xs : List Part} {p : Lowering A} (f : A → B) → W.Reads xs p → W.Reads xs (p >>= (λ a. pure (f a)))
  maps f h = ends h (λ a. W.none (f a))

-- a walk of what is claimed in front of others

module _ (R : Reading) where
  pub part_type : (t : OptionType) → reading.Reads R (type_parts t) (type_part None t)
  unfolding error_type
  part_type tree.no_type = reading.one R (R.made_is type.Error error_shape tt)
  part_type (tree.some_type t) = reading.one R (R.type_is t)

  lifetime_option : (l : Option Lifetime) → reading.Reads R (lifetime_parts l) (lower_lifetime_option l)
  lifetime_option None = reading.none R None
  lifetime_option (Some l) = subst (λ xs. reading.Reads R xs (lower_lifetime_option (Some l))) (append-nil (lifetime_parts (Some l)))
      (reading.next R (reading.one R (R.lifetime_is l)) (λ i. reading.none R (Some i)))

  borrowed : (borrow : Option Mutability) (l : Option Lifetime) (self : TypeRefId) (id : Option LifetimeRefId)
      → reading.Reads R (part.borrow_parts borrow l) (steps.borrowed borrow self id)
  borrowed None l self id = reading.none R self
  borrowed (Some m) l self id =
      reading.one R (R.made_is (type.Reference (record { ty = self; lifetime = id; mutability = m })) _ tt)

  pub self_form : (borrow : Option Mutability) (l : Option Lifetime) → reading.Reads R (self_parts borrow l) (steps.self_form borrow l)
  self_form borrow l = reading.next R (reading.one R (R.made_is steps.self_path _ tt))
      (λ self. reading.next R (lifetime_option l) (λ id. borrowed borrow l self id))

  pub coroutine : (k : CoroutineKind) (given : TypeRefId) (x : TypeData) → reading.Reads R (coroutine_parts k x) (coroutine_of k given)
  coroutine k given x = reading.next R (reading.one R (R.made_is (type.Path (steps.coroutine_path k given)) _ tt))
      (λ p. reading.one R (R.made_is (type.ImplTrait (bound.Path p modifier.None ∷ [])) _ tt))

  pub unit_coroutine : (k : CoroutineKind)
      → reading.Reads R (part.type_made (tuple_shape no_types) ∷ coroutine_parts k unit_data) (unit_type >>= coroutine_of k)
  unfolding unit_type
  unit_coroutine k = reading.next R (reading.one R (R.made_is (type.Tuple []) _ tt)) (λ given. coroutine k given unit_data)

  unfoldable pub walking : Walk
  walking = record {
    Reads = λ xs p. reading.Reads R xs p;
    Claim = λ xs p. R.Claim xs p;
    whole = λ h. reading.whole R h;
    none = λ a. reading.none R a;
    next = λ h k. reading.next R h k;
    predicate = λ x. reading.predicate R x;
    named_in_bound = λ l. reading.named_in_bound R l;
    type_is = λ t. reading.one R (R.type_is t);
    made_is = λ t shape h e. reading.one R (R.made_is t shape h);
    bound_is = λ b. reading.one R (R.bound_is b);
    trait_is = λ at p. reading.one R (R.trait_is at p);
    constant_is = λ c. reading.one R (R.constant_is c);
    lifetime_is = λ l. reading.one R (R.lifetime_is l);
    made_lifetime_is = λ l. reading.one R (R.made_lifetime_is l);
    fault_is = λ d. reading.one R (R.fault_is d);
    param_is = λ x. reading.one R (R.param_is x);
    lifetime_param_is = λ x. reading.one R (R.lifetime_param_is x);
    self_is = self_form;
    coroutine_is = λ k t. reading.next R (part_type t) (λ given. coroutine k given (written_type t));
    unit_coroutine_is = unit_coroutine;
  }
