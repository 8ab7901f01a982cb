-- How something is claimed of steps that read parts of an item, one after another: of each part, and of what stands in front of others.
use Rattle.std.proofs.Common.{◌≡◌, refl, ℕ, sym, subst, List, [], ◌∷◌, ◌++◌, append-nil, append_assoc, None, Ok}
use Rattle.std.proofs.Common.{Err}
use Rattle.hir_store.specs.Pointers.{Pointer}
use Rattle.hir_store.specs.declared.diagnostics.ExpressionStoreDiagnostics.{ExpressionStoreDiagnostics}
use Rattle.hir_store.specs.declared.generics.LifetimeParamData.{LifetimeParamData}
use Rattle.hir_store.specs.declared.generics.TypeOrConstParamData.{TypeOrConstParamData}
use Rattle.hir_store.specs.declared.generics.WherePredicate.{WherePredicate}
use Rattle.hir_store.specs.declared.type_ref.LifetimeRef.{LifetimeRef}
use Rattle.hir_store.specs.declared.type_ref.LifetimeRef.TheVariants as lifetime
use Rattle.hir_store.specs.declared.type_ref.TypeRef.{TypeRef}
use Rattle.hir_store.specs.declared.type_ref.TypeRef.TheVariants as type
use Rattle.hir_env.specs.declared.ctx.LifetimeScope.TheVariants as scope
use Rattle.hir_env.specs.ResolvedTree.{Bound, Constant, Lifetime, OptionPath, Type_}
use Rattle.spec_data.specs.Data.{Shape}
use Rattle.hir_lower_builder.specs.Builder.{Builder, new_builder}
use Rattle.hir_lower_builder.specs.Generics.{naming, with_predicate}
use Rattle.hir_lower_builder.specs.declared.generics.SideOutput.{SideOutput}
use Rattle.hir_lower_builder.specs.Lowering.{Checked, go_on, Lowering, ◌>>=◌, pure, add_lifetime_param, add_param, add_predicate}
use Rattle.hir_lower_builder.specs.Lowering.{alloc_lifetime, alloc_type, track_down, report}
use Rattle.hir_lower_builder.specs.Lower.{lower_bound, lower_constant, lower_path, lower_type}
use Rattle.hir_lower_builder.specs.Types.{lower_lifetime}
use Rattle.hir_lower_item.specs.Lower.{stored_trait}
use Rattle.thm_logic.specs.Keeps.{Paired}
use Rattle.thm_logic.proofs.Tracked.{KeepsParams, naming_keeps}
use Rattle.thm_item_result.specs.Parts as part
use Rattle.thm_item_result.specs.Parts.{Part}

-- What is noted besides: there are as many parameters as before, and the same lifetime parameters.
pub record Beside (f : SideOutput → SideOutput) : Type 0 where
  pub params : KeepsParams f
  pub lifetimes : (n : SideOutput) → (f n).generics.lifetimes ≡ n.generics.lifetimes

-- a type in which no pattern stands
abbrev pub Patternless : TypeRef → Type 0
Patternless (type.Pattern t p) = ⊥
Patternless t = Unit {0}

pub record Reading : Type 1 where
  -- of steps that read these parts and nothing else, and of steps that read one
  pub Claim : {A : Type 0} → List Part → Lowering A → Type 0
  pub One : {A : Type 0} → Part → Lowering A → Type 0
  pub pure_is : {A : Type 0} (a : A) → Claim [] (pure a)
  -- one in front of others
  pub one_is : {A B : Type 0} {x : Part} {ys : List Part} {p : Lowering A} {f : A → Lowering B} → One x p → ((a : A) → Claim ys (f a))
      → Claim (x ∷ ys) (p >>= f)
  -- what is noted besides in front of others
  pub tracked_is : {B : Type 0} {ys : List Part} (f : SideOutput → SideOutput) → Beside f → {k : Unit {0} → Lowering B}
      → ((u : Unit {0}) → Claim ys (k u)) → Claim ys (track_down f >>= k)
  pub type_is : (t : Type_) → One (part.type_read t) (lower_type None t)
  pub made_is : (t : TypeRef) (shape : Shape) → Patternless t → One (part.type_made shape) (alloc_type t None)
  pub bound_is : (b : Bound) → One (part.bound_read b) (lower_bound b)
  pub trait_is : (at : Pointer) (p : OptionPath) → One (part.trait_read at p) (lower_path p >>= stored_trait at)
  pub constant_is : (c : Constant) → One (part.constant_read c) (lower_constant c)
  pub lifetime_is : (l : Lifetime) → One (part.lifetime_read l) (lower_lifetime l)
  pub made_lifetime_is : (l : LifetimeRef) → One (part.lifetime_made l) (alloc_lifetime l None)
  pub fault_is : (d : ExpressionStoreDiagnostics) → One (part.fault_emitted d) (report d)
  pub param_is : (x : TypeOrConstParamData) → One part.param_made (add_param x)
  pub lifetime_param_is : (x : LifetimeParamData) → One part.lifetime_param_made (add_lifetime_param x)

-- steps in another order of brackets

pub bind_assoc : {A B C : Type 0} (p : Lowering A) (f : A → Lowering B) (g : B → Lowering C)
    → ((p >>= f) >>= g) ≡ (p >>= (λ a. f a >>= g))
bind_assoc {A = A} {C = C} p f g = λ j b. by (p b).0 (p b).1 j
  where
    by : (o : Checked A) (c : Builder) → go_on (go_on o c f).0 (go_on o c f).1 g ≡ go_on o c (λ a. f a >>= g)
    by (Ok a) c = refl
    by (Err e) c = refl

pub bind_pure : {A : Type 0} (p : Lowering A) → (p >>= (λ a. pure a)) ≡ p
bind_pure {A = A} p = λ j b. by (p b).0 (p b).1 j
  where
    by : (o : Checked A) (c : Builder) → go_on o c (λ a. pure a) ≡ (o, c)
    by (Ok a) c = refl
    by (Err e) c = refl

-- a name makes no parameter
naming_beside : (l : LifetimeRef) (n : SideOutput) → (naming scope.Bound l n).generics.lifetimes ≡ n.generics.lifetimes
naming_beside (lifetime.Named x) n = refl
naming_beside lifetime.Static n = refl
naming_beside lifetime.Placeholder n = refl
naming_beside lifetime.Error n = refl

module _ (R : Reading) where
  -- they read these parts in front of what comes after
  pub record Reads {A : Type 0} (xs : List Part) (p : Lowering A) : Type 1 where
    pub reads : {B : Type 0} (ys : List Part) (f : A → Lowering B) → ((a : A) → R.Claim ys (f a)) → R.Claim (xs ++ ys) (p >>= f)

  -- and nothing else
  pub whole : {A : Type 0} {xs : List Part} {p : Lowering A} → Reads xs p → R.Claim xs p
  whole {A = A} {xs = xs} {p = p} h = subst (λ q. R.Claim xs q) (bind_pure p)
      (subst (λ ys. R.Claim ys (p >>= (λ a. pure a))) (append-nil xs) (h.reads [] (λ a. pure a) (λ a. R.pure_is a)))

  pub one : {A : Type 0} {x : Part} {p : Lowering A} → R.One x p → Reads (x ∷ []) p
  one h = record { reads = λ ys f k. R.one_is h k }

  tracked : (f : SideOutput → SideOutput) → Beside f → Reads [] (track_down f)
  tracked f h = record { reads = λ ys k more. R.tracked_is f h more }

  pub predicate : (x : WherePredicate) → Reads [] (add_predicate x)
  unfolding add_predicate
  predicate x = tracked (with_predicate x) (record { params = λ n. refl; lifetimes = λ n. refl })

  pub named_in_bound : (l : LifetimeRef) → Reads [] (track_down (naming scope.Bound l))
  named_in_bound l = tracked (naming scope.Bound l) (record { params = naming_keeps scope.Bound l; lifetimes = naming_beside l })

  pub none : {A : Type 0} (a : A) → Reads [] (pure a)
  none a = record { reads = λ ys f k. k a }

  -- the steps of these parts, and then those of the others
  pub next : {A B : Type 0} {xs ys : List Part} {p : Lowering A} {f : A → Lowering B} → Reads xs p → ((a : A) → Reads ys (f a))
      → Reads (xs ++ ys) (p >>= f)
  next {xs = xs} {ys = ys} {p = p} {f = f} h k = record {
    reads = λ zs g more. subst (λ ws. R.Claim ws ((p >>= f) >>= g)) (sym (append_assoc xs ys zs))
        (subst (λ q. R.Claim (xs ++ (ys ++ zs)) q) (sym (bind_assoc p f g))
        (h.reads (ys ++ zs) (λ a. f a >>= g) (λ a. (k a).reads zs g more)));
  }

-- nothing is stored yet
pub nothing_paired : (limit : ℕ) → Paired (new_builder limit).stored
nothing_paired limit = record { exprs = refl; labels = refl; pats = refl; types = refl; lifetimes = refl }
