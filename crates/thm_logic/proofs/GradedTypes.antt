-- What is done with the parts of types, paths, arguments and bounds, by what is told of the parts: one lemma a form, for all claims.
use Rattle.std.proofs.Common.{refl, subst, Bool, not, List, [], ◌∷◌, Option, Some, None, is_some}
use Rattle.hir_store.specs.Pointers.{Pointer}
use Rattle.hir_store.specs.declared.hir.Mutability.{Mutability}
use Rattle.hir_store.specs.declared.ids.TypeRefId.{TypeRefId}
use Rattle.hir_store.specs.declared.ids.LifetimeRefId.{LifetimeRefId}
use Rattle.hir_store.specs.declared.ids.PatId.{PatId}
use Rattle.hir_store.specs.declared.name.Name.{Name}
use Rattle.hir_store.specs.declared.path.Path.{Path as HirPath}
use Rattle.hir_store.specs.declared.path.GenericArgs.{GenericArgs}
use Rattle.hir_store.specs.declared.type_ref.ConstRef.{ConstRef}
use Rattle.hir_store.specs.declared.type_ref.TypeBound.{TypeBound}
use Rattle.hir_store.specs.declared.type_ref.UseArgRef.{UseArgRef}
use Rattle.hir_store.specs.declared.type_ref.TypeRef.TheVariants as ty
use Rattle.hir_env.specs.declared.ctx.ImplTrait.{ImplTrait}
use Rattle.hir_env.specs.ResolvedTree as tree
use Rattle.hir_env.specs.ResolvedTree.{Binder, FnHead, Lifetime, TypeUnary, UseRead}
use Rattle.hir_lower_builder.specs.declared.walk.PathWalk.{PathWalk}
use Rattle.hir_lower_builder.specs.declared.walk.Reading.{Reading}
use Rattle.hir_lower_builder.specs.declared.walk.Reading.TheVariants.{Refused, Ended, Open}
use Rattle.hir_lower_builder.specs.Forms.{ExprSteps}
use Rattle.hir_lower_builder.specs.Lowering.{Lowering, ◌>>=◌, alloc_type}
use Rattle.hir_lower_builder.specs.Walks.{supers, super_read}
use Rattle.hir_lower_builder.specs.Pats.{Table}
use Rattle.hir_lower_builder.specs.Paths as steps
use Rattle.hir_lower_builder.specs.Paths.{proceed, whole, or_count_out, with_trait, parens_form, or_else, segment_args_form}
use Rattle.hir_lower_builder.specs.Types.{TypeSteps, error_type, unit_type, lower_lifetime, lower_lifetime_option, lower_use, lower_uses}
use Rattle.hir_lower_builder.specs.Types.{over_form, array_type_form, tuple_type_form, path_type_form, ref_type_form, fn_type_form}
use Rattle.hir_lower_builder.specs.Types.{impl_type_form, dyn_type_form, pattern_type_form, binding_form, path_bound_of, path_bound_form}
use Rattle.spec_data.specs.Data as datum
use Rattle.spec_data.specs.Data.{Shape, TypesData, typed}
use Rattle.spec_data.specs.Rule.{PathRead}
use Rattle.spec_data.specs.Written.{absent_data, lifetime_data, shape_of_path, unit_data}
use Rattle.thm_logic.specs.PathSeen.{Seen, Read, goes_on, after, one_more, projected}
use Rattle.thm_logic.proofs.PathAnswers.{walk_seen, seen_of, option_seen, Gives, GivesPath, Yields}
use Rattle.thm_logic.proofs.Tracked.{naming_keeps}
use Rattle.thm_logic.specs.Grading.{Grading, if_so, before, grade_impl, grade_lifetime, grade_use, grade_uses}
use Rattle.thm_logic.proofs.Answering.{Answering, answering_any, answering_pure, answering_then, anything}
use Rattle.thm_logic.proofs.Graded.{Graded, MadeEmitted, Emitted, map_is, next, pat_beside, emitted_any, emitted_pure, emitted_then}
use Rattle.thm_logic.proofs.GradedAnswers.{counted_gives, projected_is}

module _ {ℓ} {S : Grading {ℓ}} (L : Graded S) where
  -- where a path is read, and how far, what comes after is told by that

  pub emitted_by_path : {A : Type 0} {g : S.G} {x : Option Seen} {p : Lowering (Option HirPath)} {f : Option HirPath → Lowering A}
      (k : Option Seen → S.G) (P : Option Seen → A → Type 0) → Emitted L g (GivesPath x) p
      → ((o : Option HirPath) → Emitted L (k (option_seen o)) (P (option_seen o)) (f o)) → Emitted L (S.then' g (k x)) (P x) (p >>= f)
  emitted_by_path {f = f} k P h more = emitted_then L h (λ o e. subst (λ y. Emitted L (k y) (P y) (f o)) e (more o))

  pub claim_by_path : {A : Type 0} {g : S.G} {x : Option Seen} {p : Lowering (Option HirPath)} {f : Option HirPath → Lowering A}
      (k : Option Seen → S.G) → Emitted L g (GivesPath x) p → ((o : Option HirPath) → L.Claim (k (option_seen o)) (f o))
      → L.Claim (S.then' g (k x)) (p >>= f)
  claim_by_path k h more = (emitted_by_path k (λ y. anything) h (λ o. emitted_any L (more o))).claim

  pub hand_by_path : {t : Table} {g : S.G} {x : Option Seen} {p : Lowering (Option HirPath)}
      {f : Option HirPath → Lowering (PatId × Table)} (k : Option Seen → S.G) (P : Option Seen → PatId × Table → Type 0)
      → Emitted L g (GivesPath x) p → ((o : Option HirPath) → MadeEmitted L t (k (option_seen o)) (P (option_seen o)) (f o))
      → MadeEmitted L t (S.then' g (k x)) (P x) (p >>= f)
  hand_by_path {t = t} {f = f} k P h more = pat_beside L h (λ o e. subst (λ y. MadeEmitted L t (k y) (P y) (f o)) e (more o))

  pub target_by_path : {g : S.G} {x : Option Seen} {p : Lowering (Option HirPath)} {f : Option HirPath → Lowering PatId}
      (k : Option Seen → S.G) → Emitted L g (GivesPath x) p → ((o : Option HirPath) → L.MadePat (k (option_seen o)) (f o))
      → L.MadePat (S.then' g (k x)) (p >>= f)
  target_by_path {f = f} k h more = L.makes_pat_is h.claim h.known (λ o e. subst (λ y. L.MadePat (k y) (f o)) e (more o))

  -- where it is known what the path reads back as, too
  pub claim_of_path : {A : Type 0} {g : S.G} {x : Option Seen} {p : Lowering (Option HirPath)} {f : Option HirPath → Lowering A}
      (y : Option PathRead) (k : Option Seen → S.G) → Emitted L g (GivesPath x) p
      → L.Known (Option HirPath) p (λ final m m' o. L.reads.PathFound y o final m')
      → ((o : Option HirPath) → L.Where (λ final m a. L.reads.PathFound y o final m) (k (option_seen o)) (f o))
      → L.Claim (S.then' g (k x)) (p >>= f)
  claim_of_path {f = f} y k h reads more = L.where_known {K = λ o final m. L.reads.PathFound y o final m} h.claim h.known reads
      (λ o e. subst (λ z. L.Where (λ final m a. L.reads.PathFound y o final m) (k z) (f o)) e (more o))

  -- a type of that path
  pub type_of_path : (y : Option PathRead) (at : Pointer) (p : HirPath)
      → L.Where (λ final m i. L.reads.PathFound y (Some p) final m) (S.type_as (typed (Some at) (shape_of_path y)))
      (alloc_type (ty.Path p) (Some at))
  type_of_path y at p = L.where_less (L.reads.path_type_reads y at p) (L.where_type (L.type_is _ _ _))

  pub made_by_path : {g : S.G} {x : Option Seen} {p : Lowering (Option HirPath)} {f : Option HirPath → ExprSteps} (k : Option Seen → S.G)
      → Emitted L g (GivesPath x) p → ((o : Option HirPath) → L.Made (k (option_seen o)) (f o)) → L.Made (S.then' g (k x)) (p >>= f)
  made_by_path {f = f} k h more = L.makes_is h.claim h.known (λ o e. subst (λ y. L.Made (k y) (f o)) e (more o))

  -- types

  pub error_made : L.MadeType absent_data (S.type_as absent_data) error_type
  unfolding error_type
  error_made = L.type_is _ None _

  pub error_graded : L.Claim (S.type_as absent_data) error_type
  unfolding error_type
  error_graded = L.type_made_is (L.reads.error_reads None) (L.type_is _ None _)

  pub unit_graded : L.Claim (S.type_as unit_data) unit_type
  unfolding unit_type
  unit_graded = L.type_made_is L.reads.unit_reads (L.type_is _ None _)

  pub lifetime_graded : (l : Lifetime) → L.Claim (S.lifetime_as (lifetime_data l)) (lower_lifetime l)
  unfolding lower_lifetime
  lifetime_graded l = L.tracked_down_is _ (naming_keeps l.scope l.lifetime) (L.lifetime_is _ _)

  pub lifetime_option_graded : (l : Option Lifetime) → L.Claim (grade_lifetime S l) (lower_lifetime_option l)
  lifetime_option_graded None = L.pure_is None
  lifetime_option_graded (Some l) = map_is L _ (lifetime_graded l)

  use_graded : (u : UseRead) → L.Claim (grade_use S u) (lower_use u)
  use_graded (tree.used_name n) = L.pure_is _
  use_graded (tree.used_lifetime l) = map_is L _ (lifetime_graded l)

  pub uses_graded : (done : List UseArgRef) (us : List UseRead) → L.Claim (grade_uses S us) (lower_uses done us)
  uses_graded done [] = L.pure_is done
  uses_graded done (u ∷ us) = next L (use_graded u) (λ x. uses_graded _ us)

  -- of a type with these parts, from this node, that reads back in this shape
  module _ (at : Pointer) (shape : Shape) where
    abbrev It : S.G
    It = S.type_as (typed (Some at) shape)

    abbrev TypeGraded : S.G → TypeSteps → Type 0
    TypeGraded g t = L.MadeType (typed (Some at) shape) g t

    pub over_graded : (form : TypeUnary) {g : S.G} {t : TypeSteps} → L.Claim g t → TypeGraded (S.then' g It) (over_form at form t)
    unfolding over_form
    over_graded form h = L.makes_type_is h (λ t. L.type_is _ _ _)

    pub array_graded : {g k : S.G} {n : Lowering ConstRef} {t : TypeSteps} → L.Claim g n → L.Claim k t
        → TypeGraded (S.then' g (S.then' k It)) (array_type_form at n t)
    unfolding array_type_form
    array_graded h k = L.makes_type_is h (λ n. L.makes_type_is k (λ t. L.type_is _ _ _))

    pub tuple_graded : {g : S.G} {ts : Lowering (List TypeRefId)} → L.Claim g ts → TypeGraded (S.then' g It) (tuple_type_form at ts)
    unfolding tuple_type_form
    tuple_graded h = L.makes_type_is h (λ ts. L.type_is _ _ _)

    pub path_type_graded : {g : S.G} {p : Lowering (Option HirPath)} → L.Claim g p → TypeGraded (S.then' g It) (path_type_form at p)
    unfolding path_type_form
    path_type_graded h = L.makes_type_is h (λ p. L.type_is _ _ _)

    pub ref_graded : (mutability : Mutability) {g k : S.G} {t : TypeSteps} {l : Lowering (Option LifetimeRefId)} → L.Claim g t
        → L.Claim k l → TypeGraded (S.then' g (S.then' k It)) (ref_type_form at mutability t l)
    unfolding ref_type_form
    ref_graded mutability h k = L.makes_type_is h (λ t. L.makes_type_is k (λ l. L.type_is _ _ _))

    pub fn_graded : (binder : Option Binder) (head : FnHead) {g k : S.G} {ts : Lowering (List TypeRefId)} {r : TypeSteps} → L.Claim g r
        → L.Claim k ts → TypeGraded (S.then' g (S.then' k It)) (fn_type_form at binder head ts r)
    unfolding fn_type_form
    fn_graded binder head h k = L.makes_type_is h (λ r. L.makes_type_is k (λ ts. L.type_is _ _ _))

    pub impl_graded : (mode : ImplTrait) {g : S.G} {bs : Lowering (List TypeBound)} → L.Claim g bs
        → TypeGraded (S.then' g (grade_impl S mode (typed (Some at) shape))) (impl_type_form at mode bs)
    unfolding impl_type_form
    impl_graded mode h = L.makes_type_is h (λ bs. L.impl_is at mode bs shape)

    pub dyn_graded : {g : S.G} {bs : Lowering (List TypeBound)} → L.Claim g bs → TypeGraded (S.then' g It) (dyn_type_form at bs)
    unfolding dyn_type_form
    dyn_graded h = L.makes_type_is h (λ bs. L.type_is _ _ _)

    pub pattern_type_graded : {g k : S.G} {t : TypeSteps} {p : Lowering PatId} → L.Claim g t → L.Claim k p
        → TypeGraded (S.then' g (S.then' k It)) (pattern_type_form at t p)
    unfolding pattern_type_form
    pattern_type_graded h k = L.makes_type_is h (λ t. L.makes_type_is k (λ p. L.type_is _ _ _))

  -- bounds, and the trait of a path, which are types of paths

  module _ (y : Option PathRead) (at : Pointer) where
    bound_of_graded : (maybe : Bool) (binder : Binder) (p : Option HirPath)
        → L.Where (λ final m b. L.reads.PathFound y p final m)
        (if_so S (is_some (option_seen p)) (S.type_as (typed (Some at) (shape_of_path y)))) (path_bound_of at maybe binder p)
    bound_of_graded maybe binder None = L.where_any (L.pure_is _)
    bound_of_graded maybe binder (Some p) = L.where_end (type_of_path y at p) (λ i. L.pure_is _)

    pub path_bound_graded : (maybe : Bool) (binder : Binder) {g : S.G} {x : Option Seen} {p : Lowering (Option HirPath)}
        → Emitted L g (GivesPath x) p → L.Known (Option HirPath) p (λ final m m' o. L.reads.PathFound y o final m')
        → L.Claim (S.then' g (if_so S (is_some x) (S.type_as (typed (Some at) (shape_of_path y))))) (path_bound_form at maybe binder p)
    unfolding path_bound_form
    path_bound_graded maybe binder h reads = claim_of_path y (λ z. if_so S (is_some z) (S.type_as (typed (Some at) (shape_of_path y))))
        h reads (λ p. bound_of_graded maybe binder p)

  -- paths

  pub proceed_graded : (r : Reading) (read : Read) {f : PathWalk → Lowering Reading} (k : Seen → S.G) (q : Seen → Read) → Gives read r
      → ((w : PathWalk) → Emitted L (k (walk_seen w)) (Gives (q (walk_seen w))) (f w))
      → Emitted L (before S read k) (Gives (after read q)) (proceed r f)
  proceed_graded r read {f = f} k q e h = subst (λ x. Emitted L (before S x k) (Gives (after x q)) (proceed r f)) e (by r)
    where
      by : (r : Reading) → Emitted L (before S (seen_of r) k) (Gives (after (seen_of r) q)) (proceed r f)
      by Refused = emitted_pure L Refused refl
      by (Ended w) = emitted_pure L (Ended w) refl
      by (Open w) = h w

  pub whole_graded : {g : S.G} {read : Read} {p : Lowering Reading} {f : PathWalk → Lowering Reading} (k : Seen → S.G) (q : Seen → Read)
      → Emitted L g (Gives read) p → ((w : PathWalk) → Emitted L (k (walk_seen w)) (Gives (q (walk_seen w))) (f w))
      → Emitted L (S.then' g (before S read k)) (Gives (after read q)) (whole p f)
  unfolding whole
  whole_graded {read = read} k q h more = emitted_then L h (λ r e. proceed_graded r read k q e more)

  pub counted_graded : (w : PathWalk)
      → Emitted L (S.super (supers w.kind)) (Gives (goes_on (one_more (walk_seen w)))) (or_count_out (super_read w))
  counted_graded w = record { claim = L.super_is w; known = counted_gives w }

  module _ (y : Option PathRead) (t : TypeRefId) (at : Pointer) (w : PathWalk) where
    read_graded : (p : Option HirPath) → L.Where (λ final m r. L.reads.PathFound y p final m)
        (if_so S (is_some (option_seen p)) (S.type_as (typed (Some at) (shape_of_path y)))) (steps.read_trait t at w p)
    read_graded None = L.where_any (L.pure_is _)
    read_graded (Some p) = L.where_end (type_of_path y at p) (λ i. L.pure_is _)

    gives_projected : (p : Option HirPath) → Answering (Gives (projected (option_seen p))) (steps.read_trait t at w p)
    gives_projected None = answering_pure Refused refl
    gives_projected (Some p) = answering_then (answering_any _) (λ i u. answering_pure _ (projected_is t p w))

    pub trait_graded : {g : S.G} {x : Option Seen} {p : Lowering (Option HirPath)} → Emitted L g (GivesPath x) p
        → L.Known (Option HirPath) p (λ final m m' o. L.reads.PathFound y o final m')
        → Emitted L (S.then' g (if_so S (is_some x) (S.type_as (typed (Some at) (shape_of_path y))))) (Gives (projected x))
        (with_trait p t at w)
    unfolding with_trait
    trait_graded h reads = record {
      claim = claim_of_path y (λ z. if_so S (is_some z) (S.type_as (typed (Some at) (shape_of_path y)))) h reads (λ p. read_graded p);
      known = answering_then h.known
          (λ p e. subst (λ z. Answering (Gives (projected z)) (steps.read_trait t at w p)) e (gives_projected p));
    }

  -- arguments

  pub parens_graded : (x : TypesData) {g k : S.G} {ts : Lowering (List TypeRefId)} {r : TypeSteps} → L.Claim g ts
      → L.Known (List TypeRefId) ts (λ final m m' is. L.reads.PartsAre x is final m') → L.Claim k r
      → L.Claim (S.then' g (S.then' (S.type_as (typed None (datum.tuple_shape x))) k)) (parens_form ts r)
  unfolding parens_form
  parens_graded x h reads k = L.where_known {K = λ is final m. L.reads.PartsAre x is final m} h (answering_any _) reads
      (λ is u. L.where_first (L.where_less (L.reads.tuple_reads x is) (L.where_type (L.type_is _ None _))) (λ t. map_is L _ k))

  or_else_graded : (a : Option GenericArgs) {k : S.G} {more : Lowering (Option GenericArgs)} → L.Claim k more
      → L.Claim (if_so S (not (is_some a)) k) (or_else a more)
  or_else_graded None h = h
  or_else_graded (Some a) h = L.pure_is (Some a)

  pub beside_graded : {g k : S.G} {b : Bool} {as' ps : Lowering (Option GenericArgs)} → Emitted L g (Yields b) as' → L.Claim k ps
      → (dots : Bool) → L.Claim (S.then' g (if_so S (not b) k)) (segment_args_form as' ps dots)
  unfolding segment_args_form
  beside_graded {k = k} {ps = ps} h m dots = L.bind_is h.claim h.known (λ a e.
      map_is L _ (subst (λ c. L.Claim (if_so S (not c) k) (or_else a ps)) e (or_else_graded a m)))

  pub binding_graded : (name : Name) (dots : Bool) {g k j : S.G} {a : Lowering (Option GenericArgs)} {t : Lowering (Option TypeRefId)}
      {bs : Lowering (List TypeBound)} → L.Claim g a → L.Claim k t → L.Claim j bs
      → L.Claim (S.then' g (S.then' k j)) (binding_form name dots a t bs)
  unfolding binding_form
  binding_graded name dots ha ht hb = next L ha (λ a. next L ht (λ t. map_is L _ hb))
