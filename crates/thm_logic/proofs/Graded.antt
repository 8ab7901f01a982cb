-- Claims that are closed under steps, and steps of which it is known besides what they answer.
use Rattle.std.proofs.Common.{◌≡◌, refl, ℕ, Bool, List, [], ◌∷◌, ◌++◌, Option, Some, None}
use Rattle.hir_binding.specs.declared.binding.BindingAnnotation.{BindingAnnotation}
use Rattle.hir_store.specs.Names.{IsWritten}
use Rattle.hir_store.specs.Pointers.{Pointer}
use Rattle.hir_store.specs.Stored.{Stored}
use Rattle.hir_store.specs.declared.diagnostics.ExpressionStoreDiagnostics.{ExpressionStoreDiagnostics}
use Rattle.hir_store.specs.declared.hir.CoroutineKind.{CoroutineKind}
use Rattle.hir_store.specs.declared.hir.Expr.{Expr as HirExpr}
use Rattle.hir_store.specs.declared.hir.Expr.TheVariants as hir
use Rattle.hir_store.specs.declared.ids.BindingId.{BindingId}
use Rattle.hir_store.specs.declared.ids.BlockId.{BlockId}
use Rattle.hir_store.specs.declared.ids.ExprId.{ExprId}
use Rattle.hir_store.specs.declared.ids.LabelId.{LabelId}
use Rattle.hir_store.specs.declared.ids.MacroDefId.{MacroDefId}
use Rattle.hir_store.specs.declared.ids.PatId.{PatId}
use Rattle.hir_store.specs.declared.ids.TypeRefId.{TypeRefId}
use Rattle.hir_store.specs.declared.pat.Pat.{Pat as HirPat}
use Rattle.hir_store.specs.declared.path.Path.{Path as HirPath}
use Rattle.hir_store.specs.declared.type_ref.LifetimeRef.{LifetimeRef}
use Rattle.hir_store.specs.declared.type_ref.TypeBound.{TypeBound}
use Rattle.hir_store.specs.declared.type_ref.TypeRef.{TypeRef}
use Rattle.hir_env.specs.declared.ctx.ImplTrait.{ImplTrait}
use Rattle.hir_env.specs.ResolvedTree.{Called, Entered, Gone, Jump, Label, Limit, OptionExpr, OptionType, Params, Pats, Use}
use Rattle.spec_data.specs.Data as datum
use Rattle.spec_data.specs.Data.{Shape, TypeData}
use Rattle.spec_data.specs.Patterns.{moved_by}
use Rattle.hir_lower_scope.specs.ScopeRibs.{Try}
use Rattle.hir_lower_builder.specs.declared.closures.ClosureParams.{ClosureParams}
use Rattle.hir_lower_builder.specs.declared.generics.SideOutput.{SideOutput}
use Rattle.hir_lower_builder.specs.declared.walk.PathWalk.{PathWalk}
use Rattle.hir_lower_builder.specs.Calls.{define_form, inside_macro, track, track_gone, emitted}
use Rattle.hir_lower_builder.specs.Forms.{ExprSteps, StoredContents, closure_form, constant_form, coroutine_block_form}
use Rattle.hir_lower_builder.specs.Forms.{coroutine_form, no_closure_params, value_form, yield_form}
use Rattle.hir_lower_builder.specs.Lower.{lower_later, lower_params, lower_part, present_type}
use Rattle.hir_lower_builder.specs.Lowering.{Lowering, ◌>>=◌, pure, alloc_binding, alloc_expr, alloc_lifetime, alloc_desugared}
use Rattle.hir_lower_builder.specs.Lowering.{alloc_desugared_pat}
use Rattle.hir_lower_builder.specs.Lowering.{alloc_pat, alloc_type, close, define, enter_block, jump_target, made_number, open_label}
use Rattle.hir_lower_builder.specs.Lowering.{open_try, owning, point, point_field, point_pat, point_pat_field, point_target, point_type}
use Rattle.hir_lower_builder.specs.Lowering.{◌>>◌, becoming, track_down, report, try_target}
use Rattle.hir_lower_builder.specs.Made.{made_bind_form}
use Rattle.hir_lower_builder.specs.Paths.{with_alias, or_count_out}
use Rattle.hir_lower_builder.specs.Pats.{PatSteps, Table, counted_dots, enter_or, key_of, new_binding, no_names, or_form}
use Rattle.hir_lower_builder.specs.Pats.{settle}
use Rattle.hir_lower_builder.specs.Preludes.{coroutine_closure_form}
use Rattle.hir_lower_builder.specs.Ranges.{inner_form}
use Rattle.hir_lower_builder.specs.Types.{TypeSteps}
use Rattle.hir_lower_builder.specs.Walks.{super_read, supers}
use Rattle.thm_logic.proofs.Logic.{Mark}
use Rattle.thm_logic.proofs.ReadBack.{Knowing, ReadBack, TypeIs}
use Rattle.thm_logic.proofs.Tracked.{KeepsParams}
use Rattle.thm_logic.specs.Grading.{Grading, grade_impl, made_bind}
use Rattle.thm_logic.proofs.Answering.{Answering, anything, answering_aliased, answering_any, answering_pure, answering_then}
use Rattle.thm_logic.proofs.Answering.{answering_less}

-- alternatives of which the first is this
abbrev pub FirstIs : PatId → List PatId × Table → Type 0
FirstIs i rs = (more : List PatId) × (rs.0 ≡ i ∷ more)

-- how what is told is claimed of steps
pub record Graded {ℓ} (S : Grading {ℓ}) : Type (ℓ ⊔ 1) where
  -- what is to be known, and what is, of what reads back
  pub Known : Knowing
  pub reads : ReadBack Known
  pub Claim : {A : Type 0} → S.G → Lowering A → Type 0
  -- of steps that make an expression, which came since
  pub Made : S.G → ExprSteps → Type 0
  pub made_is : {g : S.G} {p : ExprSteps} → Made g p → Claim g p
  -- so of those that make a pattern, and of those that make a type, where it reads back so
  pub MadePat : S.G → Lowering PatId → Type 0
  pub pat_made_is : {g : S.G} {p : Lowering PatId} → MadePat g p → Claim g p
  pub MadeType : TypeData → S.G → TypeSteps → Type 0
  pub type_made_is : {t : TypeData} {g : S.G} {p : TypeSteps} → Known TypeRefId p (λ final m m' i. TypeIs t final m i) → MadeType t g p
      → Claim g p
  pub pure_is : {A : Type 0} (a : A) → Claim S.none (pure a)
  -- one after another, where it is known what the first answers, or where nothing is told of what comes after
  pub bind_is : {A B : Type 0} {P : A → Type 0} {g h : S.G} {p : Lowering A} {f : A → Lowering B} → Claim g p → Answering P p
      → ((a : A) → P a → Claim h (f a)) → Claim (S.then' g h) (p >>= f)
  pub makes_is : {A : Type 0} {P : A → Type 0} {g h : S.G} {p : Lowering A} {f : A → ExprSteps} → Claim g p → Answering P p
      → ((a : A) → P a → Made h (f a)) → Made (S.then' g h) (p >>= f)
  pub makes_pat_is : {A : Type 0} {P : A → Type 0} {g h : S.G} {p : Lowering A} {f : A → Lowering PatId} → Claim g p → Answering P p
      → ((a : A) → P a → MadePat h (f a)) → MadePat (S.then' g h) (p >>= f)
  pub makes_type_is : {A : Type 0} {t : TypeData} {g h : S.G} {p : Lowering A} {f : A → TypeSteps} → Claim g p
      → ((a : A) → MadeType t h (f a)) → MadeType t (S.then' g h) (p >>= f)
  pub end_is : {A B : Type 0} {g : S.G} {p : Lowering A} {f : A → Lowering B} → Claim g p → ((a : A) → Claim S.none (f a))
      → Claim g (p >>= f)
  -- steps of which something is told where it is so, in a final store, of how far it had come before them and of their answer
  pub Where : {A : Type 0} → (Stored → Mark → A → Type 0) → S.G → Lowering A → Type 0
  pub where_type : {t : TypeData} {g : S.G} {p : TypeSteps} → MadeType t g p → Where (TypeIs t) g p
  -- told in any case
  pub where_any : {A : Type 0} {C : Stored → Mark → A → Type 0} {g : S.G} {p : Lowering A} → Claim g p → Where C g p
  -- where it follows from something else
  pub where_less : {A : Type 0} {C D : Stored → Mark → A → Type 0} {g : S.G} {p : Lowering A}
      → Known A p (λ final m m' a. D final m a → C final m a) → Where C g p → Where D g p
  -- behind steps that bring it about
  pub where_known : {A B : Type 0} {K : A → Stored → Mark → Type 0} {P : A → Type 0} {g h : S.G} {p : Lowering A} {f : A → Lowering B}
      → Claim g p → Answering P p → Known A p (λ final m m' a. K a final m')
      → ((a : A) → P a → Where (λ final m b. K a final m) h (f a)) → Claim (S.then' g h) (p >>= f)
  -- in front of steps, and where nothing is told of these
  pub where_first : {A B : Type 0} {K : Stored → Mark → Type 0} {g h : S.G} {p : Lowering A} {f : A → Lowering B}
      → Where (λ final m a. K final m) g p → ((a : A) → Claim h (f a)) → Where (λ final m b. K final m) (S.then' g h) (p >>= f)
  pub where_end : {A B : Type 0} {K : Stored → Mark → Type 0} {g : S.G} {p : Lowering A} {f : A → Lowering B}
      → Where (λ final m a. K final m) g p → ((a : A) → Claim S.none (f a)) → Where (λ final m b. K final m) g (p >>= f)
  -- steps that hand on the names of a top pattern, of which this table knew some, and others were bound since; behind such steps,
  -- and beside steps that hand none on
  pub Hands : {A : Type 0} → Table → S.G → Lowering (A × Table) → Type 0
  pub hands_pure_is : {A : Type 0} (a : A) (t u : Table) → u.bindings ≡ t.bindings → Hands t S.none (pure (a, u))
  pub hands_as_is : {A : Type 0} (t u : Table) {g : S.G} {p : Lowering (A × Table)} → u.bindings ≡ t.bindings → Hands u g p → Hands t g p
  pub hands_bind_is : {A B : Type 0} {P : A × Table → Type 0} (t : Table) {g h : S.G} {p : Lowering (A × Table)}
      {f : A × Table → Lowering (B × Table)} → Hands t g p → Answering P p → ((r : A × Table) → P r → Hands r.1 h (f r))
      → Hands t (S.then' g h) (p >>= f)
  pub beside_is : {A B : Type 0} {P : A → Type 0} (t : Table) {g h : S.G} {p : Lowering A} {f : A → Lowering (B × Table)} → Claim g p
      → Answering P p → ((a : A) → P a → Hands t h (f a)) → Hands t (S.then' g h) (p >>= f)
  pub hands_end_is : {A B : Type 0} (t : Table) {g : S.G} {p : Lowering (A × Table)} {f : A × Table → Lowering (B × Table)}
      → Hands t g p → ((r : A × Table) → Hands r.1 S.none (f r)) → Hands t g (p >>= f)
  pub beside_end_is : {A B : Type 0} (t : Table) {g : S.G} {p : Lowering A} {f : A → Lowering (B × Table)} → Claim g p
      → ((a : A) → Hands t S.none (f a)) → Hands t g (p >>= f)
  -- a pattern that came since is handed on, too: behind steps that hand names on, and beside such as hand none on
  pub HandsPat : Table → S.G → Lowering (PatId × Table) → Type 0
  pub hands_pat_is : (t : Table) {g : S.G} {p : Lowering (PatId × Table)} → HandsPat t g p → Hands t g p
  pub hands_makes_is : {A : Type 0} {P : A × Table → Type 0} (t : Table) {g h : S.G} {p : Lowering (A × Table)}
      {f : A × Table → Lowering (PatId × Table)} → Hands t g p → Answering P p → ((r : A × Table) → P r → HandsPat r.1 h (f r))
      → HandsPat t (S.then' g h) (p >>= f)
  pub beside_makes_is : {A : Type 0} {P : A → Type 0} (t : Table) {g h : S.G} {p : Lowering A} {f : A → Lowering (PatId × Table)}
      → Claim g p → Answering P p → ((a : A) → P a → HandsPat t h (f a)) → HandsPat t (S.then' g h) (p >>= f)
  -- it is made alone, or a name is of it
  pub alone_is : (t u : Table) {g : S.G} {p : Lowering PatId} → u.bindings ≡ t.bindings → MadePat g p
      → HandsPat t g (p >>= (λ i. pure (i, u)))
  pub named_alone_is : (b : BindingId) (t u : Table) {g : S.G} {p : Lowering PatId} → u.bindings ≡ t.bindings → MadePat g p
      → HandsPat t g (p >>= (λ i. define b i >>= (λ v. pure (i, u))))
  -- or it is of several, or the first of them where there is one
  pub or_is : (at : Pointer) (ps : Pats) (t : Table) {P : PatId × Table → Type 0} {g h k : S.G} (p : PatSteps)
      → HandsPat (enter_or t) g (p (enter_or t)) → Answering P (p (enter_or t))
      → ((r : PatId × Table) → P r → Hands r.1 h (lower_later ps (r.0 ∷ []) r.1))
      → ((r : PatId × Table) → P r → Answering (FirstIs r.0) (lower_later ps (r.0 ∷ []) r.1))
      → Hands t k (or_form at p (lower_later ps) t) → HandsPat t k (or_form at p (lower_later ps) t)
  -- a written name that is bound
  pub new_name_is : (u : Use) → IsWritten u.name → (t : Table) (with_it : BindingId → Table)
      → ((b : BindingId) → (with_it b).bindings ≡ t.bindings ++ (key_of u, b) ∷ [])
      → Hands t S.binding (alloc_binding (new_binding u) >>= (λ b. pure (b, with_it b)))
  -- of a whole pattern, whose names get their problems in the end
  pub top_is : {g : S.G} {p : Lowering (PatId × Table)} → Hands no_names g p → Claim g (p >>= (λ r. settle r.1 >>= (λ _. pure r.0)))
  -- what is stored
  pub type_is : (t : TypeRef) (at : Option Pointer) (shape : Shape)
      → MadeType (datum.typed at shape) (S.type_as (datum.typed at shape)) (alloc_type t at)
  pub lifetime_is : (l : LifetimeRef) (at : Option Pointer)
      → Claim (S.lifetime_as (record { lifetime = l; from = at })) (alloc_lifetime l at)
  pub pat_is : (p : HirPat) (at : Option Pointer) → MadePat (S.pat_at at) (alloc_pat p at)
  pub made_pat_is : (p : HirPat) (at : Option Pointer) → MadePat (S.made_pat_at at) (alloc_desugared_pat p at)
  pub expr_is : (e : HirExpr) (at : Option Pointer) → Made S.expr (alloc_expr e at)
  -- of a node that is made up
  pub made_expr_is : (e : HirExpr) (at : Option Pointer) → Made S.expr (alloc_desugared e at)
  -- a node more leads to it
  pub point_is : (at : Pointer) {g : S.G} {p : ExprSteps} → Made g p → Made g (p >>= (λ i. point at i >>= (λ _. pure i)))
  pub point_field_is : (i : ExprId) (at : Pointer) → Claim S.none (point_field i at)
  -- of a written name
  pub binding_is : (u : Use) → IsWritten u.name → Claim S.binding (alloc_binding (new_binding u))
  pub define_is : (b : BindingId) (p : PatId) → Claim S.none (define b p)
  pub field_is : (p : PatId) (at : Pointer) → Claim S.none (point_pat_field p at)
  -- what is noted: beside steps, in a path that is an alias in an argument, and what an `impl` becomes
  pub tracked_down_is : (f : SideOutput → SideOutput) → KeepsParams f → {A : Type 0} {g : S.G} {p : Lowering A} → Claim g p
      → Claim g (track_down f >> p)
  pub aliased_is : (alias : Option (List Bool)) {g : S.G} {p : Lowering (Option HirPath)} → Claim g p → Claim g (with_alias alias p)
  pub impl_is : (at : Pointer) (mode : ImplTrait) (bounds : List TypeBound) (shape : Shape)
      → MadeType (datum.typed (Some at) shape) (grade_impl S mode (datum.typed (Some at) shape)) (becoming at mode bounds)
  -- what is reported, counted, entered and asked
  pub fault_is : (d : ExpressionStoreDiagnostics) → Claim (S.fault d) (report d)
  -- of macro calls; the node of one leads to the pattern or the type that was made
  pub tracked_is : (c : Entered) → Claim (S.tracked c) (track c)
  pub emitted_is : (c : Called) → Claim (S.emitted c) (emitted c)
  pub gone_is : (why : Gone) → Claim (S.gone why) (track_gone why)
  pub type_call_is : (at : Pointer) (t : TypeData) {g : S.G} {p : TypeSteps} → MadeType t g p
      → MadeType t (S.then' g (S.type_call at)) (p >>= (λ i. point_type at i >>= (λ _. pure i)))
  pub pat_call_is : (at : Pointer) {g : S.G} {p : Lowering PatId} → MadePat g p
      → MadePat (S.then' g (S.pat_call at)) (p >>= (λ i. point_pat at i >>= (λ _. pure i)))
  -- so does a node that is assigned to
  pub target_mapping_is : (at : Pointer) {g : S.G} {p : Lowering PatId} → MadePat g p
      → MadePat (S.then' g (S.target_mapping at)) (p >>= (λ i. point_target at i >>= (λ _. pure i)))
  pub hands_call_is : (at : Pointer) (t : Table) {g : S.G} {p : Lowering (PatId × Table)} → HandsPat t g p
      → HandsPat t (S.then' g (S.pat_call at)) (p >>= (λ r. point_pat at r.0 >>= (λ _. pure r)))
  pub super_is : (w : PathWalk) → Claim (S.super (supers w.kind)) (or_count_out (super_read w))
  pub dots_is : (comma : Bool) (place : Option ℕ) → Claim (S.dots (moved_by comma place)) (counted_dots comma place)
  pub def_is : (k : ℕ) (d : Option MacroDefId) → Claim (S.def k) (define_form k d)
  pub block_is : (n : Option BlockId) → Claim (S.block n) (enter_block n)
  pub jump_is : (j : Option Jump) → Claim (S.jump j) (jump_target j)
  pub yield_is : (at : Pointer) (e : Lowering (Option ExprId)) {g : S.G} → Made g (value_form at hir.Yield e)
      → Made (S.yielding g) (yield_form at e)
  -- to ask for the innermost `try` tells nothing
  pub asked_is : {g : S.G} {f : Option (Try LabelId) → ExprSteps} → ((t : Option (Try LabelId)) → Made g (f t))
      → Made g (try_target >>= f)
  -- names that are made up and bound, at once or after some steps
  pub named_is : (mode : BindingAnnotation) {A : Type 0} {g : S.G} {f : ℕ → PatId → Lowering A} → ((n : ℕ) (q : PatId) → Claim g (f n q))
      → Claim (S.then' S.generated_name (S.then' (made_bind S) g)) (made_number >>= (λ n. made_bind_form mode n >>= (λ q. f n q)))
  pub made_named_is : (mode : BindingAnnotation) {g : S.G} {f : ℕ → PatId → ExprSteps} → ((n : ℕ) (q : PatId) → Made g (f n q))
      → Made (S.then' S.generated_name (S.then' (made_bind S) g)) (made_number >>= (λ n. made_bind_form mode n >>= (λ q. f n q)))
  pub named_past_is : (mode : BindingAnnotation) {A : Type 0} {g h : S.G} {p : Lowering A} {f : ℕ → A → PatId → ExprSteps} → Claim g p
      → ((n : ℕ) (a : A) (q : PatId) → Made h (f n a q)) → Made (S.then' S.generated_name (S.then' g (S.then' (made_bind S) h)))
      (made_number >>= (λ n. p >>= (λ a. made_bind_form mode n >>= (λ q. f n a q))))
  -- what is in a loop, in a block with a label, in a `try`; labels have written names
  pub bare_is : {g : S.G} {p : ExprSteps} {f : ExprId → ExprSteps} → Claim g p → ((i : ExprId) → Made S.expr (f i))
      → Made (S.looped None g) (p >>= f)
  pub loop_is : (l : Label) → IsWritten l.name → {g : S.G} (p : ExprSteps) {f : LabelId → ExprId → ExprSteps} → Claim g p
      → ((n : LabelId) (i : ExprId) → Made S.expr (f n i))
      → Made (S.looped (Some l) g) (open_label l >>= (λ n. p >>= (λ i. close >>= (λ _. f n i))))
  pub labelled_is : (l : Label) → IsWritten l.name → {g : S.G} {f : LabelId → ExprSteps} → ((n : LabelId) → Made g (f n))
      → Made (S.labelled l g) (open_label l >>= (λ n. f n >>= (λ i. close >>= (λ _. pure i))))
  -- behind the definition of a macro
  pub defined_is : (d : MacroDefId) {A : Type 0} {g : S.G} {p : Lowering A} → Claim g p → Claim (S.defined d g) (inside_macro d p)
  -- what comes behind a `try` goes by something of what is in it, of which it is known that it is this
  pub try_is : (at : Pointer) (typed : Bool) {g h : S.G} (k : Bool → S.G) (of : StoredContents → Bool) (b : Bool)
      {s : Lowering (Unit {0})} {p : Lowering StoredContents} {f : LabelId → StoredContents → ExprSteps} → Claim g s → Claim h p
      → Answering (λ r. of r ≡ b) p → ((n : LabelId) (r : StoredContents) → Made (k (of r)) (f n r))
      → Made (S.tried typed g h (k b)) (open_try at typed >>= (λ n. s >>= (λ _. p >>= (λ r. close >>= (λ _. f n r)))))
  -- bodies inside
  pub inner_is : (l : Limit) {g : S.G} {p : ExprSteps} → Made g p → Claim (S.inner l g) (inner_form p)
  pub constant_is : (e : OptionExpr) {g : S.G} {p : ExprSteps} → Made g p
      → Claim (S.constant e g) (owning (λ c. c.expr) (constant_form p))
  pub rooted_is : (e : OptionExpr) {g : S.G} {p : ExprSteps} → Made g p → Claim (S.rooted e g) (constant_form p)
  pub closure_is : (at : Pointer) (moves is_static : Bool) {g h k : S.G} {p : Lowering ClosureParams} {t : Lowering (Option TypeRefId)}
      {e : ExprSteps} → Claim g p → Claim h t → Made k e
      → Made (S.closure g h k) (owning (λ i. i) (closure_form at moves is_static p t e))
  pub coroutine_closure_is : (at : Pointer) (kind : CoroutineKind) (moves : Bool) (xs : Params) (t : OptionType) (e : OptionExpr)
      {g h k : S.G} → Claim g (lower_params no_closure_params xs) → Claim h (present_type t) → Made k (lower_part e)
      → Made (S.coroutine_closure xs g h k) (owning (λ i. i)
      (coroutine_closure_form at kind moves (lower_params no_closure_params xs) (present_type t) (lower_part e)))
  pub coroutine_is : (at : Pointer) (kind : CoroutineKind) (moves : Bool) (number : Option BlockId) {g : S.G} {c : Lowering StoredContents}
      → Claim g c → Made (S.coroutine number g) (owning (λ i. i) (coroutine_form (coroutine_block_form at kind moves number c)))
  pub owning_is : {g : S.G} {p : ExprSteps} → Made g p → Made (S.owned g) (owning (λ i. i) p)

-- what is told, and what is known of the answer
pub record Emitted {ℓ} {S : Grading {ℓ}} (L : Graded S) {A : Type 0} (g : S.G) (P : A → Type 0) (p : Lowering A) : Type 0 where
  pub claim : L.Claim g p
  pub known : Answering P p

module _ {ℓ} {S : Grading {ℓ}} (L : Graded S) where
  pub next : {A B : Type 0} {g h : S.G} {p : Lowering A} {f : A → Lowering B} → L.Claim g p → ((a : A) → L.Claim h (f a))
      → L.Claim (S.then' g h) (p >>= f)
  next {p = p} h k = L.bind_is h (answering_any p) (λ a u. k a)

  pub made_next : {A : Type 0} {g h : S.G} {p : Lowering A} {f : A → ExprSteps} → L.Claim g p → ((a : A) → L.Made h (f a))
      → L.Made (S.then' g h) (p >>= f)
  made_next {p = p} h k = L.makes_is h (answering_any p) (λ a u. k a)

  pub expr_claim : (e : HirExpr) (at : Option Pointer) → L.Claim S.expr (alloc_expr e at)
  expr_claim e at = L.made_is (L.expr_is e at)

  pub map_is : {A B : Type 0} {g : S.G} {p : Lowering A} (f : A → B) → L.Claim g p → L.Claim g (p >>= (λ a. pure (f a)))
  map_is f h = L.end_is h (λ a. L.pure_is (f a))

  pub pat_next : {A : Type 0} {g h : S.G} {p : Lowering A} {f : A → Lowering PatId} → L.Claim g p → ((a : A) → L.MadePat h (f a))
      → L.MadePat (S.then' g h) (p >>= f)
  pat_next {p = p} h k = L.makes_pat_is h (answering_any p) (λ a u. k a)

  pub emitted_any : {A : Type 0} {g : S.G} {p : Lowering A} → L.Claim g p → Emitted L g anything p
  emitted_any {p = p} h = record { claim = h; known = answering_any p }

  pub emitted_less : {A : Type 0} {P Q : A → Type 0} {g : S.G} {p : Lowering A} → ((a : A) → P a → Q a) → Emitted L g P p → Emitted L g Q p
  emitted_less less h = record { claim = h.claim; known = answering_less less h.known }

  pub emitted_pure : {A : Type 0} {P : A → Type 0} (a : A) → P a → Emitted L S.none P (pure a)
  emitted_pure a h = record { claim = L.pure_is a; known = answering_pure a h }

  -- a path that is an alias in an argument
  pub emitted_aliased : (alias : Option (List Bool)) {P : Option HirPath → Type 0} {g : S.G} {p : Lowering (Option HirPath)}
      → Emitted L g P p
      → Emitted L g P (with_alias alias p)
  emitted_aliased alias x = record { claim = L.aliased_is alias x.claim; known = answering_aliased alias x.known }

  pub emitted_then : {A B : Type 0} {P : A → Type 0} {Q : B → Type 0} {g h : S.G} {p : Lowering A} {f : A → Lowering B} → Emitted L g P p
      → ((a : A) → P a → Emitted L h Q (f a)) → Emitted L (S.then' g h) Q (p >>= f)
  emitted_then x k = record {
    claim = L.bind_is x.claim x.known (λ a y. (k a y).claim);
    known = answering_then x.known (λ a y. (k a y).known);
  }

  -- what comes after tells nothing
  pub emitted_end : {A B : Type 0} {P : A → Type 0} {Q : B → Type 0} {g : S.G} {p : Lowering A} {f : A → Lowering B} → Emitted L g P p
      → ((a : A) → L.Claim S.none (f a)) → ((a : A) → P a → Answering Q (f a)) → Emitted L g Q (p >>= f)
  emitted_end x k more = record { claim = L.end_is x.claim k; known = answering_then x.known more }

  pub emitted_map : {A B : Type 0} {P : A → Type 0} {Q : B → Type 0} {g : S.G} {p : Lowering A} (f : A → B) → Emitted L g P p
      → ((a : A) → P a → Q (f a)) → Emitted L g Q (p >>= (λ a. pure (f a)))
  emitted_map f x k = emitted_end x (λ a. L.pure_is (f a)) (λ a y. answering_pure (f a) (k a y))

  -- of what nothing is known
  pub emitted_last : {A B : Type 0} {Q : B → Type 0} {g : S.G} {p : Lowering A} (f : A → B) → L.Claim g p → ((a : A) → Q (f a))
      → Emitted L g Q (p >>= (λ a. pure (f a)))
  emitted_last f h k = emitted_map f (emitted_any h) (λ a u. k a)

-- the same of steps that hand a table on
pub record HandsEmitted {ℓ} {S : Grading {ℓ}} (L : Graded S) {A : Type 0} (t : Table) (g : S.G) (P : A × Table → Type 0)
    (p : Lowering (A × Table)) : Type 0 where
  pub claim : L.Hands t g p
  pub known : Answering P p

module _ {ℓ} {S : Grading {ℓ}} (L : Graded S) {A : Type 0} {t : Table} where
  pub hand_pure : {P : A × Table → Type 0} (a : A) (u : Table) → u.bindings ≡ t.bindings → P (a, u)
      → HandsEmitted L t S.none P (pure (a, u))
  hand_pure a u e h = record { claim = L.hands_pure_is a t u e; known = answering_pure (a, u) h }

  pub hand_as : {P : A × Table → Type 0} (u : Table) {g : S.G} {p : Lowering (A × Table)} → u.bindings ≡ t.bindings → HandsEmitted L u g P p
      → HandsEmitted L t g P p
  hand_as u e h = record { claim = L.hands_as_is t u e h.claim; known = h.known }

  pub hand_less : {P Q : A × Table → Type 0} {g : S.G} {p : Lowering (A × Table)} → ((r : A × Table) → P r → Q r) → HandsEmitted L t g P p
      → HandsEmitted L t g Q p
  hand_less less h = record { claim = h.claim; known = answering_less less h.known }

  pub hand_then : {B : Type 0} {P : A × Table → Type 0} {Q : B × Table → Type 0} {g h : S.G} {p : Lowering (A × Table)}
      {f : A × Table → Lowering (B × Table)} → HandsEmitted L t g P p → ((r : A × Table) → P r → HandsEmitted L r.1 h Q (f r))
      → HandsEmitted L t (S.then' g h) Q (p >>= f)
  hand_then x k = record {
    claim = L.hands_bind_is t x.claim x.known (λ r y. (k r y).claim);
    known = answering_then x.known (λ r y. (k r y).known);
  }

  -- behind steps that hand none on
  pub hand_beside : {B : Type 0} {P : A → Type 0} {Q : B × Table → Type 0} {g h : S.G} {p : Lowering A} {f : A → Lowering (B × Table)}
      → Emitted L g P p → ((a : A) → P a → HandsEmitted L t h Q (f a)) → HandsEmitted L t (S.then' g h) Q (p >>= f)
  hand_beside x k = record {
    claim = L.beside_is t x.claim x.known (λ a y. (k a y).claim);
    known = answering_then x.known (λ a y. (k a y).known);
  }

  -- what comes after tells nothing
  pub hand_end : {B : Type 0} {P : A × Table → Type 0} {Q : B × Table → Type 0} {g : S.G} {p : Lowering (A × Table)}
      {f : A × Table → Lowering (B × Table)} → HandsEmitted L t g P p → ((r : A × Table) → L.Hands r.1 S.none (f r))
      → ((r : A × Table) → P r → Answering Q (f r)) → HandsEmitted L t g Q (p >>= f)
  hand_end x k more = record { claim = L.hands_end_is t x.claim k; known = answering_then x.known more }

  pub hand_map : {B : Type 0} {P : A × Table → Type 0} {Q : B × Table → Type 0} {g : S.G} {p : Lowering (A × Table)} (f : A × Table → B)
      → HandsEmitted L t g P p → ((r : A × Table) → P r → Q (f r, r.1)) → HandsEmitted L t g Q (p >>= (λ r. pure (f r, r.1)))
  hand_map f x k = hand_end x (λ r. L.hands_pure_is (f r) r.1 r.1 refl) (λ r y. answering_pure (f r, r.1) (k r y))

  -- behind steps that hand none on, where what comes after tells nothing
  pub hand_beside_end : {B : Type 0} {Q : B × Table → Type 0} {g : S.G} {p : Lowering A} {f : A → Lowering (B × Table)} → L.Claim g p
      → ((a : A) → HandsEmitted L t S.none Q (f a)) → HandsEmitted L t g Q (p >>= f)
  hand_beside_end {p = p} h k = record {
    claim = L.beside_end_is t h (λ a. (k a).claim);
    known = answering_then (answering_any p) (λ a x. (k a).known);
  }

module _ {ℓ} {S : Grading {ℓ}} (L : Graded S) {A B : Type 0} {t : Table} where
  -- steps that hand none on, and then this table
  pub hand_last : {Q : B × Table → Type 0} {g : S.G} {p : Lowering A} (f : A → B) (u : Table) → u.bindings ≡ t.bindings → L.Claim g p
      → ((a : A) → Q (f a, u)) → HandsEmitted L t g Q (p >>= (λ a. pure (f a, u)))
  hand_last f u e h k = hand_beside_end L h (λ a. hand_pure L (f a) u e (k a))

-- and of those that hand a pattern on which came since
pub record MadeEmitted {ℓ} {S : Grading {ℓ}} (L : Graded S) (t : Table) (g : S.G) (P : PatId × Table → Type 0)
    (p : Lowering (PatId × Table)) : Type 0 where
  pub claim : L.HandsPat t g p
  pub known : Answering P p

module _ {ℓ} {S : Grading {ℓ}} (L : Graded S) {t : Table} where
  pub pat_hands : {P : PatId × Table → Type 0} {g : S.G} {p : Lowering (PatId × Table)} → MadeEmitted L t g P p → HandsEmitted L t g P p
  pat_hands h = record { claim = L.hands_pat_is t h.claim; known = h.known }

  pub pat_then : {A : Type 0} {P : A × Table → Type 0} {Q : PatId × Table → Type 0} {g h : S.G} {p : Lowering (A × Table)}
      {f : A × Table → Lowering (PatId × Table)} → HandsEmitted L t g P p → ((r : A × Table) → P r → MadeEmitted L r.1 h Q (f r))
      → MadeEmitted L t (S.then' g h) Q (p >>= f)
  pat_then x k = record {
    claim = L.hands_makes_is t x.claim x.known (λ r y. (k r y).claim);
    known = answering_then x.known (λ r y. (k r y).known);
  }

  pub pat_beside : {A : Type 0} {P : A → Type 0} {Q : PatId × Table → Type 0} {g h : S.G} {p : Lowering A}
      {f : A → Lowering (PatId × Table)} → Emitted L g P p → ((a : A) → P a → MadeEmitted L t h Q (f a))
      → MadeEmitted L t (S.then' g h) Q (p >>= f)
  pat_beside x k = record {
    claim = L.beside_makes_is t x.claim x.known (λ a y. (k a y).claim);
    known = answering_then x.known (λ a y. (k a y).known);
  }

  -- alone, and then this table
  pub pat_last : {Q : PatId × Table → Type 0} {g : S.G} {p : Lowering PatId} (u : Table) → u.bindings ≡ t.bindings → L.MadePat g p
      → ((i : PatId) → Q (i, u)) → MadeEmitted L t g Q (p >>= (λ i. pure (i, u)))
  pat_last {p = p} u e h k = record {
    claim = L.alone_is t u e h;
    known = answering_then (answering_any p) (λ i x. answering_pure (i, u) (k i));
  }

  -- a name is of it
  pub pat_named : {Q : PatId × Table → Type 0} {g : S.G} {p : Lowering PatId} (b : BindingId) (u : Table) → u.bindings ≡ t.bindings
      → L.MadePat g p → ((i : PatId) → Q (i, u)) → MadeEmitted L t g Q (p >>= (λ i. define b i >>= (λ v. pure (i, u))))
  pat_named {p = p} b u e h k = record {
    claim = L.named_alone_is b t u e h;
    known = answering_then (answering_any p) (λ i x. answering_then (answering_any (define b i)) (λ v y. answering_pure (i, u) (k i)));
  }
