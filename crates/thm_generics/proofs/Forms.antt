-- What expressions note: as much as their parts, in the order in which these are lowered.
use Rattle.std.proofs.Common.{◌≡◌, refl, subst, List, Option, Some, None}
use Rattle.std.proofs.Common.{Bool, true, false}
use Rattle.hir_store.specs.Pointers.{Pointer}
use Rattle.hir_store.specs.Stored.{Stored}
use Rattle.hir_store.specs.declared.hir.Expr.{Expr as HirExpr}
use Rattle.hir_store.specs.declared.hir.LoopSource.{LoopSource}
use Rattle.hir_store.specs.declared.ids.ExprId.{ExprId}
use Rattle.hir_store.specs.declared.ids.LabelId.{LabelId}
use Rattle.hir_store.specs.declared.ids.BlockId.{BlockId}
use Rattle.hir_store.specs.declared.ids.HygieneId.{HygieneId}
use Rattle.hir_store.specs.declared.path.Path.{Path}
use Rattle.hir_store.specs.declared.diagnostics.AwaitLocation.{AwaitLocation}
use Rattle.hir_store.specs.declared.name.Name.{Name}
use Rattle.hir_env.specs.ResolvedTree as tree
use Rattle.hir_env.specs.ResolvedTree.{Label, Jump, OptionPath}
use Rattle.hir_lower_builder.specs.Lowering.{Lowering, ◌>>=◌, open_label, close}
use Rattle.hir_lower_builder.specs.Lowering.{owning}
use Rattle.hir_lower_builder.specs.Lower.{ExprSteps, StoredContents, missing, some, if_form, loop_form, iteration_form, call_form}
use Rattle.hir_lower_builder.specs.Lower.{continue_form, break_form}
use Rattle.hir_lower_builder.specs.Lower.{operand_form, operands_form, value_form, list_form, method_call_form, await_form, paren_form}
use Rattle.hir_lower_builder.specs.Lower.{path_form, block_form, labelled, StoredFields, lower_path, cast_form, offset_of_form}
use Rattle.hir_lower_builder.specs.Lower.{record_contents, record_of, record_form, field_form, constant_form, repeat_form, const_form}
use Rattle.hir_store.specs.declared.hir.RecordLitField.{RecordLitField}
use Rattle.hir_store.specs.declared.hir.RecordSpread.{RecordSpread}
use Rattle.hir_store.specs.declared.path.GenericArgs.{GenericArgs}
use Rattle.hir_store.specs.declared.type_ref.ConstRef.{ConstRef}
use Rattle.hir_lower_builder.specs.Types.{TypeSteps}
use Rattle.hir_lower_builder.specs.Ranges.{inner_form}
use Rattle.std.proofs.Common.{ℕ, subst}
use Rattle.hir_store.proofs.Extending.{extends_refl}
use Rattle.spec_data.specs.Rule.{PathRead}
use Rattle.spec_data.specs.Written.{path_of}
use Rattle.thm_round_trip.proofs.Now.{answered}
use Rattle.thm_round_trip.proofs.Tree.{path_reads}
use Rattle.thm_round_trip.proofs.Walk.{Answers}
use Rattle.thm_logic.proofs.Logic.{mark}
use Rattle.spec_data.specs.Fold.{if_read}
use Rattle.spec_data.specs.Tracking.{Tracking, none, ◌⊕◌}
use Rattle.thm_generics.proofs.Logic.{if_there, SideOutput, TracksTo, tracks_begin, tracks_by, tracks_end, tracks_pure, tracks_then}
use Rattle.thm_generics.proofs.Steps.{tracks_close, tracks_close_barrier, tracks_enter_block, tracks_enter_root, tracks_expr}
use Rattle.thm_generics.proofs.Steps.{tracks_jump_target}
use Rattle.thm_generics.proofs.Steps.{tracks_leave_root, tracks_open_barrier, tracks_open_label, tracks_owning, tracks_point}
use Rattle.thm_generics.proofs.Steps.{tracks_point_field}
use Rattle.thm_generics.proofs.Steps.{tracks_report_await}

pub opened_tracks : {A B : Type 0} {D : Tracking} (l : Label) {p : LabelId → Lowering A} {f : LabelId → A → Lowering B}
    → ((n : LabelId) → SideOutput D (p n)) → ((n : LabelId) (a : A) → SideOutput none (f n a))
    → SideOutput D (open_label l >>= (λ n. p n >>= (λ a. close >>= (λ _. f n a))))
opened_tracks l h k = tracks_begin (tracks_open_label l) (λ n. tracks_end (h n) (λ a. tracks_begin tracks_close (λ u. k n a)))

-- where the path became this
same_read : (D : Tracking) (final : Stored) (n : ℕ) (x : Option PathRead) (o : Option Path) → Answers final n x o
    → if_there o D ≡ if_read x D
same_read D final n None None h = refl
same_read D final n None (Some o) h = absurd h
same_read D final n (Some x) None h = absurd h
same_read D final n (Some x) (Some o) h = refl

-- what is noted where the path is read, behind what the path notes
pub where_tracks : (p : OptionPath) {A : Type 0} {W D : Tracking} {f : Option Path → Lowering A} → SideOutput W (lower_path p)
    → ((o : Option Path) → SideOutput (if_there o D) (f o)) → SideOutput (W ⊕ if_read (path_of p) D) (lower_path p >>= f)
where_tracks p {D = D} {f = f} hp h = tracks_by (if_read (path_of p) D) f hp (λ b o c d e is.
    let read = answered (path_reads p) b c o d is c.stored (extends_refl c.stored) in
    subst (λ n. TracksTo n c (f o c).0 (f o c).1) (same_read D c.stored (mark c).entries (path_of p) o read.is) ((h o).at c e))

pub some_tracks : {A : Type 0} {D : Tracking} {p : Lowering A} → SideOutput D p → SideOutput D (some p)
some_tracks h = tracks_end h (λ a. tracks_pure (Some a))

-- forms

pub missing_tracks : SideOutput none missing
unfolding missing
missing_tracks = tracks_expr _ _

module _ (at : Pointer) where
  -- the branches first
  pub if_tracks : {C T E : Tracking} {c t : ExprSteps} {e : Lowering (Option ExprId)} → SideOutput C c
      → SideOutput T t
      → SideOutput E e
      → SideOutput (T ⊕ (E ⊕ C)) (if_form at c t e)
  unfolding if_form
  if_tracks hc ht he = tracks_then ht (λ i. tracks_then he (λ j. tracks_end hc (λ k. tracks_expr _ _)))

  pub loop_tracks : (from : LoopSource) (label : Option Label) {D : Tracking} {b : ExprSteps} → SideOutput D b
      → SideOutput D (loop_form at from label b)
  unfolding loop_form
  loop_tracks from None h = tracks_end h (λ i. tracks_expr _ _)
  loop_tracks from (Some l) h = opened_tracks l (λ n. h) (λ n i. tracks_expr _ _)

  -- the body first
  pub iteration_tracks : {C B : Tracking} {c b : ExprSteps} → SideOutput C c → SideOutput B b
      → SideOutput (B ⊕ C) (iteration_form at c b)
  unfolding iteration_form
  iteration_tracks hc hb = tracks_then hb (λ i. tracks_end hc (λ k. tracks_end (tracks_expr _ _) (λ o. tracks_expr _ _)))

  pub call_tracks : {D E : Tracking} {f : ExprSteps} {xs : Lowering (List ExprId)} → SideOutput D f → SideOutput E xs
      → SideOutput (D ⊕ E) (call_form at f xs)
  unfolding call_form
  call_tracks hf hx = tracks_then hf (λ i. tracks_end hx (λ js. tracks_expr _ _))

  pub continue_tracks : (j : Option Jump) → SideOutput none (continue_form at j)
  unfolding continue_form
  continue_tracks j = tracks_end (tracks_jump_target j) (λ n. tracks_expr _ _)

  pub break_tracks : (j : Option Jump) {D : Tracking} {e : Lowering (Option ExprId)} → SideOutput D e
      → SideOutput D (break_form at j e)
  unfolding break_form
  break_tracks j h = tracks_then (tracks_jump_target j) (λ n. tracks_end h (λ v. tracks_expr _ _))

  pub paren_tracks : {D : Tracking} {e : ExprSteps} → SideOutput D e → SideOutput D (paren_form at e)
  unfolding paren_form
  paren_tracks h = tracks_end h (λ i. tracks_end (tracks_point at i) (λ u. tracks_pure i))

  pub path_tracks : (h : HygieneId) {D : Tracking} {p : Lowering (Option Path)} → SideOutput D p
      → SideOutput D (path_form at h p)
  unfolding path_form
  path_tracks h hp = tracks_end hp (λ r. tracks_expr _ _)

  pub operand_tracks : (form : ExprId → HirExpr) {D : Tracking} {e : ExprSteps} → SideOutput D e
      → SideOutput D (operand_form at form e)
  unfolding operand_form
  operand_tracks form h = tracks_end h (λ i. tracks_expr _ _)

  pub operands_tracks : (form : ExprId → ExprId → HirExpr) {D E : Tracking} {a b : ExprSteps} → SideOutput D a
      → SideOutput E b → SideOutput (D ⊕ E) (operands_form at form a b)
  unfolding operands_form
  operands_tracks form ha hb = tracks_then ha (λ i. tracks_end hb (λ j. tracks_expr _ _))

  pub value_tracks : (form : Option ExprId → HirExpr) {D : Tracking} {e : Lowering (Option ExprId)} → SideOutput D e
      → SideOutput D (value_form at form e)
  unfolding value_form
  value_tracks form h = tracks_end h (λ v. tracks_expr _ _)

  pub list_tracks : (form : tree.Listing) {D : Tracking} {xs : Lowering (List ExprId)} → SideOutput D xs
      → SideOutput D (list_form at form xs)
  unfolding list_form
  list_tracks (tree.tuple_of false) h = tracks_end h (λ is. tracks_expr _ _)
  list_tracks (tree.tuple_of true) h = tracks_end h (λ is. tracks_end missing_tracks (λ i. tracks_expr _ _))
  list_tracks tree.array_of h = tracks_end h (λ is. tracks_expr _ _)

  pub repeat_tracks : {D E : Tracking} {e : ExprSteps} {c : Lowering ConstRef} → SideOutput D e → SideOutput E c
      → SideOutput (D ⊕ E) (repeat_form at e c)
  unfolding repeat_form
  repeat_tracks he hc = tracks_then he (λ i. tracks_end hc (λ c. tracks_expr _ _))

  pub const_tracks : {D : Tracking} {c : Lowering ConstRef} → SideOutput D c
      → SideOutput D (owning (λ i. i) (const_form at c))
  unfolding const_form
  const_tracks h = tracks_owning (λ i. i) (tracks_end h (λ c. tracks_expr _ _))

  pub method_call_tracks : (name : Name) {D E F : Tracking} {e : ExprSteps} {xs : Lowering (List ExprId)}
      {as' : Lowering (Option GenericArgs)} → SideOutput D e → SideOutput E xs → SideOutput F as'
      → SideOutput (D ⊕ (E ⊕ F)) (method_call_form at e name xs as')
  unfolding method_call_form
  method_call_tracks name he hx ha =
      tracks_then he (λ i. tracks_then hx (λ is. tracks_end ha (λ g. tracks_expr _ _)))

  pub cast_tracks : {D E : Tracking} {e : ExprSteps} {t : TypeSteps} → SideOutput D e → SideOutput E t
      → SideOutput (D ⊕ E) (cast_form at e t)
  unfolding cast_form
  cast_tracks he ht = tracks_then he (λ i. tracks_end ht (λ t. tracks_expr _ _))

  pub offset_of_tracks : (names : List Name) {D : Tracking} {t : TypeSteps} → SideOutput D t
      → SideOutput D (offset_of_form at t names)
  unfolding offset_of_form
  offset_of_tracks names ht = tracks_end ht (λ t. tracks_expr _ _)

  record_of_tracks : {D : Tracking} {c : Lowering StoredFields} → SideOutput D c → (p : Option Path)
      → SideOutput (if_there p D) (record_of at c p)
  record_of_tracks h None = missing_tracks
  record_of_tracks h (Some p) = tracks_end h (λ r. tracks_expr _ _)

  pub record_tracks : (p : OptionPath) {W D : Tracking} {c : Lowering StoredFields} → SideOutput W (lower_path p)
      → SideOutput D c
      → SideOutput (W ⊕ if_read (path_of p) D) (record_form at (lower_path p) c)
  unfolding record_form
  record_tracks p hp h = where_tracks p hp (λ o. record_of_tracks h o)

  pub field_tracks : (name : Name) {D : Tracking} {e : ExprSteps} → SideOutput D e
      → SideOutput D (field_form at name e)
  unfolding field_form
  field_tracks name h = tracks_end h (λ i. tracks_end (tracks_point_field i at) (λ u. tracks_pure _))

  pub await_tracks : (location : Option AwaitLocation) {D : Tracking} {e : ExprSteps} → SideOutput D e
      → SideOutput D (await_form at location e)
  unfolding await_form
  await_tracks location h = tracks_end h (λ i. tracks_begin (tracks_report_await at location) (λ u. tracks_expr _ _))

  pub block_form_tracks : (is_unsafe : Bool) (label : Option LabelId) (number : Option BlockId) {D : Tracking}
      {c : Lowering StoredContents} → SideOutput D c
      → SideOutput D (block_form at is_unsafe label number c)
  unfolding block_form
  block_form_tracks is_unsafe label number h = tracks_then (tracks_enter_block number) (λ u. tracks_end h (λ r. tracks_expr _ _))

pub contents_tracks : {D E : Tracking} {fs : Lowering (List RecordLitField)} {s : Lowering RecordSpread} → SideOutput D fs
    → SideOutput E s → SideOutput (D ⊕ E) (record_contents fs s)
unfolding record_contents
contents_tracks hf hs = tracks_then hf (λ fs. tracks_end hs (λ s. tracks_pure (fs, s)))

pub labelled_tracks : (label : Option Label) {D : Tracking} {f : Option LabelId → ExprSteps}
    → ((n : Option LabelId) → SideOutput D (f n))
    → SideOutput D (labelled label f)
unfolding labelled
labelled_tracks None h = h None
labelled_tracks (Some l) h = opened_tracks l (λ n. h (Some n)) (λ n i. tracks_pure i)

-- constants

pub rooted_tracks : {D : Tracking} {p : ExprSteps} → SideOutput D p → SideOutput D (constant_form p)
unfolding constant_form
rooted_tracks h = tracks_begin tracks_open_barrier (λ outside. tracks_begin tracks_enter_root (λ outer. tracks_end h
    (λ i. tracks_begin (tracks_close_barrier outside) (λ y. tracks_begin (tracks_leave_root outer i) (λ u. tracks_pure _)))))

pub constant_tracks : {D : Tracking} {p : ExprSteps} → SideOutput D p → SideOutput D (owning (λ c. c.expr) (constant_form p))
constant_tracks h = tracks_owning (λ c. c.expr) (rooted_tracks h)

pub inner_tracks : {D : Tracking} {p : ExprSteps} → SideOutput D p → SideOutput D (inner_form p)
unfolding inner_form
inner_tracks h = tracks_begin tracks_open_barrier (λ outside. tracks_begin tracks_enter_root (λ outer. tracks_end h
    (λ i. tracks_begin (tracks_close_barrier outside) (λ y. tracks_begin (tracks_leave_root outer i) (λ u. tracks_pure _)))))
