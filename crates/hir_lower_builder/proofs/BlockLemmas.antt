-- A block where only a block may stand has no label of its own.
use Rattle.std.proofs.Common.{arith, ◌≡◌, ◌∙◌, ap, refl, subst, sym, suc, ◌-◌, true, false}
use Rattle.std.proofs.Common.{List, [], ◌∷◌, ◌++◌, length, length-append, Option, Some, None}
use Rattle.std.specs.Prelude.{slice_get, MatchOption}
use Rattle.hir_syntax.specs.declared.ast.BlockExpr.{BlockExpr as AstBlockExpr, out-BlockExpr}
use Rattle.hir_syntax.specs.declared.ast.BlockModifier.{BlockModifier}
use Rattle.hir_syntax.specs.declared.ast.BlockModifier.TheVariants as modifier
use Rattle.hir_store.specs.Stored.{Stored}
use Rattle.hir_store.specs.Past.{past_statement}
use Rattle.hir_store.specs.Range.{Has, HasStatements, HasExprOption}
use Rattle.hir_store.specs.declared.hir.CoroutineKind.{CoroutineKind}
use Rattle.hir_store.specs.declared.hir.CoroutineKind.TheVariants as coroutine
use Rattle.hir_store.specs.declared.hir.Statement.{Statement}
use Rattle.hir_store.specs.declared.hir.Statement.TheVariants as statement
use Rattle.hir_store.specs.declared.ids.ExprId.{ExprId}
use Rattle.hir_env.specs.ResolveCtx.{ResolveCtx}
use Rattle.hir_env.specs.ResolvedTree as tree
use Rattle.hir_env.specs.ResolvedTree.{Block, Expr, OptionType}
use Rattle.hir_env.specs.Answering.{plain_head, unsafe_head}
use Rattle.hir_env.specs.Whole.{resolved_block, resolved_plain, block_head, block_level, const_level, typed_try_level}
use Rattle.hir_env.specs.Whole.{coroutine_level, in_const_block, in_coroutine, own_level}
use Rattle.hir_env.specs.Whole.{pointer_at, type_part}
use Rattle.hir_env.proofs.Levels.{block_is_level, plain_is_level}
use Rattle.hir_lower_builder.specs.Forms.{const_form, constant_form, coroutine_form, labelled}
use Rattle.hir_lower_builder.specs.Lowering.{owning}
use Rattle.hir_lower_builder.specs.Lower.{lower, lower_block, lower_inside, settled, try_form, value_of}
use Rattle.hir_lower_builder.specs.Methods.{own_steps_at}
use Rattle.hir_lower_builder.specs.declared.parts.BlockRole.TheVariants as role

pub plain_inside : (at : ResolveCtx) (b : AstBlockExpr)
    → lower_block (resolved_plain at b) ≡ lower_inside (role.Plain false None) (resolved_plain at b)
unfolding labelled
plain_inside at b =
    let P : Block → Type 0 = λ x. lower_block x ≡ lower_inside (role.Plain false None) x in subst P (sym (plain_is_level at b)) refl

-- the tail that a block has in the end

get_end : (xs : List Statement) (x : Statement) → slice_get (xs ++ x ∷ []) (length (xs ++ x ∷ []) - 1) ≡ Some x
get_end [] x = refl
get_end (y ∷ xs) x =
    let l = length-append xs (x ∷ []) in
    let e : length (y ∷ (xs ++ x ∷ [])) - 1 ≡ suc (length (xs ++ x ∷ []) - 1) = omega arith in
    rw e (get_end xs x)

get_last : (s t : Statement) (ss : List Statement)
    → slice_get (s ∷ t ∷ ss) (length (s ∷ t ∷ ss) - 1) ≡ slice_get (t ∷ ss) (length (t ∷ ss) - 1)
get_last s t ss =
    let e : length (s ∷ t ∷ ss) - 1 ≡ suc (length ss) = omega arith in
    let f : length (t ∷ ss) - 1 ≡ length ss = omega arith in
    rw (e, f) refl

settled_expr : (ss : List Statement) (id : ExprId) → settled (ss ++ statement.Expr id false ∷ []) None ≡ (ss, Some id)
settled_expr [] id = refl
settled_expr (statement.Expr i true ∷ ss) id = λ k. (statement.Expr i true ∷ (settled_expr ss id k).0, (settled_expr ss id k).1)
settled_expr (statement.Expr i false ∷ []) id = refl
settled_expr (statement.Expr i false ∷ s ∷ ss) id =
    λ k. (statement.Expr i false ∷ (settled_expr (s ∷ ss) id k).0, (settled_expr (s ∷ ss) id k).1)
settled_expr (statement.Let p t i b ∷ ss) id = λ k. (statement.Let p t i b ∷ (settled_expr ss id k).0, (settled_expr ss id k).1)
settled_expr (statement.MacroDef d ∷ ss) id = λ k. (statement.MacroDef d ∷ (settled_expr ss id k).0, (settled_expr ss id k).1)
settled_expr (statement.Item ∷ ss) id = λ k. (statement.Item ∷ (settled_expr ss id k).0, (settled_expr ss id k).1)

settled_some : (ss : List Statement) (s : Statement) (id : ExprId)
    → value_of (Some s) ≡ Some id → settled (ss ++ s ∷ []) None ≡ (ss, Some id)
settled_some ss (statement.Expr i false) id h = let e : i ≡ id = cc in rw e (settled_expr ss id)
settled_some ss (statement.Expr i true) id h = cc
settled_some ss (statement.Let p t i b) id h = cc
settled_some ss (statement.MacroDef d) id h = cc
settled_some ss statement.Item id h = cc

pub settled_pop : (old new : List Statement) (r : Option Statement) (id : ExprId)
    → MatchOption r ((old ≡ []) × (new ≡ [])) (λ last. old ≡ new ++ last ∷ [])
    → value_of (slice_get old (length old - 1)) ≡ Some id → settled old None ≡ (new, Some id)
settled_pop old new None id m h = let e : value_of (slice_get [] (length {A = Statement} [] - 1)) ≡ Some id = rw m.0 at h in cc
settled_pop old new (Some s) id m h =
    let e : value_of (slice_get (new ++ s ∷ []) (length (new ++ s ∷ []) - 1)) ≡ Some id = rw m at h in
    let f : value_of (Some s) ≡ Some id = rw (get_end new s) at e in
    rw m (settled_some new s id f)

pub settled_none : (ss : List Statement) → value_of (slice_get ss (length ss - 1)) ≡ None → settled ss None ≡ (ss, None)
settled_none [] h = refl
settled_none (statement.Expr i false ∷ []) h = cc
settled_none (statement.Expr i true ∷ []) h = refl
settled_none (statement.Let p x i b ∷ []) h = refl
settled_none (statement.MacroDef d ∷ []) h = refl
settled_none (statement.Item ∷ []) h = refl
settled_none (statement.Expr i false ∷ t ∷ ss) h =
    let r = settled_none (t ∷ ss) (rw (get_last (statement.Expr i false) t ss) at h) in λ k. (statement.Expr i false ∷ (r k).0, (r k).1)
settled_none (statement.Expr i true ∷ t ∷ ss) h =
    let r = settled_none (t ∷ ss) (rw (get_last (statement.Expr i true) t ss) at h) in λ k. (statement.Expr i true ∷ (r k).0, (r k).1)
settled_none (statement.Let p x i b ∷ t ∷ ss) h =
    let r = settled_none (t ∷ ss) (rw (get_last (statement.Let p x i b) t ss) at h) in
    λ k. (statement.Let p x i b ∷ (r k).0, (r k).1)
settled_none (statement.MacroDef d ∷ t ∷ ss) h =
    let r = settled_none (t ∷ ss) (rw (get_last (statement.MacroDef d) t ss) at h) in λ k. (statement.MacroDef d ∷ (r k).0, (r k).1)
settled_none (statement.Item ∷ t ∷ ss) h =
    let r = settled_none (t ∷ ss) (rw (get_last statement.Item t ss) at h) in λ k. (statement.Item ∷ (r k).0, (r k).1)

abbrev Settled : Stored → List Statement × Option ExprId → Type 0
Settled s r = HasStatements s r.0 × HasExprOption s r.1

-- the first statement exists, and so do the others
first_has : (s : Stored) (x : Statement) (ss : List Statement) → HasStatements s (x ∷ ss) → Has s (past_statement x)
first_has s x ss h = (omega (arith, h.0), omega (arith, h.1), omega (arith, h.2), omega (arith, h.3))

others_have : (s : Stored) (x : Statement) (ss : List Statement) → HasStatements s (x ∷ ss) → HasStatements s ss
others_have s x ss h = (omega (arith, h.0), omega (arith, h.1), omega (arith, h.2), omega (arith, h.3))

both_have : (s : Stored) (x : Statement) (ss : List Statement) → Has s (past_statement x) → HasStatements s ss → HasStatements s (x ∷ ss)
both_have s x ss h k = (omega (arith, h.0, k.0), omega (arith, h.1, k.1), omega (arith, h.2, k.2), omega (arith, h.3, k.3))

-- behind the first statement a block is settled as without it
settled_behind : (s : Stored) (x : Statement) (ss : List Statement)
    → HasStatements s (x ∷ ss) → (HasStatements s ss → Settled s (settled ss None))
    → Settled s (x ∷ (settled ss None).0, (settled ss None).1)
settled_behind s x ss h rest =
    let r = rest (others_have s x ss h) in (both_have s x (settled ss None).0 (first_has s x ss h) r.0, r.1)

pub settled_range : (s : Stored) (ss : List Statement) (t : Option ExprId)
    → HasStatements s ss → HasExprOption s t → Settled s (settled ss t)
settled_range s ss (Some t) h k = (h, k)
settled_range s [] None h k = (h, k)
settled_range s (statement.Expr i false ∷ []) None h k = (others_have s (statement.Expr i false) [] h, omega (arith, h.0))
settled_range s (statement.Expr i false ∷ x ∷ ss) None h k =
    settled_behind s (statement.Expr i false) (x ∷ ss) h (λ m. settled_range s (x ∷ ss) None m k)
settled_range s (statement.Expr i true ∷ ss) None h k = settled_behind s (statement.Expr i true) ss h (λ m. settled_range s ss None m k)
settled_range s (statement.Let p t i b ∷ ss) None h k = settled_behind s (statement.Let p t i b) ss h (λ m. settled_range s ss None m k)
settled_range s (statement.MacroDef d ∷ ss) None h k = settled_behind s (statement.MacroDef d) ss h (λ m. settled_range s ss None m k)
settled_range s (statement.Item ∷ ss) None h k = settled_behind s statement.Item ss h (λ m. settled_range s ss None m k)

pub settled_in_range : (s : Stored) (ss new : List Statement) (t u : Option ExprId)
    → settled ss t ≡ (new, u) → HasStatements s ss → HasExprOption s t → Settled s (new, u)
settled_in_range s ss new t u e h k = subst (Settled s) e (settled_range s ss t h k)

-- a block as an expression

module _ (at : ResolveCtx) (b : AstBlockExpr) where
  abbrev Labelled : Block → Type 0
  Labelled x = lower (tree.block_expr (block_level at (block_head at b) b))
      ≡ labelled (block_head at b).label (λ id. lower_inside (role.Plain false id) x)

  abbrev Unsafe : Block → Type 0
  Unsafe x = lower (tree.block_expr (block_level at unsafe_head b)) ≡ lower_inside (role.Plain true None) x

  abbrev Const : Block → Type 0
  Const x =
      let level = out-BlockExpr b in
      lower (const_level at b)
      ≡ owning (λ i. i) (const_form (pointer_at at level.id level.range) (constant_form (lower_inside (role.Plain false None) x)))

  abbrev Coroutine : CoroutineKind → Block → Type 0
  Coroutine kind x =
      lower (coroutine_level kind (in_coroutine kind at) b)
      ≡ owning (λ i. i) (coroutine_form (lower_inside (role.Coroutine kind (out-BlockExpr b).move_) x))

  abbrev Tried : OptionType → Block → Type 0
  Tried t x =
      let level = out-BlockExpr b in
      let item = at.answers.lang_items.try_trait_from_output in
      lower (typed_try_level at t b) ≡ try_form (pointer_at at level.id level.range) t (λ typed. lower_inside (role.Try item typed) x)

  tried_level : (t : OptionType) → Tried t (block_level at plain_head b)
  tried_level tree.no_type = refl
  tried_level (tree.some_type t) = refl

  own_level_inside : (m : Option BlockModifier) → lower (own_level at m b) ≡ own_steps_at at m b
  unfolding labelled
  own_level_inside None = subst Labelled (sym (plain_is_level at b)) refl
  own_level_inside (Some modifier.Unsafe) = subst Unsafe (sym (plain_is_level at b)) refl
  own_level_inside (Some modifier.Try) =
      let t = type_part at (out-BlockExpr b).ty in subst (Tried t) (sym (plain_is_level at b)) (tried_level t)
  own_level_inside (Some modifier.Const) = subst Const (sym (plain_is_level (in_const_block at) b)) refl
  own_level_inside (Some modifier.Async) =
      subst (Coroutine coroutine.Async) (sym (plain_is_level (in_coroutine coroutine.Async at) b)) refl
  own_level_inside (Some modifier.Gen) = subst (Coroutine coroutine.Gen) (sym (plain_is_level (in_coroutine coroutine.Gen at) b)) refl
  own_level_inside (Some modifier.AsyncGen) =
      subst (Coroutine coroutine.AsyncGen) (sym (plain_is_level (in_coroutine coroutine.AsyncGen at) b)) refl

  pub own_inside : lower (resolved_block at b) ≡ own_steps_at at (out-BlockExpr b).mod_ b
  own_inside = ap lower (block_is_level at b) ∙ own_level_inside (out-BlockExpr b).mod_
