-- The root that an entry came with.
use Rattle.std.specs.Prelude.{ℕ, Bool, nat_lt, List, Option, Some, None}
use Rattle.std.specs.List.{find}
use Rattle.hir_store.specs.declared.roots.ExprRoot.{ExprRoot}
use Rattle.hir_store.specs.declared.hir.Expr.{Expr}
use Rattle.hir_store.specs.declared.hir.Expr.TheVariants as hir
use Rattle.hir_store.specs.declared.hir.ClosureKind.{ClosureKind}
use Rattle.hir_store.specs.declared.hir.ClosureKind.TheVariants as closure
use Rattle.hir_store.specs.declared.ids.ExprId.{ExprId}
use Rattle.hir_walks.specs.declared.roots.EntryKind.{EntryKind}
use Rattle.hir_walks.specs.declared.roots.EntryKind.TheVariants as entry

-- how many entries of a kind were stored when a root was done
abbrev pub end_of : EntryKind → ExprRoot → ℕ
end_of entry.Expr r = r.exprs_end.0
end_of entry.Pat r = r.pats_end.0
end_of entry.Binding r = r.bindings_end.0

abbrev pub is_past : EntryKind → ℕ → ExprRoot → Bool
is_past kind number r = nat_lt number (end_of kind r)

abbrev pub root_id : Option ExprRoot → Option ExprId
root_id None = None
root_id (Some r) = Some r.root

-- the first root that was done when the entry with this id was stored
abbrev pub root_of : EntryKind → ℕ → List ExprRoot → Option ExprId
root_of kind number rs = root_id (find (is_past kind number) rs)

-- the coroutine that a coroutine closure makes, which is its body
abbrev pub coroutine_in : ClosureKind → ExprId → Option ExprId
coroutine_in (closure.CoroutineClosure kind) body = Some body
coroutine_in _ body = None

abbrev pub coroutine_of : Option Expr → Option ExprId
coroutine_of (Some (hir.Closure args arg_types ret_type body kind capture)) = coroutine_in kind body
coroutine_of _ = None
