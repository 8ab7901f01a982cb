-- The scopes around what is open.
use Rattle.std.proofs.Common.{◌≡◌, ◌∙◌, refl, ap, Bool, List, [], ◌∷◌, Some, None}
use Rattle.hir_store.specs.Pointers.{Pointer}
use Rattle.hir_store.specs.declared.ids.MacroDefId.{MacroDefId}
use Rattle.hir_env.specs.ResolvedTree.{Label}
use Rattle.hir_lower_scope.specs.ScopeRibs.{Rib, label_rib, try_rib, macro_rib, barrier_rib, map_ribs}
use Rattle.hir_lower_scope.specs.Scopes.{Scope, loop_scope, block_scope, try_scope, macro_scope, barrier, one_out, ribs}
use Rattle.hir_lower_scope.proofs.Ribs.{map_ribs_twice}
use Rattle.thm_body_result.specs.Diagnostics.{forget, Around}
use Rattle.thm_body_result.specs.Theorems.{ScopesAround}

farther : {A : Type 0} (ss : List Scope) (rs : List (Rib A)) → Around ss rs
    → map_ribs forget (map_ribs one_out (ribs ss)) ≡ map_ribs forget rs
farther ss rs e = map_ribs_twice one_out forget (ribs ss) ∙ e

pub in_loop : {A : Type 0} (ss : List Scope) (rs : List (Rib A)) → Around ss rs → Around (loop_scope None ∷ ss) rs
in_loop ss rs e = farther ss rs e

-- a scope that is one rib
pub record IsRib {A : Type 0} (c : Scope) (r : Rib A) : Type 0 where
  pub around : (ss : List Scope) (rs : List (Rib A)) → Around ss rs → Around (c ∷ ss) (r ∷ rs)

pub loop_is_rib : {A : Type 0} (l : Label) (a : A) → IsRib (loop_scope (Some l)) (label_rib l.name l.hygiene a)
loop_is_rib l a = record { around = λ ss rs e. ap (λ y. label_rib l.name l.hygiene tt ∷ y) (farther ss rs e) }

pub block_is_rib : {A : Type 0} (l : Label) (a : A) → IsRib (block_scope l) (label_rib l.name l.hygiene a)
block_is_rib l a = record { around = λ ss rs e. ap (λ y. label_rib l.name l.hygiene tt ∷ y) (farther ss rs e) }

pub try_is_rib : {A : Type 0} (typed : Bool) (a : A) → IsRib (try_scope typed) (try_rib a typed)
try_is_rib typed a = record { around = λ ss rs e. ap (λ y. try_rib tt typed ∷ y) (farther ss rs e) }

pub macro_is_rib : {A : Type 0} (d : MacroDefId) → IsRib {A = A} (macro_scope d) (macro_rib d)
macro_is_rib d = record { around = λ ss rs e. ap (λ y. macro_rib d ∷ y) e }

-- whatever is open, there are scopes for it

somewhere : Pointer
somewhere = record { file_id = record { 0 = 0 }; value = record { node = record { 0 = 0 }; range = record { start = 0; end = 0 } } }

pub scopes_around : ScopesAround
scopes_around [] = ([], refl)
scopes_around (label_rib name hygiene label ∷ rs) =
    let outer = scopes_around rs in
    let l : Label = record { pointer = somewhere; name = name; hygiene = hygiene } in
    (loop_scope (Some l) ∷ outer.0, (loop_is_rib l label).around outer.0 rs outer.1)
scopes_around (try_rib label typed ∷ rs) =
    let outer = scopes_around rs in (try_scope typed ∷ outer.0, (try_is_rib typed label).around outer.0 rs outer.1)
scopes_around (macro_rib d ∷ rs) = let outer = scopes_around rs in (macro_scope d ∷ outer.0, ap (λ y. macro_rib d ∷ y) outer.1)
scopes_around (barrier_rib ∷ rs) = let outer = scopes_around rs in (barrier ∷ outer.0, ap (λ y. barrier_rib ∷ y) outer.1)
