-- The theorem of a store, at what `lower_body` promises of its answer.
use Rattle.std.proofs.Common.{◌≡◌, refl, sym, subst, Bool, true, false, Option, None, Ok, Err}
use Rattle.hir_store.specs.Range.{InRange, StoreInRange}
use Rattle.hir_store.specs.StoreSink.{root_at}
use Rattle.hir_store.specs.declared.hir.CoroutineKind.{CoroutineKind}
use Rattle.hir_env.specs.Answering.{coroutine_kind}
use Rattle.hir_env.specs.ResolvedTree.{Expr}
use Rattle.spec_scopes.specs.Placed.{outermost}
use Rattle.spec_scoping.specs.Scoping.{Stands, Where, outside}
use Rattle.thm_body_result.specs.OneResult.{OneResult}
use Rattle.thm_scoping.specs.Agree.{ConstantsBindNothing, PatsReachedOnce, SeesSame}
use Rattle.thm_scoping.proofs.Bodies.{bodies_agree}
use Rattle.hir_lower.specs.Clauses.{HasBodyParams, IsOneResult}
use Rattle.hir_lower.specs.Formals.{formals_read}
use Rattle.hir_lower.specs.Inputs.{BodyInput, body_input}
use Rattle.hir_lower.specs.Means.{kind_unless_skipped}
use Rattle.hir_lower.specs.Roots.{formals_of, given_of}
use Rattle.hir_lower.specs.declared.body.Body.{Body}
use Rattle.hir_lower.specs.declared.body.BodySourceMap.{BodySourceMap}
use Rattle.thm_lowered_scopes.specs.Agree.{CallsAgree, LoweredScopesAgree, SeesAll}

module _ (x : BodyInput) (b : Body) (m : BodySourceMap) where
  -- at the root that a result of this kind names
  abbrev SameBelow : (kind : Option CoroutineKind)
      → OneResult b.store m.store x.owed kind x.skipped x.formals (given_of b) x.read → Type 0
  SameBelow kind r =
      (c : Expr) (w : Where) → Stands x.read (outside x.formals.receiver (formals_read x.skipped x.formals.formals)) c w
      → SeesSame b.store m.store (formals_of b).0 r.root (outermost b.store (formals_of b).0 (formals_of b).1) c w

  same_below : StoreInRange b.store → PatsReachedOnce b.store (formals_of b).1 → ConstantsBindNothing b.store
      → (kind : Option CoroutineKind) → kind ≡ None
      → (r : OneResult b.store m.store x.owed kind x.skipped x.formals (given_of b) x.read) → SameBelow kind r
  same_below range once nothing kind plain =
      subst (λ k. (r : OneResult b.store m.store x.owed k x.skipped x.formals (given_of b) x.read) → SameBelow k r) (sym plain)
      (λ r. bodies_agree b.store m.store x.owed x.skipped x.formals x.read (given_of b) range once nothing r)

  sees_all : x.kind ≡ None → IsOneResult x b m → HasBodyParams x b m → InRange b.store m.store → ConstantsBindNothing b.store
      → SeesAll x b m
  sees_all plain r params range nothing = record {
    root = root_at b.store r.root;
    only = r.only;
    same = same_below range.store params.pats_reached_once nothing x.kind plain r;
  }

pub bodies : LoweredScopesAgree
bodies x (Err e) plain p = tt
bodies x (Ok r) plain p = λ nothing. sees_all x r.0 r.1 plain p.one_result p.params p.in_range nothing

-- neither is a coroutine, skipped or not
plain_kind : (skipped : Bool) → kind_unless_skipped skipped (coroutine_kind false false) ≡ None
plain_kind true = refl
plain_kind false = refl

pub calls : CallsAgree
calls env owner node file inside ps e answer p =
    let x = body_input env owner node file inside ps e false false in bodies x answer (plain_kind x.skipped) p
