-- What is done with the parts of types, paths, arguments and bounds stores as much as they become, or there is no room for it.
use Rattle.std.proofs.Common.{◌≤◌, ◌≡◌, refl, subst, ◌+◌, ◌^◌, nat_lt, Bool, true, false, if◌then◌else◌}
use Rattle.std.proofs.Common.{List, [], ◌∷◌, Option, Some, None, is_some, option_map, inr, inl}
use Rattle.std.proofs.lemmas.Bool.{ltb-false}
use Rattle.hir_store.specs.Pointers.{Pointer}
use Rattle.hir_store.specs.declared.path.PathKind.TheVariants as kind
use Rattle.hir_store.specs.declared.type_ref.UseArgRef.{UseArgRef}
use Rattle.hir_env.specs.ResolvedTree as tree
use Rattle.hir_env.specs.ResolvedTree.{Binder, Lifetime, UseRead}
use Rattle.hir_store.specs.declared.path.Path.{Path as HirPath}
use Rattle.hir_lower_builder.specs.declared.walk.PathWalk.{PathWalk}
use Rattle.hir_lower_builder.specs.declared.walk.Reading.{Reading}
use Rattle.hir_lower_builder.specs.declared.walk.Reading.TheVariants.{Refused, Ended, Open}
use Rattle.hir_lower_builder.specs.Builder.{Builder}
use Rattle.hir_lower_builder.specs.Lowering.{Lowering, count_out}
use Rattle.hir_lower_builder.specs.Walks.{supers, super_read}
use Rattle.hir_lower_builder.specs.Paths.{proceed, or_count_out}
use Rattle.hir_lower_builder.specs.Types.{lower_lifetime, lower_use, lower_uses}
use Rattle.hir_lower_builder.specs.Types.{path_bound_of, path_bound_form}
use Rattle.thm_body_result.specs.Size.{Size, nothing, a_type, a_lifetime, a_super, ◌∪◌, if_so}
use Rattle.thm_body_result.specs.Room.{Short}
use Rattle.thm_logic.proofs.PathAnswers.{walk_seen, seen_of, option_seen, Gives, GivesPath}
use Rattle.thm_logic.specs.PathSeen.{Seen, Read, goes_on, after, one_more}
use Rattle.thm_body_result.specs.PathRoom.{before, use_size, uses_size}
use Rattle.thm_logic.proofs.Tracked.{naming_keeps}
use Rattle.thm_body_result.proofs.TrackRooms.{takes_tracked}
use Rattle.thm_body_result.proofs.Rooms.{Takes, takes_then, takes_end, takes_pure, takes_type, takes_lifetime}
use Rattle.thm_body_result.proofs.Took.{Same}
use Rattle.thm_body_result.proofs.Emissions.{Emits, emits_then, emits_as, emits_pure, anything, emits_any, takes_of}

pub proceed_emits : (r : Reading) (read : Read) {f : PathWalk → Lowering Reading} (k : Seen → Size) (g : Seen → Read) → Gives read r
    → ((w : PathWalk) → Emits (k (walk_seen w)) (Gives (g (walk_seen w))) (f w))
    → Emits (before read k) (Gives (after read g)) (proceed r f)
proceed_emits r read {f = f} k g e h =
    subst (λ q. Emits (before q k) (Gives (after q g)) (proceed r f)) e (by r)
  where
    by : (r : Reading) → Emits (before (seen_of r) k) (Gives (after (seen_of r) g)) (proceed r f)
    by Refused = emits_pure _ Refused refl
    by (Ended w) = emits_pure _ (Ended w) refl
    by (Open w) = h w

-- what counts too far is refused
pub counts_out : (n : Size) (b : Builder) → n.overcounts → Short n b
counts_out n b h = inr (inr (inr (inr (inr (inr (inl h))))))

-- what isn't counted too far is nothing
pub counts_so_far : (X : Type 0) → Same nothing (record nothing { overcounts = X })
counts_so_far X = record {
  exprs = refl;
  labels = refl;
  bindings = refl;
  owners = refl;
  names = refl;
  params = refl;
  pats = refl;
  types = refl;
  lifetimes = refl;
  pat_leads = refl;
  type_leads = refl;
  overcounts = λ x. absurd x;
}

pub counted_emits : (w : PathWalk)
    → Emits (a_super (supers w.kind)) (Gives (goes_on (one_more (walk_seen w)))) (or_count_out (super_read w))
unfolding count_out
counted_emits w = by (nat_lt (supers w.kind + 1) (2 ^ 32)) refl
  where
    by : (b : Bool) → nat_lt (supers w.kind + 1) (2 ^ 32) ≡ b
        → Emits (a_super (supers w.kind)) (Gives (goes_on (one_more (walk_seen w))))
        (or_count_out (option_map (λ k. Open (record w { kind = k })) (if b then Some (kind.Super (supers w.kind + 1)) else None)))
    by true is = emits_as (counts_so_far (2 ^ 32 ≤ supers w.kind + 1))
        (emits_pure _ (Open (record w { kind = kind.Super (supers w.kind + 1) })) refl)
    by false is = record { emits = λ b d. counts_out (a_super (supers w.kind)) b (ltb-false (supers w.kind + 1) (2 ^ 32) is) }

-- types

pub lifetime_takes : (l : Lifetime) → Takes (a_lifetime (Some l.pointer)) (lower_lifetime l)
unfolding lower_lifetime
lifetime_takes l = takes_tracked _ (naming_keeps l.scope l.lifetime) (takes_lifetime _ _)

use_takes : (u : UseRead) → Takes (use_size u) (lower_use u)
use_takes (tree.used_name n) = takes_pure _
use_takes (tree.used_lifetime l) = takes_end (lifetime_takes l) (λ i. takes_pure _)

pub uses_take : (done : List UseArgRef) (us : List UseRead) → Takes (uses_size us) (lower_uses done us)
uses_take done [] = takes_pure done
uses_take done (u ∷ us) = takes_then (use_takes u) (λ x. uses_take _ us)

module _ (at : Pointer) where
  pub path_bound_takes : (maybe : Bool) (binder : Binder) {n : Size} {x : Option Seen} {p : Lowering (Option HirPath)}
      → Emits n (GivesPath x) p → Takes (n ∪ if_so (is_some x) (a_type (Some at))) (path_bound_form at maybe binder p)
  unfolding path_bound_form
  path_bound_takes maybe binder {x = x} h = takes_of (emits_then h (λ p e. by p e))
    where
      of_path : (p : Option HirPath) → Takes (if_so (is_some (option_seen p)) (a_type (Some at))) (path_bound_of at maybe binder p)
      of_path None = takes_pure _
      of_path (Some p) = takes_end (takes_type _ _) (λ i. takes_pure _)

      by : (p : Option HirPath) → GivesPath x p → Emits (if_so (is_some x) (a_type (Some at))) anything (path_bound_of at maybe binder p)
      by p e = emits_any (subst (λ y. Takes (if_so (is_some y) (a_type (Some at))) (path_bound_of at maybe binder p)) e (of_path p))
