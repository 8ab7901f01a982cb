-- What is so of types and paths by themselves, where they were answered: what the bodies inside left, and which roots they are.
use Rattle.std.proofs.Common.{◌≡◌, ◌∙◌, refl, sym, ap, subst, Bool, true, false, List, ◌++◌, Ok}
use Rattle.hir_store.specs.Stored.{Stored}
use Rattle.hir_store.specs.StoreSink.{Extends}
use Rattle.hir_store.specs.declared.ids.BlockId.{BlockId}
use Rattle.hir_lower_scope.specs.Scopes.{Scope}
use Rattle.spec_semantics.specs.Inner.{Bodies, path_inner_bodies, type_inner_bodies}
use Rattle.hir_lower_builder.specs.Builder.{Builder}
use Rattle.hir_lower_builder.specs.Lowering.{Lowering}
use Rattle.thm_logic.specs.Keeps.{Paired}
use Rattle.thm_logic.proofs.Frames.{frames, ribs, ribs_frames}
use Rattle.hir_store.proofs.Extending.{extends_refl}
use Rattle.thm_semantics.proofs.HeldTree.{part_holds, path_holds}
use Rattle.thm_body_result.specs.Diagnostics.{Around, Faults}
use Rattle.thm_body_result.specs.Theorems.{Settled}
use Rattle.thm_body_result.specs.Leads.{Mappings}
use Rattle.thm_body_result.specs.Corresponds.{Open}
use Rattle.thm_body_result.proofs.AfterLowering.{after_lowering}
use Rattle.thm_body_result.proofs.Around.{scopes_around}
use Rattle.thm_body_result.proofs.Lasting as lasting
use Rattle.thm_body_result.proofs.Lasting.{bound, unchanged_settled}
use Rattle.thm_body_result.proofs.Leading.{Shown}
use Rattle.thm_body_result.proofs.Standing.{Leaves}
use Rattle.thm_body_result.proofs.TreeBlocks.{Enters}
use Rattle.thm_body_result.proofs.TreeFaults.{Reports}
use Rattle.thm_type_result.specs.Roots.{RootsOf, recorded_bodies, TypeRoots, PathRoots}
use Rattle.thm_type_result.proofs.Meaning.{in_frames, held_whole}
use Rattle.thm_type_result.proofs.Tracking.{Tracking, Tracked, SideOutput, further_stored, no_roots}
use Rattle.thm_type_result.proofs.TreeTracks.{type_tracks, path_tracks}

module _ {A : Type 0} {p : Lowering A} (b c : Builder) (a : A) (paired : Paired b.stored) (is : p b ≡ (Ok a, c)) where
  pub mappings_behind : {W : Stored → Open → Mappings} → lasting.Correct p (Leaves W) → (later : Stored) → Extends c.stored later
      → Settled c.stored later → Shown (W later b.scopes) b.stored c.stored
  mappings_behind {W = W} h later stays settled =
      subst (λ rs. Shown (W later rs) b.stored c.stored) (sym (ribs_frames b.scopes))
      ((after_lowering h b a c paired is later stays).rel (unchanged_settled (bound b.stored) settled)).shown

  pub faults_behind : {D : List Scope → Faults} → Reports D p → (ss : List Scope) → Around ss b.scopes
      → c.stored.diagnostics ≡ b.stored.diagnostics ++ D ss
  faults_behind h ss around =
      let x = (after_lowering h b a c paired is c.stored (extends_refl c.stored)).emitted ss
      (subst (Around ss) (ribs_frames b.scopes) around) in
      x.is ∙ ap (λ ds. b.stored.diagnostics ++ ds) (sym x.like)

  pub blocks_behind : {ns : List BlockId} → Enters ns p → c.stored.block_scopes ≡ b.stored.block_scopes ++ ns
  blocks_behind h =
      let some_around = scopes_around (ribs (frames b.scopes)) in
      let x = (after_lowering h b a c paired is c.stored (extends_refl c.stored)).emitted some_around.0 some_around.1 in
      x.is ∙ ap (λ ks. b.stored.block_scopes ++ ks) (sym x.like)

  pub roots_behind : {es : Bodies} → SideOutput es p → (later : Stored) → Extends c.stored later
      → RootsOf b.scopes b.stored c.stored later (recorded_bodies b.in_root es)
  roots_behind {es = es} h later stays = by b.in_root refl (subst (λ q. Tracked es b q.0 q.1) is (h.tracks b paired))
    where
      by : (inside : Bool) → b.in_root ≡ inside → Tracking es b c → RootsOf b.scopes b.stored c.stored later (recorded_bodies inside es)
      by true e n = no_roots (further_stored n.kept.stays n.settled) (n.kept.roots e)
      by false e n = n.tracked e later stays

pub type_roots : TypeRoots
unfolding type_inner_bodies
type_roots binder t b c i paired is later stays =
    let held = in_frames (part_holds binder t) (frames b.scopes) b c i (ribs_frames b.scopes) paired is later stays in
    (roots_behind b c i paired is (type_tracks binder t) later stays, held_whole held)

pub path_roots : PathRoots
unfolding path_inner_bodies
path_roots p b c r paired is later stays =
    let held = in_frames (path_holds p) (frames b.scopes) b c r (ribs_frames b.scopes) paired is later stays in
    (roots_behind b c r paired is (path_tracks p) later stays, held_whole held)
