-- What is done of an element that is a call, one step after another.
use Rattle.std.proofs.Common.{◌≡◌, ◌∙◌, ap, refl, arith, Option, Some, None, Ok, Err}
use Rattle.std.specs.Prelude.{◌≢◌, IsErrAnd}
use Rattle.hir_syntax.specs.declared.macros.MacroCall.{MacroCall as AstMacroCall}
use Rattle.hir_syntax.specs.declared.pats.Pat.{Pat as AstPat}
use Rattle.hir_store.specs.Pointers.{Pointer}
use Rattle.hir_store.specs.Range.{Grows, HasPat, HasPatOption}
use Rattle.hir_store.specs.Stored.{Stored}
use Rattle.hir_store.specs.declared.error.StoreError.{StoreError}
use Rattle.hir_store.specs.declared.error.StoreError.TheVariants.{Memory}
use Rattle.hir_store.specs.declared.ids.PatId.{PatId}
use Rattle.hir_env.specs.ResolveCtx.{ResolveCtx}
use Rattle.hir_env.specs.Whole.{resolved_pat}
use Rattle.hir_env.specs.declared.expand.FragmentKind.TheVariants as kind
use Rattle.hir_env.specs.declared.ctx.LowerCtx.{LowerCtx}
use Rattle.hir_lower_builder.specs.Builder.{Builder}
use Rattle.hir_lower_builder.specs.Calls.{Found, entered_at}
use Rattle.hir_lower_builder.specs.Lowering.{Checked, Lowering, Lowers, SomeEnd, ◌>>=◌, go_on, pure}
use Rattle.hir_lower_builder.specs.Methods.{at_place}
use Rattle.hir_lower_builder.specs.Pats.{Table}
use Rattle.hir_lower_pat.specs.Bindings.{HasNames, LowersNamed, table_of}
use Rattle.hir_lower_pat.specs.Calls.{There, element_there, missing_led, pat_there, written_call}
use Rattle.hir_lower_pat.specs.Methods.{element_steps, point_element, point_found}
use Rattle.hir_lower_pat.specs.declared.bindings.Bindings.{Bindings}
use Rattle.hir_lower_pat.proofs.AssigneeFuel.{grows_on}
use Rattle.hir_lower_pat.proofs.CallLemmas.{element_on, lone_led}
use Rattle.hir_lower_pat.proofs.NameLemmas.{names_grow}

-- what is refused is refused in what it stands in
pub refused_named : {A : Type 0} (Has : Stored → A → Type 0) (steps : Table → Lowering (A × Table)) (was is : Bindings)
    (old new : Builder) (e : StoreError) (r : Checked A) → IsErrAnd r (λ f. f ≡ e)
    → (e ≢ Memory → (steps (table_of was) old ≡ (Err e, new)) × SomeEnd new) → LowersNamed Has steps was old r is new
refused_named Has steps was is old new e (Ok a) refused h = absurd refused
refused_named Has steps was is old new e (Err f) refused h = rw refused h

pub some_has : (s : Stored) (i : PatId) → HasPat s i → HasPatOption s (Some i)
some_has s i h = (omega arith, omega arith, omega arith, h)

abbrev present : PatId × Table → Lowering (Option PatId × Table)
present r = pure (Some r.0, r.1)

-- a pattern that is lowered is an element
pub part_named : (steps : Table → Lowering (PatId × Table)) (as_element : Table → Lowering (Option PatId × Table)) (was is : Bindings)
    (old new : Builder) (i : PatId) → ((t : Table) → as_element t ≡ steps t >>= present)
    → LowersNamed HasPat steps was old (Ok i) is new → LowersNamed HasPatOption as_element was old (Ok (Some i)) is new
part_named steps as_element was is old new i same h =
    (ap (λ f. f old) (same (table_of was)) ∙ ap (λ r. go_on r.0 r.1 present) h.0, h.1, some_has new.stored i h.2, h.3, h.4)

module _ (at : ResolveCtx) (s : Pointer) (c : AstMacroCall) (was is : Bindings) (old mid : Builder) where
  abbrev steps : Table → Lowering (Option PatId × Table)
  steps = element_steps (written_call at s c)

  abbrev behind : Table → Found → Lowering (Option PatId × Table)
  behind t f = element_there at (pat_there f) t >>= point_element s

  -- refused where it is asked about
  pub unasked : (t : Table) (e : StoreError) → entered_at at kind.Pat c old ≡ (Err e, mid) → steps t old ≡ (Err e, mid)
  unasked t e h = element_on at s c t old ∙ ap (λ r. go_on r.0 r.1 (behind t)) h

  -- found, and then what is there
  found : (t : Table) (f : Found) (x : There) → entered_at at kind.Pat c old ≡ (Ok f, mid) → pat_there f ≡ x
      → steps t old ≡ (element_there at x t >>= point_element s) mid
  found t f x h k =
      element_on at s c t old ∙ (ap (λ r. go_on r.0 r.1 (behind t)) h
      ∙ ap (λ y. (element_there at y t >>= point_element s) mid) k)

  -- that it stands for no pattern
  module _ (f : Found) (h : entered_at at kind.Pat c old ≡ (Ok f, mid)) (k : pat_there f ≡ None) (new : Builder) where
    nothing_there : (t : Table) → steps t old ≡ (missing_led s >>= (λ i. pure (Some i, t))) mid
    nothing_there t = found t f None h k ∙ lone_led s t mid

    pub missing_refused : (t : Table) (e : StoreError) → missing_led s mid ≡ (Err e, new) → steps t old ≡ (Err e, new)
    missing_refused t e l = nothing_there t ∙ ap (λ r. go_on r.0 r.1 (λ i. pure (Some i, t))) l

    pub missing_named : (i : PatId) → Grows old.stored mid.stored → HasNames old.stored was
        → Lowers HasPat (missing_led s) mid (Ok i) new → LowersNamed HasPatOption steps was old (Ok (Some i)) was new
    missing_named i grown names l =
        let all = grows_on old.stored mid.stored new.stored grown l.1 in (
          nothing_there (table_of was) ∙ ap (λ r. go_on r.0 r.1 (λ j. pure (Some j, table_of was))) l.0,
          all,
          some_has new.stored i l.2,
          names_grow old.stored new.stored was all names,
          refl,
        )

  -- that it stands for one
  module _ (f : Found) (q : LowerCtx) (x : AstPat) (h : entered_at at kind.Pat c old ≡ (Ok f, mid)) (k : pat_there f ≡ Some (q, x)) where
    abbrev inner : Table → Lowering (Option PatId × Table)
    inner = element_steps (resolved_pat (at_place at q) x)

    pub inner_refused : (t : Table) (e : StoreError) (new : Builder) → inner t mid ≡ (Err e, new) → steps t old ≡ (Err e, new)
    inner_refused t e new l = found t f (Some (q, x)) h k ∙ ap (λ r. go_on r.0 r.1 (point_element s)) l

    led : (o : Option PatId) (low new : Builder) (r : Checked (Option PatId)) → inner (table_of was) mid ≡ (Ok (o, table_of is), low)
        → point_found s o low ≡ (r, new) → steps (table_of was) old ≡ go_on r new (λ y. pure (y, table_of is))
    led o low new r l m =
        found (table_of was) f (Some (q, x)) h k ∙ (ap (λ z. go_on z.0 z.1 (point_element s)) l
        ∙ ap (λ z. go_on z.0 z.1 (λ y. pure (y, table_of is))) m)

    pub inner_named : (o : Option PatId) (low new : Builder) (r : Checked (Option PatId)) → Grows old.stored mid.stored
        → LowersNamed HasPatOption inner was mid (Ok o) is low → Lowers HasPatOption (point_found s o) low r new
        → LowersNamed HasPatOption steps was old r is new
    inner_named o low new (Ok a) grown l m = (
      led o low new (Ok a) l.0 m.0,
      grows_on old.stored low.stored new.stored (grows_on old.stored mid.stored low.stored grown l.1) m.1,
      m.2,
      names_grow low.stored new.stored is m.1 l.3,
      l.4,
    )
    inner_named o low new (Err e) grown l m = λ other. let n = m other in (led o low new (Err e) l.0 n.0, n.1)
