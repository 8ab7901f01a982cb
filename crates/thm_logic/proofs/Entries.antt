-- What steps that store have in common: those that add one entry to an arena, and those that leave all that is counted.
use Rattle.std.proofs.Common.{[], ◌≡◌, ℕ, suc, ◌+◌, Bool, true, false, if◌then◌else◌, nat_lt, slice_get, map, List}
use Rattle.std.proofs.Common.{◌∷◌, ◌++◌, length, Option, Some, Ok, Err, refl, sym, ap, subst, ◌∙◌, arith, length-append}
use Rattle.hir_store.specs.Pointers.{Pointer}
use Rattle.hir_store.specs.Arenas.{Continues, MapsBack, Prefix, Sourced, with_entry, with_made}
use Rattle.hir_store.specs.Bindings.{without_problem}
use Rattle.hir_store.specs.Stored.{Stored}
use Rattle.hir_store.specs.StoreSink.{Extends}
use Rattle.hir_store.specs.declared.error.StoreError.TheVariants.{Full}
use Rattle.hir_store.specs.declared.hir.Expr.{Expr}
use Rattle.hir_store.specs.declared.hir.Label.{Label}
use Rattle.hir_store.specs.declared.ids.LifetimeRefId.{LifetimeRefId}
use Rattle.hir_store.specs.declared.ids.TypeRefId.{TypeRefId}
use Rattle.hir_store.specs.declared.pat.Pat.{Pat}
use Rattle.hir_store.specs.declared.roots.ExprRoot.{ExprRoot}
use Rattle.hir_store.specs.declared.type_ref.LifetimeRef.{LifetimeRef}
use Rattle.hir_store.specs.declared.type_ref.TypeRef.{TypeRef}
use Rattle.hir_store.proofs.Arenas.{continues_entry, continues_made}
use Rattle.hir_lower_builder.specs.Builder.{Builder}
use Rattle.hir_lower_builder.specs.Lowering.{Checked, stored}
use Rattle.thm_logic.specs.Keeps.{EachLeads, Mapped, Paired}
use Rattle.thm_logic.proofs.Frames.{Frame}
use Rattle.thm_logic.proofs.Logic.{Answers, Correct, Counts, Grows, Holds, Rel, counts, in_prefix, longer, mark}

-- an arena with one entry more

pub record OneMore {T I : Type 0} (x : T) (source : Option Pointer) (old new : Sourced T I) : Type 0 where
  pub entries : new.entries ≡ old.entries ++ x ∷ []
  pub sources : new.sources ≡ old.sources ++ source ∷ []
  pub continues : Continues old new

pub entry_more : {T I : Type 0} (number : ℕ → I) (x : T) (source : Option Pointer) (a : Sourced T I)
    → OneMore x source a (with_entry number a x source)
entry_more number x source a = record { entries = refl; sources = refl; continues = continues_entry number a x source }

pub made_more : {T I : Type 0} (x : T) (source : Option Pointer) (a : Sourced T I) → OneMore x source a (with_made a x source)
made_more x source a = record { entries = refl; sources = refl; continues = continues_made a x source }

module _ {T I : Type 0} {x : T} {source : Option Pointer} {old new : Sourced T I} (h : OneMore x source old new) where
  pub counted_more : length new.entries ≡ suc (length old.entries)
  counted_more =
      let e = ap length h.entries in
      let n = length-append old.entries (x ∷ []) in omega (arith, e, n)

  pub paired_more : length old.sources ≡ length old.entries → length new.sources ≡ length new.entries
  paired_more d =
      let e = ap length h.entries in
      let n = length-append old.entries (x ∷ []) in
      let f = ap length h.sources in
      let m = length-append old.sources (source ∷ []) in omega (arith, d, e, n, f, m)

  pub entry_at : {final : Sourced T I} → Continues new final → slice_get final.entries (length old.entries) ≡ Some x
  entry_at {final = final} pre =
      in_prefix old.entries x (length old.entries) refl (subst (λ k. Prefix k final.entries) h.entries pre.entries)

  pub source_at : {final : Sourced T I} → length old.sources ≡ length old.entries → Continues new final
      → slice_get final.sources (length old.entries) ≡ Some source
  source_at {final = final} d pre =
      in_prefix old.sources source (length old.entries) (sym d) (subst (λ k. Prefix k final.sources) h.sources pre.sources)

-- what a step that stores keeps

pub map_as_long : {A B : Type 0} (g : A → B) (xs : List A) → length xs ≡ length (map g xs)
map_as_long g [] = refl
map_as_long g (x ∷ xs) = ap suc (map_as_long g xs)

-- what goes on gets no shorter
pub grows_on : (b : Builder) (s : Stored) → Extends b.stored s → Grows (mark b) (mark (record b { stored = s }))
grows_on b s stays =
    let pats = longer stays.pats.entries in
    let types = longer stays.types.entries in
    let bindings = longer stays.bindings.entries in
    let before = map_as_long without_problem b.stored.bindings.entries in
    let after = map_as_long without_problem s.bindings.entries in record {
      nodes = longer stays.exprs.entries;
      labels = longer stays.labels.entries;
      pats = pats;
      bindings = omega (arith, bindings, before, after);
      types = types;
      lifetimes = longer stays.lifetimes.entries;
      entries = omega (arith, types, pats);
      names = omega arith;
    }

-- What is open stays, and so do the roots.
pub answers_stored : {A : Type 0} {R : Rel A} {final : Stored} {ps : List Frame} (b : Builder) (s : Stored) {a : A}
    → s.roots ≡ b.stored.roots → (Paired b.stored → Paired s) → (Paired b.stored → Mapped b.stored → Mapped s) → Extends b.stored s
    → (Paired b.stored → Extends s final → R final ps (mark b) (mark (record b { stored = s })) a)
    → Answers R final ps b (record b { stored = s }) a
answers_stored b s roots paired mapped stays in_final = record {
  kept = record { scopes = refl; in_root = refl; roots = λ t. roots; paired = paired; mapped = mapped; stays = stays };
  grows = grows_on b s stays;
  in_final = in_final;
}

-- A step adds to an arena where there is room, and answers the number; else it is refused, and nothing is stored.

-- where another entry fits
abbrev pub has_room : {T I : Type 0} → Sourced T I → Bool
has_room a = nat_lt (length a.entries) a.limit

module _ {T I : Type 0} (arena : Stored → T) (put : Stored → T → Stored) (fits : T → Bool) (number : T → I) (more : T → T) where
  abbrev added : Bool → T → Checked I × T
  added room a = if room then (Ok (number a), more a) else (Err Full, a)

  pub correct_added : {R : Rel I}
      → ((final : Stored) (ps : List Frame) (b : Builder)
      → Answers R final ps b (record b { stored = put b.stored (more (arena b.stored)) }) (number (arena b.stored)))
      → ((s : Stored) → Extends s (put s (arena s)))
      → Correct (stored (λ s. ((added (fits (arena s)) (arena s)).0, put s (added (fits (arena s)) (arena s)).1))) R
  correct_added {R = R} new same = record { holds = λ final ps b r. by final ps b (fits (arena b.stored)) }
    where
      by : (final : Stored) (ps : List Frame) (b : Builder) (room : Bool)
          → Holds R final ps b (added room (arena b.stored)).0 (record b { stored = put b.stored (added room (arena b.stored)).1 })
      by final ps b true = new final ps b
      by final ps b false = same b.stored

-- A step writes, and leaves all that is counted, and what leads to types and lifetimes.

abbrev Contents : Type 0
Contents = List Expr × List (Option Pointer) × List Label × List (Option Pointer) × List Pat × List (Option Pointer)
    × Sourced TypeRef TypeRefId × Sourced LifetimeRef LifetimeRefId × List ExprRoot × ℕ

abbrev pub contents : Stored → Contents
contents s = (
  s.exprs.entries,
  s.exprs.sources,
  s.labels.entries,
  s.labels.sources,
  s.pats.entries,
  s.pats.sources,
  s.types,
  s.lifetimes,
  s.roots,
  length s.bindings.entries,
)

module _ (f : Stored → Stored) (same : (s : Stored) → contents (f s) ≡ contents s) where
  pub counts_written : (b : Builder) → counts (mark (record b { stored = f b.stored })) ≡ counts (mark b)
  counts_written b = ap (λ x. by x) (same b.stored)
    where
      by : Contents → Counts
      by x = (
        length x.0,
        length x.2,
        length x.4,
        x.9,
        length x.6.entries,
        length x.7.entries,
        length x.6.entries + length x.4,
        b.names,
      )

  paired_written : (s : Stored) → Paired s → Paired (f s)
  paired_written s d = record {
    exprs = ap (λ x. length x.1) (same s) ∙ (d.exprs ∙ sym (ap (λ x. length x.0) (same s)));
    labels = ap (λ x. length x.3) (same s) ∙ (d.labels ∙ sym (ap (λ x. length x.2) (same s)));
    pats = ap (λ x. length x.5) (same s) ∙ (d.pats ∙ sym (ap (λ x. length x.4) (same s)));
    types = subst (λ a. length a.sources ≡ length a.entries) (sym (ap (λ x. x.6) (same s))) d.types;
    lifetimes = subst (λ a. length a.sources ≡ length a.entries) (sym (ap (λ x. x.7) (same s))) d.lifetimes;
  }

  mapped_written : (s : Stored) → Mapped s → Mapped (f s)
  mapped_written s w = record {
    types = subst (λ a. EachLeads a) (sym (ap (λ x. x.6) (same s))) w.types;
    lifetimes = subst (λ a. MapsBack (λ i. i.0) a) (sym (ap (λ x. x.7) (same s))) w.lifetimes;
  }

  pub correct_write : {R : Rel (Unit {0})} → ((s : Stored) → Extends s (f s))
      → ((final : Stored) (ps : List Frame) (b : Builder) → R final ps (mark b) (mark (record b { stored = f b.stored })) tt)
      → Correct (stored (λ s. (Ok tt, f s))) R
  correct_write stays is = record {
    holds = λ final ps b r. answers_stored b (f b.stored) (ap (λ x. x.8) (same b.stored)) (paired_written b.stored)
        (λ d. mapped_written b.stored) (stays b.stored) (λ d pre. is final ps b);
  }
