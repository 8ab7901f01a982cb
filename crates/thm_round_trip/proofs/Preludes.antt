-- How a parameter is handed in by what is stored is how it is by what is written, and what the outside hands it to reads back as the
-- formal pattern of what is written.
use Rattle.std.proofs.Common.{◌≡◌, ◌∙◌, refl, sym, ap, subst, ℕ, zero, suc, ◌+◌, ◌≤◌, Bool, true, false, true≢false, arith, length, map}
use Rattle.std.proofs.Common.{List, [], ◌∷◌, ◌++◌, append-nil, append_assoc, Option, Some, None, option_map, slice_get}
use Rattle.std.proofs.lemmas.Option.{slice_get-map, slice_get_past}
use Rattle.hir_binding.specs.declared.binding.BindingAnnotation.{BindingAnnotation}
use Rattle.hir_binding.specs.declared.binding.BindingAnnotation.TheVariants as mode
use Rattle.hir_store.specs.Bindings.{without_problem}
use Rattle.hir_store.specs.Names.{IsWritten}
use Rattle.hir_store.specs.Pointers.{Pointer, flat_option}
use Rattle.hir_store.specs.Stored.{Stored, store_of, map_of}
use Rattle.hir_store.specs.StoreSink.{Extends}
use Rattle.hir_store.specs.declared.hir.Expr.{Expr as HirExpr}
use Rattle.hir_store.specs.declared.hir.Expr.TheVariants as hir
use Rattle.hir_store.specs.declared.ids.BindingId.{BindingId}
use Rattle.hir_store.specs.declared.ids.HygieneId.{HygieneId}
use Rattle.hir_store.specs.declared.ids.PatId.{PatId}
use Rattle.hir_store.specs.declared.name.Name.{Name}
use Rattle.hir_store.specs.declared.name.Name.TheVariants as name
use Rattle.hir_store.specs.declared.pat.Binding.{Binding}
use Rattle.hir_store.specs.declared.pat.Pat.{Pat}
use Rattle.hir_store.specs.declared.pat.Pat.TheVariants as pat
use Rattle.hir_store.proofs.Extending.{extends_refl, extends_trans}
use Rattle.hir_lower_builder.specs.declared.preludes.Handed.{Handed}
use Rattle.hir_lower_builder.specs.declared.preludes.OwnName.{OwnName}
use Rattle.hir_lower_builder.specs.declared.preludes.Prelude.{Prelude}
use Rattle.hir_lower_builder.specs.Forms.{root_hygiene}
use Rattle.hir_lower_builder.specs.Preludes.{handed_as, handed_binding, if_written, is_plain, let_params, lower_handed, own_bound}
use Rattle.hir_lower_builder.specs.Preludes.{own_in}
use Rattle.thm_logic.specs.Keeps.{Paired}
use Rattle.thm_logic.proofs.Always.{Always, correct_always}
use Rattle.thm_logic.proofs.ApartPreludes.{own_is_written}
use Rattle.thm_logic.proofs.Frames.{Frame}
use Rattle.thm_logic.proofs.PatSteps.{source_in}
use Rattle.thm_logic.proofs.Preludes as steps
use Rattle.thm_logic.proofs.Preludes.{HandedBind, HandedMade, HandedOwn, LetOf, LetParam, LetsOf, OneMore, correct_handed, own_at}
use Rattle.thm_logic.proofs.Preludes.{correct_let_param}
use Rattle.thm_logic.proofs.Steps.{Mark, Rel, Correct, Seq, correct_as, correct_bind, correct_in_store, correct_pure}
use Rattle.spec_data.specs.Data as datum
use Rattle.spec_data.specs.Data.{PatData, PatShape, OptionPatData, pat_at}
use Rattle.spec_data.specs.Preludes.{HandedIn, by_name, by_its_name, by_generated_name, formal_pattern, formal_patterns, handed_in}
use Rattle.spec_data.specs.Preludes.{handed_pattern, source_of}
use Rattle.spec_data.specs.Reading as reading
use Rattle.spec_data.specs.Reading.{Readers, readers, stored_pat}
use Rattle.thm_round_trip.proofs.Layers.{within}
use Rattle.thm_round_trip.proofs.Names.{found_in}
use Rattle.thm_round_trip.proofs.Params.{pats_in}

-- by what is stored, and by what is written

abbrev pub by_alone : Bool → Name → HygieneId → HandedIn
by_alone true n h = by_name n h
by_alone false n h = by_its_name n h

abbrev pub handed_of : Option OwnName → HandedIn
handed_of None = by_generated_name
handed_of (Some o) = by_alone o.is_alone o.name o.hygiene

module _ (s : Stored) (r : Readers) (from : Option Pointer) where
  abbrev shape_of : Option Pat → PatData
  shape_of q = pat_at from (reading.pattern_found (store_of s) (map_of s) r q)

  abbrev part_of : Option PatId → OptionPatData
  part_of sub = reading.subpattern_layer (store_of s) (map_of s) r sub

  alone_as : (n : Name) (h : HygieneId) (m : BindingAnnotation) (sub : Option PatId)
      → by_alone (is_plain m sub) n h ≡ handed_in (pat_at from (datum.bind_pattern n h m (part_of sub)))
  alone_as n h mode.Unannotated None = refl
  alone_as n h mode.Mutable None = refl
  alone_as n h mode.Ref None = refl
  alone_as n h mode.RefMut None = refl
  alone_as n h mode.Unannotated (Some p) = refl
  alone_as n h mode.Mutable (Some p) = refl
  alone_as n h mode.Ref (Some p) = refl
  alone_as n h mode.RefMut (Some p) = refl

  named_as : (n : Name) (h : HygieneId) (m : BindingAnnotation) (sub : Option PatId)
      → handed_of (if_written n (record { name = n; hygiene = h; is_alone = is_plain m sub }))
      ≡ handed_in (pat_at from (reading.name_layer (store_of s) (map_of s) r n h m (part_of sub)))
  named_as (name.Text t) h m sub = alone_as (name.Text t) h m sub
  named_as name.Missing h m sub = alone_as name.Missing h m sub
  named_as (name.Generated k) h m sub = refl

  bound_as : (b : Option Binding) (sub : Option PatId) → handed_of (own_bound sub b)
      ≡ handed_in (pat_at from (reading.bind_layer (store_of s) (map_of s) r (option_map without_problem b) (part_of sub)))
  bound_as None sub = refl
  bound_as (Some x) sub = named_as x.name x.hygiene x.mode sub

  literal_as : (e : Option HirExpr) → by_generated_name ≡ handed_in (pat_at from (reading.literal_layer (store_of s) (map_of s) r e))
  literal_as (Some (hir.Literal l)) = refl
  literal_as e = refl

  own_as : (q : Option Pat) → handed_of (own_in s q) ≡ handed_in (shape_of q)
  own_as (Some (pat.Bind id sub)) = bound_as (slice_get s.bindings.entries id.0) sub
      ∙ ap (λ b. handed_in (pat_at from (reading.bind_layer (store_of s) (map_of s) r b (part_of sub))))
      (sym (slice_get-map without_problem s.bindings.entries id.0))
  own_as (Some (pat.Lit e)) = literal_as (slice_get s.exprs.entries e.0)
  own_as q = refl

-- the choice that is made by the stored pattern
pub handed_alike : (s : Stored) (p : PatId) → handed_of (own_at p s) ≡ handed_in (stored_pat (store_of s) (map_of s) p)
unfolding stored_pat readers
handed_alike s p = by (length s.types.entries + length s.pats.entries) refl
  where
    by : (n : ℕ) → length s.types.entries + length s.pats.entries ≡ n
        → handed_of (own_at p s) ≡ handed_in ((readers (store_of s) (map_of s) n).pat p)
    by zero e = ap (λ q. handed_of (own_in s q)) (slice_get_past s.pats.entries p.0 (omega (arith, e)))
    by (suc d) e = own_as s (readers (store_of s) (map_of s) d) (source_in s p) (slice_get s.pats.entries p.0)

-- and the node that it came from
pub source_alike : (s : Stored) → Paired s → (p : PatId) → source_in s p ≡ source_of (stored_pat (store_of s) (map_of s) p)
unfolding stored_pat readers
source_alike s d p = by (length s.types.entries + length s.pats.entries) refl
  where
    by : (n : ℕ) → length s.types.entries + length s.pats.entries ≡ n
        → source_in s p ≡ source_of ((readers (store_of s) (map_of s) n).pat p)
    by zero e = let same = d.pats in ap flat_option (slice_get_past s.pats.sources p.0 (omega (arith, e, same)))
    by (suc d) e = refl

-- names by which it is handed in, that are written
abbrev pub IsOwn : HandedIn → Type 0
IsOwn (by_name n h) = IsWritten n
IsOwn (by_its_name n h) = IsWritten n
IsOwn by_generated_name = Unit {0}

own_names : (own : Option OwnName) → ((o : OwnName) → own ≡ Some o → IsWritten o.name) → IsOwn (handed_of own)
own_names None w = tt
own_names (Some o) w = by o.is_alone (w o refl)
  where
    by : (alone : Bool) → IsWritten o.name → IsOwn (by_alone alone o.name o.hygiene)
    by true h = h
    by false h = h

pub names_alike : (s : Stored) (p : PatId) → IsOwn (handed_in (stored_pat (store_of s) (map_of s) p))
names_alike s p = subst IsOwn (handed_alike s p)
    (own_names (own_at p s) (own_is_written s (slice_get s.pats.entries p.0)))

-- `let`s of parameters

-- those of a parameter that is handed in so
abbrev pub HandedAs : Prelude → PatId → HandedIn → Rel Prelude
HandedAs done p (by_name n h) = let x = handed_as n h p in OneMore done x (LetOf x p)
HandedAs done p (by_its_name n h) = let x = handed_as n h p in OneMore done x (LetsOf x p)
HandedAs done p by_generated_name = HandedMade done p

own_handed_as : (done : Prelude) (p : PatId) (own : Option OwnName) (final : Stored) (ps : List Frame) (m m' : Mark) (l : Prelude)
    → steps.HandedIn done p own final ps m m' l → HandedAs done p (handed_of own) final ps m m' l
own_handed_as done p None final ps m m' l row = row
own_handed_as done p (Some own) final ps m m' l row = by own.is_alone row
  where
    by : (alone : Bool) → HandedOwn done p alone (handed_as own.name own.hygiene p) final ps m m' l
        → HandedAs done p (by_alone alone own.name own.hygiene) final ps m m' l
    by true h = h
    by false h = h

-- of a pattern that reads as y
pub record HandedParam (done : Prelude) (p : PatId) (y : PatData) (final : Stored) (ps : List Frame) (m m' : Mark) (l : Prelude)
    : Type 0 where
  pub own : IsOwn (handed_in y)
  pub from : source_in m.stored p ≡ source_of y
  pub handed : HandedAs done p (handed_in y) final ps m m' l

-- It is read now, and in each store that goes on.
abbrev pub ReadsAs : Stored → PatId → PatData → Type 0
ReadsAs s p y = (later : Stored) → Extends s later → stored_pat (store_of later) (map_of later) p ≡ y

abbrev pub ReadAs : Stored → List PatId → List PatData → Type 0
ReadAs s is ys = (later : Stored) → Extends s later → pats_in later is ≡ ys

param_handed : (done : Prelude) (p : PatId) (y : PatData) (final : Stored) (ps : List Frame) (m m' : Mark) (l : Prelude)
    → Paired m.stored → ReadsAs m.stored p y → steps.HandedIn done p (own_at p m.stored) final ps m m' l
    → HandedParam done p y final ps m m' l
param_handed done p y final ps m m' l d reads row =
    let now = reads m.stored (extends_refl m.stored) in record {
      own = subst (λ z. IsOwn (handed_in z)) now (names_alike m.stored p);
      from = source_alike m.stored d p ∙ ap source_of now;
      handed = subst (λ z. HandedAs done p (handed_in z) final ps m m' l) now
          (subst (λ h. HandedAs done p h final ps m m' l) (handed_alike m.stored p)
          (own_handed_as done p (own_at p m.stored) final ps m m' l row));
    }

-- one after another, each by the data in the same place
abbrev pub HandedParams : Prelude → List PatId → List PatData → Rel Prelude
HandedParams done [] [] = λ final ps m m' l. (l ≡ done) × (m' ≡ m)
HandedParams done (p ∷ is) (y ∷ ys) = Seq (HandedParam done p y) (λ l. HandedParams l is ys)
HandedParams done [] (y ∷ ys) = λ final ps m m' l. ⊥
HandedParams done (p ∷ is) [] = λ final ps m m' l. ⊥

-- whatever they read as
pub record LetsNow (done : Prelude) (is : List PatId) (final : Stored) (ps : List Frame) (m m' : Mark) (l : Prelude) : Type 0 where
  pub each : (ys : List PatData) → ReadAs m.stored is ys → HandedParams done is ys final ps m m' l

abbrev is_empty : {A : Type 0} → List A → Bool
is_empty [] = true
is_empty (x ∷ xs) = false

abbrev first_or : {A : Type 0} → A → List A → A
first_or d [] = d
first_or d (x ∷ xs) = x

abbrev others : {A : Type 0} → List A → List A
others [] = []
others (x ∷ xs) = xs

first_reads : (s : Stored) (p : PatId) (is : List PatId) (y : PatData) (ys : List PatData) → ReadAs s (p ∷ is) (y ∷ ys) → ReadsAs s p y
first_reads s p is y ys h = λ later e. ap (first_or y) (h later e)

others_read : (s t : Stored) → Extends s t → (p : PatId) (is : List PatId) (y : PatData) (ys : List PatData)
    → ReadAs s (p ∷ is) (y ∷ ys) → ReadAs t is ys
others_read s t pre p is y ys h = λ later e. ap others (h later (extends_trans pre e))

pub lets_now : (done : Prelude) (is : List PatId) → Correct (let_params done is) (LetsNow done is)
lets_now done [] = correct_as (correct_pure done)
    (λ final ps m m' l g row. record { each = λ ys h. by final ps m m' l ys h row.is row.still })
  where
    by : (final : Stored) (ps : List Frame) (m m' : Mark) (l : Prelude) (ys : List PatData) → ReadAs m.stored [] ys → l ≡ done → m' ≡ m
        → HandedParams done [] ys final ps m m' l
    by final ps m m' l [] h is still = (is, still)
    by final ps m m' l (y ∷ ys) h is still = absurd (true≢false (ap is_empty (h m.stored (extends_refl m.stored))))
lets_now done (p ∷ is) = correct_as (correct_bind (correct_always (correct_let_param done p)) (λ l. lets_now l is))
    (λ final ps m m' l g row. record { each = λ ys h. by final ps m m' l row ys h })
  where
    by : (final : Stored) (ps : List Frame) (m m' : Mark) (l : Prelude)
        → Seq (Always (LetParam done p)) (λ k. LetsNow k is) final ps m m' l → (ys : List PatData) → ReadAs m.stored (p ∷ is) ys
        → HandedParams done (p ∷ is) ys final ps m m' l
    by final ps m m' l row [] h = absurd (true≢false (sym (ap is_empty (h m.stored (extends_refl m.stored)))))
    by final ps m m' l row (y ∷ ys) h = record {
      middle = row.middle;
      one = row.one;
      before = row.before;
      after = row.after;
      first = param_handed done p y final ps m row.middle row.one row.first.paired (first_reads m.stored p is y ys h)
          row.first.rel.handed;
      second = row.second.each ys (others_read m.stored row.middle.stored row.first.stays p is y ys h);
    }

-- what is handed in

-- by such a name
abbrev pub HasName : HandedIn → Handed → Type 0
HasName (by_name n h) x = (x.name ≡ n) × (x.hygiene ≡ h)
HasName (by_its_name n h) x = (x.name ≡ n) × (x.hygiene ≡ h)
HasName by_generated_name x = (k : ℕ) × (x.name ≡ name.Generated k)

pub record HandsIn (x : Handed) (p : PatId) (y : PatData) : Type 0 where
  pub own : IsOwn (handed_in y)
  pub named : HasName (handed_in y) x
  pub pattern : x.pat ≡ p

abbrev pub HandIn : List Handed → List PatId → List PatData → Type 0
HandIn [] [] [] = Unit {0}
HandIn (x ∷ xs) (p ∷ is) (y ∷ ys) = HandsIn x p y × HandIn xs is ys
HandIn _ _ _ = ⊥

-- one more, and how it is handed in
record OneHanded (done : Prelude) (p : PatId) (y : PatData) (l : Prelude) : Type 0 where
  one : Handed
  handed : l.handed ≡ done.handed ++ one ∷ []
  hands : HandsIn one p y

one_handed : (done : Prelude) (p : PatId) (y : PatData) {final : Stored} {ps : List Frame} {m m' : Mark} {l : Prelude}
    → HandedParam done p y final ps m m' l → OneHanded done p y l
one_handed done p y {final = final} {ps = ps} {m = m} {m' = m'} {l = l} row = by (handed_in y) refl row.handed
  where
    hands : (h : HandedIn) (x : Handed) → handed_in y ≡ h → HasName h x → x.pat ≡ p → HandsIn x p y
    hands h x e n is = record { own = row.own; named = subst (λ k. HasName k x) (sym e) n; pattern = is }

    by : (h : HandedIn) → handed_in y ≡ h → HandedAs done p h final ps m m' l → OneHanded done p y l
    by (by_name n h) e k = let x = handed_as n h p in record {
      one = x;
      handed = ap (λ z. z.handed) k.is;
      hands = hands (by_name n h) x e (refl, refl) refl;
    }
    by (by_its_name n h) e k = let x = handed_as n h p in record {
      one = x;
      handed = ap (λ z. z.handed) k.is;
      hands = hands (by_its_name n h) x e (refl, refl) refl;
    }
    by by_generated_name e k = let x = handed_as (name.Generated k.number) root_hygiene p in record {
      one = x;
      handed = ap (λ z. z.handed) k.more.is;
      hands = hands by_generated_name x e (k.number, refl) refl;
    }

-- all that are handed in, behind others
pub record AllHanded (done : Prelude) (is : List PatId) (ys : List PatData) (l : Prelude) : Type 0 where
  pub more : List Handed
  pub handed : l.handed ≡ done.handed ++ more
  pub hand : HandIn more is ys

pub all_handed : (done : Prelude) (is : List PatId) (ys : List PatData) (final : Stored) (ps : List Frame) (m m' : Mark)
    (l : Prelude) → HandedParams done is ys final ps m m' l → AllHanded done is ys l
all_handed done [] [] final ps m m' l row =
    record { more = []; handed = ap (λ z. z.handed) row.0 ∙ sym (append-nil done.handed); hand = tt }
all_handed done (p ∷ is) (y ∷ ys) final ps m m' l row =
    let x = one_handed done p y row.first in
    let rest = all_handed row.one is ys final ps row.middle m' l row.second in record {
      more = x.one ∷ rest.more;
      handed = rest.handed ∙ (ap (λ h. h ++ rest.more) x.handed ∙ append_assoc done.handed (x.one ∷ []) rest.more);
      hand = (x.hands, rest.hand);
    }
all_handed done [] (y ∷ ys) final ps m m' l row = absurd row
all_handed done (p ∷ is) [] final ps m m' l row = absurd row

-- what the outside hands its arguments to

abbrev pub formal_shape : HandedIn → PatShape
formal_shape (by_name n h) = datum.bind_pattern n h mode.Mutable datum.no_pattern
formal_shape (by_its_name n h) = datum.bind_pattern n h mode.Mutable datum.no_pattern
formal_shape by_generated_name = datum.generated_pattern

formal_as : (y : PatData) (h : HandedIn) → pat_at (source_of y) (formal_shape h) ≡ handed_pattern y h
formal_as y (by_name n h) = refl
formal_as y (by_its_name n h) = refl
formal_as y by_generated_name = refl

module _ (s : Stored) (r : Readers) where
  abbrev name_as : Name → HygieneId → PatShape
  name_as n h = reading.name_layer (store_of s) (map_of s) r n h mode.Mutable datum.no_pattern

  written_name : (n : Name) (h : HygieneId) → IsWritten n → name_as n h ≡ datum.bind_pattern n h mode.Mutable datum.no_pattern
  written_name (name.Text t) h w = refl
  written_name name.Missing h w = refl
  written_name (name.Generated k) h w = absurd w

  pub handed_name : (h : HandedIn) (x : Handed) → IsOwn h → HasName h x → name_as x.name x.hygiene ≡ formal_shape h
  handed_name (by_name n h) x w e = (λ j. name_as (e.0 j) (e.1 j)) ∙ written_name n h w
  handed_name (by_its_name n h) x w e = (λ j. name_as (e.0 j) (e.1 j)) ∙ written_name n h w
  handed_name by_generated_name x w e = ap (λ n. name_as n x.hygiene) e.1

-- It binds the name, alone.
pub record BindsName (x : Handed) (final : Stored) (p : PatId) : Type 0 where
  pub binding : BindingId
  pub here : slice_get final.pats.entries p.0 ≡ Some (pat.Bind binding None)
  pub found : found_in final binding ≡ Some (handed_binding x)

abbrev pub BindEach : Stored → List PatId → List Handed → Type 0
BindEach final [] [] = Unit {0}
BindEach final (p ∷ is) (x ∷ xs) = BindsName x final p × BindEach final is xs
BindEach final _ _ = ⊥

module _ (x : Handed) {final : Stored} {ps : List Frame} {m m' : Mark} {q : PatId} (row : HandedBind x final ps m m' q) where
  pub handed_found : found_in final row.binding ≡ Some (handed_binding x)
  handed_found = rw row.is row.bound

  pub handed_binds : BindsName x final q
  handed_binds = record { binding = row.binding; here = rw row.number row.here; found = handed_found }

  -- from the node of the parameter's own pattern
  pub handed_reads : (y : PatData) → IsOwn (handed_in y) → HasName (handed_in y) x → source_in m.stored x.pat ≡ source_of y → (d : ℕ)
      → m'.entries ≤ d → (within final d).pat q ≡ formal_pattern y
  unfolding readers
  handed_reads y w named from zero le = let more = row.entries in absurd (omega (arith, le, more))
  handed_reads y w named from (suc d) le =
      let shape = handed_name final (within final d) (handed_in y) x w named in
      rw (row.number, row.here, row.from) (rw handed_found ((λ j. pat_at (from j) (shape j)) ∙ formal_as y (handed_in y)))

-- Whatever the patterns read as that they hand in, they read as the formal ones, by each depth past what is stored by then.
record FormalsRead (done : List PatId) (xs : List Handed) (final : Stored) (ps : List Frame) (m m' : Mark) (is : List PatId)
    : Type 0 where
  new : List PatId
  ids : is ≡ done ++ new
  binds : BindEach final new xs
  reads : (js : List PatId) (ys : List PatData) → HandIn xs js ys → ReadAs m.stored js ys → (d : ℕ) → m'.entries ≤ d
      → map (λ q. (within final d).pat q) new ≡ formal_patterns ys

none_read : (done : List PatId) → Correct (lower_handed done []) (FormalsRead done [])
none_read done = correct_as (correct_pure done) (λ final ps m m' is g row. rw row.is (record {
  new = [];
  ids = sym (append-nil done);
  binds = tt;
  reads = λ js ys h r d le. by (within final d) js ys h;
}))
  where
    by : (r : Readers) (js : List PatId) (ys : List PatData) → HandIn [] js ys → map (λ q. r.pat q) [] ≡ formal_patterns ys
    by r [] [] h = refl
    by r [] (y ∷ ys) h = absurd h
    by r (p ∷ js) [] h = absurd h
    by r (p ∷ js) (y ∷ ys) h = absurd h

formals_read : (done : List PatId) (xs : List Handed) → Correct (lower_handed done xs) (FormalsRead done xs)
formals_read done [] = none_read done
formals_read done (x ∷ xs) = correct_as
    (correct_bind (correct_always (correct_handed x)) (λ p. formals_read (done ++ p ∷ []) xs))
    (λ final ps m m' is g row. let rest = row.second in record {
      new = row.one ∷ rest.new;
      ids = rest.ids ∙ append_assoc done (row.one ∷ []) rest.new;
      binds = (handed_binds x row.first.rel, rest.binds);
      reads = by final ps m m' is row;
    })
  where
    by : (final : Stored) (ps : List Frame) (m m' : Mark) (is : List PatId)
        → (row : Seq (Always (HandedBind x)) (λ p. FormalsRead (done ++ p ∷ []) xs) final ps m m' is) → (js : List PatId)
        (ys : List PatData) → HandIn (x ∷ xs) js ys → ReadAs m.stored js ys → (d : ℕ) → m'.entries ≤ d
        → map (λ q. (within final d).pat q) (row.one ∷ row.second.new) ≡ formal_patterns ys
    by final ps m m' is row [] [] h r d le = absurd h
    by final ps m m' is row [] (y ∷ ys) h r d le = absurd h
    by final ps m m' is row (p ∷ js) [] h r d le = absurd h
    by final ps m m' is row (p ∷ js) (y ∷ ys) h r d le =
        let one = row.first in
        let now = first_reads m.stored p js y ys r m.stored (extends_refl m.stored) in
        let from = ap (source_in m.stored) h.0.pattern ∙ (source_alike m.stored one.paired p ∙ ap source_of now) in
        let more = row.after.entries in
        let first = handed_reads x one.rel y h.0.own h.0.named from d (omega (arith, le, more)) in
        let rest = row.second.reads js ys h.1 (others_read m.stored row.middle.stored one.stays p js y ys r) d le in
        λ j. first j ∷ rest j

pub record FormalsNow (done : List PatId) (xs : List Handed) (final : Stored) (ps : List Frame) (m m' : Mark) (is : List PatId)
    : Type 0 where
  pub new : List PatId
  pub ids : is ≡ done ++ new
  pub binds : BindEach final new xs
  pub reads : (js : List PatId) (ys : List PatData) → HandIn xs js ys → ReadAs m.stored js ys → pats_in final new ≡ formal_patterns ys

pub formals_now : (done : List PatId) (xs : List Handed) → Correct (lower_handed done xs) (FormalsNow done xs)
unfolding stored_pat
formals_now done xs = correct_as (correct_in_store (formals_read done xs)) (λ final ps m m' is g row. record {
  new = row.rel.new;
  ids = row.rel.ids;
  binds = row.rel.binds;
  reads = λ js ys h r. row.rel.reads js ys h r (length final.types.entries + length final.pats.entries) row.entries;
})
