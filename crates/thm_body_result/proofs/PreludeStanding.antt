-- What stands in front of the body of a coroutine, and what the outside hands its parameters to, stand for the written parameters.
use Rattle.std.proofs.Common.{arith, ◌≡◌, ◌∙◌, refl, sym, ap, subst, Bool, true, false, length, length-append, map, List, [], ◌∷◌, ◌++◌}
use Rattle.std.proofs.Common.{append-nil, append_assoc, slice_get, Option, Some, None}
use Rattle.hir_store.specs.Arenas.{Prefix}
use Rattle.hir_store.specs.Pointers.{Pointer}
use Rattle.hir_store.specs.Stored.{Stored, store_of, map_of}
use Rattle.hir_store.specs.declared.hir.CoroutineKind.{CoroutineKind}
use Rattle.hir_store.specs.declared.hir.CoroutineSource.{CoroutineSource}
use Rattle.hir_store.specs.declared.hir.Expr.TheVariants as hir
use Rattle.hir_store.specs.declared.hir.Statement.{Statement}
use Rattle.hir_store.specs.declared.ids.ExprId.{ExprId}
use Rattle.hir_store.specs.declared.ids.HygieneId.{HygieneId}
use Rattle.hir_store.specs.declared.ids.PatId.{PatId}
use Rattle.hir_store.specs.declared.name.Name.{Name}
use Rattle.hir_store.specs.declared.name.Name.TheVariants as name
use Rattle.hir_store.specs.declared.pat.Pat.{Pat}
use Rattle.hir_store.specs.declared.pat.Pat.TheVariants as pat
use Rattle.hir_binding.specs.declared.binding.BindingAnnotation.TheVariants.{Mutable}
use Rattle.hir_store.proofs.Arenas.{prefix_refl, prefix_push}
use Rattle.hir_store.proofs.Extending.{extends_refl}
use Rattle.hir_lower_builder.specs.declared.preludes.Handed.{Handed}
use Rattle.hir_lower_builder.specs.declared.preludes.OwnName.{OwnName}
use Rattle.hir_lower_builder.specs.declared.preludes.Prelude.{Prelude}
use Rattle.hir_lower_builder.specs.Forms.{root_hygiene}
use Rattle.hir_lower_builder.specs.Preludes as forms
use Rattle.hir_lower_builder.specs.Preludes.{add_handed, coroutine_of, handed_as, handed_binding, handed_form, let_form, let_param}
use Rattle.hir_lower_builder.specs.Preludes.{let_params}
use Rattle.hir_lower_builder.specs.Preludes.{lower_handed, made_coroutine_form, name_form, name_path, two_lets_form}
use Rattle.thm_logic.proofs.Always.{correct_always}
use Rattle.thm_logic.proofs.Frames.{Frame, ribs}
use Rattle.thm_logic.proofs.Keeping.{any}
use Rattle.thm_logic.proofs.Logic as logic
use Rattle.thm_logic.proofs.PatSteps as pats
use Rattle.thm_logic.proofs.PatSteps.{AllocatedPatBy, PutPat, defining, put_made_pat, source_in}
use Rattle.thm_logic.proofs.Preludes.{Emitted, correct_handed, correct_let_param, correct_own_name_of, own_at}
use Rattle.thm_logic.proofs.Steps as steps
use Rattle.thm_logic.proofs.Steps.{Mark}
use Rattle.spec_data.specs.Data.{PatData, generated_pattern, pat_at}
use Rattle.spec_data.specs.Preludes.{HandedIn, handed_in, source_of}
use Rattle.thm_round_trip.proofs.Preludes.{ReadAs, ReadsAs, by_alone, handed_alike, handed_of, source_alike}
use Rattle.thm_body_result.specs.Leads.{OneUnled, ◌&◌}
use Rattle.thm_body_result.specs.CorrespondsPreludes.{IsCoroutine, IsHandedBy, Named, PatFound, CorrespondsBind, CorrespondsHanded}
use Rattle.thm_body_result.specs.CorrespondsPreludes.{CorrespondsLet, CorrespondsLetAs}
use Rattle.thm_body_result.specs.CorrespondsPreludes.{CorrespondsLets, CorrespondsRead, CorrespondsTwoLets, the_name}
use Rattle.thm_body_result.proofs.Knowing.{Known}
use Rattle.thm_body_result.proofs.Lasting.{Correct, correct_alloc, correct_as, correct_bind, correct_both, correct_made_number}
use Rattle.thm_body_result.proofs.Lasting.{correct_pure}
use Rattle.thm_body_result.proofs.Lasting.{keeping, settled_as}
use Rattle.thm_body_result.proofs.Leading.{Shown, moved_made_bind, moved_same, moved_to, shown_after, shown_as, shown_before, shown_binding}
use Rattle.thm_body_result.proofs.Leading.{shown_both, shown_none}
use Rattle.thm_body_result.proofs.PatStanding.{Behind}
use Rattle.thm_body_result.proofs.PreludeRooms.{From, Froms, first_reads, froms_last, none_written, one_written, others_read, reads_from}
use Rattle.thm_body_result.proofs.Standing.{Of, Shows, expr_at, moved_pure, unled}

-- the name that it is handed in by
abbrev pub named : Handed → Named
named x = the_name x.name x.hygiene

-- what is so of the answer where this is known
pub record ShowsIf {A : Type 0} (P : Known) (S : Of A) (final : Stored) (ps : List Frame) (m m' : Mark) (a : A) : Type 0 where
  pub shown : P m.stored → Shown (S final (ribs ps) a) m.stored m'.stored

-- the pattern came from this node
abbrev FromNow : PatId → Option Pointer → Known
FromNow p at s = source_in s p ≡ at

-- names that are handed in

module _ {put : PutPat} {p : Pat} {from : Option Pointer} {final : Stored} {ps : List Frame} {m m' : Mark} {i : PatId} where
  pub pat_found : {at : Option Pointer} → from ≡ at → AllocatedPatBy put p from final ps m m' i
      → PatFound (store_of final) (map_of final) i p at
  pat_found e row = record {
    stored = ap (λ n. slice_get final.pats.entries n) row.number ∙ row.here;
    source = ap (λ n. slice_get final.pats.sources n) row.number ∙ (row.from ∙ ap Some e);
  }

handed_corresponds : (x : Handed) (at : Option Pointer) → Correct (handed_form x)
    (ShowsIf (FromNow x.pat at) (λ final rs q. CorrespondsBind (store_of final) (map_of final) Mutable (named x) at q))
unfolding handed_form
handed_corresponds x at = steps.correct_as
    (steps.correct_bind (pats.correct_alloc_binding (handed_binding x)) (λ b.
    steps.correct_bind (pats.correct_alloc_beside (pat.Bind b None) x.pat)
    (λ q. steps.correct_bind (pats.correct_define b q) (λ u. steps.correct_pure q))))
    (λ final ps m m' p g row.
    let b = row.one in
    let between = row.middle.stored in
    let two = row.second.first in
    let q = row.second.one in
    let three = row.second.second in
    let before = m.stored.bindings.entries in
    let y = handed_binding x in
    let from = source_in between x.pat in
    let number = row.first.number ∙ row.first.last in
    let is = ap (λ k. k.stored) three.second.still ∙ (three.first.stored ∙ ap (defining b q) two.stored) in
    let whole = is ∙ ap (λ s. defining b q (put_made_pat (pat.Bind b None) from s)) row.first.stored in
    let here = logic.in_prefix before y b.0 number (prefix_refl (before ++ y ∷ [])) in
    let more = ap (λ s. length s.bindings.entries) row.first.stored ∙ length-append before (y ∷ []) in
    let binds = moved_made_bind b None from q between (two.number ∙ two.last) (omega (arith, number, more)) in
    record {
      settled = subst (λ s. Prefix before s.bindings.entries) (sym whole) (prefix_push before y);
      rel = λ k.
          let stays = k.at b.0 y (omega (arith, number)) (ap (λ s. slice_get s.bindings.entries b.0) whole ∙ here) in
          record {
            shown = λ known.
                let source = ap (λ s. source_in s x.pat) row.first.stored ∙ known in
                let placed = subst (λ z. PatFound (store_of final) (map_of final) z (pat.Bind b None) at) (sym three.second.is)
                (pat_found source two) in
                shown_as (shown_before (shown_binding y b number row.first.stored) (moved_to is binds))
                (λ ws z. (b, placed, stays, z));
          };
    })

pub name_corresponds : (n : Name) (h : HygieneId)
    → Correct (name_form n h) (Shows (λ final rs i. CorrespondsRead (store_of final) (map_of final) (the_name n h) i))
unfolding name_form
name_corresponds n h = correct_as (correct_alloc (hir.Path (name_path n) h) None) (λ final ps m m' i g row.
    record { shown = shown_as (unled row) (λ ws x. (expr_at row, x)) })

-- `let`s

let_corresponds : (x : Handed) (p : PatId)
    → Correct (let_form x p) (Shows (λ final rs ss. CorrespondsLet (store_of final) (map_of final) (named x) p ss))
unfolding let_form
let_corresponds x p = correct_as (correct_bind (name_corresponds x.name x.hygiene) (λ e. correct_pure (forms.let_from p e ∷ [])))
    (λ final ps m m' ss g row. record {
      shown = shown_as (shown_before row.first.shown (moved_pure row.second.still)) (λ ws y. (row.one, row.second.is, y));
    })

two_lets_stand : (x : Handed) (p : PatId) (at : Option Pointer) → Correct (two_lets_form x p)
    (ShowsIf (FromNow x.pat at) (λ final rs ss. CorrespondsTwoLets (store_of final) (map_of final) (named x) at p ss))
unfolding two_lets_form
two_lets_stand x p at = correct_as
    (correct_bind (handed_corresponds x at) (λ q. correct_bind (name_corresponds x.name x.hygiene) (λ e.
    correct_bind (name_corresponds x.name x.hygiene) (λ f. correct_pure (forms.let_from q e ∷ forms.let_from p f ∷ [])))))
    (λ final ps m m' ss g row. let two = row.second in let three = two.second in record {
      shown = λ known. shown_as
          (shown_both (row.first.shown known)
          (shown_both two.first.shown (shown_before three.first.shown (moved_pure three.second.still))))
          (λ ws y. (row.one, two.one, three.one, three.second.is, y));
    })

-- one more is handed in so, with its `let`s
abbrev LetBehind : Prelude → PatId → Option Pointer → HandedIn → Of Prelude
LetBehind done p at h final rs l = λ ws. (x : Handed) × (own : List Statement) × (l ≡ add_handed done x own) × (x.pat ≡ p)
    × IsHandedBy h (named x) × CorrespondsLetAs (store_of final) (map_of final) h (named x) at p own ws

between_corresponds : (done : Prelude) (p : PatId) (x : Handed) (at : Option Pointer) → Correct (forms.handed_between done p x)
    (ShowsIf (FromNow x.pat at) (λ final rs l ws. (own : List Statement) × (l ≡ add_handed done x own)
    × CorrespondsTwoLets (store_of final) (map_of final) (named x) at p own ws))
unfolding forms.handed_between
between_corresponds done p x at = correct_as (correct_bind (two_lets_stand x p at) (λ ss. correct_pure (add_handed done x ss)))
    (λ final ps m m' l g row. record {
      shown = λ known. shown_as (shown_before (row.first.shown known) (moved_pure row.second.still))
          (λ ws y. (row.one, row.second.is, y));
    })

own_corresponds : (done : Prelude) (p : PatId) (at : Option Pointer) (alone : Bool) (n : Name) (h : HygieneId)
    → Correct (forms.handed_own done p alone (handed_as n h p)) (ShowsIf (FromNow p at) (LetBehind done p at (by_alone alone n h)))
unfolding forms.handed_by_name
own_corresponds done p at true n h = correct_as
    (correct_bind (let_corresponds (handed_as n h p) p) (λ ss. correct_pure (add_handed done (handed_as n h p) ss)))
    (λ final ps m m' l g row. record {
      shown = λ known. shown_as (shown_before row.first.shown (moved_pure row.second.still))
          (λ ws y. (handed_as n h p, row.one, row.second.is, refl, refl, y));
    })
own_corresponds done p at false n h = correct_as (between_corresponds done p (handed_as n h p) at) (λ final ps m m' l g row. record {
  shown = λ known. shown_as (row.shown known) (λ ws y. (handed_as n h p, y.0, y.1, refl, refl, y.2));
})

in_corresponds : (done : Prelude) (p : PatId) (at : Option Pointer) (own : Option OwnName)
    → Correct (forms.handed_in done p own) (ShowsIf (FromNow p at) (LetBehind done p at (handed_of own)))
unfolding forms.handed_in
in_corresponds done p at (Some own) = own_corresponds done p at own.is_alone own.name own.hygiene
in_corresponds done p at None = correct_as
    (correct_bind correct_made_number (λ n. between_corresponds done p (handed_as (name.Generated n) root_hygiene p) at))
    (λ final ps m m' l g row. record {
      shown = λ known.
          let same = ap (λ s. source_in s p) row.first.stored ∙ known in
          shown_as (shown_after (moved_same row.first.stored) (row.second.shown same))
          (λ ws y. (handed_as (name.Generated row.one) root_hygiene p, y.0, y.1, refl, (row.one, refl), y.2));
    })

-- what is told of what is stored
emitted_own : (p : PatId) → Correct (forms.own_name_of p) (Emitted (own_at p))
emitted_own p = keeping (correct_own_name_of p)
    (λ final ps m m' a row. settled_as m.stored m'.stored (ap (λ x. x.stored.bindings) row.still))

-- by what is stored it is handed in as by what is written
let_param_corresponds : (done : Prelude) (p : PatId) (y : PatData)
    → Correct (let_param done p) (ShowsIf (λ s. ReadsAs s p y) (LetBehind done p (source_of y) (handed_in y)))
unfolding let_param
let_param_corresponds done p y = correct_as
    (correct_both (correct_bind (emitted_own p) (λ own. in_corresponds done p (source_of y) own))
    (correct_always (any (correct_let_param done p))))
    (λ final ps m m' l g row. let s = row.one in record {
      shown = λ reads.
          let now = reads m.stored (extends_refl m.stored) in
          let same : m.stored ≡ s.middle.stored = sym (ap (λ k. k.stored) s.first.still) in
          let source = source_alike m.stored row.other.paired p ∙ ap source_of now in
          let there = subst (λ t. source_in t p ≡ source_of y) same source in
          let so = ap handed_of s.first.is ∙ (handed_alike m.stored p ∙ ap handed_in now) in
          let found = shown_after (moved_pure s.first.still) (s.second.shown there) in
          subst (λ h. Shown (LetBehind done p (source_of y) h final (ribs ps) l) m.stored m'.stored) so found;
    })

-- all of them

-- they are handed in by these patterns
abbrev pub SamePats : List Handed → List PatId → Type 0
SamePats [] [] = Unit {0}
SamePats (x ∷ xs) (p ∷ is) = (x.pat ≡ p) × SamePats xs is
SamePats xs is = ⊥

-- these more, with their `let`s
abbrev pub LetsBehind : Prelude → List PatData → List PatId → Of Prelude
LetsBehind done ys is final rs l = λ ws. (xs : List Handed) × (ss : List Statement) × (l.handed ≡ done.handed ++ xs)
    × (l.lets ≡ done.lets ++ ss) × SamePats xs is × CorrespondsLets (store_of final) (map_of final) (map named xs) ys is ss ws

some_data : PatData
some_data = pat_at None generated_pattern

pub lets_stand : (done : Prelude) (is : List PatId) (ys : List PatData)
    → Correct (let_params done is) (ShowsIf (λ s. ReadAs s is ys) (LetsBehind done ys is))
lets_stand done [] [] = correct_as (correct_pure done) (λ final ps m m' l g row. record {
  shown = λ reads. shown_none (moved_pure row.still) (
    [],
    [],
    ap (λ k. k.handed) row.is ∙ sym (append-nil done.handed),
    ap (λ k. k.lets) row.is ∙ sym (append-nil done.lets),
    tt,
    (refl, refl),
  );
})
lets_stand done [] (y ∷ ys) = correct_as (correct_pure done)
    (λ final ps m m' l g row. record { shown = λ reads. absurd (none_written m.stored y ys reads) })
lets_stand done (p ∷ is) [] = correct_as (correct_bind (let_param_corresponds done p some_data) (λ l. lets_stand l is []))
    (λ final ps m m' l g row. record { shown = λ reads. absurd (one_written m.stored p is reads) })
lets_stand done (p ∷ is) (y ∷ ys) = correct_as
    (correct_bind (correct_both (let_param_corresponds done p y) (correct_always (any (correct_let_param done p))))
    (λ l. lets_stand l is ys))
    (λ final ps m m' l g row. record {
      shown = λ reads.
          let one = row.first.one.shown (first_reads m.stored p is y ys reads) in
          let more = row.second.shown (others_read m.stored row.middle.stored row.first.other.stays p is y ys reads) in
          shown_as (shown_both one more) (λ ws z.
          let a = z.first in
          let b = z.second in
          let own = a.1 in
          let handed = b.2 ∙ (ap (λ k. k.handed ++ b.0) a.2 ∙ append_assoc done.handed (a.0 ∷ []) b.0) in
          let lets = b.3 ∙ (ap (λ k. k.lets ++ b.1) a.2 ∙ append_assoc done.lets own b.1) in (
            a.0 ∷ b.0,
            own ++ b.1,
            handed,
            lets,
            (a.3, b.4),
            (own, b.1, refl, a.4, record { left = z.left; right = z.right; is = z.is; first = a.5; second = b.5 }),
          ));
    })

-- what the outside hands them to

pub froms_of : (xs : List Handed) (is : List PatId) (ys : List PatData) (s : Stored) → SamePats xs is → ReadAs s is ys → Froms xs ys s
froms_of [] [] [] s h r = tt
froms_of (x ∷ xs) (p ∷ is) (y ∷ ys) s h r = (
  subst (λ q. From q (source_of y) s) (sym h.0) (reads_from s p y (first_reads s p is y ys r)),
  froms_of xs is ys s h.1 (others_read s s (extends_refl s) p is y ys r),
)
froms_of [] [] (y ∷ ys) s h r = absurd (none_written s y ys r)
froms_of [] (p ∷ is) ys s h r = absurd h
froms_of (x ∷ xs) [] ys s h r = absurd h
froms_of (x ∷ xs) (p ∷ is) [] s h r = absurd (one_written s p is r)

one_handed : (x : Handed) (at : Option Pointer) → Correct (handed_form x)
    (ShowsIf (From x.pat at) (λ final rs q. CorrespondsBind (store_of final) (map_of final) Mutable (named x) at q))
one_handed x at = correct_as (correct_both (handed_corresponds x at) (correct_always (any (correct_handed x))))
    (λ final ps m m' q g row. record { shown = λ from. row.one.shown (from m.stored (extends_refl m.stored) row.other.paired) })

pub handed_stand : (done : List PatId) (xs : List Handed) (ys : List PatData) → Correct (lower_handed done xs)
    (ShowsIf (Froms xs ys)
    (λ final rs is. Behind done (λ new. CorrespondsHanded (store_of final) (map_of final) (map named xs) ys new) is))
handed_stand done [] [] = correct_as (correct_pure done) (λ final ps m m' is g row. record {
  shown = λ from. shown_none (moved_pure row.still) ([], row.is ∙ sym (append-nil done), (refl, refl));
})
handed_stand done [] (y ∷ ys) =
    correct_as (correct_pure done) (λ final ps m m' is g row. record { shown = λ from. absurd from })
handed_stand done (x ∷ xs) [] = correct_as
    (correct_bind (one_handed x None) (λ p. handed_stand (done ++ p ∷ []) xs []))
    (λ final ps m m' is g row. record { shown = λ from. absurd from })
handed_stand done (x ∷ xs) (y ∷ ys) = correct_as
    (correct_bind (correct_both (one_handed x (source_of y)) (correct_always (any (correct_handed x))))
    (λ p. handed_stand (done ++ p ∷ []) xs ys))
    (λ final ps m m' is g row. record {
      shown = λ from.
          let behind = froms_last xs ys m.stored row.middle.stored row.first.other.stays from.1 in
          shown_as (shown_both (row.first.one.shown from.0) (row.second.shown behind)) (λ ws z.
          let new = z.second in
          let at = new.1 ∙ append_assoc done (row.one ∷ []) new.0 in (
            row.one ∷ new.0,
            at,
            (row.one, new.0, refl, record { left = z.left; right = z.right; is = z.is; first = z.first; second = new.2 }),
          ));
    })

-- the coroutine

pub made_coroutine_corresponds : (kind : CoroutineKind) (from : CoroutineSource) (lets : List Statement) (body : ExprId)
    → Correct (made_coroutine_form kind from lets body) (Shows (λ final rs c ws. (block : ExprId)
    × IsCoroutine (store_of final) (map_of final) kind from lets body block c × (OneUnled block & OneUnled c) ws))
unfolding made_coroutine_form
made_coroutine_corresponds kind from lets body = correct_as
    (correct_bind (correct_alloc (hir.Block false None None lets (Some body)) None)
    (λ b. correct_alloc (coroutine_of kind from b) None))
    (λ final ps m m' c g row. record {
      shown = shown_as (shown_both (unled row.first) (unled row.second))
          (λ ws y. (row.one, record { around = expr_at row.second; inside = expr_at row.first }, y));
    })
