-- Lists within patterns: the parts of a tuple, of which two dots are none, and what stands for all that came.
use Rattle.std.proofs.Common.{◌≡◌, ◌∙◌, ◌⊎◌, inl, inr, refl, sym, ap, subst, ℕ, true, false, true≢false, List, []}
use Rattle.std.proofs.Common.{append-nil, Some}
use Rattle.hir_binding.specs.Steps.{Tracked, over_recent, after, after_parts}
use Rattle.hir_store.specs.Pointers.{Pointer}
use Rattle.hir_store.specs.Stored.{Stored, store_of, map_of}
use Rattle.hir_store.specs.declared.ids.PatId.{PatId}
use Rattle.hir_store.specs.declared.pat.Pat.TheVariants as pat
use Rattle.hir_env.specs.ResolvedTree as tree
use Rattle.hir_env.specs.ResolvedTree.{Pat, Pats}
use Rattle.spec_data.specs.Patterns.{is_dots, uses_after, uses_after_each, uses_of, each_uses}
use Rattle.spec_data.specs.Uses.{FirstUses}
use Rattle.thm_logic.proofs.TupleDots.{IsDots, IsPart}
use Rattle.hir_lower_builder.specs.Lower.{lower_pat, lower_elements}
use Rattle.hir_lower_builder.specs.Lowering.{Lowering, ◌>>=◌, pure, alloc_pat}
use Rattle.hir_lower_builder.specs.Pats as forms
use Rattle.hir_lower_builder.specs.Pats.{Elements, Table, no_elements}
use Rattle.thm_logic.proofs.Steps as steps
use Rattle.thm_body_result.specs.Leads.{Mapping, No}
use Rattle.thm_body_result.specs.Corresponds.{Names, Open, OrIs, CorrespondsBefore, CorrespondsPat, CorrespondsPats, CorrespondsElements}
use Rattle.thm_body_result.proofs.Naming.{Within, PatFine, PatShows, like_row, pat_as, pat_node, pat_pure, same_side_output, same_uses}
use Rattle.thm_body_result.proofs.PatForms.{part_corresponds}
use Rattle.thm_body_result.proofs.PatStanding.{Behind}

-- all of them
pub all_behind : {A : Type 0} {S : Within (List A)} {f : FirstUses → FirstUses} {N : FirstUses → ℕ → Tracked → Tracked}
    {p : Table → Lowering (List A × Table)} → PatFine (λ ks us final rs is. Behind [] (λ js. S ks us final rs js) is) f N p
    → PatFine S f N p
all_behind {S = S} h = pat_as (λ ks us final rs is ws z. subst (λ js. S ks us final rs js ws) (sym z.1) z.2) h

-- an or-pattern of nothing
pub no_alternatives : (at : Pointer)
    → PatFine (λ ks us final rs i ws. (is : List PatId) × OrIs (store_of final) (map_of final) is i
    × CorrespondsPats (store_of final) (map_of final) ks rs tree.no_pats us is ws) same_uses same_side_output
    (forms.alone (alloc_pat (pat.Or []) (Some at)))
no_alternatives at = pat_as (λ ks us final rs i ws z. ([], z.0, (refl, z.1))) (pat_node (pat.Or []) (Some at) tt)

-- parts of a tuple

pub no_elements_stand : (done : Elements)
    → PatFine (λ ks us final rs es. Behind done.0 (λ js ws. (js ≡ []) × No ws) es.0) same_uses same_side_output (λ t. pure (done, t))
no_elements_stand done =
    pat_as (λ ks us final rs es ws z. ([], ap (λ e. e.0) z.0 ∙ sym (append-nil done.0), (refl, z.1))) (pat_pure done)

-- of all parts behind those that are done
abbrev pub Elementary : Pats → Elements → Within Elements
Elementary ps done ks us final rs es = Behind done.0 (λ js. CorrespondsElements (store_of final) (map_of final) ks rs ps us js) es.0

abbrev pub ElementsFine : Pats → Elements → (Table → Lowering (Elements × Table)) → Type 0
ElementsFine ps done p =
    PatFine (Elementary ps done) (uses_after_each ps) (λ us n x. after_parts over_recent n (each_uses ps us) x) p

pub all_elements : (ps : Pats) {p : Table → Lowering (Elements × Table)} → ElementsFine ps no_elements p
    → PatFine (λ ks us final rs es. CorrespondsElements (store_of final) (map_of final) ks rs ps us es.0) (uses_after_each ps)
    (λ us n x. after_parts over_recent n (each_uses ps us) x) p
all_elements ps h = pat_as
    (λ ks us final rs es ws z. subst (λ js. CorrespondsElements (store_of final) (map_of final) ks rs ps us js ws) (sym z.1) z.2) h

-- two dots note nothing
dots_track_nothing : (p : Pat) → is_dots p ≡ true → (us : FirstUses) (n : ℕ) (x : Tracked) → x ≡ after over_recent n (uses_of p us) x
dots_track_nothing (tree.leaf_pat at form) e us n x = refl
dots_track_nothing p e us n x = absurd (true≢false (sym e))

pub element_corresponds : (p : Pat) (ps : Pats) → IsDots p ⊎ IsPart p
    → PatFine (λ ks us final rs i. CorrespondsPat (store_of final) (map_of final) ks rs p us i) (uses_after p)
    (λ us n x. after over_recent n (uses_of p us) x) (lower_pat p)
    → ((done : Elements) → ElementsFine ps done (lower_elements done ps)) → (done : Elements)
    → ElementsFine (tree.more_pats p ps) done (lower_elements done (tree.more_pats p ps))
element_corresponds p ps (inl is) h hs done t =
    subst (λ b. steps.Correct (forms.element_form b done (lower_pat p) t >>= (λ r. lower_elements r.0 ps r.1))
    (PatShows (Elementary (tree.more_pats p ps) done) (uses_after_each (tree.more_pats p ps))
    (λ us n x. after_parts over_recent n (each_uses (tree.more_pats p ps) us) x) t)) (sym is.0)
    (steps.correct_as (hs (done.0, forms.dots_after done.0 done.1) t) (λ final qs m m' r g row. like_row row
    (λ us. ap (uses_after_each ps) (sym (is.2 us)))
    (λ us n x. ap (λ vs. after_parts over_recent n (each_uses ps vs) x) (sym (is.2 us))
    ∙ ap (λ y. after_parts over_recent n (each_uses ps (uses_after p us)) y) (dots_track_nothing p is.1 us n x))
    (λ ks us ws z. (z.0, z.1, by ks us final _ z.0 ws z.2))))
  where
    by : (ks : Names) (us : FirstUses) (final : Stored) (rs : Open) (js : List PatId) (ws : List Mapping)
        → CorrespondsElements (store_of final) (map_of final) ks rs ps us js ws
        → CorrespondsElements (store_of final) (map_of final) ks rs (tree.more_pats p ps) us js ws
    by ks us final rs js ws z =
        subst (λ b. CorrespondsBefore b (λ i. CorrespondsPat (store_of final) (map_of final) ks rs p us i)
        (λ others. CorrespondsElements (store_of final) (map_of final) ks rs ps (uses_after p us) others) js ws) (sym is.1)
        (subst (λ vs. CorrespondsElements (store_of final) (map_of final) ks rs ps vs js ws) (sym (is.2 us)) z)
element_corresponds p ps (inr is) h hs done t =
    subst (λ b. steps.Correct (forms.element_form b done (lower_pat p) t >>= (λ r. lower_elements r.0 ps r.1))
    (PatShows (Elementary (tree.more_pats p ps) done) (uses_after_each (tree.more_pats p ps))
    (λ us n x. after_parts over_recent n (each_uses (tree.more_pats p ps) us) x) t)) (sym is.0)
    (steps.correct_as (part_corresponds h hs done t) (λ final qs m m' r g row. like_row row (λ us. refl) (λ us n x. refl)
    (λ ks us ws z. (z.0, z.1, by ks us final _ z.0 ws z.2))))
  where
    by : (ks : Names) (us : FirstUses) (final : Stored) (rs : Open) (js : List PatId) (ws : List Mapping)
        → CorrespondsBefore false (λ i. CorrespondsPat (store_of final) (map_of final) ks rs p us i)
        (λ others. CorrespondsElements (store_of final) (map_of final) ks rs ps (uses_after p us) others) js ws
        → CorrespondsElements (store_of final) (map_of final) ks rs (tree.more_pats p ps) us js ws
    by ks us final rs js ws z =
        subst (λ b. CorrespondsBefore b (λ i. CorrespondsPat (store_of final) (map_of final) ks rs p us i)
        (λ others. CorrespondsElements (store_of final) (map_of final) ks rs ps (uses_after p us) others) js ws) (sym is.1) z
