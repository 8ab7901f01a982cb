-- What is known of the answers of small steps: of a trait's path, of a `super`, of the names of a pattern, of two dots.
use Rattle.std.proofs.Common.{◌≡◌, ◌∙◌, ◌⊎◌, inl, inr, refl, sym, ap, ◌+◌, ◌^◌, nat_lt, Bool, true, false, not}
use Rattle.std.proofs.Common.{if◌then◌else◌, cond}
use Rattle.std.proofs.Common.{List, [], ◌∷◌, ◌++◌, reverse, Option, Some, None, option_map}
use Rattle.std.specs.Map.{lookup}
use Rattle.hir_store.specs.declared.ids.BindingId.{BindingId}
use Rattle.hir_store.specs.declared.ids.TypeRefId.{TypeRefId}
use Rattle.hir_store.specs.declared.name.Name.{Name}
use Rattle.hir_store.specs.declared.path.Path.{Path as HirPath}
use Rattle.hir_store.specs.declared.path.PathKind.TheVariants as kind
use Rattle.hir_env.specs.ResolvedTree.{Pat, Use}
use Rattle.spec_data.specs.Patterns as written
use Rattle.spec_data.specs.Uses.{FirstUses, is_of, with_use}
use Rattle.hir_lower_builder.specs.declared.walk.PathWalk.{PathWalk}
use Rattle.hir_lower_builder.specs.declared.walk.Reading.TheVariants.{Refused, Open}
use Rattle.hir_lower_builder.specs.Lowering.{count_out}
use Rattle.hir_lower_builder.specs.Paths.{or_count_out}
use Rattle.hir_lower_builder.specs.Pats as forms
use Rattle.hir_lower_builder.specs.Pats.{Key, key_of, same_key}
use Rattle.hir_lower_builder.specs.Walks as walks
use Rattle.hir_lower_builder.specs.Walks.{supers, no_names, super_read, mod_path, add_trait}
use Rattle.thm_logic.proofs.TupleDots.{IsDots, IsPart, dots_or_part}
use Rattle.thm_logic.specs.PatNames.{is_known}
use Rattle.thm_logic.specs.PathSeen.{refused, goes_on, one_more, projected}
use Rattle.thm_logic.proofs.PathAnswers.{walk_seen, seen_of, seen_with, path_seen, no_names_reverse, Gives as GivesRead}
use Rattle.thm_logic.proofs.PatAnswers.{AreKeyed}
use Rattle.thm_logic.proofs.Answering.{Answering}

-- what a trait's path says

appended : (xs ys : List Name) → no_names ys ≡ false → not (no_names (xs ++ ys)) ≡ true
appended [] ys e = ap not e
appended (x ∷ xs) ys e = refl

pub projected_is : (t : TypeRefId) (p : HirPath) (w : PathWalk) → seen_of (walks.projected t p w) ≡ projected (Some (path_seen p))
projected_is t p w = by (no_names (mod_path p).segments) refl
  where
    by : (b : Bool) → no_names (mod_path p).segments ≡ b
        → seen_of (if b then Refused else Open (add_trait t p w))
        ≡ (if not b then goes_on (seen_with (supers (mod_path p).kind) (not b)) else refused)
    by true e = refl
    by false e = ap (λ x. goes_on (seen_with (supers (mod_path p).kind) x))
        (appended w.names (reverse (mod_path p).segments) (no_names_reverse (mod_path p).segments ∙ e))

-- what a `super` gives

pub counted_gives : (w : PathWalk) → Answering (GivesRead (goes_on (one_more (walk_seen w)))) (or_count_out (super_read w))
unfolding count_out
counted_gives w = by (nat_lt (supers w.kind + 1) (2 ^ 32))
  where
    by : (b : Bool) → Answering (GivesRead (goes_on (one_more (walk_seen w))))
        (or_count_out (option_map (λ k. Open (record w { kind = k })) (if b then Some (kind.Super (supers w.kind + 1)) else None)))
    by true = record { answers = λ b. refl }
    by false = record { answers = λ b. tt }

-- names

pub keyed_more : (u : Use) (b : BindingId) (us : FirstUses) (es : List (Key × BindingId)) → AreKeyed us es
    → AreKeyed (us ++ u ∷ []) (es ++ (key_of u, b) ∷ [])
keyed_more u b [] [] h = (refl, tt)
keyed_more u b [] (e ∷ es) h = absurd h
keyed_more u b (f ∷ us) [] h = absurd h
keyed_more u b (f ∷ us) (e ∷ es) h = (h.0, keyed_more u b us es h.1)

-- what is known of a name, where w are the names with this one
abbrev pub KnownBy : FirstUses → Use → Option BindingId → FirstUses → Bool → Type 0
KnownBy us u (Some b) w k = (w ≡ us) × (k ≡ true)
KnownBy us u None w k = (w ≡ us ++ u ∷ []) × (k ≡ false)

known_later : (f u : Use) (us : FirstUses) (o : Option BindingId) (w : FirstUses) (k : Bool) → KnownBy us u o w k
    → KnownBy (f ∷ us) u o (f ∷ w) k
known_later f u us (Some b) w k h = (ap (λ v. f ∷ v) h.0, h.1)
known_later f u us None w k h = (ap (λ v. f ∷ v) h.0, h.1)

pub known_by : (u : Use) (us : FirstUses) (es : List (Key × BindingId)) → AreKeyed us es
    → KnownBy us u (lookup (same_key (key_of u)) es) (with_use us u) (is_known us u)
known_by u [] [] h = (refl, refl)
known_by u [] (e ∷ es) h = absurd h
known_by u (f ∷ us) [] h = absurd h
known_by u (f ∷ us) (e ∷ es) h = rw h.0 (by (is_of u.name u.hygiene f) (known_by u us es h.1))
  where
    by : (t : Bool) → KnownBy us u (lookup (same_key (key_of u)) es) (with_use us u) (is_known us u)
        → KnownBy (f ∷ us) u (cond t (Some e.1) (lookup (same_key (key_of u)) es)) (if t then f ∷ us else f ∷ with_use us u)
        (if t then true else is_known us u)
    by true k = (refl, refl)
    by false k = known_later f u us (lookup (same_key (key_of u)) es) (with_use us u) (is_known us u) k

-- two dots

-- what is two dots where it is written is two dots where it is lowered
pub same_dots : (p : Pat) → written.is_dots p ≡ forms.is_dots p
same_dots p = by (dots_or_part p)
  where
    by : IsDots p ⊎ IsPart p → written.is_dots p ≡ forms.is_dots p
    by (inl is) = is.1 ∙ sym is.0
    by (inr is) = is.1 ∙ sym is.0
