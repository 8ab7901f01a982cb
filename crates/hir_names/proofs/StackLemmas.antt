-- A stack of labels, seen as one of bindings.
use Rattle.std.proofs.Common.{◌≡◌, ◌∙◌, refl, sym, ap, true≢false, List, [], ◌∷◌, Option, Some, None}
use Rattle.std.specs.Prelude.{drop, Result, Ok, Err, is_ok}
use Rattle.hir_env.specs.Answers.{Contexts}
use Rattle.hir_lower_scope.specs.ScopeRibs.{Rib, Sought, Target, map_ribs, map_target, number_found, reachable, search, undeclared}
use Rattle.hir_lower_scope.specs.ScopeRibs.{unreachable}
use Rattle.hir_lower_scope.specs.Labels.{answer, rest}
use Rattle.hir_lower_scope.specs.declared.labels.NoTarget.{NoTarget}
use Rattle.hir_lower_scope.proofs.Ribs.{search_map}
use Rattle.hir_store.specs.declared.ids.BindingId.{BindingId}
use Rattle.hir_store.specs.declared.ids.LabelId.{LabelId}
use Rattle.hir_store.specs.declared.name.Name.{Name}
use Rattle.hir_names.specs.Reads.{binding_of}

pub rest_dropped : (rs : List (Rib LabelId)) → map_ribs binding_of (rest rs) ≡ drop 1 (map_ribs binding_of rs)
rest_dropped [] = refl
rest_dropped (r ∷ rs) = refl

abbrev label_in : LabelId → Result LabelId NoTarget → LabelId
label_in d (Ok l) = l
label_in d (Err x) = d

found_as : (t : Target LabelId) (l : LabelId) → Ok l ≡ answer t → Some (binding_of l) ≡ number_found (map_target binding_of t)
found_as (reachable a) l e = ap (λ r. Some (binding_of (label_in l r))) e
found_as unreachable l e = absurd (true≢false (ap is_ok e))
found_as undeclared l e = absurd (true≢false (ap is_ok e))

none_as : (t : Target LabelId) (x : NoTarget) → Err x ≡ answer t → None ≡ number_found (map_target binding_of t)
none_as (reachable a) x e = absurd (true≢false (sym (ap is_ok e)))
none_as unreachable x e = refl
none_as undeclared x e = refl

-- what is found among labels is found among bindings
module _ (contexts : Contexts) (name : Name) (s : Sought) (ls : List (Rib LabelId)) (bs : List (Rib BindingId))
    (view : map_ribs binding_of ls ≡ bs) where
  as_bindings : number_found (map_target binding_of (search contexts name s ls)) ≡ number_found (search contexts name s bs)
  as_bindings = ap number_found (sym (search_map binding_of contexts name s ls) ∙ ap (search contexts name s) view)

  pub found_binding : (l : LabelId) → Ok l ≡ answer (search contexts name s ls)
      → Some (binding_of l) ≡ number_found (search contexts name s bs)
  found_binding l e = found_as (search contexts name s ls) l e ∙ as_bindings

  pub no_binding : (x : NoTarget) → Err x ≡ answer (search contexts name s ls) → None ≡ number_found (search contexts name s bs)
  no_binding x e = none_as (search contexts name s ls) x e ∙ as_bindings
