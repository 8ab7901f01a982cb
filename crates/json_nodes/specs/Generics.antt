-- What is generic in items: parameters and conditions, and the lists of them.
use Rattle.std.specs.Prelude.{ℕ, List, Bool, false, codes, Option, Some, None, is_some, option_and_then, if◌then◌else◌}
use Rattle.serde_json.specs.Data.{Data, Items}
use Rattle.serde_json.specs.Find.{get, get_item}
use Rattle.hir_syntax.specs.declared.items.GenericParam.{GenericParam}
use Rattle.hir_syntax.specs.declared.items.GenericParam.TheVariants as param
use Rattle.hir_syntax.specs.declared.items.WherePred.{WherePred}
use Rattle.hir_syntax.specs.declared.types.ForBinder.{ForBinder}
use Rattle.json_errors.specs.Values.{small_of}
use Rattle.json_errors.specs.declared.kind.ItemNode.{ItemNode}
use Rattle.json_errors.specs.declared.kind.ItemNode.TheVariants as item
use Rattle.json_errors.specs.declared.kind.Kind.{Kind}
use Rattle.json_errors.specs.declared.kind.Kind.TheVariants as kind
use Rattle.json_nodes.specs.Groups.{as_binder, as_bound, as_const_arg, as_lifetime, as_name, as_type}
use Rattle.json_nodes.specs.Parts.{Here, part_in, list_in}
use Rattle.json_nodes.specs.Listed.{Listed, kind_of, list_at}

unfoldable pub generic_param : Here → ItemNode → Option GenericParam
generic_param h item.TypeParam = Some (param.TypeParam h.id h.range
    (part_in h as_name (codes "name"))
    (list_in h as_bound (codes "bounds"))
    (part_in h as_type (codes "default")))
generic_param h item.ConstParam = Some (param.ConstParam h.id h.range
    (part_in h as_name (codes "name"))
    (part_in h as_type (codes "ty"))
    (part_in h as_const_arg (codes "default")))
generic_param h item.LifetimeParam = Some (param.LifetimeParam h.id h.range
    (part_in h as_lifetime (codes "lifetime"))
    (list_in h as_bound (codes "bounds")))
generic_param h _ = None

abbrev pub index_in : List ℕ → Data → Option ℕ
index_in name d = option_and_then small_of (get name d)

abbrev has_params : Option Data → Bool
has_params None = false
has_params (Some d) = is_some (get (codes "params") d)

-- the binder at an index has a list
abbrev pub has_list : Items → ℕ → Bool
has_list ns at = has_params (get_item at ns)

abbrev list_of_binder : Items → Option ℕ → Bool
list_of_binder ns None = false
list_of_binder ns (Some at) = has_list ns at

-- a condition names a binder that has a list
abbrev pub has_binder : Items → Data → Bool
has_binder ns d = list_of_binder ns (index_in (codes "binder") d)

-- the binder of a condition; one whose list is absent is none
abbrev pub binder : Items → Here → Option ForBinder
binder ns h = if has_binder ns h.value then part_in h as_binder (codes "binder") else None

unfoldable pub where_pred : Items → Here → ItemNode → Option WherePred
where_pred ns h item.WherePred = Some (record {
  id = h.id;
  range = h.range;
  ty = part_in h as_type (codes "ty");
  lifetime = part_in h as_lifetime (codes "lifetime");
  binder = binder ns h;
  bounds = list_in h as_bound (codes "bounds");
})
where_pred ns h _ = None

-- what a list of parameters holds, where its node is one
abbrev generics_of : Option Kind → List GenericParam → Option (List GenericParam)
generics_of (Some (kind.Item item.GenericParamList)) params = Some params
generics_of _ params = None

abbrev pub generics_at : Listed → ℕ → Option (List GenericParam)
generics_at l at = generics_of (kind_of l at) (list_at l (λ _ h k. generic_param h k) (codes "params") at)

-- what a list of conditions holds, where its node is one
abbrev where_of : Option Kind → List WherePred → Option (List WherePred)
where_of (Some (kind.Item item.WhereClause)) preds = Some preds
where_of _ preds = None

abbrev pub where_at : Listed → ℕ → Option (List WherePred)
where_at l at = where_of (kind_of l at) (list_at l where_pred (codes "preds") at)

-- the generic parameters of an item
abbrev pub generics : Listed → Data → Option (List GenericParam)
generics l d = option_and_then (generics_at l) (index_in (codes "generics") d)

-- the conditions of an item
abbrev pub where_clause : Listed → Data → Option (List WherePred)
where_clause l d = option_and_then (where_at l) (index_in (codes "where") d)
