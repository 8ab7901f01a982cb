-- What the expressions inside lists, arguments and paths weigh.
use Rattle.std.proofs.Common.{◌≡◌, refl, ap, ℕ, ◌+◌, ◌≤◌, Bool, true, false, List, [], ◌∷◌, ◌++◌, Option, Some, None, arith}
use Rattle.std.proofs.lemmas.List.{reverse-append}
use Rattle.std.specs.Prelude.{reverse, map, is_none, ◌&&◌, not}
use Rattle.hir_store.specs.Generics.{of_binding as binding_of_parts, self_first}
use Rattle.hir_store.specs.declared.ids.ExprId.{ExprId}
use Rattle.hir_store.specs.declared.ids.TypeRefId.{TypeRefId}
use Rattle.hir_store.specs.declared.name.Name.{Name}
use Rattle.hir_store.specs.declared.type_ref.TypeBound.{TypeBound}
use Rattle.hir_store.specs.declared.path.GenericArg.{GenericArg}
use Rattle.hir_store.specs.declared.path.GenericArg.TheVariants as arg
use Rattle.hir_store.specs.declared.path.GenericArgsParentheses.TheVariants as parens
use Rattle.hir_store.specs.declared.path.GenericArgs.{GenericArgs}
use Rattle.hir_store.specs.declared.path.AssociatedTypeBinding.{AssociatedTypeBinding}
use Rattle.hir_store.specs.declared.path.Path.{Path}
use Rattle.hir_store.specs.declared.path.Path.TheVariants.{BarePath, Normal, LangItem}
use Rattle.hir_env.specs.ResolvedTree.{Binder}
use Rattle.hir_lower_builder.specs.declared.args.ArgLists.{ArgLists}
use Rattle.hir_lower_builder.specs.declared.walk.PathWalk.{PathWalk}
use Rattle.hir_lower_builder.specs.declared.walk.Reading.{Reading}
use Rattle.hir_lower_builder.specs.declared.walk.Reading.TheVariants.{Refused, Ended, Open}
use Rattle.hir_lower_builder.specs.Walks.{args_of, with_self, without_last_self, has_self, no_names, mod_path, add_trait, projected}
use Rattle.hir_lower_builder.specs.Walks.{add_name, finished, path_read, at_first}
use Rattle.hir_lower_builder.specs.Paths.{or_notation, sugared_args, output_name}
use Rattle.hir_lower_builder.specs.Types.{add_arg, add_binding, yielded, is_none_of, stored_path_bound}
use Rattle.spec_semantics.specs.Inner.{Inners, Inside, all_of, of_present, of_arg, of_bound, of_list, of_path}
use Rattle.thm_semantics.proofs.HeldArgs.{of_binding, args_roll, binding_roll, self_first_is}
use Rattle.thm_type_result.proofs.Counted.{either}
use Rattle.thm_type_result.proofs.Weighed.{sum, sum_append}

module _ (k : ExprId → ℕ) where
  -- lists

  pub each_push : {A : Type 0} (f : A → List Inside) (xs : List A) (x : A)
      → sum k (all_of f (xs ++ x ∷ [])) ≡ sum k (all_of f xs) + sum k (f x)
  each_push f [] x = let e = sum_append k (f x) [] in omega arith
  each_push f (y ∷ xs) x =
      let a = sum_append k (f y) (all_of f xs) in
      let b = sum_append k (f y) (all_of f (xs ++ x ∷ [])) in
      let r = each_push f xs x in omega arith

  pub each_append : {A : Type 0} (f : A → List Inside) (xs ys : List A)
      → sum k (all_of f (xs ++ ys)) ≡ sum k (all_of f xs) + sum k (all_of f ys)
  each_append f [] ys = omega arith
  each_append f (x ∷ xs) ys =
      let a = sum_append k (f x) (all_of f xs) in
      let b = sum_append k (f x) (all_of f (xs ++ ys)) in
      let r = each_append f xs ys in omega arith

  each_reverse : {A : Type 0} (f : A → List Inside) (xs : List A) → sum k (all_of f (reverse xs)) ≡ sum k (all_of f xs)
  each_reverse f [] = refl
  each_reverse f (x ∷ xs) =
      let e = ap (λ ys. sum k (all_of f ys)) (reverse-append (x ∷ []) xs) in
      let p = each_push f (reverse xs) x in
      let a = sum_append k (f x) (all_of f xs) in
      let r = each_reverse f xs in omega arith

module _ (k : ExprId → ℕ) (held : Inners) where
  -- lists of arguments

  abbrev pub in_lists : ArgLists → ℕ
  in_lists l = sum k (all_of (of_arg held) l.args) + sum k (all_of (of_binding held) l.bindings)

  abbrev pub in_args : Option GenericArgs → ℕ
  in_args a = sum k (of_list held a)

  pub arg_added : (l : ArgLists) (a : GenericArg) → in_lists (add_arg l a) ≤ in_lists l + sum k (of_arg held a)
  arg_added l a = let p = each_push k (of_arg held) l.args a in omega arith

  pub binding_added : (l : ArgLists) (b : AssociatedTypeBinding) → in_lists (add_binding l b) ≤ in_lists l + sum k (of_binding held b)
  binding_added l b = let p = each_push k (of_binding held) l.bindings b in omega arith

  pub yielded_less : (l : ArgLists) → in_args (yielded l) ≤ in_lists l
  yielded_less l = either (λ a. in_args a ≤ in_lists l) (is_none_of l.args && is_none_of l.bindings) (omega arith)
      (let e = ap (sum k) (args_roll held l.args false l.bindings parens.No) in
      let x = sum_append k (all_of (of_arg held) l.args) (all_of (of_binding held) l.bindings) in omega arith)

  pub notation_less : (a : Option GenericArgs) (dots : Bool) → in_args (or_notation a dots) ≤ in_args a
  notation_less None true = let e = ap (sum k) (args_roll held [] false [] parens.ReturnTypeNotation) in omega arith
  notation_less None false = omega arith
  notation_less (Some a) dots = omega arith

  pub sugared_less : (t o : TypeRefId) → in_args (Some (sugared_args t o)) ≤ sum k (held.type t) + sum k (held.type o)
  sugared_less t o =
      let b = binding_of_parts output_name None (Some o) [] in
      let e = ap (sum k) (args_roll held (arg.Type_ t ∷ []) false (b ∷ []) parens.ParenSugar) in
      let e' = ap (sum k) (binding_roll held output_name None (Some o) []) in
      let x = sum_append k (held.type t ++ []) (of_binding held b ++ []) in
      let y = sum_append k (held.type t) [] in
      let z = sum_append k (of_binding held b) [] in
      let w = sum_append k (held.type o) [] in omega arith

  pub binding_less : (n : Name) (a : Option GenericArgs) (dots : Bool) (t : Option TypeRefId) (bs : List TypeBound)
      → sum k (of_binding held (binding_of_parts n (or_notation a dots) t bs))
      ≤ (in_args a + sum k (of_present held.type t)) + sum k (all_of (of_bound held) bs)
  binding_less n a dots t bs =
      let e = ap (sum k) (binding_roll held n (or_notation a dots) t bs) in
      let l = notation_less a dots in
      let x = sum_append k (of_list held (or_notation a dots)) (of_present held.type t ++ all_of (of_bound held) bs) in
      let y = sum_append k (of_present held.type t) (all_of (of_bound held) bs) in omega arith

  pub path_bound_less : (maybe : Bool) (binder : Binder) (t : TypeRefId)
      → sum k (of_bound held (stored_path_bound maybe binder t)) ≤ sum k (held.type t)
  path_bound_less maybe [] t = omega arith
  path_bound_less maybe (n ∷ ns) t = omega arith

  -- what is read of a path

  abbrev in_beside : List (Option GenericArgs) → ℕ
  in_beside as' = sum k (all_of (of_list held) as')

  abbrev pub in_walk : PathWalk → ℕ
  in_walk w = sum k (of_present held.type w.type_anchor) + in_beside w.args

  abbrev pub in_reading : Reading → ℕ
  in_reading Refused = 0
  in_reading (Ended w) = in_walk w
  in_reading (Open w) = in_walk w

  abbrev pub in_path : Option Path → ℕ
  in_path p = sum k (of_present (of_path held) p)

  pub named_less : (n : Name) (a : Option GenericArgs) (w : PathWalk) → in_walk (add_name n a w) ≤ in_walk w + in_args a
  named_less n a w = let p = each_push k (of_list held) w.args a in omega arith

  pub at_first_less : (leading : Bool) (w : PathWalk) → in_walk (at_first leading w) ≤ in_walk w
  at_first_less leading w = either (λ v. in_walk v ≤ in_walk w) leading (omega arith) (omega arith)

  with_self_less : (t : TypeRefId) (as' : List (Option GenericArgs)) → in_beside (with_self t as') ≤ sum k (held.type t) + in_beside as'
  with_self_less t [] =
      let e = ap (sum k) (self_first_is held t None) in
      let x = sum_append k (of_list held (Some (self_first t None))) [] in
      let y = sum_append k (held.type t) [] in omega arith
  with_self_less t (a ∷ as') =
      let e = ap (sum k) (self_first_is held t a) in
      let x = sum_append k (of_list held (Some (self_first t a))) (all_of (of_list held) as') in
      let y = sum_append k (of_list held a) (all_of (of_list held) as') in
      let z = sum_append k (held.type t) (of_list held a) in omega arith

  none_beside : {A : Type 0} (xs : List A) → in_beside (map (λ x. None) xs) ≡ 0
  none_beside [] = refl
  none_beside (x ∷ xs) = none_beside xs

  args_of_less : (p : Path) → in_beside (args_of p) ≤ in_path (Some p)
  args_of_less (BarePath p) = let e = none_beside p.segments in omega arith
  args_of_less (LangItem i) = omega arith
  args_of_less (Normal p) = let e = sum_append k (of_present held.type p.type_anchor) (all_of (of_list held) p.generic_args) in omega arith

  trait_less : (t : TypeRefId) (p : Path) (w : PathWalk) → in_walk (add_trait t p w) ≤ (in_walk w + sum k (held.type t)) + in_path (Some p)
  trait_less t p w =
      let as' = args_of p in
      let s = with_self_less t (reverse as') in
      let r = each_reverse k (of_list held) as' in
      let l = args_of_less p in
      let p' = each_append k (of_list held) w.args (with_self t (reverse as')) in omega arith

  pub projected_less : (t : TypeRefId) (p : Path) (w : PathWalk)
      → in_reading (projected t p w) ≤ (in_walk w + sum k (held.type t)) + in_path (Some p)
  projected_less t p w =
      either (λ r. in_reading r ≤ (in_walk w + sum k (held.type t)) + in_path (Some p)) (no_names (mod_path p).segments)
      (omega arith) (trait_less t p w)

  without_self_less : (as' : List (Option GenericArgs)) → in_beside (without_last_self as') ≤ in_beside as'
  without_self_less [] = omega arith
  without_self_less (None ∷ as') = omega arith
  without_self_less (Some a ∷ as') =
      let x = sum_append k (of_list held (Some a)) (all_of (of_list held) as') in
      either (λ o. sum k (of_list held o ++ all_of (of_list held) as') ≤ in_beside (Some a ∷ as')) (has_self a)
      (omega arith) (omega arith)

  finished_less : (w : PathWalk) → in_path (Some (finished w)) ≤ in_walk w
  finished_less w =
      let r = each_reverse k (of_list held) (without_last_self w.args) in
      let s = without_self_less w.args in
      let x = sum_append k (of_present held.type w.type_anchor) (all_of (of_list held) (reverse (without_last_self w.args))) in
      either (λ p. in_path (Some p) ≤ in_walk w) (is_none w.type_anchor && not w.found_args) (omega arith) (omega arith)

  pub path_read_less : (r : Reading) → in_path (path_read r) ≤ in_reading r
  path_read_less Refused = omega arith
  path_read_less (Ended w) = finished_less w
  path_read_less (Open w) = finished_less w
