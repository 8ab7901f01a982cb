-- The types that lists, arguments and paths name.
use Rattle.std.proofs.Common.{◌≡◌, ◌∙◌, refl, ap, ℕ, ◌+◌, ◌≤◌, Bool, true, false, List, [], ◌∷◌, ◌++◌, Option, Some, None, arith}
use Rattle.std.proofs.lemmas.List.{reverse-append}
use Rattle.std.specs.Prelude.{reverse, map, is_none, ◌&&◌, not}
use Rattle.hir_store.specs.Generics.{of_args as args_of_parts, of_binding as binding_of_parts, self_first}
use Rattle.hir_store.specs.declared.ids.TypeRefId.{TypeRefId}
use Rattle.hir_store.specs.declared.ids.LifetimeRefId.{LifetimeRefId}
use Rattle.hir_store.specs.declared.name.Name.{Name}
use Rattle.hir_store.specs.declared.name.Name.TheVariants.{Missing}
use Rattle.hir_store.specs.declared.type_ref.ConstRef.{ConstRef}
use Rattle.hir_store.specs.declared.type_ref.TypeBound.{TypeBound}
use Rattle.hir_store.specs.declared.path.GenericArg.{GenericArg}
use Rattle.hir_store.specs.declared.path.GenericArg.TheVariants as arg
use Rattle.hir_store.specs.declared.path.GenericArgsParentheses.{GenericArgsParentheses}
use Rattle.hir_store.specs.declared.path.GenericArgsParentheses.TheVariants.{No}
use Rattle.hir_store.specs.declared.path.GenericArgsParentheses.TheVariants as parens
use Rattle.hir_store.specs.declared.path.GenericArgs.{GenericArgs}
use Rattle.hir_store.specs.declared.path.AssociatedTypeBinding.{AssociatedTypeBinding}
use Rattle.hir_store.specs.declared.path.AssociatedTypeBinding.TheFolds as folds
use Rattle.hir_store.specs.declared.path.AssociatedTypeBinding.TheViews.{out-GenericArgs}
use Rattle.hir_store.specs.declared.path.Path.{Path}
use Rattle.hir_store.specs.declared.path.Path.TheVariants.{BarePath, Normal, LangItem}
use Rattle.hir_env.specs.ResolvedTree.{Binder}
use Rattle.hir_lower_builder.specs.declared.args.ArgLists.{ArgLists}
use Rattle.hir_lower_builder.specs.declared.walk.PathWalk.{PathWalk}
use Rattle.hir_lower_builder.specs.declared.walk.Reading.{Reading}
use Rattle.hir_lower_builder.specs.declared.walk.Reading.TheVariants.{Refused, Ended, Open}
use Rattle.hir_lower_builder.specs.Walks.{args_of, with_self, without_last_self, has_self, no_names, mod_path, add_trait, projected}
use Rattle.hir_lower_builder.specs.Walks.{add_name}
use Rattle.hir_lower_builder.specs.Walks.{finished, path_read, at_first}
use Rattle.hir_lower_builder.specs.Paths.{or_notation, sugared_args, output_name}
use Rattle.hir_lower_builder.specs.Types.{add_arg, add_binding, yielded, is_none_of, stored_path_bound}
use Rattle.thm_type_result.specs.Reached.{of_present, of_each, flat_numbers, of_arg, of_bound, binding_step, args_step, of_args, of_binding}
use Rattle.thm_type_result.specs.Reached.{of_lists}
use Rattle.thm_type_result.specs.Reached.{of_path}
use Rattle.thm_type_result.proofs.Counted.{times, ◌⊑◌, times_append, either}

-- lists

pub each_push : {A : Type 0} (f : A → List ℕ) (xs : List A) (x : A) (k : ℕ)
    → times k (of_each f (xs ++ x ∷ [])) ≡ times k (of_each f xs) + times k (f x)
each_push f [] x k = let e = times_append k (f x) [] in omega arith
each_push f (y ∷ xs) x k =
    let a = times_append k (f y) (of_each f xs) in
    let b = times_append k (f y) (of_each f (xs ++ x ∷ [])) in
    let r = each_push f xs x k in omega arith

pub each_append : {A : Type 0} (f : A → List ℕ) (xs ys : List A) (k : ℕ)
    → times k (of_each f (xs ++ ys)) ≡ times k (of_each f xs) + times k (of_each f ys)
each_append f [] ys k = omega arith
each_append f (x ∷ xs) ys k =
    let a = times_append k (f x) (of_each f xs) in
    let b = times_append k (f x) (of_each f (xs ++ ys)) in
    let r = each_append f xs ys k in omega arith

pub each_reverse : {A : Type 0} (f : A → List ℕ) (xs : List A) (k : ℕ) → times k (of_each f (reverse xs)) ≡ times k (of_each f xs)
each_reverse f [] k = refl
each_reverse f (x ∷ xs) k =
    let e = ap (λ ys. times k (of_each f ys)) (reverse-append (x ∷ []) xs) in
    let p = each_push f (reverse xs) x k in
    let a = times_append k (f x) (of_each f xs) in
    let r = each_reverse f xs k in omega arith

-- arguments, each in one level of the other

abbrev mapped : {A B C D : Type 0} → (A → C) → (B → D) → List A → List C
mapped {A} {B} {C} {D} f g xs =
    (folds.map-GenericArgs A B C D f g (record { args = []; has_self_type = true; bindings = xs; parenthesized = No })).bindings

abbrev one_mapped : {A B C D : Type 0} → (A → C) → (B → D) → Option B → Option D
one_mapped {A} {B} {C} {D} f g x =
    (folds.map-AssociatedTypeBinding A B C D f g (record { name = Missing; args = x; type_ref = None; bounds = [] })).args

module _ (f : TypeRefId → List ℕ) where
  joined_is : (xs : List AssociatedTypeBinding) → flat_numbers (mapped (of_binding f) (of_args f) xs) ≡ of_each (of_binding f) xs
  joined_is [] = refl
  joined_is (x ∷ xs) = ap (λ ks. of_binding f x ++ ks) (joined_is xs)

  present_is : (x : Option GenericArgs) → of_present (λ ks. ks) (one_mapped (of_binding f) (of_args f) x) ≡ of_present (of_args f) x
  present_is None = refl
  present_is (Some x) = refl

  pub args_roll : (as' : List GenericArg) (self : Bool) (bs : List AssociatedTypeBinding) (ps : GenericArgsParentheses)
      → of_args f (args_of_parts as' self bs ps) ≡ of_each (of_arg f) as' ++ of_each (of_binding f) bs
  unfolding of_args of_binding
  args_roll as' self bs ps =
      folds.fold-roll-GenericArgs (List ℕ) (List ℕ) (binding_step f) (args_step f)
      (record { args = as'; has_self_type = self; bindings = bs; parenthesized = ps })
      ∙ ap (λ ks. of_each (of_arg f) as' ++ ks) (joined_is bs)

  pub binding_roll : (n : Name) (a : Option GenericArgs) (t : Option TypeRefId) (bs : List TypeBound)
      → of_binding f (binding_of_parts n a t bs) ≡ of_present (of_args f) a ++ (of_present f t ++ of_each (of_bound f) bs)
  unfolding of_args of_binding
  binding_roll n a t bs =
      folds.fold-roll-AssociatedTypeBinding (List ℕ) (List ℕ) (binding_step f) (args_step f)
      (record { name = n; args = a; type_ref = t; bounds = bs })
      ∙ ap (λ ks. ks ++ (of_present f t ++ of_each (of_bound f) bs)) (present_is a)

  args_out : (a : GenericArgs) → let o = out-GenericArgs a in of_args f a ≡ of_each (of_arg f) o.args ++ of_each (of_binding f) o.bindings
  unfolding of_args of_binding
  args_out a =
      let o = out-GenericArgs a in
      folds.fold_out-GenericArgs (List ℕ) (List ℕ) (binding_step f) (args_step f) a
      ∙ ap (λ ks. of_each (of_arg f) o.args ++ ks) (joined_is o.bindings)

  -- a type for `Self` in front
  pub self_first_is : (t : TypeRefId) (a : Option GenericArgs) (k : ℕ)
      → times k (of_args f (self_first t a)) ≡ times k (f t) + times k (of_present (of_args f) a)
  self_first_is t None k =
      let e = ap (times k) (args_roll (arg.Type_ t ∷ []) true [] No) in
      let a = times_append k (f t ++ []) [] in
      let b = times_append k (f t) [] in omega arith
  self_first_is t (Some a) k =
      let o = out-GenericArgs a in
      let e = ap (times k) (args_roll (arg.Type_ t ∷ o.args) true o.bindings o.parenthesized) in
      let x = times_append k (f t ++ of_each (of_arg f) o.args) (of_each (of_binding f) o.bindings) in
      let y = times_append k (f t) (of_each (of_arg f) o.args) in
      let z = times_append k (of_each (of_arg f) o.args) (of_each (of_binding f) o.bindings) in
      let w = ap (times k) (args_out a) in omega arith

-- lists of arguments

abbrev pub of_arg_lists : (TypeRefId → List ℕ) → ArgLists → List ℕ
of_arg_lists f l = of_each (of_arg f) l.args ++ of_each (of_binding f) l.bindings

pub arg_added : (f : TypeRefId → List ℕ) (l : ArgLists) (a : GenericArg) → of_arg_lists f (add_arg l a) ⊑ of_arg_lists f l ++ of_arg f a
arg_added f l a k =
    let as' = of_each (of_arg f) l.args in
    let bs = of_each (of_binding f) l.bindings in
    let p = each_push (of_arg f) l.args a k in
    let x = times_append k (of_each (of_arg f) (l.args ++ a ∷ [])) bs in
    let y = times_append k as' bs in
    let z = times_append k (as' ++ bs) (of_arg f a) in omega arith

pub lifetime_added : (f : TypeRefId → List ℕ) (l : ArgLists) (i : LifetimeRefId)
    → of_arg_lists f (add_arg l (arg.Lifetime i)) ⊑ of_arg_lists f l
lifetime_added f l i k =
    let a = arg_added f l (arg.Lifetime i) k in
    let s = times_append k (of_arg_lists f l) [] in omega arith

pub constant_added : (f : TypeRefId → List ℕ) (l : ArgLists) (c : ConstRef) → of_arg_lists f (add_arg l (arg.Const c)) ⊑ of_arg_lists f l
constant_added f l c k =
    let a = arg_added f l (arg.Const c) k in
    let s = times_append k (of_arg_lists f l) [] in omega arith

pub binding_added : (f : TypeRefId → List ℕ) (l : ArgLists) (b : AssociatedTypeBinding)
    → of_arg_lists f (add_binding l b) ⊑ of_arg_lists f l ++ of_binding f b
binding_added f l b k =
    let as' = of_each (of_arg f) l.args in
    let bs = of_each (of_binding f) l.bindings in
    let p = each_push (of_binding f) l.bindings b k in
    let x = times_append k as' (of_each (of_binding f) (l.bindings ++ b ∷ [])) in
    let y = times_append k as' bs in
    let z = times_append k (as' ++ bs) (of_binding f b) in omega arith

pub yielded_less : (f : TypeRefId → List ℕ) (l : ArgLists) → of_present (of_args f) (yielded l) ⊑ of_arg_lists f l
yielded_less f l k = either (λ a. times k (of_present (of_args f) a) ≤ times k (of_arg_lists f l))
    (is_none_of l.args && is_none_of l.bindings)
    (omega arith) (let e = ap (times k) (args_roll f l.args false l.bindings No) in omega arith)

pub notation_less : (f : TypeRefId → List ℕ) (a : Option GenericArgs) (dots : Bool)
    → of_present (of_args f) (or_notation a dots) ⊑ of_present (of_args f) a
notation_less f None true k = let e = ap (times k) (args_roll f [] false [] parens.ReturnTypeNotation) in omega arith
notation_less f None false k = omega arith
notation_less f (Some a) dots k = omega arith

pub sugared_less : (f : TypeRefId → List ℕ) (t o : TypeRefId) → of_args f (sugared_args t o) ⊑ f t ++ f o
sugared_less f t o k =
    let b = binding_of_parts output_name None (Some o) [] in
    let e = ap (times k) (args_roll f (arg.Type_ t ∷ []) false (b ∷ []) parens.ParenSugar) in
    let e' = ap (times k) (binding_roll f output_name None (Some o) []) in
    let x = times_append k (f t ++ []) (of_binding f b ++ []) in
    let y = times_append k (f t) [] in
    let z = times_append k (of_binding f b) [] in
    let w = times_append k (f o) [] in
    let v = times_append k (f t) (f o) in omega arith

pub binding_less : (f : TypeRefId → List ℕ) (n : Name) (a : Option GenericArgs) (dots : Bool) (t : Option TypeRefId) (bs : List TypeBound)
    → of_binding f (binding_of_parts n (or_notation a dots) t bs)
    ⊑ (of_present (of_args f) a ++ of_present f t) ++ of_each (of_bound f) bs
binding_less f n a dots t bs k =
    let e = ap (times k) (binding_roll f n (or_notation a dots) t bs) in
    let l = notation_less f a dots k in
    let x = times_append k (of_present (of_args f) (or_notation a dots)) (of_present f t ++ of_each (of_bound f) bs) in
    let y = times_append k (of_present f t) (of_each (of_bound f) bs) in
    let z = times_append k (of_present (of_args f) a ++ of_present f t) (of_each (of_bound f) bs) in
    let w = times_append k (of_present (of_args f) a) (of_present f t) in omega arith

pub path_bound_less : (f : TypeRefId → List ℕ) (maybe : Bool) (binder : Binder) (t : TypeRefId)
    → of_bound f (stored_path_bound maybe binder t) ⊑ f t
path_bound_less f maybe [] t k = omega arith
path_bound_less f maybe (n ∷ ns) t k = omega arith

-- what is read of a path

abbrev pub of_walk : (TypeRefId → List ℕ) → PathWalk → List ℕ
of_walk f w = of_present f w.type_anchor ++ of_lists f w.args

abbrev pub of_reading : (TypeRefId → List ℕ) → Reading → List ℕ
of_reading f Refused = []
of_reading f (Ended w) = of_walk f w
of_reading f (Open w) = of_walk f w

abbrev pub of_read : (TypeRefId → List ℕ) → Option Path → List ℕ
of_read f = of_present (of_path f)

pub named_less : (f : TypeRefId → List ℕ) (n : Name) (a : Option GenericArgs) (w : PathWalk)
    → of_walk f (add_name n a w) ⊑ of_walk f w ++ of_present (of_args f) a
named_less f n a w k =
    let t = of_present f w.type_anchor in
    let p = each_push (of_present (of_args f)) w.args a k in
    let x = times_append k t (of_lists f (w.args ++ a ∷ [])) in
    let y = times_append k t (of_lists f w.args) in
    let z = times_append k (of_walk f w) (of_present (of_args f) a) in omega arith

pub bare_less : (f : TypeRefId → List ℕ) (n : Name) (w : PathWalk) → of_walk f (add_name n None w) ⊑ of_walk f w
bare_less f n w k = let a = named_less f n None w k in let s = times_append k (of_walk f w) [] in omega arith

pub anchored_less : (f : TypeRefId → List ℕ) (t : TypeRefId) (w : PathWalk) → f t ++ of_lists f w.args ⊑ of_walk f w ++ f t
anchored_less f t w k =
    let x = times_append k (f t) (of_lists f w.args) in
    let y = times_append k (of_present f w.type_anchor) (of_lists f w.args) in
    let z = times_append k (of_walk f w) (f t) in omega arith

pub at_first_less : (f : TypeRefId → List ℕ) (leading : Bool) (w : PathWalk) → of_walk f (at_first leading w) ⊑ of_walk f w
at_first_less f leading w k = either (λ v. times k (of_walk f v) ≤ times k (of_walk f w)) leading (omega arith) (omega arith)

with_self_less : (f : TypeRefId → List ℕ) (t : TypeRefId) (as' : List (Option GenericArgs)) (k : ℕ)
    → times k (of_lists f (with_self t as')) ≤ times k (f t) + times k (of_lists f as')
with_self_less f t [] k =
    let e = self_first_is f t None k in
    let x = times_append k (of_args f (self_first t None)) [] in omega arith
with_self_less f t (a ∷ as') k =
    let e = self_first_is f t a k in
    let x = times_append k (of_args f (self_first t a)) (of_lists f as') in
    let y = times_append k (of_present (of_args f) a) (of_lists f as') in omega arith

none_beside : {A : Type 0} (f : TypeRefId → List ℕ) (xs : List A) (k : ℕ) → times k (of_lists f (map (λ x. None) xs)) ≡ 0
none_beside f [] k = refl
none_beside f (x ∷ xs) k = none_beside f xs k

args_of_less : (f : TypeRefId → List ℕ) (p : Path) (k : ℕ) → times k (of_lists f (args_of p)) ≤ times k (of_path f p)
args_of_less f (BarePath p) k = let e = none_beside f p.segments k in omega arith
args_of_less f (LangItem i) k = omega arith
args_of_less f (Normal p) k = let e = times_append k (of_present f p.type_anchor) (of_lists f p.generic_args) in omega arith

trait_less : (f : TypeRefId → List ℕ) (t : TypeRefId) (p : Path) (w : PathWalk)
    → of_walk f (add_trait t p w) ⊑ (of_walk f w ++ f t) ++ of_path f p
trait_less f t p w k =
    let as' = args_of p in
    let s = with_self_less f t (reverse as') k in
    let r = each_reverse (of_present (of_args f)) as' k in
    let l = args_of_less f p k in
    let p' = each_append (of_present (of_args f)) w.args (with_self t (reverse as')) k in
    let x = times_append k (of_present f w.type_anchor) (of_lists f (w.args ++ with_self t (reverse as'))) in
    let y = times_append k (of_present f w.type_anchor) (of_lists f w.args) in
    let z = times_append k (of_walk f w ++ f t) (of_path f p) in
    let v = times_append k (of_walk f w) (f t) in omega arith

pub projected_less : (f : TypeRefId → List ℕ) (t : TypeRefId) (p : Path) (w : PathWalk)
    → of_reading f (projected t p w) ⊑ (of_walk f w ++ f t) ++ of_path f p
projected_less f t p w k =
    either (λ r. times k (of_reading f r) ≤ times k ((of_walk f w ++ f t) ++ of_path f p)) (no_names (mod_path p).segments)
    (omega arith) (trait_less f t p w k)

without_self_less : (f : TypeRefId → List ℕ) (as' : List (Option GenericArgs)) (k : ℕ)
    → times k (of_lists f (without_last_self as')) ≤ times k (of_lists f as')
without_self_less f [] k = omega arith
without_self_less f (None ∷ as') k = omega arith
without_self_less f (Some a ∷ as') k =
    let x = times_append k (of_args f a) (of_lists f as') in
    either (λ o. times k (of_present (of_args f) o ++ of_lists f as') ≤ times k (of_lists f (Some a ∷ as'))) (has_self a)
    (omega arith) (omega arith)

finished_less : (f : TypeRefId → List ℕ) (w : PathWalk) → of_path f (finished w) ⊑ of_walk f w
finished_less f w k =
    let r = each_reverse (of_present (of_args f)) (without_last_self w.args) k in
    let s = without_self_less f w.args k in
    let x = times_append k (of_present f w.type_anchor) (of_lists f (reverse (without_last_self w.args))) in
    let y = times_append k (of_present f w.type_anchor) (of_lists f w.args) in
    either (λ p. times k (of_path f p) ≤ times k (of_walk f w)) (is_none w.type_anchor && not w.found_args) (omega arith) (omega arith)

pub path_read_less : (f : TypeRefId → List ℕ) (r : Reading) → of_read f (path_read r) ⊑ of_reading f r
path_read_less f Refused k = omega arith
path_read_less f (Ended w) k = finished_less f w k
path_read_less f (Open w) k = finished_less f w k
