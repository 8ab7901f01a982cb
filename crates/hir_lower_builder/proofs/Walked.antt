-- What a walk names after each of its steps exists.
use Rattle.std.proofs.Common.{arith, ◌≡◌, refl, ap, sym, subst, Bool, true, false, not, ◌&&◌, List, [], ◌∷◌, ◌++◌, Option, Some, None}
use Rattle.std.specs.Prelude.{map, reverse, is_none, if◌then◌else◌, option_map}
use Rattle.hir_store.specs.declared.path.PathKind.{PathKind}
use Rattle.std.proofs.lemmas.List.{reverse-append}
use Rattle.hir_store.specs.Stored.{Stored}
use Rattle.hir_store.specs.Range.{Has, HasType, HasArgsOption, HasPath, HasPathOption}
use Rattle.hir_store.specs.Generics.{self_first}
use Rattle.hir_store.specs.Past.{Past, nothing, join, past_each, past_arg_lists, past_generic, past_present, past_type_id}
use Rattle.hir_store.proofs.Past.{self_alone_past, self_before_past}
use Rattle.hir_store.specs.declared.ids.TypeRefId.{TypeRefId}
use Rattle.hir_store.specs.declared.path.GenericArgs.{GenericArgs}
use Rattle.hir_store.specs.declared.path.Path.{Path}
use Rattle.hir_store.specs.declared.path.Path.TheVariants.{BarePath, Normal, LangItem}
use Rattle.hir_lower_builder.specs.Methods.{HasWalk, HasReading}
use Rattle.hir_lower_builder.specs.Walks.{with_self, args_of, without_last_self, has_self, finished, path_read, own_path}
use Rattle.hir_lower_builder.specs.Walks.{normal_path, self_read, super_read, self_kind, anchored, projected}
use Rattle.hir_lower_builder.specs.Walks.{add_trait, no_names, mod_path, one_more_super}
use Rattle.hir_lower_builder.specs.declared.walk.PathWalk.{PathWalk}
use Rattle.hir_lower_builder.specs.declared.walk.Reading.{Reading}
use Rattle.hir_lower_builder.specs.declared.walk.Reading.TheVariants.{Refused, Ended, Open}

-- lists of arguments

pub no_args_push : {A B : Type 0} (done : List (Option B)) (xs : List A)
    → (done ++ None ∷ []) ++ map (λ x. None) xs ≡ done ++ None ∷ map (λ x. None) xs
no_args_push [] xs = refl
no_args_push (d ∷ done) xs = λ j. d ∷ no_args_push done xs j

pub with_self_last : (t : TypeRefId) (xs : List (Option GenericArgs)) (a : Option GenericArgs)
    → with_self t (reverse (xs ++ a ∷ [])) ≡ Some (self_first t a) ∷ reverse xs
with_self_last t xs a = ap (with_self t) (reverse-append xs (a ∷ []))

-- joined

has_join : (s : Stored) (p q : Past) → Has s p → Has s q → Has s (join p q)
has_join s p q h k = (omega (arith, h.0, k.0), omega (arith, h.1, k.1), omega (arith, h.2, k.2), omega (arith, h.3, k.3))

join_left : (s : Stored) (p q : Past) → Has s (join p q) → Has s p
join_left s p q h = (omega (arith, h.0), omega (arith, h.1), omega (arith, h.2), omega (arith, h.3))

join_right : (s : Stored) (p q : Past) → Has s (join p q) → Has s q
join_right s p q h = (omega (arith, h.0), omega (arith, h.1), omega (arith, h.2), omega (arith, h.3))

has_nothing : (s : Stored) → Has s nothing
has_nothing s = (omega arith, omega arith, omega arith, omega arith)

module _ {A : Type 0} (s : Stored) (past : A → Past) where
  each_append : (xs ys : List A) → Has s (past_each past xs) → Has s (past_each past ys) → Has s (past_each past (xs ++ ys))
  each_append [] ys h k = k
  each_append (x ∷ xs) ys h k =
      let rest = each_append xs ys (join_right s (past x) (past_each past xs) h) k in
      has_join s (past x) (past_each past (xs ++ ys)) (join_left s (past x) (past_each past xs) h) rest

  each_reverse : (xs : List A) → Has s (past_each past xs) → Has s (past_each past (reverse xs))
  each_reverse [] h = h
  each_reverse (x ∷ xs) h =
      let one = has_join s (past x) nothing (join_left s (past x) (past_each past xs) h) (has_nothing s) in
      let rest = each_reverse xs (join_right s (past x) (past_each past xs) h) in
      subst (λ ys. Has s (past_each past ys)) (sym (reverse-append (x ∷ []) xs)) (each_append (reverse xs) (x ∷ []) rest one)

-- beside the names of a path

module _ (s : Stored) where
  abbrev Lists : List (Option GenericArgs) → Type 0
  Lists as' = Has s (past_arg_lists as')

  absent_lists : {A : Type 0} (xs : List A) → Lists (map (λ x. None) xs)
  absent_lists [] = has_nothing s
  absent_lists (x ∷ xs) = has_join s nothing (past_arg_lists (map (λ x. None) xs)) (has_nothing s) (absent_lists xs)

  lists_of : (p : Path) → HasPath s p → Lists (args_of p)
  lists_of (BarePath p) h = absent_lists p.segments
  lists_of (Normal p) h = join_right s (past_present past_type_id p.type_anchor) (past_arg_lists p.generic_args) h
  lists_of (LangItem item) h = has_nothing s

  has_self_first : (t : TypeRefId) (a : Option GenericArgs) → Has s (past_type_id t) → HasArgsOption s a
      → Has s (past_generic (self_first t a))
  has_self_first t None h k = subst (Has s) (sym (self_alone_past t)) (has_join s (past_type_id t) nothing h k)
  has_self_first t (Some a) h k = subst (Has s) (sym (self_before_past t a)) (has_join s (past_type_id t) (past_generic a) h k)

  lists_with_self : (t : TypeRefId) (as' : List (Option GenericArgs)) → Has s (past_type_id t) → Lists as' → Lists (with_self t as')
  lists_with_self t [] h k = has_join s (past_generic (self_first t None)) nothing (has_self_first t None h (has_nothing s)) k
  lists_with_self t (a ∷ as') h k =
      let rest = past_arg_lists as' in
      let one = has_self_first t a h (join_left s (past_present past_generic a) rest k) in
      has_join s (past_generic (self_first t a)) rest one (join_right s (past_present past_generic a) rest k)

  lists_without_last : (as' : List (Option GenericArgs)) → Lists as' → Lists (without_last_self as')
  lists_without_last [] h = h
  lists_without_last (None ∷ as') h = h
  lists_without_last (Some a ∷ as') h = by (has_self a)
    where
      by : (b : Bool) → Lists ((if b then None else Some a) ∷ as')
      by true = has_join s nothing (past_arg_lists as') (has_nothing s) (join_right s (past_generic a) (past_arg_lists as') h)
      by false = h

  -- the steps of a walk

  abbrev IfRead : Option Reading → Type 0
  IfRead None = Unit {0}
  IfRead (Some r) = HasReading s r

  pub self_has : (w : PathWalk) → HasWalk s w → HasReading s (self_read w)
  self_has w h = by (no_names w.names)
    where
      by : (b : Bool) → HasReading s (if b then Open w else Ended (record w { kind = self_kind w.kind }))
      by true = h
      by false = h

  pub super_has : (w : PathWalk) (r : Reading) → super_read w ≡ Some r → HasWalk s w → HasReading s r
  super_has w r e h = by (one_more_super w.kind) e
    where
      by : (k : Option PathKind) → option_map (λ k. Open (record w { kind = k })) k ≡ Some r → HasReading s r
      by (Some k) e = subst IfRead e h
      by None e = cc

  pub anchored_has : (t : TypeRefId) (w : PathWalk) → HasWalk s w → HasType s t → HasReading s (anchored t w)
  anchored_has t w h k =
      let old = past_present past_type_id w.type_anchor in
      has_join s (past_type_id t) (past_arg_lists w.args) (omega arith, k, omega arith, omega arith)
      (join_right s old (past_arg_lists w.args) h)

  pub projected_has : (t : TypeRefId) (p : Path) (w : PathWalk) → HasWalk s w → HasType s t → HasPath s p → HasReading s (projected t p w)
  projected_has t p w h k m = by (no_names (mod_path p).segments)
    where
      opened : HasReading s (Open (add_trait t p w))
      opened =
          let anchor = past_present past_type_id w.type_anchor in
          let turned = each_reverse s (past_present past_generic) (args_of p) (lists_of p m) in
          let own = lists_with_self t (reverse (args_of p)) (omega arith, k, omega arith, omega arith) turned in
          let old = join_right s anchor (past_arg_lists w.args) h in
          let both = w.args ++ with_self t (reverse (args_of p)) in
          let all = each_append s (past_present past_generic) w.args (with_self t (reverse (args_of p))) old own in
          has_join s anchor (past_arg_lists both) (join_left s anchor (past_arg_lists w.args) h) all

      by : (b : Bool) → HasReading s (if b then Refused else Open (add_trait t p w))
      by true = has_nothing s
      by false = opened

  finished_has : (w : PathWalk) → HasWalk s w → HasPath s (finished w)
  finished_has w h = by (is_none w.type_anchor && not w.found_args)
    where
      by : (b : Bool) → HasPath s (if b then BarePath (own_path w) else Normal (normal_path w))
      by true = has_nothing s
      by false =
          let anchor = past_present past_type_id w.type_anchor in
          let lists = lists_without_last w.args (join_right s anchor (past_arg_lists w.args) h) in
          let turned = each_reverse s (past_present past_generic) (without_last_self w.args) lists in
          has_join s anchor (past_arg_lists (reverse (without_last_self w.args))) (join_left s anchor (past_arg_lists w.args) h) turned

  pub path_read_has : (r : Reading) → HasReading s r → HasPathOption s (path_read r)
  path_read_has Refused h = h
  path_read_has (Ended w) h = finished_has w h
  path_read_has (Open w) h = finished_has w h
