-- From a stored expression that sees what the written one does to its parts.
use Rattle.std.proofs.Common.{◌≡◌, ◌∙◌, refl, sym, ap, subst, inl, inr, ◌⊎◌, ◌<◌, List, [], ◌∷◌, ◌++◌, append_assoc, append-nil}
use Rattle.std.proofs.Common.{Option, Some, None, option_to_list, slice_get}
use Rattle.std.specs.List.{flat_map}
use Rattle.hir_store.specs.Stored.{Store, SourceMap}
use Rattle.hir_store.specs.declared.hir.Expr.{Expr as StoredExpr}
use Rattle.hir_store.specs.declared.ids.BindingId.{BindingId}
use Rattle.hir_store.specs.declared.ids.BlockId.{BlockId}
use Rattle.hir_store.specs.declared.ids.ExprId.{ExprId}
use Rattle.hir_env.specs.ResolvedTree as tree
use Rattle.hir_env.specs.ResolvedTree.{Expr, OptionExpr}
use Rattle.spec_data.specs.Tops.{Tops}
use Rattle.spec_scopes.specs.Placed.{Among, Placed, Sees, Spot, after, after_each, after_form, after_part, block_items, in_scope, inside}
use Rattle.spec_scopes.specs.Placed.{past}
use Rattle.spec_scopes.specs.Placed.{placed, placed_each, placed_option, plain_parts}
use Rattle.spec_scopes.specs.Scopes.{Scopes, binding_scope}
use Rattle.spec_scoping.specs.Bound.{InScope, with_each}
use Rattle.spec_scoping.specs.Scoping.{Standing, Where, behind, behind_part, in_turn, lets, lets_of_part, naming, part}
use Rattle.thm_body_result.specs.Corresponds.{Corresponds, CorrespondsPart, Open}
use Rattle.thm_body_result.specs.Leads.{Mapping}
use Rattle.thm_scoping.specs.Agree.{BindNothing, SeesSame}
use Rattle.thm_scoping.specs.Meant.{SameAt, SameNames}
use Rattle.thm_scoping.proofs.Orderly.{Orderly}
use Rattle.thm_scoping.proofs.Afters.{after_is, part_is, part_passed}
use Rattle.thm_scoping.proofs.Behind.{behind_same}
use Rattle.thm_scoping.proofs.Operands.{EachBehind, Lined, Plain, Same, each_behind, ended, passed, stood}

pub among_left : (c : ExprId) (y : Spot) (l m : Placed) → Among c y l → Among c y (l ++ m)
among_left c y [] m h = absurd h
among_left c y (p ∷ l) m (inl e) = inl e
among_left c y (p ∷ l) m (inr h) = inr (among_left c y l m h)

pub among_right : (c : ExprId) (y : Spot) (l m : Placed) → Among c y m → Among c y (l ++ m)
among_right c y [] m h = h
among_right c y (p ∷ l) m h = inr (among_right c y l m h)

pub among_both : (c : ExprId) (y : Spot) (l m : Placed) → Among c y (l ++ m) → Among c y l ⊎ Among c y m
among_both c y [] m h = inr h
among_both c y (p ∷ l) m (inl e) = inl (inl e)
among_both c y (p ∷ l) m (inr h) = further (among_both c y l m h)
  where
    further : Among c y l ⊎ Among c y m → Among c y (p ∷ l) ⊎ Among c y m
    further (inl k) = inl (inr k)
    further (inr k) = inr k

pub in_turn_part : (c : OptionExpr) (fs : List Expr) (w : Where) → in_turn (part c ++ fs) w ≡ in_turn (part c) w ++ in_turn fs
    (behind_part c w)
in_turn_part tree.no_expr fs w = refl
in_turn_part (tree.some_expr e) fs w = refl

module _ (store : Store) (source_map : SourceMap) (self : Option BindingId) (o : Orderly store) where
  pub all_behind : (es : List Expr) → EachBehind store source_map self es
  all_behind [] = tt
  all_behind (e ∷ es) = (behind_same store source_map self o e, all_behind es)

  pub line_same : (p : ExprId) (is : List ExprId) (es : List Expr) (ps : Tops) (ss : Scopes) (ns : InScope)
      → Lined store source_map self p.0 is es → flat_map lets es ≡ ps → Same store source_map self ss ns
      → Same store source_map self (after_each store (after_part store p) is ss) (with_each ps ns)
  line_same p is es ps ss ns lined same h =
      subst (λ l. Same store source_map self (after_each store (after_part store p) is ss) (with_each l ns)) same
      (each_behind store source_map self p is es ss ns lined (all_behind es) h)

  pub items_same : (id : Option BlockId) (ss : Scopes) (ns : InScope) → Same store source_map self ss ns
      → Same store source_map self (block_items id ss) ns
  items_same None ss ns h = h
  items_same (Some id) ss ns h = h

  -- what binds nothing in line
  pub nothing_behind : (p : ExprId) (is : List ExprId) (ss : Scopes) → BindNothing store is → after_each store
      (after_part store p) is ss ≡ ss
  nothing_behind p [] ss h = refl
  nothing_behind p (i ∷ is) ss h = nothing_behind p is (after_part store p i ss) h.1 ∙ part_passed store p i ss (h.0 ss)

  pub binds_nothing : (i : ExprId) (f : StoredExpr) (is : List ExprId) → slice_get store.exprs i.0 ≡ Some f
      → ((g : ExprId → Scopes → Scopes) (ss : Scopes) → after_form store g f ss ≡ after_each store g is ss) → BindNothing store is
      → (ss : Scopes) → after store i ss ≡ ss
  binds_nothing i f is found after_it h ss = after_is store i f found ss ∙ (after_it (after_part store i) ss ∙ nothing_behind i is ss h)

  pub placed_option_is : (g : ExprId → Scopes → Scopes) (e : Option ExprId) (x : Spot)
      → placed_option store g e x ≡ placed_each store g (option_to_list e) x
  placed_option_is g None x = refl
  placed_option_is g (Some e) x = refl

  module _ (root : ExprId) (start : Spot) where
    abbrev pub See : Expr → Where → Type 0
    See e w = SeesSame store source_map self root start e w

    -- a stored expression that stands where just this is in scope
    pub record At (i : ExprId) (w : Where) : Type 0 where
      pub spot : Spot
      pub sees : Sees store root start i spot
      pub same : SameAt store source_map self spot w

    abbrev pub AllSee : List Standing → Type 0
    AllSee [] = Unit {0}
    AllSee (s ∷ ss) = See s.0 s.1 × AllSee ss

    pub all-append : (as' bs : List Standing) → AllSee as' → AllSee bs → AllSee (as' ++ bs)
    all-append [] bs p q = q
    all-append (a ∷ as') bs p q = (p.0, all-append as' bs p.1 q)

    pub arrive : (rs : Open) (e : Expr) (i : ExprId) (ms : List Mapping) (w : Where) → Corresponds store source_map rs e i ms → At i w
        → See e w
    arrive rs e i ms w h a =
        record { id = i; around = rs; mappings = ms; corresponds = h; spot = a.spot; sees = a.sees; same = a.same }

    pub part_see : (rs : Open) (e : OptionExpr) (i : ExprId) (ms : List Mapping) (w : Where) → CorrespondsPart store source_map rs e i ms
        → At i w → AllSee (in_turn (part e) w)
    part_see rs tree.no_expr i ms w h a = tt
    part_see rs (tree.some_expr e) i ms w h a = (arrive rs e i ms w h a, tt)

    -- Those of these that are before the whole stand there.
    abbrev pub Inside : ExprId → Placed → Type 0
    Inside p l = (c : ExprId) (y : Spot) → c.0 < p.0 → Among c y l → Sees store root start c y

    pub step : (i : ExprId) (f : StoredExpr) (w : Where) (a : At i w) → slice_get store.exprs i.0 ≡ Some f
        → Inside i (placed store (after_part store i) f a.spot)
    step i f w a found c y less among = inside f a.sees found among less

    pub enter : (i c : ExprId) (f : StoredExpr) (w v : Where) (a : At i w) → slice_get store.exprs i.0 ≡ Some f → c.0 < i.0 → (y : Spot)
        → Among c y (placed store (after_part store i) f a.spot) → SameAt store source_map self y v → At c v
    enter i c f w v a found less y among same = record { spot = y; sees = inside f a.sees found among less; same = same }

    -- operands in line
    pub line_see : (p : ExprId) (is : List ExprId) (es : List Expr) (x : Spot) (w : Where) → Lined store source_map self p.0 is es
        → Inside p (placed_each store (after_part store p) is x) → SameAt store source_map self x w → AllSee (in_turn es w)
    line_see p is es x w ended ins same = tt
    line_see p is es x w (stood {i = i} {is = js} {e = e} {es = fs} less rs ms c rest) ins same = (
      arrive rs e i ms w c (record { spot = x; sees = ins i x less (inl refl); same = same }),
      line_see p js fs (past store (after_part store p) i x) (behind e w) rest (λ d y lower among. ins d y lower (inr among))
          (record {
            names = subst (λ ts. Same store source_map self ts (with_each (lets e) w.names)) (sym (part_is store p i x.names less))
                (behind_same store source_map self o e rs i ms x.names w.names c same.names);
            items = same.items;
          }),
    )
    line_see p is es x w (passed {i = i} {is = js} nothing rest) ins same =
        line_see p js es (past store (after_part store p) i x) w rest (λ d y lower among. ins d y lower (inr among))
        (record {
          names = subst (λ ts. Same store source_map self ts w.names) (sym (part_passed store p i x.names (nothing x.names))) same.names;
          items = same.items;
        })

    pub plain_see : (i : ExprId) (es : List Expr) (w : Where) → Plain store source_map self i es → At i w → AllSee (in_turn es w)
    plain_see i es w p a = line_see i (plain_parts store p.form) es a.spot w p.lined
        (λ c y less among. step i p.form w a p.found c y less
        (subst (λ l. Among c y l) (sym (p.in_it (after_part store i) a.spot)) among))
        a.same

    -- all the same, inside a scope without names
    pub within_empty : (x : Spot) (w : Where) → SameAt store source_map self x w
        → SameAt store source_map self (in_scope x (binding_scope [] ∷ x.names)) w
    within_empty x w same = record { names = same.names; items = same.items }
