-- What an expression is as something that is assigned to, as rules: one for each kind that may be more than a place.
use Rattle.std.specs.Prelude.{◌≡◌, ◌↔◌, Bool, true, false, Option, Some, None}
use Rattle.hir_store.specs.Pointers.{Pointer}
use Rattle.hir_env.specs.Answers.{Answers}
use Rattle.hir_env.specs.PathNames.{mod_path_of}
use Rattle.hir_env.specs.Targets.{pointer_of, resolves, target_of}
use Rattle.hir_env.specs.ResolvedTree as tree
use Rattle.hir_env.specs.ResolvedTree.{Called, Expr, Exprs, Field, Fields, OptionExpr, OptionPath, Origin, Path, RecordHead, Spread}
use Rattle.hir_env.specs.ResolvedTree.{Target, TargetField, TargetFields, Targets}
use Rattle.hir_env.specs.declared.ctx.LowerCtx.{LowerCtx}
use Rattle.hir_env.specs.declared.resolved.Resolution.{Resolution}
use Rattle.hir_env.specs.declared.resolved.Resolution.TheVariants as resolution
use Rattle.hir_env.specs.declared.resolved.Resolved.{Resolved}
use Rattle.hir_env.specs.declared.resolved.BuiltinShadowMode.TheVariants as shadow

-- where a part comes from

-- its node, and the outermost call, where it is an element that comes out of calls
abbrev pub from : Pointer → Option Pointer → Origin
from s c = record { node = s; call = c }

-- one of both: the outermost call, where there is one
pub data ComesFrom : Option Pointer → Pointer → Pointer → Type 0 where
  its_node : {s : _} → ComesFrom None s s
  its_call : {c s : _} → ComesFrom (Some c) s c

-- the expression as it stands
pub data PlaceAs : Option Pointer → Expr → Target → Type 0 where
  a_place : {c e s : _} → ComesFrom c (pointer_of e) s → PlaceAs c e (tree.place_target s e)

-- two dots and callees, whose conditions aren't asked about

-- a range without start and end
pub data IsDots : Expr → Type 0 where
  two_dots : {s f : _} → IsDots (tree.range_expr s f tree.no_expr tree.no_expr)
  disabled_dots : {why e : _} → IsDots e → IsDots (tree.disabled_expr why e)

-- the same, itself or what a call stands for
pub data ComesToDots : Expr → Type 0 where
  own_dots : {s f : _} → ComesToDots (tree.range_expr s f tree.no_expr tree.no_expr)
  behind_a_condition : {why e : _} → ComesToDots e → ComesToDots (tree.disabled_expr why e)
  behind_a_call : {s y e : _} → ComesToDots e → ComesToDots (tree.macro_expr s y (tree.some_expr e))

-- in front of these, behind the calls that they come out of
pub data DotsAs : Expr → Targets → Targets → Type 0 where
  these_dots : {s f ts : _} → DotsAs (tree.range_expr s f tree.no_expr tree.no_expr) ts ts
  dots_of_disabled : {why e ts us : _} → DotsAs e ts us → DotsAs (tree.disabled_expr why e) ts us
  dots_of_a_call : {s y e ts us : _} → DotsAs e ts us → DotsAs (tree.macro_expr s y (tree.some_expr e)) ts (tree.tracked_targets y us)

-- a path, itself or what a call stands for
pub data ComesToPath : Expr → Type 0 where
  own_path : {s x h : _} → ComesToPath (tree.path_expr s x h)
  path_of_disabled : {why e : _} → ComesToPath e → ComesToPath (tree.disabled_expr why e)
  path_of_a_call : {s y e : _} → ComesToPath e → ComesToPath (tree.macro_expr s y (tree.some_expr e))

-- a callee with its path, and what is called behind the calls that the path comes out of, which lead nowhere
pub data CalleeAs : Expr → OptionPath → Target → Target → Type 0 where
  this_path : {s x h t : _} → CalleeAs (tree.path_expr s x h) x t t
  disabled_callee : {why e x t u : _} → CalleeAs e x t u → CalleeAs (tree.disabled_expr why e) x t u
  called_callee : {s y e x t u : _} → CalleeAs e x t u
      → CalleeAs (tree.macro_expr s y (tree.some_expr e)) x t (tree.macro_target None y u)

-- what is disabled

-- a call that stands for what is disabled
abbrev pub is_gone_call : Expr → Bool
is_gone_call (tree.macro_expr s y (tree.some_expr (tree.disabled_expr why e))) = true
is_gone_call _ = false

-- with what it is as a place: that, except for such a call, which is what it stands for
pub data GoneAs : Option Pointer → Expr → Expr → Target → Type 0 where
  gone_place : {c w e t : _} → is_gone_call e ≡ false → PlaceAs c w t → GoneAs c w e t
  gone_call : {c w s y why e t : _} → GoneAs c (tree.disabled_expr why e) e t
      → GoneAs c w (tree.macro_expr s y (tree.some_expr (tree.disabled_expr why e))) (tree.macro_target (Some s) y t)

-- calls

abbrev pub is_lacking : Called → Bool
is_lacking tree.callless = true
is_lacking _ = false

-- where one that is an element leads: nowhere, except for one that the text lacks, which leads to what is missing
pub data LeadsAs : Called → Pointer → Option Pointer → Type 0 where
  lacking_leads : {s : _} → LeadsAs tree.callless s (Some s)
  leads_nowhere : {y s : _} → is_lacking y ≡ false → LeadsAs y s None

-- one that a condition disables, too
abbrev pub is_call : Expr → Bool
is_call (tree.disabled_expr why e) = is_call e
is_call (tree.macro_expr s y e) = true
is_call _ = false

-- records

-- the node of the expression behind the fields
pub data SpreadAs : Spread → Option Pointer → Type 0 where
  no_spread : SpreadAs tree.no_spread None
  only_dots : SpreadAs tree.field_defaults None
  from_another : {e : _} → SpreadAs (tree.spread_of e) (Some (pointer_of e))

-- paths

-- what is no place
pub data IsPattern : Option Resolution → Type 0 where
  a_constant : IsPattern (Some resolution.Const)
  a_variant : IsPattern (Some resolution.Variant)
  a_struct : IsPattern (Some resolution.Struct)
  a_union : IsPattern (Some resolution.Union)
  an_enum : IsPattern (Some resolution.Enum)

-- as a value; of a path that is found in part all that matters is that a type is found
pub data CorrespondsToPattern : Resolved → Type 0 where
  in_full : {r : Resolved} → r.rest ≡ None → IsPattern r.values → CorrespondsToPattern r
  in_part : {r : Resolved} {n t : _} → r.rest ≡ Some n → r.types ≡ Some t → CorrespondsToPattern r

-- targets

-- the kinds that may be more than a place
abbrev pub may_be_more : Expr → Bool
may_be_more (tree.disabled_expr why e) = true
may_be_more (tree.leaf_expr s tree.underscore) = true
may_be_more (tree.paren_expr s e) = true
may_be_more (tree.macro_expr s y e) = true
may_be_more (tree.list_expr s form es) = true
may_be_more (tree.call_expr s f has_list es) = true
may_be_more (tree.path_expr s x h) = true
may_be_more (tree.record_expr s x head fs d) = true
may_be_more _ = false

module _ (env : Answers) (p : LowerCtx) where
  -- its names are asked for in the module of the place, with locals first
  pub data PathIsPattern : Path → Type 0 where
    names_pattern : {x m : _} → mod_path_of (tree.some_path x) ≡ Some m → CorrespondsToPattern (env.resolve p.module_id m shadow.Local)
        → PathIsPattern x

  mutual
    -- With the outermost call that it comes out of, where it is an element; with the parentheses around it, as it is where it is a place;
    -- and itself.
    pub data TargetAs : Option Pointer → Expr → Expr → Target → Type 0 where
      disabled : {c w why e t : _} → GoneAs c w e t → TargetAs c w (tree.disabled_expr why e) t
      ignored : {c w s : _} → TargetAs c w (tree.leaf_expr s tree.underscore) (tree.wild_target (from s c))
      -- parentheses are what stands in them, and around two dots a tuple
      empty_parens : {c w s t : _} → PlaceAs c w t → TargetAs c w (tree.paren_expr s tree.no_expr) t
      dots_in_parens : {c w s e : _} → IsDots e
          → TargetAs c w (tree.paren_expr s (tree.some_expr e)) (tree.tuple_target (from s c) (tree.dots_targets tree.no_targets))
      in_parens : {c w s e t : _} → (IsDots e → ⊥) → TargetAs c w e t → TargetAs c w (tree.paren_expr s (tree.some_expr e)) t
      -- a call is what it stands for, and its node leads there
      called : {c w s y e t : _} → OptTargetAs c e t → TargetAs c w (tree.macro_expr s y e) (tree.macro_target (Some s) y t)
      tuple : {c w s comma es ts : _} → ElementsAs es ts
          → TargetAs c w (tree.list_expr s (tree.tuple_of comma) es) (tree.tuple_target (from s c) ts)
      array : {c w s es ts n us : _} → ArrayAs es ts n us
          → TargetAs c w (tree.list_expr s tree.array_of es) (tree.array_target (from s c) ts n us)
      call_of_a_path : {c w s f x es ts t : _} → ElementsAs es ts → CalleeAs f x (tree.call_target (from s c) x ts) t
          → TargetAs c w (tree.call_expr s (tree.some_expr f) true es) t
      call_of_another : {c w s f es t : _} → (ComesToPath f → ⊥) → PlaceAs c w t
          → TargetAs c w (tree.call_expr s (tree.some_expr f) true es) t
      call_of_nothing : {c w s es t : _} → PlaceAs c w t → TargetAs c w (tree.call_expr s tree.no_expr true es) t
      call_without_list : {c w s f es t : _} → PlaceAs c w t → TargetAs c w (tree.call_expr s f false es) t
      path_of_pattern : {c w s x h : _} → PathIsPattern x
          → TargetAs c w (tree.path_expr s (tree.some_path x) h) (tree.path_target (from s c) x h)
      path_of_place : {c w s x h t : _} → (PathIsPattern x → ⊥) → PlaceAs c w t
          → TargetAs c w (tree.path_expr s (tree.some_path x) h) t
      no_path : {c w s h t : _} → PlaceAs c w t → TargetAs c w (tree.path_expr s tree.no_path h) t
      record_with_list : {c w s x : _} {head : RecordHead} {fs us d n : _} → head.has_list ≡ true → FieldsAs fs us → SpreadAs d n
          → TargetAs c w (tree.record_expr s x head fs d) (tree.record_target (from s c) x us head.has_dots n)
      record_without_list : {c w s x : _} {head : RecordHead} {fs d t : _} → head.has_list ≡ false → PlaceAs c w t
          → TargetAs c w (tree.record_expr s x head fs d) t
      any_other : {c w e t : _} → may_be_more e ≡ false → PlaceAs c w t → TargetAs c w e t

    -- what is absent is missing at the outermost call, if it comes out of calls
    pub data OptTargetAs : Option Pointer → OptionExpr → Target → Type 0 where
      no_target : {c : _} → OptTargetAs c tree.no_expr (tree.absent_target c)
      some_target : {c e t : _} → TargetAs c e e t → OptTargetAs c (tree.some_expr e) t

    -- an element of a tuple or a call, or in front of the two dots of an array
    pub data ElementAs : Option Pointer → Expr → Target → Type 0 where
      other_element : {c e t : _} → is_call e ≡ false → TargetAs c e e t → ElementAs c e t
      -- a condition of a call isn't asked about
      disabled_call : {c why e t : _} → is_call e ≡ true → ElementAs c e t → ElementAs c (tree.disabled_expr why e) t
      call_element : {c s y e n d t : _} → LeadsAs y s n → ComesFrom c s d → OptElementAs d e t
          → ElementAs c (tree.macro_expr s y e) (tree.macro_target n y t)

    -- what such a call stands for, with the outermost one
    pub data OptElementAs : Pointer → OptionExpr → Target → Type 0 where
      no_element : {d : _} → OptElementAs d tree.no_expr (tree.absent_target (Some d))
      some_element : {d e t : _} → ElementAs (Some d) e t → OptElementAs d (tree.some_expr e) t

    -- of a tuple or a call
    pub data ElementsAs : Exprs → Targets → Type 0 where
      no_elements : ElementsAs tree.no_exprs tree.no_targets
      dots_element : {e es ts us : _} → ElementsAs es ts → DotsAs e (tree.dots_targets ts) us → ElementsAs (tree.more_exprs e es) us
      more_elements : {e es t ts : _} → (ComesToDots e → ⊥) → ElementAs None e t → ElementsAs es ts
          → ElementsAs (tree.more_exprs e es) (tree.more_targets t ts)

    -- of an array: in front of its first two dots, with the calls that these come out of; their node; and behind them
    pub data ArrayAs : Exprs → Targets → Option Pointer → Targets → Type 0 where
      without_dots : ArrayAs tree.no_exprs tree.no_targets None tree.no_targets
      at_dots : {e es us vs : _} → DotsAs e tree.no_targets us → EachAs es vs → ArrayAs (tree.more_exprs e es) us (Some (pointer_of e)) vs
      before_dots : {e es t ts n vs : _} → (ComesToDots e → ⊥) → ElementAs None e t → ArrayAs es ts n vs
          → ArrayAs (tree.more_exprs e es) (tree.more_targets t ts) n vs

    -- each as it is where it stands alone
    pub data EachAs : Exprs → Targets → Type 0 where
      no_more : EachAs tree.no_exprs tree.no_targets
      each : {e es t ts : _} → TargetAs None e e t → EachAs es ts → EachAs (tree.more_exprs e es) (tree.more_targets t ts)

    pub data FieldsAs : Fields → TargetFields → Type 0 where
      no_fields : FieldsAs tree.no_fields tree.no_target_fields
      more_fields : {f fs t ts : _} → FieldAs f t → FieldsAs fs ts → FieldsAs (tree.more_fields f fs) (tree.more_target_fields t ts)

    pub data FieldAs : Field → TargetField → Type 0 where
      disabled_field : {s by f : _} → FieldAs (tree.disabled_field s by f) (tree.disabled_target_field s by)
      nameless_partless : {s : _} → FieldAs (tree.nameless_field s tree.no_expr) tree.partless_target_field
      nameless : {s e t : _} → TargetAs None e e t → FieldAs (tree.nameless_field s (tree.some_expr e)) (tree.target_field s None t)
      named_partless : {s n : _} → FieldAs (tree.named_field s n tree.no_expr) tree.partless_target_field
      named : {s n e t : _} → TargetAs None e e t → FieldAs (tree.named_field s n (tree.some_expr e)) (tree.target_field s (Some n) t)

-- the theorem: of each expression, wherever it stands

abbrev pub TargetsDecided : Type 0
TargetsDecided = (env : Answers) (p : LowerCtx) (e : OptionExpr) (t : Target)
    → (target_of (resolves env p) e ≡ t) ↔ OptTargetAs env p None e t
