-- Worked paths.
use Rattle.std.specs.Prelude.{◌≡◌, ℕ, codes, false, true, Option, List, [], ◌∷◌, Some, None}
use Rattle.hir_store.specs.Pointers.{Pointer}
use Rattle.hir_store.specs.declared.ids.CrateId.{CrateId}
use Rattle.hir_store.specs.declared.name.Name.{Name}
use Rattle.hir_store.specs.declared.name.Name.TheVariants as name
use Rattle.hir_store.specs.declared.path.PathKind.{PathKind}
use Rattle.hir_store.specs.declared.path.PathKind.TheVariants as kind
use Rattle.hir_store.specs.declared.path.GenericArgsParentheses.TheVariants as parens
use Rattle.hir_store.specs.declared.type_ref.TraitBoundModifier.TheVariants as modifier
use Rattle.hir_env.specs.ResolvedTree as tree
use Rattle.hir_env.specs.ResolvedTree.{Binder, FnHead, Lifetime, Type_, OptionArgs, OptionParens, OptionPath, OptionRet, Segments, Segment}
use Rattle.hir_env.specs.ResolvedTree.{Called, Gone, OptionExpr, OptionPat, RecordHead, Fields, Spread}
use Rattle.hir_env.specs.NodeMap.{Site}
use Rattle.hir_env.specs.ResolveCtx.{site_of}
use Rattle.hir_store.specs.declared.ids.HygieneId.{HygieneId}
use Rattle.spec_data.specs.Data as datum
use Rattle.spec_data.specs.Data.{TypeData, NamesData, OptionArgsData, path_data}
use Rattle.spec_data.specs.Patterns.{written_pat, written_uses}
use Rattle.spec_data.specs.Written.{binding_of, bound_data, lifetime_data, list_data, segment_args_data, type_data, unit_data}
use Rattle.spec_data.specs.Written.{written_path}

abbrev pub behind : List Segment → Segments
behind [] = tree.no_segments
behind (s ∷ ss) = tree.more_segments s (behind ss)

abbrev pub whole : Segment → List Segment → OptionPath
whole s ss = tree.some_path (tree.path None false s (behind ss) tree.no_path)

-- the same behind a `::`
abbrev pub leading : Segment → List Segment → OptionPath
leading s ss = tree.some_path (tree.path None true s (behind ss) tree.no_path)

-- in the list of a use tree with this path
abbrev pub inside : OptionPath → Segment → List Segment → OptionPath
inside around s ss = tree.some_path (tree.path None false s (behind ss) around)

abbrev pub text : List ℕ → Name
text t = name.Text t

abbrev pub word : List ℕ → Segment
word t = tree.name_segment (text t) tt (tree.segment_args tree.no_arg_list tree.no_parens false)

abbrev pub alone : List Name → NamesData
alone [] = datum.no_names
alone (n ∷ ns) = datum.more_names n datum.no_args (alone ns)

abbrev pub becomes : OptionPath → PathKind → List Name → Type 0
becomes p k ns = written_path p ≡ Some (path_data k datum.no_type (alone ns) true)

abbrev pub is_refused : OptionPath → Type 0
is_refused p = written_path p ≡ None

-- `self::super::A`
abbrev pub SuperAfterSelf : Type 0
SuperAfterSelf =
    becomes (whole tree.self_segment (tree.super_segment ∷ word (codes "A") ∷ [])) (kind.Super 1) (text (codes "A") ∷ [])

-- `self::A::self::B`, `A::super::self::C`, `A::crate::B`
abbrev pub KeywordsInside : Type 0
KeywordsInside =
    is_refused (whole tree.self_segment (word (codes "A") ∷ tree.self_segment ∷ word (codes "B") ∷ []))
    × is_refused (whole (word (codes "A")) (tree.super_segment ∷ tree.self_segment ∷ word (codes "C") ∷ []))
    × is_refused (whole (word (codes "A")) (tree.crate_segment ∷ word (codes "B") ∷ []))

-- `crate::super::super::A`, and `::crate::A`
abbrev pub CrateHidesSupers : Type 0
CrateHidesSupers =
    becomes (whole tree.crate_segment (tree.super_segment ∷ tree.super_segment ∷ word (codes "A") ∷ []))
    kind.Crate (text (codes "A") ∷ [])
    × becomes (leading tree.crate_segment (word (codes "A") ∷ [])) kind.Crate (text (codes "A") ∷ [])

-- `$crate::A`, where the context's crate has a root and where it has none
abbrev pub DollarCrateIsARoot : Type 0
DollarCrateIsARoot =
    ((c : CrateId)
    → becomes (whole (tree.dollar_crate_segment (Some c)) (word (codes "A") ∷ [])) (kind.DollarCrate c) (text (codes "A") ∷ []))
    × becomes (whole (tree.dollar_crate_segment None) (word (codes "A") ∷ [])) kind.Crate (text (codes "A") ∷ [])

-- `A::super::B::super::super::C`
abbrev pub SupersInside : Type 0
SupersInside = becomes
    (whole (word (codes "A")) (tree.super_segment ∷ word (codes "B") ∷ tree.super_segment ∷ tree.super_segment ∷ word (codes "C") ∷ []))
    (kind.Super 3) (text (codes "A") ∷ text (codes "B") ∷ text (codes "C") ∷ [])

-- `self`, and `self::super`
abbrev pub SelfAlone : Type 0
SelfAlone = becomes (whole tree.self_segment []) (kind.Super 0) []
    × becomes (whole tree.self_segment (tree.super_segment ∷ [])) (kind.Super 1) []

-- `foo::{self}`, `foo::{self::A}`, `foo::{A}`
abbrev pub UseTreesStandInFront : Type 0
UseTreesStandInFront =
    becomes (inside (whole (word (codes "foo")) []) tree.self_segment []) kind.Plain (text (codes "foo") ∷ [])
    × becomes (inside (whole (word (codes "foo")) []) tree.self_segment (word (codes "A") ∷ [])) (kind.Super 0) (text (codes "A") ∷ [])
    × becomes (inside (whole (word (codes "foo")) []) (word (codes "A")) []) kind.Plain (text (codes "foo") ∷ text (codes "A") ∷ [])

-- `A::`, `::` and `::super::A`
abbrev pub AbsentIsMissing : Type 0
AbsentIsMissing =
    becomes (whole (word (codes "A")) (tree.absent_segment ∷ [])) kind.Plain (text (codes "A") ∷ name.Missing ∷ [])
    × becomes (leading tree.absent_segment []) kind.Abs (name.Missing ∷ [])
    × becomes (leading tree.super_segment (word (codes "A") ∷ [])) (kind.Super 1) (text (codes "A") ∷ [])

-- arguments, with any types

-- the arguments with a type for `Self` alone
abbrev pub self_alone : Type_ → OptionArgsData
self_alone t = datum.some_args
    (datum.args_data (datum.more_arguments (datum.type_argument (type_data None t)) datum.no_arguments) true datum.no_bindings parens.No)

-- `<T as Trait>` in front
abbrev pub projected : Type_ → Pointer → OptionPath → List Segment → OptionPath
projected t at trait ss = whole (tree.trait_segment t at trait) ss

-- `<T as B::D>::E`, `<T as B>`, and `<T as crate>::E`
abbrev pub TraitInPlace : Type 0
TraitInPlace = (t : Type_) (at : Pointer)
    → (written_path (projected t at (whole (word (codes "B")) (word (codes "D") ∷ [])) (word (codes "E") ∷ []))
    ≡ Some (path_data kind.Plain datum.no_type
    (datum.more_names (text (codes "B")) datum.no_args
    (datum.more_names (text (codes "D")) (self_alone t) (alone (text (codes "E") ∷ [])))) false))
    × (written_path (projected t at (whole (word (codes "B")) []) [])
    ≡ Some (path_data kind.Plain datum.no_type (alone (text (codes "B") ∷ [])) false))
    × is_refused (projected t at (whole tree.crate_segment []) (word (codes "E") ∷ []))

-- `<T>::E`
abbrev pub TypeInFront : Type 0
TypeInFront = (t : Type_) → written_path (whole (tree.type_segment t) (word (codes "E") ∷ []))
    ≡ Some (path_data kind.Plain (datum.some_type (type_data None t)) (alone (text (codes "E") ∷ [])) false)

abbrev pub sugar_args : TypeData → TypeData → OptionArgsData
sugar_args from to =
    let tuple = datum.typed None (datum.tuple_shape (datum.more_types from datum.no_types)) in
    let output = datum.binding_data (text (codes "Output")) datum.no_args (datum.some_type to) datum.no_bounds in
    datum.some_args (datum.args_data (datum.more_arguments (datum.type_argument tuple) datum.no_arguments) false
    (datum.more_bindings output datum.no_bindings) parens.ParenSugar)

abbrev pub fn_behind : Type_ → OptionRet → OptionPath
fn_behind a r = whole (tree.name_segment (text (codes "Fn")) tt (tree.segment_args tree.no_arg_list
    (tree.some_parens (tree.more_parts (tree.some_type a) tree.no_parts) r) false)) []

abbrev pub reads_fn : OptionPath → TypeData → TypeData → Type 0
reads_fn p from to =
    written_path p ≡ Some (path_data kind.Plain datum.no_type
    (datum.more_names (text (codes "Fn")) (sugar_args from to) datum.no_names) false)

-- `Fn(A) -> B`, `Fn(A)`, and `Fn(A) ->`
abbrev pub OutputIsBound : Type 0
OutputIsBound = (a b : Type_)
    → reads_fn (fn_behind a (tree.some_ret (tree.some_type b))) (type_data None a) (type_data None b)
    × reads_fn (fn_behind a tree.no_ret) (type_data None a) (datum.typed None (datum.tuple_shape datum.no_types))
    × reads_fn (fn_behind a (tree.some_ret tree.no_type)) (type_data None a) (datum.typed None datum.error_shape)

-- `for<'a> (fn())` has the binder, `for<'a> [T]` has none, and of `for<'a> fn(fn())` the outer pointer alone has it
abbrev pub BinderOfFunctions : Type 0
BinderOfFunctions = (at within : Pointer) (h : FnHead) (b : Binder) (t : Type_)
    → (type_data None (tree.for_type b (tree.some_type (tree.paren_type (tree.some_type (tree.fn_type at h tree.no_parts tree.no_type)))))
    ≡ datum.typed (Some at) (datum.fn_shape h (Some b) (datum.more_types unit_data datum.no_types)))
    × (type_data None (tree.for_type b (tree.some_type (tree.over_type at tree.slice_of (tree.some_type t))))
    ≡ datum.typed (Some at) (datum.slice_shape (type_data None t)))
    × (type_data None (tree.for_type b (tree.some_type (tree.fn_type at h
    (tree.more_parts (tree.some_type (tree.fn_type within h tree.no_parts tree.no_type)) tree.no_parts) tree.no_type)))
    ≡ datum.typed (Some at) (datum.fn_shape h (Some b)
    (datum.more_types (datum.typed (Some within) (datum.fn_shape h None (datum.more_types unit_data datum.no_types)))
    (datum.more_types unit_data datum.no_types))))

-- bounds and lists

-- the type of the trait `A` from this node
abbrev pub trait_from : Pointer → TypeData
trait_from at = datum.typed (Some at) (datum.path_shape (path_data kind.Plain datum.no_type (alone (text (codes "A") ∷ [])) true))

-- `A`, `?A`, `for<'n> ?A`, and `A::crate`
abbrev pub BoundsOfKinds : Type 0
BoundsOfKinds = (at : Pointer) (n : Name)
    → (bound_data (tree.path_bound at (whole (word (codes "A")) []) false []) ≡ datum.path_bound (trait_from at) modifier.None)
    × (bound_data (tree.path_bound at (whole (word (codes "A")) []) true []) ≡ datum.path_bound (trait_from at) modifier.Maybe)
    × (bound_data (tree.path_bound at (whole (word (codes "A")) []) true (n ∷ [])) ≡ datum.for_bound (n ∷ []) (trait_from at))
    × (bound_data (tree.path_bound at (whole (word (codes "A")) (tree.crate_segment ∷ [])) false []) ≡ datum.error_bound)

-- `<T>`, and `<>`
abbrev pub list_of : Type_ → OptionArgs
list_of t = tree.some_arg_list (tree.more_args (tree.type_arg (tree.some_type t)) tree.no_args)

abbrev pub empty_list_of : OptionArgs
empty_list_of = tree.some_arg_list tree.no_args

-- `(B)`
abbrev pub parens_of : Type_ → OptionParens
parens_of b = tree.some_parens (tree.more_parts (tree.some_type b) tree.no_parts) tree.no_ret

abbrev pub data_of_list : Type_ → OptionArgsData
data_of_list t = datum.some_args
    (datum.args_data (datum.more_arguments (datum.type_argument (type_data None t)) datum.no_arguments) false datum.no_bindings parens.No)

-- of `(..)`
abbrev pub data_of_dots : OptionArgsData
data_of_dots = datum.some_args (datum.args_data datum.no_arguments false datum.no_bindings parens.ReturnTypeNotation)

-- behind one name `<T>(B)`, `<>(B)`, `<>(..)` and `<>`
abbrev pub FirstOfLists : Type 0
FirstOfLists = (t b : Type_)
    → (segment_args_data (tree.segment_args (list_of t) (parens_of b) true) ≡ data_of_list t)
    × (segment_args_data (tree.segment_args empty_list_of (parens_of b) true)
    ≡ sugar_args (type_data None b) (datum.typed None (datum.tuple_shape datum.no_types)))
    × (segment_args_data (tree.segment_args empty_list_of tree.no_parens true) ≡ data_of_dots)
    × (segment_args_data (tree.segment_args empty_list_of tree.no_parens false) ≡ datum.no_args)

-- `<N(..) = U, , T>` with an absent lifetime between them, the binding `N<T>(..): 'l`, and a list of an absent lifetime alone
abbrev pub BindingsOfLists : Type 0
BindingsOfLists = (t u : Type_) (n : Name) (l : Lifetime)
    → (list_data (tree.some_arg_list (tree.more_args (tree.assoc_arg n tree.no_arg_list true (tree.some_type u) tree.no_bounds)
    (tree.more_args tree.skipped_arg (tree.more_args (tree.type_arg (tree.some_type t)) tree.no_args))))
    ≡ datum.some_args (datum.args_data (datum.more_arguments (datum.type_argument (type_data None t)) datum.no_arguments) false
    (datum.more_bindings (datum.binding_data n data_of_dots (datum.some_type (type_data None u)) datum.no_bounds) datum.no_bindings)
    parens.No))
    × (binding_of (tree.assoc_arg n (list_of t) true tree.no_type (tree.more_bounds (tree.lifetime_bound l) tree.no_bounds))
    ≡ Some (datum.binding_data n (data_of_list t) datum.no_type
    (datum.more_bounds (datum.lifetime_bound (lifetime_data l)) datum.no_bounds)))
    × (list_data (tree.some_arg_list (tree.more_args tree.skipped_arg tree.no_args)) ≡ datum.no_args)

-- constants

-- an array of this length
abbrev pub array_of : Pointer → OptionExpr → Type_ → Type_
array_of at e t = tree.array_type at (tree.constant e) (tree.some_type t)

abbrev pub is_long : Pointer → Type_ → Type_ → Option Site → Type 0
is_long at array t length = type_data None array ≡ datum.typed (Some at) (datum.array_shape (type_data None t) length)

-- `[T; a]`, `[T; (a)]`, `[T; ]`, the first with a disabled length, `[T; crate::crate { .. }]`, and `[T; m!()]`, where m stands for `a` and
-- where it stands for nothing
abbrev pub LengthsBySites : Type 0
LengthsBySites = (at here around : Pointer) (t : Type_) (p : OptionPath) (h : HygieneId) (why : Gone) (c : Called)
    (head : RecordHead) (fs : Fields) (s : Spread)
    → is_long at (array_of at (tree.some_expr (tree.path_expr here p h)) t) t (Some (site_of here))
    × is_long at (array_of at (tree.some_expr (tree.paren_expr around (tree.some_expr (tree.path_expr here p h)))) t) t
    (Some (site_of here))
    × is_long at (array_of at tree.no_expr t) t None
    × is_long at (array_of at (tree.some_expr (tree.disabled_expr why (tree.path_expr here p h))) t) t None
    × is_long at (array_of at
    (tree.some_expr (tree.record_expr here (whole tree.crate_segment (tree.crate_segment ∷ [])) head fs s)) t) t None
    × is_long at (array_of at (tree.some_expr (tree.macro_expr around c (tree.some_expr (tree.path_expr here p h)))) t) t
    (Some (site_of here))
    × is_long at (array_of at (tree.some_expr (tree.macro_expr around c tree.no_expr)) t) t (Some (site_of around))

-- macro calls

-- `m!()`, where m stands for T, where the text lacks the call, and where m has no expansion; as a pattern, where it stands for this
abbrev pub WhatCallsStandFor : Type 0
WhatCallsStandFor = (at : Pointer) (c : Called) (b : Option Binder) (t : Type_) (p : OptionPat)
    → (type_data b (tree.macro_type at c (tree.some_type t)) ≡ type_data b t)
    × (type_data b (tree.macro_type at tree.callless tree.no_type) ≡ datum.typed (Some at) datum.error_shape)
    × (type_data b (tree.macro_type at tree.unentered tree.no_type) ≡ datum.typed None datum.error_shape)
    × (written_pat (tree.some_pat (tree.macro_pat at c p)) ≡ written_pat p)
    × (written_uses (tree.some_pat (tree.macro_pat at c p)) ≡ written_uses p)
