-- What is done with the names and the parts of a pattern.
use Rattle.std.specs.Prelude.{ℕ, suc, ◌+◌, nat_eq, nat_lt, ◌^◌, if◌then◌else◌, Bool, true, false, ◌&&◌}
use Rattle.std.specs.Prelude.{List, [], ◌∷◌, ◌++◌, length, Option, Some, None, unwrap_or}
use Rattle.std.specs.List.{position_or_len}
use Rattle.std.specs.Map.{keys_of, lookup}
use Rattle.hir_base.specs.declared.op.RangeOp.{RangeOp}
use Rattle.hir_binding.specs.declared.binding.BindingAnnotation.{BindingAnnotation}
use Rattle.hir_binding.specs.Uses.{name_use}
use Rattle.hir_binding.specs.Steps.{Tracked, over_recent, no_use, after, enter_first, next, left}
use Rattle.hir_store.specs.declared.diagnostics.ExpressionStoreDiagnostics.TheVariants.{PatternArgInExternFn}
use Rattle.hir_store.specs.Names.{same_name}
use Rattle.hir_store.specs.Pointers.{Pointer}
use Rattle.hir_store.specs.declared.hir.Expr.TheVariants as hir
use Rattle.hir_store.specs.declared.hir.Literal.{Literal}
use Rattle.hir_store.specs.declared.ids.BindingId.{BindingId}
use Rattle.hir_store.specs.declared.ids.ExprId.{ExprId}
use Rattle.hir_store.specs.declared.ids.HygieneId.{HygieneId}
use Rattle.hir_store.specs.declared.ids.PatId.{PatId}
use Rattle.hir_store.specs.declared.name.Name.{Name}
use Rattle.hir_store.specs.declared.name.Name.TheVariants as name
use Rattle.hir_store.specs.declared.pat.Binding.{Binding}
use Rattle.hir_store.specs.declared.pat.Pat.{Pat as HirPat}
use Rattle.hir_store.specs.declared.pat.Pat.TheVariants as pat
use Rattle.hir_store.specs.declared.pat.RecordFieldPat.{RecordFieldPat}
use Rattle.hir_store.specs.declared.path.Path.{Path as HirPath}
use Rattle.hir_store.specs.declared.path.Path.TheVariants.{BarePath}
use Rattle.hir_store.specs.declared.path.PathKind.TheVariants as kind
use Rattle.hir_env.specs.ResolvedTree as tree
use Rattle.hir_env.specs.ResolvedTree.{Called, Pat, PatLeaf, PatUnary, Signed, Use}
use Rattle.hir_lower_builder.specs.Lowering.{Lowering, ◌>>=◌, ◌>>◌, pure, alloc_binding, alloc_expr, alloc_pat, count_out, define}
use Rattle.hir_lower_builder.specs.Lowering.{point_pat, point_pat_field, report, set_problem}
use Rattle.hir_lower_builder.specs.Calls.{emitted}
use Rattle.hir_lower_builder.specs.Forms.{root_hygiene}

-- names

-- a name, with its hygiene
abbrev pub Key : Type 0
Key = Name × HygieneId

abbrev pub same_key : Key → Key → Bool
same_key k l = same_name k.0 l.0 && nat_eq k.1.0 l.1.0

abbrev pub key_of : Use → Key
key_of u = (u.name, u.hygiene)

-- what is noted of each name, by its number
abbrev pub SideOutput : Type 0
SideOutput = ℕ → Tracked

abbrev pub no_side_output : SideOutput
no_side_output = λ n. no_use

-- The same step for each name: a use, into the first alternative of an or-pattern, from one to the next, and out of the last.
abbrev pub track_use : ℕ → BindingAnnotation → SideOutput → SideOutput
track_use number mode tracks = λ n. after over_recent n (name_use number mode) (tracks n)

abbrev pub track_entered : SideOutput → SideOutput
track_entered tracks = λ n. enter_first (tracks n)

abbrev pub track_next : SideOutput → SideOutput
track_next tracks = λ n. next over_recent (tracks n)

abbrev pub track_left : SideOutput → SideOutput
track_left tracks = λ n. left over_recent (tracks n)

-- What is known of the names of one top pattern: the binding of each, in the order of first use, and what is noted of each. The
-- place of a name in that order is its number.
pub record Table : Type 0 where
  pub bindings : List (Key × BindingId)
  pub tracked : SideOutput

-- no name has a use
abbrev pub no_names : Table
no_names = record { bindings = []; tracked = no_side_output }

abbrev pub binding_of : Key → Table → Option BindingId
binding_of k t = lookup (same_key k) t.bindings

-- a name that has no use takes the next number
abbrev pub number_of : Key → Table → ℕ
number_of k t = position_or_len (same_key k) (keys_of t.bindings)

abbrev pub with_name : Key → BindingId → Table → Table
with_name k b t = record t { bindings = t.bindings ++ (k, b) ∷ [] }

abbrev pub with_use : ℕ → BindingAnnotation → Table → Table
with_use number mode t = record t { tracked = track_use number mode t.tracked }

abbrev pub enter_or : Table → Table
enter_or t = record t { tracked = track_entered t.tracked }

abbrev pub next_alternative : Table → Table
next_alternative t = record t { tracked = track_next t.tracked }

abbrev pub leave_or : Table → Table
leave_or t = record t { tracked = track_left t.tracked }

-- a binding has the mode of its first use
abbrev pub new_binding : Use → Binding
new_binding u = record { name = u.name; mode = u.mode; hygiene = u.hygiene; problems = None }

-- one binding for all uses of a name
abbrev pub use_of_known : Use → Table → Option BindingId → Lowering (BindingId × Table)
use_of_known u t (Some b) = pure (b, with_use (number_of (key_of u) t) u.mode t)
use_of_known u t None = do
  b ← alloc_binding (new_binding u)
  pure (b, with_use (length t.bindings) u.mode (with_name (key_of u) b t))

unfoldable pub use_name : Use → Table → Lowering (BindingId × Table)
use_name u t = use_of_known u t (binding_of (key_of u) t)

-- the problems of these, the first of which has this number
abbrev pub settle_from : SideOutput → ℕ → List (Key × BindingId) → Lowering (Unit {0})
settle_from tracked number [] = pure tt
settle_from tracked number (e ∷ es) = do
  set_problem e.1 (tracked number).problem
  settle_from tracked (suc number) es

-- at the end of the top pattern each binding gets the problem that it shows
unfoldable pub settle : Table → Lowering (Unit {0})
settle t = settle_from t.tracked 0 t.bindings

-- forms, of the steps that lower their parts

-- steps that make a pattern, with the names that were used before and by then
abbrev pub PatSteps : Type 0
PatSteps = Table → Lowering (PatId × Table)

unfoldable pub missing_pat : Lowering PatId
missing_pat = alloc_pat pat.Missing None

-- what no written pattern is stays missing, from no node
abbrev pub unwritten_pattern : Lowering PatId
unwritten_pattern = missing_pat

-- the call leads to what it stands for
unfoldable pub called_pat_form : {A : Type 0} → Pointer → Called → (A → PatId) → Lowering A → Lowering A
called_pat_form at called pat_in inner = do
  emitted called
  r ← inner
  point_pat at (pat_in r)
  pure r

-- a call that the text lacks is missing without a way to it
abbrev pub uncalled_pat : Pointer → Called → Lowering PatId
uncalled_pat at tree.callless = unwritten_pattern
uncalled_pat at called = called_pat_form at called (λ i. i) unwritten_pattern

-- one where only a plain name or `_` may stand is missing without a way to it, too
abbrev pub barred_pat_form : Pointer → Lowering PatId
barred_pat_form at = report (PatternArgInExternFn at) >> missing_pat

-- what no written side of a range is stays absent
abbrev pub unwritten_side : Lowering (Option ExprId)
unwritten_side = pure None

abbrev pub stored_pat_leaf : PatLeaf → HirPat
stored_pat_leaf tree.wild_leaf = pat.Wild
stored_pat_leaf tree.rest_leaf = pat.Rest
stored_pat_leaf tree.not_null_leaf = pat.NotNull
stored_pat_leaf tree.broken_leaf = pat.Missing

abbrev pub stored_pat_unary : PatUnary → PatId → HirPat
stored_pat_unary (tree.ref_to mutability) i = pat.Ref mutability i
stored_pat_unary tree.box_of i = pat.Box i
stored_pat_unary tree.deref_of i = pat.Deref i

-- a path of one name
abbrev pub name_path : Name → HirPath
name_path n = BarePath (record { kind = kind.Plain; segments = n ∷ [] })

-- a path that is absent or refused is missing
abbrev pub path_pat_of : Option HirPath → HirPat
path_pat_of None = pat.Missing
path_pat_of (Some p) = pat.Path p root_hygiene

abbrev pub path_of_name : Name → HirPat
path_of_name n = pat.Path (name_path n) root_hygiene

-- a name that stands for something else is a path of one name
abbrev pub name_pat_of : Use → HirPat
name_pat_of u = path_of_name u.name

-- steps that know of no name
abbrev pub alone : Lowering PatId → PatSteps
alone form t = do
  i ← form
  pure (i, t)

unfoldable pub path_pat_form : Pointer → Lowering (Option HirPath) → Lowering PatId
path_pat_form at path = do
  p ← path
  alloc_pat (path_pat_of p) (Some at)

-- what stands behind `@` comes before the name
unfoldable pub bind_form : Pointer → Use → (Table → Lowering (Option PatId × Table)) → PatSteps
bind_form at u subpattern t = do
  s ← subpattern t
  b ← use_name u s.1
  i ← alloc_pat (pat.Bind b.0 s.0) (Some at)
  define b.0 i
  pure (i, b.1)

unfoldable pub over_pat_form : Pointer → PatUnary → PatSteps → PatSteps
over_pat_form at form inner t = do
  r ← inner t
  i ← alloc_pat (stored_pat_unary form r.0) (Some at)
  pure (i, r.1)

-- parts of a tuple

-- the parts so far, and how many stood in front of the first two dots
abbrev pub Elements : Type 0
Elements = List PatId × Option ℕ

abbrev pub no_elements : Elements
no_elements = ([], None)

abbrev pub is_dots : Pat → Bool
is_dots (tree.leaf_pat at tree.rest_leaf) = true
is_dots _ = false

-- of more than one pair of dots the first counts
abbrev pub dots_after : List PatId → Option ℕ → Option ℕ
dots_after ids None = Some (length ids)
dots_after ids (Some n) = Some n

-- two dots are no part, but say where parts are left out
abbrev pub element_form : Bool → Elements → PatSteps → Table → Lowering (Elements × Table)
element_form true done part t = pure ((done.0, dots_after done.0 done.1), t)
element_form false done part t = do
  r ← part t
  pure ((done.0 ++ r.0 ∷ [], done.1), r.1)

-- the place of the dots, behind a comma one further, unless there are more parts in front than are counted
abbrev pub moved_dots : Bool → ℕ → ℕ
moved_dots false n = n
moved_dots true n = n + 1

abbrev pub small_place : Bool → ℕ → Option ℕ
small_place comma n = if nat_lt (moved_dots comma n) (2 ^ 32) then Some (moved_dots comma n) else None

abbrev pub counted_place : Option ℕ → Lowering (Option ℕ)
counted_place (Some n) = pure (Some n)
counted_place None = count_out

abbrev pub counted_dots : Bool → Option ℕ → Lowering (Option ℕ)
counted_dots comma None = pure None
counted_dots comma (Some n) = counted_place (small_place comma n)

-- a comma in front stands for a missing part, which is made last
abbrev pub with_first_missing : Bool → List PatId → Lowering (List PatId)
with_first_missing false ids = pure ids
with_first_missing true ids = do
  first ← missing_pat
  pure (first ∷ ids)

-- the parts as they are stored: where the dots stand, and the numbers
unfoldable pub elements_form : Bool → Elements → Lowering (Option ℕ × List PatId)
elements_form comma es = do
  dots ← counted_dots comma es.1
  ids ← with_first_missing comma es.0
  pure (dots, ids)

unfoldable pub tuple_pat_form : Pointer → Bool → (Table → Lowering (Elements × Table)) → PatSteps
tuple_pat_form at comma parts t = do
  r ← parts t
  es ← elements_form comma r.0
  i ← alloc_pat (pat.Tuple es.0 es.1) (Some at)
  pure (i, r.1)

-- where the path is absent or refused it is missing, and nothing else of it is read
abbrev pub tuple_struct_of : Pointer → Bool → (Table → Lowering (Elements × Table)) → Option HirPath → PatSteps
tuple_struct_of at comma parts None t = alone missing_pat t
tuple_struct_of at comma parts (Some p) t = do
  r ← parts t
  es ← elements_form comma r.0
  i ← alloc_pat (pat.TupleStruct p es.0 es.1) (Some at)
  pure (i, r.1)

unfoldable pub tuple_struct_form : Pointer → Bool → (Table → Lowering (Elements × Table)) → Lowering (Option HirPath) → PatSteps
tuple_struct_form at comma parts path t = do
  p ← path
  tuple_struct_of at comma parts p t

-- records

-- a field without a name is no part of the record; the part of one with a name leads to it
abbrev pub named_part : Pointer → Option Name → PatId → Lowering (Option RecordFieldPat)
named_part at None i = pure None
named_part at (Some n) i = do
  point_pat_field i at
  pure (Some (record { name = n; pat = i }))

unfoldable pub pat_field_form : Pointer → Option Name → PatSteps → Table → Lowering (Option RecordFieldPat × Table)
pat_field_form at n part t = do
  r ← part t
  f ← named_part at n r.0
  pure (f, r.1)

abbrev pub record_pat_of : Pointer → Bool → (Table → Lowering (List RecordFieldPat × Table)) → Option HirPath → PatSteps
record_pat_of at dots fields None t = alone missing_pat t
record_pat_of at dots fields (Some p) t = do
  r ← fields t
  i ← alloc_pat (pat.Record p r.0 dots) (Some at)
  pure (i, r.1)

unfoldable pub record_pat_form : Pointer → Bool → (Table → Lowering (List RecordFieldPat × Table)) → Lowering (Option HirPath)
    → PatSteps
record_pat_form at dots fields path t = do
  p ← path
  record_pat_of at dots fields p t

-- slices and alternatives

unfoldable pub slice_pat_form : Pointer → (Table → Lowering (List PatId × Table)) → (Table → Lowering (Option PatId × Table))
    → (Table → Lowering (List PatId × Table)) → PatSteps
slice_pat_form at before middle after t = do
  b ← before t
  m ← middle b.1
  a ← after m.1
  i ← alloc_pat (pat.Slice b.0 m.0 a.0) (Some at)
  pure (i, a.1)

-- one alternative is that one
abbrev pub or_of : Pointer → List PatId → Lowering PatId
or_of at (i ∷ []) = pure i
or_of at is = alloc_pat (pat.Or is) (Some at)

-- of the first alternative, and of the later ones behind its number; without any it binds nothing
unfoldable pub or_form : Pointer → PatSteps → (List PatId → Table → Lowering (List PatId × Table)) → PatSteps
or_form at first later t = do
  r ← first (enter_or t)
  rs ← later (r.0 ∷ []) r.1
  i ← or_of at rs.0
  pure (i, leave_or rs.1)

-- literals and ranges

-- the literal as it is written, with its minus
abbrev pub signed_literal : Signed → Literal
signed_literal s = record { negative = s.minus; kind = s.literal.lit; text = s.literal.t; suffix = s.literal.suffix }

unfoldable pub literal_pat_form : Pointer → Option Pointer → Signed → Lowering PatId
literal_pat_form at node s = do
  e ← alloc_expr (hir.Literal (signed_literal s)) (Some (unwrap_or node at))
  alloc_pat (pat.Lit e) (Some at)

-- the literal as an expression
unfoldable pub literal_side_form : Pointer → Signed → Lowering (Option ExprId)
literal_side_form at s = do
  e ← alloc_expr (hir.Literal (signed_literal s)) (Some at)
  pure (Some e)

-- a path as an expression, where it isn't absent or refused
abbrev pub path_side_of : Pointer → Option HirPath → Lowering (Option ExprId)
path_side_of at None = pure None
path_side_of at (Some p) = do
  e ← alloc_expr (hir.Path p root_hygiene) (Some at)
  pure (Some e)

-- a plain name that the text lacks gives no side
abbrev pub name_side_of : Pointer → Name → Lowering (Option ExprId)
name_side_of at name.Missing = pure None
name_side_of at n = path_side_of at (Some (name_path n))

unfoldable pub path_side_form : Pointer → Lowering (Option HirPath) → Lowering (Option ExprId)
path_side_form at path = do
  p ← path
  path_side_of at p

-- without its operator it is missing, and its sides are read all the same
abbrev pub stored_range : Option RangeOp → Option ExprId → Option ExprId → HirPat
stored_range None s e = pat.Missing
stored_range (Some op) s e = pat.Range op s e

unfoldable pub range_pat_form : Pointer → Option RangeOp → Lowering (Option ExprId) → Lowering (Option ExprId) → Lowering PatId
range_pat_form at op low high = do
  s ← low
  e ← high
  alloc_pat (stored_range op s e) (Some at)
