-- The steps of lowering: each answers a value, or is refused because an arena is full, and leaves what is stored by then.
use Rattle.std.specs.Prelude.{◌≡◌, ◌≢◌, ◌⊎◌, ◌^◌, ℕ, suc, nat_lt, if◌then◌else◌}
use Rattle.std.specs.Prelude.{Bool, true, false, List, [], ◌∷◌, length, Option, Some, None, option_map, Ok, Err}
use Rattle.hir_base.specs.declared.node.HirFileId.{HirFileId}
use Rattle.hir_base.specs.declared.node.TextRange.{TextRange}
use Rattle.hir_store.specs.Pointers.{Pointer}
use Rattle.hir_store.specs.Stored.{Stored}
use Rattle.hir_store.specs.Bindings.{binding_id}
use Rattle.hir_store.specs.Range.{Grows, HasLabelOption}
use Rattle.hir_store.specs.StoreSink as store_sink
use Rattle.hir_store.specs.StoreSink.{StoreSink, SomeAtLimit}
pub use Rattle.hir_store.specs.StoreSink.{Checked}
use Rattle.hir_store.specs.declared.error.StoreError.TheVariants.{Memory, Full}
use Rattle.hir_binding.specs.declared.binding.BindingProblems.{BindingProblems}
use Rattle.hir_store.specs.declared.hir.Expr.{Expr}
use Rattle.hir_store.specs.declared.name.Name.{Name}
use Rattle.hir_store.specs.declared.name.Name.TheVariants.{Generated}
use Rattle.hir_store.specs.declared.pat.Binding.{Binding}
use Rattle.hir_store.specs.declared.pat.Pat.{Pat}
use Rattle.hir_store.specs.declared.type_ref.TypeRef.{TypeRef}
use Rattle.hir_store.specs.declared.type_ref.TypeRef.TheVariants as type
use Rattle.hir_store.specs.declared.type_ref.TypeBound.{TypeBound}
use Rattle.hir_store.specs.declared.type_ref.LifetimeRef.{LifetimeRef}
use Rattle.hir_store.specs.declared.generics.LifetimeParamData.{LifetimeParamData}
use Rattle.hir_store.specs.declared.generics.TypeOrConstParamData.{TypeOrConstParamData}
use Rattle.hir_store.specs.declared.generics.WherePredicate.{WherePredicate}
use Rattle.hir_store.specs.declared.ids.GenericDefId.{GenericDefId}
use Rattle.hir_store.specs.declared.ids.TypeRefId.{TypeRefId}
use Rattle.hir_store.specs.declared.ids.LifetimeRefId.{LifetimeRefId}
use Rattle.hir_store.specs.declared.ids.BindingId.{BindingId}
use Rattle.hir_store.specs.declared.ids.ExprId.{ExprId}
use Rattle.hir_store.specs.declared.ids.PatId.{PatId}
use Rattle.hir_store.specs.declared.ids.LabelId.{LabelId}
use Rattle.hir_store.specs.declared.ids.BlockId.{BlockId}
use Rattle.hir_store.specs.declared.diagnostics.ExpressionStoreDiagnostics.{ExpressionStoreDiagnostics}
use Rattle.hir_store.specs.declared.diagnostics.ExpressionStoreDiagnostics.TheVariants.{AwaitOutsideOfAsync}
use Rattle.hir_store.specs.declared.diagnostics.ExpressionStoreDiagnostics.TheVariants.{UndeclaredLabel, UnreachableLabel}
use Rattle.hir_store.specs.declared.diagnostics.AwaitLocation.{AwaitLocation}
use Rattle.hir_store.specs.declared.ids.MacroDefId.{MacroDefId}
use Rattle.hir_lower_scope.specs.ScopeRibs.{label_rib, macro_rib, try_rib, barrier_rib, Target, reachable, unreachable, undeclared, target}
use Rattle.hir_lower_scope.specs.ScopeRibs.{Try, innermost_try_rib}
use Rattle.hir_lower_scope.specs.declared.labels.NoTarget.{NoTarget}
use Rattle.hir_lower_scope.specs.declared.labels.NoTarget.TheVariants as no
use Rattle.hir_lower_scope.specs.Labels.{rest}
use Rattle.hir_env.specs.NodeMap.{Site}
use Rattle.hir_env.specs.ResolvedTree.{Label, Jump}
use Rattle.hir_env.specs.declared.ctx.ImplTrait.{ImplTrait}
use Rattle.hir_env.specs.declared.ctx.ImplTrait.TheVariants as becomes
use Rattle.hir_lower_builder.specs.Builder.{Builder}
use Rattle.hir_lower_builder.specs.Generics.{unnamed_param, with_bounds, with_lifetime_param, with_param, with_predicate}
use Rattle.hir_lower_builder.specs.declared.generics.SideOutput.{SideOutput}

abbrev pub Lowering : Type 0 → Type 0
Lowering A = Builder → Checked A × Builder

abbrev pub go_on : {A B : Type 0} → Checked A → Builder → (A → Lowering B) → Checked B × Builder
go_on (Ok a) b f = f a b
go_on (Err e) b f = (Err e, b)

infixl 10 ◌>>=◌
abbrev pub ◌>>=◌ : {A B : Type 0} → Lowering A → (A → Lowering B) → Lowering B
p >>= f = λ b. go_on (p b).0 (p b).1 f

infixl 10 ◌>>◌
abbrev pub ◌>>◌ : {A B : Type 0} → Lowering A → Lowering B → Lowering B
p >> q = p >>= (λ _. q)

abbrev pub pure : {A : Type 0} → A → Lowering A
pure a = λ b. (Ok a, b)

-- a step that stores
abbrev pub stored : {A : Type 0} → StoreSink A → Lowering A
stored p = λ b. ((p b.stored).0, record b { stored = (p b.stored).1 })

unfoldable pub alloc_expr : Expr → Option Pointer → Lowering ExprId
alloc_expr e source = stored (store_sink.alloc_expr e source)

-- of a node that lowering makes up: the node that it came from doesn't lead to it
unfoldable pub alloc_desugared : Expr → Option Pointer → Lowering ExprId
alloc_desugared e source = stored (store_sink.alloc_desugared e source)

unfoldable pub alloc_pat : Pat → Option Pointer → Lowering PatId
alloc_pat p source = stored (store_sink.alloc_pat p source)

-- of a pattern that lowering makes up: the node that it came from doesn't lead to it
unfoldable pub alloc_desugared_pat : Pat → Option Pointer → Lowering PatId
alloc_desugared_pat p source = stored (store_sink.alloc_desugared_pat p source)

unfoldable pub alloc_binding : Binding → Lowering BindingId
alloc_binding b = stored (store_sink.alloc_binding b)

unfoldable pub define : BindingId → PatId → Lowering (Unit {0})
define id p = stored (store_sink.define id p)

unfoldable pub set_problem : BindingId → Option BindingProblems → Lowering (Unit {0})
set_problem id problem = stored (store_sink.set_problem id problem)

-- the number that the next binding gets
unfoldable pub bindings_end : Lowering BindingId
bindings_end = λ b. (Ok (binding_id (length b.stored.bindings.entries)), b)

-- from this binding on the expression owns each that nothing owned
unfoldable pub own : BindingId → ExprId → Lowering (Unit {0})
own start id = stored (store_sink.own start id)

-- Steps whose bindings are owned by this expression of what they answer, except for those that something inside of them owns.
unfoldable pub owning : {A : Type 0} → (A → ExprId) → Lowering A → Lowering A
owning owner p = do
  start ← bindings_end
  x ← p
  own start (owner x)
  pure x

unfoldable pub alloc_type : TypeRef → Option Pointer → Lowering TypeRefId
alloc_type t source = stored (store_sink.alloc_type t source)

unfoldable pub alloc_lifetime : LifetimeRef → Option Pointer → Lowering LifetimeRefId
alloc_lifetime l source = stored (store_sink.alloc_lifetime l source)

unfoldable pub point : Pointer → ExprId → Lowering (Unit {0})
point node id = stored (store_sink.point node id)

unfoldable pub point_field : ExprId → Pointer → Lowering (Unit {0})
point_field id node = stored (store_sink.point_field id node)

unfoldable pub point_pat : Pointer → PatId → Lowering (Unit {0})
point_pat node id = stored (store_sink.point_pat node id)

unfoldable pub point_target : Pointer → PatId → Lowering (Unit {0})
point_target node id = stored (store_sink.point_target node id)

unfoldable pub point_pat_field : PatId → Pointer → Lowering (Unit {0})
point_pat_field id node = stored (store_sink.point_pat_field id node)

unfoldable pub point_type : Pointer → TypeRefId → Lowering (Unit {0})
point_type node id = stored (store_sink.point_type node id)

unfoldable pub report : ExpressionStoreDiagnostics → Lowering (Unit {0})
report fault = stored (store_sink.report fault)

-- a macro call that was expanded to this file
unfoldable pub record_expansion : Site → Option TextRange → HirFileId → Lowering (Unit {0})
record_expansion call range file = stored (store_sink.record_expansion (record { call = call; range = range; file = file }))

-- what awaits stands in this, which isn't async
unfoldable pub report_await : Pointer → Option AwaitLocation → Lowering (Unit {0})
report_await node None = pure tt
report_await node (Some location) = report (AwaitOutsideOfAsync node location)

unfoldable pub enter_block : Option BlockId → Lowering (Unit {0})
enter_block None = pure tt
enter_block (Some b) = stored (store_sink.enter_block b)

unfoldable pub record_root : ExprId → Lowering (Unit {0})
record_root root = stored (store_sink.record_root root)

-- from here on a root is being lowered; whether one was before
unfoldable pub enter_root : Lowering Bool
enter_root = λ b. (Ok b.in_root, record b { in_root = true })

-- from here on none is
unfoldable pub outside_root : Lowering (Unit {0})
outside_root = λ b. (Ok tt, record b { in_root = false })

-- inside of another root it isn't recorded
unfoldable pub leave_root : Bool → ExprId → Lowering (Unit {0})
leave_root true id = pure tt
leave_root false id = do
  record_root id
  outside_root

-- a counter is at its end
unfoldable pub count_out : {A : Type 0} → Lowering A
count_out = λ b. (Err Full, record b { counted_out = true })

-- the number of a name that was not made up before; how many there are is a number itself, which has an end
unfoldable pub made_number : Lowering ℕ
made_number = λ b. if nat_lt (suc b.names) (2 ^ 32) then (Ok b.names, record b { names = suc b.names }) else count_out b

abbrev pub open_as : Label → LabelId → Lowering (Unit {0})
open_as l id = λ b. (Ok tt, record b { scopes = label_rib l.name l.hygiene id ∷ b.scopes })

-- stores a label and opens it
unfoldable pub open_label : Label → Lowering LabelId
open_label l = do
  id ← stored (store_sink.alloc_label (record { name = l.name }) (Some l.pointer))
  open_as l id
  pure id

abbrev pub open_try_as : LabelId → Bool → Lowering (Unit {0})
open_try_as id typed = λ b. (Ok tt, record b { scopes = try_rib id typed ∷ b.scopes })

-- stores a label of the made name of this number, and opens the `try` as its
abbrev pub open_try_named : Pointer → Bool → ℕ → Lowering LabelId
open_try_named at typed n = do
  id ← stored (store_sink.alloc_label (record { name = Generated n }) (Some at))
  open_try_as id typed
  pure id

-- stores a label of a made name for a `try`, whose type is written or isn't, and opens the `try`
unfoldable pub open_try : Pointer → Bool → Lowering LabelId
open_try at typed = do
  n ← made_number
  open_try_named at typed n

-- the innermost `try`, for which a residual is
unfoldable pub try_target : Lowering (Option (Try LabelId))
try_target = λ b. (Ok (innermost_try_rib b.scopes), b)

-- No jump behind it reaches what is open, and no `yield` stands in it so far. It answers whether one stood outside of it.
unfoldable pub open_barrier : Lowering Bool
open_barrier = λ b. (Ok b.yields, record b { scopes = barrier_rib ∷ b.scopes; yields = false })

-- Closes the barrier, outside of which a `yield` stood or none did. It answers whether one stood in it.
unfoldable pub close_barrier : Bool → Lowering Bool
close_barrier outside = λ b. (Ok b.yields, record b { scopes = rest b.scopes; yields = outside })

-- a `yield` stands here
unfoldable pub track_yield : Lowering (Unit {0})
track_yield = λ b. (Ok tt, record b { yields = true })

-- what is noted

-- of what is noted becomes this
unfoldable pub track_down : (SideOutput → SideOutput) → Lowering (Unit {0})
track_down f = λ b. (Ok tt, record b { tracks = f b.tracks })

-- steps that depend on what is noted, and on what is stored
unfoldable pub with_side_output : {A : Type 0} → (SideOutput → Lowering A) → Lowering A
with_side_output f = λ b. f b.tracks b

unfoldable pub with_stored : {A : Type 0} → (Stored → Lowering A) → Lowering A
with_stored f = λ b. f b.stored b

abbrev pub param_numbered : TypeOrConstParamData → ℕ → Bool → Lowering ℕ
param_numbered x k true = do
  track_down (with_param x)
  pure k
param_numbered x k false = count_out

-- a parameter that is a type or a constant, and its number, behind those that there are
unfoldable pub add_param : TypeOrConstParamData → Lowering ℕ
add_param x = with_side_output (λ n.
    let k = length n.generics.type_or_consts in
    param_numbered x k (nat_lt k 4294967295))

abbrev pub lifetime_counted : LifetimeParamData → Bool → Lowering (Unit {0})
lifetime_counted x true = track_down (with_lifetime_param x)
lifetime_counted x false = count_out

-- a parameter that is a lifetime
unfoldable pub add_lifetime_param : LifetimeParamData → Lowering (Unit {0})
add_lifetime_param x = with_side_output (λ n. lifetime_counted x (nat_lt (length n.generics.lifetimes) 4294967295))

unfoldable pub add_predicate : WherePredicate → Lowering (Unit {0})
add_predicate x = track_down (with_predicate x)

-- the type that a parameter of this definition is
abbrev pub param_type : GenericDefId → ℕ → TypeRef
param_type def k = type.TypeParam (record { parent = def; local_id = record { 0 = k } })

-- What an `impl` becomes in an argument: a parameter, behind those inside of its bounds, with a predicate for each of these.
unfoldable pub argument_form : GenericDefId → Pointer → List TypeBound → Lowering TypeRefId
argument_form def at bounds = do
  k ← add_param unnamed_param
  t ← alloc_type (param_type def k) (Some at)
  track_down (with_bounds t bounds)
  pure t

-- What an `impl` with these bounds becomes. Where it isn't allowed it is an error, and its bounds are dropped.
abbrev pub becoming : Pointer → ImplTrait → List TypeBound → Lowering TypeRefId
becoming at becomes.Error bounds = alloc_type type.Error (Some at)
becoming at becomes.Opaque bounds = alloc_type (type.ImplTrait bounds) (Some at)
becoming at (becomes.Argument def) bounds = argument_form def at bounds

-- how many names stand in arguments so far
unfoldable pub input_end : Lowering ℕ
input_end = with_side_output (λ n. pure (length n.named.constrained_by_input))

-- definitions of macros

-- how many definitions of a name stand before one is a number itself, which has an end
unfoldable pub count_def : ℕ → Lowering (Unit {0})
count_def k = if nat_lt (suc k) (2 ^ 32) then pure tt else count_out

-- behind it a macro is defined
unfoldable pub open_macro : MacroDefId → Lowering (Unit {0})
open_macro d = λ b. (Ok tt, record b { scopes = macro_rib d ∷ b.scopes })

-- closes what was opened last
unfoldable pub close : Lowering (Unit {0})
close = λ b. (Ok tt, record b { scopes = rest b.scopes })

-- closes all
unfoldable pub close_labels : Lowering (Unit {0})
close_labels = λ b. (Ok tt, record b { scopes = [] })

-- what is wrong with a jump that has no target
abbrev pub jump_fault : NoTarget → Pointer → Name → ExpressionStoreDiagnostics
jump_fault no.Unreachable node name = UnreachableLabel node name
jump_fault no.Undeclared node name = UndeclaredLabel node name

-- none, and a fault
abbrev pub no_target : NoTarget → Pointer → Name → Lowering (Option LabelId)
no_target cause node name = do
  report (jump_fault cause node name)
  pure None

abbrev pub found_or_fault : Jump → Target LabelId → Lowering (Option LabelId)
found_or_fault j (reachable id) = pure (Some id)
found_or_fault j unreachable = no_target no.Unreachable j.pointer j.name
found_or_fault j undeclared = no_target no.Undeclared j.pointer j.name

-- the label that the jump is for, or none and a fault; an unlabelled jump has none
unfoldable pub jump_target : Option Jump → Lowering (Option LabelId)
jump_target None = pure None
jump_target (Some j) = λ b. found_or_fault j (target j b.scopes) b

-- an arena has reached its limit, or a counter its end
abbrev pub SomeEnd : Builder → Type 0
SomeEnd b = SomeAtLimit b.stored ⊎ (b.counted_out ≡ true)

-- an answer that is no number of an entry
abbrev pub HasFlag : Stored → Bool → Type 0
HasFlag s b = Unit {0}

abbrev pub HasStart : Stored → BindingId → Type 0
HasStart s start = Unit {0}

abbrev pub HasNumber : Stored → ℕ → Type 0
HasNumber s n = Unit {0}

abbrev pub HasTry : Stored → Option (Try LabelId) → Type 0
HasTry s t = HasLabelOption s (option_map (λ it. it.place) t)

-- What the steps answer and leave, unless memory was refused. What is answered exists, and no arena is shorter than it
-- was; where there is no room some end is reached.
abbrev pub Lowers : {A : Type 0} → (Stored → A → Type 0) → Lowering A → Builder → Checked A → Builder → Type 0
Lowers Has p old (Ok a) new = (p old ≡ (Ok a, new)) × Grows old.stored new.stored × Has new.stored a
Lowers Has p old (Err e) new = e ≢ Memory → (p old ≡ (Err e, new)) × SomeEnd new
