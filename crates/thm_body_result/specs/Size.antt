-- What lowering stores, and what it counts.
use Rattle.std.specs.Prelude.{ℕ, suc, ◌+◌, ◌-◌, ◌≤◌, ◌^◌, ◌⊎◌, Bool, true, false, List, [], ◌∷◌, ◌++◌, map, Option, Some, None, option_map}
use Rattle.indexmap.specs.IndexMap.{insert_entry}
use Rattle.hir_store.specs.Arenas.{insert_pointer}
use Rattle.hir_store.specs.Pointers.{Pointer, same_pointer}
use Rattle.hir_store.specs.StoreSink.{expr_id}
use Rattle.hir_store.specs.declared.ids.ExprId.{ExprId}
use Rattle.hir_env.specs.declared.ctx.ImplTrait.{ImplTrait}
use Rattle.hir_env.specs.declared.ctx.ImplTrait.TheVariants as becomes
use Rattle.hir_env.specs.ResolvedTree as tree
use Rattle.hir_env.specs.ResolvedTree.{Called, Origin}
use Rattle.hir_env.specs.Targets.{source_of}
use Rattle.spec_semantics.specs.InnerWritten.{InnerBody, Bodies}

-- What leads to a pattern or a type: one is stored, to which this node leads, or none; or the node of a call leads to the last that is
-- stored by then, for which the call stands; or one that is assigned to leads to the last pattern that is stored by then, in a map of
-- its own.
pub data NodeLeads : Type 0 where
  stored_from : Option Pointer → NodeLeads
  called_at : Pointer → NodeLeads
  assigned_at : Pointer → NodeLeads

-- of each that is stored the node that leads to it
abbrev pub sources_led : List NodeLeads → List (Option Pointer)
sources_led [] = []
sources_led (stored_from source ∷ xs) = source ∷ sources_led xs
sources_led (called_at at ∷ xs) = sources_led xs
sources_led (assigned_at at ∷ xs) = sources_led xs

-- the nodes of the calls
abbrev pub calls_led : List NodeLeads → List Pointer
calls_led [] = []
calls_led (stored_from source ∷ xs) = calls_led xs
calls_led (called_at at ∷ xs) = at ∷ calls_led xs
calls_led (assigned_at at ∷ xs) = calls_led xs

-- where nodes lead then, where the first that is stored has this number
abbrev pub led_by : {I : Type 0} → (ℕ → I) → ℕ → List NodeLeads → List (Pointer × I) → List (Pointer × I)
led_by number n [] es = es
led_by number n (stored_from source ∷ xs) es = led_by number (suc n) xs (insert_pointer es source (number n))
led_by number n (called_at at ∷ xs) es = led_by number n xs (insert_entry same_pointer es at (number (n - 1)))
led_by number n (assigned_at at ∷ xs) es = led_by number n xs es

-- the same of the assignee expression
abbrev pub targets_led : {I : Type 0} → (ℕ → I) → ℕ → List NodeLeads → List (Pointer × I) → List (Pointer × I)
targets_led number n [] es = es
targets_led number n (stored_from source ∷ xs) es = targets_led number (suc n) xs es
targets_led number n (called_at at ∷ xs) es = targets_led number n xs es
targets_led number n (assigned_at at ∷ xs) es = targets_led number n xs (insert_entry same_pointer es at (number (n - 1)))

-- Of the assignee expression: as if each pattern were stored from the node that leads to it first, and the others, which are calls around
-- that, were called.
abbrev pub target_leads : List NodeLeads → List NodeLeads
target_leads [] = []
target_leads (stored_from source ∷ (assigned_at at ∷ xs)) = stored_from (Some at) ∷ target_leads xs
target_leads (stored_from source ∷ xs) = stored_from None ∷ target_leads xs
target_leads (called_at at ∷ xs) = target_leads xs
target_leads (assigned_at at ∷ xs) = called_at at ∷ target_leads xs

pub record Size : Type 1 where
  pub exprs : ℕ
  pub labels : ℕ
  -- names that are bound
  pub bindings : ℕ
  -- of each of them what owns it: the last of the first so many expressions, or none where nothing in this part does
  pub owners : List (Option ℕ)
  -- names that lowering makes up
  pub names : ℕ
  -- type parameters that `impl`s become
  pub params : ℕ
  -- of each pattern, each type and each lifetime where it comes from, in the order in which they are stored
  pub pats : List (Option Pointer)
  pub types : List (Option Pointer)
  pub lifetimes : List (Option Pointer)
  -- what leads to the patterns and to the types, in that order
  pub pat_leads : List NodeLeads
  pub type_leads : List NodeLeads
  -- the bodies inside that stand in no other one, in the order in which they are done
  pub inner : Bodies
  -- some path that is read has more `super`s than are counted, or more parts stand in front of two dots, or more definitions by
  -- `macro_rules` in front of one of the same name
  pub overcounts : Type 0

abbrev pub nothing : Size
nothing = record {
  exprs = 0;
  labels = 0;
  bindings = 0;
  owners = [];
  names = 0;
  params = 0;
  pats = [];
  types = [];
  lifetimes = [];
  pat_leads = [];
  type_leads = [];
  inner = [];
  overcounts = ⊥;
}

abbrev pub an_expr : Size
an_expr = record nothing { exprs = 1 }

abbrev pub a_label : Size
a_label = record nothing { labels = 1 }

abbrev pub a_binding : Size
a_binding = record nothing { bindings = 1; owners = None ∷ [] }

abbrev pub a_generated_name : Size
a_generated_name = record nothing { names = 1 }

abbrev pub a_pat : Option Pointer → Size
a_pat source = record nothing { pats = source ∷ []; pat_leads = stored_from source ∷ [] }

-- one that is made up for a node, which doesn't lead to it
abbrev pub a_made_pat : Option Pointer → Size
a_made_pat source = record nothing { pats = source ∷ []; pat_leads = stored_from None ∷ [] }

abbrev pub a_type : Option Pointer → Size
a_type source = record nothing { types = source ∷ []; type_leads = stored_from source ∷ [] }

-- a node that is assigned to leads to the last pattern
abbrev pub a_target_mapping : Pointer → Size
a_target_mapping at = record nothing { pat_leads = assigned_at at ∷ [] }

-- the node of a call leads to the last pattern, and to the last type
abbrev pub a_pat_call : Pointer → Size
a_pat_call at = record nothing { pat_leads = called_at at ∷ [] }

abbrev pub a_type_call : Pointer → Size
a_type_call at = record nothing { type_leads = called_at at ∷ [] }

-- a type parameter that an `impl` becomes
abbrev pub a_param : Size
a_param = record nothing { params = 1 }

abbrev pub a_lifetime : Option Pointer → Size
a_lifetime source = record nothing { lifetimes = source ∷ [] }

-- a body inside, which becomes as much as what is in it
abbrev pub a_body : InnerBody → Size → Size
a_body b n = record n { inner = b ∷ [] }

-- what owns a binding, where so many more expressions come first
abbrev pub later_owner : ℕ → Option ℕ → Option ℕ
later_owner n o = option_map (λ k. n + k) o

abbrev pub owned_else_last : ℕ → Option ℕ → Option ℕ
owned_else_last n None = Some n
owned_else_last n (Some k) = Some k

-- where the last of the expressions owns each binding that nothing in it owns
abbrev pub owned : Size → Size
owned n = record n { owners = map (owned_else_last n.exprs) n.owners }

-- the last of the first so many expressions, behind this many
abbrev pub placed_owner : ℕ → Option ℕ → Option ExprId
placed_owner n o = option_map (λ k. expr_id (n + k - 1)) o

-- what owns each binding, where all of it is stored behind so many expressions
abbrev pub placed_owners : ℕ → List (Option ℕ) → List (Option ExprId)
placed_owners n os = map (placed_owner n) os

-- a `super` where so many are counted
abbrev pub a_super : ℕ → Size
a_super n = record nothing { overcounts = 2 ^ 32 ≤ n + 1 }

-- two dots behind so many parts
abbrev pub dots_behind : Option ℕ → Size
dots_behind None = nothing
dots_behind (Some n) = record nothing { overcounts = 2 ^ 32 ≤ n }

-- the definition of a macro, where so many of its name were counted
abbrev pub a_def : ℕ → Size
a_def k = record nothing { overcounts = 2 ^ 32 ≤ suc k }

-- the one, and then the other
infixr 20 ◌∪◌
abbrev pub ◌∪◌ : Size → Size → Size
a ∪ b = record {
  exprs = a.exprs + b.exprs;
  labels = a.labels + b.labels;
  bindings = a.bindings + b.bindings;
  owners = a.owners ++ map (later_owner a.exprs) b.owners;
  names = a.names + b.names;
  params = a.params + b.params;
  pats = a.pats ++ b.pats;
  types = a.types ++ b.types;
  lifetimes = a.lifetimes ++ b.lifetimes;
  pat_leads = a.pat_leads ++ b.pat_leads;
  type_leads = a.type_leads ++ b.type_leads;
  inner = a.inner ++ b.inner;
  overcounts = a.overcounts ⊎ b.overcounts;
}

-- what an `impl` becomes, without its bounds
abbrev pub an_impl : ImplTrait → Pointer → Size
an_impl becomes.Error at = a_type (Some at)
an_impl becomes.Opaque at = a_type (Some at)
an_impl (becomes.Argument def) at = a_param ∪ a_type (Some at)

-- the assignee expression: it comes from its node, or from the outermost call around it, and its node leads to it
abbrev pub a_target : Origin → Size
a_target at = a_made_pat (Some (source_of at)) ∪ a_target_mapping at.node

-- a name that is made up and bound, by a pattern that came from no node
abbrev pub a_made_bind : Size
a_made_bind = a_binding ∪ a_pat None

-- the condition of a `while`, by whether it holds a `let`: where it holds none a name is made up and bound to it, and stands behind that
-- in a block
abbrev pub a_condition : Bool → Size → Size
a_condition true n = n
a_condition false n = n ∪ a_generated_name ∪ a_made_bind ∪ an_expr ∪ an_expr

-- an arm for an item, with what is done with what the item holds
abbrev pub a_flow_arm : Size → Size
a_flow_arm body = a_generated_name ∪ a_made_bind ∪ a_pat None ∪ body

-- a call of an item, both made up
abbrev pub an_item_call : Size
an_item_call = an_expr ∪ an_expr

-- the turn of a `for`: a call on a reference to a name, an arm that ends the loop, an arm around a pattern, with this in it, and the
-- match in a block
abbrev pub a_for_iteration : Size → Size
a_for_iteration body = ((an_expr ∪ an_expr) ∪ an_item_call) ∪ (a_pat None ∪ an_expr) ∪ (a_pat None ∪ body) ∪ an_expr ∪ an_expr

abbrev pub if_so : Bool → Size → Size
if_so true a = a
if_so false a = nothing

-- a call that the text lacks is a missing pattern, or an error from its node, to which no other way leads; the node of another one that
-- stands for nothing leads to what is missing
abbrev pub uncalled_pat_size : Pointer → Called → Size
uncalled_pat_size at tree.callless = a_pat None
uncalled_pat_size at called = a_pat None ∪ a_pat_call at

abbrev pub uncalled_type_size : Pointer → Called → Size
uncalled_type_size at tree.callless = a_type (Some at)
uncalled_type_size at called = a_type None ∪ a_type_call at

-- a pattern whose path isn't read is missing
abbrev pub or_missing : Bool → Size → Size
or_missing true a = a
or_missing false a = a_pat None

-- so is the assignee expression, at the outermost call around it
abbrev pub or_missing_target : Option Pointer → Bool → Size → Size
or_missing_target call true a = a
or_missing_target call false a = a_made_pat call
