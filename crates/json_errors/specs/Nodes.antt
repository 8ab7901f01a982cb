-- The first fault of the nodes of a list.
use Rattle.std.specs.Prelude.{◌≡◌, ℕ, suc, Bool, true, false, not, List, [], ◌∷◌, Option, Some, None, is_some, bytes_eq, codes}
use Rattle.std.specs.Prelude.{length, option_and_then, slice_index_or, unwrap_or, Result, Ok, Err}
use Rattle.serde_json.specs.Data.{Data, string, Items, no_items, item}
use Rattle.serde_json.specs.Find.{get, as_array, as_object, as_str, as_bool}
use Rattle.json_errors.specs.Values.{all_items, index_of, small_of, is_range, is_word, is_part, is_between}
use Rattle.json_errors.specs.Literals.{is_integer, is_truth}
use Rattle.json_errors.specs.Levels.{below, use_each, first_unused, first_deep}
use Rattle.json_errors.specs.Kinds.{kind_at, is_of_group}
use Rattle.json_errors.specs.Faults.{Fault, fault_of}
use Rattle.json_errors.specs.Faults as fault
use Rattle.json_errors.specs.Members.{said}
use Rattle.json_errors.specs.declared.fault.Fault as rust
use Rattle.json_errors.specs.Rows.{NamedSort}
use Rattle.json_errors.specs.Table.{row}
use Rattle.json_errors.specs.Words.{words}
use Rattle.json_errors.specs.declared.field.Sort.{Sort}
use Rattle.json_errors.specs.declared.field.Sort.TheVariants as sort
use Rattle.json_errors.specs.declared.kind.Kind.{Kind}
use Rattle.json_errors.specs.declared.group.Group.{Group}
use Rattle.json_errors.specs.declared.group.Group.TheVariants as group
use Rattle.json_errors.specs.declared.listed.ListedNode.{ListedNode}

-- one after the other, up to the first fault
infixl 10 ◌>>=◌
abbrev pub ◌>>=◌ : {A B : Type 0} → Result A Fault → (A → Result B Fault) → Result B Fault
(Ok x) >>= f = f x
(Err e) >>= f = Err e

-- the fault, unless the test holds
abbrev pub wanted : Bool → Fault → Result (Unit {0}) Fault
wanted true f = Ok tt
wanted false f = Err f

-- the fault, unless there is something
abbrev pub there : {A : Type 0} → Option A → Fault → Result A Fault
there (Some x) f = Ok x
there None f = Err f

abbrev index_serves : List (Option Kind) → Group → Option ℕ → Bool
index_serves kinds g None = true
index_serves kinds g (Some k) = is_of_group kinds g k

-- a number is the index of a node of the group
abbrev pub has_part : List (Option Kind) → Group → Data → Bool
has_part kinds g d = index_serves kinds g (index_of d)

abbrev is_text : List ℕ → Option Data → Bool
is_text t (Some (string s)) = bytes_eq s t
is_text t _ = false

-- the field is the text
abbrev pub says : List ℕ → List ℕ → Data → Bool
says name t d = is_text t (get name d)

-- the field is a flag that is set
abbrev pub is_set : List ℕ → Data → Bool
is_set name d = unwrap_or (option_and_then as_bool (get name d)) false

-- the text of a number or of a truth value is one
abbrev pub literal_sort : Bool → Bool → Sort
literal_sort true b = sort.Integer
literal_sort false true = sort.Truth
literal_sort false false = sort.Text

-- a modifier excludes a label
abbrev label_sort : Option Data → Sort
label_sort None = sort.Part group.Label
label_sort (Some d) = sort.Excluded

-- of all modifiers `try` alone has a type behind it
abbrev pub type_sort : Bool → Sort
type_sort true = sort.Part group.Type_
type_sort false = sort.Excluded

-- an array has elements without a semicolon, and with one what is repeated, and how often
abbrev pub elements_sort : Bool → Sort
elements_sort true = sort.PassedOver
elements_sort false = sort.List group.Expr

abbrev pub repeated_sort : Bool → Sort
repeated_sort true = sort.Part group.Expr
repeated_sort false = sort.PassedOver

-- what a field holds, in the light of the others
abbrev pub sort_at : Data → Sort → Sort
sort_at d sort.LiteralText = literal_sort (says (codes "lit") (codes "int") d) (says (codes "lit") (codes "bool") d)
sort_at d sort.PlainLabel = label_sort (get (codes "mod") d)
sort_at d sort.TryType = type_sort (says (codes "mod") (codes "try") d)
sort_at d sort.Elements = elements_sort (is_set (codes "semi") d)
sort_at d sort.Repeated = repeated_sort (is_set (codes "semi") d)
sort_at d s = s

-- a field of the sort must be there
abbrev pub is_owed : Sort → Bool
is_owed sort.Text = true
is_owed (sort.Word _) = true
is_owed sort.Integer = true
is_owed sort.Truth = true
is_owed _ = false

-- a text of which the test holds
abbrev pub text_is : (List ℕ → Bool) → Option (List ℕ) → Bool
text_is test None = false
text_is test (Some t) = test t

-- a value without parts fits the sort
abbrev pub fits : Sort → Data → Bool
fits sort.Text d = is_some (as_str d)
fits sort.TextIfThere d = is_some (as_str d)
fits (sort.Word set) d = is_word (words set) d
fits (sort.WordIfThere set) d = is_word (words set) d
fits sort.Flag d = is_some (as_bool d)
fits sort.Number d = is_some (small_of d)
fits sort.Range d = is_range d
fits sort.Integer d = text_is is_integer (as_str d)
fits sort.Truth d = text_is is_truth (as_str d)
fits sort.PassedOver d = true
fits _ d = false

-- a node of a list, and the kinds of all
pub record InList : Type 0 where
  pub kinds : List (Option Kind)
  pub at : ℕ
  pub node : Data

abbrev pub node_in : List (Option Kind) → ℕ → Data → InList
node_in kinds at d = record { kinds = kinds; at = at; node = d }

abbrev pub in_list : ListedNode → InList
in_list p = node_in p.kinds.now p.at (said p.node.now)

-- the fields of every kind
abbrev pub heading : List NamedSort
heading = record { name = codes "id"; sort = sort.Number } ∷ record { name = codes "r"; sort = sort.Range } ∷ []

-- the levels of nodes, from those before
module _ (h : InList) where
  -- of the parts in a field: all by their type, then all by index, then all by use, then all by group
  abbrev pub parts : List ℕ → Group → Bool → Items → List ℕ → Result (List ℕ) Fault
  parts name g nulls ds levels = do
    _ ← wanted (all_items (is_part g nulls) ds) (fault.Field h.at name)
    _ ← wanted (all_items (is_between h.at (length h.kinds)) ds) (fault.Index h.at name)
    next ← there (use_each (below (slice_index_or levels h.at 0)) levels ds) (fault.UsedTwice h.at name)
    _ ← wanted (all_items (has_part h.kinds g) ds) (fault.Field h.at name)
    Ok next

  abbrev pub list : List ℕ → Group → Bool → Option Items → List ℕ → Result (List ℕ) Fault
  list name g nulls None levels = Err (fault.Field h.at name)
  list name g nulls (Some ds) levels = parts name g nulls ds levels

  -- of a value in a field
  abbrev pub value : List ℕ → Sort → Data → List ℕ → Result (List ℕ) Fault
  value name (sort.Part g) d levels = parts name g false (item d no_items) levels
  value name (sort.List g) d levels = list name g false (as_array d) levels
  value name (sort.ListWithNulls g) d levels = list name g true (as_array d) levels
  value name s d levels = do
    _ ← wanted (fits s d) (fault.Field h.at name)
    Ok levels

  abbrev value_if_there : List ℕ → Sort → Option Data → List ℕ → Result (List ℕ) Fault
  value_if_there name s (Some d) levels = value name s d levels
  value_if_there name s None levels = do
    _ ← wanted (not (is_owed s)) (fault.Field h.at name)
    Ok levels

  abbrev pub field : NamedSort → List ℕ → Result (List ℕ) Fault
  field f levels = value_if_there f.name (sort_at h.node f.sort) (get f.name h.node) levels

  abbrev pub fields : List NamedSort → List ℕ → Result (List ℕ) Fault
  fields [] levels = Ok levels
  fields (f ∷ fs) levels = do
    next ← field f levels
    fields fs next

  -- of a node
  abbrev pub node : List ℕ → Result (List ℕ) Fault
  node levels = do
    _ ← there (as_object h.node) (fault.NotAnObject h.at)
    k ← there (kind_at h.kinds h.at) (fault.Kind h.at)
    next ← fields heading levels
    fields (row k).fields next

-- of the nodes from one on
abbrev pub nodes_from : List (Option Kind) → ℕ → Items → List ℕ → Result (List ℕ) Fault
nodes_from kinds at no_items levels = Ok levels
nodes_from kinds at (item d ds) levels = do
  next ← node (node_in kinds at d) levels
  nodes_from kinds (suc at) ds next

abbrev none_first : Option ℕ → (ℕ → Fault) → Result (Unit {0}) Fault
none_first None f = Ok tt
none_first (Some at) f = Err (f at)

-- each is used, and none too deep
abbrev pub all_levels : List ℕ → Result (List ℕ) Fault
all_levels levels = do
  _ ← none_first (first_unused 0 levels) fault.Unused
  _ ← none_first (first_deep 0 levels) fault.TooDeep
  Ok levels

-- a walk leaves the levels, or stops at the fault
abbrev pub Walks : Result (List ℕ) Fault → Result (Unit {0}) rust.Fault → List ℕ → Type 0
Walks walked (Ok _) new = walked ≡ Ok new
Walks walked (Err f) new = walked ≡ Err (fault_of f)
