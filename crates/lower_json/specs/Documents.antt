-- What a text says, where it is a document.
use Rattle.std.specs.Prelude.{◌≡◌, ℕ, Bool, true, false, codes, List, [], ◌∷◌, Option, Some, None}
use Rattle.std.specs.Prelude.{option_and_then, unwrap_or, IsUtf8}
use Rattle.serde_json.specs.Data.{Data}
use Rattle.serde_json.specs.Find.{as_bool, get}
use Rattle.serde_json.specs.Read.{read}
use Rattle.hir_store.specs.declared.ids.DefWithBodyId.{DefWithBodyId}
use Rattle.hir_store.specs.declared.ids.DefWithBodyId.TheVariants as owner
use Rattle.hir_store.specs.declared.ids.ItemContainerId.{ItemContainerId}
use Rattle.hir_store.specs.declared.ids.ItemContainerId.TheVariants as holder
use Rattle.hir_tables.specs.Tables.{Tables}
use Rattle.hir_env.specs.declared.ctx.LoweringMode.{LoweringMode}
use Rattle.hir_env.specs.declared.ctx.LoweringMode.TheVariants as mode
use Rattle.json_errors.specs.declared.group.Group.{Group}
use Rattle.json_errors.specs.declared.group.Group.TheVariants as group
use Rattle.json_errors.specs.Documents.{document_fault, nodes}
use Rattle.json_errors.specs.Faults.{Fault}
use Rattle.json_errors.specs.Kinds.{kinds_of}
use Rattle.json_nodes.specs.Fields.{number_or, flag_of, text_in}
use Rattle.lower_json.specs.Reading.{tree_at}
use Rattle.lower_json.specs.Aliases.{aliases_of}
use Rattle.lower_json.specs.Environment.{tables_of}
use Rattle.json_errors.specs.ByWord.{with_word}
use Rattle.lower_json.specs.declared.document.Document.{Document}
use Rattle.lower_json.specs.declared.document.Root.{Root}
use Rattle.lower_json.specs.declared.document.Root.TheVariants as root
use Rattle.lower_json.specs.declared.document.Tree.{Tree}

-- the word of an owner
abbrev pub owner_word : DefWithBodyId → List ℕ
owner_word (owner.FunctionId _) = codes "fn"
owner_word (owner.StaticId _) = codes "static"
owner_word (owner.ConstId _) = codes "const"
owner_word (owner.VariantId _) = codes "variant"

-- one of each sort, of number 0
abbrev pub owners : List DefWithBodyId
owners = owner.FunctionId (record { 0 = 0 })
    ∷ owner.StaticId (record { 0 = 0 })
    ∷ owner.ConstId (record { 0 = 0 })
    ∷ owner.VariantId (record { 0 = 0 })
    ∷ []

abbrev owner_in : Data → Option DefWithBodyId
owner_in d = option_and_then (with_word owner_word owners) (text_in (codes "owner") d)

-- the owner that a document names, a function where it names none
abbrev pub owner_of : Data → DefWithBodyId
owner_of d = unwrap_or (owner_in d) (owner.FunctionId (record { 0 = 0 }))

-- the word of a container
abbrev pub container_word : ItemContainerId → List ℕ
container_word (holder.ExternBlockId _) = codes "extern"
container_word (holder.ModuleId _) = codes "module"
container_word (holder.ImplId _) = codes "impl"
container_word (holder.TraitId _) = codes "trait"

-- one of each sort, of number 0
abbrev pub containers : List ItemContainerId
containers = holder.ModuleId (record { 0 = 0 })
    ∷ holder.ExternBlockId (record { 0 = 0 })
    ∷ holder.ImplId (record { 0 = 0 })
    ∷ holder.TraitId (record { 0 = 0 })
    ∷ []

abbrev container_in : Data → Option ItemContainerId
container_in d = option_and_then (with_word container_word containers) (text_in (codes "container") d)

-- the container that a document names, a module where it names none
abbrev pub container_of : Data → ItemContainerId
container_of d = unwrap_or (container_in d) (holder.ModuleId (record { 0 = 0 }))

abbrev pub mode_where : Bool → LoweringMode
mode_where true = mode.Analysis
mode_where false = mode.Untracked

-- the mode of a path, which is analysed unless the document says otherwise
abbrev pub mode_of : Data → LoweringMode
mode_of d = mode_where (unwrap_or (option_and_then as_bool (get (codes "analysis") d)) true)

-- the group of what may stand at the root
abbrev pub group_of : Root → Group
group_of root.Fn = group.Fn
group_of root.Path = group.Path
group_of root.Type_ = group.Type_
group_of root.Pat = group.Pat

-- a document may lack it
abbrev pub is_optional : Root → Bool
is_optional root.Fn = false
is_optional root.Path = false
is_optional root.Type_ = true
is_optional root.Pat = true

abbrev pub tree_of : Root → Data → Tree
tree_of want d = tree_at want (kinds_of (nodes d)) (nodes d) (number_or 0 (get (codes "root") d))

-- whether the body is skipped, which it isn't where the document doesn't say
abbrev pub skip_of : Data → Bool
skip_of d = flag_of (get (codes "skip") d)

abbrev pub env_of : Data → Tables
env_of d = record (tables_of (container_of d) (kinds_of (nodes d)) (nodes d) (get (codes "env") d)) { skip = skip_of d }

-- what a document says
abbrev pub document_of : Root → Data → Document
document_of want d = record {
  tree = tree_of want d;
  owner = owner_of d;
  sources = flag_of (get (codes "sources") d);
  mode = mode_of d;
  env = env_of d;
  aliases = aliases_of (kinds_of (nodes d)) (nodes d) (get (codes "env") d);
}

-- the first fault of a document with such a root, of at most so many nodes
abbrev pub first_fault : Root → Data → Option Fault
first_fault want d = document_fault 1000000 (group_of want) (is_optional want) d

-- the text is a document without fault with such a root, and says that
pub record IsDocument (want : Root) (text : List ℕ) (x : Document) : Type 0 where
  pub utf8 : IsUtf8 text
  pub value : Data
  pub json : read text ≡ Some value
  pub sound : first_fault want value ≡ None
  pub says : x ≡ document_of want value
