-- Entries by their numbers, nodes and names.
use Rattle.std.specs.Prelude.{Option, Some, None, false, option_and_then, option_map}
use Rattle.hir_store.specs.declared.ids.ExprId.{ExprId}
use Rattle.hir_store.specs.declared.ids.PatId.{PatId}
use Rattle.hir_store.specs.declared.ids.BindingId.{BindingId}
use Rattle.hir_store.specs.declared.ids.LabelId.{LabelId}
use Rattle.hir_store.specs.declared.ids.TypeRefId.{TypeRefId}
use Rattle.hir_store.specs.declared.ids.LifetimeRefId.{LifetimeRefId}
use Rattle.hir_store.specs.declared.ids.CrateId.{CrateId}
use Rattle.hir_store.specs.declared.ids.LangItemId.{LangItemId}
use Rattle.hir_store.specs.declared.ids.CfgId.{CfgId}
use Rattle.hir_store.specs.declared.ids.HygieneId.{HygieneId}
use Rattle.hir_store.specs.declared.ids.MacroDefId.{MacroDefId}
use Rattle.hir_store.specs.declared.ids.BlockId.{BlockId}
use Rattle.hir_store.specs.declared.ids.LocalTypeOrConstParamId.{LocalTypeOrConstParamId}
use Rattle.hir_store.specs.declared.ids.LocalLifetimeParamId.{LocalLifetimeParamId}
use Rattle.hir_store.specs.declared.ids.AdtId.{AdtId}
use Rattle.hir_store.specs.declared.ids.ConstId.{ConstId}
use Rattle.hir_store.specs.declared.ids.FunctionId.{FunctionId}
use Rattle.hir_store.specs.declared.ids.ImplId.{ImplId}
use Rattle.hir_store.specs.declared.ids.StaticId.{StaticId}
use Rattle.hir_store.specs.declared.ids.TraitId.{TraitId}
use Rattle.hir_store.specs.declared.ids.TypeAliasId.{TypeAliasId}
use Rattle.hir_base.specs.declared.node.HirFileId.{HirFileId}
use Rattle.hir_base.specs.declared.node.InFile.{InFile}
use Rattle.hir_base.specs.declared.node.NodeId.{NodeId}
use Rattle.hir_base.specs.declared.node.TextRange.{TextRange}
use Rattle.hir_store.specs.Pointers.{Pointer}
use Rattle.hir_store.specs.declared.name.Name.{Name}
use Rattle.hir_store.specs.declared.name.Name.TheVariants as name_of
use Rattle.hir_store.specs.declared.type_ref.ConstRef.{ConstRef}
use Rattle.serde_json.specs.Data.{Data, array, boolean, item, no_items, string}
use Rattle.thm_result_json.specs.Codec.{Codec, as_count, both, by, count_codec, text_codec}

abbrev pub expr_id : Codec ExprId
expr_id = by (λ i. i.0) (λ n. Some (record { 0 = n })) count_codec

abbrev pub pat_id : Codec PatId
pat_id = by (λ i. i.0) (λ n. Some (record { 0 = n })) count_codec

abbrev pub binding_id : Codec BindingId
binding_id = by (λ i. i.0) (λ n. Some (record { 0 = n })) count_codec

abbrev pub label_id : Codec LabelId
label_id = by (λ i. i.0) (λ n. Some (record { 0 = n })) count_codec

abbrev pub type_id : Codec TypeRefId
type_id = by (λ i. i.0) (λ n. Some (record { 0 = n })) count_codec

abbrev pub lifetime_id : Codec LifetimeRefId
lifetime_id = by (λ i. i.0) (λ n. Some (record { 0 = n })) count_codec

abbrev pub crate_id : Codec CrateId
crate_id = by (λ i. i.0) (λ n. Some (record { 0 = n })) count_codec

abbrev pub lang_item : Codec LangItemId
lang_item = by (λ i. i.0) (λ n. Some (record { 0 = n })) count_codec

abbrev pub cfg : Codec CfgId
cfg = by (λ i. i.0) (λ n. Some (record { 0 = n })) count_codec

abbrev pub hygiene : Codec HygieneId
hygiene = by (λ i. i.0) (λ n. Some (record { 0 = n })) count_codec

abbrev pub macro_def : Codec MacroDefId
macro_def = by (λ i. i.0) (λ n. Some (record { 0 = n })) count_codec

abbrev pub block : Codec BlockId
block = by (λ i. i.0) (λ n. Some (record { 0 = n })) count_codec

abbrev pub type_place : Codec LocalTypeOrConstParamId
type_place = by (λ i. i.0) (λ n. Some (record { 0 = n })) count_codec

abbrev pub lifetime_place : Codec LocalLifetimeParamId
lifetime_place = by (λ i. i.0) (λ n. Some (record { 0 = n })) count_codec

abbrev pub adt_id : Codec AdtId
adt_id = by (λ i. i.0) (λ n. Some (record { 0 = n })) count_codec

abbrev pub const_id : Codec ConstId
const_id = by (λ i. i.0) (λ n. Some (record { 0 = n })) count_codec

abbrev pub function_id : Codec FunctionId
function_id = by (λ i. i.0) (λ n. Some (record { 0 = n })) count_codec

abbrev pub impl_id : Codec ImplId
impl_id = by (λ i. i.0) (λ n. Some (record { 0 = n })) count_codec

abbrev pub static_id : Codec StaticId
static_id = by (λ i. i.0) (λ n. Some (record { 0 = n })) count_codec

abbrev pub trait_id : Codec TraitId
trait_id = by (λ i. i.0) (λ n. Some (record { 0 = n })) count_codec

abbrev pub alias_id : Codec TypeAliasId
alias_id = by (λ i. i.0) (λ n. Some (record { 0 = n })) count_codec

abbrev pub file : Codec HirFileId
file = by (λ i. i.0) (λ n. Some (record { 0 = n })) count_codec

-- a constant, by the expression that it is
abbrev pub const_ref : Codec ConstRef
const_ref = by (λ c. c.expr) (λ e. Some (record { expr = e })) expr_id

-- a range: `[5, 6]`
abbrev pub range : Codec TextRange
range = by (λ r. (r.start, r.end)) (λ q. Some (record { start = q.0; end = q.1 })) (both count_codec count_codec)

-- a node in its file, without its range: `[0, 5]`
abbrev pub call : Codec (InFile NodeId)
call = by (λ p. (p.file_id.0, p.value.0)) (λ q. Some (record { file_id = record { 0 = q.0 }; value = record { 0 = q.1 } }))
    (both count_codec count_codec)

-- a node: its file, its number, its start and its end: `[0, 5, 5, 6]`
abbrev pub pointer_data : Pointer → Data
pointer_data p = array (item ((count_codec).to p.file_id.0) (item ((count_codec).to p.value.node.0)
    (item ((count_codec).to p.value.range.start) (item ((count_codec).to p.value.range.end) no_items))))

abbrev pub pointer_of : Data → Option Pointer
pointer_of (array (item a (item b (item c (item d no_items))))) =
    option_and_then (λ file. option_and_then (λ node. option_and_then (λ start. option_map (λ end. record {
      file_id = record { 0 = file };
      value = record { node = record { 0 = node }; range = record { start = start; end = end } };
    }) (as_count d)) (as_count c)) (as_count b)) (as_count a)
pointer_of _ = None

abbrev pub pointer : Codec Pointer
pointer = record { to = pointer_data; from = pointer_of }

-- a name: a text, its number where it is made up, or `false` where it is missing
abbrev pub name_data : Name → Data
name_data (name_of.Text t) = (text_codec).to t
name_data name_of.Missing = boolean false
name_data (name_of.Generated n) = (count_codec).to n

abbrev pub data_name : Data → Option Name
data_name (string t) = Some (name_of.Text t)
data_name (boolean b) = Some name_of.Missing
data_name d = option_map (λ n. name_of.Generated n) (as_count d)

abbrev pub name : Codec Name
name = record { to = name_data; from = data_name }
