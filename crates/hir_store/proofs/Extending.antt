-- What is stored stays.
use Rattle.std.proofs.Common.{[], ◌∷◌, ◌++◌, Option}
use Rattle.std.specs.Prelude.{Ok, Err}
use Rattle.hir_store.specs.Arenas.{Sourced, Adding, Adds, Allocs, with_mapping}
use Rattle.hir_store.specs.Stored.{Stored}
use Rattle.hir_store.specs.FirstMap.{with_first_by}
use Rattle.hir_store.specs.StoreSink.{Checked, Extends, same_expr, same_pat, expr_id, label_id, pat_id, type_id, lifetime_id}
use Rattle.indexmap.specs.IndexMap.{insert_entry}
use Rattle.hir_store.specs.Pointers.{Pointer, same_pointer}
use Rattle.hir_store.specs.Bindings.{Bindings, AddsBinding, with_definition, with_owner, with_problem}
use Rattle.hir_store.specs.declared.ids.LabelId.{LabelId}
use Rattle.hir_store.specs.declared.ids.TypeRefId.{TypeRefId}
use Rattle.hir_store.specs.declared.ids.LifetimeRefId.{LifetimeRefId}
use Rattle.hir_store.specs.declared.ids.PatId.{PatId}
use Rattle.hir_store.specs.declared.ids.BindingId.{BindingId}
use Rattle.hir_store.specs.declared.ids.ExprId.{ExprId}
use Rattle.hir_store.specs.declared.type_ref.TypeRef.{TypeRef}
use Rattle.hir_store.specs.declared.type_ref.LifetimeRef.{LifetimeRef}
use Rattle.hir_store.specs.declared.hir.Expr.{Expr}
use Rattle.hir_store.specs.declared.hir.Label.{Label}
use Rattle.hir_store.specs.declared.pat.Pat.{Pat}
use Rattle.hir_store.specs.declared.pat.Binding.{Binding}
use Rattle.hir_binding.specs.declared.binding.BindingProblems.{BindingProblems}
use Rattle.hir_store.specs.declared.roots.ExprRoot.{ExprRoot}
use Rattle.hir_store.specs.declared.ids.BlockId.{BlockId}
use Rattle.hir_store.specs.declared.expansions.ExpandedCall.{ExpandedCall}
use Rattle.hir_store.specs.declared.diagnostics.ExpressionStoreDiagnostics.{ExpressionStoreDiagnostics}
use Rattle.hir_store.proofs.Arenas.{first_stays, nodes_insert, prefix_refl, prefix_push, prefix_trans}
use Rattle.hir_store.proofs.Arenas.{continues_refl, continues_trans, continues_mapping}
use Rattle.hir_store.proofs.BindingLemmas.{bindings_definition, bindings_owner, bindings_problem, bindings_refl, bindings_trans}

pub extends_refl : (s : Stored) → Extends s s
extends_refl s = record {
  exprs = continues_refl _;
  labels = continues_refl _;
  pats = continues_refl _;
  bindings = bindings_refl _;
  types = continues_refl _;
  lifetimes = continues_refl _;
  roots = prefix_refl _;
  target_nodes = prefix_refl _;
  field_map_back = prefix_refl _;
  pat_field_map_back = prefix_refl _;
  block_scopes = prefix_refl _;
  expansions = prefix_refl _;
  diagnostics = prefix_refl _;
}

pub extends_trans : {a b c : Stored} → Extends a b → Extends b c → Extends a c
extends_trans g h = record {
  exprs = continues_trans g.exprs h.exprs;
  labels = continues_trans g.labels h.labels;
  pats = continues_trans g.pats h.pats;
  bindings = bindings_trans g.bindings h.bindings;
  types = continues_trans g.types h.types;
  lifetimes = continues_trans g.lifetimes h.lifetimes;
  roots = prefix_trans g.roots h.roots;
  target_nodes = prefix_trans g.target_nodes h.target_nodes;
  field_map_back = prefix_trans g.field_map_back h.field_map_back;
  pat_field_map_back = prefix_trans g.pat_field_map_back h.pat_field_map_back;
  block_scopes = prefix_trans g.block_scopes h.block_scopes;
  expansions = prefix_trans g.expansions h.expansions;
  diagnostics = prefix_trans g.diagnostics h.diagnostics;
}

pub extends_expr : (s : Stored) (step : Adding Expr ExprId) (e : Expr) (r : Checked ExprId) (a : Sourced Expr ExprId)
    → Adds step expr_id e s.exprs r a → Extends s (record s { exprs = a })
extends_expr s step e (Ok id) a h = record {
  exprs = h.1;
  labels = continues_refl s.labels;
  pats = continues_refl s.pats;
  bindings = bindings_refl s.bindings;
  types = continues_refl s.types;
  lifetimes = continues_refl s.lifetimes;
  roots = prefix_refl s.roots;
  target_nodes = prefix_refl _;
  field_map_back = prefix_refl s.field_map_back;
  pat_field_map_back = prefix_refl s.pat_field_map_back;
  block_scopes = prefix_refl s.block_scopes;
  expansions = prefix_refl s.expansions;
  diagnostics = prefix_refl s.diagnostics;
}
extends_expr s step e (Err f) a h = rw h.0 (extends_refl s)

pub extends_label : (s : Stored) (x : Label) (source : Option Pointer) (r : Checked LabelId) (a : Sourced Label LabelId)
    → Allocs label_id x source s.labels r a → Extends s (record s { labels = a })
extends_label s x source (Ok id) a h = record {
  exprs = continues_refl s.exprs;
  labels = h.1;
  pats = continues_refl s.pats;
  bindings = bindings_refl s.bindings;
  types = continues_refl s.types;
  lifetimes = continues_refl s.lifetimes;
  roots = prefix_refl s.roots;
  target_nodes = prefix_refl _;
  field_map_back = prefix_refl s.field_map_back;
  pat_field_map_back = prefix_refl s.pat_field_map_back;
  block_scopes = prefix_refl s.block_scopes;
  expansions = prefix_refl s.expansions;
  diagnostics = prefix_refl s.diagnostics;
}
extends_label s x source (Err f) a h = rw h.0 (extends_refl s)

pub extends_type : (s : Stored) (t : TypeRef) (source : Option Pointer) (r : Checked TypeRefId) (a : Sourced TypeRef TypeRefId)
    → Allocs type_id t source s.types r a → Extends s (record s { types = a })
extends_type s t source (Ok id) a h = record {
  exprs = continues_refl s.exprs;
  labels = continues_refl s.labels;
  pats = continues_refl s.pats;
  bindings = bindings_refl s.bindings;
  types = h.1;
  lifetimes = continues_refl s.lifetimes;
  roots = prefix_refl s.roots;
  target_nodes = prefix_refl _;
  field_map_back = prefix_refl s.field_map_back;
  pat_field_map_back = prefix_refl s.pat_field_map_back;
  block_scopes = prefix_refl s.block_scopes;
  expansions = prefix_refl s.expansions;
  diagnostics = prefix_refl s.diagnostics;
}
extends_type s t source (Err f) a h = rw h.0 (extends_refl s)

pub extends_lifetime : (s : Stored) (x : LifetimeRef) (source : Option Pointer) (r : Checked LifetimeRefId)
    (a : Sourced LifetimeRef LifetimeRefId)
    → Allocs lifetime_id x source s.lifetimes r a → Extends s (record s { lifetimes = a })
extends_lifetime s x source (Ok id) a h = record {
  exprs = continues_refl s.exprs;
  labels = continues_refl s.labels;
  pats = continues_refl s.pats;
  bindings = bindings_refl s.bindings;
  types = continues_refl s.types;
  lifetimes = h.1;
  roots = prefix_refl s.roots;
  target_nodes = prefix_refl _;
  field_map_back = prefix_refl s.field_map_back;
  pat_field_map_back = prefix_refl s.pat_field_map_back;
  block_scopes = prefix_refl s.block_scopes;
  expansions = prefix_refl s.expansions;
  diagnostics = prefix_refl s.diagnostics;
}
extends_lifetime s x source (Err f) a h = rw h.0 (extends_refl s)

pub extends_point : (s : Stored) (p : Pointer) (id : ExprId) → Extends s (record s { exprs = with_mapping s.exprs p id })
extends_point s p id = record {
  exprs = continues_mapping s.exprs p id;
  labels = continues_refl s.labels;
  pats = continues_refl s.pats;
  bindings = bindings_refl s.bindings;
  types = continues_refl s.types;
  lifetimes = continues_refl s.lifetimes;
  roots = prefix_refl s.roots;
  target_nodes = prefix_refl _;
  field_map_back = prefix_refl s.field_map_back;
  pat_field_map_back = prefix_refl s.pat_field_map_back;
  block_scopes = prefix_refl s.block_scopes;
  expansions = prefix_refl s.expansions;
  diagnostics = prefix_refl s.diagnostics;
}

pub extends_report : (s : Stored) (d : ExpressionStoreDiagnostics) → Extends s (record s { diagnostics = s.diagnostics ++ d ∷ [] })
extends_report s d = record {
  exprs = continues_refl s.exprs;
  labels = continues_refl s.labels;
  pats = continues_refl s.pats;
  bindings = bindings_refl s.bindings;
  types = continues_refl s.types;
  lifetimes = continues_refl s.lifetimes;
  roots = prefix_refl s.roots;
  target_nodes = prefix_refl _;
  field_map_back = prefix_refl s.field_map_back;
  pat_field_map_back = prefix_refl s.pat_field_map_back;
  block_scopes = prefix_refl s.block_scopes;
  expansions = prefix_refl s.expansions;
  diagnostics = prefix_push s.diagnostics d;
}

pub extends_expansion : (s : Stored) (c : ExpandedCall) → Extends s (record s { expansions = s.expansions ++ c ∷ [] })
extends_expansion s c = record {
  exprs = continues_refl s.exprs;
  labels = continues_refl s.labels;
  pats = continues_refl s.pats;
  bindings = bindings_refl s.bindings;
  types = continues_refl s.types;
  lifetimes = continues_refl s.lifetimes;
  roots = prefix_refl s.roots;
  target_nodes = prefix_refl _;
  field_map_back = prefix_refl s.field_map_back;
  pat_field_map_back = prefix_refl s.pat_field_map_back;
  block_scopes = prefix_refl s.block_scopes;
  expansions = prefix_push s.expansions c;
  diagnostics = prefix_refl s.diagnostics;
}

pub extends_block : (s : Stored) (b : BlockId) → Extends s (record s { block_scopes = s.block_scopes ++ b ∷ [] })
extends_block s b = record {
  exprs = continues_refl s.exprs;
  labels = continues_refl s.labels;
  pats = continues_refl s.pats;
  bindings = bindings_refl s.bindings;
  types = continues_refl s.types;
  lifetimes = continues_refl s.lifetimes;
  roots = prefix_refl s.roots;
  target_nodes = prefix_refl _;
  field_map_back = prefix_refl s.field_map_back;
  pat_field_map_back = prefix_refl s.pat_field_map_back;
  block_scopes = prefix_push s.block_scopes b;
  expansions = prefix_refl s.expansions;
  diagnostics = prefix_refl s.diagnostics;
}

pub extends_root : (s : Stored) (r : ExprRoot) → Extends s (record s { roots = s.roots ++ r ∷ [] })
extends_root s r = record {
  exprs = continues_refl s.exprs;
  labels = continues_refl s.labels;
  pats = continues_refl s.pats;
  bindings = bindings_refl s.bindings;
  types = continues_refl s.types;
  lifetimes = continues_refl s.lifetimes;
  roots = prefix_push s.roots r;
  target_nodes = prefix_refl _;
  field_map_back = prefix_refl s.field_map_back;
  pat_field_map_back = prefix_refl s.pat_field_map_back;
  block_scopes = prefix_refl s.block_scopes;
  expansions = prefix_refl s.expansions;
  diagnostics = prefix_refl s.diagnostics;
}

pub extends_field : (s : Stored) (id : ExprId) (p : Pointer)
    → Extends s (record s { field_map_back = with_first_by same_expr s.field_map_back id p })
extends_field s id p = record {
  exprs = continues_refl s.exprs;
  labels = continues_refl s.labels;
  pats = continues_refl s.pats;
  bindings = bindings_refl s.bindings;
  types = continues_refl s.types;
  lifetimes = continues_refl s.lifetimes;
  roots = prefix_refl s.roots;
  target_nodes = prefix_refl _;
  field_map_back = first_stays same_expr s.field_map_back id p;
  pat_field_map_back = prefix_refl s.pat_field_map_back;
  block_scopes = prefix_refl s.block_scopes;
  expansions = prefix_refl s.expansions;
  diagnostics = prefix_refl s.diagnostics;
}

pub extends_pat : (s : Stored) (step : Adding Pat PatId) (x : Pat) (r : Checked PatId) (a : Sourced Pat PatId)
    → Adds step pat_id x s.pats r a → Extends s (record s { pats = a })
extends_pat s step x (Ok id) a h = record {
  exprs = continues_refl s.exprs;
  labels = continues_refl s.labels;
  pats = h.1;
  bindings = bindings_refl s.bindings;
  types = continues_refl s.types;
  lifetimes = continues_refl s.lifetimes;
  roots = prefix_refl s.roots;
  target_nodes = prefix_refl _;
  field_map_back = prefix_refl s.field_map_back;
  pat_field_map_back = prefix_refl s.pat_field_map_back;
  block_scopes = prefix_refl s.block_scopes;
  expansions = prefix_refl s.expansions;
  diagnostics = prefix_refl s.diagnostics;
}
extends_pat s step x (Err f) a h = rw h.0 (extends_refl s)

pub extends_binding : (s : Stored) (x : Binding) (r : Checked BindingId) (a : Bindings)
    → AddsBinding x s.bindings r a → Extends s (record s { bindings = a })
extends_binding s x (Ok id) a h = record {
  exprs = continues_refl s.exprs;
  labels = continues_refl s.labels;
  pats = continues_refl s.pats;
  bindings = h.1;
  types = continues_refl s.types;
  lifetimes = continues_refl s.lifetimes;
  roots = prefix_refl s.roots;
  target_nodes = prefix_refl _;
  field_map_back = prefix_refl s.field_map_back;
  pat_field_map_back = prefix_refl s.pat_field_map_back;
  block_scopes = prefix_refl s.block_scopes;
  expansions = prefix_refl s.expansions;
  diagnostics = prefix_refl s.diagnostics;
}
extends_binding s x (Err f) a h = rw h.0 (extends_refl s)

pub extends_definition : (s : Stored) (id : BindingId) (p : PatId)
    → Extends s (record s { bindings = with_definition s.bindings id p })
extends_definition s id p = record {
  exprs = continues_refl s.exprs;
  labels = continues_refl s.labels;
  pats = continues_refl s.pats;
  bindings = bindings_definition s.bindings id p;
  types = continues_refl s.types;
  lifetimes = continues_refl s.lifetimes;
  roots = prefix_refl s.roots;
  target_nodes = prefix_refl _;
  field_map_back = prefix_refl s.field_map_back;
  pat_field_map_back = prefix_refl s.pat_field_map_back;
  block_scopes = prefix_refl s.block_scopes;
  expansions = prefix_refl s.expansions;
  diagnostics = prefix_refl s.diagnostics;
}

pub extends_problem : (s : Stored) (id : BindingId) (problem : Option BindingProblems)
    → Extends s (record s { bindings = with_problem s.bindings id problem })
extends_problem s id problem = record {
  exprs = continues_refl s.exprs;
  labels = continues_refl s.labels;
  pats = continues_refl s.pats;
  bindings = bindings_problem s.bindings id problem;
  types = continues_refl s.types;
  lifetimes = continues_refl s.lifetimes;
  roots = prefix_refl s.roots;
  target_nodes = prefix_refl _;
  field_map_back = prefix_refl s.field_map_back;
  pat_field_map_back = prefix_refl s.pat_field_map_back;
  block_scopes = prefix_refl s.block_scopes;
  expansions = prefix_refl s.expansions;
  diagnostics = prefix_refl s.diagnostics;
}

pub extends_owner : (s : Stored) (start : BindingId) (id : ExprId)
    → Extends s (record s { bindings = with_owner s.bindings start id })
extends_owner s start id = record {
  exprs = continues_refl s.exprs;
  labels = continues_refl s.labels;
  pats = continues_refl s.pats;
  bindings = bindings_owner s.bindings start id;
  types = continues_refl s.types;
  lifetimes = continues_refl s.lifetimes;
  roots = prefix_refl s.roots;
  target_nodes = prefix_refl _;
  field_map_back = prefix_refl s.field_map_back;
  pat_field_map_back = prefix_refl s.pat_field_map_back;
  block_scopes = prefix_refl s.block_scopes;
  expansions = prefix_refl s.expansions;
  diagnostics = prefix_refl s.diagnostics;
}

pub extends_point_pat : (s : Stored) (p : Pointer) (id : PatId) → Extends s (record s { pats = with_mapping s.pats p id })
extends_point_pat s p id = record {
  exprs = continues_refl s.exprs;
  labels = continues_refl s.labels;
  pats = continues_mapping s.pats p id;
  bindings = bindings_refl s.bindings;
  types = continues_refl s.types;
  lifetimes = continues_refl s.lifetimes;
  roots = prefix_refl s.roots;
  target_nodes = prefix_refl _;
  field_map_back = prefix_refl s.field_map_back;
  pat_field_map_back = prefix_refl s.pat_field_map_back;
  block_scopes = prefix_refl s.block_scopes;
  expansions = prefix_refl s.expansions;
  diagnostics = prefix_refl s.diagnostics;
}

pub extends_point_target : (s : Stored) (p : Pointer) (id : PatId)
    → Extends s (record s { target_map = insert_entry same_pointer s.target_map p id })
extends_point_target s p id = record {
  exprs = continues_refl s.exprs;
  labels = continues_refl s.labels;
  pats = continues_refl s.pats;
  bindings = bindings_refl s.bindings;
  types = continues_refl s.types;
  lifetimes = continues_refl s.lifetimes;
  roots = prefix_refl s.roots;
  target_nodes = nodes_insert s.target_map p id;
  field_map_back = prefix_refl s.field_map_back;
  pat_field_map_back = prefix_refl s.pat_field_map_back;
  block_scopes = prefix_refl s.block_scopes;
  expansions = prefix_refl s.expansions;
  diagnostics = prefix_refl s.diagnostics;
}

pub extends_point_type : (s : Stored) (p : Pointer) (id : TypeRefId) → Extends s (record s { types = with_mapping s.types p id })
extends_point_type s p id = record {
  exprs = continues_refl s.exprs;
  labels = continues_refl s.labels;
  pats = continues_refl s.pats;
  bindings = bindings_refl s.bindings;
  types = continues_mapping s.types p id;
  lifetimes = continues_refl s.lifetimes;
  roots = prefix_refl s.roots;
  target_nodes = prefix_refl _;
  field_map_back = prefix_refl s.field_map_back;
  pat_field_map_back = prefix_refl s.pat_field_map_back;
  block_scopes = prefix_refl s.block_scopes;
  expansions = prefix_refl s.expansions;
  diagnostics = prefix_refl s.diagnostics;
}

pub extends_pat_field : (s : Stored) (id : PatId) (p : Pointer)
    → Extends s (record s { pat_field_map_back = with_first_by same_pat s.pat_field_map_back id p })
extends_pat_field s id p = record {
  exprs = continues_refl s.exprs;
  labels = continues_refl s.labels;
  pats = continues_refl s.pats;
  bindings = bindings_refl s.bindings;
  types = continues_refl s.types;
  lifetimes = continues_refl s.lifetimes;
  roots = prefix_refl s.roots;
  target_nodes = prefix_refl _;
  field_map_back = prefix_refl s.field_map_back;
  pat_field_map_back = first_stays same_pat s.pat_field_map_back id p;
  block_scopes = prefix_refl s.block_scopes;
  expansions = prefix_refl s.expansions;
  diagnostics = prefix_refl s.diagnostics;
}
