-- Whether a set has an id.
use Rattle.std.specs.Prelude.{Bool}
use Rattle.std.specs.BTreeSet.{BTreeSet, contains}
use Rattle.std.specs.Ordering.{nat_cmp}
use Rattle.std.specs.declared.cmp.Ordering.{Ordering}
use Rattle.hir_store.specs.declared.ids.BindingId.{BindingId}
use Rattle.hir_store.specs.declared.ids.ExprId.{ExprId}

abbrev pub expr_cmp : ExprId → ExprId → Ordering
expr_cmp d e = nat_cmp d.0 e.0

abbrev pub binding_cmp : BindingId → BindingId → Ordering
binding_cmp b d = nat_cmp b.0 d.0

abbrev pub has_in : BTreeSet ExprId → ExprId → Bool
has_in s e = contains expr_cmp s e

abbrev pub has_seen : BTreeSet BindingId → BindingId → Bool
has_seen s b = contains binding_cmp s b
