-- What ways there are more once something is stored.
use Rattle.std.proofs.Common.{arith, ◌≡◌, ◌∙◌, refl, sym, ap, subst, ℕ, ◌<◌, ◌≤◌, ◌+◌, length, length-append, nat_lt, Bool, true, false}
use Rattle.std.proofs.Common.{List, [], ◌∷◌, ◌++◌, append-nil, Option, Some, None, Contains, ◌⊎◌, inl, inr, ⊎_elim}
use Rattle.std.proofs.lemmas.List.Elements.{Contains-append_left, Contains-append_right, Contains-push}
use Rattle.std.proofs.lemmas.Bool.{ltb-true, ltb-false}
use Rattle.hir_binding.specs.declared.binding.BindingProblems.{BindingProblems}
use Rattle.hir_store.specs.Bindings.{binding_id, problem_set}
use Rattle.hir_store.specs.Pointers.{Pointer}
use Rattle.hir_store.specs.Stored.{Stored, map_of}
use Rattle.hir_store.specs.StoreSink.{expr_id, label_id}
use Rattle.hir_store.proofs.BindingLemmas.{length_at}
use Rattle.hir_store.specs.declared.diagnostics.ExpressionStoreDiagnostics.{ExpressionStoreDiagnostics}
use Rattle.hir_store.specs.declared.hir.Expr.{Expr}
use Rattle.hir_store.specs.declared.ids.BindingId.{BindingId}
use Rattle.hir_store.specs.declared.ids.ExprId.{ExprId}
use Rattle.hir_store.specs.declared.ids.LabelId.{LabelId}
use Rattle.hir_store.specs.declared.ids.PatId.{PatId}
use Rattle.hir_store.specs.declared.pat.Binding.{Binding}
use Rattle.hir_store.specs.declared.pat.Pat.{Pat}
use Rattle.hir_store.specs.declared.pat.Pat.TheVariants as pat
use Rattle.hir_env.specs.ResolvedTree.{Label}
use Rattle.thm_logic.proofs.Calls.{pointing_pat, pointing_target}
use Rattle.thm_logic.proofs.MadeSteps.{put_made}
use Rattle.thm_logic.proofs.PatSteps.{defining, put_made_pat, with_field_pat, with_new_binding, with_pat, with_problem_of}
use Rattle.thm_logic.proofs.Steps.{pointing, with_expr, with_fault, with_field, with_label}
use Rattle.thm_body_result.specs.Definitions.{DefinitionsAre}
use Rattle.thm_body_result.specs.Theorems.{Defined, MayBeOwned}
use Rattle.thm_body_result.specs.Leads.{Mapping, expr_mapping, label_mapping, unled_mapping, field_mapping, pat_field_mapping}
use Rattle.thm_body_result.specs.Leads.{binding_mapping, label_mappings, Covers}
use Rattle.thm_body_result.specs.Leads.{CoversLabels, CoversBindings, Led, Mappings, OneMapping, OneUnled, OneLabelMapping, OneFieldMapping}
use Rattle.thm_body_result.specs.Leads.{OnePatFieldMapping, OneBindingMapping, ◌&◌}
use Rattle.thm_body_result.proofs.Defining.{MakesNone, defined_pat, defined_binding, defined_bind}
use Rattle.thm_body_result.proofs.Led.{led_still, led_expr, led_made, led_point, led_unled, led_binding, led_label, led_field}
use Rattle.thm_body_result.proofs.Led.{led_pat_field}
use Rattle.thm_body_result.proofs.Led.{led_then, led_swap, contains_swap, two_more, third, led_third}
use Rattle.thm_body_result.proofs.OwnersMoved.{OwnersMoved, owners_as, owners_binding, owners_still, owners_then}

-- which expressions, labels and bindings are ends of ways

module _ {I : Type 0} (place : I → ℕ) (E : List Mapping → I → Type 0) where
  -- so it is of each number from one on and below another
  abbrev Covered : List Mapping → ℕ → ℕ → Type 0
  Covered ws from to = (i : I) → from ≤ place i → place i < to → E ws i

  covered_none : (ws : List Mapping) {n m : ℕ} → m ≤ n → Covered ws n m
  covered_none ws le = λ i from to. absurd (omega arith)

  covered_then : (us vs ws : List Mapping) (n m k : ℕ) → ((i : I) → E us i → E ws i) → ((i : I) → E vs i → E ws i)
      → Covered us n m → Covered vs m k → Covered ws n k
  covered_then us vs ws n m k f f' g h = λ i from to. by i from to (nat_lt (place i) m) refl
    where
      by : (i : I) → n ≤ place i → place i < k → (t : Bool) → nat_lt (place i) m ≡ t → E ws i
      by i from to true is = f i (g i from (ltb-true (place i) m is))
      by i from to false is = f' i (h i (ltb-false (place i) m is) to)

-- the expression, the label or the binding is the end of one of these ways
abbrev ExprEnd : List Mapping → ExprId → Type 0
ExprEnd ws i = ((p : Pointer) × Contains ws (expr_mapping p i)) ⊎ Contains ws (unled_mapping i)

abbrev LabelEnd : List Mapping → LabelId → Type 0
LabelEnd ws n = (p : Pointer) × Contains ws (label_mapping p n)

abbrev BindingEnd : List Mapping → BindingId → Type 0
BindingEnd ws b = (o : Option ExprId) × Contains ws (binding_mapping b o)

expr_end : (us vs : List Mapping) → ((w : Mapping) → Contains us w → Contains vs w) → (i : ExprId) → ExprEnd us i → ExprEnd vs i
expr_end us vs f i = ⊎_elim (λ x. inl (x.0, f (expr_mapping x.0 i) x.1)) (λ x. inr (f (unled_mapping i) x))

label_end : (us vs : List Mapping) → ((w : Mapping) → Contains us w → Contains vs w) → (n : LabelId) → LabelEnd us n → LabelEnd vs n
label_end us vs f n x = (x.0, f (label_mapping x.0 n) x.1)

binding_end : (us vs : List Mapping) → ((w : Mapping) → Contains us w → Contains vs w) → (b : BindingId) → BindingEnd us b → BindingEnd vs b
binding_end us vs f b x = (x.0, f (binding_mapping b x.0) x.1)

covers_none : (ws : List Mapping) {n m : ℕ} → m ≤ n → Covers ws n m
covers_none = covered_none (λ i. i.0) ExprEnd

covers_as : (us vs : List Mapping) {n m : ℕ} → ((w : Mapping) → Contains us w → Contains vs w) → Covers us n m → Covers vs n m
covers_as us vs f h = λ i from to. expr_end us vs f i (h i from to)

covers_then : (us vs : List Mapping) (n m k : ℕ) → Covers us n m → Covers vs m k → Covers (us ++ vs) n k
covers_then us vs n m k =
    covered_then (λ i. i.0) ExprEnd us vs (us ++ vs) n m k (expr_end us (us ++ vs) (λ w c. Contains-append_left us vs w c))
    (expr_end vs (us ++ vs) (λ w c. Contains-append_right us vs w c))

pub same_number : (i j : ExprId) → j.0 ≡ i.0 → i ≡ j
same_number i j e = λ k. record { 0 = sym e k }

covers_one : (p : Pointer) (n m : ℕ) → m ≡ n + 1 → Covers (expr_mapping p (expr_id n) ∷ []) n m
covers_one p n m is = λ j from to.
    let at : j.0 ≡ n = omega arith in
    inl (
      p,
      subst (λ k. Contains (expr_mapping p (expr_id n) ∷ []) (expr_mapping p k)) (same_number (expr_id n) j at)
          (Contains-push [] (expr_mapping p (expr_id n))),
    )

covers_unled : (n m : ℕ) → m ≡ n + 1 → Covers (unled_mapping (expr_id n) ∷ []) n m
covers_unled n m is = λ j from to.
    let at : j.0 ≡ n = omega arith in
    inr (subst (λ k. Contains (unled_mapping (expr_id n) ∷ []) (unled_mapping k)) (same_number (expr_id n) j at)
    (Contains-push [] (unled_mapping (expr_id n))))

labels_none : (ws : List Mapping) {n m : ℕ} → m ≤ n → CoversLabels ws n m
labels_none = covered_none (λ n. n.0) LabelEnd

labels_as : (us vs : List Mapping) {n m : ℕ} → ((w : Mapping) → Contains us w → Contains vs w) → CoversLabels us n m → CoversLabels vs n m
labels_as us vs f h = λ n from to. label_end us vs f n (h n from to)

labels_then : (us vs : List Mapping) (n m k : ℕ) → CoversLabels us n m → CoversLabels vs m k → CoversLabels (us ++ vs) n k
labels_then us vs n m k =
    covered_then (λ i. i.0) LabelEnd us vs (us ++ vs) n m k (label_end us (us ++ vs) (λ w c. Contains-append_left us vs w c))
    (label_end vs (us ++ vs) (λ w c. Contains-append_right us vs w c))

same_label : (i j : LabelId) → j.0 ≡ i.0 → i ≡ j
same_label i j e = λ k. record { 0 = sym e k }

-- the one label that is new
labels_one : (p : Pointer) (n m : ℕ) → m ≡ n + 1 → CoversLabels (label_mapping p (label_id n) ∷ []) n m
labels_one p n m is = λ j from to.
    let at : j.0 ≡ n = omega arith in (
      p,
      subst (λ k. Contains (label_mapping p (label_id n) ∷ []) (label_mapping p k)) (same_label (label_id n) j at)
          (Contains-push [] (label_mapping p (label_id n))),
    )

bindings_none : (ws : List Mapping) {n m : ℕ} → m ≤ n → CoversBindings ws n m
bindings_none = covered_none (λ b. b.0) BindingEnd

bindings_as : (us vs : List Mapping) {n m : ℕ} → ((w : Mapping) → Contains us w → Contains vs w) → CoversBindings us n m
    → CoversBindings vs n m
bindings_as us vs f h = λ b from to. binding_end us vs f b (h b from to)

bindings_then : (us vs : List Mapping) (n m k : ℕ) → CoversBindings us n m → CoversBindings vs m k → CoversBindings (us ++ vs) n k
bindings_then us vs n m k =
    covered_then (λ b. b.0) BindingEnd us vs (us ++ vs) n m k (binding_end us (us ++ vs) (λ w c. Contains-append_left us vs w c))
    (binding_end vs (us ++ vs) (λ w c. Contains-append_right us vs w c))

same_binding : (i j : BindingId) → j.0 ≡ i.0 → i ≡ j
same_binding i j e = λ k. record { 0 = sym e k }

-- the one binding that is new
bindings_one : (n m : ℕ) → m ≡ n + 1 → CoversBindings (binding_mapping (binding_id n) None ∷ []) n m
bindings_one n m is = λ j from to.
    let at : j.0 ≡ n = omega arith in (
      None,
      subst (λ k. Contains (binding_mapping (binding_id n) None ∷ []) (binding_mapping k None)) (same_binding (binding_id n) j at)
          (Contains-push [] (binding_mapping (binding_id n) None)),
    )

-- ways of a tree along with the steps that make them

-- From then on it leads by these ways too, each expression, label and binding more is the end of one, and so many labels are. Each
-- binding has the patterns that make it, where each had, and what owns it is what its way says.
pub record Moved (a b : Stored) (mappings : List Mapping) : Type 0 where
  pub covers : Covers mappings (length a.exprs.entries) (length b.exprs.entries)
  pub covers_labels : CoversLabels mappings (length a.labels.entries) (length b.labels.entries)
  pub covers_bindings : CoversBindings mappings (length a.bindings.entries) (length b.bindings.entries)
  pub led : Led (map_of a) (map_of b) mappings
  pub labels : length b.labels.entries ≡ length a.labels.entries + label_mappings mappings
  pub defined : Defined a → Defined b
  pub owners : MayBeOwned a → OwnersMoved a b mappings

label_mappings_append : (us vs : List Mapping) → label_mappings (us ++ vs) ≡ label_mappings us + label_mappings vs
label_mappings_append [] vs = omega arith
label_mappings_append (expr_mapping p i ∷ us) vs = label_mappings_append us vs
label_mappings_append (label_mapping p n ∷ us) vs = let e = label_mappings_append us vs in omega arith
label_mappings_append (unled_mapping i ∷ us) vs = label_mappings_append us vs
label_mappings_append (field_mapping i p ∷ us) vs = label_mappings_append us vs
label_mappings_append (pat_field_mapping i p ∷ us) vs = label_mappings_append us vs
label_mappings_append (binding_mapping b o ∷ us) vs = label_mappings_append us vs

pub moved_then : {a b c : Stored} {us vs : List Mapping} → Moved a b us → Moved b c vs → Moved a c (us ++ vs)
moved_then {a = a} {b = b} {c = c} {us = us} {vs = vs} g h =
    let e = label_mappings_append us vs in
    let k = g.labels in
    let l = h.labels in record {
      covers = covers_then us vs (length a.exprs.entries) (length b.exprs.entries) (length c.exprs.entries) g.covers h.covers;
      covers_labels =
          labels_then us vs (length a.labels.entries) (length b.labels.entries) (length c.labels.entries) g.covers_labels h.covers_labels;
      covers_bindings =
          bindings_then us vs (length a.bindings.entries) (length b.bindings.entries) (length c.bindings.entries)
          g.covers_bindings h.covers_bindings;
      led = led_then g.led h.led;
      labels = omega (arith, e, k, l);
      defined = λ d. h.defined (g.defined d);
      owners = λ may. let first = g.owners may in owners_then us vs first (h.owners first.may_be_owned);
    }

-- nothing that is led to is new
pub moved_still : (a b : Stored) → b.exprs ≡ a.exprs → b.labels ≡ a.labels → b.pats ≡ a.pats → b.bindings ≡ a.bindings
    → b.field_map_back ≡ a.field_map_back → b.pat_field_map_back ≡ a.pat_field_map_back → Moved a b []
moved_still a b exprs labels pats bindings fields pat_fields =
    let n = ap (λ x. length x.entries) exprs in
    let l = ap (λ x. length x.entries) labels in
    let k = ap (λ x. length x.entries) bindings in record {
      covers = covers_none [] (omega (arith, n));
      covers_labels = labels_none [] (omega (arith, l));
      covers_bindings = bindings_none [] (omega (arith, k));
      led = led_still (ap (λ x. x.map) exprs) (ap (λ x. x.map) labels) fields pat_fields;
      labels = omega (arith, l);
      defined = λ d. subst (λ x. DefinitionsAre x.entries (length b.bindings.entries) b.bindings.definitions) (sym pats)
          (subst (λ x. DefinitionsAre a.pats.entries (length x.entries) x.definitions) (sym bindings) d);
      owners = owners_still (ap (λ x. x.owners) bindings) k tt;
    }

pub moved_same : {a b : Stored} → b ≡ a → Moved a b []
moved_same {a = a} e = subst (λ b. Moved a b []) (sym e) (moved_still a a refl refl refl refl refl refl)

-- where what is stored is known
pub moved_to : {a b c : Stored} {mappings : List Mapping} → b ≡ c → Moved a c mappings → Moved a b mappings
moved_to {a = a} {mappings = mappings} e m = subst (λ x. Moved a x mappings) (sym e) m

pub moved_report : (d : ExpressionStoreDiagnostics) (a : Stored) → Moved a (with_fault d a) []
moved_report d a = moved_still a (with_fault d a) refl refl refl refl refl refl

-- a pattern that makes no binding
pub moved_pat : (p : Pat) (source : Option Pointer) (a : Stored) → MakesNone p → Moved a (with_pat p source a) []
moved_pat p source a none = record {
  covers = covers_none [] (omega arith);
  covers_labels = labels_none [] (omega arith);
  covers_bindings = bindings_none [] (omega arith);
  led = led_still refl refl refl refl;
  labels = omega arith;
  defined = λ d. defined_pat a d p source none;
  owners = owners_still refl refl tt;
}

-- the same for one that is made up for a node
pub moved_made_pat : (p : Pat) (source : Option Pointer) (a : Stored) → MakesNone p → Moved a (put_made_pat p source a) []
moved_made_pat p source a none = record {
  covers = covers_none [] (omega arith);
  covers_labels = labels_none [] (omega arith);
  covers_bindings = bindings_none [] (omega arith);
  led = led_still refl refl refl refl;
  labels = omega arith;
  defined = λ d. defined_pat a d p source none;
  owners = owners_still refl refl tt;
}

-- a node more that leads to one
pub moved_pointed : (at : Pointer) (i : PatId) (a : Stored) → Moved a (pointing_pat at i a) []
moved_pointed at i a = record {
  covers = covers_none [] (omega arith);
  covers_labels = labels_none [] (omega arith);
  covers_bindings = bindings_none [] (omega arith);
  led = led_still refl refl refl refl;
  labels = omega arith;
  defined = λ d. d;
  owners = owners_still refl refl tt;
}

-- one that is assigned to
pub moved_assigned : (at : Pointer) (i : PatId) (a : Stored) → Moved a (pointing_target at i a) []
moved_assigned at i a = moved_still a (pointing_target at i a) refl refl refl refl refl refl

-- one that makes one
pub moved_bind : (b : BindingId) (sub : Option PatId) (source : Option Pointer) (i : PatId) (a : Stored)
    → i.0 ≡ length a.pats.entries → b.0 < length a.bindings.entries → Moved a (defining b i (with_pat (pat.Bind b sub) source a)) []
moved_bind b sub source i a number below = record {
  covers = covers_none [] (omega arith);
  covers_labels = labels_none [] (omega arith);
  covers_bindings = bindings_none [] (omega arith);
  led = led_still refl refl refl refl;
  labels = omega arith;
  defined = λ d. defined_bind a d b sub source i number below;
  owners = owners_still refl refl tt;
}

-- the same for a pattern that is made up for a node
pub moved_made_bind : (b : BindingId) (sub : Option PatId) (source : Option Pointer) (i : PatId) (a : Stored)
    → i.0 ≡ length a.pats.entries → b.0 < length a.bindings.entries → Moved a (defining b i (put_made_pat (pat.Bind b sub) source a)) []
moved_made_bind b sub source i a number below = record {
  covers = covers_none [] (omega arith);
  covers_labels = labels_none [] (omega arith);
  covers_bindings = bindings_none [] (omega arith);
  led = led_still refl refl refl refl;
  labels = omega arith;
  defined = λ d. defined_bind a d b sub source i number below;
  owners = owners_still refl refl tt;
}

-- what is wrong about a binding
pub moved_problem : (b : BindingId) (problem : Option BindingProblems) (a : Stored) → Moved a (with_problem_of b problem a) []
moved_problem b problem a =
    let long = length_at b.0 (problem_set problem) a.bindings.entries in record {
      covers = covers_none [] (omega arith);
      covers_labels = labels_none [] (omega arith);
      covers_bindings = bindings_none [] (omega (arith, long));
      led = led_still refl refl refl refl;
      labels = omega arith;
      defined = λ d. subst (λ n. DefinitionsAre a.pats.entries n a.bindings.definitions) (sym long) d;
      owners = owners_still refl long tt;
    }

pub record Shown (P : Mappings) (a b : Stored) : Type 0 where
  pub mappings : List Mapping
  pub shown : P mappings
  pub moved : Moved a b mappings

pub shown_as : {P Q : Mappings} {a b : Stored} → Shown P a b → ((ws : List Mapping) → P ws → Q ws) → Shown Q a b
shown_as x f = record { mappings = x.mappings; shown = f x.mappings x.shown; moved = x.moved }

pub shown_none : {P : Mappings} {a b : Stored} → Moved a b [] → P [] → Shown P a b
shown_none moved p = record { mappings = []; shown = p; moved = moved }

-- where what is stored is known
pub shown_to : {P : Mappings} {a b c : Stored} → b ≡ c → Shown P a c → Shown P a b
shown_to {P = P} {a = a} e x = subst (λ b. Shown P a b) (sym e) x

-- an expression with its node
pub shown_new : (e : Expr) (p : Pointer) (a : Stored) → Shown (OneMapping p (expr_id (length a.exprs.entries))) a (with_expr e (Some p) a)
shown_new e p a = let more = length-append a.exprs.entries (e ∷ []) in record {
  mappings = expr_mapping p (expr_id (length a.exprs.entries)) ∷ [];
  shown = refl;
  moved = record {
    covers = covers_one p (length a.exprs.entries) _ more;
    covers_labels = labels_none (expr_mapping p (expr_id (length a.exprs.entries)) ∷ []) (omega arith);
    covers_bindings = bindings_none (expr_mapping p (expr_id (length a.exprs.entries)) ∷ []) (omega arith);
    led = led_expr e p a;
    labels = omega arith;
    defined = λ d. d;
    owners = owners_still refl refl tt;
  };
}

-- one without a node
shown_alone : (e : Expr) (a : Stored) → Shown (OneUnled (expr_id (length a.exprs.entries))) a (with_expr e None a)
shown_alone e a = let more = length-append a.exprs.entries (e ∷ []) in record {
  mappings = unled_mapping (expr_id (length a.exprs.entries)) ∷ [];
  shown = refl;
  moved = record {
    covers = covers_unled (length a.exprs.entries) _ more;
    covers_labels = labels_none (unled_mapping (expr_id (length a.exprs.entries)) ∷ []) (omega arith);
    covers_bindings = bindings_none (unled_mapping (expr_id (length a.exprs.entries)) ∷ []) (omega arith);
    led = led_unled e a;
    labels = omega arith;
    defined = λ d. d;
    owners = owners_still refl refl tt;
  };
}

-- of a step that answered this number
pub shown_expr : {a b : Stored} (e : Expr) (p : Pointer) (i : ExprId) → i.0 ≡ length a.exprs.entries → b ≡ with_expr e (Some p) a
    → Shown (OneMapping p i) a b
shown_expr {a = a} e p i number is =
    shown_to is (subst (λ k. Shown (OneMapping p k) a (with_expr e (Some p) a)) (same_number (expr_id (length a.exprs.entries)) i number)
    (shown_new e p a))

pub shown_unled : {a b : Stored} (e : Expr) (i : ExprId) → i.0 ≡ length a.exprs.entries → b ≡ with_expr e None a
    → Shown (OneUnled i) a b
shown_unled {a = a} e i number is =
    shown_to is (subst (λ k. Shown (OneUnled k) a (with_expr e None a)) (same_number (expr_id (length a.exprs.entries)) i number)
    (shown_alone e a))

-- one that its node doesn't lead to
shown_hidden : (e : Expr) (source : Option Pointer) (a : Stored)
    → Shown (OneUnled (expr_id (length a.exprs.entries))) a (put_made e source a)
shown_hidden e source a = let more = length-append a.exprs.entries (e ∷ []) in record {
  mappings = unled_mapping (expr_id (length a.exprs.entries)) ∷ [];
  shown = refl;
  moved = record {
    covers = covers_unled (length a.exprs.entries) _ more;
    covers_labels = labels_none (unled_mapping (expr_id (length a.exprs.entries)) ∷ []) (omega arith);
    covers_bindings = bindings_none (unled_mapping (expr_id (length a.exprs.entries)) ∷ []) (omega arith);
    led = led_made e source a;
    labels = omega arith;
    defined = λ d. d;
    owners = owners_still refl refl tt;
  };
}

pub shown_made : {a b : Stored} (e : Expr) (source : Option Pointer) (i : ExprId) → i.0 ≡ length a.exprs.entries
    → b ≡ put_made e source a → Shown (OneUnled i) a b
shown_made {a = a} e source i number is =
    shown_to is (subst (λ k. Shown (OneUnled k) a (put_made e source a)) (same_number (expr_id (length a.exprs.entries)) i number)
    (shown_hidden e source a))

-- three expressions from one node, which leads to the last of them

abbrev Third : Pointer → ExprId → ExprId → ExprId → Mappings
Third p i j k = OneUnled i & OneUnled j & OneMapping p k

new_third : (d e f : Expr) (p : Pointer) (a : Stored)
    → Shown (Third p (expr_id (length a.exprs.entries)) (expr_id (length (with_expr d (Some p) a).exprs.entries)) (third d e p a))
    a (with_expr f (Some p) (two_more d e p a))
new_third d e f p a =
    let i = expr_id (length a.exprs.entries) in
    let b = with_expr d (Some p) a in
    let j = expr_id (length b.exprs.entries) in
    let c = two_more d e p a in
    let k = third d e p a in
    let last = expr_mapping p k ∷ [] in
    let m = length (with_expr f (Some p) c).exprs.entries in
    record {
      mappings = unled_mapping i ∷ unled_mapping j ∷ last;
      shown = record {
        left = unled_mapping i ∷ [];
        right = unled_mapping j ∷ last;
        is = refl;
        first = refl;
        second = record { left = unled_mapping j ∷ []; right = last; is = refl; first = refl; second = refl };
      };
      moved = record {
        covers = covers_then (unled_mapping i ∷ []) (unled_mapping j ∷ last) i.0 j.0 m
            (covers_unled i.0 j.0 (length-append a.exprs.entries (d ∷ [])))
            (covers_then (unled_mapping j ∷ []) last j.0 k.0 m
            (covers_unled j.0 k.0 (length-append b.exprs.entries (e ∷ [])))
            (covers_one p k.0 m (length-append c.exprs.entries (f ∷ []))));
        covers_labels = labels_none (unled_mapping i ∷ unled_mapping j ∷ last) (omega arith);
        covers_bindings = bindings_none (unled_mapping i ∷ unled_mapping j ∷ last) (omega arith);
        led = led_third d e f p a i j;
        labels = omega arith;
        defined = λ x. x;
        owners = owners_still refl refl tt;
      };
    }

-- of steps that answered these numbers
pub shown_third : {s t u v : Stored} (d e f : Expr) (p : Pointer) (i j k : ExprId)
    → t ≡ with_expr d (Some p) s → u ≡ with_expr e (Some p) t → v ≡ with_expr f (Some p) u
    → i.0 ≡ length s.exprs.entries → j.0 ≡ length t.exprs.entries → k.0 ≡ length u.exprs.entries → Shown (Third p i j k) s v
shown_third {s = s} d e f p i j k one two last ni nj nk =
    let b = with_expr d (Some p) s in
    let c = two_more d e p s in
    let v = with_expr f (Some p) c in
    let second = two ∙ ap (with_expr e (Some p)) one in
    let is = same_number (expr_id (length s.exprs.entries)) i ni in
    let js = same_number (expr_id (length b.exprs.entries)) j (nj ∙ ap (λ x. length x.exprs.entries) one) in
    let ks = same_number (third d e p s) k (nk ∙ ap (λ x. length x.exprs.entries) second) in
    shown_to (last ∙ ap (with_expr f (Some p)) second)
    (subst (λ x. Shown (Third p i j x) s v) ks (subst (λ x. Shown (Third p i x (third d e p s)) s v) js
    (subst (λ x. Shown (Third p x (expr_id (length b.exprs.entries)) (third d e p s)) s v) is (new_third d e f p s))))

-- a node more that leads to an expression
pub shown_point : (p : Pointer) (i : ExprId) (a : Stored) → Shown (OneMapping p i) a (pointing p i a)
shown_point p i a = record {
  mappings = expr_mapping p i ∷ [];
  shown = refl;
  moved = record {
    covers = covers_none (expr_mapping p i ∷ []) (omega arith);
    covers_labels = labels_none (expr_mapping p i ∷ []) (omega arith);
    covers_bindings = bindings_none (expr_mapping p i ∷ []) (omega arith);
    led = led_point p i a;
    labels = omega arith;
    defined = λ d. d;
    owners = owners_still refl refl tt;
  };
}

new_label : (l : Label) (a : Stored) → Shown (OneLabelMapping l.pointer (label_id (length a.labels.entries))) a (with_label l a)
new_label l a = let more = length-append a.labels.entries (record { name = l.name } ∷ []) in record {
  mappings = label_mapping l.pointer (label_id (length a.labels.entries)) ∷ [];
  shown = refl;
  moved = record {
    covers = covers_none (label_mapping l.pointer (label_id (length a.labels.entries)) ∷ []) (omega arith);
    covers_labels = labels_one l.pointer (length a.labels.entries) _ more;
    covers_bindings = bindings_none (label_mapping l.pointer (label_id (length a.labels.entries)) ∷ []) (omega arith);
    led = led_label l a;
    labels = omega (arith, more);
    defined = λ d. d;
    owners = owners_still refl refl tt;
  };
}

pub shown_label : {a b : Stored} (l : Label) (n : LabelId) → n.0 ≡ length a.labels.entries → b ≡ with_label l a
    → Shown (OneLabelMapping l.pointer n) a b
shown_label {a = a} l n number is =
    shown_to is (subst (λ k. Shown (OneLabelMapping l.pointer k) a (with_label l a))
    (same_label (label_id (length a.labels.entries)) n number)
    (new_label l a))

new_binding : (x : Binding) (a : Stored) → Shown (OneBindingMapping (binding_id (length a.bindings.entries))) a (with_new_binding x a)
new_binding x a = let more = length-append a.bindings.entries (x ∷ []) in record {
  mappings = binding_mapping (binding_id (length a.bindings.entries)) None ∷ [];
  shown = refl;
  moved = record {
    covers = covers_none (binding_mapping (binding_id (length a.bindings.entries)) None ∷ []) (omega arith);
    covers_labels = labels_none (binding_mapping (binding_id (length a.bindings.entries)) None ∷ []) (omega arith);
    covers_bindings = bindings_one (length a.bindings.entries) _ more;
    led = led_binding x a;
    labels = omega arith;
    defined = λ d. defined_binding a d x;
    owners = owners_binding x a;
  };
}

pub shown_binding : {a b : Stored} (x : Binding) (k : BindingId) → k.0 ≡ length a.bindings.entries → b ≡ with_new_binding x a
    → Shown (OneBindingMapping k) a b
shown_binding {a = a} x k number is =
    shown_to is (subst (λ n. Shown (OneBindingMapping n) a (with_new_binding x a))
    (same_binding (binding_id (length a.bindings.entries)) k number) (new_binding x a))

-- where a field's value leads to it
pub shown_field : (i : ExprId) (p : Pointer) (a : Stored) → Shown (OneFieldMapping i p) a (with_field i p a)
shown_field i p a = record {
  mappings = field_mapping i p ∷ [];
  shown = refl;
  moved = record {
    covers = covers_none (field_mapping i p ∷ []) (omega arith);
    covers_labels = labels_none (field_mapping i p ∷ []) (omega arith);
    covers_bindings = bindings_none (field_mapping i p ∷ []) (omega arith);
    led = led_field i p a;
    labels = omega arith;
    defined = λ d. d;
    owners = owners_still refl refl tt;
  };
}

-- the same in a pattern
pub shown_pat_field : (i : PatId) (p : Pointer) (a : Stored) → Shown (OnePatFieldMapping i p) a (with_field_pat i p a)
shown_pat_field i p a = record {
  mappings = pat_field_mapping i p ∷ [];
  shown = refl;
  moved = record {
    covers = covers_none (pat_field_mapping i p ∷ []) (omega arith);
    covers_labels = labels_none (pat_field_mapping i p ∷ []) (omega arith);
    covers_bindings = bindings_none (pat_field_mapping i p ∷ []) (omega arith);
    led = led_pat_field i p a;
    labels = omega arith;
    defined = λ d. d;
    owners = owners_still refl refl tt;
  };
}

pub shown_both : {P Q : Mappings} {a b c : Stored} → Shown P a b → Shown Q b c → Shown (P & Q) a c
shown_both x y = record {
  mappings = x.mappings ++ y.mappings;
  shown = record { left = x.mappings; right = y.mappings; is = refl; first = x.shown; second = y.shown };
  moved = moved_then x.moved y.moved;
}

moved_swap : {a b : Stored} (xs ys zs : List Mapping) → Moved a b (xs ++ (ys ++ zs)) → Moved a b (ys ++ (xs ++ zs))
moved_swap xs ys zs g =
    let e = label_mappings_append xs (ys ++ zs) in
    let f = label_mappings_append ys zs in
    let h = label_mappings_append ys (xs ++ zs) in
    let k = label_mappings_append xs zs in
    let l = g.labels in
    let covers = covers_as (xs ++ (ys ++ zs)) (ys ++ (xs ++ zs)) (contains_swap xs ys zs) g.covers in
    let named = labels_as (xs ++ (ys ++ zs)) (ys ++ (xs ++ zs)) (contains_swap xs ys zs) g.covers_labels in
    let bound = bindings_as (xs ++ (ys ++ zs)) (ys ++ (xs ++ zs)) (contains_swap xs ys zs) g.covers_bindings in record {
      covers = covers;
      covers_labels = named;
      covers_bindings = bound;
      led = led_swap xs ys zs g.led;
      labels = omega (arith, e, f, h, k, l);
      defined = g.defined;
      owners = λ may. owners_as (λ x o. contains_swap ys xs zs (binding_mapping x o)) (g.owners may);
    }

pub shown_swap : {P Q R : Mappings} {a b : Stored} → Shown (P & (Q & R)) a b → Shown (Q & (P & R)) a b
shown_swap {a = a} {b = b} x =
    let one = x.shown in
    let two = one.second in
    record {
      mappings = two.left ++ (one.left ++ two.right);
      shown = record {
        left = two.left;
        right = one.left ++ two.right;
        is = refl;
        first = two.first;
        second = record { left = one.left; right = two.right; is = refl; first = one.first; second = two.second };
      };
      moved = moved_swap one.left two.left two.right (subst (Moved a b) (one.is ∙ ap (λ r. one.left ++ r) two.is) x.moved);
    }

-- steps before and after that lead nowhere new
pub shown_after : {P : Mappings} {a b c : Stored} → Moved a b [] → Shown P b c → Shown P a c
shown_after moved x = record { mappings = x.mappings; shown = x.shown; moved = moved_then moved x.moved }

pub shown_before : {P : Mappings} {a b c : Stored} → Shown P a b → Moved b c [] → Shown P a c
shown_before {a = a} {c = c} x moved =
    record { mappings = x.mappings; shown = x.shown; moved = subst (Moved a c) (append-nil x.mappings) (moved_then x.moved moved) }
