-- The ends of ranges in types, each a body of its own: it runs as it is written, and holds what its path holds.
use Rattle.std.proofs.Common.{◌≡◌, refl, sym, subst, List, [], ◌∷◌, ◌++◌, append-nil, Option, Some, None, option_map, arith}
use Rattle.hir_store.specs.Names.{IsWritten}
use Rattle.hir_store.specs.Pointers.{Pointer}
use Rattle.hir_store.specs.Stored.{Stored, store_of, map_of}
use Rattle.hir_store.specs.declared.hir.Expr.TheVariants as hir
use Rattle.hir_store.specs.declared.ids.ExprId.{ExprId}
use Rattle.hir_store.specs.declared.ids.LangItemId.{LangItemId}
use Rattle.hir_store.specs.declared.ids.PatId.{PatId}
use Rattle.hir_store.specs.declared.name.Name.{Name}
use Rattle.hir_store.specs.declared.name.Name.TheVariants as name
use Rattle.hir_store.specs.declared.pat.Pat.{Pat as HirPat}
use Rattle.hir_store.specs.declared.pat.Pat.TheVariants as pat
use Rattle.hir_store.specs.declared.path.Path.{Path as HirPath}
use Rattle.hir_base.specs.declared.op.RangeOp.TheVariants as op
use Rattle.hir_env.specs.Answering.{site_of}
use Rattle.hir_env.specs.ResolvedTree as tree
use Rattle.hir_env.specs.ResolvedTree.{OptionPath, Side, Limit, Signed}
use Rattle.spec_data.specs.Data.{PathData, bare_path}
use Rattle.spec_data.specs.GeneratedNames.{generated_name}
use Rattle.spec_data.proofs.GeneratedNames.{PathUnmade, path_unmade}
use Rattle.spec_data.specs.Reading.{stored_path}
use Rattle.spec_data.specs.Written.{root_hygiene, signed_data, written_path}
use Rattle.hir_lower_builder.specs.Forms.{ExprSteps}
use Rattle.hir_lower_builder.specs.Lower.{lower_path, limit_side, lower_limit}
use Rattle.hir_lower_builder.specs.Lowering.{Lowering, alloc_pat}
use Rattle.hir_lower_builder.specs.Pats.{name_path, missing_pat}
use Rattle.hir_lower_builder.specs.Ranges as forms
use Rattle.spec_semantics.specs.Inner.{Bodies, Inners, all_of, of_expr, of_limit, of_type_pat, limit_body, side_bodies, limit_bodies}
use Rattle.spec_semantics.specs.Limits.{run_item, run_side_path, run_side, run_limit}
use Rattle.spec_semantics.specs.Run.{Value, literal, call, ◌>>=◌, ask, read_path}
use Rattle.thm_round_trip.proofs.Now.{path_now}
use Rattle.thm_logic.proofs.Constants.{correct_inner}
use Rattle.thm_logic.proofs.Frames.{Frame, barrier_at}
use Rattle.thm_logic.proofs.PatSteps.{correct_alloc_pat}
use Rattle.thm_logic.proofs.Steps.{Mark, Correct, Allocated, correct_bind, correct_as, correct_both, correct_in_store, correct_alloc}
use Rattle.thm_semantics.proofs.Body.{body_is}
use Rattle.thm_semantics.proofs.Forms.{looks_unmade, missing_fine}
use Rattle.thm_semantics.proofs.HeldForms.{missing_held}
use Rattle.thm_semantics.proofs.HeldTypes.{a_path}
use Rattle.thm_semantics.proofs.Holding.{inners_in, same_append, same_ids, Ids, an_expr, a_type_pat, Holds, expr_held, expr0, expr1}
use Rattle.thm_semantics.proofs.Holding.{type_pat_held}
use Rattle.thm_semantics.proofs.Nodes
use Rattle.thm_semantics.proofs.Ranges.{goes_item}
use Rattle.thm_semantics.proofs.Rows.{stored_row, stored_pure}
use Rattle.thm_semantics.proofs.Relation.{same_bind, same_ask}
use Rattle.thm_semantics.proofs.Senses.{Base, base_of}
use Rattle.thm_semantics.proofs.Senses.{Walk, one, Goes, Runs, goes_within, goes_at}
use Rattle.thm_semantics.proofs.Strict.{event0_fine}

-- runs

item_runs : {base : Base} {m m' : Mark} {final : Stored} {ps qs : List Frame} {i : ExprId} (item : Option LangItemId)
    → Allocated (forms.item_expr item) None final qs m m' i → Goes base m'.nodes one (λ fuel ss. run_item item) final ps i
item_runs None a = Nodes.goes_missing a
item_runs (Some item) a = goes_item item a

item_fine : (item : Option LangItemId) → Correct (forms.item_form item) (Runs one (λ fuel ss. run_item item))
unfolding forms.item_form
item_fine item = correct_as (correct_alloc (forms.item_expr item) None) (λ final ps m m' i g a. item_runs item a)

bare_unmade : (n : Name) → IsWritten n → generated_name (bare_path n) ≡ None
bare_unmade (name.Text t) w = refl
bare_unmade name.Missing w = refl
bare_unmade (name.Generated k) w = absurd w

name_is : (final : Stored) (n : Name) → stored_path (store_of final) (map_of final) (name_path n) ≡ bare_path n
unfolding stored_path
name_is final n = refl

module _ (at : Pointer) where
  literal_fine : (l : Signed)
      → Correct (forms.literal_limit_form at l) (Runs one (λ fuel ss. ask (literal (signed_data l)) [] (Some (site_of at))))
  unfolding forms.literal_limit_form
  literal_fine l = event0_fine at (record { runs = λ w. refl; jumps = λ s P ls. tt })

  name_fine : (n : Name) → IsWritten n
      → Correct (forms.name_limit_form at n) (Runs one (λ fuel ss. read_path (bare_path n) root_hygiene (Some (site_of at))))
  unfolding forms.name_limit_form
  name_fine n w = correct_as (correct_alloc (hir.Path (name_path n) root_hygiene) (Some at)) (λ final ps m m' i g a. goes_at a
      (λ fuel d le f. rw (name_is final n)
      (looks_unmade (generated_name (bare_path n)) (bare_unmade n w) (bare_path n) root_hygiene (Some (site_of at)))) (λ d le. tt))

  -- what is stored for a path is read as this
  goes_side_path : {base : Base} {m m' : Mark} {final : Stored} {ps qs : List Frame} {i : ExprId} (r : Option HirPath)
      (d : Option PathData) → option_map (stored_path (store_of final) (map_of final)) r ≡ d → PathUnmade d
      → Allocated (forms.path_limit_of r) (Some at) final qs m m' i
      → Goes base m'.nodes one (λ fuel ss. run_side_path d (Some (site_of at))) final ps i
  goes_side_path {base = base} {m = m} {m' = m'} {final = final} {ps = ps} {qs = qs} {i = i} r d is u a =
      subst (λ k. Goes base m'.nodes one (λ fuel ss. run_side_path k (Some (site_of at))) final ps i) is
      (by r (subst PathUnmade (sym is) u) a)
    where
      by : (r : Option HirPath) → PathUnmade (option_map (stored_path (store_of final) (map_of final)) r)
          → Allocated (forms.path_limit_of r) (Some at) final qs m m' i
          → Goes base m'.nodes one
          (λ fuel ss. run_side_path (option_map (stored_path (store_of final) (map_of final)) r) (Some (site_of at))) final ps i
      by None u a = Nodes.goes_missing a
      by (Some p) u a = goes_at a
          (λ fuel d le f. let d = stored_path (store_of final) (map_of final) p in
          looks_unmade (generated_name d) u d root_hygiene (Some (site_of at)))
          (λ d le. tt)

  path_fine : (p : OptionPath)
      → Correct (forms.path_limit_form at (lower_path p)) (Runs one (λ fuel ss. run_side_path (written_path p) (Some (site_of at))))
  unfolding forms.path_limit_form
  path_fine p = correct_as (correct_bind (path_now p) (λ r. correct_alloc (forms.path_limit_of r) (Some at)))
      (λ final ps m m' i g row. goes_side_path row.one (written_path p) row.first.is (path_unmade p) row.second)

side_fine : (s : Side) → Correct (limit_side s) (Runs one (λ fuel ss. run_side s))
side_fine tree.no_side = missing_fine
side_fine (tree.literal_side at l) = literal_fine at l
side_fine (tree.name_side at n w) = name_fine at n w
side_fine (tree.path_side at p) = path_fine at p
side_fine tree.other_side = missing_fine

before_fine : (item : Option LangItemId) {p : ExprSteps} {x : Walk Value} → Correct p (Runs one x)
    → Correct (forms.before_form item p)
    (Runs one (λ fuel ss. run_item item >>= (λ v. x fuel ss >>= (λ w. ask call (v ∷ w ∷ []) None))))
unfolding forms.before_form
before_fine item h = correct_as (correct_bind h (λ e. correct_bind (correct_alloc (forms.item_expr item) None)
    (λ f. correct_alloc (hir.Call f (e ∷ [])) None)))
    (λ final ps m m' i g row. let s = row.second in
    let k = goes_within (omega arith) row.first in
    let f : Goes (base_of m) s.middle.nodes one (λ fuel ss. run_item item) final ps s.one = item_runs item s.first in
    goes_at s.second
    (λ fuel d le falls. same_bind (f.same fuel d le falls) (λ v. stored_row _ _ _ (same_bind (k.same fuel d le falls)
    (λ w. stored_row _ _ _ (stored_pure _ (stored_pure _ (same_ask call (v ∷ w ∷ []) None)))))))
    (λ d le. (f.jumps d le, (k.jumps d le, tt))))

-- what they hold

item_is : (item : Option LangItemId) (r : Inners) → of_expr r (forms.item_expr item) ≡ []
item_is None r = refl
item_is (Some item) r = refl

path_is : (r : Inners) (p : Option HirPath) → of_expr r (forms.path_limit_of p) ≡ a_path r p
path_is r None = refl
path_is r (Some p) = refl

item_held : (item : Option LangItemId) → Correct (forms.item_form item) (Holds an_expr [])
unfolding forms.item_form
item_held item = expr0 (forms.item_expr item) None (item_is item)

before_held : {es : Bodies} (item : Option LangItemId) {p : ExprSteps} → Correct p (Holds an_expr es)
    → Correct (forms.before_form item p) (Holds an_expr es)
unfolding forms.before_form
before_held {es = es} item h = correct_as (correct_bind h (λ e. correct_bind (expr0 (forms.item_expr item) None (item_is item))
    (λ f. correct_alloc (hir.Call f (e ∷ [])) None)))
    (λ final ps m m' i g row. let s = row.second in expr_held s.second s.after (λ d le. let r = inners_in final d in
    same_append final (r.expr s.one) (r.expr row.one ++ []) [] es (s.first.same d le)
    (same_ids final es (append-nil (r.expr row.one)) (row.first.same d (omega (le, s.before.nodes, s.before.entries, arith))))))

-- a path as a side
path_side_held : {es : Bodies} (at : Pointer) {q : Lowering (Option HirPath)} → Correct q (Holds a_path es)
    → Correct (forms.path_limit_form at q) (Holds an_expr es)
unfolding forms.path_limit_form
path_side_held at h = expr1 (Some at) forms.path_limit_of path_is h

literal_held : (at : Pointer) (l : Signed) → Correct (forms.literal_limit_form at l) (Holds an_expr [])
unfolding forms.literal_limit_form
literal_held at l = expr0 _ (Some at) (λ r. refl)

name_held : (at : Pointer) (n : Name) → Correct (forms.name_limit_form at n) (Holds an_expr [])
unfolding forms.name_limit_form
name_held at n = expr0 (hir.Path (name_path n) root_hygiene) (Some at) (λ r. refl)

-- what is so of the path of a side, where it is one
abbrev pub PathOf : Side → Type 0
PathOf (tree.path_side at p) = Correct (lower_path p) (Holds a_path (side_bodies (tree.path_side at p)))
PathOf s = Unit {0}

side_held : (s : Side) → PathOf s → Correct (limit_side s) (Holds an_expr (side_bodies s))
side_held tree.no_side h = missing_held
side_held (tree.literal_side at l) h = literal_held at l
side_held (tree.name_side at n _) h = name_held at n
side_held (tree.path_side at p) h = path_side_held at h
side_held tree.other_side h = missing_held

-- bodies of their own

abbrev pub a_limit : Ids ExprId
a_limit r e = of_limit r e

-- nothing that is open around its barrier is in its frames
own_held : {es : Bodies} (l : Limit) {p : ExprSteps} → Correct p (Runs one (λ fuel ss. run_limit l)) → Correct p (Holds an_expr es)
    → Correct (forms.inner_form p) (Holds a_limit (limit_body l ∷ es))
own_held l runs holds = correct_as (correct_inner (correct_both (correct_in_store runs) holds))
    (λ final ps m m' i g row. let x = row.first.one in record {
      same = λ d le. (
        body_is (barrier_at ∷ ps) x.rel x.nodes tt refl,
        row.first.other.same d (omega (le, row.after.nodes, row.after.entries, arith)),
      );
    })

abbrev pub PathsOf : Limit → Type 0
PathsOf (tree.item_limit item) = Unit {0}
PathsOf (tree.side_limit s) = PathOf s
PathsOf (tree.before_limit item s) = PathOf s

pub limit_held : (l : Limit) → PathsOf l → Correct (lower_limit l) (Holds a_limit (limit_bodies l))
limit_held (tree.item_limit item) h = own_held (tree.item_limit item) (item_fine item) (item_held item)
limit_held (tree.side_limit s) h = own_held (tree.side_limit s) (side_fine s) (side_held s h)
limit_held (tree.before_limit item s) h =
    own_held (tree.before_limit item s) (before_fine item (side_fine s)) (before_held item (side_held s h))

-- patterns of types

pub type_pat0 : (p : HirPat) (source : Option Pointer) → ((r : Inners) → of_type_pat r p ≡ [])
    → Correct (alloc_pat p source) (Holds a_type_pat [])
type_pat0 p source e = correct_as (correct_alloc_pat p source)
    (λ final ps m m' i g at. type_pat_held {ps = ps} {n = m} at (λ d le. same_ids final [] (e (inners_in final d)) tt))

pub missing_type_pat_held : Correct missing_pat (Holds a_type_pat [])
unfolding missing_pat
missing_type_pat_held = type_pat0 pat.Missing None (λ r. refl)

pub alternatives_held : {es : Bodies} (at : Pointer) {q : Lowering (List PatId)}
    → Correct q (Holds (λ r is. all_of r.type_pat is) es) → Correct (forms.type_alternatives_form at q) (Holds a_type_pat es)
unfolding forms.type_alternatives_form
alternatives_held at h = correct_as (correct_bind h (λ is. correct_alloc_pat (pat.Or is) (Some at)))
    (λ final ps m m' i g row. type_pat_held {ps = ps} {n = m} row.second row.first.same)

pub limits_held : {es fs : Bodies} (at : Pointer) {p q : ExprSteps} → Correct p (Holds a_limit es) → Correct q (Holds a_limit fs)
    → Correct (forms.limits_form at p q) (Holds a_type_pat (es ++ fs))
unfolding forms.limits_form
limits_held {es = es} {fs = fs} at hp hq =
    correct_as (correct_bind hp (λ s. correct_bind hq (λ e. correct_alloc_pat (pat.Range op.Inclusive (Some s) (Some e)) (Some at))))
    (λ final ps m m' i g row. let s = row.second in type_pat_held {ps = ps} {n = m} s.second (λ d le. let r = inners_in final d in
    same_append final (of_limit r row.one) (of_limit r s.one) es fs
    (row.first.same d (omega (le, s.before.nodes, s.before.entries, arith))) (s.first.same d le)))
