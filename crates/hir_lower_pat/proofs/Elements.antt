-- The elements of tuples and calls: two dots are none, be it through calls, and a call that the text lacks is missing at its node.
use Rattle.std.proofs.Common.{true≢false}
use Rattle.std.proofs.Common.{arith, ◌≡◌, ◌∙◌, ap, refl, sym, suc, ◌+◌, ◌≤◌, Bool, true, false, List, [], ◌∷◌, ◌++◌}
use Rattle.std.proofs.Common.{Option, Some, None, Ok, Err, length, slice_index_or}
use Rattle.std.specs.Prelude.{if◌then◌else◌, ◌-◌, drop, take}
use Rattle.hir_syntax.specs.declared.macros.MacroCall.{MacroCall as AstMacroCall}
use Rattle.hir_syntax.specs.declared.pats.Pat.{Pat as AstPat}
use Rattle.hir_syntax.specs.declared.pats.PatKind.{PatKind as AstPatKind, out-PatKind, roll-PatKind, roll-out-PatKind}
use Rattle.hir_syntax.specs.declared.pats.PatKind.TheVariants as kind
use Rattle.hir_syntax.specs.declared.ast.ElseBranch.TheOpen.{PatKind-F}
use Rattle.hir_store.specs.Names.{IsWritten}
use Rattle.hir_store.specs.Pointers.{Pointer}
use Rattle.hir_store.specs.declared.error.StoreError.{StoreError}
use Rattle.hir_store.specs.declared.ids.PatId.{PatId}
use Rattle.hir_env.specs.ResolvedTree as tree
use Rattle.hir_env.specs.ResolvedTree.{Called, OptionPat, Pat, Pats, Use}
use Rattle.hir_env.specs.Count.{count_pat, count_pats}
use Rattle.hir_env.specs.PatLayers.{PatKindLayer}
use Rattle.hir_env.specs.Pats.{element_in, element_of, is_rest, minus_fits, name_or_bind, pat_at, rest_in}
use Rattle.hir_env.specs.ResolveCtx.{ResolveCtx}
use Rattle.hir_env.specs.Whole.{resolved_pat, elements_part, into, pointer_at, reader, written}
use Rattle.hir_env.proofs.PatLevels.{pat_is_level}
use Rattle.hir_lower_builder.specs.Builder.{Builder}
use Rattle.hir_lower_builder.specs.Calls.{emitted}
use Rattle.hir_lower_builder.specs.Lower.{lower_elements, lower_pat, present_pat}
use Rattle.hir_lower_builder.specs.Lowering.{Checked, Lowering, ◌>>=◌, ◌>>◌, go_on, point_pat, pure}
use Rattle.hir_lower_builder.specs.Pats.{Elements, Table, called_pat_form, dots_after, element_form, is_dots}
use Rattle.hir_lower_pat.specs.Methods.{add_element, element_behind, element_steps, point_element}
use Rattle.hir_lower_pat.proofs.KindLemmas.{first_of}

-- how much they count

rest_counts : (p : Pat) (ps : Pats) → count_pats (rest_in p ps) ≡ count_pat p + count_pats ps
rest_counts (tree.macro_pat s called (tree.some_pat p)) ps = let h = rest_counts p ps in omega (arith, h)
rest_counts (tree.macro_pat s called tree.no_pat) ps = refl
rest_counts (tree.leaf_pat s form) ps = refl
rest_counts (tree.bind_pat s u w q) ps = refl
rest_counts (tree.name_pat s u w) ps = refl
rest_counts (tree.path_pat s x) ps = refl
rest_counts (tree.tuple_struct_pat s x comma qs) ps = refl
rest_counts (tree.tuple_pat s comma qs) ps = refl
rest_counts (tree.record_pat s x fs dots) ps = refl
rest_counts (tree.or_pat s qs) ps = refl
rest_counts (tree.paren_pat s q) ps = refl
rest_counts (tree.slice_pat s before q after) ps = refl
rest_counts (tree.over_pat s form q) ps = refl
rest_counts (tree.literal_pat s from l) ps = refl
rest_counts (tree.range_pat s o a b) ps = refl
rest_counts (tree.barred_pat s) ps = refl

element_counts : (p : Pat) → count_pat (element_of p) ≡ count_pat p
element_counts (tree.macro_pat s tree.callless (tree.some_pat p)) = ap suc (element_counts p)
element_counts (tree.macro_pat s tree.unentered (tree.some_pat p)) = ap suc (element_counts p)
element_counts (tree.macro_pat s (tree.unresolved at x) (tree.some_pat p)) = ap suc (element_counts p)
element_counts (tree.macro_pat s (tree.entered c) (tree.some_pat p)) = ap suc (element_counts p)
element_counts (tree.macro_pat s tree.spliced (tree.some_pat p)) = ap suc (element_counts p)
element_counts (tree.macro_pat s tree.callless tree.no_pat) = refl
element_counts (tree.macro_pat s tree.unentered tree.no_pat) = refl
element_counts (tree.macro_pat s (tree.unresolved at x) tree.no_pat) = refl
element_counts (tree.macro_pat s (tree.entered c) tree.no_pat) = refl
element_counts (tree.macro_pat s tree.spliced tree.no_pat) = refl
element_counts (tree.leaf_pat s form) = refl
element_counts (tree.bind_pat s u w q) = refl
element_counts (tree.name_pat s u w) = refl
element_counts (tree.path_pat s x) = refl
element_counts (tree.tuple_struct_pat s x comma qs) = refl
element_counts (tree.tuple_pat s comma qs) = refl
element_counts (tree.record_pat s x fs dots) = refl
element_counts (tree.or_pat s qs) = refl
element_counts (tree.paren_pat s q) = refl
element_counts (tree.slice_pat s before q after) = refl
element_counts (tree.over_pat s form q) = refl
element_counts (tree.literal_pat s from l) = refl
element_counts (tree.range_pat s o a b) = refl
element_counts (tree.barred_pat s) = refl

-- as much as where each is a part
pub count_in : (p : Pat) (ps : Pats) → count_pats (element_in p ps) ≡ count_pat p + count_pats ps
count_in p ps = by (is_rest p)
  where
    by : (b : Bool) → count_pats (if b then rest_in p ps else tree.more_pats (element_of p) ps) ≡ count_pat p + count_pats ps
    by true = rest_counts p ps
    by false = ap (λ n. n + count_pats ps) (element_counts p)

-- what they are lowered to

-- what is told of the calls that two dots come out of
abbrev emitted_through : Pat → Lowering (Unit {0})
emitted_through (tree.macro_pat s called (tree.some_pat p)) = emitted called >> emitted_through p
emitted_through _ = pure tt

-- steps behind what is told
behind_emitted : {A B : Type 0} (o : Checked (Unit {0})) (b : Builder) (p : Lowering (Unit {0})) (q : Lowering A) (F : A → Lowering B)
    → go_on (go_on o b (λ _. p >> q)).0 (go_on o b (λ _. p >> q)).1 F
    ≡ go_on (go_on o b (λ _. p)).0 (go_on o b (λ _. p)).1 (λ _. q >>= F)
behind_emitted (Err e) b p q F = refl
behind_emitted (Ok _) b p q F = by (p b).0
  where
    by : (o : Checked (Unit {0}))
        → go_on (go_on o (p b).1 (λ _. q)).0 (go_on o (p b).1 (λ _. q)).1 F ≡ go_on o (p b).1 (λ _. q >>= F)
    by (Ok _) = refl
    by (Err e) = refl

-- the same for what follows it
after_emitted : {A : Type 0} (o : Checked (Unit {0})) (b : Builder) (p : Lowering (Unit {0})) (q m : Lowering A)
    → ((c : Builder) → m c ≡ (p >> q) c)
    → go_on o b (λ _. m) ≡ go_on (go_on o b (λ _. p)).0 (go_on o b (λ _. p)).1 (λ _. q)
after_emitted (Err e) b p q m h = refl
after_emitted (Ok _) b p q m h = h b

-- two dots are no part
rest_steps : (p : Pat) (t : Table) (b : Builder) → is_rest p ≡ true → element_steps p t b ≡ (emitted_through p >> pure (None, t)) b
rest_steps (tree.leaf_pat s tree.rest_leaf) t b h = refl
rest_steps (tree.leaf_pat s tree.wild_leaf) t b h = absurd (true≢false (sym h))
rest_steps (tree.leaf_pat s tree.not_null_leaf) t b h = absurd (true≢false (sym h))
rest_steps (tree.leaf_pat s tree.broken_leaf) t b h = absurd (true≢false (sym h))
rest_steps (tree.macro_pat s called tree.no_pat) t b h = absurd (true≢false (sym h))
rest_steps (tree.macro_pat s called (tree.some_pat p)) t b h =
    let o = emitted called b in
    let through : (c : Builder) → (element_steps p t >>= point_element s) c ≡ (emitted_through p >> pure (None, t)) c =
    λ c. ap (λ r. go_on r.0 r.1 (point_element s)) (rest_steps p t c h)
    ∙ (behind_emitted (Ok tt) c (emitted_through p) (pure (None, t)) (point_element s) ∙ refl) in
    after_emitted o.0 o.1 (emitted_through p) (pure (None, t)) (element_steps p t >>= point_element s) through
rest_steps (tree.bind_pat s u w q) t b h = absurd (true≢false (sym h))
rest_steps (tree.name_pat s u w) t b h = absurd (true≢false (sym h))
rest_steps (tree.path_pat s x) t b h = absurd (true≢false (sym h))
rest_steps (tree.tuple_struct_pat s x comma qs) t b h = absurd (true≢false (sym h))
rest_steps (tree.tuple_pat s comma qs) t b h = absurd (true≢false (sym h))
rest_steps (tree.record_pat s x fs dots) t b h = absurd (true≢false (sym h))
rest_steps (tree.or_pat s qs) t b h = absurd (true≢false (sym h))
rest_steps (tree.paren_pat s q) t b h = absurd (true≢false (sym h))
rest_steps (tree.slice_pat s before q after) t b h = absurd (true≢false (sym h))
rest_steps (tree.over_pat s form q) t b h = absurd (true≢false (sym h))
rest_steps (tree.literal_pat s from l) t b h = absurd (true≢false (sym h))
rest_steps (tree.range_pat s o low high) t b h = absurd (true≢false (sym h))
rest_steps (tree.barred_pat s) t b h = absurd (true≢false (sym h))

-- but say where parts are left out
rest_lowers : (p : Pat) (ps : Pats) (done : Elements) (t : Table) (b : Builder) → is_rest p ≡ true
    → lower_elements done (rest_in p ps) t b
    ≡ (emitted_through p >> lower_elements (done.0, dots_after done.0 done.1) ps t) b
rest_lowers (tree.leaf_pat s tree.rest_leaf) ps done t b h = refl
rest_lowers (tree.leaf_pat s tree.wild_leaf) ps done t b h = absurd (true≢false (sym h))
rest_lowers (tree.leaf_pat s tree.not_null_leaf) ps done t b h = absurd (true≢false (sym h))
rest_lowers (tree.leaf_pat s tree.broken_leaf) ps done t b h = absurd (true≢false (sym h))
rest_lowers (tree.macro_pat s called tree.no_pat) ps done t b h = absurd (true≢false (sym h))
rest_lowers (tree.macro_pat s called (tree.some_pat p)) ps done t b h =
    let o = emitted called b in
    after_emitted o.0 o.1 (emitted_through p) (lower_elements (done.0, dots_after done.0 done.1) ps t)
    (lower_elements done (rest_in p ps) t)
    (λ c. rest_lowers p ps done t c h)
rest_lowers (tree.bind_pat s u w q) ps done t b h = absurd (true≢false (sym h))
rest_lowers (tree.name_pat s u w) ps done t b h = absurd (true≢false (sym h))
rest_lowers (tree.path_pat s x) ps done t b h = absurd (true≢false (sym h))
rest_lowers (tree.tuple_struct_pat s x comma qs) ps done t b h = absurd (true≢false (sym h))
rest_lowers (tree.tuple_pat s comma qs) ps done t b h = absurd (true≢false (sym h))
rest_lowers (tree.record_pat s x fs dots) ps done t b h = absurd (true≢false (sym h))
rest_lowers (tree.or_pat s qs) ps done t b h = absurd (true≢false (sym h))
rest_lowers (tree.paren_pat s q) ps done t b h = absurd (true≢false (sym h))
rest_lowers (tree.slice_pat s before q after) ps done t b h = absurd (true≢false (sym h))
rest_lowers (tree.over_pat s form q) ps done t b h = absurd (true≢false (sym h))
rest_lowers (tree.literal_pat s from l) ps done t b h = absurd (true≢false (sym h))
rest_lowers (tree.range_pat s o low high) ps done t b h = absurd (true≢false (sym h))
rest_lowers (tree.barred_pat s) ps done t b h = absurd (true≢false (sym h))

abbrev present : PatId × Table → Lowering (Option PatId × Table)
present r = pure (Some r.0, r.1)

-- the call leads to what it stands for
pointed_on : (o : Checked (Unit {0})) (b : Builder) (i : PatId) (t : Table)
    → go_on {B = Option PatId × Table} (go_on o b (λ _. pure (Some i))).0 (go_on o b (λ _. pure (Some i))).1 (λ x. pure (x, t))
    ≡ go_on (go_on {B = PatId × Table} o b (λ _. pure (i, t))).0 (go_on {B = PatId × Table} o b (λ _. pure (i, t))).1 present
pointed_on (Ok _) b i t = refl
pointed_on (Err e) b i t = refl

abbrev point_at : Pointer → PatId × Table → Lowering (PatId × Table)
point_at s r = point_pat s r.0 >> pure r

lead_on : (s : Pointer) (o : Checked (PatId × Table)) (b : Builder)
    → go_on (go_on o b present).0 (go_on o b present).1 (point_element s)
    ≡ go_on (go_on o b (point_at s)).0 (go_on o b (point_at s)).1 present
lead_on s (Ok r) b = let q = point_pat s r.0 b in pointed_on q.0 q.1 r.0 r.1
lead_on s (Err e) b = refl

-- behind what is told of it
call_leads : {A B : Type 0} (o : Checked (Unit {0})) (b : Builder) (m : Lowering A) (p : Lowering B) (F : B → Lowering A)
    → ((c : Builder) → m c ≡ (p >>= F) c)
    → go_on o b (λ _. m) ≡ go_on (go_on o b (λ _. p)).0 (go_on o b (λ _. p)).1 F
call_leads (Ok _) b m p F h = h b
call_leads (Err e) b m p F h = refl

call_is_part : (s : Pointer) (called : Called) (p : Pat) (t : Table) (b : Builder)
    → ((c : Builder) → element_steps p t c ≡ present_pat (tree.some_pat (element_of p)) t c)
    → element_steps (tree.macro_pat s called (tree.some_pat p)) t b
    ≡ present_pat (tree.some_pat (tree.macro_pat s called (tree.some_pat (element_of p)))) t b
unfolding called_pat_form
call_is_part s called p t b h =
    let o = emitted called b in
    let leads : (c : Builder) → (element_steps p t >>= point_element s) c ≡ ((lower_pat (element_of p) t >>= point_at s) >>= present) c =
    λ c. let q = lower_pat (element_of p) t c in ap (λ r. go_on r.0 r.1 (point_element s)) (h c) ∙ lead_on s q.0 q.1 in
    call_leads o.0 o.1 (element_steps p t >>= point_element s) (lower_pat (element_of p) t >>= point_at s) present leads

-- any other pattern is a part, and a call of it leads to it
part_steps : (p : Pat) (t : Table) (b : Builder) → is_rest p ≡ false → element_steps p t b ≡ present_pat (tree.some_pat (element_of p)) t b
unfolding called_pat_form
part_steps (tree.leaf_pat s tree.rest_leaf) t b h = absurd (true≢false h)
part_steps (tree.leaf_pat s tree.wild_leaf) t b h = refl
part_steps (tree.leaf_pat s tree.not_null_leaf) t b h = refl
part_steps (tree.leaf_pat s tree.broken_leaf) t b h = refl
part_steps (tree.macro_pat s tree.callless tree.no_pat) t b h = refl
part_steps (tree.macro_pat s tree.unentered tree.no_pat) t b h = refl
part_steps (tree.macro_pat s (tree.unresolved at x) tree.no_pat) t b h = refl
part_steps (tree.macro_pat s (tree.entered c) tree.no_pat) t b h = refl
part_steps (tree.macro_pat s tree.spliced tree.no_pat) t b h = refl
part_steps (tree.macro_pat s tree.callless (tree.some_pat p)) t b h = call_is_part s tree.callless p t b (λ d. part_steps p t d h)
part_steps (tree.macro_pat s tree.unentered (tree.some_pat p)) t b h = call_is_part s tree.unentered p t b (λ d. part_steps p t d h)
part_steps (tree.macro_pat s (tree.unresolved at x) (tree.some_pat p)) t b h =
    call_is_part s (tree.unresolved at x) p t b (λ d. part_steps p t d h)
part_steps (tree.macro_pat s (tree.entered c) (tree.some_pat p)) t b h = call_is_part s (tree.entered c) p t b (λ d. part_steps p t d h)
part_steps (tree.macro_pat s tree.spliced (tree.some_pat p)) t b h = call_is_part s tree.spliced p t b (λ d. part_steps p t d h)
part_steps (tree.bind_pat s u w q) t b h = refl
part_steps (tree.name_pat s u w) t b h = refl
part_steps (tree.path_pat s x) t b h = refl
part_steps (tree.tuple_struct_pat s x comma qs) t b h = refl
part_steps (tree.tuple_pat s comma qs) t b h = refl
part_steps (tree.record_pat s x fs dots) t b h = refl
part_steps (tree.or_pat s qs) t b h = refl
part_steps (tree.paren_pat s q) t b h = refl
part_steps (tree.slice_pat s before q after) t b h = refl
part_steps (tree.over_pat s form q) t b h = refl
part_steps (tree.literal_pat s from l) t b h = refl
part_steps (tree.range_pat s o low high) t b h = refl
part_steps (tree.barred_pat s) t b h = refl

part_is_no_dots : (p : Pat) → is_rest p ≡ false → is_dots (element_of p) ≡ false
part_is_no_dots (tree.leaf_pat s tree.rest_leaf) h = absurd (true≢false h)
part_is_no_dots (tree.leaf_pat s tree.wild_leaf) h = refl
part_is_no_dots (tree.leaf_pat s tree.not_null_leaf) h = refl
part_is_no_dots (tree.leaf_pat s tree.broken_leaf) h = refl
part_is_no_dots (tree.macro_pat s tree.callless tree.no_pat) h = refl
part_is_no_dots (tree.macro_pat s tree.unentered tree.no_pat) h = refl
part_is_no_dots (tree.macro_pat s (tree.unresolved at x) tree.no_pat) h = refl
part_is_no_dots (tree.macro_pat s (tree.entered c) tree.no_pat) h = refl
part_is_no_dots (tree.macro_pat s tree.spliced tree.no_pat) h = refl
part_is_no_dots (tree.macro_pat s tree.callless (tree.some_pat p)) h = refl
part_is_no_dots (tree.macro_pat s tree.unentered (tree.some_pat p)) h = refl
part_is_no_dots (tree.macro_pat s (tree.unresolved at x) (tree.some_pat p)) h = refl
part_is_no_dots (tree.macro_pat s (tree.entered c) (tree.some_pat p)) h = refl
part_is_no_dots (tree.macro_pat s tree.spliced (tree.some_pat p)) h = refl
part_is_no_dots (tree.bind_pat s u w q) h = refl
part_is_no_dots (tree.name_pat s u w) h = refl
part_is_no_dots (tree.path_pat s x) h = refl
part_is_no_dots (tree.tuple_struct_pat s x comma qs) h = refl
part_is_no_dots (tree.tuple_pat s comma qs) h = refl
part_is_no_dots (tree.record_pat s x fs dots) h = refl
part_is_no_dots (tree.or_pat s qs) h = refl
part_is_no_dots (tree.paren_pat s q) h = refl
part_is_no_dots (tree.slice_pat s before q after) h = refl
part_is_no_dots (tree.over_pat s form q) h = refl
part_is_no_dots (tree.literal_pat s from l) h = refl
part_is_no_dots (tree.range_pat s o low high) h = refl
part_is_no_dots (tree.barred_pat s) h = refl

-- one element more, behind those that are lowered
abbrev more_elements : Pats → Elements × Table → Lowering (Elements × Table)
more_elements ps r = lower_elements r.0 ps r.1

abbrev added : Elements → Option PatId × Table → Lowering (Elements × Table)
added done r = pure (add_element done r.0, r.1)

abbrev none : Table → Lowering (Option PatId × Table)
none t = pure (None, t)

-- what is told, and then nothing
none_behind : (o : Checked (Unit {0})) (b : Builder) (done : Elements) (ps : Pats) (t : Table)
    → go_on o b (λ _. lower_elements (done.0, dots_after done.0 done.1) ps t)
    ≡ go_on (go_on (go_on o b (λ _. none t)).0 (go_on o b (λ _. none t)).1 (added done)).0
    (go_on (go_on o b (λ _. none t)).0 (go_on o b (λ _. none t)).1 (added done)).1 (more_elements ps)
none_behind (Ok _) b done ps t = refl
none_behind (Err e) b done ps t = refl

abbrev one : Elements → PatId × Table → Lowering (Elements × Table)
one done r = pure ((done.0 ++ r.0 ∷ [], done.1), r.1)

-- a part, and then it is one of them
one_behind : (o : Checked (PatId × Table)) (b : Builder) (done : Elements) (ps : Pats)
    → go_on (go_on o b (one done)).0 (go_on o b (one done)).1 (more_elements ps)
    ≡ go_on (go_on (go_on o b present).0 (go_on o b present).1 (added done)).0
    (go_on (go_on o b present).0 (go_on o b present).1 (added done)).1 (more_elements ps)
one_behind (Ok r) b done ps = refl
one_behind (Err e) b done ps = refl

pub lowers_in : (p : Pat) (ps : Pats) (done : Elements) (t : Table) (b : Builder)
    → lower_elements done (element_in p ps) t b ≡ (element_behind done (element_steps p) t >>= more_elements ps) b
lowers_in p ps done t b = by (is_rest p) refl
  where
    by : (c : Bool) → is_rest p ≡ c
        → lower_elements done (if c then rest_in p ps else tree.more_pats (element_of p) ps) t b
        ≡ (element_behind done (element_steps p) t >>= more_elements ps) b
    by true h =
        let o = emitted_through p b in
        rest_lowers p ps done t b h ∙ (none_behind o.0 o.1 done ps t
        ∙ ap (λ r. go_on (go_on r.0 r.1 (added done)).0 (go_on r.0 r.1 (added done)).1 (more_elements ps)) (sym (rest_steps p t b h)))
    by false h =
        let q = lower_pat (element_of p) t b in
        ap (λ d. (element_form d done (lower_pat (element_of p)) t >>= more_elements ps) b) (part_is_no_dots p h)
        ∙ (one_behind q.0 q.1 done ps
        ∙ ap (λ r. go_on (go_on r.0 r.1 (added done)).0 (go_on r.0 r.1 (added done)).1 (more_elements ps)) (sym (part_steps p t b h)))

-- one after another

module _ (at : ResolveCtx) (done : Elements) (xs : List AstPat) (x : AstPat) (t : Table) (b c : Builder) where
  abbrev behind : List AstPat
  behind = take (length xs - 1) (drop 1 xs)

  abbrev more : Elements × Table → Lowering (Elements × Table)
  more = more_elements (elements_part at behind)

  iteration : x ≡ slice_index_or xs 0 x → 1 ≤ length xs
      → lower_elements done (elements_part at xs) t b ≡ (element_behind done (element_steps (resolved_pat at x)) t >>= more) b
  iteration h le =
      ap (λ ys. lower_elements done (elements_part at ys) t b) (first_of xs x h le)
      ∙ lowers_in (resolved_pat at x) (elements_part at behind) done t b

  pub refused : (e : StoreError) → x ≡ slice_index_or xs 0 x → 1 ≤ length xs
      → element_behind done (element_steps (resolved_pat at x)) t b ≡ (Err e, c)
      → lower_elements done (elements_part at xs) t b ≡ (Err e, c)
  refused e h le is = iteration h le ∙ ap (λ r. go_on r.0 r.1 more) is

  pub one_more : (r : Elements × Table) → x ≡ slice_index_or xs 0 x → 1 ≤ length xs
      → element_behind done (element_steps (resolved_pat at x)) t b ≡ (Ok r, c)
      → lower_elements done (elements_part at xs) t b ≡ lower_elements r.0 (elements_part at behind) r.1 c
  one_more r h le is = iteration h le ∙ ap (λ q. go_on q.0 q.1 more) is

-- by their kinds

abbrev level : ResolveCtx → PatKindLayer written → Pointer → Pat
level at k s = pat_at at.answers (reader at.answers (into at)) k at.place s

abbrev IsPart : Pat → Type 0
IsPart p = (t : Table) → element_steps p t ≡ present_pat (tree.some_pat p) t

name_is_part : (b : Bool) (s : Pointer) (u : Use) (w : IsWritten u.name) (q : OptionPat) → IsPart (name_or_bind b s u w q)
name_is_part true s u w q t = refl
name_is_part false s u w q t = refl

literal_is_part : (b : Bool) (p q : Pat) → IsPart p → IsPart q → IsPart (if b then p else q)
literal_is_part true p q h k = h
literal_is_part false p q h k = k

made : (k : AstPatKind) (l : PatKindLayer written) → out-PatKind k ≡ l → k ≡ roll-PatKind l
made k l h = sym (roll-out-PatKind k) ∙ ap roll-PatKind h

-- what is neither two dots nor a call is a part
pub part_left : (at : ResolveCtx) (p : AstPat) → (p.kind ≡ kind.RestPat → ⊥)
    → ((o : Option AstMacroCall) → p.kind ≡ kind.MacroPat o → ⊥) → IsPart (resolved_pat at p)
part_left at p no_rest no_call t =
    ap (λ q. element_steps q t) (pat_is_level at p) ∙ (by (out-PatKind p.kind) refl
    ∙ ap (λ q. present_pat (tree.some_pat q) t) (sym (pat_is_level at p)))
  where
    s : Pointer
    s = pointer_at at p.id p.range

    by : (l : PatKindLayer written) → out-PatKind p.kind ≡ l → element_steps (level at l s) t ≡ present_pat (tree.some_pat (level at l s)) t
    by (PatKind-F.IdentPat n is_ref is_mut x) h = name_is_part _ s _ _ _ t
    by (PatKind-F.TupleStructPat x comma ps) h = refl
    by (PatKind-F.TuplePat comma ps) h = refl
    by (PatKind-F.RefPat is_mut x) h = refl
    by (PatKind-F.PathPat x) h = refl
    by (PatKind-F.OrPat ps) h = refl
    by (PatKind-F.ParenPat x) h = refl
    by (PatKind-F.MacroPat o) h = absurd (no_call o (made p.kind _ h ∙ kind.rolls-MacroPat o))
    by (PatKind-F.BoxPat x) h = refl
    by (PatKind-F.DerefPat x) h = refl
    by (PatKind-F.RecordPat x fs dots) h = refl
    by (PatKind-F.SlicePat before x after) h = refl
    by (PatKind-F.LiteralPat None minus) h = refl
    by (PatKind-F.LiteralPat (Some l) minus) h = literal_is_part (minus_fits minus l.literal.lit) _ _ (λ u. refl) (λ u. refl) t
    by (PatKind-F.RangePat op low high) h = refl
    by (PatKind-F.CfgPredPat pred) h = refl
    by PatKind-F.WildcardPat h = refl
    by PatKind-F.RestPat h = absurd (no_rest (made p.kind _ h ∙ kind.rolls-RestPat))
    by PatKind-F.NotNullPat h = refl
    by PatKind-F.ConstBlockPat h = refl
