-- Definitions of macros: what is counted of them, and that what they open is closed at the end.
use Rattle.std.proofs.Common.{arith, ◌≡◌, ◌∙◌, ap, refl, subst, sym, true≢false, ℕ, zero, suc, ◌+◌, Bool, true, false, cond, if◌then◌else◌}
use Rattle.std.proofs.Common.{List, [], ◌∷◌, ◌++◌, Option, Some, None, Ok, Err, slice_index_or}
use Rattle.std.specs.Prelude.{drop, length, take, unwrap_or, is_ok, ◌≤◌, ◌-◌, nat_eq, nat_lt, ◌&&◌, ◌<◌, ◌^◌}
use lib.Pointwise.{pointwise}
use Rattle.std.specs.BTreeMap.{is_at}
use Rattle.std.specs.Map.{lookup}
use Rattle.std.specs.Cmp.{first_so, second_so, unsigned_Decides}
use Rattle.std.specs.Cmp.Lexicographic.{texts_ties}
use Rattle.std.specs.Ordering.{eq_by_cmp}
use Rattle.hir_store.specs.declared.diagnostics.ExpressionStoreDiagnostics.TheVariants.{InactiveCode}
use Rattle.hir_store.specs.declared.error.StoreError.{StoreError}
use Rattle.hir_store.specs.NameOrder.{name_cmp}
use Rattle.hir_store.specs.Names.{same_name}
use Rattle.hir_store.specs.declared.hir.Statement.{Statement}
use Rattle.hir_store.specs.declared.hir.Statement.TheVariants as statement
use Rattle.hir_store.specs.declared.ids.ExprId.{ExprId}
use Rattle.hir_store.specs.declared.ids.MacroDefId.{MacroDefId}
use Rattle.hir_store.specs.declared.ids.PatId.{PatId}
use Rattle.hir_store.specs.declared.ids.TypeRefId.{TypeRefId}
use Rattle.hir_store.specs.declared.name.Name.{Name}
use Rattle.hir_store.specs.declared.name.Name.TheVariants as name
use Rattle.hir_env.specs.ResolvedTree as tree
use Rattle.hir_env.specs.ResolvedTree.{OptionExpr, Stmt, Stmts}
use Rattle.hir_env.specs.Calls.{times}
use Rattle.hir_env.specs.Layers.{Defined}
use Rattle.hir_lower_scope.specs.Labels.{rest}
use Rattle.hir_lower_builder.specs.Builder.{Builder}
use Rattle.hir_lower_builder.specs.Calls.{behind, define_form, defined, inside_macro, track}
use Rattle.hir_lower_builder.specs.Forms.{let_stmt_form}
use Rattle.hir_lower_builder.specs.Lower.{StoredContents, kept_part, lower_stmt, lower_stmts, lower_top, present, present_block}
use Rattle.hir_lower_builder.specs.Lower.{present_type}
use Rattle.hir_lower_builder.specs.Lower.{push_some}
use Rattle.hir_lower_builder.specs.Lowering.{Checked, Lowering, ◌>>=◌, close, count_def, count_out, go_on, open_macro, pure, report}
use Rattle.hir_lower_expr.specs.Runs.{Counts, close_scopes, definitions, expr_stmt, inside, lower_run}

-- counts

same_names : (a b : Name) → same_name a b ≡ eq_by_cmp name_cmp a b
same_names (name.Text a) (name.Text b) = texts_ties a b
same_names (name.Text a) name.Missing = refl
same_names (name.Text a) (name.Generated k) = refl
same_names name.Missing (name.Text b) = refl
same_names name.Missing name.Missing = refl
same_names name.Missing (name.Generated k) = refl
same_names (name.Generated i) (name.Text b) = refl
same_names (name.Generated i) name.Missing = refl
same_names (name.Generated i) (name.Generated k) = with_true (nat_eq i k) ∙ texts_ties (i ∷ []) (k ∷ [])
  where
    with_true : (b : Bool) → b ≡ (b && true)
    with_true true = refl
    with_true false = refl

-- the same name is one
number_is : (m n : ℕ) → nat_eq m n ≡ true → m ≡ n
number_is m n h = (unsigned_Decides m n).0 h

text_is : (xs ys : List ℕ) → pointwise nat_eq xs ys ≡ true → xs ≡ ys
text_is [] [] h = refl
text_is [] (y ∷ ys) h = cc
text_is (x ∷ xs) [] h = cc
text_is (x ∷ xs) (y ∷ ys) h = λ i.
    number_is x y (first_so (nat_eq x y) (pointwise nat_eq xs ys) h) i ∷ text_is xs ys (second_so (nat_eq x y) (pointwise nat_eq xs ys) h) i

same_is : (a b : Name) → same_name a b ≡ true → a ≡ b
same_is (name.Text a) (name.Text b) h = ap name.Text (text_is a b h)
same_is (name.Text a) name.Missing h = cc
same_is (name.Text a) (name.Generated k) h = cc
same_is name.Missing (name.Text b) h = cc
same_is name.Missing name.Missing h = refl
same_is name.Missing (name.Generated k) h = cc
same_is (name.Generated i) (name.Text b) h = cc
same_is (name.Generated i) name.Missing h = cc
same_is (name.Generated i) (name.Generated k) h = ap name.Generated (number_is i k h)

-- one more of a name
one_more : (b c : Bool) (k a : ℕ) (o : Option ℕ) → b ≡ c → (c ≡ true → k ≡ a) → unwrap_or o 0 ≡ a
    → unwrap_or (cond b (Some (suc k)) o) 0 ≡ (if c then suc a else a)
one_more true true k a o e same h = ap suc (same refl)
one_more false false k a o e same h = h
one_more true false k a o e same h = cc
one_more false true k a o e same h = cc

pub counts_more : (was is : List (Name × ℕ)) (n : Name) (k : ℕ) (d : Defined)
    → ((q : Name) → lookup (is_at (name_cmp q)) is ≡ cond (is_at (name_cmp n) q) (Some (suc k)) (lookup (is_at (name_cmp q)) was))
    → Counts was d → k ≡ times n d → Counts is (n ∷ d)
counts_more was is n k d written h same = λ q.
    ap (λ o. unwrap_or o 0) (written q)
    ∙ one_more (is_at (name_cmp n) q) (same_name n q) k (times q d) (lookup (is_at (name_cmp q)) was) (sym (same_names n q))
    (λ e. same ∙ ap (λ m. times m d) (same_is n q e)) (h q)

-- a definition

abbrev count_if : Bool → Lowering (Unit {0})
count_if b = if b then pure tt else count_out

low_if : (k : ℕ) (b : Bool) (old new : Builder) → nat_lt (suc k) (2 ^ 32) ≡ b → count_if b old ≡ (Ok tt, new) → suc k < 2 ^ 32
unfolding count_out
low_if k true old new is h = grind (arith, is)
low_if k false old new is h = absurd (true≢false (sym (ap (λ z. is_ok z.0) h)))

-- its number has a next one
pub counted_low : (k : ℕ) (old new : Builder) → count_def k old ≡ (Ok tt, new) → suc k < 2 ^ 32
unfolding count_def count_out
counted_low k old new h = low_if k (nat_lt (suc k) (2 ^ 32)) old new refl h

-- it is counted, stored and opened
abbrev define_on : ℕ → Option MacroDefId → List Statement → Lowering (List Statement)
define_on k m done = lower_run done (tree.more_stmts (tree.macro_stmt k m) tree.no_stmts)

defines : (k : ℕ) (m : Option MacroDefId) (done : List Statement) (o : Checked (Unit {0})) (c : Builder)
    → (let x = go_on o c (λ _. pure (Some (defined m))) in
    go_on x.0 x.1 (λ x b. pure (push_some done x) (inside (tree.macro_stmt k m) b)))
    ≡ go_on o c (λ _ b. pure (done ++ defined m ∷ []) (inside (tree.macro_stmt k m) b))
defines k m done (Ok _) c = refl
defines k m done (Err e) c = refl

pub define_is : (k : ℕ) (m : Option MacroDefId) (done : List Statement) (old : Builder)
    → define_on k m done old
    ≡ go_on (count_def k old).0 (count_def k old).1 (λ _ b. pure (done ++ defined m ∷ []) (inside (tree.macro_stmt k m) b))
unfolding define_form
define_is k m done old = defines k m done (count_def k old).0 (count_def k old).1

pub define_item : (k : ℕ) (done now : List Statement) (old new : Builder) → count_def k old ≡ (Ok tt, new)
    → now ≡ done ++ statement.Item ∷ [] → define_on k None done old ≡ (Ok now, new)
define_item k done now old new h is =
    define_is k None done old ∙ (ap (λ z. go_on z.0 z.1 (λ _. pure (done ++ statement.Item ∷ []))) h ∙ ap (λ xs. (Ok xs, new)) (sym is))

pub define_macro : (k : ℕ) (d : MacroDefId) (done now : List Statement) (old mid new : Builder) → count_def k old ≡ (Ok tt, mid)
    → now ≡ done ++ statement.MacroDef d ∷ [] → open_macro d mid ≡ (Ok tt, new) → define_on k (Some d) done old ≡ (Ok now, new)
unfolding open_macro
define_macro k d done now old mid new h is opens =
    define_is k (Some d) done old
    ∙ (ap (λ z. go_on z.0 z.1 (λ _ b. pure (done ++ statement.MacroDef d ∷ []) (inside (tree.macro_stmt k (Some d)) b))) h
    ∙ (ap (λ z. (Ok (done ++ statement.MacroDef d ∷ []), z.1)) opens ∙ ap (λ xs. (Ok xs, new)) (sym is)))

pub define_refused : (k : ℕ) (m : Option MacroDefId) (done : List Statement) (old new : Builder) (e : StoreError)
    → count_def k old ≡ (Err e, new) → define_on k m done old ≡ (Err e, new)
define_refused k m done old new e h =
    define_is k m done old ∙ ap (λ z. go_on z.0 z.1 (λ _ b. pure (done ++ defined m ∷ []) (inside (tree.macro_stmt k m) b))) h

-- to open it is never refused
pub opens_always : (d : MacroDefId) (old new : Builder) (e : StoreError) → open_macro d old ≡ (Err e, new) → ⊥
unfolding open_macro
opens_always d old new e h = true≢false (ap (λ z. is_ok z.0) h)

-- what is closed

abbrev close_one : Builder → Builder
close_one b = record b { scopes = rest b.scopes }

close_last : (n : ℕ) (b : Builder) → close_scopes (suc n) b ≡ close_one (close_scopes n b)
close_last zero b = refl
close_last (suc n) b = close_last n (close_one b)

-- how many definitions among statements open something, with so many more
abbrev opens : Stmt → ℕ → ℕ
opens (tree.macro_stmt k (Some d)) n = suc n
opens s n = n

abbrev opened : Stmts → ℕ
opened tree.no_stmts = 0
opened (tree.more_stmts s ss) = opens s (opened ss)

opens_more : (s : Stmt) (n : ℕ) → opens s n ≡ opens s 0 + n
opens_more (tree.macro_stmt k (Some d)) n = omega arith
opens_more (tree.macro_stmt k None) n = omega arith
opens_more _ n = omega arith

abbrev closing : ℕ → StoredContents → Lowering StoredContents
closing n r b = (Ok r, close_scopes n b)

-- lowering closes each behind what stands inside of it, which is the same as to close all at the end
abbrev with_done : List Statement → Option ExprId → Lowering StoredContents
with_done xs t = pure (xs, t)

abbrev tailed : Lowering (Option ExprId) → List Statement → Lowering StoredContents
tailed tail xs c = go_on (tail c).0 (tail c).1 (with_done xs)

abbrev flat : List Statement → Stmts → Lowering (Option ExprId) → Lowering StoredContents
flat done ss tail b = go_on (lower_run done ss b).0 (lower_run done ss b).1 (tailed tail)

ends_pure : (o : Checked StoredContents) (c : Builder) → go_on o c (closing 0) ≡ (o, c)
ends_pure (Ok r) c = refl
ends_pure (Err e) c = refl

close_behind : (n : ℕ) (o : Checked StoredContents) (c : Builder)
    → go_on (go_on o c (closing n)).0 (go_on o c (closing n)).1 (λ r d. go_on (close d).0 (close d).1 (λ _. pure r))
    ≡ go_on o c (closing (suc n))
unfolding close
close_behind n (Ok r) c = ap (λ d. (Ok r, d)) (sym (close_last n c))
close_behind n (Err e) c = refl

behind_on : (s : Stmt) (n : ℕ) (m f : Lowering StoredContents) → ((c : Builder) → m c ≡ go_on (f c).0 (f c).1 (closing n)) → (c : Builder)
    → behind s m c ≡ go_on (f (inside s c)).0 (f (inside s c)).1 (closing (opens s n))
unfolding inside_macro open_macro
behind_on (tree.macro_stmt k (Some d)) n m f h c =
    let at = inside (tree.macro_stmt k (Some d)) c in
    ap (λ z. go_on z.0 z.1 (λ r d. go_on (close d).0 (close d).1 (λ _. pure r))) (h at) ∙ close_behind n (f at).0 (f at).1
behind_on (tree.macro_stmt k None) n m f h c = h c
behind_on _ n m f h c = h c

flat_more : (done : List Statement) (s : Stmt) (ss : Stmts) (tail : Lowering (Option ExprId))
    → ((x : Option Statement) (c : Builder) → lower_stmts (push_some done x) ss tail c
    ≡ go_on (flat (push_some done x) ss tail c).0 (flat (push_some done x) ss tail c).1 (closing (opened ss)))
    → (o : Checked (Option Statement)) (c : Builder)
    → go_on o c (λ x. behind s (lower_stmts (push_some done x) ss tail))
    ≡ (let f = go_on o c (λ x b. lower_run (push_some done x) ss (inside s b)) in
    let t = go_on f.0 f.1 (tailed tail) in go_on t.0 t.1 (closing (opens s (opened ss))))
flat_more done s ss tail rest (Ok x) c =
    behind_on s (opened ss) (lower_stmts (push_some done x) ss tail) (flat (push_some done x) ss tail) (rest x) c
flat_more done s ss tail rest (Err e) c = refl

flat_on : (done : List Statement) (ss : Stmts) (tail : Lowering (Option ExprId)) (b : Builder)
    → lower_stmts done ss tail b ≡ go_on (flat done ss tail b).0 (flat done ss tail b).1 (closing (opened ss))
flat_on done tree.no_stmts tail b = sym (ends_pure (tailed tail done b).0 (tailed tail done b).1)
flat_on done (tree.more_stmts s ss) tail b =
    flat_more done s ss tail (λ x d. flat_on (push_some done x) ss tail d) (lower_stmt s b).0 (lower_stmt s b).1

-- the definitions among what is done are those that were opened

abbrev found_in : Option Statement → ℕ
found_in None = 0
found_in (Some x) = definitions (x ∷ [])

last_in : (s : Statement) (ss : List Statement) → definitions (s ∷ ss) ≡ definitions (s ∷ []) + definitions ss
last_in (statement.MacroDef d) ss = omega arith
last_in _ ss = omega arith

all_in : (done ss : List Statement) → definitions (done ++ ss) ≡ definitions done + definitions ss
all_in [] ss = omega arith
all_in (s ∷ done) ss =
    let first = last_in s (done ++ ss) in
    let others = all_in done ss in
    let same = last_in s done in
    omega (arith, first, others, same)

pushed_in : (done : List Statement) (x : Option Statement) → definitions (push_some done x) ≡ definitions done + found_in x
pushed_in done None = omega arith
pushed_in done (Some x) = all_in done (x ∷ [])

-- what a step answers, where it answers something
abbrev Gives : {A : Type 0} → Checked A → (A → Type 0) → Type 0
Gives (Ok a) P = P a
Gives (Err e) P = Unit {0}

then_gives : {A B : Type 0} (o : Checked A) (c : Builder) (f : A → Lowering B) (P : B → Type 0)
    → ((a : A) (d : Builder) → Gives (f a d).0 P) → Gives (go_on o c f).0 P
then_gives (Ok a) c f P h = h a c
then_gives (Err e) c f P h = tt

gives_as : {A : Type 0} (o : Checked A) (P Q : A → Type 0) → ((a : A) → P a → Q a) → Gives o P → Gives o Q
gives_as (Ok a) P Q f h = f a h
gives_as (Err e) P Q f h = tt

value_in : (v : Option ExprId) (semi : Bool) → found_in (expr_stmt v semi) ≡ 0
value_in None semi = refl
value_in (Some id) semi = refl

defined_in : (k : ℕ) (d : Option MacroDefId) → found_in (Some (defined d)) ≡ opens (tree.macro_stmt k d) 0
defined_in k None = refl
defined_in k (Some d) = refl

abbrev AsOpened : Stmt → Option Statement → Type 0
AsOpened s x = found_in x ≡ opens s 0

stmt_in : (s : Stmt) (b : Builder) → Gives (lower_stmt s b).0 (AsOpened s)
unfolding define_form let_stmt_form
stmt_in (tree.expr_stmt e semi) b =
    then_gives (kept_part e b).0 (kept_part e b).1 (λ v. pure (expr_stmt v semi)) (AsOpened (tree.expr_stmt e semi))
    (λ v d. value_in v semi)
stmt_in (tree.disabled_stmt at by s) b =
    let r = report (InactiveCode at by) b in then_gives r.0 r.1 (λ _. pure None) (AsOpened (tree.disabled_stmt at by s)) (λ a d. refl)
stmt_in tree.item_stmt b = refl
stmt_in (tree.call_stmt c) b =
    then_gives (track c b).0 (track c b).1 (λ _. pure None) (AsOpened (tree.call_stmt c)) (λ a d. refl)
stmt_in (tree.macro_stmt k m) b =
    then_gives (count_def k b).0 (count_def k b).1 (λ _. pure (Some (defined m))) (AsOpened (tree.macro_stmt k m)) (λ a d. defined_in k m)
stmt_in (tree.let_stmt p t e l) b =
    let is = AsOpened (tree.let_stmt p t e l) in
    let made : PatId → Option TypeRefId → Option ExprId → Option ExprId → Lowering (Option Statement) =
    λ p t e l. pure (Some (statement.Let p t e l)) in
    let pattern = lower_top p b in
    then_gives pattern.0 pattern.1 (λ p. present_type t >>= (λ t. present e >>= (λ e. present_block l >>= made p t e))) is (λ p c.
    let type_ref = present_type t c in
    then_gives type_ref.0 type_ref.1 (λ t. present e >>= (λ e. present_block l >>= made p t e)) is (λ t c.
    let initializer = present e c in
    then_gives initializer.0 initializer.1 (λ e. present_block l >>= made p t e) is (λ e c.
    let branch = present_block l c in
    then_gives branch.0 branch.1 (made p t e) is (λ l c. refl))))

abbrev AllOpened : List Statement → Stmts → List Statement → Type 0
AllOpened done ss xs = definitions xs ≡ definitions done + opened ss

more_in : (done : List Statement) (s : Stmt) (ss : Stmts)
    → ((x : Option Statement) (c : Builder) → Gives (lower_run (push_some done x) ss c).0 (AllOpened (push_some done x) ss))
    → (o : Checked (Option Statement)) (c : Builder) → Gives o (AsOpened s)
    → Gives (go_on o c (λ x d. lower_run (push_some done x) ss (inside s d))).0 (AllOpened done (tree.more_stmts s ss))
more_in done s ss rest (Ok x) c h =
    let pushed = pushed_in done x in
    let own : found_in x ≡ opens s 0 = h in
    let more = opens_more s (opened ss) in
    gives_as (lower_run (push_some done x) ss (inside s c)).0 (AllOpened (push_some done x) ss) (AllOpened done (tree.more_stmts s ss))
    (λ xs k. omega (arith, own, k, pushed, more)) (rest x (inside s c))
more_in done s ss rest (Err e) c h = tt

run_in : (done : List Statement) (ss : Stmts) (b : Builder) → Gives (lower_run done ss b).0 (AllOpened done ss)
run_in done tree.no_stmts b = omega arith
run_in done (tree.more_stmts s ss) b =
    more_in done s ss (λ x c. run_in (push_some done x) ss c) (lower_stmt s b).0 (lower_stmt s b).1 (stmt_in s b)

tail_in : (ss : Stmts) (o : Checked (List Statement)) (c : Builder) (tail : Lowering (Option ExprId)) → Gives o (AllOpened [] ss)
    → Gives (go_on o c (tailed tail)).0 (λ r. definitions r.0 ≡ opened ss)
tail_in ss (Ok xs) c tail h =
    let all : definitions xs ≡ definitions [] + opened ss = h in
    let same : definitions xs ≡ opened ss = omega (arith, all) in
    then_gives (tail c).0 (tail c).1 (with_done xs) (λ r. definitions r.0 ≡ opened ss) (λ t d. same)
tail_in ss (Err e) c tail h = tt

-- what is in a block

pub closes : (ss : Stmts) (e : OptionExpr) (b c : Builder) (xs : List Statement) (t : Option ExprId)
    → flat [] ss (kept_part e) b ≡ (Ok (xs, t), c) → lower_stmts [] ss (kept_part e) b ≡ (Ok (xs, t), close_scopes (definitions xs) c)
closes ss e b c xs t h =
    let run = lower_run [] ss b in
    let all : Gives (flat [] ss (kept_part e) b).0 (λ r. definitions r.0 ≡ opened ss) = tail_in ss run.0 run.1 (kept_part e)
    (run_in [] ss b) in
    let same : definitions xs ≡ opened ss = subst (λ z. Gives z.0 (λ r. definitions r.0 ≡ opened ss)) h all in
    flat_on [] ss (kept_part e) b ∙ (ap (λ z. go_on z.0 z.1 (closing (opened ss))) h
    ∙ ap (λ n. (Ok (xs, t), close_scopes n c)) (sym same))

pub closes_nothing : (ss : Stmts) (e : OptionExpr) (b c : Builder) (x : StoreError)
    → flat [] ss (kept_part e) b ≡ (Err x, c) → lower_stmts [] ss (kept_part e) b ≡ (Err x, c)
closes_nothing ss e b c x h = flat_on [] ss (kept_part e) b ∙ ap (λ z. go_on z.0 z.1 (closing (opened ss))) h

-- one after another

take_all : {A : Type 0} (xs : List A) → take (length xs) xs ≡ xs
take_all [] = refl
take_all (x ∷ xs) = ap (λ ys. x ∷ ys) (take_all xs)

pub closes_first : (xs : List Statement) (y : Statement) (d : MacroDefId) (old new : Builder)
    → slice_index_or xs 0 y ≡ statement.MacroDef d → 1 ≤ length xs → close old ≡ (Ok tt, new)
    → close_scopes (definitions xs) old ≡ close_scopes (definitions (take (length xs - 1) (drop 1 xs))) new
unfolding close
closes_first [] y d old new is le h = absurd (omega (arith, le))
closes_first (x ∷ xs) y d old new is le h =
    let rest : length (x ∷ xs) - 1 ≡ length xs = omega arith in
    let others : take (length (x ∷ xs) - 1) xs ≡ xs = ap (λ n. take n xs) rest ∙ take_all xs in
    ap (λ z. close_scopes (definitions (z ∷ xs)) old) is
    ∙ (ap (λ z. close_scopes (definitions xs) z.1) h ∙ ap (λ ys. close_scopes (definitions ys) new) (sym others))
