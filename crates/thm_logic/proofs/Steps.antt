-- What the steps of lowering bring about in a final store.
use Rattle.std.proofs.Common.{[], ◌≡◌, ℕ, suc, ◌+◌, Bool, true, false, if◌then◌else◌, nat_lt, slice_get, List}
use Rattle.std.proofs.Common.{◌∷◌, ◌++◌, length, Option, Some, None, Ok, Err, refl, sym, ap, ◌∙◌, arith}
use Rattle.hir_store.specs.Pointers.{Pointer}
use Rattle.hir_store.specs.Arenas.{Sourced, with_entry, with_mapping}
use Rattle.hir_store.specs.Stored.{Stored}
use Rattle.hir_store.specs.StoreSink as store_sink
use Rattle.hir_store.specs.FirstMap.{with_first_by}
use Rattle.hir_store.specs.StoreSink.{Extends, expr_id, label_id, same_expr}
use Rattle.hir_store.specs.declared.error.StoreError.TheVariants.{Full}
use Rattle.hir_store.specs.declared.hir.Expr.{Expr}
use Rattle.hir_store.specs.declared.hir.Label.{Label as HirLabel}
use Rattle.hir_store.specs.declared.ids.ExprId.{ExprId}
use Rattle.hir_store.specs.declared.ids.LabelId.{LabelId}
use Rattle.hir_store.specs.declared.ids.BlockId.{BlockId}
use Rattle.hir_store.specs.declared.diagnostics.ExpressionStoreDiagnostics.{ExpressionStoreDiagnostics}
use Rattle.hir_store.specs.declared.diagnostics.ExpressionStoreDiagnostics.TheVariants.{AwaitOutsideOfAsync}
use Rattle.hir_store.specs.declared.diagnostics.ExpressionStoreDiagnostics.TheVariants.{UndeclaredLabel}
use Rattle.hir_store.specs.declared.diagnostics.ExpressionStoreDiagnostics.TheVariants.{UnreachableLabel}
use Rattle.hir_store.specs.declared.diagnostics.AwaitLocation.{AwaitLocation}
use Rattle.hir_store.proofs.Extending.{extends_refl, extends_trans, extends_point, extends_field, extends_report, extends_block}
use Rattle.hir_env.specs.ResolvedTree.{Label, Jump}
use Rattle.thm_logic.proofs.Extended.{exprs_go_on, labels_go_on}
use Rattle.hir_lower_scope.specs.ScopeRibs.{Rib, Target, reachable, unreachable, undeclared, target, number_found, jump_number}
use Rattle.hir_lower_scope.specs.Labels.{rest}
use Rattle.hir_lower_builder.specs.Builder.{Builder}
use Rattle.hir_lower_builder.specs.Lowering.{Checked, go_on, Lowering, ◌>>=◌, pure, alloc_expr, point, point_field, report, stored}
use Rattle.hir_lower_builder.specs.Lowering.{report_await, enter_block, open_label, close, jump_target, found_or_fault, count_out}
use Rattle.thm_logic.specs.Keeps.{Paired, Mapped}
use Rattle.thm_logic.proofs.Frames.{Frame, rib, ribs}
pub use Rattle.thm_logic.proofs.Logic.{Mark, mark, Grows, Rel, Answers, Holds, Correct, Seq, Both, InStore, IsPure, kept_still}
pub use Rattle.thm_logic.proofs.Logic.{correct_bind, correct_as, correct_both, correct_in_store, correct_pure}
pub use Rattle.thm_logic.proofs.TypeSteps.{AllocatedType, AllocatedLifetime, with_type, with_lifetime, correct_alloc_type}
pub use Rattle.thm_logic.proofs.TypeSteps.{correct_alloc_lifetime}
use Rattle.thm_logic.proofs.Logic.{grows_refl}
use Rattle.thm_logic.proofs.Entries.{OneMore, answers_stored, contents, correct_added, correct_write, counted_more, counts_written}
use Rattle.thm_logic.proofs.Entries.{entry_at, entry_more, has_room, paired_more, source_at}

-- refused at the end of a counter
pub correct_count_out : {A : Type 0} (R : Rel A) → Correct {A = A} count_out R
unfolding count_out
correct_count_out R = record { holds = λ final ps b r. extends_refl b.stored }

-- it writes, as f says, and stores no expression, label, type or lifetime
pub record Writes {A : Type 0} (a : A) (f : Stored → Stored) (final : Stored) (ps : List Frame) (m m' : Mark) (b : A) : Type 0 where
  pub is : b ≡ a
  pub nodes : m'.nodes ≡ m.nodes
  pub labels : m'.labels ≡ m.labels
  pub names : m'.names ≡ m.names
  pub stored : m'.stored ≡ f m.stored

abbrev pub with_fault : ExpressionStoreDiagnostics → Stored → Stored
with_fault d s = record s { diagnostics = s.diagnostics ++ d ∷ [] }

abbrev pub pointing : Pointer → ExprId → Stored → Stored
pointing p id s = record s { exprs = with_mapping s.exprs p id }

abbrev pub with_block : Option BlockId → Stored → Stored
with_block None s = s
with_block (Some n) s = record s { block_scopes = s.block_scopes ++ n ∷ [] }

abbrev pub with_field : ExprId → Pointer → Stored → Stored
with_field id p s = record s { field_map_back = with_first_by same_expr s.field_map_back id p }

-- the fault of what awaits in this
abbrev pub with_await : Pointer → Option AwaitLocation → Stored → Stored
with_await node None s = s
with_await node (Some location) s = with_fault (AwaitOutsideOfAsync node location) s

correct_writes : (f : Stored → Stored) → ((s : Stored) → contents (f s) ≡ contents s) → ((s : Stored) → Extends s (f s))
    → Correct {A = Unit {0}} (stored (λ s. (Ok tt, f s))) (Writes tt f)
correct_writes f same stays = correct_write f same stays (λ final ps b.
    let counts_are = counts_written f same b in record {
      is = refl;
      nodes = ap (λ c. c.0) counts_are;
      labels = ap (λ c. c.1) counts_are;
      names = refl;
      stored = refl;
    })

pub correct_report : (fault : ExpressionStoreDiagnostics) → Correct (report fault) (Writes tt (with_fault fault))
unfolding report store_sink.report
correct_report fault = correct_writes (with_fault fault) (λ s. refl) (λ s. extends_report s fault)

writes_nothing : Correct {A = Unit {0}} (pure tt) (Writes tt (λ s. s))
writes_nothing = correct_as (correct_pure tt)
    (λ final ps m m' a g row. record {
      is = row.is;
      nodes = ap (λ x. x.nodes) row.still;
      labels = ap (λ x. x.labels) row.still;
      names = ap (λ x. x.names) row.still;
      stored = ap (λ x. x.stored) row.still;
    })

pub correct_report_await : (node : Pointer) (location : Option AwaitLocation)
    → Correct (report_await node location) (Writes tt (with_await node location))
unfolding report_await
correct_report_await node None = writes_nothing
correct_report_await node (Some location) = correct_report (AwaitOutsideOfAsync node location)

pub correct_point : (node : Pointer) (id : ExprId) → Correct (point node id) (Writes tt (pointing node id))
unfolding point store_sink.point
correct_point node id = correct_writes (pointing node id) (λ s. refl) (λ s. extends_point s node id)

pub correct_point_field : (id : ExprId) (node : Pointer) → Correct (point_field id node) (Writes tt (with_field id node))
unfolding point_field store_sink.point_field
correct_point_field id node = correct_writes (with_field id node) (λ s. refl) (λ s. extends_field s id node)

pub correct_enter_block : (n : Option BlockId) → Correct (enter_block n) (Writes tt (with_block n))
unfolding enter_block store_sink.enter_block
correct_enter_block None = writes_nothing
correct_enter_block (Some n) = correct_writes (with_block (Some n)) (λ s. refl) (λ s. extends_block s n)

-- an expression

-- what an expression makes of what is stored
abbrev pub Put : Type 0
Put = Expr → Option Pointer → Stored → Stored

abbrev pub with_expr : Put
with_expr e source s = record s { exprs = with_entry expr_id s.exprs e source }

pub record AllocatedBy (put : Put) (e : Expr) (source : Option Pointer) (final : Stored) (ps : List Frame) (m m' : Mark) (i : ExprId)
    : Type 0 where
  pub number : i.0 ≡ m.nodes
  pub here : slice_get final.exprs.entries m.nodes ≡ Some e
  pub from : slice_get final.exprs.sources m.nodes ≡ Some source
  pub next : m'.nodes ≡ suc m.nodes
  pub labels : m'.labels ≡ m.labels
  pub last : m.nodes ≡ length m.stored.exprs.entries
  pub names : m'.names ≡ m.names
  pub stored : m'.stored ≡ put e source m.stored

abbrev pub Allocated : Expr → Option Pointer → Rel ExprId
Allocated = AllocatedBy with_expr

-- one expression more, with this source, after which the arena is that one
pub allocated_expr : (put : Put) (e : Expr) (source : Option Pointer) (a : Sourced Expr ExprId) (final : Stored) (ps : List Frame)
    (b : Builder) → OneMore e source b.stored.exprs a → put e source b.stored ≡ record b.stored { exprs = a }
    → Answers (AllocatedBy put e source) final ps b (record b { stored = record b.stored { exprs = a } })
    (expr_id (length b.stored.exprs.entries))
allocated_expr put e source a final ps b more is = answers_stored b (record b.stored { exprs = a }) refl
    (λ d. record {
      exprs = paired_more more d.exprs;
      labels = d.labels;
      pats = d.pats;
      types = d.types;
      lifetimes = d.lifetimes;
    })
    (λ d w. record { types = w.types; lifetimes = w.lifetimes })
    (exprs_go_on b.stored _ more.continues)
    (λ d pre. record {
      number = refl;
      here = entry_at more pre.exprs;
      from = source_at more d.exprs pre.exprs;
      next = counted_more more;
      labels = refl;
      last = refl;
      names = refl;
      stored = sym is;
    })

pub correct_alloc : (e : Expr) (source : Option Pointer) → Correct (alloc_expr e source) (Allocated e source)
unfolding alloc_expr store_sink.alloc_expr
correct_alloc e source = correct_added (λ s. s.exprs) (λ s a. record s { exprs = a }) has_room (λ a. expr_id (length a.entries))
    (λ a. with_entry expr_id a e source)
    (λ final ps b. allocated_expr with_expr e source _ final ps b (entry_more expr_id e source b.stored.exprs) refl) extends_refl

-- labels

abbrev pub with_label : Label → Stored → Stored
with_label l s = record s { labels = with_entry label_id s.labels (record { name = l.name }) (Some l.pointer) }

-- Around the label, for which so many names are made up, in the frame that it makes, and after it is closed.
pub record OpenedBy (made : ℕ) {A B : Type 0} (at : Label → LabelId → Frame) (l : Label) (R : LabelId → Rel A) (Q : LabelId → A → Rel B)
    (final : Stored) (ps : List Frame) (m m' : Mark) (b : B) : Type 0 where
  pub number : LabelId
  pub entered : Mark
  pub left : Mark
  pub one : A
  pub new : number.0 ≡ m.labels
  pub here : slice_get final.labels.entries m.labels ≡ Some (record { name = l.name })
  pub from : slice_get final.labels.sources m.labels ≡ Some (Some l.pointer)
  pub labels : entered.labels ≡ suc m.labels
  pub nodes : entered.nodes ≡ m.nodes
  pub types : entered.types ≡ m.types
  pub entries : entered.entries ≡ m.entries
  pub names : entered.names ≡ m.names + made
  pub last : m.labels ≡ length m.stored.labels.entries
  pub stored : entered.stored ≡ with_label l m.stored
  pub before : Grows entered left
  pub after : Grows left m'
  pub first : R number final (at l number ∷ ps) entered left one
  pub second : Q number one final ps left m' b

abbrev pub Opened : {A B : Type 0} → (Label → LabelId → Frame) → Label → (LabelId → Rel A) → (LabelId → A → Rel B) → Rel B
Opened = OpenedBy 0

-- what opening a label as this rib does
pub record Opening (made : ℕ) (r : LabelId → Rib LabelId) (l : Label) (b : Builder) (n : LabelId) (b' : Builder) : Type 0 where
  pub scopes : b'.scopes ≡ r n ∷ b.scopes
  pub in_root : b'.in_root ≡ b.in_root
  pub roots : b'.stored.roots ≡ b.stored.roots
  pub paired : Paired b.stored → Paired b'.stored
  pub mapped : Paired b.stored → Mapped b.stored → Mapped b'.stored
  pub stays : Extends b.stored b'.stored
  pub number : n.0 ≡ length b.stored.labels.entries
  pub labels : length b'.stored.labels.entries ≡ suc (length b.stored.labels.entries)
  pub names : b'.names ≡ b.names + made
  pub stored : b'.stored ≡ with_label l b.stored
  pub here : (final : Stored) → Extends b'.stored final
      → slice_get final.labels.entries (length b.stored.labels.entries) ≡ Some (record { name = l.name })
  pub from : Paired b.stored → (final : Stored) → Extends b'.stored final
      → slice_get final.labels.sources (length b.stored.labels.entries) ≡ Some (Some l.pointer)

abbrev pub Opens : ℕ → (LabelId → Rib LabelId) → Label → Builder → Checked LabelId → Builder → Type 0
Opens made r l b (Ok n) b' = Opening made r l b n b'
Opens made r l b (Err e) b' = Extends b.stored b'.stored

abbrev made_label : Bool → HirLabel → Option Pointer → Sourced HirLabel LabelId → Checked LabelId × Sourced HirLabel LabelId
made_label t l source a = if t then (Ok (label_id (length a.entries)), with_entry label_id a l source) else (Err Full, a)

-- the label is stored, and then opened
abbrev pub opening : (LabelId → Rib LabelId) → Label → Bool → Builder → Checked LabelId × Builder
opening r l t b =
    let made = made_label t (record { name = l.name }) (Some l.pointer) b.stored.labels in
    go_on made.0 (record b { stored = record b.stored { labels = made.1 } }) (λ n b'. (Ok n, record b' { scopes = r n ∷ b'.scopes }))

pub opens_as : (r : LabelId → Rib LabelId) (l : Label) (t : Bool) (b : Builder)
    → Opens 0 r l b (opening r l t b).0 (opening r l t b).1
opens_as r l true b =
    let s = b.stored in
    let more = entry_more label_id (record { name = l.name }) (Some l.pointer) s.labels in record {
      scopes = refl;
      in_root = refl;
      roots = refl;
      paired = λ d. record {
        exprs = d.exprs;
        labels = paired_more more d.labels;
        pats = d.pats;
        types = d.types;
        lifetimes = d.lifetimes;
      };
      mapped = λ d w. record { types = w.types; lifetimes = w.lifetimes };
      stays = labels_go_on s _ more.continues;
      number = refl;
      labels = counted_more more;
      names = omega arith;
      stored = refl;
      here = λ final e. entry_at more e.labels;
      from = λ d final e. source_at more d.labels e.labels;
    }
opens_as r l false b = extends_refl b.stored

-- where the label depends on how many names were made up before
abbrev pub EnteredBy : ℕ → {A B : Type 0} → (Label → LabelId → Frame) → (ℕ → Label) → (LabelId → Rel A) → (LabelId → A → Rel B) → Rel B
EnteredBy made at l R Q = λ final ps m m' b. OpenedBy made at (l m.names) R Q final ps m m' b

-- A step opens a label of this number of names, in a frame that has its rib; in it runs one thing, and behind it another.
pub correct_entered : {A B : Type 0} (made : ℕ) (opener : Lowering LabelId) (at : Label → LabelId → Frame) (r : LabelId → Rib LabelId)
    (l : ℕ → Label)
    {p : LabelId → Lowering A} {R : LabelId → Rel A} {f : LabelId → A → Lowering B} {Q : LabelId → A → Rel B}
    → ((b : Builder) → Opens made r (l b.names) b (opener b).0 (opener b).1)
    → ((k : ℕ) (n : LabelId) (ps : List Frame) → ribs (at (l k) n ∷ ps) ≡ r n ∷ ribs ps)
    → ((n : LabelId) → Correct (p n) (R n)) → ((n : LabelId) (a : A) → Correct (f n a) (Q n a))
    → Correct (opener >>= (λ n. p n >>= (λ a. close >>= (λ _. f n a)))) (EnteredBy made at l R Q)
unfolding close
correct_entered {A = A} {B = B} made opener at r l {p = p} {R = R} {f = f} {Q = Q} opens frame hp hf =
    record { holds = λ final ps b e. first final ps b e (opener b).0 (opener b).1 (opens b) }
  where
    closed : Builder → Builder
    closed b = record b { scopes = rest b.scopes }

    inside : LabelId → Lowering B
    inside n = p n >>= (λ a t. f n a (closed t))

    third : (final : Stored) (ps : List Frame) (b b1 b2 : Builder) (n : LabelId) (a : A) → Opening made r (l b.names) b n b1
        → Answers (R n) final (at (l b.names) n ∷ ps) b1 b2 a
        → (o : Checked B) (c : Builder) → Holds (Q n a) final ps (closed b2) o c → Holds (EnteredBy made at l R Q) final ps b o c
    third final ps b b1 b2 n a h x (Ok e) c y =
        let nodes : length b1.stored.exprs.entries ≡ length b.stored.exprs.entries = ap (λ s. length s.exprs.entries) h.stored in
        let pats : length b1.stored.pats.entries ≡ length b.stored.pats.entries = ap (λ s. length s.pats.entries) h.stored in
        let bindings : length b1.stored.bindings.entries ≡ length b.stored.bindings.entries =
        ap (λ s. length s.bindings.entries) h.stored in
        let types : length b1.stored.types.entries ≡ length b.stored.types.entries = ap (λ s. length s.types.entries) h.stored in
        let lifetimes : length b1.stored.lifetimes.entries ≡ length b.stored.lifetimes.entries =
        ap (λ s. length s.lifetimes.entries) h.stored in record {
          kept = record {
            scopes = y.kept.scopes ∙ ap rest (x.kept.scopes ∙ h.scopes);
            in_root = y.kept.in_root ∙ (x.kept.in_root ∙ h.in_root);
            roots = λ t. let u = h.in_root ∙ t in y.kept.roots (x.kept.in_root ∙ u) ∙ (x.kept.roots u ∙ h.roots);
            paired = λ d. y.kept.paired (x.kept.paired (h.paired d));
            mapped = λ d w. y.kept.mapped (x.kept.paired (h.paired d)) (x.kept.mapped (h.paired d) (h.mapped d w));
            stays = extends_trans h.stays (extends_trans x.kept.stays y.kept.stays);
          };
          grows =
              let g = x.grows in
              let g' = y.grows in
              let e' = h.labels in
              let k = h.names in record {
                nodes = omega arith;
                labels = omega arith;
                pats = omega arith;
                bindings = omega arith;
                types = omega arith;
                lifetimes = omega arith;
                entries = omega arith;
                names = omega arith;
              };
          in_final = λ d pre.
              let past : Extends b2.stored final = extends_trans y.kept.stays pre in
              let opener' : Extends b1.stored final = extends_trans x.kept.stays past in record {
                number = n;
                entered = mark b1;
                left = mark b2;
                one = a;
                new = h.number;
                here = h.here final opener';
                from = h.from d final opener';
                labels = h.labels;
                nodes = nodes;
                types = types;
                entries = omega (arith, types, pats);
                names = h.names;
                last = refl;
                stored = h.stored;
                before = x.grows;
                after = y.grows;
                first = x.in_final (h.paired d) past;
                second = y.in_final (x.kept.paired (h.paired d)) pre;
              };
        }
    third final ps b b1 b2 n a h x (Err e) c y = extends_trans h.stays (extends_trans x.kept.stays y)

    second : (final : Stored) (ps : List Frame) (b b1 : Builder) (n : LabelId) → b.scopes ≡ ribs ps → Opening made r (l b.names) b n b1
        → (o : Checked A) (c : Builder) → Holds (R n) final (at (l b.names) n ∷ ps) b1 o c
        → let r = go_on o c (λ a t. f n a (closed t)) in Holds (EnteredBy made at l R Q) final ps b r.0 r.1
    second final ps b b1 n e h (Ok a) c x =
        let out : (closed c).scopes ≡ ribs ps = ap rest (x.kept.scopes ∙ h.scopes) ∙ e in
        third final ps b b1 c n a h x (f n a (closed c)).0 (f n a (closed c)).1 ((hf n a).holds final ps (closed c) out)
    second final ps b b1 n e h (Err u) c x = extends_trans h.stays x

    first : (final : Stored) (ps : List Frame) (b : Builder) → b.scopes ≡ ribs ps → (o : Checked LabelId) (c : Builder)
        → Opens made r (l b.names) b o c
        → Holds (EnteredBy made at l R Q) final ps b (go_on o c inside).0 (go_on o c inside).1
    first final ps b e (Ok n) c h =
        let in' : c.scopes ≡ ribs (at (l b.names) n ∷ ps) = h.scopes ∙ (ap (λ rs. r n ∷ rs) e ∙ sym (frame b.names n ps)) in
        second final ps b c n e h (p n c).0 (p n c).1 ((hp n).holds final (at (l b.names) n ∷ ps) c in')
    first final ps b e (Err u) c h = h

pub opens : (l : Label) (b : Builder) → Opens 0 (rib l) l b (open_label l b).0 (open_label l b).1
unfolding open_label store_sink.alloc_label
opens l b = opens_as (rib l) l (nat_lt (length b.stored.labels.entries) b.stored.labels.limit) b

pub correct_opened : {A B : Type 0} (at : Label → LabelId → Frame) (l : Label)
    {p : LabelId → Lowering A} {R : LabelId → Rel A} {f : LabelId → A → Lowering B} {Q : LabelId → A → Rel B}
    → ((n : LabelId) (ps : List Frame) → ribs (at l n ∷ ps) ≡ rib l n ∷ ribs ps)
    → ((n : LabelId) → Correct (p n) (R n)) → ((n : LabelId) (a : A) → Correct (f n a) (Q n a))
    → Correct (open_label l >>= (λ n. p n >>= (λ a. close >>= (λ _. f n a)))) (Opened at l R Q)
correct_opened at l frame hp hf = correct_entered 0 (open_label l) at (rib l) (λ k. l) (opens l) (λ k n ps. frame n ps) hp hf

-- jumps

-- the fault of a jump by name that has no target
abbrev pub with_target : Jump → {A : Type 0} → Target A → Stored → Stored
with_target j (reachable n) s = s
with_target j unreachable s = with_fault (UnreachableLabel j.pointer j.name) s
with_target j undeclared s = with_fault (UndeclaredLabel j.pointer j.name) s

abbrev pub with_jump : Option Jump → {A : Type 0} → List (Rib A) → Stored → Stored
with_jump None rs s = s
with_jump (Some j) rs s = with_target j (target j rs) s

pub record Targeted (j : Option Jump) (final : Stored) (ps : List Frame) (m m' : Mark) (n : Option LabelId) : Type 0 where
  pub is : n ≡ jump_number (ribs ps) j
  pub nodes : m'.nodes ≡ m.nodes
  pub labels : m'.labels ≡ m.labels
  pub names : m'.names ≡ m.names
  pub stored : m'.stored ≡ with_jump j (ribs ps) m.stored

pub correct_target : (j : Option Jump) → Correct (jump_target j) (Targeted j)
unfolding jump_target report store_sink.report
correct_target None = record {
  holds = λ final ps b r. record {
    kept = kept_still b;
    grows = grows_refl (mark b);
    in_final = λ d pre. record { is = refl; nodes = refl; labels = refl; names = refl; stored = refl };
  };
}
correct_target (Some j) = record { holds = λ final ps b r. go final ps b (target j b.scopes) (ap (λ rs. target j rs) r) }
  where
    reported : (final : Stored) (ps : List Frame) (b : Builder) (fault : ExpressionStoreDiagnostics) (o : Target LabelId)
        → o ≡ target j (ribs ps) → with_target j o b.stored ≡ with_fault fault b.stored
        → Answers (Targeted (Some j)) final ps b (record b { stored = with_fault fault b.stored }) (number_found o)
    reported final ps b fault o e is = answers_stored b (with_fault fault b.stored) refl
        (λ d. record { exprs = d.exprs; labels = d.labels; pats = d.pats; types = d.types; lifetimes = d.lifetimes })
        (λ d w. record { types = w.types; lifetimes = w.lifetimes }) (extends_report b.stored fault)
        (λ d pre. record {
          is = ap number_found e;
          nodes = refl;
          labels = refl;
          names = refl;
          stored = sym is ∙ ap (λ t. with_target j t b.stored) e;
        })

    go : (final : Stored) (ps : List Frame) (b : Builder) (o : Target LabelId) → o ≡ target j (ribs ps)
        → Holds (Targeted (Some j)) final ps b (found_or_fault j o b).0 (found_or_fault j o b).1
    go final ps b (reachable n) e = record {
      kept = kept_still b;
      grows = grows_refl (mark b);
      in_final = λ d pre. record {
        is = ap number_found e;
        nodes = refl;
        labels = refl;
        names = refl;
        stored = ap (λ t. with_target j t b.stored) e;
      };
    }
    go final ps b unreachable e = reported final ps b (UnreachableLabel j.pointer j.name) unreachable e refl
    go final ps b undeclared e = reported final ps b (UndeclaredLabel j.pointer j.name) undeclared e refl
