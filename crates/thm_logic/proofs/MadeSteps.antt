-- Steps that make up what nobody wrote: nodes that their source doesn't lead to, names, and `try`s with labels of made names.
use Rattle.std.proofs.Common.{◌≡◌, ◌^◌, suc, Bool, true, false, if◌then◌else◌, nat_lt, slice_get, map, List}
use Rattle.std.proofs.Common.{length, Option, Some, None, Ok, Err, refl, ap, subst, ◌∙◌, arith, ℕ}
use Rattle.hir_binding.specs.declared.binding.BindingAnnotation.{BindingAnnotation}
use Rattle.hir_store.specs.Pointers.{Pointer}
use Rattle.hir_store.specs.Arenas.{with_made}
use Rattle.hir_store.specs.Bindings.{without_problem}
use Rattle.hir_store.specs.Stored.{Stored}
use Rattle.hir_store.specs.StoreSink as store_sink
use Rattle.hir_store.specs.StoreSink.{expr_id}
use Rattle.hir_store.specs.declared.hir.Expr.{Expr}
use Rattle.hir_store.specs.declared.ids.BindingId.{BindingId}
use Rattle.hir_store.specs.declared.ids.ExprId.{ExprId}
use Rattle.hir_store.specs.declared.ids.LabelId.{LabelId}
use Rattle.hir_store.specs.declared.ids.PatId.{PatId}
use Rattle.hir_store.specs.declared.name.Name.TheVariants.{Generated}
use Rattle.hir_store.specs.declared.pat.Pat.TheVariants as pat
use Rattle.hir_store.proofs.Extending.{extends_refl}
use Rattle.hir_env.specs.ResolvedTree.{Label}
use Rattle.hir_lower_scope.specs.ScopeRibs.{Rib, try_rib, Try, innermost_try_rib}
use Rattle.hir_lower_builder.specs.Builder.{Builder}
use Rattle.hir_lower_builder.specs.Forms.{root_hygiene}
use Rattle.hir_lower_builder.specs.Lowering.{Checked, Lowering, go_on, ◌>>=◌, alloc_desugared, made_number, count_out, open_try}
use Rattle.hir_lower_builder.specs.Lowering.{open_try_named}
use Rattle.hir_lower_builder.specs.Lowering.{try_target, close}
use Rattle.hir_lower_builder.specs.Made.{made_binding, made_bind_form}
use Rattle.thm_logic.proofs.Frames.{Frame, try_at, ribs}
use Rattle.thm_logic.proofs.PatSteps.{correct_alloc_binding, correct_alloc_pat, correct_define, defining, with_new_binding, with_pat}
use Rattle.thm_logic.proofs.Logic.{grows_refl}
use Rattle.thm_logic.proofs.Steps.{Mark, mark, Rel, Holds, Correct, AllocatedBy, Put, kept_still, EnteredBy, Opens, Seq, allocated_expr}
use Rattle.thm_logic.proofs.Steps.{correct_as, correct_bind, correct_entered, correct_pure, opening, opens_as}
use Rattle.thm_logic.proofs.Entries.{correct_added, has_room, made_more}

-- a node

abbrev pub put_made : Put
put_made e source s = record s { exprs = with_made s.exprs e source }

abbrev pub AllocatedMade : Expr → Option Pointer → Rel ExprId
AllocatedMade = AllocatedBy put_made

pub correct_alloc_desugared : (e : Expr) (source : Option Pointer) → Correct (alloc_desugared e source) (AllocatedMade e source)
unfolding alloc_desugared store_sink.alloc_desugared
correct_alloc_desugared e source = correct_added (λ s. s.exprs) (λ s a. record s { exprs = a }) has_room
    (λ a. expr_id (length a.entries)) (λ a. with_made a e source)
    (λ final ps b. allocated_expr put_made e source _ final ps b (made_more e source b.stored.exprs) refl) extends_refl

-- names

-- the next number of a name, and nothing is stored
pub record MadeNumber (final : Stored) (ps : List Frame) (m m' : Mark) (n : ℕ) : Type 0 where
  pub is : n ≡ m.names
  pub names : m'.names ≡ suc m.names
  pub nodes : m'.nodes ≡ m.nodes
  pub labels : m'.labels ≡ m.labels
  pub pats : m'.pats ≡ m.pats
  pub bindings : m'.bindings ≡ m.bindings
  pub types : m'.types ≡ m.types
  pub lifetimes : m'.lifetimes ≡ m.lifetimes
  pub entries : m'.entries ≡ m.entries
  pub stored : m'.stored ≡ m.stored

abbrev numbered : Bool → Lowering ℕ
numbered room = λ b. if room then (Ok b.names, record b { names = suc b.names }) else count_out b

pub correct_made_number : Correct made_number MadeNumber
unfolding made_number count_out
correct_made_number = record { holds = λ final ps b r. go final ps b (nat_lt (suc b.names) (2 ^ 32)) }
  where
    go : (final : Stored) (ps : List Frame) (b : Builder) (room : Bool)
        → Holds MadeNumber final ps b (numbered room b).0 (numbered room b).1
    go final ps b true = record {
      kept = record {
        scopes = refl;
        in_root = refl;
        roots = λ t. refl;
        paired = λ d. d;
        mapped = λ d w. w;
        stays = extends_refl b.stored;
      };
      grows = record {
        nodes = omega arith;
        labels = omega arith;
        pats = omega arith;
        bindings = omega arith;
        types = omega arith;
        lifetimes = omega arith;
        entries = omega arith;
        names = omega arith;
      };
      in_final = λ d pre. record {
        is = refl;
        names = refl;
        nodes = refl;
        labels = refl;
        pats = refl;
        bindings = refl;
        types = refl;
        lifetimes = refl;
        entries = refl;
        stored = refl;
      };
    }
    go final ps b false = extends_refl b.stored

-- What binds the name of this number, alone.
pub record MadeBind (mode : BindingAnnotation) (n : ℕ) (final : Stored) (ps : List Frame) (m m' : Mark) (p : PatId) : Type 0 where
  pub binding : BindingId
  pub number : p.0 ≡ m.pats
  pub here : slice_get final.pats.entries m.pats ≡ Some (pat.Bind binding None)
  pub from : slice_get final.pats.sources m.pats ≡ Some None
  pub is : binding.0 ≡ m.bindings
  pub bound : slice_get (map without_problem final.bindings.entries) m.bindings ≡ Some (made_binding mode n)
  pub pats : m'.pats ≡ suc m.pats
  pub bindings : m'.bindings ≡ suc m.bindings
  pub entries : m'.entries ≡ suc m.entries
  pub nodes : m'.nodes ≡ m.nodes
  pub labels : m'.labels ≡ m.labels
  pub types : m'.types ≡ m.types
  pub lifetimes : m'.lifetimes ≡ m.lifetimes
  pub names : m'.names ≡ m.names
  pub stored : m'.stored ≡ defining binding p (with_pat (pat.Bind binding None) None (with_new_binding (made_binding mode n) m.stored))

pub correct_made_bind : (mode : BindingAnnotation) (n : ℕ) → Correct (made_bind_form mode n) (MadeBind mode n)
unfolding made_bind_form
correct_made_bind mode n = correct_as (correct_bind (correct_alloc_binding (made_binding mode n))
    (λ i. correct_bind (correct_alloc_pat (pat.Bind i None) None) (λ p. correct_bind (correct_define i p) (λ u. correct_pure p))))
    (λ final ps m m' q g row. let one = row.first in let two = row.second.first in let three = row.second.second.first in
    let last = row.second.second.second in
    let counts_are = three.counts_are in rw (last.is, last.still) (record {
      binding = row.one;
      number = two.number ∙ one.pats;
      here = subst (λ k. slice_get final.pats.entries k ≡ Some (pat.Bind row.one None)) one.pats two.here;
      from = subst (λ k. slice_get final.pats.sources k ≡ Some None) one.pats two.from;
      is = one.number;
      bound = one.here;
      pats = ap (λ c. c.2) counts_are ∙ (two.next ∙ ap suc one.pats);
      bindings = ap (λ c. c.3) counts_are ∙ (two.bindings ∙ one.next);
      entries = ap (λ c. c.6) counts_are ∙ (two.entries ∙ ap suc one.entries);
      nodes = ap (λ c. c.0) counts_are ∙ (two.nodes ∙ one.nodes);
      labels = ap (λ c. c.1) counts_are ∙ (two.labels ∙ one.labels);
      types = ap (λ c. c.4) counts_are ∙ (two.types ∙ one.types);
      lifetimes = ap (λ c. c.5) counts_are ∙ (two.lifetimes ∙ one.lifetimes);
      names = ap (λ c. c.7) counts_are ∙ (two.names ∙ one.names);
      stored = three.stored ∙ ap (defining row.one row.second.one)
          (two.stored ∙ ap (with_pat (pat.Bind row.one None) None) one.stored);
    }))

-- `try`

-- a label of the made name of this number
abbrev pub made_label : Pointer → ℕ → Label
made_label at n = record { pointer = at; name = Generated n; hygiene = root_hygiene }

-- In the `try`, and behind it; the name of its label is the next one.
abbrev pub OpenedTry : {A B : Type 0} → Pointer → Bool → (LabelId → Rel A) → (LabelId → A → Rel B) → Rel B
OpenedTry at typed R Q = EnteredBy 1 (λ l n. try_at n typed) (made_label at) R Q

abbrev rib_of : Bool → LabelId → Rib LabelId
rib_of typed n = try_rib n typed

abbrev one_more_name : Builder → Builder
one_more_name b = record b { names = suc b.names }

pub opens_try : (at : Pointer) (typed : Bool) (b : Builder)
    → Opens 1 (rib_of typed) (made_label at b.names) b (open_try at typed b).0 (open_try at typed b).1
unfolding open_try made_number count_out store_sink.alloc_label
opens_try at typed b = go (nat_lt (suc b.names) (2 ^ 32))
  where
    named : (t : Bool) → let r = opening (rib_of typed) (made_label at b.names) t (one_more_name b) in
        Opens 1 (rib_of typed) (made_label at b.names) b r.0 r.1
    named true =
        let h = opens_as (rib_of typed) (made_label at b.names) true (one_more_name b) in record {
          scopes = h.scopes;
          in_root = h.in_root;
          roots = h.roots;
          paired = h.paired;
          mapped = h.mapped;
          stays = h.stays;
          number = h.number;
          labels = h.labels;
          names = omega arith;
          stored = h.stored;
          here = h.here;
          from = h.from;
        }
    named false = extends_refl b.stored

    go : (room : Bool) → let r = (numbered room >>= (λ n. open_try_named at typed n)) b in
        Opens 1 (rib_of typed) (made_label at b.names) b r.0 r.1
    go true = named (nat_lt (length b.stored.labels.entries) b.stored.labels.limit)
    go false = extends_refl b.stored

-- the same steps, grouped otherwise
module _ {A B C : Type 0} (p : Lowering C) (q : Lowering A) (f : A → Lowering B) where
  regrouped : (b : Builder) → ((p >>= (λ u. q)) >>= f) b ≡ (p >>= (λ u. q >>= f)) b
  regrouped b = by (p b).0 (p b).1
    where
      by : (o : Checked C) (c : Builder)
          → go_on (go_on o c (λ u. q)).0 (go_on o c (λ u. q)).1 f ≡ go_on o c (λ u d. go_on (q d).0 (q d).1 f)
      by (Ok u) c = refl
      by (Err e) c = refl

pub behind : {A B : Type 0} (p : Lowering A) {f g : A → Lowering B} → ((a : A) (b : Builder) → f a b ≡ g a b)
    → (b : Builder) → (p >>= f) b ≡ (p >>= g) b
behind {A = A} p {f = f} {g = g} h b = by (p b).0 (p b).1
  where
    by : (o : Checked A) (c : Builder) → go_on o c f ≡ go_on o c g
    by (Ok a) c = h a c
    by (Err e) c = refl

pub correct_like : {A : Type 0} {p q : Lowering A} {R : Rel A} → ((b : Builder) → p b ≡ q b) → Correct p R → Correct q R
correct_like {R = R} e h = record { holds = λ final ps b r. subst (λ x. Holds R final ps b x.0 x.1) (e b) (h.holds final ps b r) }

-- two things run in it
pub correct_opened_try : {A B C : Type 0} (at : Pointer) (typed : Bool) {s : Lowering C} {S : Rel C} {p : Lowering A} {R : Rel A}
    {f : LabelId → A → Lowering B} {Q : LabelId → A → Rel B} → Correct s S → Correct p R
    → ((n : LabelId) (a : A) → Correct (f n a) (Q n a))
    → Correct (open_try at typed >>= (λ n. s >>= (λ u. p >>= (λ a. close >>= (λ _. f n a)))))
    (OpenedTry at typed (λ n. Seq S (λ u. R)) Q)
correct_opened_try at typed {s = s} {p = p} {f = f} hs hp hf = correct_like
    (behind (open_try at typed) (λ n. regrouped s p (λ a. close >>= (λ _. f n a))))
    (correct_entered 1 (open_try at typed) (λ l n. try_at n typed) (rib_of typed) (made_label at) (opens_try at typed) (λ k n ps. refl)
    (λ n. correct_bind hs (λ u. hp)) hf)

-- the innermost `try` is told, and nothing is stored
pub record TryTargeted (final : Stored) (ps : List Frame) (m m' : Mark) (t : Option (Try LabelId)) : Type 0 where
  pub is : t ≡ innermost_try_rib (ribs ps)
  pub still : m' ≡ m

pub correct_try_target : Correct try_target TryTargeted
unfolding try_target
correct_try_target = record {
  holds = λ final ps b r. record {
    kept = kept_still b;
    grows = grows_refl (mark b);
    in_final = λ d pre. record { is = ap innermost_try_rib r; still = refl };
  };
}
