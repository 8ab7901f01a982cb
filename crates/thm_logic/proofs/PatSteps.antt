-- Steps that store patterns and bindings.
use Rattle.std.proofs.Common.{[], ◌≡◌, suc, nat_lt, slice_get, map, List}
use Rattle.std.proofs.Common.{◌∷◌, ◌++◌, length, Option, Some, None, Ok, Err, refl, sym, ap, subst, arith, length-append}
use Rattle.hir_binding.specs.declared.binding.BindingProblems.{BindingProblems}
use Rattle.hir_store.specs.Pointers.{Pointer, flat_option}
use Rattle.hir_store.specs.Arenas.{Sourced, Prefix, with_entry, with_made}
use Rattle.hir_store.specs.Bindings.{Bindings, BindingsContinue, EachGoesOn, binding_id, with_binding, with_definition, with_problem}
use Rattle.hir_store.specs.Bindings.{without_problem, problem_set}
use Rattle.hir_store.specs.FirstMap.{with_first_by}
use Rattle.hir_store.specs.Stored.{Stored}
use Rattle.hir_store.specs.StoreSink as store_sink
use Rattle.hir_store.specs.StoreSink.{pat_id, same_pat, Extends}
use Rattle.hir_store.specs.declared.pat.Binding.{Binding}
use Rattle.hir_store.specs.declared.pat.Pat.{Pat}
use Rattle.hir_store.specs.declared.ids.BindingId.{BindingId}
use Rattle.hir_store.specs.declared.ids.PatId.{PatId}
use Rattle.hir_store.proofs.Arenas.{prefix_refl}
use Rattle.hir_store.proofs.BindingLemmas.{length_at}
use Rattle.hir_store.proofs.OwnerLemmas.{stay_more}
use Rattle.hir_store.proofs.Extending.{extends_refl, extends_definition, extends_problem, extends_pat_field}
use Rattle.thm_logic.proofs.Extended.{pats_go_on, bindings_go_on}
use Rattle.hir_lower_builder.specs.Builder.{Builder}
use Rattle.hir_lower_builder.specs.Lowering.{Checked, alloc_pat, alloc_desugared_pat, alloc_binding, define, set_problem}
use Rattle.hir_lower_builder.specs.Lowering.{point_pat_field, stored}
use Rattle.hir_lower_builder.specs.Preludes.{alloc_beside, pat_source}
use Rattle.thm_logic.proofs.Frames.{Frame}
use Rattle.thm_logic.proofs.Logic.{Mark, counts, Holds, Rel, Correct, in_prefix, Answers}
use Rattle.thm_logic.proofs.Entries.{OneMore, answers_stored, contents, correct_added, correct_write, counted_more, counts_written}
use Rattle.thm_logic.proofs.Entries.{entry_at, entry_more, has_room, made_more, map_as_long, paired_more, source_at}

-- a pattern

-- what a pattern makes of what is stored
abbrev pub PutPat : Type 0
PutPat = Pat → Option Pointer → Stored → Stored

abbrev pub with_pat : PutPat
with_pat p source s = record s { pats = with_entry pat_id s.pats p source }

pub record AllocatedPatBy (put : PutPat) (p : Pat) (source : Option Pointer) (final : Stored) (ps : List Frame) (m m' : Mark) (i : PatId)
    : Type 0 where
  pub number : i.0 ≡ m.pats
  pub here : slice_get final.pats.entries m.pats ≡ Some p
  pub from : slice_get final.pats.sources m.pats ≡ Some source
  pub next : m'.pats ≡ suc m.pats
  pub entries : m'.entries ≡ suc m.entries
  pub nodes : m'.nodes ≡ m.nodes
  pub labels : m'.labels ≡ m.labels
  pub bindings : m'.bindings ≡ m.bindings
  pub types : m'.types ≡ m.types
  pub lifetimes : m'.lifetimes ≡ m.lifetimes
  pub last : m.pats ≡ length m.stored.pats.entries
  pub names : m'.names ≡ m.names
  pub stored : m'.stored ≡ put p source m.stored

abbrev pub AllocatedPat : Pat → Option Pointer → Rel PatId
AllocatedPat = AllocatedPatBy with_pat

-- one pattern more, with this source, after which the arena is that one
allocated_pat : (put : PutPat) (p : Pat) (source : Option Pointer) (a : Sourced Pat PatId) (final : Stored) (ps : List Frame) (b : Builder)
    → OneMore p source b.stored.pats a → put p source b.stored ≡ record b.stored { pats = a }
    → Answers (AllocatedPatBy put p source) final ps b (record b { stored = record b.stored { pats = a } })
    (pat_id (length b.stored.pats.entries))
allocated_pat put p source a final ps b more is =
    let next = counted_more more in answers_stored b (record b.stored { pats = a }) refl
    (λ d. record {
      exprs = d.exprs;
      labels = d.labels;
      pats = paired_more more d.pats;
      types = d.types;
      lifetimes = d.lifetimes;
    })
    (λ d w. record { types = w.types; lifetimes = w.lifetimes })
    (pats_go_on b.stored _ more.continues)
    (λ d pre. record {
      number = refl;
      here = entry_at more pre.pats;
      from = source_at more d.pats pre.pats;
      next = next;
      entries = omega (arith, next);
      nodes = refl;
      labels = refl;
      bindings = refl;
      types = refl;
      lifetimes = refl;
      last = refl;
      names = refl;
      stored = sym is;
    })

pub correct_alloc_pat : (p : Pat) (source : Option Pointer) → Correct (alloc_pat p source) (AllocatedPat p source)
unfolding alloc_pat store_sink.alloc_pat
correct_alloc_pat p source = correct_added (λ s. s.pats) (λ s a. record s { pats = a }) has_room (λ a. pat_id (length a.entries))
    (λ a. with_entry pat_id a p source)
    (λ final ps b. allocated_pat with_pat p source _ final ps b (entry_more pat_id p source b.stored.pats) refl) extends_refl

-- one that is made up for the node that another one came from

abbrev pub put_made_pat : PutPat
put_made_pat p source s = record s { pats = with_made s.pats p source }

-- the node that a pattern came from
abbrev pub source_in : Stored → PatId → Option Pointer
source_in s p = flat_option (slice_get s.pats.sources p.0)

abbrev pub AllocatedMadePat : Pat → Option Pointer → Rel PatId
AllocatedMadePat = AllocatedPatBy put_made_pat

abbrev pub AllocatedBeside : Pat → PatId → Rel PatId
AllocatedBeside p own = λ final ps m m' i. AllocatedPatBy put_made_pat p (source_in m.stored own) final ps m m' i

pub correct_alloc_desugared_pat : (p : Pat) (source : Option Pointer) → Correct (alloc_desugared_pat p source) (AllocatedMadePat p source)
unfolding alloc_desugared_pat store_sink.alloc_desugared_pat
correct_alloc_desugared_pat p source = correct_added (λ s. s.pats) (λ s a. record s { pats = a }) has_room
    (λ a. pat_id (length a.entries)) (λ a. with_made a p source)
    (λ final ps b. allocated_pat put_made_pat p source _ final ps b (made_more p source b.stored.pats) refl) extends_refl

pub correct_alloc_beside : (p : Pat) (own : PatId) → Correct (alloc_beside p own) (AllocatedBeside p own)
unfolding alloc_beside pat_source
correct_alloc_beside p own = record { holds = λ final ps b r. by final ps b _ _ ((made (source_in b.stored own)).holds final ps b r) }
  where
    made : (source : Option Pointer) → Correct (alloc_desugared_pat p source) (AllocatedMadePat p source)
    made source = correct_alloc_desugared_pat p source

    by : (final : Stored) (ps : List Frame) (b : Builder) (o : Checked PatId) (c : Builder)
        → Holds (AllocatedMadePat p (source_in b.stored own)) final ps b o c → Holds (AllocatedBeside p own) final ps b o c
    by final ps b (Ok i) c x = record { kept = x.kept; grows = x.grows; in_final = x.in_final }
    by final ps b (Err e) c x = x

-- a binding, of which the problem isn't settled yet

abbrev pub with_new_binding : Binding → Stored → Stored
with_new_binding x s = record s { bindings = with_binding s.bindings x }

pub record AllocatedBinding (x : Binding) (final : Stored) (ps : List Frame) (m m' : Mark) (i : BindingId) : Type 0 where
  pub number : i.0 ≡ m.bindings
  pub here : slice_get (map without_problem final.bindings.entries) m.bindings ≡ Some (without_problem x)
  pub next : m'.bindings ≡ suc m.bindings
  pub entries : m'.entries ≡ m.entries
  pub nodes : m'.nodes ≡ m.nodes
  pub labels : m'.labels ≡ m.labels
  pub pats : m'.pats ≡ m.pats
  pub types : m'.types ≡ m.types
  pub lifetimes : m'.lifetimes ≡ m.lifetimes
  pub last : m.bindings ≡ length m.stored.bindings.entries
  pub names : m'.names ≡ m.names
  pub stored : m'.stored ≡ with_new_binding x m.stored

map_more : {A B : Type 0} (g : A → B) (xs : List A) (x : A) → map g (xs ++ x ∷ []) ≡ map g xs ++ g x ∷ []
map_more g [] x = refl
map_more g (y ∷ xs) x = ap (λ ys. g y ∷ ys) (map_more g xs x)

lists_more : {A : Type 0} (xss : List (List A)) (xs : List A) → EachGoesOn xss (xss ++ xs ∷ [])
lists_more [] xs = tt
lists_more (ys ∷ xss) xs = (prefix_refl ys, lists_more xss xs)

bindings_push : (a : Bindings) (x : Binding) → BindingsContinue a (with_binding a x)
bindings_push a x = record {
  entries = record { more = without_problem x ∷ []; is = map_more without_problem a.entries x };
  definitions = lists_more a.definitions [];
  owners = stay_more a.owners None;
  limit = refl;
}

pub correct_alloc_binding : (x : Binding) → Correct (alloc_binding x) (AllocatedBinding x)
unfolding alloc_binding store_sink.alloc_binding
correct_alloc_binding x = correct_added (λ s. s.bindings) (λ s a. record s { bindings = a })
    (λ a. nat_lt (length a.entries) a.limit) (λ a. binding_id (length a.entries)) (λ a. with_binding a x) new extends_refl
  where
    new : (final : Stored) (ps : List Frame) (b : Builder)
        → Answers (AllocatedBinding x) final ps b (record b { stored = with_new_binding x b.stored })
        (binding_id (length b.stored.bindings.entries))
    new final ps b =
        let xs = b.stored.bindings.entries in
        let grown = length-append xs (x ∷ []) in answers_stored b (with_new_binding x b.stored) refl
        (λ d. record { exprs = d.exprs; labels = d.labels; pats = d.pats; types = d.types; lifetimes = d.lifetimes })
        (λ d w. record { types = w.types; lifetimes = w.lifetimes })
        (bindings_go_on b.stored _ (bindings_push b.stored.bindings x))
        (λ d pre. record {
          number = refl;
          here = in_prefix (map without_problem xs) (without_problem x) (length xs) (map_as_long without_problem xs)
              (subst (λ k. Prefix k (map without_problem final.bindings.entries)) (map_more without_problem xs x) pre.bindings.entries);
          next = omega (arith, grown);
          entries = refl;
          nodes = refl;
          labels = refl;
          pats = refl;
          types = refl;
          lifetimes = refl;
          last = refl;
          names = refl;
          stored = refl;
        })

-- what is written of patterns and bindings that are there

-- nothing that is counted is stored
pub record PatWrites (f : Stored → Stored) (final : Stored) (ps : List Frame) (m m' : Mark) (u : Unit {0}) : Type 0 where
  pub counts_are : counts m' ≡ counts m
  pub stored : m'.stored ≡ f m.stored

pub correct_pat_write : (f : Stored → Stored) → ((s : Stored) → contents (f s) ≡ contents s) → ((s : Stored) → Extends s (f s))
    → Correct (stored (λ s. (Ok tt, f s))) (PatWrites f)
correct_pat_write f same stays = correct_write f same stays (λ final ps b. record { counts_are = counts_written f same b; stored = refl })

abbrev pub defining : BindingId → PatId → Stored → Stored
defining id p s = record s { bindings = with_definition s.bindings id p }

pub correct_define : (id : BindingId) (p : PatId) → Correct (define id p) (PatWrites (defining id p))
unfolding define store_sink.define
correct_define id p = correct_pat_write (defining id p) (λ s. refl) (λ s. extends_definition s id p)

abbrev pub with_field_pat : PatId → Pointer → Stored → Stored
with_field_pat id node s = record s { pat_field_map_back = with_first_by same_pat s.pat_field_map_back id node }

pub correct_point_pat_field : (id : PatId) (node : Pointer) → Correct (point_pat_field id node) (PatWrites (with_field_pat id node))
unfolding point_pat_field store_sink.point_pat_field
correct_point_pat_field id node = correct_pat_write (with_field_pat id node) (λ s. refl) (λ s. extends_pat_field s id node)

abbrev pub with_problem_of : BindingId → Option BindingProblems → Stored → Stored
with_problem_of id problem s = record s { bindings = with_problem s.bindings id problem }

-- a problem takes the place of another
problem_contents : (id : BindingId) (problem : Option BindingProblems) (s : Stored) → contents (with_problem_of id problem s) ≡ contents s
problem_contents id problem s =
    let as_long = length_at id.0 (problem_set problem) s.bindings.entries in
    ap (λ n. (
      s.exprs.entries,
      s.exprs.sources,
      s.labels.entries,
      s.labels.sources,
      s.pats.entries,
      s.pats.sources,
      s.types,
      s.lifetimes,
      s.roots,
      n,
    )) as_long

pub correct_set_problem : (id : BindingId) (problem : Option BindingProblems)
    → Correct (set_problem id problem) (PatWrites (with_problem_of id problem))
unfolding set_problem store_sink.set_problem
correct_set_problem id problem =
    correct_pat_write (with_problem_of id problem) (problem_contents id problem) (λ s. extends_problem s id problem)
