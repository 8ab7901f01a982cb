use Rattle.std.proofs.Common.{arith, ◌≡◌, ◌∙◌, ap, sym, subst, Some, None}
use Rattle.hir_env.specs.Answers.{Contexts}
use Rattle.hir_lower_scope.specs.ScopeRibs.{sought_first, climbed}
use Rattle.hir_lower_scope.specs.Labels.{answer}
use Rattle.hir_lower_scope.specs.Ribs.{rib_at, label_in}
use Rattle.hir_lower_scope.specs.Walk.{EndsAfter, sought_of}
use Rattle.hir_lower_scope.proofs.FoundLemmas.{met_by, ends_on, if_some}
use Rattle.hir_lower_scope.proofs.WalkLemmas.{low, low_all, walk, count, search_walks, walk_none, walk_label, walk_macro, few, counted}
use Rattle.hir_lower_scope.proofs.WalkLemmas.{hidden_there, seen_there}
use Rattle.hir_lower_scope.proofs.found.find_label.Goals as goal

pub loop-depth-init : goal.loop-depth-init
loop-depth-init g c =
    let contexts : Contexts = (g.E.LowerEnv.answers c.args.env.now).contexts in
    let rs = c.args.stacks.now in
    let all = low_all c.depth-below.result rs (omega (arith, c.depth-below.ensures)) in
    let many = ap (count c.args.name.now) all in
    record {
      so_far = ap (λ s. walk contexts c.args.name.now c.barrier-barrier.result s rs) (sym c.first_wanted-wanted.ensures.sought)
          ∙ ap (walk contexts c.args.name.now c.barrier-barrier.result (sought_of c.first_wanted-wanted.result)) (sym all);
      asked = c.first_wanted-wanted.ensures.asked;
      inside = omega (arith, c.depth-below.ensures);
      counted = omega (arith, many, c.requires);
      ends = λ k e. (
        k,
        (
          omega (arith, c.requires),
          subst (λ s. EndsAfter contexts k s.context) (sym c.first_wanted-wanted.ensures.sought) e,
        ),
      );
    }

pub look-requires-clause-inside : goal.look-requires-clause-inside
look-requires-clause-inside g c = omega (arith, c.in-Some.ensures.0, c.loop-depth.invariant.inside)

pub look-requires-clause-count : goal.look-requires-clause-count
look-requires-clause-count g c =
    let most = few c.args.name.now c.args.stacks.now in
    omega (arith, most, c.loop-depth.invariant.counted, c.depth-below.ensures, c.depth-below.type_inv)

pub returns-then-depth-barrier-clause-found : goal.returns-then-depth-barrier-clause-found
returns-then-depth-barrier-clause-found g c =
    let contexts : Contexts = (g.E.LowerEnv.answers c.args.env.now).contexts in
    let name = c.args.name.now in
    let rs = c.args.stacks.now in
    let s = sought_first c.args.hygiene in
    let w = c.loop-depth.wanted in
    let q = c.in-Some.depth in
    let a = c.in-Some-look.label in
    let barrier = c.barrier-barrier.result in
    let met = met_by contexts name c.loop-depth.below rs w c.loop-depth.invariant.asked (Some q) c.in-Some.ensures in
    sym (ap answer (search_walks contexts name s rs
    ∙ (ap (λ b. walk contexts name b s rs) (sym c.barrier-barrier.ensures)
    ∙ (c.loop-depth.invariant.so_far
    ∙ (walk_label contexts name barrier (sought_of w) c.loop-depth.below rs q a met (sym c.in-Some-look.ensures.label)
    ∙ hidden_there q barrier a (omega (arith, c.if-depth-barrier.true)))))))

pub returns-then-depth-barrier-clause-bounded : goal.returns-then-depth-barrier-clause-bounded
returns-then-depth-barrier-clause-bounded g c =
    let w = c.loop-depth.wanted in
    let less = counted c.args.name.now w.hygiene w.outer c.in-Some.depth c.loop-depth.below c.args.stacks.now c.in-Some.ensures.0
    c.in-Some.ensures.1 in
    omega (arith, less, c.loop-depth.invariant.counted, c.look.ensures.counted)

pub returns-then-depth-barrier-clause-chain : goal.returns-then-depth-barrier-clause-chain
returns-then-depth-barrier-clause-chain g c k e =
    let ends = (c.loop-depth.invariant.ends k e).1.0 in omega (arith, ends, c.look.ensures.counted)

pub returns-else-depth-barrier-clause-found : goal.returns-else-depth-barrier-clause-found
returns-else-depth-barrier-clause-found g c =
    let contexts : Contexts = (g.E.LowerEnv.answers c.args.env.now).contexts in
    let name = c.args.name.now in
    let rs = c.args.stacks.now in
    let s = sought_first c.args.hygiene in
    let w = c.loop-depth.wanted in
    let q = c.in-Some.depth in
    let a = c.in-Some-look.label in
    let barrier = c.barrier-barrier.result in
    let met = met_by contexts name c.loop-depth.below rs w c.loop-depth.invariant.asked (Some q) c.in-Some.ensures in
    sym (ap answer (search_walks contexts name s rs
    ∙ (ap (λ b. walk contexts name b s rs) (sym c.barrier-barrier.ensures)
    ∙ (c.loop-depth.invariant.so_far
    ∙ (walk_label contexts name barrier (sought_of w) c.loop-depth.below rs q a met (sym c.in-Some-look.ensures.label)
    ∙ seen_there q barrier a (omega (arith, c.if-depth-barrier.false)))))))

pub returns-else-depth-barrier-clause-bounded : goal.returns-else-depth-barrier-clause-bounded
returns-else-depth-barrier-clause-bounded g c =
    let w = c.loop-depth.wanted in
    let less = counted c.args.name.now w.hygiene w.outer c.in-Some.depth c.loop-depth.below c.args.stacks.now c.in-Some.ensures.0
    c.in-Some.ensures.1 in
    omega (arith, less, c.loop-depth.invariant.counted, c.look.ensures.counted)

pub returns-else-depth-barrier-clause-chain : goal.returns-else-depth-barrier-clause-chain
returns-else-depth-barrier-clause-chain g c k e =
    let ends = (c.loop-depth.invariant.ends k e).1.0 in omega (arith, ends, c.look.ensures.counted)

pub loop-depth-preserved : goal.loop-depth-preserved
loop-depth-preserved g c =
    let contexts : Contexts = (g.E.LowerEnv.answers c.args.env.now).contexts in
    let name = c.args.name.now in
    let rs = c.args.stacks.now in
    let w = c.loop-depth.wanted in
    let q = c.in-Some.depth in
    let barrier = c.barrier-barrier.result in
    let met = met_by contexts name c.loop-depth.below rs w c.loop-depth.invariant.asked (Some q) c.in-Some.ensures in
    let unlabelled : label_in (rib_at q rs) ≡ None = sym c.look.ensures.label ∙ c.in_default-look.is in
    let climb = walk_macro contexts name barrier (sought_of w) c.loop-depth.below rs q met unlabelled in
    let sought : sought_of c.past-wanted.result ≡ climbed contexts climb.from =
    if_some (λ k. sought_of c.past-wanted.result ≡ climbed contexts k) w.context climb.from climb.is c.past-wanted.ensures.sought in
    let less = counted name w.hygiene w.outer q c.loop-depth.below rs c.in-Some.ensures.0 c.in-Some.ensures.1 in
    record {
      so_far = c.loop-depth.invariant.so_far
          ∙ (climb.walks ∙ ap (λ s. walk contexts name barrier s (low q rs)) (sym sought));
      asked = c.past-wanted.ensures.asked;
      inside = omega (arith, c.in-Some.ensures.0, c.loop-depth.invariant.inside);
      counted = omega (arith, less, c.loop-depth.invariant.counted, c.look.ensures.counted);
      ends = λ k e.
          let was = c.loop-depth.invariant.ends k e in
          let on = ends_on contexts was.0 w.context climb.from climb.is climb.came was.1.1 in
          let is = was.1.0 in
          let one = on.1.0 in (
            on.0,
            (
              omega (arith, is, one, c.look.ensures.counted),
              subst (λ s. EndsAfter contexts on.0 s.context) (sym sought) on.1.1,
            ),
          );
    }

pub returns-clause-found : goal.returns-clause-found
returns-clause-found g c =
    let contexts : Contexts = (g.E.LowerEnv.answers c.args.env.now).contexts in
    let name = c.args.name.now in
    let rs = c.args.stacks.now in
    let s = sought_first c.args.hygiene in
    let w = c.loop-depth.wanted in
    let met = met_by contexts name c.loop-depth.below rs w c.loop-depth.invariant.asked None c.in_default.ensures in
    sym (ap answer (search_walks contexts name s rs
    ∙ (ap (λ b. walk contexts name b s rs) (sym c.barrier-barrier.ensures)
    ∙ (c.loop-depth.invariant.so_far
    ∙ walk_none contexts name c.barrier-barrier.result (sought_of w) c.loop-depth.below rs met))))

pub returns-clause-chain : goal.returns-clause-chain
returns-clause-chain g c k e = let ends = (c.loop-depth.invariant.ends k e).1.0 in omega (arith, ends)
