use Rattle.std.proofs.Common.{◌∙◌, ap, subst, sym}
use Rattle.hir_store.specs.declared.name.Name.TheVariants as name
use Rattle.hir_env.specs.Answering.{def_named}
use Rattle.hir_lower_expr.specs.Runs.{DefinesBehind}
use Rattle.hir_lower_expr.proofs.definitions.def_stmt.Goals as goal

pub returns-in_default-clause-steps : goal.returns-in_default-clause-steps
returns-in_default-clause-steps g c =
    let at = g.P.LowerParts.rctx c.args.lowerer.now.parts in
    subst (λ n. DefinesBehind 0 (def_named at.answers at.place n) c.args.done.now c.args.state.now c.define.result c.define.new.done
    c.define.new.state) (sym c.in_default.is) c.define.ensures.steps

pub returns-clause-steps : goal.returns-clause-steps
returns-clause-steps g c =
    let at = g.P.LowerParts.rctx c.args.lowerer.now.parts in
    let found = c.macro_def.ensures ∙ ap (λ t. at.answers.macro_def at.place.module_id (name.Text t)) c.in_ok-clone.ensures.cases in
    let known = subst (λ m. DefinesBehind 0 m c.args.done.now c.args.state.now c.define-2.result c.define-2.new.done c.define-2.new.state)
    found c.define-2.ensures.steps in
    subst (λ n. DefinesBehind 0 (def_named at.answers at.place n) c.args.done.now c.args.state.now c.define-2.result c.define-2.new.done
    c.define-2.new.state) (sym c.in-Some.is) known
