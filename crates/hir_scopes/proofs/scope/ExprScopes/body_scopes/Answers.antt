use Rattle.std.proofs.Common.{arith, ◌∙◌, ap, sym, length, slice_get}
use Rattle.spec_scopes.specs.Placed.{Sees, outermost}
use Rattle.hir_scopes.proofs.ExprLemmas.{all_new, outermost_by_expr, outermost_in_range, outermost_stands}
use Rattle.hir_scopes.proofs.scope.ExprScopes.body_scopes.Goals as goal

pub compute_expr_scopes-requires : goal.compute_expr_scopes-requires
compute_expr_scopes-requires c =
    outermost_in_range c.args.store.now c.in_ok-scopes.scopes c.add_self.new.scopes c.add_params_bindings.new.scopes
    c.new_binding_scope.new.self c.args.self_param c.args.params.now c.in_ok-outermost.outermost c.in_ok-scopes.ensures.scopes
    c.in_ok-scopes.ensures.entries c.in_ok-add_self.ensures c.in_ok-add_params_bindings.ensures c.in_ok-outermost.ensures.id
    c.in_ok-outermost.ensures.scopes c.in_ok-outermost.ensures.entries c.in_ok-outermost.ensures.by_expr

pub returns-clause-seen : goal.returns-clause-seen
returns-clause-seen c =
    let stands = outermost_stands c.args.store.now c.in_ok-scopes.scopes c.add_self.new.scopes c.add_params_bindings.new.scopes
    c.new_binding_scope.new.self c.args.self_param c.args.params.now c.in_ok-outermost.outermost c.in_ok-scopes.ensures.scopes
    c.in_ok-scopes.ensures.entries c.in_ok-add_self.ensures c.in_ok-add_params_bindings.ensures c.in_ok-outermost.ensures.id
    c.in_ok-outermost.ensures.scopes c.in_ok-outermost.ensures.entries c.in_ok-outermost.ensures.by_expr in
    let same = outermost_by_expr c.args.store.now c.in_ok-scopes.scopes c.add_self.new.scopes c.add_params_bindings.new.scopes
    c.new_binding_scope.new.self c.args.self_param c.args.params.now c.in_ok-outermost.outermost c.in_ok-scopes.ensures.scopes
    c.in_ok-scopes.ensures.entries c.in_ok-add_self.ensures c.in_ok-add_params_bindings.ensures c.in_ok-outermost.ensures.id
    c.in_ok-outermost.ensures.scopes c.in_ok-outermost.ensures.entries c.in_ok-outermost.ensures.by_expr in
    all_new c.args.store.now c.new_binding_scope.new.self c.compute_expr_scopes.new.scopes
    (Sees c.args.store.now c.args.root (outermost c.args.store.now c.args.self_param c.args.params.now))
    (λ e s has. c.in_ok-scopes.ensures.none e s (ap (λ xs. slice_get xs e) (sym same) ∙ has))
    (c.in_ok-compute_expr_scopes.ensures.recorded (outermost c.args.store.now c.args.self_param c.args.params.now) stands)

pub returns-clause-all : goal.returns-clause-all
returns-clause-all c =
    λ e x sees less.
    let stands = outermost_stands c.args.store.now c.in_ok-scopes.scopes c.add_self.new.scopes c.add_params_bindings.new.scopes
    c.new_binding_scope.new.self c.args.self_param c.args.params.now c.in_ok-outermost.outermost c.in_ok-scopes.ensures.scopes
    c.in_ok-scopes.ensures.entries c.in_ok-add_self.ensures c.in_ok-add_params_bindings.ensures c.in_ok-outermost.ensures.id
    c.in_ok-outermost.ensures.scopes c.in_ok-outermost.ensures.entries c.in_ok-outermost.ensures.by_expr in
    let same = outermost_by_expr c.args.store.now c.in_ok-scopes.scopes c.add_self.new.scopes c.add_params_bindings.new.scopes
    c.new_binding_scope.new.self c.args.self_param c.args.params.now c.in_ok-outermost.outermost c.in_ok-scopes.ensures.scopes
    c.in_ok-scopes.ensures.entries c.in_ok-add_self.ensures c.in_ok-add_params_bindings.ensures c.in_ok-outermost.ensures.id
    c.in_ok-outermost.ensures.scopes c.in_ok-outermost.ensures.entries c.in_ok-outermost.ensures.by_expr in
    (c.in_ok-compute_expr_scopes.ensures.recorded (outermost c.args.store.now c.args.self_param c.args.params.now) stands).all e x sees
    (omega (arith, less, ap length same, c.in_ok-scopes.ensures.exprs, c.exprs_len.ensures))
