use borrow.Fn.Nested.{layer_below}
use contract.BorrowLft.{⊑_static}
use Rattle.std.proofs.Common.{arith}
use Rattle.hir_syntax.proofs.Depths.{eighth_below, fifth_below, fourth_below, sixth_below, tenth_below, third_below}
use Rattle.hir_syntax.specs.declared.ast.ElseBranch.TheFolds.{the_lemmas}
use Rattle.hir_syntax.specs.declared.ast.ElseBranch.TheViews.{size_is-BlockExpr, size_is-Expr, size_is-MatchArm, size_is-Param}
use Rattle.hir_syntax.specs.declared.ast.ElseBranch.TheViews.{size_is-Pat, size_is-Path, size_is-PathSegment, size_is-RecordExprField}
use Rattle.hir_syntax.specs.declared.ast.ElseBranch.TheViews.{size_is-RecordPatField, size_is-Stmt, size_is-TypeBound, size_is-Type_}
use Rattle.hir_syntax.proofs.+ast_drop.Goals as goal

pub ast::BlockExpr::drop-drop-self-requires-2 : goal.ast::BlockExpr::drop-drop-self-requires-2
ast::BlockExpr::drop-drop-self-requires-2 t c κs =
    let below = eighth_below _ _ _ _ _ _ _ _ _ _ (layer_below (size_is-BlockExpr c.args.self)) in
    (((grind (arith, the_lemmas, below), tt), tt), ⊑_static κs.0)

pub ast::BlockExpr::drop-drop-self-requires-3 : goal.ast::BlockExpr::drop-drop-self-requires-3
ast::BlockExpr::drop-drop-self-requires-3 t c κs =
    let below = eighth_below _ _ _ _ _ _ _ _ _ _ (layer_below (size_is-BlockExpr c.args.self)) in
    (((grind (arith, the_lemmas, below), tt), tt), ⊑_static κs.0)

pub ast::BlockExpr::drop-drop-self-requires-4 : goal.ast::BlockExpr::drop-drop-self-requires-4
ast::BlockExpr::drop-drop-self-requires-4 t c κs =
    let below = eighth_below _ _ _ _ _ _ _ _ _ _ (layer_below (size_is-BlockExpr c.args.self)) in
    (((grind (arith, the_lemmas, below), tt), tt), ⊑_static κs.0)

pub ast::Expr::drop-drop-self-requires : goal.ast::Expr::drop-drop-self-requires
ast::Expr::drop-drop-self-requires t c κs =
    (((grind (arith, the_lemmas, third_below _ _ _ _ _ (layer_below (size_is-Expr c.args.self))), tt), tt), ⊑_static κs.0)

pub ast::Expr::drop-drop-self-requires-2 : goal.ast::Expr::drop-drop-self-requires-2
ast::Expr::drop-drop-self-requires-2 t c κs =
    (((grind (arith, the_lemmas, third_below _ _ _ _ _ (layer_below (size_is-Expr c.args.self))), tt), tt), ⊑_static κs.0)

pub ast::Expr::drop-drop-self-requires-3 : goal.ast::Expr::drop-drop-self-requires-3
ast::Expr::drop-drop-self-requires-3 t c κs =
    (((grind (arith, the_lemmas, third_below _ _ _ _ _ (layer_below (size_is-Expr c.args.self))), tt), tt), ⊑_static κs.0)

pub ast::Expr::drop-drop-requires : goal.ast::Expr::drop-drop-requires
ast::Expr::drop-drop-requires t c κs =
    (((grind (arith, the_lemmas, third_below _ _ _ _ _ (layer_below (size_is-Expr c.args.self))), tt), tt), ⊑_static κs.0)

pub ast::Expr::drop-drop-requires-2 : goal.ast::Expr::drop-drop-requires-2
ast::Expr::drop-drop-requires-2 t c κs =
    (((grind (arith, the_lemmas, third_below _ _ _ _ _ (layer_below (size_is-Expr c.args.self))), tt), tt), ⊑_static κs.0)

pub ast::Expr::drop-drop-requires-4 : goal.ast::Expr::drop-drop-requires-4
ast::Expr::drop-drop-requires-4 t c κs =
    (((grind (arith, the_lemmas, third_below _ _ _ _ _ (layer_below (size_is-Expr c.args.self))), tt), tt), ⊑_static κs.0)

pub ast::Expr::drop-drop-requires-6 : goal.ast::Expr::drop-drop-requires-6
ast::Expr::drop-drop-requires-6 t c κs =
    (((grind (arith, the_lemmas, third_below _ _ _ _ _ (layer_below (size_is-Expr c.args.self))), tt), tt), ⊑_static κs.0)

pub ast::Expr::drop-drop-requires-7 : goal.ast::Expr::drop-drop-requires-7
ast::Expr::drop-drop-requires-7 t c κs =
    (((grind (arith, the_lemmas, third_below _ _ _ _ _ (layer_below (size_is-Expr c.args.self))), tt), tt), ⊑_static κs.0)

pub ast::Expr::drop-drop-requires-9 : goal.ast::Expr::drop-drop-requires-9
ast::Expr::drop-drop-requires-9 t c κs =
    (((grind (arith, the_lemmas, third_below _ _ _ _ _ (layer_below (size_is-Expr c.args.self))), tt), tt), ⊑_static κs.0)

pub ast::Expr::drop-drop-requires-10 : goal.ast::Expr::drop-drop-requires-10
ast::Expr::drop-drop-requires-10 t c κs =
    (((grind (arith, the_lemmas, third_below _ _ _ _ _ (layer_below (size_is-Expr c.args.self))), tt), tt), ⊑_static κs.0)

pub ast::Expr::drop-drop-requires-11 : goal.ast::Expr::drop-drop-requires-11
ast::Expr::drop-drop-requires-11 t c κs =
    (((grind (arith, the_lemmas, third_below _ _ _ _ _ (layer_below (size_is-Expr c.args.self))), tt), tt), ⊑_static κs.0)

pub ast::Expr::drop-drop-requires-12 : goal.ast::Expr::drop-drop-requires-12
ast::Expr::drop-drop-requires-12 t c κs =
    (((grind (arith, the_lemmas, third_below _ _ _ _ _ (layer_below (size_is-Expr c.args.self))), tt), tt), ⊑_static κs.0)

pub ast::Expr::drop-drop-requires-13 : goal.ast::Expr::drop-drop-requires-13
ast::Expr::drop-drop-requires-13 t c κs =
    (((grind (arith, the_lemmas, third_below _ _ _ _ _ (layer_below (size_is-Expr c.args.self))), tt), tt), ⊑_static κs.0)

pub ast::Expr::drop-drop-requires-14 : goal.ast::Expr::drop-drop-requires-14
ast::Expr::drop-drop-requires-14 t c κs =
    (((grind (arith, the_lemmas, third_below _ _ _ _ _ (layer_below (size_is-Expr c.args.self))), tt), tt), ⊑_static κs.0)

pub ast::Expr::drop-drop-requires-15 : goal.ast::Expr::drop-drop-requires-15
ast::Expr::drop-drop-requires-15 t c κs =
    (((grind (arith, the_lemmas, third_below _ _ _ _ _ (layer_below (size_is-Expr c.args.self))), tt), tt), ⊑_static κs.0)

pub ast::Expr::drop-drop-requires-18 : goal.ast::Expr::drop-drop-requires-18
ast::Expr::drop-drop-requires-18 t c κs =
    (((grind (arith, the_lemmas, third_below _ _ _ _ _ (layer_below (size_is-Expr c.args.self))), tt), tt), ⊑_static κs.0)

pub ast::Expr::drop-drop-requires-19 : goal.ast::Expr::drop-drop-requires-19
ast::Expr::drop-drop-requires-19 t c κs =
    (((grind (arith, the_lemmas, third_below _ _ _ _ _ (layer_below (size_is-Expr c.args.self))), tt), tt), ⊑_static κs.0)

pub ast::Expr::drop-drop-requires-21 : goal.ast::Expr::drop-drop-requires-21
ast::Expr::drop-drop-requires-21 t c κs =
    (((grind (arith, the_lemmas, third_below _ _ _ _ _ (layer_below (size_is-Expr c.args.self))), tt), tt), ⊑_static κs.0)

pub ast::Expr::drop-drop-requires-23 : goal.ast::Expr::drop-drop-requires-23
ast::Expr::drop-drop-requires-23 t c κs =
    (((grind (arith, the_lemmas, third_below _ _ _ _ _ (layer_below (size_is-Expr c.args.self))), tt), tt), ⊑_static κs.0)

pub ast::Expr::drop-drop-requires-24 : goal.ast::Expr::drop-drop-requires-24
ast::Expr::drop-drop-requires-24 t c κs =
    (((grind (arith, the_lemmas, third_below _ _ _ _ _ (layer_below (size_is-Expr c.args.self))), tt), tt), ⊑_static κs.0)

pub ast::Expr::drop-drop-requires-25 : goal.ast::Expr::drop-drop-requires-25
ast::Expr::drop-drop-requires-25 t c κs =
    (((grind (arith, the_lemmas, third_below _ _ _ _ _ (layer_below (size_is-Expr c.args.self))), tt), tt), ⊑_static κs.0)

pub ast::Expr::drop-drop-requires-27 : goal.ast::Expr::drop-drop-requires-27
ast::Expr::drop-drop-requires-27 t c κs =
    (((grind (arith, the_lemmas, third_below _ _ _ _ _ (layer_below (size_is-Expr c.args.self))), tt), tt), ⊑_static κs.0)

pub ast::Expr::drop-drop-requires-28 : goal.ast::Expr::drop-drop-requires-28
ast::Expr::drop-drop-requires-28 t c κs =
    (((grind (arith, the_lemmas, third_below _ _ _ _ _ (layer_below (size_is-Expr c.args.self))), tt), tt), ⊑_static κs.0)

pub ast::Expr::drop-drop-requires-29 : goal.ast::Expr::drop-drop-requires-29
ast::Expr::drop-drop-requires-29 t c κs =
    (((grind (arith, the_lemmas, third_below _ _ _ _ _ (layer_below (size_is-Expr c.args.self))), tt), tt), ⊑_static κs.0)

pub ast::Expr::drop-drop-requires-30 : goal.ast::Expr::drop-drop-requires-30
ast::Expr::drop-drop-requires-30 t c κs =
    (((grind (arith, the_lemmas, third_below _ _ _ _ _ (layer_below (size_is-Expr c.args.self))), tt), tt), ⊑_static κs.0)

pub ast::Expr::drop-drop-requires-31 : goal.ast::Expr::drop-drop-requires-31
ast::Expr::drop-drop-requires-31 t c κs =
    (((grind (arith, the_lemmas, third_below _ _ _ _ _ (layer_below (size_is-Expr c.args.self))), tt), tt), ⊑_static κs.0)

pub ast::Expr::drop-drop-requires-32 : goal.ast::Expr::drop-drop-requires-32
ast::Expr::drop-drop-requires-32 t c κs =
    (((grind (arith, the_lemmas, third_below _ _ _ _ _ (layer_below (size_is-Expr c.args.self))), tt), tt), ⊑_static κs.0)

pub ast::Expr::drop-drop-requires-33 : goal.ast::Expr::drop-drop-requires-33
ast::Expr::drop-drop-requires-33 t c κs =
    (((grind (arith, the_lemmas, third_below _ _ _ _ _ (layer_below (size_is-Expr c.args.self))), tt), tt), ⊑_static κs.0)

pub ast::Expr::drop-drop-requires-34 : goal.ast::Expr::drop-drop-requires-34
ast::Expr::drop-drop-requires-34 t c κs =
    (((grind (arith, the_lemmas, third_below _ _ _ _ _ (layer_below (size_is-Expr c.args.self))), tt), tt), ⊑_static κs.0)

pub ast::Expr::drop-drop-requires-35 : goal.ast::Expr::drop-drop-requires-35
ast::Expr::drop-drop-requires-35 t c κs =
    (((grind (arith, the_lemmas, third_below _ _ _ _ _ (layer_below (size_is-Expr c.args.self))), tt), tt), ⊑_static κs.0)

pub ast::Expr::drop-drop-requires-36 : goal.ast::Expr::drop-drop-requires-36
ast::Expr::drop-drop-requires-36 t c κs =
    (((grind (arith, the_lemmas, third_below _ _ _ _ _ (layer_below (size_is-Expr c.args.self))), tt), tt), ⊑_static κs.0)

pub ast::Expr::drop-drop-requires-37 : goal.ast::Expr::drop-drop-requires-37
ast::Expr::drop-drop-requires-37 t c κs =
    (((grind (arith, the_lemmas, third_below _ _ _ _ _ (layer_below (size_is-Expr c.args.self))), tt), tt), ⊑_static κs.0)

pub ast::Expr::drop-drop-requires-38 : goal.ast::Expr::drop-drop-requires-38
ast::Expr::drop-drop-requires-38 t c κs =
    (((grind (arith, the_lemmas, third_below _ _ _ _ _ (layer_below (size_is-Expr c.args.self))), tt), tt), ⊑_static κs.0)

pub ast::Expr::drop-drop-requires-39 : goal.ast::Expr::drop-drop-requires-39
ast::Expr::drop-drop-requires-39 t c κs =
    (((grind (arith, the_lemmas, third_below _ _ _ _ _ (layer_below (size_is-Expr c.args.self))), tt), tt), ⊑_static κs.0)

pub ast::Expr::drop-drop-requires-40 : goal.ast::Expr::drop-drop-requires-40
ast::Expr::drop-drop-requires-40 t c κs =
    (((grind (arith, the_lemmas, third_below _ _ _ _ _ (layer_below (size_is-Expr c.args.self))), tt), tt), ⊑_static κs.0)

pub ast::Expr::drop-drop-requires-41 : goal.ast::Expr::drop-drop-requires-41
ast::Expr::drop-drop-requires-41 t c κs =
    (((grind (arith, the_lemmas, third_below _ _ _ _ _ (layer_below (size_is-Expr c.args.self))), tt), tt), ⊑_static κs.0)

pub ast::Expr::drop-drop-requires-42 : goal.ast::Expr::drop-drop-requires-42
ast::Expr::drop-drop-requires-42 t c κs =
    (((grind (arith, the_lemmas, third_below _ _ _ _ _ (layer_below (size_is-Expr c.args.self))), tt), tt), ⊑_static κs.0)

pub ast::Expr::drop-drop-requires-43 : goal.ast::Expr::drop-drop-requires-43
ast::Expr::drop-drop-requires-43 t c κs =
    (((grind (arith, the_lemmas, third_below _ _ _ _ _ (layer_below (size_is-Expr c.args.self))), tt), tt), ⊑_static κs.0)

pub ast::Expr::drop-drop-requires-44 : goal.ast::Expr::drop-drop-requires-44
ast::Expr::drop-drop-requires-44 t c κs =
    (((grind (arith, the_lemmas, third_below _ _ _ _ _ (layer_below (size_is-Expr c.args.self))), tt), tt), ⊑_static κs.0)

pub ast::Expr::drop-drop-requires-45 : goal.ast::Expr::drop-drop-requires-45
ast::Expr::drop-drop-requires-45 t c κs =
    (((grind (arith, the_lemmas, third_below _ _ _ _ _ (layer_below (size_is-Expr c.args.self))), tt), tt), ⊑_static κs.0)

pub ast::Expr::drop-drop-requires-46 : goal.ast::Expr::drop-drop-requires-46
ast::Expr::drop-drop-requires-46 t c κs =
    (((grind (arith, the_lemmas, third_below _ _ _ _ _ (layer_below (size_is-Expr c.args.self))), tt), tt), ⊑_static κs.0)

pub ast::Expr::drop-drop-requires-47 : goal.ast::Expr::drop-drop-requires-47
ast::Expr::drop-drop-requires-47 t c κs =
    (((grind (arith, the_lemmas, third_below _ _ _ _ _ (layer_below (size_is-Expr c.args.self))), tt), tt), ⊑_static κs.0)

pub ast::Expr::drop-drop-requires-48 : goal.ast::Expr::drop-drop-requires-48
ast::Expr::drop-drop-requires-48 t c κs =
    (((grind (arith, the_lemmas, third_below _ _ _ _ _ (layer_below (size_is-Expr c.args.self))), tt), tt), ⊑_static κs.0)

pub ast::Expr::drop-drop-requires-48-2 : goal.ast::Expr::drop-drop-requires-48-2
ast::Expr::drop-drop-requires-48-2 t c κs =
    (((grind (arith, the_lemmas, third_below _ _ _ _ _ (layer_below (size_is-Expr c.args.self))), tt), tt), ⊑_static κs.0)

pub ast::Expr::drop-drop-requires-49 : goal.ast::Expr::drop-drop-requires-49
ast::Expr::drop-drop-requires-49 t c κs =
    (((grind (arith, the_lemmas, third_below _ _ _ _ _ (layer_below (size_is-Expr c.args.self))), tt), tt), ⊑_static κs.0)

pub ast::Expr::drop-drop-requires-51 : goal.ast::Expr::drop-drop-requires-51
ast::Expr::drop-drop-requires-51 t c κs =
    (((grind (arith, the_lemmas, third_below _ _ _ _ _ (layer_below (size_is-Expr c.args.self))), tt), tt), ⊑_static κs.0)

pub ast::Expr::drop-drop-requires-52 : goal.ast::Expr::drop-drop-requires-52
ast::Expr::drop-drop-requires-52 t c κs =
    (((grind (arith, the_lemmas, third_below _ _ _ _ _ (layer_below (size_is-Expr c.args.self))), tt), tt), ⊑_static κs.0)

pub ast::Expr::drop-drop-requires-53 : goal.ast::Expr::drop-drop-requires-53
ast::Expr::drop-drop-requires-53 t c κs =
    (((grind (arith, the_lemmas, third_below _ _ _ _ _ (layer_below (size_is-Expr c.args.self))), tt), tt), ⊑_static κs.0)

pub ast::Expr::drop-drop-requires-54 : goal.ast::Expr::drop-drop-requires-54
ast::Expr::drop-drop-requires-54 t c κs =
    (((grind (arith, the_lemmas, third_below _ _ _ _ _ (layer_below (size_is-Expr c.args.self))), tt), tt), ⊑_static κs.0)

pub ast::Expr::drop-drop-requires-55 : goal.ast::Expr::drop-drop-requires-55
ast::Expr::drop-drop-requires-55 t c κs =
    (((grind (arith, the_lemmas, third_below _ _ _ _ _ (layer_below (size_is-Expr c.args.self))), tt), tt), ⊑_static κs.0)

pub ast::Expr::drop-drop-requires-56 : goal.ast::Expr::drop-drop-requires-56
ast::Expr::drop-drop-requires-56 t c κs =
    (((grind (arith, the_lemmas, third_below _ _ _ _ _ (layer_below (size_is-Expr c.args.self))), tt), tt), ⊑_static κs.0)

pub ast::Path::drop-drop-self-requires : goal.ast::Path::drop-drop-self-requires
ast::Path::drop-drop-self-requires t c κs =
    (((grind (arith, the_lemmas, sixth_below _ _ _ _ _ _ _ _ (layer_below (size_is-Path c.args.self))), tt), tt), ⊑_static κs.0)

pub ast::Path::drop-drop-self-requires-2 : goal.ast::Path::drop-drop-self-requires-2
ast::Path::drop-drop-self-requires-2 t c κs =
    (((grind (arith, the_lemmas, sixth_below _ _ _ _ _ _ _ _ (layer_below (size_is-Path c.args.self))), tt), tt), ⊑_static κs.0)

pub ast::PathSegment::drop-drop-self-requires-2 : goal.ast::PathSegment::drop-drop-self-requires-2
ast::PathSegment::drop-drop-self-requires-2 t c κs =
    let below = tenth_below _ _ _ _ _ _ _ _ _ _ _ _ (layer_below (size_is-PathSegment c.args.self)) in
    (((grind (arith, the_lemmas, below), tt), tt), ⊑_static κs.0)

pub ast::PathSegment::drop-drop-self-requires-3 : goal.ast::PathSegment::drop-drop-self-requires-3
ast::PathSegment::drop-drop-self-requires-3 t c κs =
    let below = tenth_below _ _ _ _ _ _ _ _ _ _ _ _ (layer_below (size_is-PathSegment c.args.self)) in
    (((grind (arith, the_lemmas, below), tt), tt), ⊑_static κs.0)

pub ast::PathSegment::drop-drop-self-requires-4 : goal.ast::PathSegment::drop-drop-self-requires-4
ast::PathSegment::drop-drop-self-requires-4 t c κs =
    let below = tenth_below _ _ _ _ _ _ _ _ _ _ _ _ (layer_below (size_is-PathSegment c.args.self)) in
    (((grind (arith, the_lemmas, below), tt), tt), ⊑_static κs.0)

pub ast::PathSegment::drop-drop-self-requires-5 : goal.ast::PathSegment::drop-drop-self-requires-5
ast::PathSegment::drop-drop-self-requires-5 t c κs =
    let below = tenth_below _ _ _ _ _ _ _ _ _ _ _ _ (layer_below (size_is-PathSegment c.args.self)) in
    (((grind (arith, the_lemmas, below), tt), tt), ⊑_static κs.0)

pub ast::PathSegment::drop-drop-self-requires-6 : goal.ast::PathSegment::drop-drop-self-requires-6
ast::PathSegment::drop-drop-self-requires-6 t c κs =
    let below = tenth_below _ _ _ _ _ _ _ _ _ _ _ _ (layer_below (size_is-PathSegment c.args.self)) in
    (((grind (arith, the_lemmas, below), tt), tt), ⊑_static κs.0)

pub ast::RecordExprField::drop-drop-self-requires-2 : goal.ast::RecordExprField::drop-drop-self-requires-2
ast::RecordExprField::drop-drop-self-requires-2 t c κs =
    (((grind (arith, the_lemmas, fourth_below _ _ _ _ _ _ (layer_below (size_is-RecordExprField c.args.self))), tt), tt), ⊑_static κs.0)

pub ast::Stmt::drop-drop-self-requires : goal.ast::Stmt::drop-drop-self-requires
ast::Stmt::drop-drop-self-requires t c κs =
    (((grind (arith, the_lemmas, third_below _ _ _ _ _ (layer_below (size_is-Stmt c.args.self))), tt), tt), ⊑_static κs.0)

pub ast::Stmt::drop-drop-self-requires-2 : goal.ast::Stmt::drop-drop-self-requires-2
ast::Stmt::drop-drop-self-requires-2 t c κs =
    (((grind (arith, the_lemmas, third_below _ _ _ _ _ (layer_below (size_is-Stmt c.args.self))), tt), tt), ⊑_static κs.0)

pub ast::Stmt::drop-drop-self-requires-3 : goal.ast::Stmt::drop-drop-self-requires-3
ast::Stmt::drop-drop-self-requires-3 t c κs =
    (((grind (arith, the_lemmas, third_below _ _ _ _ _ (layer_below (size_is-Stmt c.args.self))), tt), tt), ⊑_static κs.0)

pub ast::Stmt::drop-drop-self-requires-4 : goal.ast::Stmt::drop-drop-self-requires-4
ast::Stmt::drop-drop-self-requires-4 t c κs =
    (((grind (arith, the_lemmas, third_below _ _ _ _ _ (layer_below (size_is-Stmt c.args.self))), tt), tt), ⊑_static κs.0)

pub ast::Stmt::drop-drop-requires : goal.ast::Stmt::drop-drop-requires
ast::Stmt::drop-drop-requires t c κs =
    (((grind (arith, the_lemmas, third_below _ _ _ _ _ (layer_below (size_is-Stmt c.args.self))), tt), tt), ⊑_static κs.0)

pub branches::MatchArm::drop-drop-self-requires : goal.branches::MatchArm::drop-drop-self-requires
branches::MatchArm::drop-drop-self-requires t c κs =
    (((grind (arith, the_lemmas, fifth_below _ _ _ _ _ _ _ (layer_below (size_is-MatchArm c.args.self))), tt), tt), ⊑_static κs.0)

pub branches::MatchArm::drop-drop-self-requires-2 : goal.branches::MatchArm::drop-drop-self-requires-2
branches::MatchArm::drop-drop-self-requires-2 t c κs =
    (((grind (arith, the_lemmas, fifth_below _ _ _ _ _ _ _ (layer_below (size_is-MatchArm c.args.self))), tt), tt), ⊑_static κs.0)

pub branches::MatchArm::drop-drop-self-requires-3 : goal.branches::MatchArm::drop-drop-self-requires-3
branches::MatchArm::drop-drop-self-requires-3 t c κs =
    (((grind (arith, the_lemmas, fifth_below _ _ _ _ _ _ _ (layer_below (size_is-MatchArm c.args.self))), tt), tt), ⊑_static κs.0)

pub pats::Pat::drop-drop-self-requires-2 : goal.pats::Pat::drop-drop-self-requires-2
pats::Pat::drop-drop-self-requires-2 t c κs =
    (((grind (arith, the_lemmas, third_below _ _ _ _ _ (layer_below (size_is-Pat c.args.self))), tt), tt), ⊑_static κs.0)

pub pats::Pat::drop-drop-requires : goal.pats::Pat::drop-drop-requires
pats::Pat::drop-drop-requires t c κs =
    (((grind (arith, the_lemmas, third_below _ _ _ _ _ (layer_below (size_is-Pat c.args.self))), tt), tt), ⊑_static κs.0)

pub pats::Pat::drop-drop-requires-2 : goal.pats::Pat::drop-drop-requires-2
pats::Pat::drop-drop-requires-2 t c κs =
    (((grind (arith, the_lemmas, third_below _ _ _ _ _ (layer_below (size_is-Pat c.args.self))), tt), tt), ⊑_static κs.0)

pub pats::Pat::drop-drop-requires-3 : goal.pats::Pat::drop-drop-requires-3
pats::Pat::drop-drop-requires-3 t c κs =
    (((grind (arith, the_lemmas, third_below _ _ _ _ _ (layer_below (size_is-Pat c.args.self))), tt), tt), ⊑_static κs.0)

pub pats::Pat::drop-drop-requires-4 : goal.pats::Pat::drop-drop-requires-4
pats::Pat::drop-drop-requires-4 t c κs =
    (((grind (arith, the_lemmas, third_below _ _ _ _ _ (layer_below (size_is-Pat c.args.self))), tt), tt), ⊑_static κs.0)

pub pats::Pat::drop-drop-requires-5 : goal.pats::Pat::drop-drop-requires-5
pats::Pat::drop-drop-requires-5 t c κs =
    (((grind (arith, the_lemmas, third_below _ _ _ _ _ (layer_below (size_is-Pat c.args.self))), tt), tt), ⊑_static κs.0)

pub pats::Pat::drop-drop-requires-6 : goal.pats::Pat::drop-drop-requires-6
pats::Pat::drop-drop-requires-6 t c κs =
    (((grind (arith, the_lemmas, third_below _ _ _ _ _ (layer_below (size_is-Pat c.args.self))), tt), tt), ⊑_static κs.0)

pub pats::Pat::drop-drop-requires-7 : goal.pats::Pat::drop-drop-requires-7
pats::Pat::drop-drop-requires-7 t c κs =
    (((grind (arith, the_lemmas, third_below _ _ _ _ _ (layer_below (size_is-Pat c.args.self))), tt), tt), ⊑_static κs.0)

pub pats::Pat::drop-drop-requires-8 : goal.pats::Pat::drop-drop-requires-8
pats::Pat::drop-drop-requires-8 t c κs =
    (((grind (arith, the_lemmas, third_below _ _ _ _ _ (layer_below (size_is-Pat c.args.self))), tt), tt), ⊑_static κs.0)

pub pats::Pat::drop-drop-requires-9 : goal.pats::Pat::drop-drop-requires-9
pats::Pat::drop-drop-requires-9 t c κs =
    (((grind (arith, the_lemmas, third_below _ _ _ _ _ (layer_below (size_is-Pat c.args.self))), tt), tt), ⊑_static κs.0)

pub pats::Pat::drop-drop-requires-10 : goal.pats::Pat::drop-drop-requires-10
pats::Pat::drop-drop-requires-10 t c κs =
    (((grind (arith, the_lemmas, third_below _ _ _ _ _ (layer_below (size_is-Pat c.args.self))), tt), tt), ⊑_static κs.0)

pub pats::Pat::drop-drop-requires-11 : goal.pats::Pat::drop-drop-requires-11
pats::Pat::drop-drop-requires-11 t c κs =
    (((grind (arith, the_lemmas, third_below _ _ _ _ _ (layer_below (size_is-Pat c.args.self))), tt), tt), ⊑_static κs.0)

pub pats::Pat::drop-drop-requires-12 : goal.pats::Pat::drop-drop-requires-12
pats::Pat::drop-drop-requires-12 t c κs =
    (((grind (arith, the_lemmas, third_below _ _ _ _ _ (layer_below (size_is-Pat c.args.self))), tt), tt), ⊑_static κs.0)

pub pats::Pat::drop-drop-requires-12-2 : goal.pats::Pat::drop-drop-requires-12-2
pats::Pat::drop-drop-requires-12-2 t c κs =
    (((grind (arith, the_lemmas, third_below _ _ _ _ _ (layer_below (size_is-Pat c.args.self))), tt), tt), ⊑_static κs.0)

pub pats::Pat::drop-drop-requires-12-3 : goal.pats::Pat::drop-drop-requires-12-3
pats::Pat::drop-drop-requires-12-3 t c κs =
    (((grind (arith, the_lemmas, third_below _ _ _ _ _ (layer_below (size_is-Pat c.args.self))), tt), tt), ⊑_static κs.0)

pub pats::Pat::drop-drop-requires-14 : goal.pats::Pat::drop-drop-requires-14
pats::Pat::drop-drop-requires-14 t c κs =
    (((grind (arith, the_lemmas, third_below _ _ _ _ _ (layer_below (size_is-Pat c.args.self))), tt), tt), ⊑_static κs.0)

pub pats::Pat::drop-drop-requires-15 : goal.pats::Pat::drop-drop-requires-15
pats::Pat::drop-drop-requires-15 t c κs =
    (((grind (arith, the_lemmas, third_below _ _ _ _ _ (layer_below (size_is-Pat c.args.self))), tt), tt), ⊑_static κs.0)

pub pats::RecordPatField::drop-drop-self-requires-2 : goal.pats::RecordPatField::drop-drop-self-requires-2
pats::RecordPatField::drop-drop-self-requires-2 t c κs =
    (((grind (arith, the_lemmas, fourth_below _ _ _ _ _ _ (layer_below (size_is-RecordPatField c.args.self))), tt), tt), ⊑_static κs.0)

pub types::Param::drop-drop-self-requires : goal.types::Param::drop-drop-self-requires
types::Param::drop-drop-self-requires t c κs =
    (((grind (arith, the_lemmas, fourth_below _ _ _ _ _ _ (layer_below (size_is-Param c.args.self))), tt), tt), ⊑_static κs.0)

pub types::Param::drop-drop-self-requires-2 : goal.types::Param::drop-drop-self-requires-2
types::Param::drop-drop-self-requires-2 t c κs =
    (((grind (arith, the_lemmas, fourth_below _ _ _ _ _ _ (layer_below (size_is-Param c.args.self))), tt), tt), ⊑_static κs.0)

pub types::TypeBound::drop-drop-self-requires : goal.types::TypeBound::drop-drop-self-requires
types::TypeBound::drop-drop-self-requires t c κs =
    (((grind (arith, the_lemmas, fourth_below _ _ _ _ _ _ (layer_below (size_is-TypeBound c.args.self))), tt), tt), ⊑_static κs.0)

pub types::Type_::drop-drop-self-requires : goal.types::Type_::drop-drop-self-requires
types::Type_::drop-drop-self-requires t c κs =
    (((grind (arith, the_lemmas, third_below _ _ _ _ _ (layer_below (size_is-Type_ c.args.self))), tt), tt), ⊑_static κs.0)

pub types::Type_::drop-drop-requires : goal.types::Type_::drop-drop-requires
types::Type_::drop-drop-requires t c κs =
    (((grind (arith, the_lemmas, third_below _ _ _ _ _ (layer_below (size_is-Type_ c.args.self))), tt), tt), ⊑_static κs.0)

pub types::Type_::drop-drop-requires-2 : goal.types::Type_::drop-drop-requires-2
types::Type_::drop-drop-requires-2 t c κs =
    (((grind (arith, the_lemmas, third_below _ _ _ _ _ (layer_below (size_is-Type_ c.args.self))), tt), tt), ⊑_static κs.0)

pub types::Type_::drop-drop-requires-3 : goal.types::Type_::drop-drop-requires-3
types::Type_::drop-drop-requires-3 t c κs =
    (((grind (arith, the_lemmas, third_below _ _ _ _ _ (layer_below (size_is-Type_ c.args.self))), tt), tt), ⊑_static κs.0)

pub types::Type_::drop-drop-requires-4 : goal.types::Type_::drop-drop-requires-4
types::Type_::drop-drop-requires-4 t c κs =
    (((grind (arith, the_lemmas, third_below _ _ _ _ _ (layer_below (size_is-Type_ c.args.self))), tt), tt), ⊑_static κs.0)

pub types::Type_::drop-drop-requires-5 : goal.types::Type_::drop-drop-requires-5
types::Type_::drop-drop-requires-5 t c κs =
    (((grind (arith, the_lemmas, third_below _ _ _ _ _ (layer_below (size_is-Type_ c.args.self))), tt), tt), ⊑_static κs.0)

pub types::Type_::drop-drop-requires-6 : goal.types::Type_::drop-drop-requires-6
types::Type_::drop-drop-requires-6 t c κs =
    (((grind (arith, the_lemmas, third_below _ _ _ _ _ (layer_below (size_is-Type_ c.args.self))), tt), tt), ⊑_static κs.0)

pub types::Type_::drop-drop-requires-8 : goal.types::Type_::drop-drop-requires-8
types::Type_::drop-drop-requires-8 t c κs =
    (((grind (arith, the_lemmas, third_below _ _ _ _ _ (layer_below (size_is-Type_ c.args.self))), tt), tt), ⊑_static κs.0)

pub types::Type_::drop-drop-requires-10 : goal.types::Type_::drop-drop-requires-10
types::Type_::drop-drop-requires-10 t c κs =
    (((grind (arith, the_lemmas, third_below _ _ _ _ _ (layer_below (size_is-Type_ c.args.self))), tt), tt), ⊑_static κs.0)

pub types::Type_::drop-drop-requires-11 : goal.types::Type_::drop-drop-requires-11
types::Type_::drop-drop-requires-11 t c κs =
    (((grind (arith, the_lemmas, third_below _ _ _ _ _ (layer_below (size_is-Type_ c.args.self))), tt), tt), ⊑_static κs.0)

pub types::Type_::drop-drop-requires-13 : goal.types::Type_::drop-drop-requires-13
types::Type_::drop-drop-requires-13 t c κs =
    (((grind (arith, the_lemmas, third_below _ _ _ _ _ (layer_below (size_is-Type_ c.args.self))), tt), tt), ⊑_static κs.0)

pub types::Type_::drop-drop-requires-14 : goal.types::Type_::drop-drop-requires-14
types::Type_::drop-drop-requires-14 t c κs =
    (((grind (arith, the_lemmas, third_below _ _ _ _ _ (layer_below (size_is-Type_ c.args.self))), tt), tt), ⊑_static κs.0)

pub types::Type_::drop-drop-requires-15 : goal.types::Type_::drop-drop-requires-15
types::Type_::drop-drop-requires-15 t c κs =
    (((grind (arith, the_lemmas, third_below _ _ _ _ _ (layer_below (size_is-Type_ c.args.self))), tt), tt), ⊑_static κs.0)

pub types::Type_::drop-drop-requires-16 : goal.types::Type_::drop-drop-requires-16
types::Type_::drop-drop-requires-16 t c κs =
    (((grind (arith, the_lemmas, third_below _ _ _ _ _ (layer_below (size_is-Type_ c.args.self))), tt), tt), ⊑_static κs.0)

pub types::Type_::drop-drop-requires-17 : goal.types::Type_::drop-drop-requires-17
types::Type_::drop-drop-requires-17 t c κs =
    (((grind (arith, the_lemmas, third_below _ _ _ _ _ (layer_below (size_is-Type_ c.args.self))), tt), tt), ⊑_static κs.0)
