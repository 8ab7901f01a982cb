-- Where a tree is read.
use Rattle.hir_env.specs.Answers.{Answers}
use Rattle.hir_env.specs.ResolveCtx.{ResolveCtx}
use Rattle.hir_env.specs.Tables.{numbered_items}
use Rattle.hir_env.specs.declared.ctx.LowerCtx.{LowerCtx}

abbrev pub rctx_at : Answers → LowerCtx → ResolveCtx
rctx_at env p = record { answers = env; place = p }

-- The answers as of a language that lacks no item. By these the parts of a tree are counted: where an item is lacking, the operand of
-- a `?` is no part of what is answered.
abbrev pub with_all_items : Answers → Answers
with_all_items env = record env { lang_items = numbered_items }
