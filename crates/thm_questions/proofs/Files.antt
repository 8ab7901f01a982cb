-- What is asked in an area of nodes, where these are all nodes of some files, is asked in the area of the files.
use Rattle.std.proofs.Common.{List, [], ◌∷◌}
use Rattle.hir_base.specs.declared.node.NodeId.{NodeId}
use Rattle.hir_env.specs.Answers.{Answers}
use Rattle.hir_env.specs.declared.ctx.LowerCtx.{LowerCtx}
use Rattle.thm_frame.specs.Questions as question
use Rattle.thm_frame.specs.Questions.{AllIn, Area, Here, InArea, Question}
use Rattle.thm_questions.specs.Areas.{AllInNodes, InNodes}
use Rattle.thm_questions.specs.Theorems.{nodes_in}
use Rattle.thm_questions.proofs.Framing.{At, all_there}

module _ {a : Answers} (area : Area a) where
  in_area : (q : Question) → InNodes (nodes_in area) q → InArea area q
  in_area (question.of_cfg s) h = h
  in_area (question.of_hygiene s) h = h
  in_area (question.of_context s) h = h
  in_area (question.of_block s m) h = h
  in_area (question.of_resolve m x s) h = h
  in_area (question.of_new_range m) h = h
  in_area (question.of_expand s c m k) h = h
  in_area (question.of_macro_def m n) h = h
  in_area (question.of_legacy_macro m n k) h = h
  in_area question.of_contexts h = tt
  in_area (question.of_crate_root c) h = tt
  in_area (question.of_local_inner c) h = tt
  in_area (question.of_cfg_pred x) h = tt
  in_area (question.of_skip d) h = tt
  in_area (question.of_container d) h = tt
  in_area (question.of_module c) h = tt
  in_area (question.of_alias n) h = tt
  in_area (question.of_lang_item i) h = tt
  in_area question.of_expansion_limit h = tt

  all_in_area : (qs : List Question) → AllInNodes (nodes_in area) qs → AllIn area qs
  all_in_area [] h = tt
  all_in_area (q ∷ qs) h = (in_area q h.0, all_in_area qs h.1)

  pub in_files : {X : Type 0} {ns : List NodeId} {made : Answers → X} {qs : List Question} (p : LowerCtx) → Here area p
      → At (nodes_in area) p ns made qs → AllIn area qs
  in_files {ns = ns} {qs = qs} p w x = all_in_area qs (x.there w.1 (all_there (nodes_in area) p.file_id (λ id. w.0) ns))
