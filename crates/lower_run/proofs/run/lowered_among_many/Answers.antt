use Rattle.lower_run.proofs.Listed.{listed_came}
use Rattle.lower_run.proofs.run.lowered_among_many.Goals as goal

pub returns : goal.returns
returns c =
    listed_came _ _ c.in_ok-document.document _ (rw (← c.root.ensures) c.in_ok-document.ensures.document)
    c.lowered_document-lowered.ensures
