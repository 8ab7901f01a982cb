use Rattle.store_json.proofs.words.problem_word.Goals as goal

pub returns-in-BoundMoreThanOnce : goal.returns-in-BoundMoreThanOnce
returns-in-BoundMoreThanOnce c = rw c.in-BoundMoreThanOnce.is

pub returns-in-BoundInconsistently : goal.returns-in-BoundInconsistently
returns-in-BoundInconsistently c = rw c.in-BoundInconsistently.is

pub returns-in-NotBoundAcrossAll : goal.returns-in-NotBoundAcrossAll
returns-in-NotBoundAcrossAll c = rw c.in-NotBoundAcrossAll.is
