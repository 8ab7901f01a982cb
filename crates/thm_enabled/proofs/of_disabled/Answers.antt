use Rattle.std.proofs.Common.{refl}
use Rattle.thm_enabled.proofs.of_disabled.Goals as goal

pub returns-clause-exprs : goal.returns-clause-exprs
returns-clause-exprs c = λ a p s k x by is h. refl

pub returns-clause-lets : goal.returns-clause-lets
returns-clause-lets c = λ a p s q t e b d x y z v by is h k l m. refl

pub returns-clause-fields : goal.returns-clause-fields
returns-clause-fields c = λ a p s n e x by is h. refl

pub returns-clause-arms : goal.returns-clause-arms
returns-clause-arms c = λ a p s q g e x y z by is h k l. refl

pub returns-clause-params : goal.returns-clause-params
returns-clause-params c = λ a p x xs q t ys by is h k l. refl

pub returns-clause-bodies : goal.returns-clause-bodies
returns-clause-bodies c = λ a p b x by is h. refl

pub returns-clause-definitions : goal.returns-clause-definitions
returns-clause-definitions c = λ a p s n d by is. refl

pub returns-clause-rules : goal.returns-clause-rules
returns-clause-rules c = λ a p s n d by is. refl

pub returns-clause-values : goal.returns-clause-values
returns-clause-values c = λ a p s k d by call is. refl

pub returns-clause-selves : goal.returns-clause-selves
returns-clause-selves c = λ a p x by is. refl

pub returns-clause-formals : goal.returns-clause-formals
returns-clause-formals c = λ a p bare x by is. refl
