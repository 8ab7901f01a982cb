-- Sizes that are as good as the same: nothing beside another, one and another two in another order of taking them together.
use Rattle.std.proofs.Common.{◌∙◌, refl, sym, ◌+◌, ◌++◌, inl, inr, ⊎_elim, map}
use Rattle.spec_semantics.specs.InnerWritten.{InnerBody}
use Rattle.thm_body_result.specs.Size.{Size, a_body, later_owner, nothing, owned, owned_else_last, ◌∪◌}
use Rattle.thm_body_result.proofs.Took.{Same, none_after, none_before}

pub same : (n : Size) → Same n n
same n = record {
  exprs = refl;
  labels = refl;
  bindings = refl;
  owners = refl;
  names = refl;
  params = refl;
  pats = refl;
  types = refl;
  lifetimes = refl;
  pat_leads = refl;
  type_leads = refl;
  overcounts = λ x. x;
}

pub same_then : {n k j : Size} → Same n k → Same k j → Same n j
same_then h g = record {
  exprs = h.exprs ∙ g.exprs;
  labels = h.labels ∙ g.labels;
  bindings = h.bindings ∙ g.bindings;
  owners = h.owners ∙ g.owners;
  names = h.names ∙ g.names;
  params = h.params ∙ g.params;
  pats = h.pats ∙ g.pats;
  types = h.types ∙ g.types;
  lifetimes = h.lifetimes ∙ g.lifetimes;
  pat_leads = h.pat_leads ∙ g.pat_leads;
  type_leads = h.type_leads ∙ g.type_leads;
  overcounts = λ x. g.overcounts (h.overcounts x);
}

pub both : {n k m j : Size} → Same n k → Same m j → Same (n ∪ m) (k ∪ j)
both h g = record {
  exprs = λ i. h.exprs i + g.exprs i;
  labels = λ i. h.labels i + g.labels i;
  bindings = λ i. h.bindings i + g.bindings i;
  owners = λ i. h.owners i ++ map (later_owner (h.exprs i)) (g.owners i);
  names = λ i. h.names i + g.names i;
  params = λ i. h.params i + g.params i;
  pats = λ i. h.pats i ++ g.pats i;
  types = λ i. h.types i ++ g.types i;
  lifetimes = λ i. h.lifetimes i ++ g.lifetimes i;
  pat_leads = λ i. h.pat_leads i ++ g.pat_leads i;
  type_leads = λ i. h.type_leads i ++ g.type_leads i;
  overcounts = λ x. ⊎_elim (λ y. inl (h.overcounts y)) (λ z. inr (g.overcounts z)) x;
}

-- behind nothing
pub behind : {n k : Size} → Same n k → Same (nothing ∪ n) k
behind {n = n} h = same_then (none_before n) h

-- in front of nothing
pub in_front : (n : Size) → Same n (n ∪ nothing)
in_front n = let h = none_after n in record {
  exprs = sym h.exprs;
  labels = sym h.labels;
  bindings = sym h.bindings;
  owners = sym h.owners;
  names = sym h.names;
  params = sym h.params;
  pats = sym h.pats;
  types = sym h.types;
  lifetimes = sym h.lifetimes;
  pat_leads = sym h.pat_leads;
  type_leads = sym h.type_leads;
  overcounts = λ x. inl x;
}

-- in a body inside, and owned
pub in_body : (x : InnerBody) {n k : Size} → Same n k → Same (a_body x n) (a_body x k)
in_body x h = record {
  exprs = h.exprs;
  labels = h.labels;
  bindings = h.bindings;
  owners = h.owners;
  names = h.names;
  params = h.params;
  pats = h.pats;
  types = h.types;
  lifetimes = h.lifetimes;
  pat_leads = h.pat_leads;
  type_leads = h.type_leads;
  overcounts = h.overcounts;
}

pub all_owned : {n k : Size} → Same n k → Same (owned n) (owned k)
all_owned h = record {
  exprs = h.exprs;
  labels = h.labels;
  bindings = h.bindings;
  owners = λ i. map (owned_else_last (h.exprs i)) (h.owners i);
  names = h.names;
  params = h.params;
  pats = h.pats;
  types = h.types;
  lifetimes = h.lifetimes;
  pat_leads = h.pat_leads;
  type_leads = h.type_leads;
  overcounts = h.overcounts;
}
