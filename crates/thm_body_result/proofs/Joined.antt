-- Lists that are told of parts and those that are listed of them, joined.
use Rattle.std.proofs.Common.{◌≡◌, ◌∙◌, sym, List, [], ◌++◌, append-nil}

module _ {X : Type 0} where
  pub behind : {xs ys : List X} → xs ≡ ys → xs ++ [] ≡ ys
  behind {xs = xs} e = append-nil xs ∙ e

  pub then_none : {xs ys : List X} → xs ≡ ys → xs ≡ ys ++ []
  then_none {ys = ys} e = e ∙ sym (append-nil ys)

  pub both : {as' bs cs ds : List X} → as' ≡ bs → cs ≡ ds → as' ++ cs ≡ bs ++ ds
  both e f = λ i. e i ++ f i

  -- where nothing is told behind it
  pub first : {xs ys zs : List X} → xs ≡ ys → zs ≡ [] → xs ++ zs ≡ ys
  first e f = both e f ∙ append-nil _
