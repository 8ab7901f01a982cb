-- How deep the parts of a tree are: less than the tree. What holds several parts is as deep as its deepest one.
use Rattle.std.proofs.Common.{ℕ, ◌<◌}
use Prim.Native.Nat.{max}
use borrow.Fn.Nested.{first_below, rest_below}

pub third_below : (a b c rest whole : ℕ)
    → max a (max b (max c rest)) < whole → c < whole
third_below a b c rest whole below =
    first_below c rest whole
    (rest_below b _ whole (rest_below a _ whole below))

pub fourth_below : (a b c d rest whole : ℕ)
    → max a (max b (max c (max d rest))) < whole → d < whole
fourth_below a b c d rest whole below =
    third_below b c d rest whole
    (rest_below a _ whole below)

pub fifth_below : (a b c d e rest whole : ℕ)
    → max a (max b (max c (max d (max e rest)))) < whole → e < whole
fifth_below a b c d e rest whole below =
    fourth_below b c d e rest whole
    (rest_below a _ whole below)

pub sixth_below : (a b c d e f rest whole : ℕ)
    → max a (max b (max c (max d (max e (max f rest))))) < whole → f < whole
sixth_below a b c d e f rest whole below =
    fifth_below b c d e f rest whole
    (rest_below a _ whole below)

pub eighth_below : (a b c d e f g h rest whole : ℕ)
    → max a (max b (max c (max d (max e (max f (max g (max h rest))))))) < whole → h < whole
eighth_below a b c d e f g h rest whole below =
    sixth_below c d e f g h rest whole
    (rest_below b _ whole (rest_below a _ whole below))

pub tenth_below : (a b c d e f g h i j rest whole : ℕ)
    → max a (max b (max c (max d (max e (max f (max g (max h (max i (max j rest))))))))) < whole → j < whole
tenth_below a b c d e f g h i j rest whole below =
    eighth_below c d e f g h i j rest whole
    (rest_below b _ whole (rest_below a _ whole below))
