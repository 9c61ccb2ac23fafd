-- A table that was cleared is a table of zeros, at any element type. Assumes nothing.
use mathlib.Core.Path.{◌≡◌, sym, ap, ◌∙◌}
use mathlib.Core.List.{List}
use lib.ListN.{length, replicate, length-replicate}

pub cleared : {A : Type 0} (v : A) (a b : List A) → b ≡ replicate (length a) v → b ≡ replicate (length b) v
cleared v a b e = e ∙ ap (λ n. replicate n v) (sym (ap length e ∙ length-replicate (length a) v))
