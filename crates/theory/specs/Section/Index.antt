-- The clip by index, as a loop makes it: what the bounds 0, 1, .. put out, each by the sides of the vertices before, at and after it in the cycle.
--     prior, next       the index before i and the one after it, in a cycle of n
--     prior_less, next_less, next_prior   both are indices of the cycle, and the one after the one before i is i
--     prior_at          the entry before entry i, in a list that closes
--     side_at, put_at   the side of the vertex where the edge on bound i starts; what bound i puts out
--     clip_to            what the first i bounds put out
--     clip_to_all        what all of them put out is scope's clip
use Rattle.std.specs.Prelude.{◌≡◌, cond, eqb, length}
use Rattle.std.proofs.Math.Path.{refl, sym, ap}
use Rattle.std.proofs.Common.{◌∙◌, arith, take-suc}
use mathlib.Core.List.{List, [], ◌∷◌, ◌++◌}
use Prim.Native.Nat.{ℕ, zero, suc, ◌-◌, ◌≤◌, ◌<◌}
use Rattle.std.proofs.Math.ListN.{get_or, take}
use Rattle.std.proofs.Math.Seq.{take-length}
use Rattle.whole.specs.Tests.{eq_true, eq_false}
use Rattle.whole.specs.Sign.{Sign, plus}
use Rattle.whole.specs.Lists.{final}
use Rattle.scope.specs.Section.{table, put, emit, attach, clip_by}
use Rattle.theory.specs.Section.Emit.{last_side, emit_app}

abbrev pub wrap : ℕ → ℕ → ℕ
wrap n i = cond (eqb i n) 0 i

abbrev pub prior : ℕ → ℕ → ℕ
prior n zero = n - 1
prior n (suc i) = i

abbrev pub next : ℕ → ℕ → ℕ
next n i = wrap n (suc i)

wrap_less : (n i : ℕ) → i < n → wrap n i ≡ i
wrap_less n i h = rw (eq_false i n (λ e. omega arith))

wrap_self : (n : ℕ) → wrap n n ≡ 0
wrap_self n = rw (eq_true n)

pub prior_less : (n i : ℕ) → i < n → prior n i < n
prior_less n zero l = omega arith
prior_less n (suc i) l = omega arith

pub next_less : (n i : ℕ) → i < n → next n i < n
next_less n i l = go (n - suc i) refl
  where
    go : (k : ℕ) → n - suc i ≡ k → next n i < n
    go zero e = let f : suc i ≡ n = omega arith in rw (f, wrap_self n) (omega arith)
    go (suc k) e = rw (wrap_less n (suc i) (omega arith)) (omega arith)

pub next_prior : (n i : ℕ) → i < n → next n (prior n i) ≡ i
next_prior n zero l = let f : suc (n - 1) ≡ n = omega arith in rw f (wrap_self n)
next_prior n (suc i) l = wrap_less n (suc i) l

last_at : {A : Type 0} (x : A) (xs : List A) (d : A) → get_or (x ∷ xs) (length xs) d ≡ final x xs
last_at x [] d = refl
last_at x (y ∷ ys) d = last_at y ys d

pub prior_at : {A : Type 0} (x : A) (xs : List A) (d : A) (i : ℕ) → get_or (final x xs ∷ x ∷ xs) i d ≡ get_or (x ∷ xs) (prior (length (x ∷ xs)) i) d
prior_at x xs d zero = let k : length xs ≡ length (x ∷ xs) - 1 = omega arith in sym (last_at x xs d) ∙ ap (λ (n : ℕ). get_or (x ∷ xs) n d) k
prior_at x xs d (suc i) = refl

last_side_app : {A : Type 0} (q : Sign) (es : List (Sign × A)) (e : Sign × A) → last_side q (es ++ e ∷ []) ≡ e.0
last_side_app q [] e = refl
last_side_app q (x ∷ es) e = last_side_app x.0 es e

module _ {A : Type 0} (side : A → A → Sign) (h d : A) where
  abbrev pub side_at : List A → ℕ → Sign
  side_at bs i = side (get_or bs (prior (length bs) i) d) (get_or bs i d)

  abbrev pub put_at : List A → ℕ → List A
  put_at bs i = put (table (side_at bs (prior (length bs) i)) (side_at bs i) (side_at bs (next (length bs) i))) h (get_or bs i d)

  unfoldable pub clip_to : List A → ℕ → List A
  clip_to bs zero = []
  clip_to bs (suc i) = clip_to bs i ++ put_at bs i

  attach_length : (p : A) (bs : List A) → length (attach side p bs) ≡ length bs
  attach_length p [] = refl
  attach_length p (b ∷ bs) = omega (arith, attach_length b bs)

  attach_at : (p : A) (bs : List A) (i : ℕ) → i < length bs → get_or (attach side p bs) i (plus, d) ≡ (side (get_or (p ∷ bs) i d) (get_or bs i d), get_or bs i d)
  attach_at p [] i l = absurd (omega arith)
  attach_at p (b ∷ bs) zero l = refl
  attach_at p (b ∷ bs) (suc i) l = attach_at b bs i (omega arith)

  -- bounds that are not none, and their entries: each bound with its side
  module _ (b : A) (bs : List A) where
    abbrev all : List A
    all = b ∷ bs

    abbrev entries : List (Sign × A)
    entries = attach side (final b bs) all

    -- the side of the last vertex, with which the clip begins
    abbrev begin : Sign
    begin = (final (side (final b bs) b, b) (attach side b bs)).0

    entry_at : (i : ℕ) → i < length all → get_or entries i (plus, d) ≡ (side_at all i, get_or all i d)
    entry_at i l = attach_at (final b bs) all i l ∙ ap (λ (x : A). (side x (get_or all i d), get_or all i d)) (prior_at b bs d i)

    prior_side : (i : ℕ) → i < length all → last_side begin (take i entries) ≡ side_at all (prior (length all) i)
    prior_side zero l =
        let k : length (attach side b bs) ≡ length all - 1 = omega (arith, attach_length b bs) in
        let e = sym (last_at (side (final b bs) b, b) (attach side b bs) (plus, d)) ∙ ap (λ (n : ℕ). get_or entries n (plus, d)) k ∙ entry_at (length all - 1) (omega arith) in
        ap (λ (x : Sign × A). x.0) e
    prior_side (suc i) l = ap (λ (es : List (Sign × A)). last_side begin es) (take-suc entries i (plus, d) (omega (arith, attach_length (final b bs) all)))
        ∙ last_side_app begin (take i entries) (get_or entries i (plus, d)) ∙ ap (λ (x : Sign × A). x.0) (entry_at i (omega arith))

    clip_to_emit : (i : ℕ) → i ≤ length all → clip_to all i ≡ emit h begin (take i entries) (side_at all (wrap (length all) i))
    unfolding clip_to
    clip_to_emit zero l = refl
    clip_to_emit (suc i) l =
        let k = side_at all (next (length all) i) in
        let p = clip_to_emit i (omega arith) ∙ ap (λ (j : ℕ). emit h begin (take i entries) (side_at all j)) (wrap_less (length all) i (omega arith)) in
        let q = sym (prior_side i (omega arith)) in
        let e = ap (λ (x : Sign × A). take i entries ++ x ∷ []) (sym (entry_at i (omega arith))) ∙ sym (take-suc entries i (plus, d) (omega (arith, attach_length (final b bs) all))) in
        (λ t. p t ++ put (table (q t) (side_at all i) k) h (get_or all i d)) ∙ sym (emit_app h begin (take i entries) (side_at all i, get_or all i d) k) ∙ ap (λ (es : List (Sign × A)). emit h begin es k) e

  -- the loop's clip is the clip
  pub clip_to_all : (bs : List A) → clip_to bs (length bs) ≡ clip_by side h bs
  unfolding clip_to
  clip_to_all [] = refl
  clip_to_all (b ∷ bs) =
      let es = entries b bs in
      let w = ap (λ (j : ℕ). emit h (begin b bs) (take (length (b ∷ bs)) es) (side_at (b ∷ bs) j)) (wrap_self (length (b ∷ bs))) in
      let t = ap (λ (n : ℕ). take n es) (sym (attach_length (final b bs) (b ∷ bs))) ∙ take-length es in
      let s = ap (λ (x : Sign × A). x.0) (sym (entry_at b bs 0 (omega arith))) in
      clip_to_emit b bs (length (b ∷ bs)) (omega arith) ∙ w ∙ (λ k. emit h (begin b bs) (t k) (s k))
