-- Which planes are used by nodes: the rows of a tree use the planes of the tree, and no others.
--     uses_append, uses_end                       a row uses its plane number, and nothing else
--     all_used_make, all_used_get, some_unused    each plane is used, or some plane is not
--     uses_post, Used, post_uses                  the rows of a tree use exactly the tree's planes
use Rattle.std.specs.Prelude.{◌≡◌, refl, Bool, true, false, List, [], ◌∷◌, ◌++◌, ◌≢◌, ℕ, zero, suc, ◌+◌, ◌<◌, T, eqb}
use Rattle.std.proofs.Common.{sym, ap, subst, ◌∙◌, inl, inr, arith, eqb→eq}
use Rattle.std.proofs.Math.Bool.{or-false, or_assoc}
use Rattle.std.proofs.Math.Dec.{eqb_refl}
use Rattle.whole.specs.Tests.{◌and◌, ◌or◌, differ, and_split, and_make, or_left, or_right, or_split, eq_test}
use Rattle.whole.specs.Members.{◌∈◌, here, there, in_left, in_right, in_either}
use Rattle.scope.specs.Planes.{Plane}
use Rattle.scope.specs.Solids.{Tree, leaf, node, rows, planes, code, post, place, number, Entry, entry, entries}
use Rattle.scope.specs.Judging.{uses, all_used}
use Rattle.theory.specs.Text.Stacks.{entries_node}

-- ---- of rows

-- rows use what either part uses
pub uses_append : (k : ℕ) (xs ys : List Entry) → uses k (xs ++ ys) ≡ (uses k xs or uses k ys)
unfolding uses
uses_append k [] ys = refl
uses_append k (entry n f b ∷ xs) ys = ap (λ i. eqb k n or i) (uses_append k xs ys) ∙ sym (or_assoc (eqb k n) (uses k xs) (uses k ys))

-- one row more uses its plane number besides
pub uses_end : (k n f b : ℕ) (es : List Entry) → uses k (es ++ (entry n f b ∷ [])) ≡ (uses k es or eqb k n)
unfolding uses
uses_end k n f b es = uses_append k es (entry n f b ∷ []) ∙ ap (λ i. uses k es or i) (or-false (eqb k n))

-- ---- all planes

-- planes each of which is used are all used
pub all_used_make : (n : ℕ) (es : List Entry) → ((k : ℕ) → k < n → T (uses k es)) → T (all_used n es)
unfolding all_used
all_used_make zero es h = tt
all_used_make (suc n) es h = and_make (uses n es) (all_used n es) (h n (omega arith)) (all_used_make n es (λ k l. h k (omega arith)))

-- and back
pub all_used_get : (n : ℕ) (es : List Entry) → T (all_used n es) → (k : ℕ) → k < n → T (uses k es)
unfolding all_used
all_used_get zero es t k h = absurd (omega arith)
all_used_get (suc n) es t k h = let u = and_split (uses n es) (all_used n es) t in go (eqb k n) (eqb→eq k n) (eq_test k n) u.0 (all_used_get n es u.1 k)
  where
    go : (b : Bool) → (T b → k ≡ n) → (k ≡ n → T b) → T (uses n es) → (k < n → T (uses k es)) → T (uses k es)
    go true f g u v = subst (λ i. T (uses i es)) (sym (f tt)) u
    go false f g u v = let ne : k ≢ n = g in v (omega arith)

-- planes that are not all used have one that is not
pub some_unused : (n : ℕ) (es : List Entry) → all_used n es ≡ false → (k : ℕ) × (k < n) × (¬ T (uses k es))
unfolding all_used
some_unused zero es e = differ (cc)
some_unused (suc n) es e = by (uses n es) refl e (some_unused n es)
  where
    by : (b : Bool) → uses n es ≡ b → b and all_used n es ≡ false → (all_used n es ≡ false → (k : ℕ) × (k < n) × (¬ T (uses k es))) → (k : ℕ) × (k < suc n) × (¬ T (uses k es))
    by true h e f = let x = f e in (x.0, omega (arith, x.1), x.2)
    by false h e f = (n, omega arith, λ t. subst T h t)

-- ---- of a tree

uses_node : (ps : List Plane) (k : ℕ) (q : Plane) (f b : Tree) (n : ℕ) → uses k (entries ps (post n (node q f b))) ≡ ((uses k (entries ps (post n f)) or uses k (entries ps (post (n + rows f) b))) or eqb k (place ps q))
uses_node ps k q f b n =
    ap (uses k) (entries_node ps n q f b)
    ∙ uses_end k (place ps q) (number (code n f)) (number (code (n + rows f) b)) (entries ps (post n f) ++ entries ps (post (n + rows f) b))
    ∙ ap (λ i. i or eqb k (place ps q)) (uses_append k (entries ps (post n f)) (entries ps (post (n + rows f) b)))

-- a tree's rows use each of its planes
pub uses_post : (ps : List Plane) (p : Plane) (t : Tree) (n : ℕ) → p ∈ planes t → T (uses (place ps p) (entries ps (post n t)))
uses_post ps p (leaf m) n k = elim k [ ]
uses_post ps p (node q f b) n k = rw (uses_node ps (place ps p) q f b n) (go (uses (place ps p) (entries ps (post n f))) (uses (place ps p) (entries ps (post (n + rows f) b))) k (uses_post ps p f n) (uses_post ps p b (n + rows f)))
  where
    go : (F B : Bool) → p ∈ (q ∷ (planes f ++ planes b)) → (p ∈ planes f → T F) → (p ∈ planes b → T B) → T ((F or B) or eqb (place ps p) (place ps q))
    go F B (here e) u v = or_right (F or B) (eqb (place ps p) (place ps q)) (subst (λ i. T (eqb (place ps p) (place ps i))) e (eqb_refl (place ps p)))
    go F B (there m) u v = or_left (F or B) (eqb (place ps p) (place ps q)) (elim (in_either (planes f) (planes b) m) [ inl m ↦ or_left F B (u m) | inr m ↦ or_right F B (v m) ])

-- row k's plane, in the tree
pub record Used (ps : List Plane) (t : Tree) (k : ℕ) : Type 0 where
  pub by : Plane
  pub member : by ∈ planes t
  pub at : place ps by ≡ k

-- and no other
pub post_uses : (ps : List Plane) (t : Tree) (n k : ℕ) → T (uses k (entries ps (post n t))) → Used ps t k
unfolding post uses
post_uses ps (leaf m) n k t = absurd t
post_uses ps (node q f b) n k t = go (uses k (entries ps (post n f))) (uses k (entries ps (post (n + rows f) b))) (rw (uses_node ps k q f b n) at t) (post_uses ps f n k) (post_uses ps b (n + rows f) k)
  where
    go : (F B : Bool) → T ((F or B) or eqb k (place ps q)) → (T F → Used ps f k) → (T B → Used ps b k) → Used ps (node q f b) k
    go F B t u v = or_split (F or B) (eqb k (place ps q)) t
        (λ t. or_split F B t
        (λ t. let r = u t in record { by = r.by; member = there (in_left (planes b) r.member); at = r.at })
        (λ t. let r = v t in record { by = r.by; member = there (in_right (planes f) r.member); at = r.at }))
        (λ t. record { by = q; member = here refl; at = sym (eqb→eq k (place ps q) t) })
