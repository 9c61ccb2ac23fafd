-- Rows in post-order, front first, and the code of a tree whose rows begin at n. They determine the tree.
--     code_back, code_front   the codes are those of document 01's rule
--     post_length             a tree has as many rows as nodes
--     post_tree               rows and code determine the tree
use Rattle.std.specs.Prelude.{◌≡◌, refl, ◌++◌, ℕ, ◌+◌, ◌-◌, length}
use Rattle.std.proofs.Common.{sym, ap, ◌∙◌, arith, length-append}
use Rattle.whole.specs.Members.{parts}
use Rattle.whole.specs.Tests.{differ}
use Rattle.scope.specs.Planes.{Plane}
use Rattle.scope.specs.Solids.{Tree, leaf, node, rows, row, code, post}

-- document 01's rule for the codes of row r: a row used as back child is r-1, one used as front child r-1 less the rows of the back child's tree
pub code_back : (n : ℕ) (f : Tree) (q : Plane) (g h : Tree) → code (n + rows f) (node q g h) ≡ row (n + rows f + rows (node q g h) - 1)
unfolding code rows
code_back n f q g h = ap row (omega arith)

pub code_front : (n : ℕ) (q : Plane) (g h b : Tree) → code n (node q g h) ≡ row (n + rows (node q g h) + rows b - 1 - rows b)
unfolding code rows
code_front n q g h b = ap row (omega arith)

-- a tree has as many rows as nodes
pub post_length : (n : ℕ) (t : Tree) → length (post n t) ≡ rows t
unfolding post rows
post_length n (leaf m) = refl
post_length n (node p f b) = simp length-append (omega (arith, post_length n f, post_length (n + rows f) b))

code_rows : (n : ℕ) (s t : Tree) → code n s ≡ code n t → rows s ≡ rows t
unfolding code rows
code_rows n (leaf m) (leaf k) e = refl
code_rows n (leaf m) (node p f b) e = differ (cc)
code_rows n (node p f b) (leaf m) e = differ (cc)
code_rows n (node p f b) (node q g c) e = let z : n + rows f + rows b ≡ n + rows g + rows c = cc in omega arith

-- rows and code determine the tree
pub post_tree : (n : ℕ) (s t : Tree) → code n s ≡ code n t → post n s ≡ post n t → s ≡ t
unfolding code post rows
post_tree n (leaf m) (leaf k) c e = cc
post_tree n (leaf m) (node p f b) c e = differ (cc)
post_tree n (node p f b) (leaf m) c e = differ (cc)
post_tree n (node p f b) (node q g h) c e =
    let l : n + rows f + rows b ≡ n + rows g + rows h = cc in
    let u = parts (post n f ++ post (n + rows f) b) (post n g ++ post (n + rows g) h) (simp length-append (omega (arith, post_length n f, post_length n g, post_length (n + rows f) b, post_length (n + rows g) h))) e in
    let pq : p ≡ q = cc u.1 in
    let cf : code n f ≡ code n g = cc u.1 in
    let cb : code (n + rows f) b ≡ code (n + rows g) h = cc u.1 in
    let k : rows f ≡ rows g = code_rows n f g cf in
    let v = parts (post n f) (post n g) (omega (arith, post_length n f, post_length n g)) u.0 in
    let fg : f ≡ g = post_tree n f g cf v.0 in
    let bh : b ≡ h = post_tree (n + rows f) b h (cb ∙ ap (λ i. code (n + i) h) (sym k)) (v.1 ∙ ap (λ i. post (n + i) h) (sym k)) in
    cc
