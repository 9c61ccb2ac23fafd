-- For code that keeps sizes and not trees: of the trees that stand, a row needs only how many rows each has.
--     sizes, size_row, row_size    a row over sizes is the size of a row over trees
--     one_size, one_sizes          one tree stands if one size does
use Rattle.std.specs.Prelude.{◌≡◌, refl, Bool, true, false, cond, not, List, [], ◌∷◌, ℕ, suc, ◌+◌, ◌-◌, ◌≤◌, ◌<◌, T, ltb, eqb, length}
use Rattle.std.proofs.Common.{ap, ◌∙◌, arith, ltb→lt, nltb→le}
use Rattle.std.proofs.Math.Option.{Option, none, some}
use Rattle.std.proofs.Math.ListN.{get_elem?}
use Rattle.whole.specs.Tests.{differ}
use Rattle.whole.specs.Members.{elem_small, elem_at}
use Rattle.scope.specs.Planes.{Plane}
use Rattle.scope.specs.Solids.{Tree, leaf, IN, OUT, rows, Entry, entry}
use Rattle.scope.specs.Judging.{Sub, tree, Child, child, against, due_row, take_child, with_front, with_back, with_plane, add_row, one_tree}

-- the rows of each tree of a stack
abbrev pub sizes : List Sub → List ℕ
sizes [] = []
sizes (t ∷ st) = rows (tree t) ∷ sizes st

-- the size of a child, and the sizes left
pub data Counted : Type 0 where
  counted : ℕ → List ℕ → Counted
  wrong : Counted

abbrev pub due_size : ℕ → ℕ → List ℕ → Counted
due_size due c [] = wrong
due_size due c (k ∷ ks) = cond (eqb c due) (counted k ks) wrong

-- the child of a code, as `take_child`
unfoldable pub size_child : ℕ → ℕ → List ℕ → Counted
size_child due c ks = cond (eqb c 65535) (counted 0 ks) (cond (eqb c 65534) (counted 0 ks) (due_size due c ks))

abbrev pub size_front : ℕ → Counted → Option (List ℕ)
size_front b (counted f ks) = some (suc (f + b) ∷ ks)
size_front b wrong = none

abbrev pub size_back : ℕ → ℕ → Counted → Option (List ℕ)
size_back r f (counted b ks) = size_front b (size_child (r - 1 - b) f ks)
size_back r f wrong = none

-- row r over n planes and the sizes of the trees before it
unfoldable pub size_row : ℕ → ℕ → List ℕ → Entry → Option (List ℕ)
size_row n r ks (entry p f b) = cond (ltb p n) (size_back r f (size_child (r - 1) b ks)) none

-- at most one tree
abbrev pub one_size : List ℕ → Bool
one_size [] = true
one_size (k ∷ []) = true
one_size (k ∷ j ∷ ks) = false

abbrev pub sizes_of : Option (List Sub) → Option (List ℕ)
sizes_of none = none
sizes_of (some st) = some (sizes st)

abbrev measure : Child → Counted
measure (child t st) = counted (rows t) (sizes st)
measure against = wrong

child_size : (due c : ℕ) (st : List Sub) → measure (take_child due c st) ≡ size_child due c (sizes st)
unfolding take_child size_child rows
child_size due c st = by (eqb c 65535) (eqb c 65534) st
  where
    at : (b : Bool) (t : Sub) (st : List Sub) → measure (cond b (child (tree t) st) against) ≡ cond b (counted (rows (tree t)) (sizes st)) wrong
    at true t st = refl
    at false t st = refl

    by : (b₁ b₂ : Bool) (st : List Sub) → measure (cond b₁ (child (leaf IN) st) (cond b₂ (child (leaf OUT) st) (due_row due c st))) ≡ cond b₁ (counted 0 (sizes st)) (cond b₂ (counted 0 (sizes st)) (due_size due c (sizes st)))
    by true b₂ st = refl
    by false true st = refl
    by false false [] = refl
    by false false (t ∷ st) = at (eqb c due) t st

front_size : (p : Plane) (B : Tree) (x : Child) → sizes_of (with_front p B x) ≡ size_front (rows B) (measure x)
unfolding rows
front_size p B (child F st) = refl
front_size p B against = refl

back_size : (r : ℕ) (p : Plane) (f : ℕ) (x : Child) → sizes_of (with_back r p f x) ≡ size_back r f (measure x)
back_size r p f (child B st) = front_size p B (take_child (r - 1 - rows B) f st) ∙ ap (size_front (rows B)) (child_size (r - 1 - rows B) f st)
back_size r p f against = refl

-- a row over trees has the sizes of a row over sizes
pub row_size : (ps : List Plane) (r : ℕ) (st : List Sub) (e : Entry) → sizes_of (add_row ps r st e) ≡ size_row (length ps) r (sizes st) e
unfolding add_row size_row
row_size ps r st (entry n f b) = by (get_elem? ps n) refl (ltb n (length ps)) (ltb→lt n (length ps)) (nltb→le n (length ps))
  where
    by : (o : Option Plane) → get_elem? ps n ≡ o → (c : Bool) → (T c → n < length ps) → (T (not c) → length ps ≤ n) → sizes_of (with_plane r st f b o) ≡ cond c (size_back r f (size_child (r - 1) b (sizes st))) none
    by (some p) h true g k = back_size r p f (take_child (r - 1) b st) ∙ ap (size_back r f) (child_size (r - 1) b st)
    by (some p) h false g k = let x = k tt in absurd (omega (arith, elem_small ps n {p = p} h))
    by none h true g k = let x = elem_at ps n (g tt) in differ (cc x.1)
    by none h false g k = refl

-- one tree stands if one size does
pub one_sizes : (st : List Sub) → one_tree st ≡ one_size (sizes st)
one_sizes [] = refl
one_sizes (t ∷ []) = refl
one_sizes (t ∷ u ∷ st) = refl
