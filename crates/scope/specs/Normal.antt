-- Document 01, "Normal form". A space is a list of planes, and a mark for each choice of their sides: a tree is one, and so is an operation of two trees.
use Rattle.std.specs.Prelude.{◌≡◌, refl, Bool, true, false, cond, List, ◌∷◌, ◌++◌, ◌≢◌, T, pos}
use Rattle.std.proofs.Common.{ap₂}
use Rattle.whole.specs.Members.{◌∈◌, here, there, in_left, in_right}
use Rattle.scope.specs.Planes.{Plane, Point, at, flip, before, equal}
use Rattle.scope.specs.Solids.{Mark, Tree, leaf, node, planes, walk, front}
use Rattle.scope.specs.Cells.{Inside, box, Cuts, Off}

-- the mark depends on the sides of the listed planes alone
pub record Space : Type 0 where
  pub list : List Plane
  pub mark : (Plane → Bool) → Mark
  pub local : (σ τ : Plane → Bool) → ((p : Plane) → p ∈ list → σ p ≡ τ p) → mark σ ≡ mark τ

pub walk_local : (t : Tree) (σ τ : Plane → Bool) → ((p : Plane) → p ∈ planes t → σ p ≡ τ p) → walk t σ ≡ walk t τ
unfolding walk
walk_local (leaf m) σ τ e = refl
walk_local (node p f b) σ τ e = cc (e p (here refl), walk_local f σ τ (λ q m. e q (there (in_left (planes b) m))), walk_local b σ τ (λ q m. e q (there (in_right (planes f) m))))

abbrev pub space : Tree → Space
space t = record { list = planes t; mark = walk t; local = walk_local t }

abbrev pub both : (Mark → Mark → Mark) → Tree → Tree → Space
both o A B = record {
  list = planes A ++ planes B;
  mark = λ σ. o (walk A σ) (walk B σ);
  local = λ σ τ e. ap₂ o (walk_local A σ τ (λ p m. e p (in_left (planes B) m))) (walk_local B σ τ (λ p m. e p (in_right (planes A) m)));
}

-- ---- boundary planes

-- the sides of X, but at p the front or the back
unfoldable pub taking : Plane → Bool → Point → Plane → Bool
taking p s X q = cond (equal q p) s (front X q)

-- B.1: some point strictly in the box lies on p and on no other plane, and the walks that take p's front and p's back there end in different marks
pub record Boundary (S : Space) (p : Plane) : Type 0 where
  pub member : p ∈ S.list
  pub point : Point
  pub inside : Inside box point
  pub on : at p point ≡ pos 0
  pub others : (q : Plane) → q ∈ S.list → q ≢ p → at q point ≢ pos 0
  pub differ : S.mark (taking p true point) ≢ S.mark (taking p false point)

-- ---- the form

-- all points of the cell off the planes have the mark m
pub record Uniform (S : Space) (c : List Plane) (m : Mark) : Type 0 where
  pub all : (X : Point) → Inside c X → Off S.list X → S.mark (front X) ≡ m

-- B.3: the first listed plane that cuts the cell; the boundary planes are listed in order (B.2)
pub record First (S : Space) (c : List Plane) (p : Plane) : Type 0 where
  pub boundary : Boundary S p
  pub cuts : Cuts p c
  pub least : (q : Plane) → Boundary S q → Cuts q c → ¬ T (before q p)

-- B.3: a uniform cell is a leaf; any other is split by that plane
pub data Normal (S : Space) : List Plane → Tree → Type 0 where
  uniform : {c : List Plane} {m : Mark} → Uniform S c m → Normal S c (leaf m)
  split : {c : List Plane} {p : Plane} {f b : Tree} → ((m : Mark) → ¬ Uniform S c m) → First S c p → Normal S (p ∷ c) f → Normal S (flip p ∷ c) b → Normal S c (node p f b)

abbrev pub NormalForm : Tree → Tree → Type 0
NormalForm t r = Normal (space t) box r
