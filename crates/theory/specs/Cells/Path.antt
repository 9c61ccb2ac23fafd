-- The kept half-spaces of a path are of different planes, so there are no more of them than planes: a section in a merge or a normal form never meets refusal 3.
--     Kept, kept_few          a path of kept nodes
--     OnKept, on_kept_few     a path of the walk on a plane, which keeps only other planes
--     both_cuts               where a walk on p goes both ways at q, q cuts the cell
use Rattle.std.specs.Prelude.{◌≡◌, Bool, true, false, List, ◌∷◌, ◌≢◌, ℕ, suc, ◌+◌, ◌≤◌, length}
use Rattle.std.proofs.Common.{ap, arith}
use Rattle.whole.specs.Members.{◌∈◌, here, there, without, without_length, without_in}
use Rattle.scope.proofs.Points.{flip_back}
use Rattle.scope.specs.Planes.{Plane, flip}
use Rattle.scope.specs.Cells.{box, Cuts}
use Rattle.theory.specs.Cells.Box.{head, tail}
use Rattle.theory.specs.Cells.Sides.{half, cuts_between, cuts_new, cuts_new_back}

-- a path of n half-spaces from the box: each is a side of a plane of ps that cuts the cell before it
pub data Kept (ps : List Plane) : List Plane → ℕ → Type 0 where
  none : Kept ps box 0
  take : {c : List Plane} {n : ℕ} (s : Bool) (p : Plane) → p ∈ ps → Cuts p c → Kept ps c n → Kept ps (half s p ∷ c) (suc n)

-- n planes of the list are sides of c
record Used (ps c : List Plane) (n : ℕ) : Type 0 where
  rest : List Plane
  count : length ps ≡ length rest + n
  fresh : (q : Plane) → q ∈ ps → ¬ (q ∈ c) → ¬ (flip q ∈ c) → q ∈ rest

used : {ps c : List Plane} {n : ℕ} → Kept ps c n → Used ps c n
used {ps} none = record { rest = ps; count = omega arith; fresh = λ q m h k. m }
used {ps} (take {c = c} s p m k w) =
    let u = used w in
    let i = u.fresh p m (cuts_new k) (cuts_new_back k) in
    record {
      rest = without u.rest i;
      count = omega (arith, u.count, without_length u.rest i);
      fresh = λ q j h l. without_in u.rest i (u.fresh q j (λ t. h (there t)) (λ t. l (there t))) (λ e. other s q e h l);
    }
  where
    other : (s : Bool) (q : Plane) → q ≡ p → ¬ (q ∈ (half s p ∷ c)) → ¬ (flip q ∈ (half s p ∷ c)) → ⊥
    other true q e h l = h (here e)
    other false q e h l = l (here (ap flip e))

pub kept_few : {ps c : List Plane} {n : ℕ} → Kept ps c n → n ≤ length ps
kept_few k = omega (arith, (used k).count)

-- ---- the walk on a plane

-- both halves are kept only where q cuts: so its path is such a path too
pub both_cuts : {p q : Plane} {c : List Plane} → Cuts p (q ∷ c) → Cuts p (flip q ∷ c) → Cuts q c
both_cuts {q = q} h k = cuts_between (tail h.inside) (tail k.inside) (head h.inside) (flip_back q k.point (head k.inside))

-- it keeps planes other than p, so one fewer
pub data OnKept (p : Plane) (ps : List Plane) : List Plane → ℕ → Type 0 where
  on_none : OnKept p ps box 0
  on_take : {c : List Plane} {n : ℕ} (s : Bool) (q : Plane) → q ∈ ps → q ≢ p → Cuts p (q ∷ c) → Cuts p (flip q ∷ c) → OnKept p ps c n → OnKept p ps (half s q ∷ c) (suc n)

on_kept : {p : Plane} {ps c : List Plane} {n : ℕ} (m : p ∈ ps) → OnKept p ps c n → Kept (without ps m) c n
on_kept m on_none = none
on_kept {ps = ps} m (on_take s q i d h k w) = take s q (without_in ps m i d) (both_cuts h k) (on_kept m w)

pub on_kept_few : {p : Plane} {ps c : List Plane} {n : ℕ} → p ∈ ps → OnKept p ps c n → suc n ≤ length ps
on_kept_few {ps = ps} m k = omega (arith, kept_few (on_kept m k), without_length ps m)
