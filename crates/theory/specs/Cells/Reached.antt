-- The cells that a walk of planes that are Ok comes to, and the decision of cuts there: the section's.
--     Cell, cell_list   such a cell is the box under a list of half-spaces
--     Decider, decided  whether a lawful plane cuts such a cell is decided
use Rattle.std.specs.Prelude.{◌≡◌, refl, List, [], ◌∷◌, ◌++◌, ◌≢◌}
use Rattle.std.proofs.Common.{sym, ap, subst}
use Rattle.whole.specs.Tests.{differ}
use Rattle.whole.specs.Sign.{nought}
use Rattle.scope.specs.Planes.{Plane, flip, lead, Lawful}
use Rattle.scope.specs.Cells.{box, Cuts}
use Rattle.theory.specs.Section.{cuts?}

pub data Cell (Ok : Plane → Type 0) : List Plane → Type 0 where
  whole : Cell Ok box
  ahead : {p : Plane} {c : List Plane} → Ok p → Cell Ok c → Cell Ok (p ∷ c)
  behind : {p : Plane} {c : List Plane} → Ok p → Cell Ok c → Cell Ok (flip p ∷ c)

pub cell_list : {Ok : Plane → Type 0} {c : List Plane} → Cell Ok c → (hs : List Plane) × (c ≡ hs ++ box)
cell_list whole = ([], refl)
cell_list (ahead {p = p} o k) = let r = cell_list k in (p ∷ r.0, ap (λ t. p ∷ t) r.1)
cell_list (behind {p = p} o k) = let r = cell_list k in (flip p ∷ r.0, ap (λ t. flip p ∷ t) r.1)

abbrev pub Decider : (Plane → Type 0) → Type 0
Decider Ok = (p : Plane) → Ok p → (c : List Plane) → Cell Ok c → Dec (Cuts p c)

pub lawful_normal : {p : Plane} → Lawful p → lead p ≢ nought
lawful_normal l e = differ (cc l.normal)

pub decided : Decider Lawful
decided p l c k = let r = cell_list k in subst (λ d. Dec (Cuts p d)) (sym r.1) (cuts? p (lawful_normal l) r.0)
