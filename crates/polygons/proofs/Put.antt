-- Corners put out one after the other.
use mathlib.Core.Path.{◌≡◌, refl, sym, ap, ◌∙◌}
use mathlib.Core.List.{List, [], ◌∷◌, ◌++◌, append_assoc, append-nil}
use Prim.Native.Nat.{ℕ, suc, ◌+◌, ◌*◌, ◌≤◌}
use native.Mathlib.Omega.{arith}
use lib.IntN.{ℤ, pos}
use lib.ListN.{length}
use lib.Seq.{sets, length-sets}
use Rattle.scope.specs.Planes.{Point}
use Rattle.theory.specs.Section.{Corner, corner, index, vertex}
use Rattle.planes.specs.Values.{meeting}
use Rattle.planes.specs.declared.Meeting.{Meeting}
use Rattle.polygons.specs.Tables.{read}
use Rattle.polygons.specs.Asked.{Puts}
use Rattle.polygons.proofs.Cells.{read_put}

-- nothing
pub puts_none : (out : List ℤ) (at prev : ℕ) → Puts out out at [] prev (record { at = at; prev = prev })
puts_none out at prev = let e : at ≡ at + 0 = omega arith in record { at_is = e; prev_is = refl; read_is = ap (read out) (sym e) ∙ sym (append-nil (read out at)) }

corner_parts : (c : Corner) → corner (index c) (vertex c) ≡ c
corner_parts (corner i v) = refl

-- one corner, of a table that was read
pub stored_read : (out out' : List ℤ) (at k : ℕ) (m : Meeting) (v : Point) → 5 * at + 5 ≤ length out → out' ≡ sets out (5 * at) (pos k ∷ m.x ∷ m.y ∷ m.z ∷ m.w ∷ []) → meeting m ≡ v
    → read out' (suc at) ≡ read out at ++ corner k v ∷ []
stored_read out out' at k m v l e f = ap (λ t. read t (suc at)) e ∙ read_put out at k (meeting m) l ∙ ap (λ v. read out at ++ corner k v ∷ []) f

pub puts_one : (out out' : List ℤ) (at k : ℕ) (m : Meeting) (c : Corner) → 5 * at + 5 ≤ length out → out' ≡ sets out (5 * at) (pos k ∷ m.x ∷ m.y ∷ m.z ∷ m.w ∷ [])
    → k ≡ index c → meeting m ≡ vertex c → Puts out out' at (c ∷ []) (index c) (record { at = at + 1; prev = k })
puts_one out out' at k m c l e f g =
    let n : at + 1 ≡ suc at = omega arith in
    record {
      at_is = refl;
      prev_is = f;
      read_is = ap (read out') n ∙ stored_read out out' at k m (vertex c) l e g ∙ ap (λ c. read out at ++ c ∷ []) (ap (λ k. corner k (vertex c)) f ∙ corner_parts c);
    }

-- two corners
pub puts_two : (out mid out' : List ℤ) (at k b : ℕ) (m n : Meeting) (v w : Point) → 5 * at + 10 ≤ length out → mid ≡ sets out (5 * at) (pos k ∷ m.x ∷ m.y ∷ m.z ∷ m.w ∷ [])
    → out' ≡ sets mid (5 * (at + 1)) (pos b ∷ n.x ∷ n.y ∷ n.z ∷ n.w ∷ []) → meeting m ≡ v → meeting n ≡ w
    → Puts out out' at (corner k v ∷ corner b w ∷ []) b (record { at = at + 2; prev = b })
puts_two out mid out' at k b m n v w l e f g h =
    let i : at + 2 ≡ suc (at + 1) = omega arith in
    let j : at + 1 ≡ suc at = omega arith in
    let q : length mid ≡ length out = ap length e ∙ length-sets out (5 * at) (pos k ∷ m.x ∷ m.y ∷ m.z ∷ m.w ∷ []) in
    record {
      at_is = refl;
      prev_is = refl;
      read_is = ap (read out') i ∙ stored_read mid out' (at + 1) b n w (omega arith) f h
          ∙ ap (λ r. r ++ corner b w ∷ []) (ap (read mid) j ∙ stored_read out mid at k m v (omega arith) e g) ∙ append_assoc (read out at) (corner k v ∷ []) (corner b w ∷ []);
    }
