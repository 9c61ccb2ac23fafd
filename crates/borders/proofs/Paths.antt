-- The path of a walk on a plane, and its cell.
--     kept_fewer, kept_both      rows that stay
--     cell_same                  a path with the same rows has the same cell
--     rows_ranged                its half-spaces are in range
--     Laid, laid, laid_first     a half-space in the row after the cell's, and the cell with it (laid_cell, laid_ranged, laid_links)
--     keep_asked                 what `keep` is given
--     cut_said                   what the section of a plane says of a cell
use mathlib.Core.Path.{◌≡◌, refl, sym, ap, ◌∙◌}
use mathlib.Core.Bool.{true}
use mathlib.Core.List.{List, [], ◌∷◌}
use Rattle.std.specs.Prelude.{Option, is_some, Decides}
use Rattle.std.proofs.lemmas.Bool.{false≢true}
use Prim.Native.Nat.{ℕ, zero, suc, ◌+◌, ◌-◌, ◌*◌, ◌≤◌, ◌<◌}
use native.Mathlib.Omega.{arith}
use lib.IntN.{ℤ}
use lib.ListN.{length}
use Rattle.whole.specs.Members.{◌∈◌}
use Rattle.scope.specs.Planes.{Plane, in_range, Lawful}
use Rattle.scope.specs.Cells.{Cuts}
use Rattle.theory.specs.Cells.Path.{OnKept, on_none, on_take}
use Rattle.planes.specs.Values.{plane, meeting}
use Rattle.planes.specs.declared.Plane as struct
use Rattle.planes.specs.declared.Meeting.{Meeting}
use Rattle.polygons.specs.Tables.{row, rows_down}
use Rattle.cuts.specs.Paths.{Linked, Links}
use Rattle.cuts.specs.Paths.{CutTold, is_at, is_nothing}
use Rattle.cells.specs.Paths.{PathIn, Pushed}
use Rattle.cells.proofs.Paths.{half_ranged, row_same, linked_same, links_same, pushed_before, pushed_row, pushed_linked}
use Rattle.borders.specs.Sides.{cell_at, Kept, nowhere}

-- ---- rows

pub kept_fewer : {path path' : List ℤ} {n d : ℕ} → d ≤ n → Kept path path' n → Kept path path' d
kept_fewer l f = record { rows = λ i b. f.rows i (omega (arith, l, b)) }

pub kept_both : {path path₁ path₂ : List ℤ} {d : ℕ} → Kept path path₁ d → Kept path₁ path₂ d → Kept path path₂ d
kept_both f g = record { rows = λ i b. g.rows i b ∙ f.rows i b }

pub cell_same : {path path' : List ℤ} {d : ℕ} → Kept path path' d → cell_at path' d ≡ cell_at path d
unfolding rows_down
cell_same {d = zero} f = refl
cell_same {path} {path'} {d = suc d} f =
    let r = row_same path path' f.rows d (omega arith) in
    let c = cell_same {d = d} (kept_fewer (omega arith) f) in
    λ i. r i ∷ c i

-- one row more
cell_next : (path : List ℤ) (d : ℕ) → cell_at path (d + 1) ≡ row path 9 d ∷ cell_at path d
unfolding rows_down
cell_next path d = let e : d + 1 ≡ suc d = omega arith in ap (cell_at path) e

module _ {p : Plane} {ps : List Plane} (path : List ℤ) (l : (q : Plane) → q ∈ ps → Lawful q) where
  ranged : {c : List Plane} {n : ℕ} → OnKept p ps c n → c ≡ cell_at path n → (i : ℕ) → i < n → in_range (row path 9 i) ≡ true
  unfolding rows_down
  ranged on_none e i b = absurd (omega (arith, b))
  ranged (on_take {c = c} {n = n} s q m d x y h) e i b = go (n - i) refl (λ b. ranged h (ap tail e) i b)
    where
      tail : List Plane → List Plane
      tail [] = []
      tail (g ∷ gs) = gs

      head : List Plane → Plane
      head [] = q
      head (g ∷ gs) = g

      go : (k : ℕ) → n - i ≡ k → (i < n → in_range (row path 9 i) ≡ true) → in_range (row path 9 i) ≡ true
      go zero f r = let u : i ≡ n = omega (arith, f, b) in rw u (ap in_range (sym (ap head e)) ∙ half_ranged s q (l q m).range)
      go (suc k) f r = r (omega (arith, f))

  pub rows_ranged : (d : ℕ) → OnKept p ps (cell_at path d) d → (i : ℕ) → i < d → in_range (row path 9 i) ≡ true
  rows_ranged d h = ranged h refl

-- ---- one half-space more

-- the rows before row d are those of path, and row d is g
pub record Laid (path path' : List ℤ) (d : ℕ) (g : Plane) : Type 0 where
  pub before : Kept path path' d
  pub is : row path' 9 d ≡ g
  pub linked : Linked path' d
  pub long : length path' ≡ length path

pub laid_cell : {path path' : List ℤ} {d : ℕ} {g : Plane} → Laid path path' d g → cell_at path' (d + 1) ≡ g ∷ cell_at path d
laid_cell {path' = path'} {d = d} k = let c = cell_same k.before in cell_next path' d ∙ λ i. k.is i ∷ c i

pub laid_ranged : {path path' : List ℤ} {d : ℕ} {g : Plane} → Laid path path' d g → in_range g ≡ true → ((i : ℕ) → i < d → in_range (row path 9 i) ≡ true) → (i : ℕ) → i < d + 1 → in_range (row path' 9 i) ≡ true
laid_ranged {path = path} {path' = path'} {d = d} k e f i b = go (d - i) refl
  where
    go : (n : ℕ) → d - i ≡ n → in_range (row path' 9 i) ≡ true
    go zero z = let u : i ≡ d = omega (arith, z, b) in rw u (ap in_range k.is ∙ e)
    go (suc n) z = let l : i < d = omega (arith, z) in ap in_range (row_same path path' k.before.rows i l) ∙ f i l

pub laid_links : {path path' : List ℤ} {d : ℕ} {g : Plane} → Laid path path' d g → Links path d → Links path' (d + 1)
laid_links {path' = path'} {d = d} k f i b = go (d - i) refl
  where
    go : (n : ℕ) → d - i ≡ n → Linked path' i
    go zero z = let u : i ≡ d = omega (arith, z, b) in rw u k.linked
    go (suc n) z = let l : i < d = omega (arith, z) in linked_same k.before.rows i l (f i l)

-- what `keep` is given, and what it writes
pub keep_asked : {path path' : List ℤ} {d : ℕ} → Kept path path' d → length path' ≡ length path → d < 128 → Links path d → d * 9 + 9 ≤ length path → PathIn path' d × (d * 9 + 9 ≤ length path')
keep_asked f l b k r = (record { few = omega (arith, b); room = omega (arith, l, r); links = links_same f.rows k }, omega (arith, l, r))

pub laid : {path path₁ path₂ : List ℤ} {d : ℕ} {h : struct.Plane} {g : Plane} → Kept path path₁ d → length path₁ ≡ length path → Pushed path₁ path₂ d h nowhere → length path₂ ≡ length path₁ → plane h ≡ g → d * 9 + 9 ≤ length path → Laid path path₂ d g
laid {path₁ = path₁} {d = d} f l e l' is room =
    let r : d * 9 + 9 ≤ length path₁ = omega (arith, l, room) in
    record {
      before = record { rows = λ i b. pushed_before e r i b ∙ f.rows i b };
      is = pushed_row e r ∙ is;
      linked = pushed_linked e r;
      long = l' ∙ l;
    }

pub same_rows : {path : List ℤ} {d : ℕ} → Kept path path d
same_rows = record { rows = λ i l. refl }

pub laid_first : {path path₁ : List ℤ} {d : ℕ} {h : struct.Plane} {g : Plane} → Pushed path path₁ d h nowhere → length path₁ ≡ length path → plane h ≡ g → d * 9 + 9 ≤ length path → Laid path path₁ d g
laid_first e l is room = laid same_rows refl e l is room

-- ---- the section

-- whether p cuts the cell
pub cut_said : {p : Plane} {c : List Plane} {r : Option Meeting} → CutTold p c r → Decides (is_some r) (Cuts p c)
cut_said (is_at {m = m} w) = (λ e. record { point = meeting m; on = w.on; inside = w.inside }, λ u. refl)
cut_said (is_nothing n) = (λ e. absurd (false≢true e), λ u. absurd (n u))
