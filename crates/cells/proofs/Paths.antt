-- Paths: the rows of a table that are the kept half-spaces of a cell, each with the witness of its cut.
--     on_rows, on_ranged         the cell is the rows, last first, and the box; each row is in range
--     on_map, on_kept            of other planes; the kept half-spaces of the theory of cells
--     on_stack, on_missed        the stack of the theory, and the side of a plane that misses the cell
--     half_ranged                both sides of a plane in range are
--     four_same, put_row         four entries that stay, and a stored row
--     on_links                   each row has its link
--     link_past                  the link of a row to be written
--     row_same, linked_same, links_same     rows and links of a table with the same rows
--     pushed_before, pushed_row, pushed_linked   one row more: the rows before it, its half-space and its link
--     on_same, on_push           a table with the same rows, and one row more
--     path_asked, cut_asked, missed_asked   what `parallel`, `cut` and `missed` are given
--     rows_inside                a point of the cell is in front of each row
--     front_misses, behind_misses   a plane on one side of which a row keeps the cell does not cut it
--     classified_front, classified_behind   the answer, from a parallel half-space
--     classified_cut, classified_missed     and from that of `cut`
use mathlib.Core.Path.{◌≡◌, refl, sym, ap, subst, ◌∙◌}
use mathlib.Core.Bool.{Bool, true, false}
use mathlib.Core.List.{List, [], ◌∷◌, ◌++◌}
use mathlib.Core.Logic.{◌≢◌}
use Prim.Native.Nat.{ℕ, zero, suc, ◌+◌, ◌-◌, ◌*◌, ◌≤◌, ◌<◌}
use native.Mathlib.Omega.{arith}
use lib.Dec.{T}
use lib.IntN.{ℤ, pos, neg_ℤ}
use lib.ListN.{length, get_or}
use lib.Seq.{sets}
use mir.Syntax.{w64}
use mir.Facts.{to_z-of_z}
use Rattle.whole.specs.Expr.{#, neg}
use Rattle.whole.specs.Solve.{nums}
use Rattle.whole.specs.Lin.{lin, ◌⊢◌, ◌≺◌, ◌≋◌}
use Rattle.whole.specs.Order.{lt_not_lt}
use Rattle.whole.specs.Tests.{differ, is_true, is_false}
use Rattle.whole.specs.Sign.{Sign, nought, sgn}
use Rattle.whole.specs.Bounds.{w_neg}
use Rattle.whole.specs.Members.{◌∈◌, in_left, in_right}
use Rattle.scope.specs.Planes.{Plane, Point, at, flip, in_range, lead, equal, Lawful}
use Rattle.whole.specs.Order.{◌⋖◌, pos_not_zero, neg_not_zero}
use Rattle.scope.proofs.Points.{flip_back}
use Rattle.scope.specs.Cells.{Inside, box, Cuts, AllFront}
use Rattle.theory.specs.Cells.Box.{box_means}
use Rattle.theory.specs.Planes.Lawful.{lawful_nonzero}
use Rattle.theory.specs.Planes.Order.{same?, equal_of, equal_self}
use Rattle.theory.specs.Planes.Faults.{Ranged, ranged, in_range_of}
use Rattle.theory.specs.Cells.Move.{at_back}
use Rattle.theory.specs.Cells.Sides.{half}
use Rattle.theory.specs.Cells.Path.{Kept, none, take}
use Rattle.theory.specs.Cells.Classify.{Stack, bottom, push, taken, if_same, tell, Says, in_front, behind, tell_right}
use Rattle.planes.specs.Values.{quad, plane, meeting}
use Rattle.planes.specs.declared.Plane as struct
use Rattle.planes.specs.declared.Meeting.{Meeting}
use Rattle.std.specs.Prelude.{Some, None}
use Rattle.polygons.specs.Tables.{four_at, row, rows_down}
use Rattle.cuts.specs.Paths.{Holds, Linked, Links, AsksRow, Witness, CutIn, CutTold, is_at, is_nothing}
use Rattle.polygons.proofs.Cells.{get_d_sets_before, get_d_sets_at}
use Rattle.polygons.proofs.Kept.{k}
use Rattle.cuts.proofs.Asking.{holds_front, holds_on, row_in, four_is}
use Rattle.cells.specs.Paths.{witness_at, PathIn, LinkTold, nine, Pushed, OnPath, at_box, below, Classes, is_cut, is_front, is_behind, own_side, by_sign, side_by, missed_by, MissedIn, ClassifyIn, ClassifiedIn}
use Rattle.cells.specs.declared.Classified.{Classified}
use Rattle.cells.specs.declared.Classified.TheVariants.{Cut, Front, Behind}

-- ---- the rows of a path

pub on_rows : {Q : Plane → Type 0} {path : List ℤ} {d : ℕ} {c : List Plane} → OnPath Q path d c → c ≡ rows_down path 9 d ++ box
unfolding rows_down
on_rows at_box = refl
on_rows (below h s g q e w l) = let a = on_rows h in let b = sym e in λ i. b i ∷ a i

-- both sides of a plane in range are
pub half_ranged : (s : Bool) (g : Plane) → T (in_range g) → in_range (half s g) ≡ true
unfolding flip
half_ranged true g t = is_true (in_range g) t
half_ranged false g t = is_true (in_range (flip g)) (in_range_of (flip g) (turned (ranged g t)))
  where
    turned : Ranged g → Ranged (flip g)
    turned r = record { a = w_neg r.a; b = w_neg r.b; c = w_neg r.c; d = w_neg r.d }

pub on_ranged : {Q : Plane → Type 0} {path : List ℤ} {d : ℕ} {c : List Plane} → ((p : Plane) → Q p → Lawful p) → OnPath Q path d c → (i : ℕ) → i < d → in_range (row path 9 i) ≡ true
on_ranged f at_box i l = absurd (omega arith)
on_ranged {path = path} f (below {d = d} h s g q e w n) i l = go (λ b. on_ranged f h i b) (d - i) refl
  where
    go : (i < d → in_range (row path 9 i) ≡ true) → (k : ℕ) → d - i ≡ k → in_range (row path 9 i) ≡ true
    go r zero p = let u : i ≡ d = omega arith in rw u (ap in_range e ∙ half_ranged s g (f g q).range)
    go r (suc k) p = r (omega arith)

pub on_map : {Q R : Plane → Type 0} {path : List ℤ} {d : ℕ} {c : List Plane} → ((p : Plane) → Q p → R p) → OnPath Q path d c → OnPath R path d c
on_map f at_box = at_box
on_map f (below h s g q e w l) = below (on_map f h) s g (f g q) e w l

pub on_kept : {Q : Plane → Type 0} {J : List Plane} {path : List ℤ} {d : ℕ} {c : List Plane} → ((p : Plane) → Q p → p ∈ J) → OnPath Q path d c → Kept J c d
on_kept f at_box = none
on_kept {path = path} f (below {d = d} h s g q e w l) = take s g (f g q) (record { point = witness_at path d; on = w.on; inside = w.inside }) (on_kept f h)

pub on_links : {Q : Plane → Type 0} {path : List ℤ} {d : ℕ} {c : List Plane} → OnPath Q path d c → Links path d
on_links at_box i l = absurd (omega arith)
on_links {path = path} (below {d = d} h s g q e w k) i l = go (d - i) refl (λ b. on_links h i b)
  where
    go : (n : ℕ) → d - i ≡ n → (i < d → Linked path i) → Linked path i
    go zero f r = let u : i ≡ d = omega arith in rw u k
    go (suc n) f r = r (omega arith)

-- ---- the side of a plane that misses the cell

pub on_stack : {path : List ℤ} {d : ℕ} {c : List Plane} → OnPath Lawful path d c → Stack c
on_stack at_box = bottom
on_stack {path = path} (below {d = d} h s g l e w n) = push (on_stack h) g s (witness_at path d) l w.on w.inside

says_class : {p : Plane} {c : List Plane} {s : Sign} (o : Classified) → Says p c s → Classes p c (by_sign s o)
says_class o (in_front h) = is_front h
says_class o (behind h) = is_behind h

-- a lawful plane is not its own back
turned_other : {g : Plane} → Lawful g → g ≡ flip g → ⊥
turned_other {g} l e =
    let n = lawful_nonzero l in
    let f : at g g ≡ neg_ℤ (at g g) = ap (at g) e ∙ at_back g g in
    lt_not_lt n (lin (nums 1) (λ a. (# 0 ≺ a) ∷ (a ≋ neg a) ∷ [] ⊢ a ≺ # 0) (omega arith) (at g g) n f)

-- for its own plane the side taken
own_is : (s : Bool) (p g : Plane) → Lawful g → p ≡ g → own_side p (half s g) ≡ by_sign (taken s) Behind
own_is true p g l e = let f : equal p g ≡ true = is_true (equal p g) (subst (λ q. T (equal p q)) e (equal_self p)) in rw f
own_is false p g l e = let f : equal p (flip g) ≡ false = is_false (equal p (flip g)) (λ t. turned_other l (sym e ∙ equal_of p (flip g) t)) in rw f

-- what the code answers for a plane that misses the cell
pub on_missed : {path : List ℤ} {d : ℕ} {c : List Plane} → OnPath Lawful path d c → (p : Plane) → Lawful p → ¬ Cuts p c → Classes p c (missed_by p path d)
unfolding missed_by tell
on_missed at_box p l n = says_class Behind (tell_right bottom p l n)
on_missed {path = path} (below {d = d} {c = c} h s g k e w m) p l n = go (same? p g) (tell_right (push (on_stack h) g s (witness_at path d) k w.on w.inside) p l n)
  where
    go : (t : Dec (p ≡ g)) → Says p (half s g ∷ c) (if_same t (taken s) (sgn (at p (witness_at path d)))) → Classes p (half s g ∷ c) (side_by p (row path 9 d) (witness_at path d))
    go (yes r) u =
        let z : at p (witness_at path d) ≡ pos 0 = ap (λ q. at q (witness_at path d)) r ∙ w.on in
        let f : side_by p (row path 9 d) (witness_at path d) ≡ by_sign (taken s) Behind = ap (λ a. by_sign (sgn a) (own_side p (row path 9 d))) z ∙ ap (own_side p) e ∙ own_is s p g k r in
        subst (Classes p (half s g ∷ c)) (sym f) (says_class Behind u)
    go (no r) u = says_class (own_side p (row path 9 d)) u

-- ---- tables

pub four_same : (t u : List ℤ) (i : ℕ) → ((j : ℕ) → i ≤ j → j < i + 4 → get_or u j (pos 0) ≡ get_or t j (pos 0)) → four_at u i ≡ four_at t i
four_same t u i f =
    let x = f i (omega arith) (omega arith) in
    let y = f (i + 1) (omega arith) (omega arith) in
    let z = f (i + 2) (omega arith) (omega arith) in
    let w = f (i + 3) (omega arith) (omega arith) in
    λ j. quad (x j) (y j) (z j) (w j)

module _ (path : List ℤ) (d : ℕ) (h : struct.Plane) (m : Meeting) (n : ℤ) (l : d * 9 + 9 ≤ length path) where
  stored : (i j : ℕ) → i < 9 → d * 9 + i ≡ j → get_or (sets path (d * 9) (nine h m n)) j (pos 0) ≡ get_or (nine h m n) i (pos 0)
  stored i j b e = get_d_sets_at (nine h m n) path (d * 9) i j b (omega arith) e

  pub put_row : row (sets path (d * 9) (nine h m n)) 9 d ≡ plane h
  unfolding row
  put_row =
      let x = stored 0 (d * 9) (omega arith) (omega arith) in
      let y = stored 1 (d * 9 + 1) (omega arith) (omega arith) in
      let z = stored 2 (d * 9 + 2) (omega arith) (omega arith) in
      let w = stored 3 (d * 9 + 3) (omega arith) (omega arith) in
      λ j. quad (x j) (y j) (z j) (w j)

  put_witness : witness_at (sets path (d * 9) (nine h m n)) d ≡ meeting m
  unfolding witness_at
  put_witness =
      let x = stored 4 (d * 9 + 4) (omega arith) (omega arith) in
      let y = stored 5 (d * 9 + 4 + 1) (omega arith) (omega arith) in
      let z = stored 6 (d * 9 + 4 + 2) (omega arith) (omega arith) in
      let w = stored 7 (d * 9 + 4 + 3) (omega arith) (omega arith) in
      λ j. quad (x j) (y j) (z j) (w j)

  put_link : get_or (sets path (d * 9) (nine h m n)) (d * 9 + 8) (pos 0) ≡ n
  put_link = stored 8 (d * 9 + 8) (omega arith) (omega arith)

-- ---- links

-- the rows before row n are the same
abbrev pub Same : List ℤ → List ℤ → ℕ → Type 0
Same path path' n = (i : ℕ) → i < n * 9 → get_or path' i (pos 0) ≡ get_or path i (pos 0)

pub row_same : (path path' : List ℤ) {n : ℕ} → Same path path' n → (d : ℕ) → d < n → row path' 9 d ≡ row path 9 d
unfolding row
row_same path path' f d l = four_same path path' (d * 9) (λ j a b. f j (omega (arith, l, a, b)))

pub linked_same : {path path' : List ℤ} {n : ℕ} → Same path path' n → (d : ℕ) → d < n → Linked path d → Linked path' d
linked_same {path} {path'} f d l k = record {
  to = k.to;
  back = k.back;
  link = f (d * 9 + 8) (omega arith) ∙ k.link;
  holds = λ j a b. let u = row_same path path' f j (omega arith) in let v = row_same path path' f d l in rw (u, v) (k.holds j a b);
}

pub links_same : {path path' : List ℤ} {n : ℕ} → Same path path' n → Links path n → Links path' n
links_same f k i l = linked_same f i l (k i l)

pub on_same : {Q : Plane → Type 0} {path path' : List ℤ} {d : ℕ} {c : List Plane} → OnPath Q path d c → Same path path' d → OnPath Q path' d c
unfolding witness_at
on_same at_box f = at_box
on_same {path = path} {path' = path'} (below {d = d} {c = c} h s g q e w l) f =
    let r = row_same path path' f d (omega arith) in
    let x = four_same path path' (d * 9 + 4) (λ j a b. f j (omega arith)) in
    below (on_same h (λ i l. f i (omega arith))) s g q (r ∙ e) (subst (Witness g c) (sym x) w) (linked_same f d (omega arith) l)

-- the link of a row to be written: past the row before it, if that one holds h
module _ {path : List ℤ} {d : ℕ} (a : PathIn path d) (o : 0 < d) where
  pub link_past : {q h : Plane} → q ≡ four_at path (d * 9 - 9) → Holds q h → LinkTold path d h (k (get_or path (d * 9 - 1) (pos 0)))
  link_past {q} {h} e f = record { to = l.to; back = omega (arith, l.back); link = kept; holds = λ j u v. go j u v (d - 1 - j) refl }
    where
      l : Linked path (d - 1)
      l = a.links (d - 1) (omega arith)

      kept : k (get_or path (d * 9 - 1) (pos 0)) ≡ pos (l.to * 9)
      kept =
          let p : d * 9 - 1 ≡ (d - 1) * 9 + 8 = omega arith in
          ap (λ i. k (get_or path i (pos 0))) p ∙ ap k l.link ∙ to_z-of_z {w = w64} {z = pos (l.to * 9)} (record { sfits = omega (arith, l.back, a.few) })

      last : Holds (row path 9 (d - 1)) h
      last = subst (λ p. Holds p h) (e ∙ four_is path (d - 1) (omega arith)) f

      go : (j : ℕ) → l.to ≤ j → j < d → (n : ℕ) → d - 1 - j ≡ n → Holds (row path 9 j) h
      go j u v zero g = let i : j ≡ d - 1 = omega (arith, g) in rw i last
      go j u v (suc n) g = holds_on (l.holds j u (omega (arith, g))) last

-- one row more
module _ {path path' : List ℤ} {d : ℕ} {h : struct.Plane} {m : Meeting} (p : Pushed path path' d h m) (l : d * 9 + 9 ≤ length path) where
  pub pushed_before : Same path path' d
  pushed_before i b = ap (λ t. get_or t i (pos 0)) p.table ∙ get_d_sets_before (nine h m p.number) path (d * 9) i b

  pub pushed_row : row path' 9 d ≡ plane h
  pushed_row = ap (λ t. row t 9 d) p.table ∙ put_row path d h m p.number l

  pushed_witness : witness_at path' d ≡ meeting m
  pushed_witness = ap (λ t. witness_at t d) p.table ∙ put_witness path d h m p.number l

  pub pushed_linked : Linked path' d
  pushed_linked = record {
    to = p.told.to;
    back = p.told.back;
    link = ap (λ t. get_or t (d * 9 + 8) (pos 0)) p.table ∙ put_link path d h m p.number l ∙ p.told.link;
    holds = λ j a b. let u = row_same path path' pushed_before j b in rw (u, pushed_row) (p.told.holds j a b);
  }

  pub on_push : {Q : Plane → Type 0} {c : List Plane} → OnPath Q path d c → (s : Bool) (g : Plane) → Q g → plane h ≡ half s g → Witness g c (meeting m) → OnPath Q path' (suc d) (half s g ∷ c)
  on_push {c = c} o s g q e w = below (on_same o pushed_before) s g q (pushed_row ∙ e) (subst (Witness g c) (sym pushed_witness) w) pushed_linked

-- ---- classify

lawful_lead : {p : Plane} → Lawful p → lead p ≢ nought
lawful_lead l e = let f = l.normal in differ (cc)

module _ {p : Plane} {path : List ℤ} {depth : ℕ} (h : ClassifyIn p path depth) where
  pub path_asked : PathIn path depth
  path_asked = record { few = h.few; room = h.room; links = on_links h.on }

  pub cut_asked : CutIn p path depth
  cut_asked = record { support = is_true (in_range p) h.lawful.range; normal = lawful_lead h.lawful; rows = record { path_in = path_asked; ranged = on_ranged (λ q l. l) h.on } }

pub missed_asked : {p : Plane} {path : List ℤ} {d : ℕ} {c : List Plane} → Lawful p → OnPath Lawful path d c → d * 9 ≤ length path → MissedIn p path d
missed_asked l at_box r = tt
missed_asked {p} l (below h s g k e w n) r =
    let a = ranged p l.range in
    let X = w.sized in
    record { room = omega arith; sizes = record { a_in = a.a; b_in = a.b; c_in = a.c; d_in = a.d; x_in = X.x_size; y_in = X.y_size; z_in = X.z_size; w_in = X.w_size } }

-- ---- a parallel half-space

-- a point of the cell is in front of each row, and has a w above 0
rows_inside : (path : List ℤ) (d : ℕ) {X : Point} → Inside (rows_down path 9 d ++ box) X → (pos 0 ⋖ X.w) × ((i : ℕ) → i < d → pos 0 ⋖ at (row path 9 i) X)
rows_inside path d {X} w = ((box_means X (record { each = λ q m. w.each q (in_right (rows_down path 9 d) m) })).weight, λ j b. w.each (row path 9 j) (in_left box (row_in path d j b)))

-- the row that is asked, and its half-space
module _ {path : List ℤ} (d : ℕ) {end from end' : ℕ} (r : AsksRow path end from end') (l : end ≤ d * 9) {h : Plane} (e : h ≡ four_at path from) where
  -- a plane on one side of which a row keeps the cell does not cut it, whatever planes stand on the path
  held_front : {q : Plane} → Holds q h → {X : Point} → Inside (rows_down path 9 d ++ box) X → pos 0 ⋖ at q X
  held_front {q} f {X} n = let w = rows_inside path d n in holds_front (subst (Holds q) (e ∙ four_is path r.i r.begins) f) X w.0 (w.1 r.i (omega (arith, r.begins, r.ends, l)))

  pub front_misses : {p : Plane} → Holds p h → ¬ Cuts p (rows_down path 9 d ++ box)
  front_misses f n = pos_not_zero (held_front f n.inside) n.on

  pub behind_misses : {p b : Plane} → b ≡ flip p → Holds b h → ¬ Cuts p (rows_down path 9 d ++ box)
  behind_misses {p} g f n = neg_not_zero (flip_back p n.point (held_front (subst (λ q. Holds q h) g f) n.inside)) n.on

module _ {path : List ℤ} {d end from end' : ℕ} (r : AsksRow path end from end') (l : end ≤ d * 9) {h : Plane} (e : h ≡ four_at path from) where
  found_front : {q : Plane} → Holds q h → {c : List Plane} → OnPath Lawful path d c → AllFront q c
  found_front f o X n = held_front d r l e f (subst (λ s. Inside s X) (on_rows o) n)

  pub classified_front : {p : Plane} → Holds p h → ClassifiedIn p path d Front
  classified_front f c o = is_front (found_front f o)

  pub classified_behind : {p b : Plane} → b ≡ flip p → Holds b h → ClassifiedIn p path d Behind
  classified_behind {p} g f c o = is_behind (λ X n. flip_back p X (found_front (subst (λ q. Holds q h) g f) o X n))

-- ---- the answer of `cut`

module _ {p : Plane} (path : List ℤ) (d : ℕ) (l : Lawful p) where
  pub classified_cut : {m : Meeting} → CutTold p (rows_down path 9 d ++ box) (Some m) → ClassifiedIn p path d (Cut m)
  classified_cut {m} (is_at w) c h = is_cut (subst (λ b. Witness p b (meeting m)) (sym (on_rows h)) w)

  pub classified_missed : CutTold p (rows_down path 9 d ++ box) None → {t : Classified} → t ≡ missed_by p path d → ClassifiedIn p path d t
  classified_missed (is_nothing n) {t} e c h = subst (Classes p c) (sym e) (on_missed h p l (subst (λ b. ¬ Cuts p b) (sym (on_rows h)) n))
