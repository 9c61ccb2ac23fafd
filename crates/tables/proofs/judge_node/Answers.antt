-- `tables::judge_node` meets its contract. The tree that grows is put where its children's sizes began, below place 1000, and its plane is marked above. Assumes nothing.
use mathlib.Core.Path.{◌≡◌, refl, sym, ap, ◌∙◌}
use mathlib.Core.List.{List, ◌∷◌}
use mathlib.Core.Option.{some}
use Prim.Native.Nat.{ℕ, ◌+◌, ◌*◌, ◌-◌, ◌≤◌, ◌<◌}
use native.Mathlib.Omega.{arith}
use lib.IntN.{ℤ, pos}
use lib.ListN.{length, get_or, take}
use Rattle.std.specs.Prelude.{Option as Maybe, Some, None}
use mir.Syntax.{w64}
use mir.Val.{to_z}
use mir.Facts.{to_z_pos}
use Rattle.theory.specs.Text.Counts.{size_row, size_child, size_back}
use Rattle.tables.specs.Rows.{entry_at}
use Rattle.tables.specs.Work.{stack, sizes_in, total}
use Rattle.tables.specs.Promises.{grown, Ready}
use Rattle.tables.specs.declared.Child.{Child}
use Rattle.tables.proofs.Stacks.{row_far, row_near, sizes_take, grown_take, grown_left, stored_stack, stored_marks, stored_rest}
use Rattle.tables.proofs.judge_node.Goals as goal

pub returns-then-n-p : goal.returns-then-n-p
returns-then-n-p c =
    let a = c.args in
    let ns = a.nodes.now in
    record { row = row_far a.n a.r (stack a.work.now a.depth) (get_or ns (3 * a.r) 0) (get_or ns (3 * a.r + 1) 0) (get_or ns (3 * a.r + 2) 0) c.if-n-p.true; number = refl; same = refl }

pub grow-requires : goal.grow-requires
grow-requires c =
    let a = c.args in
    let q = c.requires in
    omega (arith, q.sizes, q.few_rows, ap total (sizes_take a.work.now a.depth (omega (arith, q.deep, q.few_rows, q.room))))

module _ {ns : List ℕ} {n r : ℕ} {w : List ℤ} {depth : ℕ} (q : Ready ns n r w depth) (near : get_or ns (3 * r) 0 < n) (o : Maybe Child) (g : size_back r (get_or ns (3 * r + 1) 0) (size_child (r - 1) (get_or ns (3 * r + 2) 0) (sizes_in (take depth w))) ≡ grown (take depth w) o) where
  -- the tree that grows over the row's children
  over : size_back r (get_or ns (3 * r + 1) 0) (size_child (r - 1) (get_or ns (3 * r + 2) 0) (stack w depth)) ≡ grown w o
  over = grown_take w depth (omega (arith, q.deep, q.few_rows, q.room)) r (get_or ns (3 * r + 1) 0) (get_or ns (3 * r + 2) 0) o g

  -- the row is that tree
  grows : size_row n r (stack w depth) (entry_at ns r) ≡ grown w o
  grows = row_near n r (stack w depth) (get_or ns (3 * r) 0) (get_or ns (3 * r + 1) 0) (get_or ns (3 * r + 2) 0) near ∙ over

-- the tree that grows and the sizes that it leaves are small
record Small (ns : List ℕ) (n r : ℕ) (w : List ℤ) (depth : ℕ) (t : Child) : Type 0 where
  pub row : size_row n r (stack w depth) (entry_at ns r) ≡ some (t.rows ∷ stack w t.below)
  pub rows : t.rows ≤ 1000
  pub deep : t.below ≤ r
  pub few : r < 1000
  pub room : 1064 ≤ length w
  pub near : get_or ns (3 * r) 0 < 64
  pub sizes : total (t.rows ∷ stack w t.below) ≤ r + 1

module _ {ns : List ℕ} {n r : ℕ} {w : List ℤ} {depth : ℕ} (q : Ready ns n r w depth) (near : get_or ns (3 * r) 0 < n) (t : Child) (g : size_back r (get_or ns (3 * r + 1) 0) (size_child (r - 1) (get_or ns (3 * r + 2) 0) (sizes_in (take depth w))) ≡ grown (take depth w) (Some t)) where
  small : Small ns n r w depth t
  unfolding total
  small =
      let l = grown_left r (get_or ns (3 * r + 1) 0) (get_or ns (3 * r + 2) 0) w depth t.rows t.below (over q near (Some t) g) in
      record {
        row = grows q near (Some t) g;
        rows = omega (arith, l.0, q.sizes, q.few_rows);
        deep = omega (arith, l.1, q.deep);
        few = q.few_rows;
        room = q.room;
        near = omega (arith, q.few_planes, near);
        sizes = omega (arith, l.0, q.sizes);
      }

pub returns-in_default : goal.returns-in_default
returns-in_default c = record { row = grows c.requires c.if-n-p.false None c.in_default.ensures; number = refl; same = refl }

pub overflow_cast-work : goal.overflow_cast-work
overflow_cast-work c = let t = small c.requires c.if-n-p.false c.in-Some.tree c.in-Some.ensures in record { sfits = omega (arith, t.rows) }

pub offset_bounds-work-tree : goal.offset_bounds-work-tree
offset_bounds-work-tree c = let t = small c.requires c.if-n-p.false c.in-Some.tree c.in-Some.ensures in record { fits = omega (arith, t.deep, t.few) }

pub bounds-work-tree : goal.bounds-work-tree
bounds-work-tree c = let t = small c.requires c.if-n-p.false c.in-Some.tree c.in-Some.ensures in omega (arith, t.deep, t.few, t.room)

pub overflow_add-result : goal.overflow_add-result
overflow_add-result c = let t = small c.requires c.if-n-p.false c.in-Some.tree c.in-Some.ensures in record { fits = omega (arith, t.deep, t.few) }

pub returns : goal.returns
returns c =
    let a = c.args in
    let w = a.work.now in
    let k = c.in-Some.tree.rows in
    let d = c.in-Some.tree.below in
    let p = get_or a.nodes.now (3 * a.r) 0 in
    let t = small c.requires c.if-n-p.false c.in-Some.tree c.in-Some.ensures in
    let low : d < 1000 = omega (arith, t.deep, t.few) in
    let e : to_z w64 k ≡ pos k = to_z_pos w64 {n = k} (omega (arith, t.rows)) in
    rw e (record {
      row = t.row ∙ ap some (sym (stored_stack w d p k low t.room t.near));
      deep = omega (arith, t.deep);
      sizes = rw (stored_stack w d p k low t.room t.near) t.sizes;
      marks = stored_marks w d p k low t.room t.near;
      rest = stored_rest w d p k low t.room t.near;
    })
