-- What follows from the promise of the normal form.
--     normal_told_unique   no second answer, and no second table, meets it
--     normal_refusal       a number is given only when the definitions give it, and leaves every table all zeros
--     normal_given         demand 3: a solid that is given is the tree that the definition gives, row for row; it answers points as its
--                          solid does, and its planes are the boundary planes
use Rattle.std.specs.Prelude.{◌≡◌, refl, List, ◌↔◌, ℕ, ℤ, pos, length, Result, Ok, Err}
use Rattle.whole.specs.Members.{◌∈◌}
use Rattle.scope.specs.Planes.{Plane, Point}
use Rattle.scope.specs.Solids.{Tree, planes, Tables, tables_of, answer as answers}
use Rattle.scope.specs.Cells.{Inside, box, Off}
use Rattle.scope.specs.Normal.{space, Boundary, NormalForm}
use Rattle.scope.specs.Judging.{accepted, judge_lent}
use Rattle.scope.specs.Answers.{Answer, given, plane_numbers, node_numbers, filled, WithWork, short_work, enough_work, FormBy, solid_refused, formed}
use Rattle.theory.specs.Answers.{lent_sound, solid_lawful}
use Rattle.theory.specs.Text.Lent.{lent}
use Rattle.theory.specs.Theorems.{form_points, form_planes}
use Rattle.tables.specs.declared.Solid.{Solid}
use Rattle.results.specs.Results.{form_of, rooms, given_of}
use Rattle.results.specs.Follows.{told_unique, Refusal, told_refusal, not_refused, tree_given}
use Rattle.forms.specs.Promises.{NormalTold}

module _ {pa : List ℤ} {na : List ℕ} {ra : ℕ} {xs xs' : List ℤ} {ns ns' : List ℕ} {w w' : List ℤ} where
  pub normal_told_unique : {xs'' : List ℤ} {ns'' : List ℕ} {w'' : List ℤ} {i j : Result Solid ℕ} → NormalTold pa na ra xs xs' ns ns' w w' i → NormalTold pa na ra xs xs'' ns ns'' w w'' j → (i ≡ j) × (xs' ≡ xs'') × (ns' ≡ ns'') × (w' ≡ w'')
  normal_told_unique h k = told_unique h k

  pub normal_refusal : {k : ℕ} → NormalTold pa na ra xs xs' ns ns' w w' (Err k) → Refusal (form_of (lent pa na ra)) xs xs' ns ns' w w' k
  normal_refusal h = told_refusal h

-- ---- a solid

-- a normal form: its tree, and what the tree is to the solid
pub record Forms (pa : List ℤ) (na : List ℕ) (ra : ℕ) (xs xs' : List ℤ) (ns ns' : List ℕ) (s : Solid) : Type 0 where
  pub solid : Tree
  pub solid_is : judge_lent (lent pa na ra) ≡ accepted (tables_of solid)
  pub tree : Tree
  pub right : NormalForm solid tree
  pub counts : Ok s ≡ given_of (given (tables_of tree))
  pub plane_rows : xs' ≡ filled (pos 0) (length xs) (plane_numbers (tables_of tree))
  pub node_rows : ns' ≡ filled 0 (length ns) (node_numbers (tables_of tree))
  pub points : (X : Point) → Inside box X → Off (planes solid) X → answers tree X ≡ answers solid X
  pub boundary : (p : Plane) → (p ∈ planes tree) ↔ Boundary (space solid) p

module _ {pa : List ℤ} {na : List ℕ} {ra : ℕ} {xs xs' : List ℤ} {ns ns' : List ℕ} {w w' : List ℤ} {s : Solid} where
  pub normal_given : NormalTold pa na ra xs xs' ns ns' w w' (Ok s) → Forms pa na ra xs xs' ns ns' s
  normal_given h = with_work h.answer h.exact refl
    where
      by : (a : Answer Tables) → FormBy (rooms xs ns) (judge_lent (lent pa na ra)) a → h.answer ≡ a → Forms pa na ra xs xs' ns ns' s
      by _ (solid_refused e) f = absurd (not_refused h f)
      by _ (formed A t e n) f =
          let l = solid_lawful (lent_sound (lent pa na ra)) e in
          let g = tree_given h t f in
          record {
            solid = A;
            solid_is = e;
            tree = t;
            right = n;
            counts = g.counts;
            plane_rows = g.plane_rows;
            node_rows = g.node_rows;
            points = form_points l n;
            boundary = form_planes l n;
          }

      with_work : (a : Answer Tables) → WithWork (length w) (FormBy (rooms xs ns) (judge_lent (lent pa na ra))) a → h.answer ≡ a → Forms pa na ra xs xs' ns ns' s
      with_work _ (short_work n) f = absurd (not_refused h f)
      with_work _ (enough_work t m) f = by _ m f
