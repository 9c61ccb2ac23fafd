-- Two sound solids and their joined list.
--     join_in                          two plane lists to join
--     stands_a, stands_b               each operand stands at its root code
--     joined_lawful, joined_in_order, joined_has, joined_from   the planes of the list
--     both_rows, joined_few, ground_in   what a walk reads, and its room
use mathlib.Core.Path.{◌≡◌, refl, sym, ap, subst, ◌∙◌}
use mathlib.Core.List.{List, ◌++◌}
use mathlib.Core.Logic.{inl, inr}
use Prim.Native.Nat.{ℕ, ◌+◌, ◌-◌, ◌*◌, ◌≤◌}
use native.Mathlib.Omega.{arith}
use denote.Ref.{Bor}
use lib.IntN.{ℤ}
use lib.ListN.{length, get_or, take}
use Rattle.whole.specs.Members.{◌∈◌, in_left, in_right, in_either}
use Rattle.scope.specs.Planes.{Plane, Lawful}
use Rattle.scope.specs.Solids.{Tree, planes, code, number, post, entries, ascending, tables_of}
use Rattle.scope.specs.Answers.{flat_planes}
use Rattle.theory.specs.Planes.Lists.{Ascending, ascending_law, ascending_same}
use Rattle.theory.specs.Text.Lent.{FlatParts}
use Rattle.tables.specs.Promises.{SolidOf}
use Rattle.tables.specs.declared.LentSolid.{LentSolid}
use Rattle.lists.specs.declared.JoinedList.{JoinedList}
use Rattle.lists.specs.Lists.{HoldsList, JoinIn, Joined, JoinTold}
use Rattle.walks.specs.Standing.{list, Stands}
use Rattle.walks.specs.declared.rows.Operands.{Operands}
use Rattle.walks.specs.Walks.{Ground}
use Rattle.results.specs.Putting.{InOrder}
use Rattle.results.specs.Operands.{SoundIn}
use Rattle.lists.proofs.Rows.{planes_back}
use Rattle.results.proofs.Trees.{Numbered, stands_solid}

-- ---- the plane lists

module _ {xs : List ℤ} {ns : List ℕ} {r : ℕ} {t : Tree} (s : SolidOf xs ns r t) where
  flat : FlatParts (ascending (planes t)) (entries (ascending (planes t)) (post 0 t)) (number (code 0 t)) xs ns r
  unfolding tables_of
  flat = s.flat

  holds : HoldsList xs (ascending (planes t))
  holds = record { table = flat.planes; order = ascending_law (planes t); few = s.lawful.few_planes }

pub join_in : {a b : LentSolid} {xs : List ℤ} {ns : List ℕ} {path : List ℤ} → SoundIn a b xs ns path → JoinIn a.planes.now b.planes.now
join_in h = record { first = ascending (planes h.first); second = ascending (planes h.second); first_held = holds h.first_solid; second_held = holds h.second_solid }

-- ---- two solids, and their joined list

module _ {pa : List ℤ} {na : List ℕ} {ra : ℕ} {pb : List ℤ} {nb : List ℕ} {rb : ℕ} {A B : Tree} (sa : SolidOf pa na ra A) (sb : SolidOf pb nb rb B) {l : JoinedList} (j : JoinTold pa pb l) {xs : List ℤ} (exs : xs ≡ take (4 * l.count) l.planes) {numbers : List ℕ} (ens : numbers ≡ l.numbers) where
  abbrev P : List Plane
  P = ascending (planes A)

  abbrev Q : List Plane
  Q = ascending (planes B)

  abbrev J : List Plane
  J = ascending (P ++ Q)

  both : Joined P Q l
  both = j P Q (holds sa) (holds sb)

  ex : xs ≡ flat_planes J
  ex = exs ∙ both.table

  list_is : list xs ≡ J
  list_is = planes_back J ex

  numbered_a : Numbered P J numbers 0
  numbered_a = record { room = omega (arith, both.wide, ap length ens, sa.lawful.few_planes); sub = λ p m. (ascending_same (P ++ Q)).to p (in_left Q m); number_is = λ i p e. ap (λ k. get_or numbers k 0) {x = 0 + i} {y = i} (omega arith) ∙ ap (λ ns. get_or ns i 0) ens ∙ both.first_numbers i p e }

  numbered_b : Numbered Q J numbers 64
  numbered_b = record { room = omega (arith, both.wide, ap length ens, sb.lawful.few_planes); sub = λ p m. (ascending_same (P ++ Q)).to p (in_right P m); number_is = λ i p e. ap (λ ns. get_or ns (64 + i) 0) ens ∙ both.second_numbers i p e }

  pub stands_a : Stands xs numbers na 0 ra A
  stands_a = stands_solid sa J numbers 0 ex numbered_a

  pub stands_b : Stands xs numbers nb 64 rb B
  stands_b = stands_solid sb J numbers 64 ex numbered_b

  pub joined_lawful : (p : Plane) → p ∈ list xs → Lawful p
  joined_lawful p m = elim (in_either P Q ((ascending_same (P ++ Q)).from p (subst (λ l. p ∈ l) list_is m))) [ inl i ↦ sa.lawful.each p ((ascending_same (planes A)).from p i) | inr i ↦ sb.lawful.each p ((ascending_same (planes B)).from p i) ]

  list_few : length (list xs) ≤ 128
  list_few = omega (arith, ap length list_is, both.count, both.few)

  pub joined_in_order : InOrder xs
  joined_in_order = record { table = ex ∙ ap flat_planes (sym list_is); order = subst Ascending (sym list_is) (ascending_law (P ++ Q)); few = list_few }

  -- it has the planes of both, and no other
  pub joined_has : (p : Plane) → p ∈ (planes A ++ planes B) → p ∈ list xs
  joined_has p m = subst (λ l. p ∈ l) (sym list_is) (elim (in_either (planes A) (planes B) m) [ inl i ↦ (ascending_same (P ++ Q)).to p (in_left Q ((ascending_same (planes A)).to p i)) | inr i ↦ (ascending_same (P ++ Q)).to p (in_right P ((ascending_same (planes B)).to p i)) ])

  pub joined_from : (p : Plane) → p ∈ list xs → p ∈ (planes A ++ planes B)
  joined_from p m = elim (in_either P Q ((ascending_same (P ++ Q)).from p (subst (λ l. p ∈ l) list_is m))) [ inl i ↦ in_left (planes B) ((ascending_same (planes A)).from p i) | inr i ↦ in_right (planes A) ((ascending_same (planes B)).from p i) ]

-- ---- what the calls are given

-- a part of a table from its start
pub whole_part : {A : Type 0} (n : ℕ) (xs : List A) → take (n - 0) xs ≡ take n xs
whole_part n xs = ap (λ k. take k xs) {x = n - 0} {y = n} (omega arith)

-- the rows of both, and their joined list
abbrev pub both_rows : LentSolid → LentSolid → Bor (List ℤ) → Bor (List ℕ) → Operands
both_rows a b planes numbers = record { planes = planes; a = a.nodes; b = b.nodes; numbers = numbers }

module _ {a b : LentSolid} {xs : List ℤ} {ns : List ℕ} {path : List ℤ} (h : SoundIn a b xs ns path) {l : JoinedList} (j : JoinTold a.planes.now b.planes.now l) where
  pub joined_few : l.count ≤ 128
  joined_few = (j (ascending (planes h.first)) (ascending (planes h.second)) (holds h.first_solid) (holds h.second_solid)).few

  pub ground_in : {ls path' : List ℤ} → ls ≡ take (4 * l.count) l.planes → length path' ≡ length path → Ground ls path'
  ground_in e ep = record { lawful = joined_lawful h.first_solid h.second_solid j e refl; few = (joined_in_order h.first_solid h.second_solid j e refl).few; path_room = omega (arith, ep, h.path_room) }
