-- Between planes: the list and the form in its table, after the planes done, while p is walked on.
--     Placed, Standing                         p's place in the order of the planes; what stands
--     standing_start                           before the first plane: a mark
--     standing_listing, standing_listed        the list once p is in it; p is put at its end
--     standing_grew                            the form has grown
--     standing_done                            p is done: every boundary point of it is ON
--     standing_rows                            the normal form has at least the rows that stand
--     standing_end, standing_list              all planes are done: the normal form, and its list
use Rattle.std.specs.Prelude.{◌≡◌, List, [], ◌∷◌, ◌++◌, ◌⊎◌, ℕ, ◌≤◌, get_or}
use Rattle.std.proofs.Common.{sym, subst, inl, inr, arith}
use Rattle.whole.specs.Members.{◌∈◌, here, in_left, in_right}
use Rattle.scope.specs.Planes.{Plane, Point}
use Rattle.scope.specs.Cells.{box}
use Rattle.scope.specs.Solids.{Mark, Tree, leaf, rows, planes, ascending, mark, number, ON, reply}
use Rattle.scope.specs.Normal.{Space, Boundary, Normal}
use Rattle.theory.specs.Planes.Order.{Before, before_trans}
use Rattle.theory.specs.Planes.Lists.{Ascending, empty, ascending_one, ascending_law, ascending_same}
use Rattle.theory.specs.Planes.General.{General}
use Rattle.theory.specs.Forms.Normal.{normal_planes, normal_uses, Border}
use Rattle.growing.specs.Begun.{Right, a_leaf, under_rows, under_on, begun_under, begun_form}
use Rattle.growing.specs.Places.{Among, Listing, at_end, ascending_last}
use Rattle.growing.specs.Table.{a_mark, holds_longer}
use Rattle.growing.specs.Slots.{Slot, Grew, grew_count}

-- p stands in the order of the space's planes: done, p, and later ones
pub record Placed (S : Space) (done : List Plane) (p : Plane) : Type 0 where
  pub is : p ∈ S.list
  pub before_p : (q : Plane) → q ∈ done → Before q p
  pub rest : (q : Plane) → q ∈ S.list → (q ∈ done) ⊎ ((q ≡ p) ⊎ Before p q)

-- after the planes done, while p is walked on; ls are listed, t stands in the table
pub record Standing (S : Space) (done : List Plane) (p : Plane) (ls : List Plane) (ns : List ℕ) (m : ℕ) (t : Tree) : Type 0 where
  pub numbers : List ℕ
  -- the whole form: field 1 of row 0, and all rows are the tree's
  pub slot : Slot S ls ns m 0 1 box t numbers
  pub count : m ≡ rows t
  pub order : Ascending ls
  pub are : (q : Plane) → q ∈ ls → Boundary S q
  pub early : (q : Plane) → q ∈ ls → (q ∈ done) ⊎ (q ≡ p)
  pub all : (q : Plane) → q ∈ done → Boundary S q → q ∈ ls
  pub met : (q : Plane) → q ∈ done → (X : Point) → Border S q X → reply t X ≡ ON

pub standing_start : {S : Space} (p : Plane) {ns : List ℕ} {i : Mark} → Right S box i → get_or ns 1 0 ≡ number (mark i) → Standing S [] p [] ns 0 (leaf i)
unfolding rows
standing_start p {i = i} r e = record {
  numbers = [];
  slot = record { field = omega arith; row = omega arith; low = λ x n. elim n [ ]; holds = a_mark i e; begun = a_leaf r };
  count = omega arith;
  order = empty;
  are = λ q n. elim n [ ];
  early = λ q n. elim n [ ];
  all = λ q n. elim n [ ];
  met = λ q n. elim n [ ];
}

module _ {S : Space} {done : List Plane} {p : Plane} {ls : List Plane} {ns : List ℕ} {m : ℕ} {t : Tree} (o : Placed S done p) (k : Standing S done p ls ns m t) where
  pub standing_listing : p ∈ ls → Listing S ls
  standing_listing n = record { order = k.order; are = k.are; later = λ q b. later q b (o.rest q b.member) }
    where
      later : (q : Plane) → Boundary S q → (q ∈ done) ⊎ ((q ≡ p) ⊎ Before p q) → (q ∈ ls) ⊎ ((r : Plane) → r ∈ ls → Before r q)
      later q b (inl i) = inl (k.all q i b)
      later q b (inr (inl e)) = inl (subst (Among ls) (sym e) n)
      later q b (inr (inr l)) = inr (λ r i. elim (k.early r i) [ inl j ↦ before_trans (o.before_p r j) l | inr j ↦ subst (λ z. Before z q) (sym j) l ])

  -- p is put at the end: its first facet was found, and no row changes
  pub standing_listed : ((q : Plane) → q ∈ ls → q ∈ done) → Boundary S p → Standing S done p (ls ++ (p ∷ [])) ns m t
  standing_listed n b = record {
    numbers = k.numbers;
    slot = record { field = k.slot.field; row = k.slot.row; low = k.slot.low; holds = holds_longer (p ∷ []) k.slot.holds; begun = k.slot.begun };
    count = k.count;
    order = ascending_last k.order (λ q i. o.before_p q (n q i));
    are = λ q i. elim (at_end ls i) [ inl j ↦ k.are q j | inr e ↦ subst (Boundary S) (sym e) b ];
    early = λ q i. elim (at_end ls i) [ inl j ↦ k.early q j | inr e ↦ inr e ];
    all = λ q i x. in_left (p ∷ []) (k.all q i x);
    met = k.met;
  }

module _ {S : Space} {done : List Plane} {p : Plane} {ls : List Plane} {ns : List ℕ} {m : ℕ} {t : Tree} (k : Standing S done p ls ns m t) where
  pub standing_grew : {ns' : List ℕ} {m' : ℕ} {t' : Tree} {rs' : List ℕ} → Slot S ls ns' m' 0 1 box t' rs' → Grew ns ns' m m' 0 1 t t' k.numbers rs' → Standing S done p ls ns' m' t'
  standing_grew {rs' = rs'} s g = record {
    numbers = rs';
    slot = s;
    count = omega (arith, k.count, grew_count g k.slot.holds s.holds);
    order = k.order;
    are = k.are;
    early = k.early;
    all = k.all;
    met = λ q i X b. under_on X g.under (k.met q i X b);
  }

  pub standing_done : (p' : Plane) → (Boundary S p → p ∈ ls) → ((X : Point) → Border S p X → reply t X ≡ ON) → Standing S (done ++ (p ∷ [])) p' ls ns m t
  standing_done p' l h = record {
    numbers = k.numbers;
    slot = k.slot;
    count = k.count;
    order = k.order;
    are = k.are;
    early = λ q i. inl (elim (k.early q i) [ inl j ↦ in_left (p ∷ []) j | inr e ↦ in_right done (here e) ]);
    all = λ q i b. elim (at_end done i) [ inl j ↦ k.all q j b | inr e ↦ subst (Among ls) (sym e) (l (subst (Boundary S) e b)) ];
    met = λ q i X b. elim (at_end done i) [ inl j ↦ k.met q j X b | inr e ↦ h X (subst (λ r. Border S r X) e b) ];
  }

  -- refusal 8
  pub standing_rows : {r : Tree} → Normal S box r → m ≤ rows r
  standing_rows n = omega (arith, k.count, under_rows (begun_under k.slot.begun n))

module _ {S : Space} {done : List Plane} {p : Plane} {ls : List Plane} {ns : List ℕ} {m : ℕ} {t : Tree} (g : General S.list) (every : (q : Plane) → q ∈ S.list → q ∈ done) (k : Standing S done p ls ns m t) where
  pub standing_end : Normal S box t
  standing_end = begun_form S g k.slot.begun (λ q X b. k.met q (every q b.member) X b)

  -- its list is the list that stands: each listed plane is used
  pub standing_list : ls ≡ ascending (planes t)
  standing_list = ascending_one k.order (ascending_law (planes t)) (record {
    to = λ q i. (ascending_same (planes t)).to q (normal_uses S g standing_end q (k.are q i));
    from = λ q i. let b = normal_planes S standing_end q ((ascending_same (planes t)).from q i) in k.all q (every q b.member) b;
  })
