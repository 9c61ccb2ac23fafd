-- The headline theorems, on one page. Planes are lawful, points are whole quadruples of any size with w at least 1 (the first half-space of `box`), and no hypothesis is left open:
-- whether a plane cuts a cell is decided by the section.
--     planes        lawful_coincident
--     sections      section_nothing, section_witness, section_same, section_enough, section_134, section_up   (page Section)
--     cells         missed_one_side, halves, told, path_128
--     merges        merge, merge_unique, merge_points, merge_tight, merge_rows, merge_lawful, merge_planes
--     texts         text_of_injective, judge_tree, judge_read, judge_only, judge_refused, refused_judge, refused_one   (page Text)
--     normal forms  form_both, form_both_unique, form, form_unique, form_points, form_planes, form_few, form_lawful, form_single, form_again, form_merged, same_form_same_space, same_text_same_space, same_or_apart, forms_apart; empty_lawful
-- Endings: -unique, no second one; -points, the answers of points off the planes; -tight, no plane is kept that misses its cell.
use Rattle.std.specs.Prelude.{◌≡◌, refl, ◌≢◌, ◌⊎◌, ◌↔◌, ℕ, ◌+◌, ◌*◌, ◌≤◌, pos, length}
use Rattle.std.proofs.Common.{sym, ap, inl, inr, arith, length-append}
use mathlib.Core.List.{List, [], ◌∷◌, ◌++◌}
use Rattle.whole.specs.Members.{◌∈◌, in_left, in_right, in_either}
use Rattle.whole.specs.Tests.{differ}
use Rattle.scope.specs.Planes.{Plane, Point, at as at_point, flip, Lawful}
use Rattle.scope.specs.Limits.{most_planes, most_nodes}
use Rattle.scope.specs.Solids.{Mark, IN, OUT, Tree, leaf, rows, planes, ascending, LawfulTree, walk, front, answer}
use Rattle.scope.specs.Text.{text_of}
use Rattle.scope.specs.Cells.{Inside, box, Cuts, AllFront, AllBack, Off, Operation, union, operate, Merged}
use Rattle.scope.specs.Normal.{space, both, Boundary, Uniform, Normal, NormalForm}
use Rattle.theory.specs.Planes.General.{Nonzero, General, general_sub}
use Rattle.theory.specs.Planes.Lists.{ascending_law, ascending_same, ascending_less}
use Rattle.theory.specs.Planes.Lawful.{lawful_nonzero}
use Rattle.theory.specs.Planes.Apart.{lawful_general}
use Rattle.theory.specs.Cells.Reached.{Cell, whole, decided}
use Rattle.theory.specs.Cells.Box.{origin, box_origin}
use Rattle.theory.specs.Cells.Sides.{Decided, cut, fore, aft, decide, half_front, half_back}
use Rattle.theory.specs.Cells.Walk.{EachPlane, Tight, merged_one, merged_some, merged_answers, merged_tight, merged_rows, merged_each}
use Rattle.theory.specs.Cells.Path.{Kept, kept_few}
use Rattle.theory.specs.Cells.Uniform.{Mixed, uniform?}
use Rattle.theory.specs.Cells.Clear.{clear_off, keeps_inside}
use Rattle.theory.specs.Forms.Normal.{normal_one, normal_answers, normal_planes, normal_same, normal_uses, same_form}
use Rattle.theory.specs.Forms.Build.{form_some, listed}
use Rattle.theory.specs.Forms.OnPlane.{boundary?}
-- coincident lawful planes are equal; the section; the side of a missed plane by the witness of the last cut (`tell_right`)
pub use Rattle.theory.specs.Planes.Apart.{lawful_coincident}
pub use Rattle.theory.specs.Section.{section_nothing, section_witness, section_same, section_enough, section_134, section_up, cuts?}
pub use Rattle.theory.specs.Cells.Classify.{Stack, tell, Says, tell_right}
-- a solid and its text determine each other, and every text is accepted or refused by exactly one number and line
pub use Rattle.theory.specs.Text.Judge.{text_of_injective, judge_tree, judge_read, judge_only}
pub use Rattle.theory.specs.Text.Refusals.{judge_refused, refused_judge, refused_one}

lawful : {t : Tree} → LawfulTree t → EachPlane Lawful t
lawful l = record { each = l.each }

thick : {t : Tree} → LawfulTree t → EachPlane Nonzero t
thick l = record { each = λ p m. lawful_nonzero (l.each p m) }

either : (ps qs : List Plane) {Q : Plane → Type 0} → ((p : Plane) → p ∈ ps → Q p) → ((p : Plane) → p ∈ qs → Q p) → (p : Plane) → p ∈ (ps ++ qs) → Q p
either ps qs f g p m = elim (in_either ps qs m) [ inl i ↦ f p i | inr i ↦ g p i ]

general : {A B : Tree} → LawfulTree A → LawfulTree B → General (planes A ++ planes B)
general {A} {B} l k = lawful_general (either (planes A) (planes B) l.each k.each)

-- ---- cells

-- a cell that a lawful plane does not cut lies in front of it or behind it
pub missed_one_side : {p : Plane} {c : List Plane} {X : Point} → Lawful p → Cell Lawful c → Inside c X → ¬ Cuts p c → AllFront p c ⊎ AllBack p c
missed_one_side {p} {c} {X} l a i n = go (decide p c X i (no n))
  where
    go : Decided p c → AllFront p c ⊎ AllBack p c
    go (cut k) = absurd (n k)
    go (fore h) = inl h
    go (aft h) = inr h

-- both halves of a cell that it cuts have points
pub halves : {p : Plane} {c : List Plane} → Lawful p → Cuts p c → ((X : Point) × Inside (p ∷ c) X) × ((X : Point) × Inside (flip p ∷ c) X)
halves l k = (half_front (lawful_nonzero l) k, half_back (lawful_nonzero l) k)

-- the half-spaces of the nodes kept on the way down two solids: at most 128
pub path_128 : {A B : Tree} {c : List Plane} {n : ℕ} → LawfulTree A → LawfulTree B → Kept (ascending (planes A) ++ ascending (planes B)) c n → n ≤ 128
path_128 {A} {B} l k w = omega (arith, kept_few w, length-append (ascending (planes A)) (ascending (planes B)), l.few_planes, k.few_planes)

-- ---- the merge: demand 2

module _ (o : Operation) {A B : Tree} (l : LawfulTree A) (k : LawfulTree B) where
  -- there is a merged tree,
  pub merge : (r : Tree) × Merged o A B r
  merge = merged_some (operate o) B Lawful (λ p h. lawful_nonzero h) decided (lawful k) A box origin (lawful l) whole box_origin

  module _ {r : Tree} (w : Merged o A B r) where
    -- and no second one;
    pub merge_unique : {s : Tree} → Merged o A B s → r ≡ s
    merge_unique = merged_one (operate o) B box_origin (thick l) (thick k) w

    -- a point strictly in the box and off the operands' planes is in it exactly if the operation holds of its two answers;
    pub merge_points : (X : Point) → Inside box X → Off (planes A) X → Off (planes B) X → answer r X ≡ operate o (answer A X) (answer B X)
    merge_points X i y z = merged_answers (operate o) B i y z w

    -- no node is kept whose plane misses its cell;
    pub merge_tight : Tight box r
    merge_tight = merged_tight (operate o) B w

    -- at most n + m + n·m rows;
    pub merge_rows : rows r ≤ rows A + rows B + rows A * rows B
    merge_rows = merged_rows (operate o) B w

    -- and no plane that the operands do not have
    pub merge_planes : (p : Plane) → p ∈ planes r → p ∈ (planes A ++ planes B)
    merge_planes = (merged_each (operate o) B {Q = λ p. p ∈ (planes A ++ planes B)} (record { each = λ p. in_left (planes B) }) (record { each = λ p. in_right (planes A) }) w).each

    pub merge_lawful : (p : Plane) → p ∈ planes r → Lawful p
    merge_lawful = (merged_each (operate o) B (lawful l) (lawful k) w).each

-- ---- normal forms: of any operation on the marks of two solids there is one,

module _ (o : Mark → Mark → Mark) {A B : Tree} (l : LawfulTree A) (k : LawfulTree B) where
  pub form_both : (r : Tree) × Normal (both o A B) box r
  form_both =
      let g = general l k in
      let s = ascending_same (planes A ++ planes B) in
      let b = listed (both o A B) (boundary? Lawful decided o (lawful l) (lawful k) g) (ascending (planes A ++ planes B)) (ascending_law (planes A ++ planes B)) s.from in
      form_some (both o A B) g Lawful (either (planes A) (planes B) l.each k.each) decided (uniform? o (thick l) (thick k) Lawful (λ p h. lawful_nonzero h) decided (lawful l) (lawful k))
      b.0 b.1.order (λ q m. (b.1.from q m).1) (λ q f. b.1.all q (s.to q f.member) f)

  -- and no second one
  pub form_both_unique : {r s : Tree} → Normal (both o A B) box r → Normal (both o A B) box s → r ≡ s
  form_both_unique = normal_one (both o A B) (general l k) box_origin

-- the empty solid
pub empty_lawful : LawfulTree (leaf OUT)
unfolding ascending rows
empty_lawful = record { each = λ p m. elim m [ ]; few_planes = omega arith; few_rows = omega arith }

module _ {A : Tree} (l : LawfulTree A) where
  alone : (p : Plane) → p ∈ ((planes A ++ []) ++ planes A) → p ∈ planes A
  alone = either (planes A ++ []) (planes A) {Q = λ p. p ∈ planes A} (either (planes A) [] {Q = λ p. p ∈ planes A} (λ p m. m) (λ p m. elim m [ ])) (λ p m. m)

  -- every solid has a normal form
  pub form : (r : Tree) × NormalForm A r
  form =
      let f = form_both (λ a b. a) {B = leaf OUT} l empty_lawful in (
        f.0,
        normal_same (both (λ a b. a) A (leaf OUT)) (space A) (general_sub (planes A) ((planes A ++ []) ++ planes A) (lawful_general l.each) alone)
            (record { alike = λ X i y z. refl }) (λ X i. i) f.1,
      )

  module _ {r : Tree} (n : NormalForm A r) where
    pub form_unique : {s : Tree} → NormalForm A s → r ≡ s
    form_unique = normal_one (space A) (lawful_general l.each) box_origin n

    -- it answers points as its solid does, off the solid's planes
    pub form_points : (X : Point) → Inside box X → Off (planes A) X → answer r X ≡ answer A X
    form_points X i z = normal_answers (space A) i z n

    -- its planes are the boundary planes
    pub form_planes : (p : Plane) → (p ∈ planes r) ↔ Boundary (space A) p
    form_planes p = (normal_planes (space A) n p, normal_uses (space A) (lawful_general l.each) n p)

    -- it has no more planes than its solid, so it is a solid itself if it has few enough rows
    pub form_few : length (ascending (planes r)) ≤ most_planes
    form_few =
        let s = ascending_same (planes r) in
        let t = ascending_same (planes A) in
        omega (arith, l.few_planes, ascending_less (ascending_law (planes r)) (ascending_law (planes A)) (λ p m. t.to p (normal_planes (space A) n p (s.from p m)).member))

    pub form_lawful : rows r ≤ most_nodes → LawfulTree r
    form_lawful f = record { each = λ p m. l.each p (normal_planes (space A) n p m).member; few_planes = form_few; few_rows = f }

    -- it is the form of the solid's union with the empty solid
    pub form_single : Normal (both (operate union) A (leaf OUT)) box r
    unfolding operate walk
    form_single = normal_same (space A) (both (operate union) A (leaf OUT)) (general_sub (planes A) (planes A ++ (planes A ++ [])) (lawful_general l.each) alone_too)
        (record { alike = λ X i y z. joins (walk A (front X)) }) (λ X i. i) n
      where
        alone_too : (p : Plane) → p ∈ (planes A ++ (planes A ++ [])) → p ∈ planes A
        alone_too = either (planes A) (planes A ++ []) {Q = λ p. p ∈ planes A} (λ p m. m) (either (planes A) [] {Q = λ p. p ∈ planes A} (λ p m. m) (λ p m. elim m [ ]))

        joins : (m : Mark) → m ≡ operate union m OUT
        joins IN = refl
        joins OUT = refl

    -- and the normal form of it is itself
    pub form_again : NormalForm r r
    form_again = normal_same (space A) (space r) (lawful_general (either (planes A) (planes r) l.each (λ p m. l.each p (normal_planes (space A) n p m).member)))
        (record { alike = λ X i y z. sym (form_points X i y) }) (λ X i. i) n

-- the normal form of a merged tree is that of the operation on its operands
pub form_merged : (o : Operation) {A B r s : Tree} → LawfulTree A → LawfulTree B → Merged o A B r → Normal (both (operate o) A B) box s → NormalForm r s
form_merged o {A} {B} {r} l k w n = normal_same (both (operate o) A B) (space r)
    (lawful_general (either (planes A ++ planes B) (planes r) (either (planes A) (planes B) l.each k.each) (merge_lawful o l k w)))
    (record { alike = λ X i y z. sym (merge_points o l k w X i (record { none = λ q m. y.none q (in_left (planes B) m) }) (record { none = λ q m. y.none q (in_right (planes A) m) })) }) (λ X i. i) n

-- demand 3, for trees: two normal forms are the same exactly when no point strictly in the box, off the planes of both, is in one solid and out of the other
module _ {A B : Tree} (l : LawfulTree A) (k : LawfulTree B) {r s : Tree} (n : NormalForm A r) (m : NormalForm B s) where
  pub same_form_same_space : (r ≡ s) ↔ ((X : Point) → Inside box X → Off (planes A) X → Off (planes B) X → answer A X ≡ answer B X)
  same_form_same_space = let e = same_form (space A) (space B) (general l k) n m in (λ d. (e.0 d).alike, λ f. e.1 (record { alike = f }))

  -- and for texts
  pub same_text_same_space : LawfulTree r → LawfulTree s → (text_of r ≡ text_of s) ↔ ((X : Point) → Inside box X → Off (planes A) X → Off (planes B) X → answer A X ≡ answer B X)
  same_text_same_space lr ls = (λ e. same_form_same_space.0 (text_of_injective r s lr ls e), λ f. ap text_of (same_form_same_space.1 f))

-- ---- the same space or not: it is decided, and if not, a point shows it

abbrev differs : Mark → Mark → Mark
differs IN IN = OUT
differs IN OUT = IN
differs OUT IN = IN
differs OUT OUT = OUT

differs_out : (a b : Mark) → differs a b ≡ OUT → a ≡ b
differs_out IN IN e = refl
differs_out IN OUT e = differ (cc)
differs_out OUT IN e = differ (cc)
differs_out OUT OUT e = refl

differs_in : (a b : Mark) → differs a b ≡ IN → a ≢ b
differs_in IN IN e d = differ (cc)
differs_in IN OUT e d = differ (cc)
differs_in OUT IN e d = differ (cc)
differs_in OUT OUT e d = differ (cc)

-- a point strictly in the box and off the planes of both, in one solid and out of the other
pub record Apart (A B : Tree) : Type 0 where
  pub point : Point
  pub inside : Inside box point
  pub off_first : Off (planes A) point
  pub off_second : Off (planes B) point
  pub apart : answer A point ≢ answer B point

module _ {A B : Tree} (l : LawfulTree A) (k : LawfulTree B) where
  pub same_or_apart : ((X : Point) → Inside box X → Off (planes A) X → Off (planes B) X → answer A X ≡ answer B X) ⊎ Apart A B
  same_or_apart = by (uniform? differs (thick l) (thick k) Lawful (λ p h. lawful_nonzero h) decided (lawful l) (lawful k) box origin whole box_origin)
    where
      at : (X : Point) → Inside box X → Off (planes A ++ planes B) X → differs (walk A (front X)) (walk B (front X)) ≡ IN → Apart A B
      at X i o e = record { point = X; inside = i; off_first = record { none = λ q m. o.none q (in_left (planes B) m) }; off_second = record { none = λ q m. o.none q (in_right (planes A) m) }; apart = differs_in (walk A (front X)) (walk B (front X)) e }

      either_in : (a b : Mark) → a ≢ b → (a ≡ IN) ⊎ (b ≡ IN)
      either_in IN b d = inl refl
      either_in OUT IN d = inr refl
      either_in OUT OUT d = absurd (d refl)

      one : Mixed (both differs A B) box → Apart A B
      one u = pick (either_in ((both differs A B).mark (front u.y)) ((both differs A B).mark (front u.z)) u.differ)
        where
          pick : ((both differs A B).mark (front u.y) ≡ IN) ⊎ ((both differs A B).mark (front u.z) ≡ IN) → Apart A B
          pick (inl e) = at u.y u.y_in u.y_off e
          pick (inr e) = at u.z u.z_in u.z_off e

      all : (m : Mark) → Uniform (both differs A B) box m → ((X : Point) → Inside box X → Off (planes A) X → Off (planes B) X → answer A X ≡ answer B X) ⊎ Apart A B
      all OUT u = inl (λ X i y z. differs_out (walk A (front X)) (walk B (front X)) (u.all X i (record { none = either (planes A) (planes B) {Q = λ q. at_point q X ≢ pos 0} y.none z.none })))
      all IN u = let y = clear_off box (planes A ++ planes B) origin (either (planes A) (planes B) {Q = Nonzero} (thick l).each (thick k).each) in inr (at y.0 (keeps_inside y.1 box_origin) y.2 (u.all y.0 (keeps_inside y.1 box_origin) y.2))

      by : ((m : Mark) × Uniform (both differs A B) box m) ⊎ Mixed (both differs A B) box → ((X : Point) → Inside box X → Off (planes A) X → Off (planes B) X → answer A X ≡ answer B X) ⊎ Apart A B
      by (inl m) = all m.0 m.1
      by (inr m) = inr (one m)

  -- so two normal forms that are not the same show such a point
  pub forms_apart : {r s : Tree} → NormalForm A r → NormalForm B s → r ≢ s → Apart A B
  forms_apart n m d = by same_or_apart
    where
      by : ((X : Point) → Inside box X → Off (planes A) X → Off (planes B) X → answer A X ≡ answer B X) ⊎ Apart A B → Apart A B
      by (inl f) = absurd (d ((same_form_same_space l k n m).1 f))
      by (inr a) = a
