-- The answers: document 01's answer in each case that the code's tests lead to, and what is left in the table of bounds.
use mathlib.Core.Path.{◌≡◌, refl, sym, ap, ◌∙◌}
use mathlib.Core.Bool.{true, false}
use mathlib.Core.List.{List, [], ◌∷◌, ◌++◌, map}
use mathlib.Core.Option.{none, some}
use Prim.Native.Nat.{ℕ, zero, suc, ◌+◌, ◌-◌, ◌*◌, ◌/◌, ◌%◌, ◌≤◌, ◌<◌}
use native.Mathlib.Omega.{arith}
use lib.Dec.{leb}
use lib.IntN.{ℤ, pos}
use lib.ListN.{length, get_or, replicate, length-append}
use lib.Seq.{sets}
use borrow.Author.Tests.{le-leb, lt-leb}
use Rattle.whole.specs.Tests.{and_true}
use Rattle.whole.specs.Lists.{map_length}
use Rattle.scope.specs.Planes.{Plane, half_fault}
use Rattle.scope.specs.Section as scope
use Rattle.scope.specs.Answers.{Answer, given, refused, no_fault, no_faults, flat_planes, quads, quads_then, section_answer, section_by, bounds_by, left, filled}
use Rattle.theory.specs.Section.{index}
use Rattle.planes.specs.Values.{quad, plane}
use Rattle.planes.specs.declared.Plane as struct
use Rattle.std.specs.Prelude.{Option, None, Some, Result, Ok, Err}
use Rattle.sections.specs.Values.{section_of}
use Rattle.polygons.specs.Tables.{row, look, corner_at, indices, rows_to}
use Rattle.polygons.specs.Asked.{Region, Polygon}
use Rattle.sections.specs.Asked.{WriteIn}
use Rattle.sections.specs.Follows.{half_in}
use Rattle.sections.specs.Promises.{answer_to, SectionTold, Drawn}
use Rattle.polygons.proofs.Clips.{indices_length}
use Rattle.sections.proofs.Rows.{lawful_support, lawful_row, flat_length, sets_zeros}
use Rattle.polygons.proofs.Starts.{polygon_nothing, between}

-- ---- rows of four numbers

module _ (a b c d : ℤ) (l : List ℤ) where
  abbrev five : List ℤ
  five = a ∷ b ∷ c ∷ d ∷ l

  row_shift : (n : ℕ) → row five 4 (suc n) ≡ row l 4 n
  unfolding row
  row_shift n =
      let e : suc n * 4 ≡ suc (suc (suc (suc (n * 4)))) = omega arith in
      let f : suc n * 4 + 1 ≡ suc (suc (suc (suc (n * 4 + 1)))) = omega arith in
      let g : suc n * 4 + 2 ≡ suc (suc (suc (suc (n * 4 + 2)))) = omega arith in
      let h : suc n * 4 + 3 ≡ suc (suc (suc (suc (n * 4 + 3)))) = omega arith in
      λ i. quad (get_or five (e i) (pos 0)) (get_or five (f i) (pos 0)) (get_or five (g i) (pos 0)) (get_or five (h i) (pos 0))

  rows_shift : (n : ℕ) → rows_to five 4 (suc n) ≡ quad a b c d ∷ rows_to l 4 n
  unfolding rows_to row
  rows_shift zero = refl
  rows_shift (suc n) = let e = rows_shift n in let f = row_shift n in λ i. e i ++ f i ∷ []

pub quads_rows : (hs : List ℤ) (n : ℕ) → length hs ≡ 4 * n → quads hs ≡ some (rows_to hs 4 n)
unfolding quads rows_to
quads_rows [] zero e = refl
quads_rows [] (suc n) e = absurd (omega arith)
quads_rows (a ∷ []) n e = absurd (omega arith)
quads_rows (a ∷ b ∷ []) n e = absurd (omega arith)
quads_rows (a ∷ b ∷ c ∷ []) n e = absurd (omega arith)
quads_rows (a ∷ b ∷ c ∷ d ∷ l) zero e = absurd (omega arith)
quads_rows (a ∷ b ∷ c ∷ d ∷ l) (suc n) e = rw (quads_rows l n (omega arith)) (ap some (sym (rows_shift a b c d l n)))

pub quads_none : (hs : List ℤ) (n r : ℕ) → length hs ≡ 4 * n + r → 0 < r → r < 4 → quads hs ≡ none
unfolding quads
quads_none [] n r e l m = absurd (omega arith)
quads_none (a ∷ []) n r e l m = refl
quads_none (a ∷ b ∷ []) n r e l m = refl
quads_none (a ∷ b ∷ c ∷ []) n r e l m = refl
quads_none (a ∷ b ∷ c ∷ d ∷ l) zero r e u m = absurd (omega arith)
quads_none (a ∷ b ∷ c ∷ d ∷ l) (suc n) r e u m = rw (quads_none l n r (omega arith) u m)

-- ---- the answer in each case

module _ (work n : ℕ) (s : Plane) (hs : List ℤ) where
  abbrev ans : Answer (List Plane)
  ans = section_answer work n s hs

  pub answer_short : work < 4096 → ans ≡ refused 8
  unfolding section_answer
  answer_short l = let e = lt-leb 4096 work l in rw e

  module _ (w : 4096 ≤ work) where
    enough : ans ≡ quads_then (quads hs) (section_by (n / 4) s)
    unfolding section_answer
    enough = let e = le-leb 4096 work w in rw e

    pub answer_odd : (length hs % 4 ≡ 0 → ⊥) → ans ≡ refused 2
    answer_odd f = enough ∙ ap (λ q. quads_then q (section_by (n / 4) s)) (quads_none hs (length hs / 4) (length hs % 4) (omega arith) (by (length hs % 4) refl) (omega arith))
      where
        by : (r : ℕ) → length hs % 4 ≡ r → 0 < length hs % 4
        by zero e = absurd (f e)
        by (suc r) e = omega arith

    module _ (e : length hs % 4 ≡ 0) where
      abbrev rows : ℕ
      rows = length hs / 4

      listed : ans ≡ section_by (n / 4) s (rows_to hs 4 rows)
      listed = enough ∙ ap (λ q. quads_then q (section_by (n / 4) s)) (quads_rows hs rows (omega arith))

      rows_count : (m : ℕ) → length (rows_to hs 4 m) ≡ m
      unfolding rows_to
      rows_count zero = refl
      rows_count (suc m) = length-append (rows_to hs 4 m) (row hs 4 m ∷ []) ∙ omega (arith, rows_count m)

      pub answer_many : 128 < rows → ans ≡ refused 3
      unfolding section_by
      answer_many l = listed ∙ (let f = lt-leb (length (rows_to hs 4 rows)) 128 (omega (arith, rows_count rows)) in rw f)

      module _ (l : rows ≤ 128) where
        counted : leb (length (rows_to hs 4 rows)) 128 ≡ true
        counted = le-leb (length (rows_to hs 4 rows)) 128 (omega (arith, rows_count rows))

        pub answer_faulty : no_faults (s ∷ rows_to hs 4 rows) ≡ false → ans ≡ refused 4
        unfolding section_by
        answer_faulty f = listed ∙ rw (counted, f)

        pub answer_bounds : no_faults (s ∷ rows_to hs 4 rows) ≡ true → ans ≡ bounds_by (n / 4) (scope.section s (rows_to hs 4 rows))
        unfolding section_by
        answer_bounds f = listed ∙ rw (counted, f)

-- ---- its bounds

pub by_nothing : (room : ℕ) (bs : List Plane) → bs ≡ [] → bounds_by room bs ≡ given []
by_nothing room bs e = rw e

pub by_refused : (room : ℕ) (bs : List Plane) → room < length bs → bounds_by room bs ≡ refused 8
by_refused room [] l = absurd (omega arith)
by_refused room (b ∷ bs) l = let e = lt-leb (length (b ∷ bs)) room l in rw e

pub by_given : (room : ℕ) (bs : List Plane) → length bs ≤ room → bounds_by room bs ≡ given bs
by_given room [] l = refl
by_given room (b ∷ bs) l = let e = le-leb (length (b ∷ bs)) room l in rw e

section_some : (bs : List Plane) (n : ℕ) → length bs ≡ n → (n ≡ 0 → ⊥) → Ok (Some n) ≡ section_of (given bs)
section_some [] n e f = absurd (f (sym e))
section_some (b ∷ bs) n e f = ap (λ n. Ok (Some n)) (sym e)

module _ (s : struct.Plane) (halves bounds work : List ℤ) where
  zeros : bounds ≡ replicate (length bounds) (pos 0) → bounds ≡ filled (pos 0) (length bounds) []
  zeros z = let e : length bounds ≡ length bounds - 0 = omega arith in z ∙ ap (λ n. replicate n (pos 0)) e

  pub drawn_refused : (m : ℕ) → bounds ≡ replicate (length bounds) (pos 0) → answer_to s halves bounds work ≡ refused m → Drawn s halves bounds bounds work (Err m)
  drawn_refused m z e = record { answer = ap section_of (sym e); bounds_left = zeros z ∙ ap (left (pos 0) (length bounds) flat_planes) (sym e) }

  pub drawn_nothing : bounds ≡ replicate (length bounds) (pos 0) → answer_to s halves bounds work ≡ given [] → Drawn s halves bounds bounds work (Ok None)
  unfolding flat_planes
  drawn_nothing z e = record { answer = ap section_of (sym e); bounds_left = zeros z ∙ ap (left (pos 0) (length bounds) flat_planes) (sym e) }

  pub drawn_bounds : (bounds' : List ℤ) (bs : List Plane) (n : ℕ) → bounds ≡ replicate (length bounds) (pos 0) → answer_to s halves bounds work ≡ given bs → length bs ≡ n → (n ≡ 0 → ⊥) → 4 * n ≤ length bounds
      → bounds' ≡ sets bounds 0 (flat_planes bs) → Drawn s halves bounds bounds' work (Ok (Some n))
  drawn_bounds bounds' bs n z e l f m w = record {
    answer = section_some bs n l f ∙ ap section_of (sym e);
    bounds_left = w ∙ ap (λ b. sets b 0 (flat_planes bs)) z ∙ sets_zeros (flat_planes bs) (length bounds) (omega (arith, flat_length bs)) ∙ ap (left (pos 0) (length bounds) flat_planes) (sym e);
  }

-- ---- what the loops are given

pub region_rows : (s : Plane) (hs : List ℤ) (rows : ℕ) → rows ≤ 128 → rows * 4 ≤ length hs → no_faults (s ∷ rows_to hs 4 rows) ≡ true → Region s hs 4 (6 + rows)
region_rows s hs rows l m e =
    let p = half_in s (lawful_support s hs 4 rows e) in
    let q = (and_true (no_fault (half_fault s)) (no_faults (rows_to hs 4 rows)) e).1 in
    record {
      support = p.0;
      normal = p.1;
      box = omega arith;
      few = omega arith;
      found = λ k b c. omega arith;
      ranged = λ k b. between hs 4 rows k (λ i u. (half_in (row hs 4 i) (lawful_row s hs 4 rows q i u)).0) b;
    }

-- ---- what the polygon at the end says

module _ (s : Plane) (plane : ℕ → Plane) (top : ℕ) (hs : List Plane) (t : List ℤ) (n : ℕ) (p : Polygon s plane top (scope.rest (scope.way s) ++ hs) t n) where
  pub end_section : map plane (indices t n) ≡ scope.section s hs
  unfolding scope.section
  end_section = p.from

  pub end_length : length (scope.section s hs) ≡ n
  end_length = ap length (sym end_section) ∙ map_length plane (indices t n) ∙ indices_length t n

  pub end_nothing : n ≡ 0 → scope.section s hs ≡ []
  unfolding scope.section
  end_nothing e = polygon_nothing s plane p e

pub write_in : (s : Plane) (hs : List ℤ) (rows : ℕ) (gs : List Plane) (t : List ℤ) (n : ℕ) (bounds : List ℤ) → Region s hs 4 (6 + rows) → Polygon s (look hs 4) (6 + rows) gs t n → 4 * n ≤ length bounds → WriteIn hs 4 t n bounds
write_in s hs rows gs t n bounds r p l = record {
  corner_in = λ i m. record { room = omega (arith, p.room); index_small = omega (arith, p.below i m, r.few) };
  found = λ i m. r.found (index (corner_at t i)) (p.below i m);
  room = l;
}

-- ---- the whole call

pub cleared : (b b' : List ℤ) → b' ≡ replicate (length b) (pos 0) → length b' ≡ length b → b' ≡ replicate (length b') (pos 0)
cleared b b' e l = e ∙ ap (λ n. replicate n (pos 0)) (sym l)

-- the tables keep their lengths, so the answer by the lengths at the end is that by those at the start
pub section_told : (s : struct.Plane) (halves bounds zeros : List ℤ) {bounds' : List ℤ} (work worked work' : List ℤ) {r : Result (Option ℕ) ℕ} → length zeros ≡ length bounds → Drawn s halves zeros bounds' work r
    → length worked ≡ length work → work' ≡ replicate (length worked) (pos 0) → SectionTold s halves bounds bounds' work work' r
section_told s halves bounds zeros work worked work' l d k e =
    let f : length worked ≡ length work - 0 = omega arith in
    record {
      answer = d.answer ∙ ap (λ n. section_of (section_answer (length work) n (plane s) halves)) l;
      bounds_left = d.bounds_left ∙ ap (λ n. left (pos 0) n flat_planes (section_answer (length work) n (plane s) halves)) l;
      work_left = e ∙ ap (λ n. replicate n (pos 0)) f;
    }
