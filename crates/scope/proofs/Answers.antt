-- Answers: the orders of refusal that a call's own definition decides, what is left in lent tables, and document 01's example of the merge program.
use mathlib.Core.Path.{◌≡◌, refl, sym, ap, subst, ◌∙◌}
use mathlib.Core.Bool.{Bool, true, false, not, cond}
use mathlib.Core.List.{List, [], ◌∷◌}
use Prim.Native.Nat.{ℕ, zero, suc, ◌+◌}
use native.Mathlib.Omega.{arith}
use lib.Dec.{T, leb, eqb}
use lib.ListN.{length, replicate}
use lib.IntN.{pos}
use Rattle.whole.specs.Tests.{◌and◌, and_make, and_split, lt_true, lt_false}
use Rattle.whole.specs.Gcd.{euclid, gcd}
use Rattle.scope.specs.Limits.{most_work, most_planes, most_nodes, stated}
use Rattle.scope.specs.Planes.{Plane, Point, at, in_range, lead, common, fault, half_fault, coincident, before, equal, point_in_range}
use Rattle.scope.specs.Solids.{IN, OUT, Tree, leaf, node, rows, code, planes, post, insert_by, insert, ascending, place, tables_of, marked, reply}
use Rattle.scope.specs.Cells.{intersection, box}
use Rattle.scope.specs.Section.{clip, clips, section}
use Rattle.scope.specs.Text.{digit, hex, pairs, hexes, lines, content, line, word, high, low, long, high_word, low_word, signed, unsigned, plane_of, frame, frames, bytes, written, refusal_line, solid_frames, text}
use Rattle.scope.specs.Judging.{Rooms, take_child, add_row, uses, all_used, root_ok, judge_head, step, read_solid, judge, plane_table, node_table, Lent, judge_lent, order, known, opening, judge_merge}
use Rattle.scope.specs.Answers.{Answer, given, refused, filled, left, plane_answer, read_answer, write_answer, section_by, quads, section_answer, point_ok, PointAnswer, enough_work, told, bad_point, tree_answer, merged, operand_rooms, printed, MergeText, merged_text}
use Rattle.scope.proofs.Kit.{pl, m, every, same_numbers, chars_from, chars}
use Rattle.scope.proofs.Cells.{px, py, A, B, a_and_b}

-- 0 for an answer
abbrev number : {X : Type 0} → Answer X → ℕ
number (given a) = 0
number (refused n) = n

-- the side x > 0, lent
abbrev side : Lent
side = record { planes = pos 1 ∷ pos 0 ∷ pos 0 ∷ pos 0 ∷ []; nodes = 0 ∷ 65535 ∷ 65534 ∷ []; root = 0 }

-- ---- lent tables: entries, then zeros

the_tables : T (same_numbers (filled 0 5 (7 ∷ 8 ∷ [])) (7 ∷ 8 ∷ 0 ∷ 0 ∷ 0 ∷ []) and same_numbers (left 0 3 (λ (a : List ℕ). a) (given (7 ∷ 8 ∷ []))) (7 ∷ 8 ∷ 0 ∷ [])
    and same_numbers (left 0 3 (λ (a : List ℕ). a) (refused 4)) (0 ∷ 0 ∷ 0 ∷ []))
unfolding same_numbers
the_tables = tt

-- ---- the length stated for a work table is within its limit (N.8)

stated_within : T (leb stated most_work)
stated_within = tt

-- ---- a short work table comes first

the_readings : T (eqb (number (read_answer 4095 (record { plane_rows = 1; node_rows = 1 }) (replicate 32769 48))) 8 and eqb (number (read_answer 4096 (record { plane_rows = 1; node_rows = 1 }) (replicate 32769 48))) 3
    and eqb (number (read_answer 4096 (record { plane_rows = 0; node_rows = 0 }) (chars "01000000FFFE\n04\n"))) 0)
unfolding chars_from digit pairs lines content word frame frames uses all_used root_ok judge_head step read_solid judge read_answer
the_readings = tt

-- ---- points

points : List (Point × Bool)
points = (pl (pos 29999) (pos 0) (pos 0) (pos 1), true) ∷ (pl (pos 30000) (pos 0) (pos 0) (pos 1), false) ∷ (pl (m 29999) (pos 0) (pos 0) (pos 1), true) ∷ (pl (m 30000) (pos 0) (pos 0) (pos 1), false)
    ∷ (pl (pos 0) (pos 30000) (pos 1) (pos 1), false) ∷ (pl (pos 0) (pos 1) (m 30000) (pos 1), false) ∷ (pl (pos 1) (pos 0) (pos 0) (pos 0), false) ∷ (pl (pos 1) (pos 0) (pos 0) (pos 10000000001), false)
    ∷ (pl (pos 59999) (pos 0) (m 59999) (pos 2), true) ∷ []

abbrev agree : Bool → Bool → Bool
agree true b = b
agree false b = not b

the_points : T (every (λ c. agree c.1 (point_ok c.0)) points)
unfolding every points at box point_in_range
the_points = tt

-- at x = 29,999 the side x > 0 answers IN; at x = 30,000 it is 10
at_29999 : PointAnswer 4096 side (pl (pos 29999) (pos 0) (pos 0) (pos 1)) (given (marked IN))
unfolding at box point_in_range euclid gcd common in_range lead fault before equal rows code post insert ascending place tables_of take_child add_row uses all_used root_ok judge_head step read_solid plane_table node_table judge_lent reply
at_29999 = enough_work tt (told A refl tt)

at_30000 : PointAnswer 4096 side (pl (pos 30000) (pos 0) (pos 0) (pos 1)) (refused 10)
unfolding at box point_in_range euclid gcd common in_range lead fault before equal rows code post insert ascending place tables_of take_child add_row uses all_used root_ok judge_head step read_solid plane_table node_table judge_lent
at_30000 = enough_work tt (bad_point A refl (λ t. t))

-- ---- sections: 8 for the work table, 2, 3, 4, Nothing, 8

abbrev many : ℕ → Plane → List Plane
many n h = replicate n h

sections : List (ℕ × Plane × List Plane × ℕ)
sections = (4, px, [], 0) ∷ (3, px, [], 8) ∷ (0, pl (pos 1) (pos 0) (pos 0) (m 30000), [], 0) ∷ (0, px, pl (pos 0) (pos 0) (pos 0) (pos 1) ∷ [], 4) ∷ (0, pl (pos 0) (pos 0) (pos 0) (pos 1), [], 4)
    ∷ (0, px, px ∷ pl (pos 0) (pos 0) (pos 1001) (pos 1) ∷ [], 4) ∷ (0, px, many 129 (pl (pos 0) (pos 0) (pos 0) (pos 0)), 3) ∷ (0, px, many 128 (pl (pos 0) (pos 0) (pos 0) (pos 0)), 4) ∷ []

the_sections : T (every (λ c. eqb (number (section_by c.0 c.1 c.2)) c.3) sections
    and eqb (number (section_answer 4095 16 px (pos 1 ∷ []))) 8 and eqb (number (section_answer 4096 16 px (pos 1 ∷ []))) 2 and eqb (number (section_answer 4096 15 px [])) 8 and eqb (number (section_answer 4096 16 px [])) 0)
unfolding every sections in_range lead half_fault coincident clip clips section section_by quads section_answer
the_sections = tt

-- ---- a writing of 52 bytes; an answer's tree by its own counts

the_writings : T (eqb (number (write_answer 4096 52 side)) 0 and eqb (number (write_answer 4096 51 side)) 8 and eqb (number (write_answer 4095 52 side)) 8 and eqb (number (write_answer 4096 0 (record { planes = []; nodes = []; root = 7 }))) 6)
unfolding euclid gcd common in_range lead fault before rows take_child add_row uses all_used root_ok judge_head step read_solid plane_table node_table judge_lent hex hexes line high low high_word low_word unsigned bytes written solid_frames text write_answer
the_writings = tt

the_planes : T (eqb (number (plane_answer px)) 0 and eqb (number (plane_answer (pl (pos 2) (pos 0) (pos 0) (pos 0)))) 4)
unfolding euclid gcd common in_range lead fault plane_answer
the_planes = tt

-- a chain of n planes x = 0, x = -1, ..
chain : ℕ → Tree
chain zero = leaf OUT
chain (suc n) = node (pl (pos 1) (pos 0) (pos 0) (pos n)) (leaf IN) (chain n)

trees : List (ℕ × ℕ × ℕ × ℕ)
trees = (64, 64, 64, 0) ∷ (65, 64, 64, 8) ∷ (65, 128, 65, 9) ∷ (65, 128, 64, 8) ∷ (3, 2, 3, 8) ∷ (0, 0, 0, 0) ∷ []

-- a chain of n planes has n rows, and its plane list is those planes from the last on: each is put after those below it
from : ℕ → ℕ → List Plane
from a zero = []
from a (suc k) = pl (pos 1) (pos 0) (pos 0) (pos a) ∷ from (suc a) k

from_length : (a k : ℕ) → length (from a k) ≡ k
unfolding from
from_length a zero = refl
from_length a (suc k) = ap suc (from_length (suc a) k)

put_last : (k a n : ℕ) → a + k ≡ n → insert (pl (pos 1) (pos 0) (pos 0) (pos n)) (from a k) ≡ from a (suc k)
unfolding before insert from
put_last zero a n e = let f : n ≡ a = omega (arith, e) in ap (λ m. pl (pos 1) (pos 0) (pos 0) (pos m) ∷ []) f
put_last (suc k) a n e =
    λ i. insert_by (lt_false n a (omega (arith, e)) i) (lt_true a n (omega (arith, e)) i) (pl (pos 1) (pos 0) (pos 0) (pos n)) (pl (pos 1) (pos 0) (pos 0) (pos a)) (from (suc a) k) (put_last k (suc a) n (omega (arith, e)) i)

chain_list : (n : ℕ) → ascending (planes (chain n)) ≡ from 0 n
unfolding chain ascending from
chain_list zero = refl
chain_list (suc n) = ap (insert (pl (pos 1) (pos 0) (pos 0) (pos n))) (chain_list n) ∙ put_last n 0 n (omega arith)

chain_planes : (n : ℕ) → length (ascending (planes (chain n))) ≡ n
chain_planes n = ap length (chain_list n) ∙ from_length 0 n

chain_rows : (n : ℕ) → rows (chain n) ≡ n
unfolding chain rows
chain_rows zero = refl
chain_rows (suc n) = omega (arith, chain_rows n)

-- the answer for a tree of r rows and l planes; for a chain it goes by n alone
abbrev answer_by : Rooms → Tree → ℕ → ℕ → ℕ → Bool
answer_by s t m r l = eqb (number (cond (leb r most_nodes and leb r s.node_rows and leb l s.plane_rows) (cond (leb l most_planes) (given (tables_of t)) (refused 9)) (refused 8))) m

chain_said : (s : Rooms) (n m : ℕ) → T (answer_by s (chain n) m n n) → T (eqb (number (tree_answer s (chain n))) m)
chain_said s n m t = subst (λ (k : ℕ × ℕ). T (answer_by s (chain n) m k.0 k.1)) (λ i. (sym (chain_rows n) i, sym (chain_planes n) i)) t

every_of : {A : Type 0} (f g : A → Bool) → ((c : A) → T (f c) → T (g c)) → (l : List A) → T (every f l) → T (every g l)
unfolding every
every_of f g h [] t = tt
every_of f g h (c ∷ l) t = and_make (g c) (every g l) (h c (and_split (f c) (every f l) t).0) (every_of f g h l (and_split (f c) (every f l) t).1)

the_trees : T (every (λ c. eqb (number (tree_answer (record { plane_rows = c.1; node_rows = c.2 }) (chain c.0))) c.3) trees)
unfolding every trees
the_trees =
    every_of (λ (c : ℕ × ℕ × ℕ × ℕ). answer_by (record { plane_rows = c.1; node_rows = c.2 }) (chain c.0) c.3 c.0 c.0)
    (λ (c : ℕ × ℕ × ℕ × ℕ). eqb (number (tree_answer (record { plane_rows = c.1; node_rows = c.2 }) (chain c.0))) c.3)
    (λ c. chain_said (record { plane_rows = c.1; node_rows = c.2 }) c.0 c.3) trees tt

-- 1,000 rows are given, 1,001 are 8 though more are lent
deep : ℕ → Tree
deep zero = leaf OUT
deep (suc n) = node px (leaf IN) (deep n)

the_rows : T (eqb (number (tree_answer (record { plane_rows = 1; node_rows = 2000 }) (deep 1000))) 0 and eqb (number (tree_answer (record { plane_rows = 1; node_rows = 2000 }) (deep 1001))) 8)
unfolding deep rows before insert ascending
the_rows = tt

-- ---- the merge program (X.13)

abbrev example : List ℕ
example = chars "0502\n010100010000\n0200010000000000000000\n0300FFFFFFFE\n04\n010100010000\n0200000001000000000000\n0300FFFFFFFE\n04\n"

the_input : judge_merge operand_rooms example ≡ order 2 (tables_of A) (tables_of B)
unfolding chars_from digit pairs lines content word long signed plane_of frame frames euclid gcd common in_range lead fault before equal rows code post insert ascending place tables_of take_child add_row uses all_used root_ok judge_head step read_solid known opening judge_merge
the_input = refl

the_output : T (same_numbers (printed (tree_answer operand_rooms (node px (node py (leaf IN) (leaf OUT)) (leaf OUT)))) (chars "010200020001\n0200000001000000000000\n0200010000000000000000\n0300FFFFFFFE\n03010000FFFE\n04\n"))
unfolding same_numbers chars_from before equal rows code post insert ascending place tables_of hex hexes line high low high_word low_word unsigned bytes written solid_frames text
the_output = tt

the_example : MergeText example (printed (tree_answer (record { plane_rows = 128; node_rows = 1000 }) (node px (node py (leaf IN) (leaf OUT)) (leaf OUT))))
the_example = merged_text the_input (merged intersection A B _ refl refl refl a_and_b)

the_refusal : T (same_numbers (printed (refused 10)) (chars "0F0A\n"))
unfolding same_numbers chars_from hex hexes line refusal_line
the_refusal = tt
