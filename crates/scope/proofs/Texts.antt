-- Texts: document 01's example, read and written again, and refusals with number and line.
use mathlib.Core.Path.{◌≡◌, refl, sym, ap, subst}
use mathlib.Core.Bool.{Bool, true, false, cond}
use mathlib.Core.List.{List, [], ◌∷◌}
use Prim.Native.Nat.{ℕ, zero, suc}
use Prim.Native.String.{String}
use lib.Dec.{T, leb, eqb}
use lib.ListN.{length, replicate, length-replicate}
use lib.IntN.{ℤ, pos}
use Rattle.whole.specs.Tests.{◌and◌}
use Rattle.whole.specs.Gcd.{euclid, gcd}
use Rattle.scope.specs.Limits.{most_text}
use Rattle.scope.specs.Planes.{Plane, in_range, lead, common, fault, before, equal}
use Rattle.scope.specs.Solids.{IN, OUT, Tree, leaf, node, rows, code, post, insert, ascending, place, Tables, tables, tables_of}
use Rattle.scope.specs.Cells.{union, intersection, difference}
use Rattle.scope.specs.Text.{torn, put, bad, each, digit, hex, pairs, hexes, lines, content, line, word, high, low, long, high_word, low_word, signed, unsigned, operation, plane_of, frame, frames, bytes, written, refusal_line, solid_frames, text, text_of, operation_code}
use Rattle.scope.specs.Judging.{Rooms, fresh, finish, take_child, add_row, uses, all_used, root_ok, Step, go, done, stop, judge_head, step, read_solid, Verdict, accepted, refusal, judge, plane_table, node_table, judge_lent, MergeInput, order, order_refused, known, opening, judge_merge}
use Rattle.scope.proofs.Kit.{pl, every, same_planes, same_numbers, chars_from, chars}

-- ---- read, and written again

abbrev read_back : MergeInput → List ℕ → Bool
read_back (order o a b) t = same_numbers (written (operation o ∷ solid_frames a (solid_frames b []))) t
read_back (order_refused n l) t = false

abbrev stands_for : Verdict → Tree → List ℕ → Bool
stands_for (accepted a) t s = same_numbers (text a) s and same_numbers (text_of t) s
stands_for (refusal n l) t s = false

example : Bool
example =
    read_back (judge_merge (record { plane_rows = 128; node_rows = 1000 }) (chars "0502\n010100010000\n0200010000000000000000\n0300FFFFFFFE\n04\n010100010000\n0200000001000000000000\n0300FFFFFFFE\n04\n"))
    (chars "0502\n010100010000\n0200010000000000000000\n0300FFFFFFFE\n04\n010100010000\n0200000001000000000000\n0300FFFFFFFE\n04\n") and
    stands_for (judge (record { plane_rows = 2; node_rows = 2 }) (chars "010200020001\n0200000001000000000000\n0200010000000000000000\n0300FFFFFFFE\n03010000FFFE\n04\n"))
    (node (pl (pos 1) (pos 0) (pos 0) (pos 0)) (node (pl (pos 0) (pos 1) (pos 0) (pos 0)) (leaf IN) (leaf OUT)) (leaf OUT))
    (chars "010200020001\n0200000001000000000000\n0200010000000000000000\n0300FFFFFFFE\n03010000FFFE\n04\n") and
    stands_for (judge (record { plane_rows = 3; node_rows = 3 }) (chars "010300030002\n0200000000000100000000\n0200000001000000000000\n0200010000000000000000\n0301FFFFFFFE\n0300FFFFFFFE\n030200000001\n04\n"))
    (node (pl (pos 1) (pos 0) (pos 0) (pos 0)) (node (pl (pos 0) (pos 1) (pos 0) (pos 0)) (leaf IN) (leaf OUT)) (node (pl (pos 0) (pos 0) (pos 1) (pos 0)) (leaf IN) (leaf OUT)))
    (chars "010300030002\n0200000000000100000000\n0200000001000000000000\n0200010000000000000000\n0301FFFFFFFE\n0300FFFFFFFE\n030200000001\n04\n") and
    stands_for (judge (record { plane_rows = 0; node_rows = 0 }) (chars "01000000FFFE\n04\n")) (leaf OUT) (chars "01000000FFFE\n04\n") and
    same_numbers (refusal_line 10) (chars "0F0A\n")

the_example : T example
unfolding example same_numbers chars_from rows code post digit hex pairs hexes lines content line word high low long high_word low_word signed unsigned plane_of frame frames bytes written refusal_line euclid gcd common in_range lead fault before equal solid_frames text insert ascending place tables_of text_of take_child add_row uses all_used root_ok judge_head step read_solid judge known opening judge_merge
the_example = tt

-- ---- refusals of a text in rooms of one plane row and two node rows: number, line

abbrev says : Verdict → ℕ → ℕ → Bool
says (accepted a) n l = false
says (refusal k i) n l = eqb k n and eqb i l

abbrev says_order : MergeInput → ℕ → ℕ → Bool
says_order (order o a b) n l = false
says_order (order_refused k i) n l = eqb k n and eqb i l

refused_texts : List (String × ℕ × ℕ)
refused_texts = ("", 2, 1) ∷ ("\n", 1, 1) ∷ ("01000000FFFE", 1, 1) ∷ ("01000000FFFE\n", 2, 2) ∷ ("01000000FFFE\n04", 1, 2) ∷ ("01000000fffe\n04\n", 1, 1) ∷ ("01000000FFF\n04\n", 1, 1) ∷ ("0100 000FFFE\n", 1, 1)
    ∷ ("01000000FFFE\n04\n04\n", 2, 3) ∷ ("01000000FFFE\n04\n0G\n", 1, 3) ∷ ("01000000FFFE\n0400\n", 2, 2) ∷ ("0501\n01000000FFFE\n04\n", 2, 1) ∷ ("0F01\n", 2, 1)
    -- head: 3, then 6, then 8
    ∷ ("014100020001\n", 3, 1) ∷ ("010103E903E8\n", 3, 1) ∷ ("01000000FFFD\n", 6, 1) ∷ ("010200020000\n", 6, 1) ∷ ("010200020001\n", 8, 1) ∷ ("01010003FFFF\n", 6, 1) ∷ ("010100030002\n", 8, 1)
    -- both a count over the limit and a bad root: 3
    ∷ ("01410002FFFF\n", 3, 1)
    -- planes: 4, then 5
    ∷ ("010100010000\n0203E90000000000000000\n", 4, 2) ∷ ("010100010000\n0200000000000000000001\n", 4, 2) ∷ ("010100010000\n0200020004000600000008\n", 4, 2) ∷ ("010100010000\n02FFFF0000000000000005\n", 4, 2)
    -- rows: 6
    ∷ ("010100010000\n0200010000000000000000\n0301FFFFFFFE\n", 6, 3) ∷ ("010100010000\n0200010000000000000000\n0300FFFDFFFE\n", 6, 3) ∷ ("010100010000\n0200010000000000000000\n0300FFFF0000\n", 6, 3)
    ∷ ("010100020001\n0200010000000000000000\n0300FFFFFFFE\n030000000000\n", 6, 4)
    -- the end: 5, then 6
    ∷ ("01010000FFFE\n0200010000000000000000\n04\n", 5, 3) ∷ ("010100020001\n0200010000000000000000\n0300FFFFFFFE\n0300FFFFFFFE\n04\n", 6, 5) ∷ []

the_refusals : T (every (λ c. says (judge (record { plane_rows = 1; node_rows = 2 }) (chars c.0)) c.1 c.2) refused_texts)
unfolding every refused_texts chars_from rows digit pairs lines content word long signed plane_of frame frames euclid gcd common in_range lead fault before take_child add_row uses all_used root_ok judge_head step read_solid judge
the_refusals = tt

refused_orders : List (String × ℕ × ℕ)
refused_orders = ("0504\n", 7, 1) ∷ ("05\n", 2, 1) ∷ ("0500\n01000000FFFE\n", 7, 1) ∷ ("0503\n", 2, 2) ∷ ("0501\n01000000FFFE\n04\n", 2, 4) ∷ ("0501\n01000000FFFE\n04\n01000000FFFE\n04\n\n", 1, 6)
    -- both an unused plane and a row outside: 5; planes not ascending: 5; a plane twice: 5
    ∷ ("0501\n010200020001\n0200000001000000000000\n0200010000000000000000\n0300FFFFFFFE\n0300FFFFFFFE\n04\n", 5, 7) ∷ ("0501\n010200020001\n0200010000000000000000\n0200000001000000000000\n", 5, 4)
    ∷ ("0501\n010200020001\n0200010000000000000000\n0200010000000000000000\n", 5, 4)
    -- not lawful and not ascending: 4
    ∷ ("0501\n010200020001\n0200010000000000000000\n0200000002000000000000\n", 4, 4) ∷ []

the_orders : T (every (λ c. says_order (judge_merge (record { plane_rows = 128; node_rows = 1000 }) (chars c.0)) c.1 c.2) refused_orders)
unfolding every refused_orders chars_from rows digit pairs lines content word long signed plane_of frame frames euclid gcd common in_range lead fault before take_child add_row uses all_used root_ok judge_head step read_solid known opening judge_merge
the_orders = tt

-- ---- tables lent directly: planes, nodes, root; number and line

refused_tables : List (List ℤ × List ℕ × ℕ × ℕ × ℕ)
refused_tables = ([], [], 65533, 6, 1) ∷ (pos 1 ∷ [], [], 65534, 2, 2) ∷ (pos 1 ∷ pos 0 ∷ pos 0 ∷ pos 0 ∷ pos 1 ∷ [], 0 ∷ 65535 ∷ 65534 ∷ [], 0, 2, 3) ∷ (pos 1 ∷ pos 0 ∷ pos 0 ∷ pos 0 ∷ [], 0 ∷ 65535 ∷ 65534 ∷ 9 ∷ 9 ∷ [], 0, 2, 4)
    ∷ (pos 40000 ∷ pos 0 ∷ pos 0 ∷ pos 0 ∷ [], 0 ∷ 65535 ∷ 65534 ∷ [], 0, 4, 2) ∷ (pos 1 ∷ pos 0 ∷ pos 0 ∷ pos 0 ∷ [], 300 ∷ 65535 ∷ 65534 ∷ [], 0, 6, 3) ∷ (pos 1 ∷ pos 0 ∷ pos 0 ∷ pos 0 ∷ [], 0 ∷ 70000 ∷ 65534 ∷ [], 0, 6, 3)
    ∷ (pos 1 ∷ pos 0 ∷ pos 0 ∷ pos 0 ∷ [], [], 65534, 5, 3) ∷ []

the_tables : T (every (λ c. says (judge_lent (record { planes = c.0; nodes = c.1; root = c.2 })) c.3 c.4) refused_tables)
unfolding every refused_tables rows euclid gcd common in_range lead fault before take_child add_row uses all_used root_ok judge_head step read_solid plane_table node_table judge_lent
the_tables = tt

-- ---- limits

-- 32,768 bytes are read line by line, one more is 3 at line 0
long_text : ℕ → List ℕ
long_text n = replicate n 48

-- such a text is one torn line, whatever its length, so no example reads it character by character
torn_lines : (n : ℕ) → lines (long_text (suc n)) ≡ torn (long_text (suc n)) ∷ []
unfolding long_text lines
torn_lines zero = refl
torn_lines (suc n) = ap (put 48) (torn_lines n)

torn_frames : (n : ℕ) → frames (long_text (suc n)) ≡ bad ∷ []
unfolding frames content
torn_frames n = ap each (torn_lines n)

long_length : (n : ℕ) → length (long_text n) ≡ n
unfolding long_text
long_length n = length-replicate n 48

long_judged : (s : Rooms) (n : ℕ) → judge s (long_text (suc n)) ≡ cond (leb (suc n) most_text) (finish (read_solid s fresh 1 (bad ∷ []))) (refusal 3 0)
unfolding judge
long_judged s n = λ i. cond (leb (long_length (suc n) i) most_text) (finish (read_solid s fresh 1 (torn_frames n i))) (refusal 3 0)

long_order : (s : Rooms) (n : ℕ) → judge_merge s (long_text (suc n)) ≡ cond (leb (suc n) most_text) (opening s (bad ∷ [])) (order_refused 3 0)
unfolding judge_merge
long_order s n = λ i. cond (leb (long_length (suc n) i) most_text) (opening s (torn_frames n i)) (order_refused 3 0)

the_lengths : T (says (judge (record { plane_rows = 1; node_rows = 2 }) (long_text 32768)) 1 1 and says (judge (record { plane_rows = 1; node_rows = 2 }) (long_text 32769)) 3 0
    and says_order (judge_merge (record { plane_rows = 1; node_rows = 2 }) (long_text 32768)) 1 1 and says_order (judge_merge (record { plane_rows = 1; node_rows = 2 }) (long_text 32769)) 3 0)
unfolding step read_solid opening
the_lengths =
    let s : Rooms = record { plane_rows = 1; node_rows = 2 } in
    subst (λ (v : Verdict × Verdict × MergeInput × MergeInput). T (says v.0 1 1 and says v.1 3 0 and says_order v.2 1 1 and says_order v.3 3 0))
    (λ i. (sym (long_judged s 32767) i, sym (long_judged s 32768) i, sym (long_order s 32767) i, sym (long_order s 32768) i)) tt

abbrev goes_on : Step → Bool
goes_on (go s) = true
goes_on (done a) = false
goes_on (stop n) = false

-- 64 planes and 1,000 nodes at the head
the_counts : T (goes_on (judge_head (record { plane_rows = 64; node_rows = 1000 }) 64 1000 999))
unfolding root_ok judge_head
the_counts = tt

-- a plane that two nodes use is listed once, and in order
abbrev listed : Tables → List Plane
listed (tables ps es r) = ps

the_list : T (same_planes (listed (tables_of (node (pl (pos 1) (pos 0) (pos 0) (pos 0)) (node (pl (pos 0) (pos 1) (pos 0) (pos 0)) (leaf IN) (leaf OUT)) (node (pl (pos 0) (pos 1) (pos 0) (pos 0)) (leaf IN) (leaf OUT)))))
    (pl (pos 0) (pos 1) (pos 0) (pos 0) ∷ pl (pos 1) (pos 0) (pos 0) (pos 0) ∷ []))
unfolding same_planes before equal insert ascending tables_of
the_list = tt

the_operations : T (eqb (operation_code union) 1 and eqb (operation_code intersection) 2 and eqb (operation_code difference) 3)
the_operations = tt
