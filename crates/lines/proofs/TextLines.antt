-- Lines written one after the other, and the text that they are.
--     wrote_more                     what is written after what was written
--     plane_line_more, node_line_more   one row more
--     planes_none, nodes_none, planes_wrote, nodes_wrote   no row, and one row more, as they are written
--     planes_all, entries_all        the rows of a flat table are the rows that it was made of
--     plane_each, node_each          what holds of each row holds of row i
--     written_solid, wrote_solid     head, planes, nodes, end
use mathlib.Core.Path.{◌≡◌, refl, sym, ap, subst, ◌∙◌}
use mathlib.Core.List.{List, [], ◌∷◌, ◌++◌, append_assoc, append-nil}
use Prim.Native.Nat.{ℕ, zero, suc, ◌+◌, ◌*◌, ◌≤◌, ◌<◌}
use native.Mathlib.Omega.{arith}
use lib.IntN.{ℤ, pos}
use lib.ListN.{length, get_or, set, take, length-append}
use lib.Seq.{sets, take-suc, take-length}
use Rattle.whole.specs.Lists.{Each}
use Rattle.scope.specs.Planes.{Plane}
use Rattle.scope.specs.Solids.{Entry, entry, tables}
use Rattle.scope.specs.Text.{Frame, head, plane, node_row, end, line, bytes, written, plane_frames, node_frames, solid_frames, text}
use Rattle.scope.specs.Answers.{flat_planes, flat_nodes}
use Rattle.theory.specs.Section.Corners.{each_at}
use Rattle.planes.specs.Values.{quad}
use Rattle.frames.specs.Promises.{Wrote}
use Rattle.tables.specs.Rows.{plane_at, entry_at, planes_to, entries_to}
use Rattle.tables.specs.declared.Solid.{Solid}
use Rattle.lines.specs.Writing.{plane_lines, node_lines, tables_in}

-- ---- one after the other

sets_append : (xs l : List ℕ) (i : ℕ) (ys : List ℕ) → sets (sets l i xs) (i + length xs) ys ≡ sets l i (xs ++ ys)
sets_append [] l i ys = ap (λ n. sets l n ys) {x = i + 0} {y = i} (omega arith)
sets_append (x ∷ xs) l i ys = ap (λ n. sets (sets (set l i x) (suc i) xs) n ys) {x = i + suc (length xs)} {y = suc i + length xs} (omega arith) ∙ sets_append xs (set l i x) (suc i) ys

pub wrote_more : {t u v : List ℕ} {at j k n m : ℕ} {a b : List ℕ} → Wrote t u at a n j → Wrote u v j b m k → Wrote t v at (a ++ b) (n + m) k
wrote_more {t} {u} {v} {at} {j} {k} {n} {m} {a} {b} p q = record {
  text = q.text ∙ ap (λ i. sets u i b) (p.place ∙ ap (λ i. at + i) (sym p.long)) ∙ ap (λ l. sets l (at + length a) b) p.text ∙ sets_append a t at b;
  long = length-append a b ∙ (λ i. p.long i + q.long i);
  place = q.place ∙ ap (λ i. i + m) p.place ∙ omega arith;
}

-- ---- rows

plane_frames_end : (ps : List Plane) (p : Plane) → written (plane_frames (ps ++ (p ∷ [])) []) ≡ written (plane_frames ps []) ++ line (bytes (plane p))
unfolding written
plane_frames_end [] p = append-nil (line (bytes (plane p)))
plane_frames_end (q ∷ ps) p = ap (λ l. line (bytes (plane q)) ++ l) (plane_frames_end ps p) ∙ sym (append_assoc (line (bytes (plane q))) (written (plane_frames ps [])) (line (bytes (plane p))))

node_frames_end : (es : List Entry) (e : Entry) → written (node_frames (es ++ (e ∷ [])) []) ≡ written (node_frames es []) ++ line (bytes (node_row e))
unfolding written
node_frames_end [] e = append-nil (line (bytes (node_row e)))
node_frames_end (d ∷ es) e = ap (λ l. line (bytes (node_row d)) ++ l) (node_frames_end es e) ∙ sym (append_assoc (line (bytes (node_row d))) (written (node_frames es [])) (line (bytes (node_row e))))

pub plane_line_more : (xs : List ℤ) (i : ℕ) → plane_lines xs (i + 1) ≡ plane_lines xs i ++ line (bytes (plane (plane_at xs i)))
unfolding planes_to
plane_line_more xs i = ap (plane_lines xs) {x = i + 1} {y = suc i} (omega arith) ∙ plane_frames_end (planes_to xs i) (plane_at xs i)

pub node_line_more : (ns : List ℕ) (i : ℕ) → node_lines ns (i + 1) ≡ node_lines ns i ++ line (bytes (node_row (entry_at ns i)))
unfolding entries_to
node_line_more ns i = ap (node_lines ns) {x = i + 1} {y = suc i} (omega arith) ∙ node_frames_end (entries_to ns i) (entry_at ns i)

pub planes_none : (xs : List ℤ) (t : List ℕ) (at : ℕ) → Wrote t t at (plane_lines xs 0) (23 * 0) at
unfolding planes_to written
planes_none xs t at = record { text = refl; long = refl; place = omega arith }

pub nodes_none : (ns t : List ℕ) (at : ℕ) → Wrote t t at (node_lines ns 0) (13 * 0) at
unfolding entries_to written
nodes_none ns t at = record { text = refl; long = refl; place = omega arith }

pub planes_wrote : (xs : List ℤ) (i : ℕ) {t u v : List ℕ} {at j k : ℕ} → Wrote t u at (plane_lines xs i) (23 * i) j → Wrote u v j (line (bytes (plane (plane_at xs i)))) 23 k → Wrote t v at (plane_lines xs (i + 1)) (23 * (i + 1)) k
planes_wrote xs i {t} {u} {v} {at} {j} {k} p q = let e : 23 * i + 23 ≡ 23 * (i + 1) = omega arith in subst (λ n. Wrote t v at (plane_lines xs (i + 1)) n k) e (subst (λ l. Wrote t v at l (23 * i + 23) k) (sym (plane_line_more xs i)) (wrote_more p q))

pub nodes_wrote : (ns : List ℕ) (i : ℕ) {t u v : List ℕ} {at j k : ℕ} → Wrote t u at (node_lines ns i) (13 * i) j → Wrote u v j (line (bytes (node_row (entry_at ns i)))) 13 k → Wrote t v at (node_lines ns (i + 1)) (13 * (i + 1)) k
nodes_wrote ns i {t} {u} {v} {at} {j} {k} p q = let e : 13 * i + 13 ≡ 13 * (i + 1) = omega arith in subst (λ n. Wrote t v at (node_lines ns (i + 1)) n k) e (subst (λ l. Wrote t v at l (13 * i + 13) k) (sym (node_line_more ns i)) (wrote_more p q))

-- ---- the text

planes_then : (ps : List Plane) (fs : List Frame) → written (plane_frames ps fs) ≡ written (plane_frames ps []) ++ written fs
unfolding written
planes_then [] fs = refl
planes_then (p ∷ ps) fs = ap (λ l. line (bytes (plane p)) ++ l) (planes_then ps fs) ∙ sym (append_assoc (line (bytes (plane p))) (written (plane_frames ps [])) (written fs))

nodes_then : (es : List Entry) (fs : List Frame) → written (node_frames es fs) ≡ written (node_frames es []) ++ written fs
unfolding written
nodes_then [] fs = refl
nodes_then (e ∷ es) fs = ap (λ l. line (bytes (node_row e)) ++ l) (nodes_then es fs) ∙ sym (append_assoc (line (bytes (node_row e))) (written (node_frames es [])) (written fs))

pub written_solid : (ps : List Plane) (es : List Entry) (r : ℕ) → line (bytes (head (length ps) (length es) r)) ++ written (plane_frames ps []) ++ written (node_frames es []) ++ line (bytes end) ≡ text (tables ps es r)
unfolding text solid_frames written
written_solid ps es r =
    append_assoc (h ++ written (plane_frames ps [])) (written (node_frames es [])) (line (bytes end)) ∙ append_assoc h (written (plane_frames ps [])) (written (node_frames es []) ++ line (bytes end))
    ∙ ap (λ l. h ++ l) (ap (λ l. written (plane_frames ps []) ++ l) (ap (λ l. written (node_frames es []) ++ l) (sym (append-nil (line (bytes end)))) ∙ sym (nodes_then es (end ∷ []))) ∙ sym (planes_then ps (node_frames es (end ∷ []))))
  where
    h : List ℕ
    h = line (bytes (head (length ps) (length es) r))

planes_to_count : (xs : List ℤ) (n : ℕ) → length (planes_to xs n) ≡ n
unfolding planes_to
planes_to_count xs zero = refl
planes_to_count xs (suc n) = length-append (planes_to xs n) (plane_at xs n ∷ []) ∙ omega (arith, planes_to_count xs n)

entries_to_count : (ns : List ℕ) (m : ℕ) → length (entries_to ns m) ≡ m
unfolding entries_to
entries_to_count ns zero = refl
entries_to_count ns (suc m) = length-append (entries_to ns m) (entry_at ns m ∷ []) ∙ omega (arith, entries_to_count ns m)

pub wrote_solid : (xs : List ℤ) (ns : List ℕ) (s : Solid) (t : List ℕ) {u : List ℕ} {k n : ℕ} → Wrote t u 0 (line (bytes (head s.planes s.nodes s.root)) ++ plane_lines xs s.planes ++ node_lines ns s.nodes ++ line (bytes end)) n k → u ≡ sets t 0 (text (tables_in xs ns s))
wrote_solid xs ns s t w = w.text ∙ ap (sets t 0) ((λ i. line (bytes (head (sym (planes_to_count xs s.planes) i) (sym (entries_to_count ns s.nodes) i) s.root)) ++ plane_lines xs s.planes ++ node_lines ns s.nodes ++ line (bytes end)) ∙ written_solid (planes_to xs s.planes) (entries_to ns s.nodes) s.root)

-- ---- the rows of a flat table

plane_flat : (ps : List Plane) (i : ℕ) (d : Plane) → i < length ps → plane_at (flat_planes ps) i ≡ get_or ps i d
unfolding flat_planes
plane_flat [] i d l = absurd (omega (arith, l))
plane_flat (p ∷ ps) zero d l = refl
plane_flat (p ∷ ps) (suc i) d l = (λ t. quad (on (4 * suc i) (4 * i) (omega arith) t) (on (4 * suc i + 1) (4 * i + 1) (omega arith) t) (on (4 * suc i + 2) (4 * i + 2) (omega arith) t) (on (4 * suc i + 3) (4 * i + 3) (omega arith) t)) ∙ plane_flat ps i d (omega (arith, l))
  where
    on : (j k : ℕ) → j ≡ suc (suc (suc (suc k))) → get_or (flat_planes (p ∷ ps)) j (pos 0) ≡ get_or (flat_planes ps) k (pos 0)
    on j k e = ap (λ i. get_or (flat_planes (p ∷ ps)) i (pos 0)) e

node_flat : (es : List Entry) (i : ℕ) (d : Entry) → i < length es → entry_at (flat_nodes es) i ≡ get_or es i d
unfolding flat_nodes
node_flat [] i d l = absurd (omega (arith, l))
node_flat (entry p f b ∷ es) zero d l = refl
node_flat (entry p f b ∷ es) (suc i) d l = (λ t. entry (on (3 * suc i) (3 * i) (omega arith) t) (on (3 * suc i + 1) (3 * i + 1) (omega arith) t) (on (3 * suc i + 2) (3 * i + 2) (omega arith) t)) ∙ node_flat es i d (omega (arith, l))
  where
    on : (j k : ℕ) → j ≡ suc (suc (suc k)) → get_or (flat_nodes (entry p f b ∷ es)) j 0 ≡ get_or (flat_nodes es) k 0
    on j k e = ap (λ i. get_or (flat_nodes (entry p f b ∷ es)) i 0) e

planes_first : (ps : List Plane) (i : ℕ) → i ≤ length ps → planes_to (flat_planes ps) i ≡ take i ps
unfolding planes_to
planes_first ps zero l = refl
planes_first ps (suc i) l = (λ t. planes_first ps i (omega (arith, l)) t ++ (plane_flat ps i (quad (pos 0) (pos 0) (pos 0) (pos 0)) (omega (arith, l)) t ∷ [])) ∙ sym (take-suc ps i (quad (pos 0) (pos 0) (pos 0) (pos 0)) (omega (arith, l)))

nodes_first : (es : List Entry) (i : ℕ) → i ≤ length es → entries_to (flat_nodes es) i ≡ take i es
unfolding entries_to
nodes_first es zero l = refl
nodes_first es (suc i) l = (λ t. nodes_first es i (omega (arith, l)) t ++ (node_flat es i (entry 0 0 0) (omega (arith, l)) t ∷ [])) ∙ sym (take-suc es i (entry 0 0 0) (omega (arith, l)))

pub planes_all : (ps : List Plane) → planes_to (flat_planes ps) (length ps) ≡ ps
planes_all ps = planes_first ps (length ps) (omega arith) ∙ take-length ps

pub entries_all : (es : List Entry) → entries_to (flat_nodes es) (length es) ≡ es
entries_all es = nodes_first es (length es) (omega arith) ∙ take-length es

-- what holds of each row holds of row i
pub plane_each : {Q : Plane → Type 0} (ps : List Plane) → Each Q ps → (i : ℕ) → i < length ps → Q (plane_at (flat_planes ps) i)
plane_each {Q} ps h i l = subst Q (sym (plane_flat ps i (quad (pos 0) (pos 0) (pos 0) (pos 0)) l)) (each_at (quad (pos 0) (pos 0) (pos 0) (pos 0)) h i l)

pub node_each : {Q : Entry → Type 0} (es : List Entry) → Each Q es → (i : ℕ) → i < length es → Q (entry_at (flat_nodes es) i)
node_each {Q} es h i l = subst Q (sym (node_flat es i (entry 0 0 0) l)) (each_at (entry 0 0 0) h i l)
