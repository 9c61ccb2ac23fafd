-- What can be written, and how long it is: the numbers of a lawful solid fit their bytes, and its text is within the limit.
--     Writable, writable, solid_fits      each number fits its bytes: of lawful tables, and so each of their frames
--     written_cons, solid_length, text_length   2 characters a byte and LF: 13 for the head, 23 for a plane, 13 for a node, 3 for the end
use Rattle.std.specs.Prelude.{◌≡◌, refl, List, [], ◌∷◌, ℕ, zero, suc, ◌+◌, ◌*◌, ◌≤◌, ◌<◌, ℤ, pos, negsuc, T, eqb, length}
use Rattle.std.proofs.Common.{sym, subst, arith, eqb→eq, length-append}
use Rattle.whole.specs.Tests.{or_split}
use Rattle.whole.specs.Bounds.{Within}
use Rattle.whole.specs.Lists.{Each, Each.none, Each.◌and◌, each_app}
use Rattle.whole.specs.Members.{◌∈◌, here, there, in_left, in_right, elem_small, in_each}
use Rattle.scope.specs.Limits.{most_planes, most_nodes}
use Rattle.scope.specs.Planes.{Plane, Lawful}
use Rattle.scope.specs.Solids.{IN, OUT, Tree, leaf, node, rows, planes, code, post, number, place, Entry, entry, entries, ascending, Tables, tables, tables_of, LawfulTree}
use Rattle.scope.specs.Text.{hexes, line, Frame, head, plane, node_row, end, bytes, written, plane_frames, node_frames, solid_frames, text}
use Rattle.scope.specs.Judging.{root_ok}
use Rattle.theory.specs.Text.Build.{tree_of}
use Rattle.theory.specs.Planes.Lists.{ascending_same, place_at}
use Rattle.theory.specs.Planes.Faults.{ranged}
use Rattle.theory.specs.Text.Numbers.{Half}
use Rattle.theory.specs.Text.Frames.{Fits, fits_head, fits_plane, fits_node, fits_end}
use Rattle.theory.specs.Text.Stacks.{last_row, entries_node}
use Rattle.theory.specs.Text.Trees.{LawfulTables, tree_lawful, tables_tree}

-- ---- what can be written

abbrev pub PlaneFits : Plane → Type 0
PlaneFits p = Fits (plane p)

abbrev pub NodeFits : Entry → Type 0
NodeFits e = Fits (node_row e)

-- a, b, c in two bytes, d in four; plane numbers in one byte, codes in two; the planes counted in one byte, the nodes in two
pub record WritableParts (ps : List Plane) (es : List Entry) (r : ℕ) : Type 0 where
  pub counts : Fits (head (length ps) (length es) r)
  pub each_plane : Each PlaneFits ps
  pub each_node : Each NodeFits es

abbrev pub Writable : Tables → Type 0
Writable (tables ps es r) = WritableParts ps es r

planes_fit : {ps : List Plane} {fs : List Frame} → Each PlaneFits ps → Each Fits fs → Each Fits (plane_frames ps fs)
planes_fit none a = a
planes_fit (h and hs) a = h and planes_fit hs a

nodes_fit : {es : List Entry} {fs : List Frame} → Each NodeFits es → Each Fits fs → Each Fits (node_frames es fs)
nodes_fit none a = a
nodes_fit (h and hs) a = h and nodes_fit hs a

-- so each of its frames fits
pub solid_fits : (a : Tables) (fs : List Frame) → Writable a → Each Fits fs → Each Fits (solid_frames a fs)
unfolding solid_frames
solid_fits (tables ps es r) fs h a = h.counts and planes_fit h.each_plane (nodes_fit h.each_node (fits_end and a))

-- ---- lawful tables can be written

half : {B : ℕ} (h : ℕ) (z : ℤ) → Within z B → B < h → Half h z
half h (pos n) w l = omega (arith, w.within)
half h (negsuc n) w l = omega (arith, w.within)

plane_fits : (p : Plane) → Lawful p → Fits (plane p)
plane_fits p l = let r = ranged p l.range in fits_plane (half 32768 p.x r.a (omega arith)) (half 32768 p.y r.b (omega arith)) (half 32768 p.z r.c (omega arith)) (half 2147483648 p.w r.d (omega arith))

code_small : (n : ℕ) (t : Tree) → n + rows t ≤ most_nodes → number (code n t) < 65536
unfolding code rows
code_small n (leaf IN) h = omega arith
code_small n (leaf OUT) h = omega arith
code_small n (node p f b) h = omega arith

place_small : {p : Plane} {ps : List Plane} → length ps ≤ most_planes → p ∈ ps → place ps p < 256
place_small {p} {ps} h m = omega (arith, elem_small ps (place ps p) (place_at m))

rows_fit : (ps : List Plane) (t : Tree) (n : ℕ) → length ps ≤ most_planes → n + rows t ≤ most_nodes → ((p : Plane) → p ∈ planes t → p ∈ ps) → Each NodeFits (entries ps (post n t))
unfolding post rows
rows_fit ps (leaf m) n h k l = none
rows_fit ps (node p f b) n h k l =
    let last : NodeFits (last_row ps n p f b) = fits_node (place_small h (l p (here refl))) (code_small n f (omega arith)) (code_small (n + rows f) b (omega arith)) in
    let all = each_app (each_app (rows_fit ps f n h (omega arith) (λ q m. l q (there (in_left (planes b) m)))) (rows_fit ps b (n + rows f) h (omega arith) (λ q m. l q (there (in_right (planes f) m))))) (last and none) in
    subst (λ i. Each NodeFits i) (sym (entries_node ps n p f b)) all

root_small : (n r : ℕ) → n ≤ most_nodes → T (root_ok n r) → r < 65536
unfolding root_ok
root_small zero r h t = or_split (eqb r 65535) (eqb r 65534) t (λ h. omega (arith, eqb→eq r 65535 h)) (λ h. omega (arith, eqb→eq r 65534 h))
root_small (suc n) r h t = omega (arith, eqb→eq r n t)

head_fits : (n m r : ℕ) → n ≤ most_planes → m ≤ most_nodes → T (root_ok m r) → Fits (head n m r)
head_fits n m r h k l = let a : n < 256 = omega arith in let b : m < 65536 = omega arith in fits_head a b (root_small m r k l)

tree_writable : (t : Tree) → LawfulTree t → LawfulTables (tables_of t) → Writable (tables_of t)
unfolding tables_of
tree_writable t l k = record {
  counts = head_fits (length (ascending (planes t))) (length (entries (ascending (planes t)) (post 0 t))) (number (code 0 t)) k.few_planes k.few_rows k.root;
  each_plane = in_each (ascending (planes t)) (λ p m. plane_fits p (k.each p m));
  each_node = rows_fit (ascending (planes t)) t 0 k.few_planes (omega (arith, l.few_rows)) (ascending_same (planes t)).to;
}

-- lawful tables can be written
pub writable : (a : Tables) → LawfulTables a → Writable a
writable a h = subst Writable (tables_tree a h) (tree_writable (tree_of a) (tree_lawful a h) (subst LawfulTables (sym (tables_tree a h)) h))

-- ---- sizes

hexes_length : (bs : List ℕ) → length (hexes bs) ≡ 2 * length bs
unfolding hexes
hexes_length [] = refl
hexes_length (b ∷ bs) = omega (arith, hexes_length bs)

line_length : (bs : List ℕ) → length (line bs) ≡ 2 * length bs + 1
unfolding line
line_length bs = simp length-append (omega (arith, hexes_length bs))

-- 2 characters a byte, and LF
pub written_cons : (f : Frame) (fs : List Frame) → length (written (f ∷ fs)) ≡ 2 * length (bytes f) + 1 + length (written fs)
unfolding written
written_cons f fs = simp (length-append, line_length)

plane_bytes : (p : Plane) → length (bytes (plane p)) ≡ 11
unfolding bytes
plane_bytes p = refl

node_bytes : (e : Entry) → length (bytes (node_row e)) ≡ 6
unfolding bytes
node_bytes (entry n f b) = refl

head_bytes : (n m r : ℕ) → length (bytes (head n m r)) ≡ 6
unfolding bytes
head_bytes n m r = refl

end_bytes : length (bytes end) ≡ 1
unfolding bytes
end_bytes = refl

planes_length : (ps : List Plane) (fs : List Frame) → length (written (plane_frames ps fs)) ≡ 23 * length ps + length (written fs)
planes_length [] fs = omega arith
planes_length (p ∷ ps) fs = omega (arith, written_cons (plane p) (plane_frames ps fs), plane_bytes p, planes_length ps fs)

nodes_length : (es : List Entry) (fs : List Frame) → length (written (node_frames es fs)) ≡ 13 * length es + length (written fs)
nodes_length [] fs = omega arith
nodes_length (e ∷ es) fs = omega (arith, written_cons (node_row e) (node_frames es fs), node_bytes e, nodes_length es fs)

-- the frames of a solid, before others
pub solid_length : (ps : List Plane) (es : List Entry) (r : ℕ) (fs : List Frame) → length (written (solid_frames (tables ps es r) fs)) ≡ 16 + 23 * length ps + 13 * length es + length (written fs)
unfolding solid_frames
solid_length ps es r fs = omega (arith, written_cons (head (length ps) (length es) r) (plane_frames ps (node_frames es (end ∷ fs))), head_bytes (length ps) (length es) r, planes_length ps (node_frames es (end ∷ fs)), nodes_length es (end ∷ fs), written_cons end fs, end_bytes)

-- the largest is 14,488 bytes
pub text_length : (a : Tables) → LawfulTables a → length (text a) ≤ 14488
unfolding text written
text_length (tables ps es r) h = omega (arith, solid_length ps es r [], h.few_planes, h.few_rows)
